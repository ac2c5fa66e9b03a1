-- The older variables that were bound since a mark.
use Rattle.std.proofs.Common.{◌≡◌, ◌⊎◌, inl, inr, ℕ, ◌+◌, ◌<◌, ◌≤◌, List, [], ◌∷◌, ◌++◌, get_or, length, take, drop, Option, None, Some, MatchOption, refl, sym, subst, arith}
use Rattle.std.specs.List.{Contains}
use Rattle.std.proofs.lemmas.List.{take_all, take_more, length-take-le}
use Rattle.std.proofs.lemmas.List.Elements.{Contains-append_left, Contains-push, Contains-push_cases, Contains-get_or}
use Rattle.au_term.specs.Term.{VarTerm}
use Rattle.au_model.specs.Terms.Each.{Each}
use Rattle.au_model.specs.Terms.Substitutions.{value_of}
use Rattle.au_model.proofs.EachLemmas.{each-append, each-more}
use Rattle.binding_array.specs.Represented.{variable_cell, IsBoundCell}
use Rattle.binding_array.specs.declared.cell.BindingCell.{BindingCell}
use Rattle.binding_array.specs.declared.cell.BindingCell.TheVariants.{Free}
use Rattle.cell_store.specs.HeapView.{heap_text, cut_heap}
use Rattle.cell_store.specs.MadeBindings.{AreOlderOf, AreOlderSince, IsBindingOf, IsSince}
use Rattle.cell_store.specs.StoreView.{IsConsistent, IsConsistentAt, moment_at, view_of}
use Rattle.cell_store.specs.Undoing.{Parts, IsWithin, freed, undone}
use Rattle.cell_store.specs.declared.mark.Mark.{Mark}
use Rattle.cell_store.proofs.CellMeaningLemmas.{is_free, is_bound_cell, free_or_bound, free_stands, bound_stands, has_value}
use Rattle.cell_store.proofs.MadeBindingLemmas.{bound_since, free_since, composed}
use Rattle.cell_store.proofs.SubstitutionLemmas.{is_new, is_below, is_free_cell}
use Rattle.cell_store.proofs.UndoingLemmas.{length-freed}

-- variables of a list that are below a number, as far as the list was gone through
abbrev pub HasOlder : List ℕ → ℕ → ℕ → List ℕ → Type 0
HasOlder trail below i older = (v : ℕ) → Contains (take i trail) v → v < below → Contains older v

abbrev pub AreAllOlder : List ℕ → ℕ → List ℕ → Type 0
AreAllOlder trail below older = Each (λ v. Contains trail v × (v < below)) older

cases : (trail : List ℕ) (i v : ℕ) → i < length trail → Contains (take (i + 1) trail) v → Contains (take i trail) v ⊎ (get_or trail i 0 ≡ v)
cases trail i v lt h = Contains-push_cases (take i trail) (get_or trail i 0) v (subst (λ xs. Contains xs v) (take_more trail i 0 lt) h)

pub older_kept : (trail : List ℕ) (below i : ℕ) (older : List ℕ) → i < length trail → below ≤ get_or trail i 0 → HasOlder trail below i older
    → HasOlder trail below (i + 1) older
older_kept trail below i older lt le h v c b = elim (cases trail i v lt c) [ inl k ↦ h v k b | inr e ↦ absurd (omega (arith, le, e, b)) ]

pub older_added : (trail : List ℕ) (below i : ℕ) (older : List ℕ) → i < length trail → HasOlder trail below i older
    → HasOlder trail below (i + 1) (older ++ get_or trail i 0 ∷ [])
older_added trail below i older lt h v c b = elim (cases trail i v lt c) [
  | inl k ↦ Contains-append_left older (get_or trail i 0 ∷ []) v (h v k b)
  | inr e ↦ subst (Contains (older ++ get_or trail i 0 ∷ [])) e (Contains-push older (get_or trail i 0))
]

pub added_of : (trail : List ℕ) (below i : ℕ) (older : List ℕ) → i < length trail → get_or trail i 0 < below → AreAllOlder trail below older
    → AreAllOlder trail below (older ++ get_or trail i 0 ∷ [])
added_of trail below i older lt b h = each-append (λ v. Contains trail v × (v < below)) older (get_or trail i 0 ∷ []) h ((Contains-get_or trail i 0 lt, b), tt)

pub taken_all : (trail : List ℕ) (i v : ℕ) → length trail ≤ i → Contains trail v → Contains (take i trail) v
taken_all trail i v le h = subst (λ xs. Contains xs v) (sym (take_all i trail le)) h

-- what the variables of a store were bound to
pub binding_of : (p : Parts) → IsConsistent p → (v : ℕ) → IsBoundCell (variable_cell p.cells v) → IsBindingOf (view_of p) v (variable_cell p.cells v)
binding_of p k v b = record {
  there = has_value (heap_text p.heap) p.cells (view_of p).now.bound k.now.falling k.now.values k.now.represents v b;
  stands = bound_stands (heap_text p.heap) (view_of p).now.bound v p.cells k.now.represents b;
  falling = k.now.falling v;
}

pub binding_found : (p : Parts) → IsConsistent p → (v : ℕ) (found : Option BindingCell)
    → MatchOption found (variable_cell p.cells v ≡ Free) (λ c. (variable_cell p.cells v ≡ c) × IsBoundCell c)
    → MatchOption found (value_of (view_of p).now.bound v ≡ VarTerm v) (IsBindingOf (view_of p) v)
binding_found p k v None h = free_stands (heap_text p.heap) (view_of p).now.bound v p.cells k.now.represents h
binding_found p k v (Some c) h = subst (IsBindingOf (view_of p) v) h.0 (binding_of p k v (subst IsBoundCell (sym h.0) h.1))

-- at a mark
module _ (p : Parts) (k : IsConsistent p) (m : Mark) (old : IsConsistentAt p m) (w : IsWithin p m) where
  abbrev older_cells : List BindingCell
  older_cells = undone m p.trail p.cells

  pub long : length older_cells ≡ m.variables
  long = let l = w.older.variables in omega (arith, l, length-take-le m.variables (freed (drop m.trail p.trail) p.cells) (omega (arith, l, length-freed (drop m.trail p.trail) p.cells)))

  pub older_since : (vs : List ℕ) → AreOlderOf (drop m.trail p.trail) m.variables vs → AreOlderSince (moment_at p m) (view_of p) vs
  older_since vs of = record {
    later = let e = long in let l = w.older.variables in omega (arith, e, l);
    older = each-more (λ v. Contains (drop m.trail p.trail) v × (v < m.variables)) (λ v. v < length older_cells) (λ v h. let b = h.1 in let e = long in omega (arith, b, e)) vs of.others;
    free = each-more (λ v. Contains (drop m.trail p.trail) v × (v < m.variables)) (λ v. value_of (moment_at p m).bound v ≡ VarTerm v)
        (λ v h. free_stands (heap_text (cut_heap m.made p.heap)) (moment_at p m).bound v older_cells old.represents (free_since m p.trail p.cells w.older.variables k.trail v (inl h.0))) vs of.others;
    all = λ v lt free. elim (free_or_bound (variable_cell p.cells v)) [
      | is_free f ↦ inl (free_stands (heap_text p.heap) (view_of p).now.bound v p.cells k.now.represents f)
      | is_bound_cell b ↦ inr (of.all v (since_older v (let e = long in omega (arith, lt, e)) (bound_since m p.trail p.cells w.older.variables k.trail v (is_free_cell (heap_text (cut_heap m.made p.heap)) older_cells old v free) b)) (let e = long in omega (arith, lt, e)))
    ];
    unbound = λ v le. is_new (heap_text (cut_heap m.made p.heap)) older_cells v old le;
    below = λ v lt. is_below (heap_text (cut_heap m.made p.heap)) older_cells old v lt;
    further = λ v. sym (composed p k m old w (view_of p).now.bound (λ u e. refl) v);
  }
    where
      since_older : (v : ℕ) → v < m.variables → IsSince (drop m.trail p.trail) m.variables (length p.cells) v → Contains (drop m.trail p.trail) v
      since_older v lt (inl c) = c
      since_older v lt (inr h) = let le : m.variables ≤ v = h.0 in absurd (omega (arith, lt, le))
