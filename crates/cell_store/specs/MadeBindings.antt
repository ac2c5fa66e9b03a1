-- The bindings that were made since a mark.
use Rattle.std.specs.Prelude.{◌≡◌, ◌⊎◌, ℕ, ◌<◌, ◌≤◌, List, [], ◌∷◌, ◌++◌, map, length, drop}
use Rattle.std.specs.List.{Contains}
use Rattle.std.specs.List.Sorted.{IsStrictlyIncreasing}
use Rattle.au_term.specs.Term.{VarTerm, var_bound}
use Rattle.au_model.specs.Terms.Each.{Each}
use Rattle.au_model.specs.Terms.Substitutions.{Substitution, value_of, resolve}
use Rattle.binding_array.specs.Represented.{variable_cell, IsFalling}
use Rattle.binding_array.specs.declared.cell.BindingCell.{BindingCell}
use Rattle.binding_array.specs.declared.cell.BindingCell.TheVariants.{Free, Var, Int, Atom, Compound}
use Rattle.cell_store.specs.StoreView.{Moment, StoreView, substitution, meaning, IsValueIn, IsComposition}
use Rattle.cell_store.specs.declared.mark.Mark.{Mark}

-- variables with what they are bound to
abbrev pub Bindings : Type 0
Bindings = List (ℕ × BindingCell)

-- in front of others, where it is bound
abbrev pub with_binding : BindingCell → ℕ → Bindings → Bindings
with_binding Free v bs = bs
with_binding (Var w) v bs = (v, Var w) ∷ bs
with_binding (Int z) v bs = (v, Int z) ∷ bs
with_binding (Atom a) v bs = (v, Atom a) ∷ bs
with_binding (Compound at base) v bs = (v, Compound at base) ∷ bs

-- of these variables
abbrev pub bindings_of : List BindingCell → List ℕ → Bindings
bindings_of cells [] = []
bindings_of cells (v ∷ vs) = with_binding (variable_cell cells v) v (bindings_of cells vs)

-- with the terms that the values stand for
abbrev pub substitution_of : StoreView → Bindings → Substitution
substitution_of st bs = map (λ b. (b.0, meaning st b.1)) bs

-- each variable once
abbrev pub AreRising : Bindings → Type 0
AreRising [] = Unit {0}
AreRising (b ∷ bs) = Each (λ d. b.0 < d.0) bs × AreRising bs

-- one of a trail, or a new one
abbrev pub IsSince : List ℕ → ℕ → ℕ → ℕ → Type 0
IsSince trail below count v = Contains trail v ⊎ ((below ≤ v) × (v < count))

-- the bindings of those that came on a trail after a mark, and of the new ones
pub record AreSinceMark (m : Mark) (trail : List ℕ) (cells : List BindingCell) (bs : Bindings) : Type 0 where
  pub variables : List ℕ
  pub rising : IsStrictlyIncreasing variables
  pub all : (v : ℕ) → IsSince (drop m.trail trail) m.variables (length cells) v → Contains variables v
  pub others : (v : ℕ) → Contains variables v → IsSince (drop m.trail trail) m.variables (length cells) v
  pub are : bs ≡ bindings_of cells variables

-- variables that were free then, each once, with values that make what each variable stands for now of what it stood for; none is
-- bound to a younger variable, and there are as many variables as then or more
pub record AreMadeSince (before : Moment) (st : StoreView) (bs : Bindings) : Type 0 where
  pub later : before.next ≤ st.now.next
  pub rising : AreRising bs
  pub free : Each (λ b. value_of before.bound b.0 ≡ VarTerm b.0) bs
  pub there : Each (λ b. IsValueIn st b.1) bs
  pub falling : Each (λ b. IsFalling b.0 b.1) bs
  pub made : IsComposition before.bound (substitution_of st bs) (substitution st)

-- what a variable was bound to, as it was given
pub record IsBindingOf (st : StoreView) (v : ℕ) (c : BindingCell) : Type 0 where
  pub there : IsValueIn st c
  pub stands : value_of (substitution st) v ≡ meaning st c
  pub falling : IsFalling v c

-- those of a trail that are below a number
pub record AreOlderOf (trail : List ℕ) (below : ℕ) (vs : List ℕ) : Type 0 where
  pub all : (v : ℕ) → Contains trail v → v < below → Contains vs v
  pub others : Each (λ v. Contains trail v × (v < below)) vs

-- variables that were there and free at a moment, among them all that were bound since; what each variable stood for then stands for
-- what it stands for now, and has no variable that came later
pub record AreOlderSince (before : Moment) (st : StoreView) (vs : List ℕ) : Type 0 where
  pub later : before.next ≤ st.now.next
  pub older : Each (λ v. v < before.next) vs
  pub free : Each (λ v. value_of before.bound v ≡ VarTerm v) vs
  pub all : (v : ℕ) → v < before.next → value_of before.bound v ≡ VarTerm v → (value_of (substitution st) v ≡ VarTerm v) ⊎ Contains vs v
  pub unbound : (v : ℕ) → before.next ≤ v → value_of before.bound v ≡ VarTerm v
  pub below : (v : ℕ) → v < before.next → var_bound (value_of before.bound v) ≤ before.next
  pub further : (v : ℕ) → value_of (substitution st) v ≡ resolve (substitution st) (value_of before.bound v)

-- at the mark over so many others
abbrev pub AreOlderSinceMark : StoreView → ℕ → List ℕ → Type 0
AreOlderSinceMark st mark vs = (before after : List Moment) (moment : Moment) → st.marks ≡ before ++ moment ∷ after → mark ≡ length before
    → AreOlderSince moment st vs

-- the next variable number there
abbrev pub IsNextAtMark : StoreView → ℕ → ℕ → Type 0
IsNextAtMark st mark next = (before after : List Moment) (moment : Moment) → st.marks ≡ before ++ moment ∷ after → mark ≡ length before
    → next ≡ moment.next
