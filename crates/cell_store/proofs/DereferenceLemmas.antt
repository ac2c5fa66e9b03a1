-- Where chains of variables lead.
use Rattle.std.proofs.Common.{◌≡◌, ◌<◌, ℕ, length, sym, ap, ◌∙◌, subst}
use Rattle.au_model.specs.Terms.Substitutions.{Substitution, value_of, resolve}
use Rattle.clause_compile.specs.Places.{CodeView}
use Rattle.binding_array.specs.Represented.{cell_term, Represents, IsFollowed, IsStored}
use Rattle.binding_array.specs.declared.cell.BindingCell.{BindingCell}
use Rattle.binding_array.specs.declared.cell.BindingCell.TheVariants.{Free, Var, Int, Atom, Compound}
use Rattle.cell_store.specs.HeapView.{heap_text}
use Rattle.cell_store.specs.Values.{IsCell}
use Rattle.cell_store.specs.CellMeanings.{substitution_in}
use Rattle.cell_store.specs.Undoing.{Parts}
use Rattle.cell_store.specs.StoreView.{view_of, IsConsistent, IsUnbound, IsValueIn, IsDereferenced}
use Rattle.cell_store.proofs.CellMeaningLemmas.{free_stands}

module _ (p : Parts) (k : IsConsistent p) where
  unbound : (c : BindingCell) → IsFollowed p.cells c → IsUnbound (substitution_in (heap_text p.heap) p.cells) c
  unbound Free h = absurd h
  unbound (Var v) h = free_stands (heap_text p.heap) (substitution_in (heap_text p.heap) p.cells) v p.cells k.now.represents h
  unbound (Int z) h = tt
  unbound (Atom a) h = tt
  unbound (Compound at base) h = tt

  there : (c : BindingCell) → IsStored p.cells c → IsValueIn (view_of p) c
  there Free h = absurd h
  there (Var v) h = h
  there (Int z) h = tt
  there (Atom a) h = subst (IsCell (heap_text p.heap) (length p.cells)) h.is (k.now.values h.variable)
  there (Compound at base) h = subst (IsCell (heap_text p.heap) (length p.cells)) h.is (k.now.values h.variable)

  pub followed : (value reached : BindingCell) (v : ℕ) → value ≡ Var v → IsFollowed p.cells reached → IsStored p.cells reached → ((code : CodeView) (s : Substitution) → Represents code p.cells s → value_of s v ≡ resolve s (cell_term code reached)) → IsDereferenced (view_of p) value reached
  followed value reached v e f s h = record {
    same = sym (h (heap_text p.heap) (substitution_in (heap_text p.heap) p.cells) k.now.represents) ∙ ap (λ c. resolve (substitution_in (heap_text p.heap) p.cells) (cell_term (heap_text p.heap) c)) (sym e);
    unbound = unbound reached f;
    there = there reached s;
  }

  pub variable_there : (value : BindingCell) (v : ℕ) → value ≡ Var v → IsValueIn (view_of p) value → v < length p.cells
  variable_there value v e h = subst (IsValueIn (view_of p)) e h
