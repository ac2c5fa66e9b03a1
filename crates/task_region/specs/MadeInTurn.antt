-- Bindings that are made in a region one after another.
use Rattle.std.specs.Prelude.{◌≡◌, ℕ, true, false, List, ◌++◌, Some}
use Rattle.au_term.specs.Term.{VarTerm}
use Rattle.au_term.specs.declared.segment.Binding.{Binding}
use Rattle.au_model.specs.Terms.MostGeneral.{SameValues}
use Rattle.au_model.specs.Terms.Substitutions.{Substitution, value_of}
use Rattle.au_model.specs.Terms.Unifier.{unifier}
use Rattle.region_split.specs.Regions.{RegionView}
use Rattle.branch_reading.specs.BranchSegments.{binding_equations}
use Rattle.branch_reading.specs.SettledWays.{binds_variable, are_bindings_settled}

-- what is bound once these bindings were made, and no others
pub record IsMadeBy (bs : List Binding) (s : Substitution) : Type 0 where
  pub unified : SameValues (unifier (binding_equations bs)) (Some s)
  pub free : (v : ℕ) → binds_variable v bs ≡ false → value_of s v ≡ VarTerm v

-- further ones can be made: with those before them they are settled below the region's next number
pub record CanMake (r : RegionView) (bs : List Binding) : Type 0 where
  pub before : List Binding
  pub made : IsMadeBy before r.store.now.bound
  pub settled : are_bindings_settled r.store.now.next (before ++ bs) ≡ true

-- they were made, and no variable was taken
pub record Makes (old new : RegionView) (bs : List Binding) : Type 0 where
  pub made : (before : List Binding) → IsMadeBy before old.store.now.bound → are_bindings_settled old.store.now.next (before ++ bs) ≡ true
      → IsMadeBy (before ++ bs) new.store.now.bound
  pub next : new.store.now.next ≡ old.store.now.next
  pub others : new ≡ record old { store = new.store }
