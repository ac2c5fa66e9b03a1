-- The variables of a clause whose head is unified: while older terms have none of them, such a variable is in none of those.
use Rattle.std.specs.Prelude.{◌≡◌, ◌⊎◌, ℕ, ◌≤◌, Bool, false, nat_le, Option, Some, None, ◌∷◌}
use Rattle.au_term.specs.Term.{Term, var_bound}
use Rattle.au_model.specs.Terms.Each.{Each}
use Rattle.au_model.specs.Terms.Substitutions.{resolve}
use Rattle.au_model.specs.Terms.Unifier.{Equations}
use Rattle.binding_array.specs.declared.cell.BindingCell.{BindingCell}
use Rattle.binding_array.specs.declared.cell.BindingCell.TheVariants.{Free, Var, Int, Atom, Compound}
use Rattle.cell_store.specs.StoreView.{StoreView, substitution}

-- a term has no variable of the clause of which this is the first one
abbrev pub IsOlder : Option ℕ → Term → Type 0
IsOlder None t = Unit {0}
IsOlder (Some base) t = var_bound t ≤ base

-- and so have those on the left of equations
abbrev pub AreOlder : Option ℕ → Equations → Type 0
AreOlder from eqs = Each (λ e. IsOlder from e.0) eqs

-- a variable of the clause of which this is the first one
abbrev pub is_fresh : ℕ → Option ℕ → Bool
is_fresh x None = false
is_fresh x (Some base) = nat_le base x

-- the variables of the clause of which this is the first one came after the floor and all marks
abbrev pub AreYoung : StoreView → Option ℕ → Type 0
AreYoung st None = Unit {0}
AreYoung st (Some base) = Each (λ m. m.next ≤ base) (st.floor ∷ st.marks)

-- once an older variable is bound to a compound, the clause's variables are no longer fresh
abbrev pub fresh_after : Option ℕ → BindingCell → Option ℕ
fresh_after fresh Free = fresh
fresh_after fresh (Var v) = fresh
fresh_after fresh (Int z) = fresh
fresh_after fresh (Atom a) = fresh
fresh_after fresh (Compound at base) = None

-- what was older is older still, or the clause's variables are no longer fresh
pub record StaysOlder (old new : StoreView) (from to : Option ℕ) : Type 0 where
  pub still : (to ≡ from) ⊎ (to ≡ None)
  pub kept : (t : Term) → IsOlder to (resolve (substitution old) t) → IsOlder to (resolve (substitution new) t)
