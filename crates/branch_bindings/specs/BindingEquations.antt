-- Bindings as equations: a bound variable is the same as what it is bound to.
use Rattle.std.specs.Prelude.{◌≡◌, ◌⊎◌, ℕ, ◌<◌, Some}
use Rattle.std.specs.List.{Contains}
use Rattle.au_term.specs.Term.{Term, VarTerm}
use Rattle.au_model.specs.Terms.Each.{Each}
use Rattle.au_model.specs.Terms.Substitutions.{Substitution, value_of, resolve}
use Rattle.au_model.specs.Terms.Unifier.{Equations, unifier}
use Rattle.au_model.specs.Terms.MostGeneral.{SameValues}

-- a variable and what it is bound to: by the substitution it stands for the same, and it is bound to no younger variable
pub record IsBindingBy (s : Substitution) (e : Term × Term) : Type 0 where
  pub variable : ℕ
  pub left_is : e.0 ≡ VarTerm variable
  pub stands : value_of s variable ≡ resolve s e.1
  pub older : (w : ℕ) → e.1 ≡ VarTerm w → w < variable

-- a variable that one of the equations binds
pub record HasBinding (eqs : Equations) (v : ℕ) : Type 0 where
  pub value : Term
  pub is : Contains eqs (VarTerm v, value)

-- bindings, in any order, that make a substitution: a variable with none stands for itself
pub record AreBindingsBy (s : Substitution) (eqs : Equations) : Type 0 where
  pub each : Each (IsBindingBy s) eqs
  pub free_or_bound : (v : ℕ) → (value_of s v ≡ VarTerm v) ⊎ HasBinding eqs v

-- what bindings make is their unifier
abbrev pub UnifierIsMade : Type 0
UnifierIsMade = (s : Substitution) (eqs : Equations) → AreBindingsBy s eqs → SameValues (unifier eqs) (Some s)
