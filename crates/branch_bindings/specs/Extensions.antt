-- A substitution that further bindings were made to.
use Rattle.std.specs.Prelude.{◌≡◌, ◌⊎◌, ℕ, ◌<◌, ◌≤◌, List, [], ◌∷◌}
use Rattle.std.specs.List.{Contains}
use Rattle.au_term.specs.Term.{Term, VarTerm, var_bound}
use Rattle.au_model.specs.Terms.Each.{Each}
use Rattle.au_model.specs.Terms.Substitutions.{Substitution, value_of, resolve}

-- variables with the terms that they were bound to, as these are written
abbrev pub WrittenBindings : Type 0
WrittenBindings = List (ℕ × Term)

-- a variable that one of them binds
pub record IsBoundAmong (bs : WrittenBindings) (v : ℕ) : Type 0 where
  pub value : Term
  pub is : Contains bs (v, value)

-- one of them, below a number: the variable was free, and stands now for what its value stands for; it is bound to no younger variable
pub record IsWrittenBinding (before now : Substitution) (next : ℕ) (b : ℕ × Term) : Type 0 where
  pub there : b.0 < next
  pub free : value_of before b.0 ≡ VarTerm b.0
  pub stands : value_of now b.0 ≡ resolve now b.1
  pub older : (w : ℕ) → b.1 ≡ VarTerm w → w < b.0
  pub below : var_bound b.1 ≤ next

-- no variable is bound twice
abbrev pub BindOnce : WrittenBindings → Type 0
BindOnce [] = Unit {0}
BindOnce (b ∷ bs) = ((value : Term) → Contains bs (b.0, value) → ⊥) × BindOnce bs

-- these bindings, of variables below a number, made the second substitution of the first: what else was free is free, and what
-- stood for a term stands for it with the bindings applied
pub record ExtendsBy (before now : Substitution) (next : ℕ) (bs : WrittenBindings) : Type 0 where
  pub each : Each (IsWrittenBinding before now next) bs
  pub once : BindOnce bs
  pub others : (v : ℕ) → value_of before v ≡ VarTerm v → (value_of now v ≡ VarTerm v) ⊎ IsBoundAmong bs v
  pub further : (v : ℕ) → value_of now v ≡ resolve now (value_of before v)
