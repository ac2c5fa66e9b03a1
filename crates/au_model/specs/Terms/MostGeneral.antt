-- What a unifier is for (ISO/IEC 13211-1, 7.3.1).
use Rattle.std.specs.Prelude.{◌≡◌, ℕ, [], ◌∷◌, Option, Some, None}
use Rattle.au_term.specs.Term.{Term}
use Rattle.au_model.specs.Terms.Substitutions.{Substitution, apply, value_of}
use Rattle.au_model.specs.Terms.Unifier.{Equations, unifier, rule, by_rule}

-- both sides of each equation become the same term
abbrev pub Unifies : (ℕ → Term) → Equations → Type 0
Unifies f [] = Unit {0}
Unifies f (e ∷ eqs) = (apply f e.0 ≡ apply f e.1) × Unifies f eqs

-- a unifier through which each other one goes
pub record IsMostGeneral (s : Substitution) (eqs : Equations) : Type 0 where
  pub unifies : Unifies (value_of s) eqs
  pub general : (f : ℕ → Term) → Unifies f eqs → (n : ℕ) → apply f (value_of s n) ≡ f n

-- the answer is a most general unifier, and none only where no substitution unifies
abbrev pub IsUnifierAnswer : Option Substitution → Equations → Type 0
IsUnifierAnswer (Some s) eqs = IsMostGeneral s eqs
IsUnifierAnswer None eqs = (f : ℕ → Term) → Unifies f eqs → ⊥

-- the unifier takes the first equation and goes by its rule
pub record GoesByRules : Type 0 where
  pub none_left : unifier [] ≡ Some []
  pub first : (a b : Term) (eqs : Equations) → unifier ((a, b) ∷ eqs) ≡ by_rule (rule a b) eqs unifier

-- equations that the same substitutions unify, as the same equations in another order
pub record SameUnifiers (eqs es : Equations) : Type 0 where
  pub there : (f : ℕ → Term) → Unifies f eqs → Unifies f es
  pub back : (f : ℕ → Term) → Unifies f es → Unifies f eqs

-- two answers by which each variable stands for the same
abbrev pub SameValues : Option Substitution → Option Substitution → Type 0
SameValues None None = Unit {0}
SameValues (Some s) None = ⊥
SameValues None (Some t) = ⊥
SameValues (Some s) (Some t) = (n : ℕ) → value_of s n ≡ value_of t n
