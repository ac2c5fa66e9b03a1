-- Equations that are unified one after another (ISO/IEC 13211-1, 7.3.2).
use Rattle.std.specs.Prelude.{◌≡◌, ◌++◌, Option, Some, None, map}
use Rattle.std.specs.Option.{option_map}
use Rattle.au_model.specs.Terms.Substitutions.{Substitution, resolve}
use Rattle.au_model.specs.Terms.Unifier.{Equations, unifier}

-- the one substitution and then the other
abbrev pub after : Substitution → Substitution → Substitution
after s u = map (λ v. (v.0, resolve u v.1)) s ++ u

abbrev pub resolved_equations : Substitution → Equations → Equations
resolved_equations s eqs = map (λ e. (resolve s e.0, resolve s e.1)) eqs

-- what further equations add to the unifier of those in front
abbrev pub further_unified : Option Substitution → Equations → Option Substitution
further_unified None eqs = None
further_unified (Some s) eqs = option_map (after s) (unifier (resolved_equations s eqs))

-- equations in front may be unified first
abbrev pub FrontFirst : Type 0
FrontFirst = (es eqs : Equations) → unifier (es ++ eqs) ≡ further_unified (unifier es) eqs
