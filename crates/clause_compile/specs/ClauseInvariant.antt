-- Clauses as they are kept.
use Rattle.std.specs.Prelude.{◌≡◌, ℕ, zero, suc, ◌≤◌, max, true, List, [], ◌∷◌, Some}
use Rattle.au_term.specs.Term.{Term, var_bound}
use Rattle.au_model.specs.Terms.Copies.{seen_in}
use Rattle.au_model.specs.Terms.Forms.{is_callable}
use Rattle.run_model.specs.Programs.Bodies.{body_of, clause_goals_of}
use Rattle.clause_compile.specs.GoalPlaces.{AreGoalsAt}

-- so many numbers from one on
abbrev pub numbers_from : ℕ → ℕ → List ℕ
numbers_from first zero = []
numbers_from first (suc n) = first ∷ numbers_from (suc first) n

-- the body has a call for each variable goal, the places are those of its goals, and so many variables are numbered from
-- 0 in order of first occurrence, those of the head first
pub record IsClauseInvariant (head body : Term) (places : List ℕ) (vars : ℕ) : Type 0 where
  pub head_callable : is_callable head ≡ true
  pub body_kept : body_of body ≡ Some body
  pub goals : AreGoalsAt body places (clause_goals_of body)
  pub numbered : seen_in body (seen_in head []) ≡ numbers_from 0 vars
  pub bound : max (var_bound head) (var_bound body) ≤ vars
