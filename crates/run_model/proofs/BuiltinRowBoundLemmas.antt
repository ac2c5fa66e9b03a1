-- The variables of what goals come to, and of the rows of the tables, below a number.
use Rattle.std.proofs.Common.{ℕ, zero, suc, ◌≡◌, ◌+◌, ◌≤◌, arith}
use Rattle.au_term.specs.Term.{Terms, end, more, all_bound, count, term_at}
use Rattle.au_model.specs.Terms.Each.{Each}
use Rattle.run_model.specs.Laws.Numbering.{IsTermBelow, AreTermsBelow}
use Rattle.au_model.specs.Terms.Unifier.{equations_bound}
use Rattle.run_model.specs.Goals.Outcomes.{Solution, Reply, Solutions, Ball, HaltNumber, ControlForm, GoesOnWith, EitherOf, TestOf, CutToScope, CatchOf, FindallOf, Outcome, Replies, Controls, AskWorld}
use Rattle.run_model.specs.Goals.Control.{Construct}

-- the variables of a solution are below the next number and the new ones
abbrev pub IsSolutionBelow : ℕ → Solution → Type 0
IsSolutionBelow next s = (equations_bound s.equations ≤ next + s.variables) × AreTermsBelow (next + s.variables) s.goals

abbrev pub IsReplyBelow : ℕ → Reply → Type 0
IsReplyBelow next (Solutions ss) = Each (IsSolutionBelow next) ss
IsReplyBelow next (Ball b) = Unit {0}
IsReplyBelow next (HaltNumber k) = Unit {0}

abbrev pub IsFormBelow : ℕ → ControlForm → Type 0
IsFormBelow next (GoesOnWith gs) = AreTermsBelow next gs
IsFormBelow next (EitherOf gs others) = AreTermsBelow next gs × AreTermsBelow next others
IsFormBelow next (TestOf gs thens others) = AreTermsBelow next gs × AreTermsBelow next thens × AreTermsBelow next others
IsFormBelow next CutToScope = Unit {0}
IsFormBelow next (CatchOf g c r) = IsTermBelow next g × IsTermBelow next c × IsTermBelow next r
IsFormBelow next (FindallOf t g l) = IsTermBelow next t × IsTermBelow next g × IsTermBelow next l

abbrev pub IsOutcomeBelow : ℕ → Outcome → Type 0
IsOutcomeBelow next (Replies r) = IsReplyBelow next r
IsOutcomeBelow next (Controls form) = IsFormBelow next form
IsOutcomeBelow next (AskWorld g) = IsTermBelow next g

-- the rows of the tables, at as many arguments as they say
abbrev pub IsRowBelow : Construct → Type 0
IsRowBelow c = (ts : Terms) (next : ℕ) → count ts ≡ c.arity → all_bound ts ≤ next → IsOutcomeBelow next (c.outcome ts next)

pub term-below : (i b : ℕ) (ts : Terms) → suc i ≤ count ts → all_bound ts ≤ b → IsTermBelow b (term_at i ts)
term-below i b end h k = absurd (omega arith)
term-below zero b (more t ts) h k = omega arith
term-below (suc i) b (more t ts) h k = term-below i b ts (omega arith) (omega arith)
