-- Answers of built-in predicates, below a number.
use Rattle.std.proofs.Common.{◌≡◌, ℕ, ◌≤◌, Bool, true, false, List, Ok, Err, arith}
use Rattle.au_term.specs.Term.{Term, Terms, end, all_bound, count}
use Rattle.au_model.specs.Terms.Each.{Each}
use Rattle.run_model.specs.Laws.Numbering.{IsTermBelow}
use Rattle.run_model.specs.Goals.BuiltinAnswers.{Answer, equal, holds_if, predicate}
use Rattle.run_model.proofs.BuiltinRowBoundLemmas.{IsSolutionBelow, IsOutcomeBelow, IsRowBelow}

abbrev pub IsAnswerBelow : ℕ → Answer → Type 0
IsAnswerBelow next (Ok solutions) = Each (IsSolutionBelow next) solutions
IsAnswerBelow next (Err e) = Unit {0}

pub row-below : (name : List ℕ) (arity : ℕ) (answer : Terms → ℕ → Answer) → ((ts : Terms) (next : ℕ) → count ts ≡ arity → all_bound ts ≤ next → IsAnswerBelow next (answer ts next)) → IsRowBelow (predicate name arity answer)
row-below name arity answer h = λ ts next n k. by next (answer ts next) (h ts next n k)
  where
    by : (next : ℕ) (a : Answer) → IsAnswerBelow next a → IsOutcomeBelow next ((predicate name arity (λ ts k. a)).outcome end next)
    by next (Ok solutions) k = k
    by next (Err e) k = tt

pub holds-below : (next : ℕ) (b : Bool) → IsAnswerBelow next (holds_if b)
holds-below next true = ((omega arith, tt), tt)
holds-below next false = tt

pub equal-below : (next : ℕ) (a b : Term) → IsTermBelow next a → IsTermBelow next b → IsAnswerBelow next (equal a b)
equal-below next a b h k = ((omega arith, tt), tt)
