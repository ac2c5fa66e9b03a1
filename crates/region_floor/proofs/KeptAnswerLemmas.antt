-- Answers of which no solution removes a clause.
use Rattle.std.proofs.Common.{ℕ, Bool, true, false, cond, List, Ok, Err, refl}
use Rattle.au_term.specs.Term.{Terms, end}
use Rattle.au_model.specs.Terms.Each.{Each}
use Rattle.au_model.proofs.EachLemmas.{each-more}
use Rattle.run_model.specs.Goals.Control.{Construct}
use Rattle.run_model.specs.Goals.BuiltinAnswers.{Answer, holds_if, predicate}
use Rattle.run_model.proofs.PlainAnswerLemmas.{IsPlain, IsPlainSolution}
use Rattle.region_floor.specs.PrivateLaws.{RemovesNothing, KeepsClauses}

abbrev pub IsRowKept : Construct → Type 0
IsRowKept c = (ts : Terms) (next : ℕ) → KeepsClauses (c.outcome ts next)

abbrev pub IsKept : Answer → Type 0
IsKept (Ok ss) = Each RemovesNothing ss
IsKept (Err e) = Unit {0}

pub row-kept : (name : List ℕ) (arity : ℕ) (answer : Terms → ℕ → Answer) → ((ts : Terms) (next : ℕ) → IsKept (answer ts next))
    → IsRowKept (predicate name arity answer)
row-kept name arity answer h = λ ts next. by (answer ts next) (h ts next)
  where
    by : (a : Answer) → IsKept a → KeepsClauses ((predicate name arity (λ ts k. a)).outcome end 0)
    by (Ok ss) k = k
    by (Err e) k = tt

pub holds-kept : (b : Bool) → IsKept (holds_if b)
holds-kept true = (refl, tt)
holds-kept false = tt

pub either-kept : (b : Bool) (x y : Answer) → IsKept x → IsKept y → IsKept (cond b x y)
either-kept true x y h k = h
either-kept false x y h k = k

pub plain-kept : (a : Answer) → IsPlain (λ t. Unit {0}) a → IsKept a
plain-kept (Ok ss) h = each-more (IsPlainSolution (λ t. Unit {0})) RemovesNothing (λ s k. k.kept) ss h
plain-kept (Err e) h = tt
