-- Answers.
use Rattle.std.proofs.Common.{◌≡◌, ℕ, ℤ, zero, suc, ◌<◌, List, [], ◌∷◌, length, get_or, Result, Ok, sym, subst, arith}
use Rattle.std.specs.Prelude.{Vec}
use Rattle.std.specs.Global.{Global}
use Rattle.au_term.specs.Term.{Term, term_at}
use Rattle.au_model.specs.Terms.Lists.{terms_from}
use Rattle.run_model.specs.Goals.Arithmetic.{Evaluated}
use Rattle.run_model.specs.Goals.ArithmeticGoals.{with_value}
use Rattle.run_model.specs.Goals.BuiltinAnswers.{Answer}
use Rattle.std_builtins.specs.Answers.{IsAnswer}
use Rattle.std_builtins.specs.declared.answer.Solution.{Solution}
use Rattle.std_builtins.specs.declared.answer.BuiltinRefusal.{BuiltinRefusal}

pub left_valued : (v : Evaluated) (answer : ℤ → Answer) (y w : ℤ) (r : Result (Vec Solution Global) BuiltinRefusal) → v ≡ Ok y → w ≡ y → IsAnswer (answer w) r → IsAnswer (with_value v answer) r
left_valued v answer y w r is same h = subst (λ u. IsAnswer (with_value u answer) r) (sym is) (subst (λ u. IsAnswer (answer u) r) same h)

-- the arguments of a call
pub argument_at : (ts : List Term) (i : ℕ) (t : Term) → i < length ts → t ≡ get_or ts i t → term_at i (terms_from ts) ≡ t
argument_at [] i t lt is = absurd (omega arith)
argument_at (u ∷ us) zero t lt is = sym is
argument_at (u ∷ us) (suc i) t lt is = argument_at us i t (omega arith) is
