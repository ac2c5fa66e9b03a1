use Rattle.std.proofs.Common.{◌≡◌, drop, map}
use Rattle.run_model.specs.Goals.BuiltinAnswers.{Answer}
use Rattle.run_model.specs.Goals.AtomGoals.{with_each}
use Rattle.std_builtins.specs.Checks.{check_test, check_error}
use Rattle.std_builtins.proofs.checks.check_all.Given as goal

abbrev pub invariant-loop-term : goal.invariant-loop-term
invariant-loop-term l =
    (a : Answer) → with_each (check_test l.check) (check_error l.check) (map (λ t. t.now) l.terms) a ≡ with_each (check_test l.check) (check_error l.check) (drop l.term-index (map (λ t. t.now) l.terms)) a
