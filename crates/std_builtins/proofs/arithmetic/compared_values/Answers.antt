use Rattle.std.proofs.Common.{rules}
use Rattle.std.specs.Int.{w64}
use Rattle.std.proofs.lemmas.Int.{to_z-of_z}
use Rattle.run_model.specs.Goals.Arithmetic.{expression_value}
use Rattle.run_model.specs.Goals.ArithmeticGoals.{with_value}
use Rattle.run_model.specs.Goals.BuiltinAnswers.{holds_if}
use Rattle.std_builtins.specs.Meanings.{value_test}
use Rattle.std_builtins.proofs.AnswerLemmas.{left_valued}
use Rattle.std_builtins.proofs.arithmetic.compared_values.Goals as goal

pub returns-in-Ok : goal.returns-in-Ok
returns-in-Ok c =
    left_valued (expression_value c.args.left.now) (λ y. with_value (expression_value c.args.right.now) (λ z. holds_if (value_test c.args.comparison y z))) c.in-Ok.value _ c.compared_to.result c.in-Ok.ensures.value
    (to_z-of_z w64 c.in-Ok.value (search rules)) c.compared_to.ensures
