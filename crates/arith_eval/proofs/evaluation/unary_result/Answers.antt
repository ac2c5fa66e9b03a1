use Rattle.std.proofs.Common.{◌∙◌, ap, sym, rules}
use Rattle.std.specs.Int.{w64}
use Rattle.std.proofs.lemmas.Int.{to_z-of_z}
use Rattle.run_model.specs.Goals.Arithmetic.{unary_function, unary_value}
use Rattle.arith_eval.specs.Evaluating.{evaluated}
use Rattle.arith_eval.proofs.Stacks.{unary_computed}
use Rattle.arith_eval.proofs.evaluation.unary_result.Goals as goal

pub returns-in-Ok : goal.returns-in-Ok
returns-in-Ok c =
    let name = c.args.name.now in
    unary_computed name c.in-Some.function (unary_function name) c.in-Ok.x _ (evaluated c.computed.result) c.in-Some.ensures (to_z-of_z w64 c.in-Ok.x (search rules)) (c.computed.ensures ∙ c.value.ensures)
    ∙ ap (λ x. unary_value name (unary_function name) (evaluated x)) (sym c.in-Ok.is)
