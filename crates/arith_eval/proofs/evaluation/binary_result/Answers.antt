use Rattle.std.proofs.Common.{◌∙◌, ap₂, sym, rules}
use Rattle.std.specs.Int.{w64}
use Rattle.std.proofs.lemmas.Int.{to_z-of_z}
use Rattle.run_model.specs.Goals.Arithmetic.{binary_function, binary_value}
use Rattle.arith_eval.specs.Evaluating.{evaluated}
use Rattle.arith_eval.proofs.Stacks.{binary_computed}
use Rattle.arith_eval.proofs.evaluation.binary_result.Goals as goal

pub returns-in-Ok-Ok : goal.returns-in-Ok-Ok
returns-in-Ok-Ok c =
    let name = c.args.name.now in
    binary_computed name c.in-Some.function (binary_function name) c.in-Ok-Ok.x c.in-Ok-Ok.y _ _ (evaluated c.computed.result) c.in-Some.ensures (to_z-of_z w64 c.in-Ok-Ok.x (search rules)) (to_z-of_z w64 c.in-Ok-Ok.y (search rules)) (c.computed.ensures ∙ c.value.ensures)
    ∙ ap₂ (λ x y. binary_value name (binary_function name) (evaluated x) (evaluated y)) (sym c.in-Ok-Ok.is-0) (sym c.in-Ok-Ok.is-1)
