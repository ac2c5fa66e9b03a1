use Rattle.std.proofs.Common.{◌+◌, reverse, sym, ap, ap₂, ◌∙◌, arith, rules}
use Rattle.std.specs.Int.{w64}
use Rattle.std.proofs.lemmas.Int.{to_z-of_z}
use Rattle.run_model.specs.Goals.Arithmetic.{expression_value, then_value}
use Rattle.arith_eval.specs.Functions.{binary_meaning}
use Rattle.arith_eval.specs.Integers.{outcome}
use Rattle.value_goals.specs.Evaluation.{with_first, evaluation_steps}
use Rattle.value_goals.proofs.EvaluationLemmas.{computed_step, second_waits}
use Rattle.value_goals.proofs.evaluation.second_opened.Goals as goal

pub returns-in-Some : goal.returns-in-Some
returns-in-Some c =
    let st = c.args.store.now in
    let g = c.args.function in
    let x = c.args.x in
    let y = c.in-Some.y in
    let known = ap (λ t. then_value (expression_value t) (binary_meaning g x)) (sym c.in-Some.ensures) in
    computed_step st (outcome c.value.result) (with_first st (binary_meaning g) x c.args.second) (evaluation_steps st c.args.second + 2) (reverse c.args.waiting.now.items) c.computed.result
    (c.value.ensures ∙ (ap₂ (binary_meaning g) (to_z-of_z w64 x (search rules)) (to_z-of_z w64 y (search rules)) ∙ known)) (omega arith) c.computed.ensures

pub returns-in_ok-push-in-None : goal.returns-in_ok-push-in-None
returns-in_ok-push-in-None c = second_waits c.args.store.now c.args.function c.args.x _ c.args.second c.args.waiting.now.items c.push.new.self.items c.requires (to_z-of_z w64 c.args.x (search rules)) c.in_ok-push-in-None.ensures.items
