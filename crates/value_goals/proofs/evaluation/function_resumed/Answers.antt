use Rattle.std.proofs.Common.{Ok, reverse, sym, ap, ap₂, ◌∙◌, arith, rules}
use Rattle.std.specs.Int.{w64}
use Rattle.std.proofs.lemmas.Int.{to_z-of_z}
use Rattle.arith_eval.specs.Functions.{unary_meaning, binary_meaning}
use Rattle.arith_eval.specs.Integers.{outcome}
use Rattle.value_goals.specs.Evaluation.{function_resumed, waiting_steps}
use Rattle.value_goals.proofs.EvaluationLemmas.{computed_step}
use Rattle.value_goals.proofs.evaluation.function_resumed.Goals as goal

pub returns-in-One : goal.returns-in-One
returns-in-One c =
    let st = c.args.store.now in
    let z = c.args.value in
    computed_step st (outcome c.value.result) (function_resumed st c.args.function (Ok z)) (waiting_steps st c.args.function) (reverse c.args.waiting.now.items) c.computed.result
    (c.value.ensures ∙ (ap (unary_meaning c.in-One.function) (to_z-of_z w64 z (search rules)) ∙ ap (λ w. function_resumed st w (Ok z)) (sym c.in-One.is))) (omega (arith, ap (waiting_steps st) c.in-One.is)) c.computed.ensures

pub returns-in-Second : goal.returns-in-Second
returns-in-Second c =
    let st = c.args.store.now in
    let z = c.args.value in
    let x = c.in-Second.x in
    computed_step st (outcome c.value-in-Second.result) (function_resumed st c.args.function (Ok z)) (waiting_steps st c.args.function) (reverse c.args.waiting.now.items) c.computed-in-Second.result
    (c.value-in-Second.ensures ∙ (ap₂ (binary_meaning c.in-Second.function) (to_z-of_z w64 x (search rules)) (to_z-of_z w64 z (search rules)) ∙ ap (λ w. function_resumed st w (Ok z)) (sym c.in-Second.is))) (omega (arith, ap (waiting_steps st) c.in-Second.is)) c.computed-in-Second.ensures
