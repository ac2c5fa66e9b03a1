use Rattle.std.proofs.Common.{reverse, ap, ◌∙◌, option_map, rules}
use Rattle.std.specs.Int.{w64}
use Rattle.std.proofs.lemmas.Int.{to_z-of_z}
use Rattle.run_model.specs.Goals.Arithmetic.{unary_function}
use Rattle.arith_eval.specs.Functions.{unary_meaning}
use Rattle.arith_eval.specs.Integers.{outcome}
use Rattle.binding_array.specs.declared.cell.BindingCell.TheVariants.{Compound}
use Rattle.value_goals.specs.Evaluation.{evaluated_in, evaluation_steps}
use Rattle.value_goals.proofs.EvaluationLemmas.{one_known, one_waits, computed_step, some_steps}
use Rattle.value_goals.proofs.evaluation.one_opened.Goals as goal

pub returns-in-Some-integer_of : goal.returns-in-Some-integer_of
returns-in-Some-integer_of c =
    let st = c.args.store.now in
    let all = Compound c.args.at c.args.base in
    let g = c.in-Some.function in
    let x = c.in-Some-integer_of.x in
    let found = c.in-Some.ensures ∙ ap (λ n. option_map (λ k. k.value) (unary_function n)) c.name.ensures in
    let known = one_known st c.args.at c.args.base c.args.name g c.argument-argument.result x c.requires.functor c.argument-argument.ensures.term found c.in-Some-integer_of.ensures in
    computed_step st (outcome c.value.result) (evaluated_in st all) (evaluation_steps st all) (reverse c.args.waiting.now.items) c.computed.result (c.value.ensures ∙ (ap (unary_meaning g) (to_z-of_z w64 x (search rules)) ∙ known)) (some_steps st all) c.computed.ensures

pub returns-in_ok-push-in-None : goal.returns-in_ok-push-in-None
returns-in_ok-push-in-None c =
    let found = c.in-Some.ensures ∙ ap (λ n. option_map (λ k. k.value) (unary_function n)) c.name.ensures in
    one_waits c.args.store.now c.args.at c.args.base c.args.name c.in-Some.function c.argument-argument.result c.args.waiting.now.items c.push.new.self.items c.requires.functor c.argument-argument.ensures.term c.argument-argument.ensures.there found c.in_ok-push-in-None.ensures.items
