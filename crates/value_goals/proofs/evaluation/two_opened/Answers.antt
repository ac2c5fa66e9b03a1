use Rattle.std.proofs.Common.{reverse, ap, ◌∙◌, option_map, rules}
use Rattle.std.specs.Int.{w64}
use Rattle.std.proofs.lemmas.Int.{to_z-of_z}
use Rattle.std.proofs.lemmas.Result.{IfOk-weaker}
use Rattle.run_model.specs.Goals.Arithmetic.{binary_function}
use Rattle.binding_array.specs.declared.cell.BindingCell.TheVariants.{Compound}
use Rattle.value_goals.specs.Evaluation.{evaluated_in, evaluation_steps}
use Rattle.value_goals.proofs.EvaluationLemmas.{first_known, first_waits, more_steps}
use Rattle.value_goals.proofs.evaluation.two_opened.Goals as goal

pub returns-in-Some-integer_of : goal.returns-in-Some-integer_of
returns-in-Some-integer_of c =
    let st = c.args.store.now in
    let all = Compound c.args.at c.args.base in
    let g = c.in-Some.function in
    let x = c.in-Some-integer_of.x in
    let found = c.in-Some.ensures ∙ ap (λ n. option_map (λ k. k.value) (binary_function n)) c.name.ensures in
    let known = first_known st c.args.at c.args.base c.args.name g c.argument-first.result c.argument-second.result x _ c.requires.functor c.argument-first.ensures.term c.argument-second.ensures.term found c.in-Some-integer_of.ensures (to_z-of_z w64 x (search rules)) in
    IfOk-weaker c.second_opened.result _ _ (λ r h. more_steps st _ (evaluated_in st all) _ (evaluation_steps st all) (reverse c.args.waiting.now.items) (reverse c.second_opened.new.waiting.items) r known.0 known.1 h) c.second_opened.ensures

pub returns-in_ok-push-in-None : goal.returns-in_ok-push-in-None
returns-in_ok-push-in-None c =
    let found = c.in-Some.ensures ∙ ap (λ n. option_map (λ k. k.value) (binary_function n)) c.name.ensures in
    first_waits c.args.store.now c.args.at c.args.base c.args.name c.in-Some.function c.argument-first.result c.argument-second.result c.args.waiting.now.items c.push.new.self.items c.requires.functor c.argument-first.ensures.term c.argument-second.ensures.term
    c.argument-first.ensures.there c.argument-second.ensures.there found c.in_ok-push-in-None.ensures.items
