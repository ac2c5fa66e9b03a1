use Rattle.std.proofs.Common.{ap, ap₂, ◌∙◌, option_map, rules}
use Rattle.std.specs.Int.{w64}
use Rattle.std.proofs.lemmas.Int.{to_z-of_z}
use Rattle.run_model.specs.Goals.Arithmetic.{binary_function}
use Rattle.arith_eval.specs.Functions.{binary_meaning}
use Rattle.value_goals.proofs.EvaluationLemmas.{both_known, value_found}
use Rattle.value_goals.proofs.short.value_of_two.Goals as goal

pub returns : goal.returns
returns c =
    let g = c.in_ok-function.function in
    let x = c.in_ok-x.x in
    let y = c.in_ok-y.y in
    let found = c.in_ok-function.ensures ∙ ap (λ n. option_map (λ k. k.value) (binary_function n)) c.name.ensures in
    let known = both_known c.args.store.now c.args.at c.args.base c.args.name g c.argument.result c.argument-2.result x y c.requires.functor c.argument.ensures.term c.argument-2.ensures.term found c.in_ok-x.ensures c.in_ok-y.ensures in
    value_found c.value.result c.ok.result _ _ c.ok.ensures.value (c.value.ensures ∙ ap₂ (binary_meaning g) (to_z-of_z w64 x (search rules)) (to_z-of_z w64 y (search rules))) known
