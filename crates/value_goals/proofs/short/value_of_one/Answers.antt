use Rattle.std.proofs.Common.{ap, ◌∙◌, option_map, rules}
use Rattle.std.specs.Int.{w64}
use Rattle.std.proofs.lemmas.Int.{to_z-of_z}
use Rattle.run_model.specs.Goals.Arithmetic.{unary_function}
use Rattle.arith_eval.specs.Functions.{unary_meaning}
use Rattle.value_goals.proofs.EvaluationLemmas.{one_known, value_found}
use Rattle.value_goals.proofs.short.value_of_one.Goals as goal

pub returns : goal.returns
returns c =
    let g = c.in_ok-function.function in
    let x = c.in_ok-x.x in
    let found = c.in_ok-function.ensures ∙ ap (λ n. option_map (λ k. k.value) (unary_function n)) c.name.ensures in
    let known = one_known c.args.store.now c.args.at c.args.base c.args.name g c.argument.result x c.requires.functor c.argument.ensures.term found c.in_ok-x.ensures in
    value_found c.value.result c.ok.result _ _ c.ok.ensures.value (c.value.ensures ∙ ap (unary_meaning g) (to_z-of_z w64 x (search rules))) known
