use Rattle.std.proofs.Common.{sym, ◌∙◌}
use Rattle.value_goals.proofs.EvaluationLemmas.{no_function_so_wide}
use Rattle.value_goals.proofs.evaluation.compound_opened.Goals as goal

pub returns : goal.returns
returns c =
    let functor = c.functor-name.ensures.functor c.args.base c.requires in
    no_function_so_wide c.args.store.now c.args.at c.args.base c.functor-name.result.0 c.functor-name.result.1 functor c.if-count-eq1.false c.if-count-eq2.false ∙ sym c.in_ok-no_function.ensures
