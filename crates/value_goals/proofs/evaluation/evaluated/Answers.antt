use Rattle.std.proofs.Common.{reverse, sym, ap, ◌∙◌, rules}
use Rattle.std.specs.Int.{w64}
use Rattle.std.proofs.lemmas.Int.{to_z-of_z}
use Rattle.value_goals.specs.Evaluation.{functions_resumed, value_of_next, evaluated_in, evaluation_steps, waiting_steps}
use Rattle.value_goals.proofs.EvaluationLemmas.{error_of_step, error_of_popped}
use Rattle.value_goals.proofs.evaluation.evaluated.Goals as goal
use Rattle.value_goals.proofs.evaluation.evaluated.Goals.{in-Expression+in_ok-step-in-Expression, in-Value+in-Some+in_ok-step-in-Some}

pub returns-in-Err : goal.returns-in-Err
returns-in-Err c =
    let st = c.args.store.now in
    let old = c.loop-next.waiting.items in
    elim c.match-next.branch [
      | in-Expression+in_ok-step-in-Expression w ↦ error_of_step st (evaluated_in st w.in-Expression.value) _ (evaluation_steps st w.in-Expression.value) (reverse old) (reverse w.opened.new.waiting.items) w.in_ok-step-in-Expression.step c.in-Err.problem (sym w.step-is ∙ c.in-Err.is) w.in_ok-step-in-Expression.ensures
          (ap (λ m. functions_resumed st (reverse old) (value_of_next st m)) (sym w.in-Expression.is) ∙ c.loop-next.invariant.same)
      | in-Value+in-Some+in_ok-step-in-Some w ↦ error_of_popped st _ (waiting_steps st w.in-Some.function) old w.pop.new.self.items (reverse w.function_resumed.new.waiting.items) w.in-Some.function c.loop-next.next _ w.in-Value.value w.in_ok-step-in-Some.step c.in-Err.problem w.in-Some.ensures.items w.in-Value.is
          (to_z-of_z w64 w.in-Value.value (search rules)) (sym w.step-is ∙ c.in-Err.is) w.in_ok-step-in-Some.ensures c.loop-next.invariant.same
    ]
