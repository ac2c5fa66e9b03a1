use Rattle.std.proofs.Common.{ap, ◌∙◌}
use Rattle.branch_reading.specs.QueryNodes.{goals_in}
use Rattle.clause_compile.specs.declared.item.Scope.TheVariants.{Local}
use Rattle.text_load.specs.QueryView.{goal_terms}
use Rattle.task_world.proofs.GoalLemmas.{terms_back}
use Rattle.task_world.proofs.goals.query_goals.Goals as goal

pub returns : goal.returns
returns c =
    let q = c.args.query.now in
    record {
      goals =
          c.in_ok-goals.ensures
          ∙ ap (goals_in c.args.node) (c.deref.ensures.value ∙ c.in_ok-terms.ensures ∙ ap goal_terms c.goals.ensures ∙ terms_back (Local 0) q.goals);
      vars = c.vars.ensures;
    }
