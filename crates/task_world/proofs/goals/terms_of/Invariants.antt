use Rattle.std.proofs.Common.{◌≡◌, ◌++◌}
use Rattle.text_load.specs.QueryView.{goal_terms}
use Rattle.task_world.proofs.goals.terms_of.Given as goal

abbrev pub invariant-loop-item : goal.invariant-loop-item
invariant-loop-item l = l.terms.items ++ goal_terms l.item-iterator ≡ goal_terms l.goals
