-- What comes of a cut, a ball, or what is taken at the front of a job's tree.
use Rattle.std.specs.Prelude.{cond, List}
use Rattle.tree_model.specs.Events.{Event}
use Rattle.tree_model.specs.TreeStates.{TreeState}
use Rattle.tree_model.specs.Legality.{is_allowed, is_legal}
use Rattle.public_tree.specs.declared.prune.Pruning.{Pruning}
use Rattle.public_tree.specs.declared.prune.Pruning.TheVariants as pruning
use Rattle.public_tree.specs.declared.answering.Answering.{Answering}
use Rattle.public_tree.specs.declared.answering.Answering.TheVariants as answering
use Rattle.public_tree.specs.declared.answering_at_once.RunAnswering.{RunAnswering}
use Rattle.public_tree.specs.declared.answering_at_once.RunAnswering.TheVariants as run
use Rattle.public_tree.specs.PublicTrees.{is_going}
use Rattle.tree_core.specs.Histories.{History, state_of, with_event, with_events}

-- with an event where it is legal
abbrev pub where_legal : Event → History → History
where_legal e h = cond (is_legal (state_of h) e) (with_event e h) h

abbrev pub pruning_of : Event → TreeState → Pruning
pruning_of e t = cond (is_going t) (cond (is_allowed t e) pruning.Taken pruning.NotCleared) pruning.HasEnded

abbrev pub answering_of : Event → TreeState → Answering
answering_of e t = cond (is_going t) (cond (is_allowed t e) answering.Taken answering.NotLeftmost) answering.HasEnded

-- with events where a run was taken
abbrev pub where_taken : RunAnswering → List Event → History → History
where_taken run.Taken es h = with_events es h
where_taken run.NotLeftmost es h = h
where_taken run.HasEnded es h = h
where_taken run.OverBudget es h = h
