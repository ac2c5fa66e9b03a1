-- What is out closes with its run and its answer.
use Rattle.std.proofs.Common.{◌≡◌, ℕ, true, List, Option}
use Rattle.std.specs.Prelude.{is_some}
use Rattle.au_model.specs.Terms.Named.{NamedTerm}
use Rattle.branch_reading.specs.Readings.{reading}
use Rattle.public_tree.specs.AnsweringAtOnce.{RunAnswersAs, run_credit}
use Rattle.task_stops.specs.WakingPlaces.{WakingClosingsAreNoCatch}
use Rattle.task_stops.specs.WokenBodies.{IsGivenFor}
use Rattle.task_stops.proofs.CloseLemmas.{given_out}
use Rattle.tree_closing.specs.Closings.{ComesToRest, HasSleeper}
use Rattle.tree_closing.specs.declared.way_up.Closing.{Closing}
use Rattle.tree_core.specs.Histories.{TreeView, NodesStand, state_of}
use Rattle.tree_model.specs.EventViews.{place_view}
use Rattle.tree_model.specs.LegalTrees.{IsLegalTree}
use Rattle.tree_model.specs.Legality.{taken_at}
use Rattle.tree_model.specs.Levels.{Place}
use Rattle.tree_nodes.specs.Bodies.{Body}
use Rattle.tree_nodes.specs.Rows.{credit_view}
use Rattle.answered_tasks.specs.AnsweredTasks.{OutAnswersAlone}

pub answers_as : (v : TreeView) (w : ℕ) (a : Place) (k recoveries : ℕ) (named : List NamedTerm) (closing : Closing) (body : Option Body) → NodesStand v
    → IsLegalTree (state_of v.history) → is_some (taken_at w a (state_of v.history)) ≡ true → OutAnswersAlone named recoveries w a k (state_of v.history)
    → ComesToRest v.nodes a (run_credit k) (place_view closing.end) (credit_view closing.credit) closing.beside
    → HasSleeper closing.beside v.nodes.rows (place_view closing.end) → WakingClosingsAreNoCatch → IsGivenFor v.nodes closing body
    → RunAnswersAs v.nodes closing body w a k recoveries (reading v.history.job) (state_of v.history)
answers_as v w a k recoveries named closing body stand legal out alone rests sleeper law given = record {
  runs = λ s taken. (alone s taken).runs;
  rests = rests;
  given = given_out v.history.job v.nodes (state_of v.history) w a stand.placed legal out (run_credit k) closing rests sleeper law body given;
}
