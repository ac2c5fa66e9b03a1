use Rattle.std.proofs.Common.{subst}
use Rattle.std.specs.Arc.{arc_value}
use Rattle.tree_model.specs.EventViews.{place_view}
use Rattle.tree_nodes.specs.Bodies.{body_view}
use Rattle.tree_closing.specs.Closings.{HasSleeper}
use Rattle.tree_closing.specs.declared.way_up.Beside.{Beside}
use Rattle.task_stops.proofs.QuietLemmas.{BranchLaws}
use Rattle.task_stops.proofs.WokenLemmas.{given_for}
use Rattle.task_stops.proofs.woken.woken_body.Goals as goal

pub returns-in_ok-woken-in-Gathers : goal.returns-in_ok-woken-in-Gathers
returns-in_ok-woken-in-Gathers c =
    let laws : BranchLaws = record { bind = c.settled_segments_bind.ensures.bind; empty = c.settled_segments_bind.ensures.empty; read = c.branches_read_bound.ensures.read } in
    given_for c.args.nodes.now c.args.closing.now (body_view (arc_value c.in_ok-woken-in-Gathers.woken)) c.numbered_trees_are_settled.ensures laws
    (subst (λ (x : Beside). HasSleeper x c.args.nodes.now.rows (place_view c.args.closing.now.end)) c.in-Gathers.is c.requires.sleeper) c.in_ok-woken-in-Gathers.ensures

pub returns-in_ok-woken-in-Ends : goal.returns-in_ok-woken-in-Ends
returns-in_ok-woken-in-Ends c =
    let laws : BranchLaws = record { bind = c.settled_segments_bind.ensures.bind; empty = c.settled_segments_bind.ensures.empty; read = c.branches_read_bound.ensures.read } in
    given_for c.args.nodes.now c.args.closing.now (body_view (arc_value c.in_ok-woken-in-Ends.woken)) c.numbered_trees_are_settled.ensures laws
    (subst (λ (x : Beside). HasSleeper x c.args.nodes.now.rows (place_view c.args.closing.now.end)) c.in-Ends.is c.requires.sleeper) c.in_ok-woken-in-Ends.ensures
