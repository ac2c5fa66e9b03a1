use Rattle.std.proofs.Common.{◌≡◌, ℕ, Option, Some, None, sym, ap, ◌∙◌, subst}
use Rattle.std.specs.Prelude.{IsSome}
use Rattle.au_term.specs.Term.{Term}
use Rattle.tree_model.specs.EventViews.{place_view}
use Rattle.tree_model.specs.Levels.{Place}
use Rattle.tree_model.specs.TreeStates.{TreeState}
use Rattle.tree_nodes.specs.Rows.{Rows, row_of_node}
use Rattle.tree_nodes.specs.TreeTables.{NodesView}
use Rattle.tree_core.specs.Histories.{TreeView, state_of}
use Rattle.task_region.specs.TaskLoads.{IsLoadablePlace, HasLoadableBranch}
use Rattle.task_region.specs.PlacesUp.{items_at_place}
use Rattle.task_world.specs.OutTasks.{first_end, IsTaskOrEnd, IsOutOf}
use Rattle.task_world.proofs.out_tasks.take_up.Goals as goal

-- what is found to be first says which of the two it is
found_first : (rows found : Rows) (w : ℕ) (a : Place) (t : TreeState) (o : Option (Option Term)) → found ≡ rows → IsOutOf rows w a t
    → o ≡ first_end (items_at_place found a) → IsTaskOrEnd rows w a t o
found_first rows found w a t o same h e =
    subst (IsTaskOrEnd rows w a t) (sym (e ∙ ap (λ (rs : Rows). first_end (items_at_place rs a)) same)) h.is

pub end_at-requires : goal.end_at-requires
end_at-requires g c =
    let v = c.args.tree.now in
    let a = place_view c.args.at in
    let h = c.outs_are_tasks_or_ends.ensures v.history.job v.nodes c.args.worker a (state_of v.history) c.keeps_promises.ensures.nodes.placed c.stays_legal.ensures c.requires.out in
    subst (λ (n : NodesView). IsSome (row_of_node n.rows a.node)) (sym c.nodes.ensures) h.there

pub load_task-requires-clause-there : goal.load_task-requires-clause-there
load_task-requires-clause-there g c =
    let v = c.args.tree.now in
    let a = place_view c.args.at in
    let h = c.outs_are_tasks_or_ends.ensures v.history.job v.nodes c.args.worker a (state_of v.history) c.keeps_promises.ensures.nodes.placed c.stays_legal.ensures c.requires.out in
    subst (λ (n : NodesView). IsSome (row_of_node n.rows a.node)) (sym c.nodes-in-None.ensures) h.there

pub load_task-requires-clause-loadable : goal.load_task-requires-clause-loadable
load_task-requires-clause-loadable g c =
    let v = c.args.tree.now in
    let a = place_view c.args.at in
    let h = c.outs_are_tasks_or_ends.ensures v.history.job v.nodes c.args.worker a (state_of v.history) c.keeps_promises.ensures.nodes.placed c.stays_legal.ensures c.requires.out in
    let is = found_first v.nodes.rows c.nodes.result.now.rows c.args.worker a (state_of v.history) None (ap (λ (n : NodesView). n.rows) c.nodes.ensures) h
    (sym c.in-None.is ∙ c.in_ok-ball.ensures) in
    subst (λ (n : NodesView). HasLoadableBranch n.rows a) (sym c.nodes-in-None.ensures) is.loadable

pub returns-in-Some : goal.returns-in-Some
returns-in-Some g c =
    let v = c.args.tree.now in
    let a = place_view c.args.at in
    let h = c.outs_are_tasks_or_ends.ensures v.history.job v.nodes c.args.worker a (state_of v.history) c.keeps_promises.ensures.nodes.placed c.stays_legal.ensures c.requires.out in
    found_first v.nodes.rows c.nodes.result.now.rows c.args.worker a (state_of v.history) (Some c.in-Some.ball) (ap (λ (n : NodesView). n.rows) c.nodes.ensures) h
    (sym c.in-Some.is ∙ c.in_ok-ball.ensures)
