use Rattle.std.proofs.Common.{◌≡◌, List, map, ap, ◌∙◌}
use Rattle.std.specs.Prelude.{is_some}
use Rattle.std.specs.List.{list_any}
use Rattle.tree_model.specs.EventViews.{place_view}
use Rattle.tree_model.specs.Legality.{is_task}
use Rattle.public_tree.specs.declared.lost.LostTask.{LostTask}
use Rattle.public_tree.specs.LostTasks.{task_view, lost_index}
use Rattle.public_tree.specs.PublicTrees.{PublicView}
use Rattle.public_tree.proofs.LostLemmas.{some_lost}
use Rattle.public_tree.proofs.public.PublicTree.is_lost.Goals as goal

pub returns : goal.returns
returns c =
    let a = place_view c.args.at in
    let w = c.args.worker in
    let found : c.is_some.result ≡ is_some c.index_of.result = c.is_some.ensures in
    found
    ∙ (ap is_some (c.index_of.ensures.index ∙ ap (λ (xs : List LostTask). lost_index 0 w a (map task_view xs)) c.deref.ensures.value)
    ∙ (some_lost w a (map task_view c.self.inside.lost.items) 0
    ∙ ap (λ (p : PublicView). list_any (is_task w a) p.lost) c.self.view_is))
