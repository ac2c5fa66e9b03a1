use Rattle.std.proofs.Common.{subst}
use Rattle.tree_model.specs.EventViews.{place_view}
use Rattle.tree_model.specs.Nodes.{TakenBy}
use Rattle.public_tree.specs.PublicTrees.{PublicView, IsHeldAt}
use Rattle.public_tree.proofs.HandOutLemmas.{held_at}
use Rattle.public_tree.proofs.public.PublicTree.hold.Goals as goal

pub returns-clause-held : goal.returns-clause-held
returns-clause-held c =
    let a = place_view c.args.at in
    subst (λ (p : PublicView). IsHeldAt p.nodes c.set.new.self a (TakenBy c.args.worker)) c.self.view_is
    (held_at c.self.inside.nodes c.set.new.self a c.spent-spent.result (TakenBy c.args.worker) c.set.ensures.set c.spent-spent.ensures)
