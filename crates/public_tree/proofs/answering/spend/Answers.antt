use Rattle.std.proofs.Common.{ℕ, ◌+◌, subst}
use Rattle.tree_model.specs.EventViews.{place_view}
use Rattle.tree_model.specs.Nodes.{TakenBy}
use Rattle.tree_nodes.specs.Changes.{SetsCell}
use Rattle.tree_nodes.specs.Rows.{PendingCell}
use Rattle.public_tree.proofs.AnsweringLemmas.{spends_at}
use Rattle.public_tree.proofs.answering.spend.Goals as goal

pub returns-clause-spends : goal.returns-clause-spends
returns-clause-spends c =
    let old = c.args.nodes.now in
    let a = place_view c.args.at in
    let w = c.args.worker in
    let set : SetsCell old c.set.new.self a (c.spent.result + 1) (PendingCell (TakenBy w))
    = subst (λ (k : ℕ). SetsCell old c.set.new.self a k (PendingCell (TakenBy w))) c.in-Some.ensures.1 c.set.ensures.set in
    spends_at old c.set.new.self w a c.spent.result c.spent.ensures set
