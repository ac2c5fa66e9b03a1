use Rattle.tree_model.specs.EventViews.{place_view}
use Rattle.tree_nodes.proofs.SomeLemmas.{on_err, gathers_some, gathers_fold}
use Rattle.tree_nodes.proofs.nodes.Nodes.fold_step.Goals as goal

pub returns-in_err-gather-clause-some : goal.returns-in_err-gather-clause-some
returns-in_err-gather-clause-some c =
    on_err c.from_residual.result _
    (gathers_some c.args.self.now.rows (place_view c.args.at) (place_view c.in-Some.above) c.args.gathered.now c.in-Some.ensures.parent c.in-Some.ensures.above.0
    c.in_err-gather.ensures.some)

pub returns-clause-step : goal.returns-clause-step
returns-clause-step c =
    gathers_fold c.args.self.now.rows (place_view c.args.at) (place_view c.in-Some.above) c.args.gathered.now c.in-Some.ensures.parent c.gather.new.gathered
    c.spend.new.self c.in_ok-gather.field-0 c.spent.result c.spent.ensures c.if-not-branch.false c.in_ok-gather.ensures.sum c.spend.ensures
