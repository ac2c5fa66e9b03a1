use Rattle.std.proofs.Common.{subst}
use Rattle.std.specs.Prelude.{IfOk}
use Rattle.tree_model.specs.EventViews.{place_view}
use Rattle.tree_nodes.specs.Rows.{credit_view}
use Rattle.tree_closing.specs.Closings.{ComesToRest}
use Rattle.public_tree.specs.AnsweringAtOnce.{run_credit}
use Rattle.tree_core.specs.Histories.{TreeView}
use Rattle.tree_core.proofs.tree.Tree.rest_of_run.Goals as goal

pub returns-clause-rests : goal.returns-clause-rests
returns-clause-rests g c =
    subst (λ (v : TreeView). IfOk c.rest_of_run.result
    (λ r. ComesToRest v.nodes (place_view c.args.at) (run_credit c.args.inferences) (place_view r.end) (credit_view r.credit) r.beside))
    c.self.view_is c.rest_of_run.ensures.rests
