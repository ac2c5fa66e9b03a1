use Rattle.std.proofs.Common.{◌≡◌, ap, ◌∙◌, Some}
use Rattle.std.proofs.lemmas.Result.{IfOk-weaker}
use Rattle.tree_nodes.specs.Rows.{cell_view, credit_view}
use Rattle.tree_nodes.specs.declared.state.AltState.{AltState}
use Rattle.findall_tree.specs.Bags.{IsBagOf}
use Rattle.findall_tree.proofs.BagLemmas.{bag_is}
use Rattle.findall_tree.proofs.bag.bag_of.Goals as goal

pub returns : goal.returns
returns c =
    IfOk-weaker c.copied.result (λ bag. bag.items ≡ c.in-Closed.credit.records) (λ bag. IsBagOf c.args.nodes.now c.args.node bag.items)
    (λ bag p. bag_is c.args.nodes.now c.args.node (credit_view c.in-Closed.credit) bag.items
    (c.state.ensures ∙ ap (λ (s : AltState). Some (cell_view s)) c.in-Closed.is) p) c.copied.ensures
