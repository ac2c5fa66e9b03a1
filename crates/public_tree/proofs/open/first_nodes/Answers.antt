use Rattle.std.proofs.Common.{◌≡◌, [], Option, None, length, sym, ap, ◌∙◌, subst, arith}
use Rattle.std.specs.Arc.{arc_value}
use Rattle.std.specs.Global.{Global}
use Rattle.std.specs.declared.sync.Arc.{Arc}
use Rattle.tree_nodes.specs.declared.body.NodeBody.{NodeBody}
use Rattle.tree_nodes.specs.Bodies.{body_view}
use Rattle.tree_nodes.specs.Changes.{AddsFirst}
use Rattle.tree_nodes.specs.TreeTables.{NodesView}
use Rattle.public_tree.specs.Opening.{opening_body, HasNoNode, StandsFirst}
use Rattle.public_tree.proofs.OpeningLemmas.{has_no_node, first_node}
use Rattle.public_tree.proofs.open.first_nodes.Goals as goal

pub returns-in_ok-_number-in-Some : goal.returns-in_ok-_number-in-Some
returns-in_ok-_number-in-Some c =
    let body = body_view (arc_value c.in-Some.body) in
    let was = c.new-nodes.ensures in
    let new = c.add.new.self in
    let k = c.in_ok-_number-in-Some.ensures in
    let n = c.in_ok-_number-in-Some._number in
    let number : n ≡ 0 = k.number ∙ ap (λ (x : NodesView). length x.rows) was in
    let adds : AddsFirst (record { rows = []; first = None; live = 0; spare = 0 }) new n body = subst (λ (x : NodesView). AddsFirst x new n body) was k.added in
    let longer : length new.rows ≡ 1 = (let e = k.grown.length in let f : length c.new-nodes.result.rows ≡ 0 = ap (λ (x : NodesView). length x.rows) was in omega (arith, e, f)) in
    subst (λ (o : Option (Arc NodeBody Global)). StandsFirst (opening_body o) new) (sym c.in-Some.is) (first_node new n body number adds longer)

pub returns-in-None : goal.returns-in-None
returns-in-None c =
    subst (λ (o : Option (Arc NodeBody Global)). StandsFirst (opening_body o) c.new-nodes.result) (sym c.in-None.is)
    (subst HasNoNode (sym c.new-nodes.ensures) has_no_node)
