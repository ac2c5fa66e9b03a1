use Rattle.std.proofs.Common.{List, sym, subst}
use Rattle.std.specs.Prelude.{is_ok}
use Rattle.tree_nodes.specs.declared.front.Front.{Front}
use Rattle.tree_nodes.specs.TreeTables.{NodesView}
use Rattle.tree_nodes.specs.Fronts.{IsLastOf, IsNextDown}
use Rattle.tree_nodes.proofs.FrontKeptLemmas.{pushed_kept}
use Rattle.tree_nodes.proofs.nodes.Nodes.go_down.Goals as goal

pub invariant_of-self : goal.invariant_of-self
invariant_of-self c =
    let nodes : NodesView = record { rows = c.self.inside.table; first = c.self.inside.first; live = c.self.inside.live; spare = c.self.inside.spare } in
    let last = c.last_of-last.result in
    let is_last : IsLastOf c.self.inside.front.items last = subst (λ (x : List Front). IsLastOf x last) c.deref.ensures.value c.last_of-last.ensures in
    let next : IsNextDown nodes.rows nodes.first last c.in-Some.next
    = subst (λ (o : NodesView). IsNextDown o.rows o.first last c.in-Some.next) (sym c.self.view_is) c.in-Some.ensures in
    pushed_kept nodes c.self.inside.front.items c.push.new.self.items last c.in-Some.next (is_ok c.push.result) c.self.invariant is_last next c.push.ensures.items
