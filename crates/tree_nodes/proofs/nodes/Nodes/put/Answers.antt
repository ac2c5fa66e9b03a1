use Rattle.std.proofs.Common.{refl, subst, sym}
use Rattle.std.specs.Prelude.{IsSome}
use Rattle.tree_model.specs.EventViews.{place_view}
use Rattle.tree_nodes.specs.Rows.{cell_at, cell_view}
use Rattle.tree_nodes.specs.Siblings.{alternative_view}
use Rattle.tree_nodes.specs.TreeTables.{NodesView}
use Rattle.tree_nodes.specs.Changes.{Fits}
use Rattle.tree_nodes.specs.Fronts.{KeepsFront}
use Rattle.tree_nodes.specs.TakingBack.{IsTakenBack}
use Rattle.tree_nodes.proofs.FrontKeptLemmas.{put_kept}
use Rattle.tree_nodes.proofs.nodes.Nodes.put.Goals as goal

pub invariant_of-self : goal.invariant_of-self
invariant_of-self c =
    let old : NodesView = record { rows = c.self.inside.table; first = c.self.inside.first; live = c.self.inside.live; spare = c.self.inside.spare } in
    let new : NodesView = record { rows = c.put_cell.new.table; first = c.self.inside.first; live = c.put_cell.new.live; spare = c.self.inside.spare } in
    let a = place_view c.args.at in
    let cell = cell_view c.args.alternative.state in
    let there : IsSome (cell_at old.rows a) = subst (λ (o : NodesView). IsSome (cell_at o.rows a)) (sym c.self.view_is) c.requires.there in
    let fits : Fits (cell_at old.rows a) cell = subst (λ (o : NodesView). Fits (cell_at o.rows a) cell) (sym c.self.view_is) c.requires.fits in
    let keeps : KeepsFront old.rows a cell c.front_limit-limit.result = subst (λ (o : NodesView). KeepsFront o.rows a cell c.front_limit-limit.result) (sym c.self.view_is) c.front_limit-limit.ensures in
    put_kept old new a (alternative_view c.args.alternative) c.front_limit-limit.result c.self.inside.front.items c.retreat.new.front.items c.self.invariant there c.put_cell.ensures.put refl fits keeps
    c.retreat.ensures

pub returns-clause-put : goal.returns-clause-put
returns-clause-put c =
    let old : NodesView = record { rows = c.self.inside.table; first = c.self.inside.first; live = c.self.inside.live; spare = c.self.inside.spare } in
    let new : NodesView = record { rows = c.put_cell.new.table; first = c.self.inside.first; live = c.put_cell.new.live; spare = c.self.inside.spare } in
    let a = place_view c.args.at in
    let cell = alternative_view c.args.alternative in
    subst (λ (o : NodesView). IsTakenBack o c.advance_below.new.self a cell) c.self.view_is
    (subst (λ (o : NodesView). IsTakenBack old o a cell) (sym c.advance_below.ensures) (record { state = c.put_cell.ensures.put; first = refl }))
