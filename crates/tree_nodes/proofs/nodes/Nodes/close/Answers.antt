use Rattle.std.proofs.Common.{◌≡◌, ℕ, Option, Some, sym, ap, ◌∙◌}
use Rattle.std.specs.Option.{option_map}
use Rattle.tree_model.specs.EventViews.{place_view}
use Rattle.tree_nodes.specs.Rows.{AlternativeCell, cell_at, credit_view}
use Rattle.tree_nodes.specs.TreeTables.{NodesView}
use Rattle.tree_nodes.proofs.FoldLemmas.{closes_at, closes_same}
use Rattle.tree_nodes.proofs.nodes.Nodes.close.Goals as goal

pub returns-clause-closed : goal.returns-clause-closed
returns-clause-closed c =
    let old = c.args.self.now in
    let middle = c.set.new.self in
    let new : NodesView = record { rows = c.self.inside.table; first = c.self.inside.first; live = c.self.inside.live; spare = c.saturating_sub-self-inside.result } in
    let a = place_view c.args.at in
    let b = place_view c.in_ok-end.end in
    let spent : (cell : AlternativeCell) (there : ℕ) → cell_at old.rows b ≡ Some (there, cell) → c.spent-spent.result ≡ there
    = λ cell there e. (let z : Some c.spent-spent.result ≡ Some there = sym c.spent-spent.ensures ∙ ap (λ (o : Option (ℕ × AlternativeCell)). option_map (λ x. x.0) o) e in cc z) in
    closes_same old middle new a (credit_view c.args.credit)
    (ap (λ (o : NodesView). o.rows) c.self.view_is) (ap (λ (o : NodesView). o.first) c.self.view_is) (ap (λ (o : NodesView). o.live) c.self.view_is)
    (closes_at old middle a (credit_view c.args.credit) b (credit_view c.in_ok-end.total) c.spent-spent.result c.in_ok-end.ensures.folds spent c.set.ensures.set)
