-- What a closed goal side has collected.
use Rattle.std.proofs.Common.{◌≡◌, ℕ, List, [], Option, Some, None, sym, ap, ◌∙◌}
use Rattle.std.specs.Option.{option_map}
use Rattle.au_term.specs.Term.{Term}
use Rattle.tree_model.specs.Credits.{Credit}
use Rattle.tree_model.specs.Nodes.{Closed}
use Rattle.tree_nodes.specs.Rows.{AlternativeCell, PendingCell, InnerCell, ClosedCell, cell_at}
use Rattle.tree_nodes.specs.TreeTables.{NodesView}
use Rattle.tree_nodes.proofs.WalkLemmas.{cell_here}
use Rattle.findall_tree.specs.Bags.{goal_side, IsBagOf}

abbrev cell_records : Option AlternativeCell → List Term
cell_records None = []
cell_records (Some (PendingCell hold)) = []
cell_records (Some (InnerCell n)) = []
cell_records (Some (ClosedCell credit)) = credit.records

pub bag_is : (nodes : NodesView) (n : ℕ) (c : Credit) (bag : List Term) → option_map (λ x. x.1) (cell_at nodes.rows (goal_side n)) ≡ Some (ClosedCell c)
    → bag ≡ c.records → IsBagOf nodes n bag
bag_is nodes n c bag e b read v up d at s =
    let here = ap (cell_at nodes.rows) (sym at) ∙ cell_here nodes read v up (Closed d) s in
    b ∙ ap cell_records (sym e ∙ ap (λ (o : Option (ℕ × AlternativeCell)). option_map (λ x. x.1) o) here)
