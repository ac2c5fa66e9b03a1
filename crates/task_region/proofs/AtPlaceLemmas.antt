-- By the rows, an alternative has left what its way says.
use Rattle.std.proofs.Common.{◌≡◌, List, [], ◌∷◌, length, ◌++◌, slice_get, Option, Some, None, refl, sym, ap, ◌∙◌}
use Rattle.std.specs.Prelude.{is_some, IsSome}
use Rattle.clause_compile.specs.declared.event.Branch.{Branch}
use Rattle.tree_model.specs.Levels.{Level, place_at}
use Rattle.tree_nodes.specs.Bodies.{Body, Branching}
use Rattle.tree_nodes.specs.Rows.{Rows, row_of_node}
use Rattle.tree_nodes.specs.TreeTables.{IsWayTo, stored_body}
use Rattle.branch_reading.specs.BranchSegments.{above_in_query, next_number, own_segments, segments_on}
use Rattle.branch_reading.specs.SettledWays.{branch_items, items_on}
use Rattle.task_region.specs.PlacesUp.{missing_body, items_at_place, number_left}

module _ (rows : Rows) (v : Level) (up : List Level) (way : Branching) (on : IsWayTo rows (v ∷ up) way) where
  abbrev made : Body
  made = stored_body missing_body (row_of_node rows v.number)

  body_there : made ≡ on.0.body
  body_there = ap (stored_body missing_body) on.1.1.0

  pub items_at : items_on way ≡ items_at_place rows (place_at v)
  items_at = ap items_on on.1.1.1 ∙ ap (λ (b : Body). branch_items (slice_get b.branches (length v.left))) (sym body_there)

  pub number_at : next_number (segments_on way) ≡ number_left rows (place_at v)
  number_at =
      ap (λ (w : Branching). next_number (segments_on w)) on.1.1.1
      ∙ (by_branch on.0.body (slice_get on.0.body.branches (length v.left))
      ∙ ap (λ (b : Body). next_number (own_segments (slice_get b.branches (length v.left)) ++ b.segment ∷ [])) (sym body_there))
    where
      by_branch : (b : Body) (o : Option Branch) → next_number (own_segments o ++ b.segment ∷ above_in_query b.kind (segments_on on.1.0))
          ≡ next_number (own_segments o ++ b.segment ∷ [])
      by_branch b None = refl
      by_branch b (Some branch) = refl

  pub row_there : IsSome (row_of_node rows v.number)
  row_there = ap is_some on.1.1.0
