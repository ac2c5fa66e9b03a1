use Rattle.std.proofs.Common.{◌≡◌, ◌<◌, ℕ, Bool, List, length, map, slice_set, subst, arith}
use Rattle.std.specs.Bool.{OnTrue}
use Rattle.std.proofs.lemmas.List.{length-map, length-set}
use Rattle.tree_nodes.specs.Rows.{AlternativeCell, cell_view}
use Rattle.tree_nodes.specs.Siblings.{alternative_view, ArePassed, CountsAs}
use Rattle.tree_nodes.proofs.SiblingLemmas.{item_at, passed-set, passed-as}
use Rattle.tree_nodes.proofs.siblings.Siblings.passed_with.Goals as goal
use Rattle.tree_nodes.proofs.siblings.Siblings.passed_with.Goals.{else-index-self-via-then-index-self+else-not-counts_as, else-index-self-via-else-index-self}

pub returns-else-index-self : goal.returns-else-index-self
returns-else-index-self c =
    let items = c.self.inside.items.items in
    let cells = map alternative_view items in
    let p = c.self.inside.passed in
    let i = c.args.index in
    let now = alternative_view c.args.alternative.now in
    let len = length-map items alternative_view in
    let req : i < length cells = rw (c.self.view_is) c.requires in
    let l : i < length items = omega (arith, len, req) in
    let stays : ArePassed (slice_set cells i now) p = elim c.else-index-self.branch [
      | else-index-self-via-then-index-self+else-not-counts_as w ↦
          (let was = w.index.result.now in
          let same : CountsAs (cell_view was.state) (cell_view c.args.alternative.now.state)
          = subst (λ (b : Bool). OnTrue b (CountsAs (cell_view was.state) (cell_view c.args.alternative.now.state))) w.if-not-counts_as.false w.counts_as.ensures in
          passed-as (alternative_view was) now same cells p i (item_at items i was l w.index.ensures) c.self.invariant.counted.passed)
      | else-index-self-via-else-index-self w ↦ passed-set cells p i now w.if-index-self.false (length-set cells i now) c.self.invariant.counted.passed
    ] in
    subst (λ (x : List (ℕ × AlternativeCell)). ArePassed (slice_set x i now) p) c.self.view_is stays
