-- Bodies that read as the entries to which a run has come.
use Rattle.std.proofs.Common.{◌≡◌, ℕ, true, List, ◌∷◌, length, Some, sym, ap₂, ◌∙◌}
use Rattle.run_model.specs.Machine.Entries.{Entry}
use Rattle.tree_model.specs.Legality.{run_of, run_fits}
use Rattle.tree_model.specs.Levels.{Spot, levels_of}
use Rattle.tree_model.specs.Shapes.{placed}
use Rattle.tree_model.specs.TreeStates.{TreeState}
use Rattle.tree_nodes.specs.Bodies.{Body, Branching, Reading}
use Rattle.tree_nodes.specs.Rows.{Rows}
use Rattle.tree_nodes.specs.TreeTables.{IsWayTo}
use Rattle.public_tree.specs.Publishing.{nest, body_sizes}
use Rattle.branch_shapes.specs.Groups.{stacked}
use Rattle.branch_shapes.specs.GroupedRuns.{RunsToGroups, GroupedRunsRead}
use Rattle.branch_shapes.proofs.GroupBodyLemmas.{bodies_are_placed}
use Rattle.branch_shapes.proofs.GroupShapeLemmas.{groups_fit}

module _ (rows : Rows) (bodies : List Body) (k : ℕ) (read : Reading) (t : TreeState) (s : Spot) (h : RunsToGroups rows bodies k read t s) where
  run_fits_bodies : run_fits (length (levels_of s)) (body_sizes bodies) (run_of t s k) ≡ true
  run_fits_bodies = ap₂ (run_fits (length (levels_of s))) h.sized h.run ∙ groups_fit (length (levels_of s)) h.current h.groups h.nodes

  same_run : (es : List Entry) → run_of t s k ≡ Some es → h.current ∷ stacked h.groups ≡ es
  same_run es e = let both : Some (h.current ∷ stacked h.groups) ≡ Some es = sym h.run ∙ e in cc

  bodies_placed : (way : Branching) (es : List Entry) → IsWayTo rows (levels_of s) way → run_of t s k ≡ Some es
      → nest read way t.next bodies ≡ placed t.next (body_sizes bodies) (levels_of s) es
  bodies_placed way es w e =
      bodies_are_placed read way t.next (levels_of s) bodies h.current h.groups (h.reads way w)
      ∙ ap₂ (λ sizes run. placed t.next sizes (levels_of s) run) (sym h.sized) (same_run es e)

pub grouped_runs_read : GroupedRunsRead
grouped_runs_read rows bodies w a k read t h = record {
  fits = λ s at. run_fits_bodies rows bodies k read t s (h s at);
  reads = λ s way es at path run. bodies_placed rows bodies k read t s (h s at) way es path run;
}
