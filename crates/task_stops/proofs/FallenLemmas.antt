-- What a ball leaves of a branch, as the body of a node.
use Rattle.std.proofs.Common.{◌≡◌, ℕ, suc, List, [], ◌∷◌, map, Option, Some, refl, sym, ap, ap₂, ◌∙◌}
use Rattle.au_term.specs.Term.{Term}
use Rattle.au_model.specs.Terms.Copies.{copied}
use Rattle.run_model.specs.Machine.Entries.{Entry, EndEntry}
use Rattle.run_model.specs.Programs.Jobs.{Job}
use Rattle.tree_model.specs.Floors.{node_of, query_kind, query_node}
use Rattle.tree_model.specs.Gates.{ball_scope}
use Rattle.tree_model.specs.Levels.{Level, Place, plug, place_at}
use Rattle.tree_model.specs.Nodes.{Status}
use Rattle.tree_nodes.specs.Bodies.{Body, BodyKind, ChoiceBody, ConditionBody, CatchBody, FindallBody, QueryBody, Branching, Reading, new_node, node_kind}
use Rattle.tree_nodes.specs.Rows.{AlternativeCell, Rows, InnerCell}
use Rattle.tree_nodes.specs.TreeTables.{NodesView, IsTableOf, cell_of, stored_body}
use Rattle.tree_nodes.proofs.PlaceLemmas.{AreRound, taken_out}
use Rattle.prune_ops.specs.Falls.{ReadsBeside}
use Rattle.branch_reading.specs.NumberedReadings.{NumberedTreesAreSettled}
use Rattle.branch_reading.specs.Readings.{reading}
use Rattle.interleaving.proofs.EntryLemmas.{length-floor}
use Rattle.task_region.specs.PlacesUp.{missing_body}
use Rattle.task_stops.specs.Landings.{landing}
use Rattle.task_stops.specs.BranchLandings.{LeavesAt}
use Rattle.task_stops.specs.LandingBodies.{query_or, query_up, IsEndBody, IsLandingBody, left_by_ball, LandingsRead, ReadsAsLanded}
use Rattle.task_stops.proofs.AllLandingLemmas.{balls_land}
use Rattle.task_stops.proofs.RecoveryLemmas.{reads_at}
use Rattle.task_stops.proofs.QuietLemmas.{BranchLaws}

by_node_kind : (k : BodyKind) (n further : ℕ) → query_or k n further ≡ query_kind (node_kind k) n further
by_node_kind ChoiceBody n further = refl
by_node_kind ConditionBody n further = refl
by_node_kind (CatchBody catcher recovery) n further = refl
by_node_kind (FindallBody results list) n further = refl
by_node_kind QueryBody n further = refl

-- the innermost query's node
query_there : (rows : Rows) (read : Reading) (levels : List Level) (way : Branching) (cell : AlternativeCell) → AreRound rows read levels way cell
    → query_up rows (map place_at levels) ≡ query_node levels
query_there rows read [] way cell h = refl
query_there rows read (v ∷ up) way cell h =
    let round = h.1.1.1 in
    ap₂ (λ (b : Body) n. query_or b.kind v.number n) (ap (stored_body missing_body) round.row) (query_there rows read up h.1.0 (InnerCell v.number) h.1.1.2)
    ∙ (by_node_kind h.0.kind v.number (query_node up) ∙ ap (λ k. query_kind k v.number (query_node up)) (sym round.kind))

-- the end of a query
end_reads : (job : Job) (rows : Rows) (a : Place) (ball : Term) (body : Body) → IsEndBody ball body
    → ReadsBeside (reading job) rows a body (EndEntry (Some (copied ball 0)))
end_reads job rows a ball body m r up b is parent on hang n = ap (new_node (reading job) ((r.body, 1) ∷ b) n) m.made

module _ (settled : NumberedTreesAreSettled) (laws : BranchLaws) (job : Job) (nodes : NodesView) (levels : List Level) (status : Status) (ball : Term) (mark : Option ℕ)
    (scope : ℕ) (body : Body) (table : IsTableOf nodes (reading job) (plug levels status)) where
  abbrev left : List Entry
  left = left_by_ball ball mark levels

  query_is : query_up nodes.rows (map place_at levels) ≡ query_node levels
  query_is =
      let k = taken_out nodes.rows (reading job) levels status table.placed in
      query_there nodes.rows (reading job) levels k.way (cell_of status) k.around

  read_as : (places : List Place) → LeavesAt job nodes.rows ball levels places left → IsLandingBody nodes.rows (map place_at levels) ball places scope body
      → ReadsAsLanded job nodes.rows levels ball mark scope body
  read_as [] lands made = record {
    scope_is = ap (ball_scope levels) lands ∙ (sym query_is ∙ sym made.0);
    reads = record { entry = _; under = _; top = lands; beside = end_reads job nodes.rows (record { node = scope; index = 0 }) ball body made.1 };
  }
  read_as (p ∷ above) lands made = record {
    scope_is = ap (ball_scope levels) lands.leaves ∙ (ap (λ n. node_of levels (suc n)) (length-floor lands.up) ∙ (lands.scope ∙ sym made.0));
    reads = record {
      entry = _;
      under = _;
      top = lands.leaves;
      beside = reads_at laws job nodes.rows levels p above ball left body lands made.1 scope made.0;
    };
  }

pub landings_read : NumberedTreesAreSettled → BranchLaws → LandingsRead
landings_read settled laws job nodes levels status ball mark scope body table sound numbered on made =
    read_as settled laws job nodes levels status ball mark scope body table (landing nodes.rows ball mark (map place_at levels))
    (balls_land settled job nodes levels status ball mark table sound numbered on) made
