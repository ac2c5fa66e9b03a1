-- The nodes of queries on the way down to a place, by the tree and by the nodes.
use Rattle.std.proofs.Common.{◌≡◌, ◌+◌, List, [], ◌∷◌, refl, sym, ap, ap₂, ◌∙◌}
use Rattle.tree_model.specs.Levels.{Level}
use Rattle.tree_nodes.specs.Bodies.{Body, BodyKind, ChoiceBody, ConditionBody, CatchBody, FindallBody, QueryBody, Branching, Reading, node_kind}
use Rattle.tree_nodes.specs.Rows.{AlternativeCell, InnerCell, Rows}
use Rattle.tree_nodes.specs.TreeTables.{IsWayTo, stored_body}
use Rattle.tree_nodes.proofs.PlaceLemmas.{AreRound}
use Rattle.branch_reading.specs.Readings.{query_count, queries_on}
use Rattle.query_laws.specs.QueriesCounted.{one_for, queries_above}

one_of : (kind : BodyKind) → query_count kind ≡ one_for (node_kind kind)
one_of ChoiceBody = refl
one_of ConditionBody = refl
one_of (CatchBody catcher recovery) = refl
one_of (FindallBody results list) = refl
one_of QueryBody = refl

pub queries_same : (rows : Rows) (read : Reading) (levels : List Level) (way other : Branching) (cell : AlternativeCell)
    → AreRound rows read levels way cell → IsWayTo rows levels other → queries_on other ≡ queries_above levels
queries_same rows read [] way other cell r h = ap queries_on h
queries_same rows read (v ∷ up) way other cell r h =
    let round = r.1.1.1 in
    let body : h.0.body ≡ r.0 = ap (stored_body r.0) (sym h.1.1.0 ∙ round.row) in
    let above = queries_same rows read up r.1.0 h.1.0 (InnerCell v.number) r.1.1.2 h.1.1.2 in
    ap queries_on h.1.1.1
    ∙ ap₂ (λ m n. m + n) (ap (λ (b : Body). query_count b.kind) body ∙ (one_of r.0.kind ∙ ap one_for (sym round.kind))) above
