-- The way down to a place is what the rows say.
use Rattle.std.proofs.Common.{◌≡◌, ℕ, List, [], ◌∷◌, length, Option, Some, None, sym, ap, ◌∙◌}
use Rattle.tree_model.specs.Levels.{Level, Place, place_at}
use Rattle.tree_nodes.specs.Bodies.{Body, Branching}
use Rattle.tree_nodes.specs.Rows.{StoredNode, Rows, row_of_node, node_parent}
use Rattle.tree_nodes.specs.TreeTables.{IsWayTo, above_of}
use Rattle.tree_closing.specs.Closings.{HangTogether}

abbrev body_or : Body → Option StoredNode → Body
body_or b None = b
body_or b (Some r) = r.body

longer : (a b : Body) (i j : ℕ) (up down : Branching) → a ≡ b → i ≡ j → up ≡ down → ◌≡◌ {A = Branching} ((a, i) ∷ up) ((b, j) ∷ down)
longer a b i j up down e f g = cc

pub ways_same : (rows : Rows) (up other : List Level) (way back : Branching) → IsWayTo rows up way → IsWayTo rows other back → HangTogether rows up → HangTogether rows other
    → above_of up ≡ above_of other → way ≡ back
ways_same rows [] [] way back on there h k e = on ∙ sym there
ways_same rows [] (w ∷ other) way back on there h k e = absurd (cc e)
ways_same rows (v ∷ up) [] way back on there h k e = absurd (cc e)
ways_same rows (v ∷ up) (w ∷ other) way back on there h k e =
    let at : place_at v ≡ place_at w = cc e in
    let number : v.number ≡ w.number = ap (λ (p : Place). p.node) at in
    let index : length v.left ≡ length w.left = ap (λ (p : Place). p.index) at in
    let row : Some on.0 ≡ Some there.0 = sym on.1.1.0 ∙ (ap (row_of_node rows) number ∙ there.1.1.0) in
    let body : on.0.body ≡ there.0.body = ap (body_or on.0.body) row in
    let parents : Some (above_of up) ≡ Some (above_of other) = sym h.0 ∙ (ap (node_parent rows) number ∙ k.0) in
    let parent : above_of up ≡ above_of other = cc parents in
    let above : on.1.0 ≡ there.1.0 = ways_same rows up other on.1.0 there.1.0 on.1.1.2 there.1.1.2 h.1 k.1 parent in
    on.1.1.1 ∙ (longer on.0.body there.0.body (length v.left) (length w.left) on.1.0 there.1.0 body index above ∙ sym there.1.1.1)
