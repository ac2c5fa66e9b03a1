-- A table round a place of its tree, and at the place itself.
use Rattle.std.proofs.Common.{◌≡◌, ℕ, suc, ◌+◌, List, [], ◌∷◌, ◌++◌, length, Option, Some, None, refl, sym, ap, ◌∙◌, arith}
use Rattle.std.proofs.Common.{subst, append_assoc, length-append}
use Rattle.tree_model.specs.Nodes.{Alternatives, alternative, Status, Inner}
use Rattle.tree_model.specs.Nodes.{nodes_among, nodes_below}
use Rattle.tree_model.specs.Levels.{Level, put_left, level_node, plug, Place, place_at}
use Rattle.tree_nodes.specs.Bodies.{Body, Branching, Reading, node_kind}
use Rattle.tree_nodes.specs.Rows.{AlternativeCell, InnerCell, Rows, row_of_node}
use Rattle.tree_nodes.specs.TreeTables.{cell_of, cells_of, IsBelow, AreIn, IsIn, above_of}

-- the cells of alternatives whose nearest stands first
abbrev pub left_cells : List (ℕ × Status) → List (ℕ × AlternativeCell)
left_cells [] = []
left_cells (a ∷ left) = left_cells left ++ (a.0, cell_of a.1) ∷ []

abbrev pub place_number : ℕ → ℕ → Option Place
place_number n i = Some (record { node = n; index = i })

abbrev pub AreLeftIn : Rows → Reading → Branching → Body → ℕ → List (ℕ × Status) → Type 0
AreLeftIn rows read way body n [] = Unit {0}
AreLeftIn rows read way body n (a ∷ left) = AreLeftIn rows read way body n left
    × IsIn rows read ((body, length left) ∷ way) (place_number n (length left)) a.1

-- a node round an alternative with this cell
pub record IsRound (rows : Rows) (read : Reading) (up : List Level) (above : Branching) (body : Body) (v : Level) (cell : AlternativeCell) : Type 0 where
  pub row : row_of_node rows v.number
      ≡ Some (record { parent = above_of up; body = body; cells = left_cells v.left ++ (v.spent, cell) ∷ cells_of v.right })
  pub kind : v.kind ≡ node_kind body.kind
  pub below : IsBelow (above_of up) v.number
  pub left : AreLeftIn rows read above body v.number v.left
  pub right : AreIn rows read above body v.number (suc (length v.left)) v.right

-- all nodes round a place with this cell, by the way down to it
abbrev pub AreRound : Rows → Reading → List Level → Branching → AlternativeCell → Type 0
AreRound rows read [] way cell = way ≡ []
AreRound rows read (v ∷ up) way cell =
    (body : Body) × ((above : Branching) × ((way ≡ (body, length v.left) ∷ above) × IsRound rows read up above body v cell
    × AreRound rows read up above (InnerCell v.number)))

pub length-left_cells : (left : List (ℕ × Status)) → length (left_cells left) ≡ length left
length-left_cells [] = refl
length-left_cells (a ∷ left) =
    let h : length (left_cells left) ≡ length left = length-left_cells left in
    let k : length (left_cells left ++ (a.0, cell_of a.1) ∷ []) ≡ length (left_cells left) + 1 = length-append (left_cells left) ((a.0, cell_of a.1) ∷ []) in
    omega (arith, h, k)

pub cells_of-put : (left : List (ℕ × Status)) (others : Alternatives) → cells_of (put_left left others) ≡ left_cells left ++ cells_of others
cells_of-put [] others = refl
cells_of-put (a ∷ left) others = cells_of-put left (alternative a.0 a.1 others)
    ∙ sym (append_assoc (left_cells left) ((a.0, cell_of a.1) ∷ []) (cells_of others))

pub are_in-split : (rows : Rows) (read : Reading) (way : Branching) (body : Body) (n : ℕ) (left : List (ℕ × Status)) (others : Alternatives)
    → AreIn rows read way body n 0 (put_left left others) → AreLeftIn rows read way body n left × AreIn rows read way body n (length left) others
are_in-split rows read way body n [] others h = (tt, h)
are_in-split rows read way body n (a ∷ left) others h =
    let k = are_in-split rows read way body n left (alternative a.0 a.1 others) h in
    ((k.0, k.1.0), k.1.1)

pub are_in-join : (rows : Rows) (read : Reading) (way : Branching) (body : Body) (n : ℕ) (left : List (ℕ × Status)) (others : Alternatives)
    → AreLeftIn rows read way body n left → AreIn rows read way body n (length left) others → AreIn rows read way body n 0 (put_left left others)
are_in-join rows read way body n [] others h k = k
are_in-join rows read way body n (a ∷ left) others h k = are_in-join rows read way body n left (alternative a.0 a.1 others) h.0 (h.1, k)

-- what the table has at a place
pub record IsPlaced (rows : Rows) (read : Reading) (levels : List Level) (status : Status) : Type 0 where
  pub way : Branching
  pub around : AreRound rows read levels way (cell_of status)
  pub inside : IsIn rows read way (above_of levels) status

pub taken_out : (rows : Rows) (read : Reading) (levels : List Level) (status : Status) → IsIn rows read [] None (plug levels status)
    → IsPlaced rows read levels status
taken_out rows read [] status h = record { way = []; around = refl; inside = h }
taken_out rows read (v ∷ up) status h =
    let k = taken_out rows read up (Inner (level_node v status)) h in
    let body = k.inside.0 in
    let facts = k.inside.1 in
    let parts = are_in-split rows read k.way body v.number v.left (alternative v.spent status v.right) facts.3 in
    let row : row_of_node rows v.number
    ≡ Some (record { parent = above_of up; body = body; cells = left_cells v.left ++ (v.spent, cell_of status) ∷ cells_of v.right }) = facts.0
    ∙ ap (λ (cells : List (ℕ × AlternativeCell)). Some (record { parent = above_of up; body = body; cells = cells }))
    (cells_of-put v.left (alternative v.spent status v.right)) in
    record {
      way = (body, length v.left) ∷ k.way;
      around = (body, (k.way, (refl, record { row = row; kind = facts.1; below = facts.2; left = parts.0; right = parts.1.1 }, k.around)));
      inside = parts.1.0;
    }

pub put_in : (rows : Rows) (read : Reading) (levels : List Level) (way : Branching) (status : Status) → AreRound rows read levels way (cell_of status)
    → IsIn rows read way (above_of levels) status → IsIn rows read [] None (plug levels status)
put_in rows read [] way status h k = subst (λ (w : Branching). IsIn rows read w None status) h k
put_in rows read (v ∷ up) way status h k =
    let body = h.0 in
    let above = h.1.0 in
    let round = h.1.1.1 in
    let here = subst (λ (w : Branching). IsIn rows read w (Some (place_at v)) status) h.1.1.0 k in
    let row : row_of_node rows v.number
    ≡ Some (record { parent = above_of up; body = body; cells = cells_of (put_left v.left (alternative v.spent status v.right)) }) = round.row
    ∙ ap (λ (cells : List (ℕ × AlternativeCell)). Some (record { parent = above_of up; body = body; cells = cells }))
    (sym (cells_of-put v.left (alternative v.spent status v.right))) in
    put_in rows read up above (Inner (level_node v status)) h.1.1.2
    (body, (row, round.kind, round.below, are_in-join rows read above body v.number v.left (alternative v.spent status v.right) round.left (here, round.right)))

-- numbers of nodes round a place
abbrev pub nodes_left : List (ℕ × Status) → ℕ
nodes_left [] = 0
nodes_left (a ∷ left) = nodes_below a.1 + nodes_left left

abbrev pub nodes_around : List Level → ℕ
nodes_around [] = 0
nodes_around (v ∷ up) = nodes_around up + (1 + (nodes_left v.left + nodes_among v.right))

nodes-put : (left : List (ℕ × Status)) (others : Alternatives) → nodes_among (put_left left others) ≡ nodes_left left + nodes_among others
nodes-put [] others = omega arith
nodes-put (a ∷ left) others =
    let h : nodes_among (put_left left (alternative a.0 a.1 others)) ≡ nodes_left left + (nodes_below a.1 + nodes_among others)
    = nodes-put left (alternative a.0 a.1 others) in
    omega (arith, h)

pub nodes_plug : (levels : List Level) (status : Status) → nodes_below (plug levels status) ≡ nodes_around levels + nodes_below status
nodes_plug [] status = omega arith
nodes_plug (v ∷ up) status =
    let h : nodes_below (plug up (Inner (level_node v status)))
    ≡ nodes_around up + (1 + nodes_among (put_left v.left (alternative v.spent status v.right))) = nodes_plug up (Inner (level_node v status)) in
    let k : nodes_among (put_left v.left (alternative v.spent status v.right))
    ≡ nodes_left v.left + (nodes_below status + nodes_among v.right) = nodes-put v.left (alternative v.spent status v.right) in
    omega (arith, h, k)
