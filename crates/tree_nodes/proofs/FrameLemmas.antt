-- A table that has changed elsewhere, and one with another cell at a place.
use Rattle.std.proofs.Common.{◌≡◌, ◌≢◌, ℕ, suc, ◌+◌, ◌<◌, ◌≤◌, ◌==◌, List, [], ◌∷◌, ◌++◌, length, Option, Some, None, refl, sym, ap, ◌∙◌, arith}
use Rattle.std.proofs.Common.{subst}
use Rattle.std.proofs.lemmas.List.{set_at}
use Rattle.tree_model.specs.Nodes.{Node, Numbered, Alternatives, none, alternative, Status, Pending, Inner, Closed, nodes_below}
use Rattle.tree_model.specs.Levels.{Level, level_node, plug, Place, place_at}
use Rattle.tree_model.specs.SoundTrees.{one_if, count_among, count_below}
use Rattle.tree_model.proofs.CountLemmas.{count_left, count_around, count_plug, one_if-same}
use Rattle.tree_nodes.specs.Bodies.{Body, Branching, Reading}
use Rattle.tree_nodes.specs.Rows.{AlternativeCell, InnerCell, StoredNode, Rows, row_of_node}
use Rattle.tree_nodes.specs.RowViews.{with_cells, with_state}
use Rattle.tree_nodes.specs.TreeTables.{node_number, cell_of, cells_of, AreIn, IsIn, NodesView, IsRoot, IsTableOf, above_of}
use Rattle.tree_nodes.proofs.PlaceLemmas.{left_cells, AreLeftIn, AreRound, IsPlaced, length-left_cells, taken_out, put_in}
use Rattle.tree_nodes.proofs.PlaceLemmas.{nodes_around, nodes_plug}

-- what is counted has the same rows
abbrev pub Agree : Rows → Rows → (ℕ → ℕ) → Type 0
Agree rows new count = (m : ℕ) → 0 < count m → row_of_node new m ≡ row_of_node rows m

mutual
  pub below_kept : (rows new : Rows) (read : Reading) (way : Branching) (parent : Option Place) (status : Status)
      → Agree rows new (λ m. count_below m status) → IsIn rows read way parent status → IsIn new read way parent status
  below_kept rows new read way parent (Pending hold e) same h = h
  below_kept rows new read way parent (Closed c) same h = tt
  below_kept rows new read way parent (Inner (Numbered n kind alternatives)) same h =
      let own = one_if-same n in
      let one : 0 < one_if (n == n) + count_among n alternatives = omega (arith, own) in
      (h.0, (same n one ∙ h.1.0, h.1.1, h.1.2, among_kept rows new read way h.0 n 0 alternatives (λ m l. same m (omega (arith, l))) h.1.3))

  pub among_kept : (rows new : Rows) (read : Reading) (way : Branching) (body : Body) (n i : ℕ) (others : Alternatives)
      → Agree rows new (λ m. count_among m others) → AreIn rows read way body n i others → AreIn new read way body n i others
  among_kept rows new read way body n i none same h = tt
  among_kept rows new read way body n i (alternative spent status others) same h = (
    below_kept rows new read ((body, i) ∷ way) (Some (record { node = n; index = i })) status (λ m l. same m (omega (arith, l))) h.0,
    among_kept rows new read way body n (suc i) others (λ m l. same m (omega (arith, l))) h.1,
  )

pub left_kept : (rows new : Rows) (read : Reading) (way : Branching) (body : Body) (n : ℕ) (left : List (ℕ × Status))
    → Agree rows new (λ m. count_left m left) → AreLeftIn rows read way body n left → AreLeftIn new read way body n left
left_kept rows new read way body n [] same h = tt
left_kept rows new read way body n (a ∷ left) same h = (
  left_kept rows new read way body n left (λ m l. same m (omega (arith, l))) h.0,
  below_kept rows new read ((body, length left) ∷ way) (Some (record { node = n; index = length left })) a.1 (λ m l. same m (omega (arith, l))) h.1,
)

pub around_kept : (rows new : Rows) (read : Reading) (levels : List Level) (way : Branching) (cell : AlternativeCell)
    → Agree rows new (λ m. count_around m levels) → AreRound rows read levels way cell → AreRound new read levels way cell
around_kept rows new read [] way cell same h = h
around_kept rows new read (v ∷ up) way cell same h =
    let round = h.1.1.1 in
    let own = one_if-same v.number in
    let one : 0 < count_around v.number (v ∷ up) = omega (arith, own) in (
      h.0,
      (
        h.1.0,
        (
          h.1.1.0,
          record {
            row = same v.number one ∙ round.row;
            kind = round.kind;
            below = round.below;
            left = left_kept rows new read h.1.0 h.0 v.number v.left (λ m l. same m (omega (arith, l))) round.left;
            right = among_kept rows new read h.1.0 h.0 v.number (suc (length v.left)) v.right (λ m l. same m (omega (arith, l))) round.right;
          },
          around_kept rows new read up h.1.0 (InnerCell v.number) (λ m l. same m (omega (arith, l))) h.1.1.2,
        ),
      ),
    )

-- rows are the same round a place, but for the cell at it
pub record ChangesCell (rows new : Rows) (v : Level) (up : List Level) (cell : ℕ × AlternativeCell) : Type 0 where
  pub row : row_of_node new v.number ≡ with_state (length v.left) cell (row_of_node rows v.number)
  pub same : (m : ℕ) → 0 < count_around m (v ∷ up) → m ≢ v.number → row_of_node new m ≡ row_of_node rows m

-- no number of a level is beside it or above
apart : (v : Level) (up : List Level) → ((m : ℕ) → count_around m (v ∷ up) ≤ 1) → (count : ℕ → ℕ)
    → ((m : ℕ) → count m + one_if (v.number == m) ≤ count_around m (v ∷ up)) → (m : ℕ) → 0 < count m → m ≢ v.number
apart v up d count le m l e =
    let here = subst (λ (k : ℕ). 0 < count k) e l in
    omega (arith, here, d v.number, le v.number, one_if-same v.number)

pub around_set : (rows new : Rows) (read : Reading) (v : Level) (up : List Level) (way : Branching) (was cell : AlternativeCell) (spent : ℕ)
    → ((m : ℕ) → count_around m (v ∷ up) ≤ 1) → ChangesCell rows new v up (spent, cell) → AreRound rows read (v ∷ up) way was
    → AreRound new read (record v { spent = spent } ∷ up) way cell
around_set rows new read v up way was cell spent d c h =
    let round = h.1.1.1 in
    let body = h.0 in
    let old : StoredNode = record { parent = above_of up; body = body; cells = left_cells v.left ++ (v.spent, was) ∷ cells_of v.right } in
    let row : row_of_node new v.number
    ≡ Some (record { parent = above_of up; body = body; cells = left_cells v.left ++ (spent, cell) ∷ cells_of v.right }) =
    (c.row ∙ ap (with_state (length v.left) (spent, cell)) round.row)
    ∙ ap (λ (cells : List (ℕ × AlternativeCell)). Some (with_cells cells old))
    (set_at (left_cells v.left) (v.spent, was) (cells_of v.right) (spent, cell) (length v.left) (length-left_cells v.left)) in (
      body,
      (
        h.1.0,
        (
          h.1.1.0,
          record {
            row = row;
            kind = round.kind;
            below = round.below;
            left = left_kept rows new read h.1.0 body v.number v.left
                (λ m l. c.same m (omega (arith, l)) (apart v up d (λ k. count_left k v.left) (λ k. omega arith) m l)) round.left;
            right = among_kept rows new read h.1.0 body v.number (suc (length v.left)) v.right
                (λ m l. c.same m (omega (arith, l)) (apart v up d (λ k. count_among k v.right) (λ k. omega arith) m l)) round.right;
          },
          around_kept rows new read up h.1.0 (InnerCell v.number)
              (λ m l. c.same m (omega (arith, l)) (apart v up d (λ k. count_around k up) (λ k. omega arith) m l)) h.1.1.2,
        ),
      ),
    )

root_kept : (first : Option ℕ) (up : List Level) (node other : Node) → node_number node ≡ node_number other → IsRoot first (plug up (Inner node))
    → IsRoot first (plug up (Inner other))
root_kept first [] node other e h = h ∙ ap Some e
root_kept first (u ∷ up) node other e h = root_kept first up (level_node u (Inner node)) (level_node u (Inner other)) refl h

-- what a change at a place has to keep for the nodes to stand for the changed tree
pub record Replaces (old new : NodesView) (read : Reading) (v : Level) (up : List Level) (was now : Status) (spent : ℕ)
    (placed : IsPlaced old.rows read (v ∷ up) was) : Type 0 where
  pub cell : ChangesCell old.rows new.rows v up (spent, cell_of now)
  pub inside : IsIn new.rows read placed.way (Some (place_at v)) now
  pub distinct : (m : ℕ) → count_around m (v ∷ up) + count_below m now ≤ 1
  pub others : (m : ℕ) → count_around m (v ∷ up) ≡ 0 → count_below m now ≡ 0 → row_of_node new.rows m ≡ None
  pub live : new.live ≡ nodes_around (v ∷ up) + nodes_below now
  pub first : new.first ≡ old.first

pub replaced : (old new : NodesView) (read : Reading) (v : Level) (up : List Level) (was now : Status) (spent : ℕ)
    (s : IsTableOf old read (plug (v ∷ up) was)) → Replaces old new read v up was now spent (taken_out old.rows read (v ∷ up) was s.placed)
    → IsTableOf new read (plug (record v { spent = spent } ∷ up) now)
replaced old new read v up was now spent s r =
    let k = taken_out old.rows read (v ∷ up) was s.placed in
    let levels : List Level = record v { spent = spent } ∷ up in
    let d : (m : ℕ) → count_around m (v ∷ up) ≤ 1 = λ m. let z = s.distinct m in let p = count_plug m (v ∷ up) was in omega (arith, z, p) in
    let counts : (m : ℕ) → count_below m (plug levels now) ≡ count_around m (v ∷ up) + count_below m now = λ m. count_plug m levels now in
    record {
      placed = put_in new.rows read levels k.way now (around_set old.rows new.rows read v up k.way (cell_of was) (cell_of now) spent d r.cell k.around) r.inside;
      rooted = root_kept new.first up (level_node v was) (level_node (record v { spent = spent }) now) refl
          (subst (λ (f : Option ℕ). IsRoot f (plug (v ∷ up) was)) (sym r.first) s.rooted);
      distinct = λ m. let z = counts m in let y = r.distinct m in omega (arith, z, y);
      others = λ m l. let z = counts m in r.others m (omega (arith, z, l)) (omega (arith, z, l));
      live = r.live ∙ sym (nodes_plug levels now);
    }
