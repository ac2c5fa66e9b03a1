-- A new node below an alternative, and a first one.
use Rattle.std.proofs.Common.{◌≡◌, ◌≢◌, ℕ, zero, suc, ◌+◌, ◌<◌, ◌≤◌, ◌==◌, List, [], ◌∷◌, ◌++◌, length, Option, Some, None}
use Rattle.std.proofs.Common.{refl, sym, ap, ◌∙◌, arith, subst, inl, inr}
use Rattle.std.specs.Prelude.{slice_get}
use Rattle.std.proofs.lemmas.Bool.{cases_lt}
use Rattle.clause_compile.specs.declared.event.Branch.{Branch}
use Rattle.tree_model.specs.Nodes.{Numbered, Status, Pending, Inner, Closed, nodes_among, nodes_below}
use Rattle.tree_model.specs.Levels.{Level, plug, Place, place_at}
use Rattle.tree_model.specs.SoundTrees.{one_if, count_among, count_below}
use Rattle.tree_model.proofs.CountLemmas.{count_around, count_plug, one_if-same, one_if-other}
use Rattle.tree_nodes.specs.Bodies.{Body, Branching, Reading, first_hold, new_alternatives, new_node}
use Rattle.tree_nodes.specs.Rows.{AlternativeCell, PendingCell, InnerCell, StoredNode, Rows, row_of_node, alternatives_at, cell_at}
use Rattle.tree_nodes.specs.RowViews.{with_state, new_cells, new_row}
use Rattle.tree_nodes.specs.TreeTables.{cell_of, cells_of, IsBelow, AreIn, IsIn, NodesView, IsTableOf, Stand, IsWayTo, above_of}
use Rattle.tree_nodes.specs.Changes.{AddsFirst, Adds, IsOpenCell, CanHold, root_after}
use Rattle.tree_nodes.specs.Puts.{IsLinkedAt, IsLinked}
use Rattle.tree_nodes.proofs.PlaceLemmas.{AreRound, taken_out, nodes_plug}
use Rattle.tree_nodes.proofs.FrameLemmas.{replaced}
use Rattle.tree_nodes.proofs.LocateLemmas.{located, found}
use Rattle.tree_nodes.proofs.RowLemmas.{row_at_within}
use Rattle.tree_nodes.proofs.PutLemmas.{cell_there}

-- one more row
pub row_at-more : (rows : Rows) (r : Option StoredNode) (m : ℕ) → m ≢ length rows → row_of_node (rows ++ r ∷ []) m ≡ row_of_node rows m
row_at-more [] r zero ne = absurd (ne refl)
row_at-more [] r (suc m) ne = refl
row_at-more (q ∷ rows) r zero ne = refl
row_at-more (q ∷ rows) r (suc m) ne = row_at-more rows r m (λ e. ne (ap suc e))

pub row_at-last : (rows : Rows) (r : Option StoredNode) → row_of_node (rows ++ r ∷ []) (length rows) ≡ r
row_at-last [] r = refl
row_at-last (q ∷ rows) r = row_at-last rows r

-- what the alternatives of a new node are
new_none : (read : Reading) (way : Branching) (body : Body) (i : ℕ) (bs : List Branch) (m : ℕ) → count_among m (new_alternatives read way body i bs) ≡ 0
new_none read way body i [] m = refl
new_none read way body i (b ∷ bs) m = let h = new_none read way body (suc i) bs m in omega (arith, h)

new_nodes : (read : Reading) (way : Branching) (body : Body) (i : ℕ) (bs : List Branch) → nodes_among (new_alternatives read way body i bs) ≡ 0
new_nodes read way body i [] = refl
new_nodes read way body i (b ∷ bs) = let h = new_nodes read way body (suc i) bs in omega (arith, h)

cells_of-new : (read : Reading) (way : Branching) (body : Body) (i : ℕ) (bs : List Branch)
    → cells_of (new_alternatives read way body i bs) ≡ new_cells body.kind i (length bs)
cells_of-new read way body i [] = refl
cells_of-new read way body i (b ∷ bs) = ap (λ (cells : List (ℕ × AlternativeCell)). (0, PendingCell (first_hold body.kind i)) ∷ cells) (cells_of-new read way body (suc i) bs)

new_in : (rows : Rows) (read : Reading) (way : Branching) (body : Body) (n i : ℕ) (bs : List Branch)
    → AreIn rows read way body n i (new_alternatives read way body i bs)
new_in rows read way body n i [] = tt
new_in rows read way body n i (b ∷ bs) = (refl, new_in rows read way body n (suc i) bs)

new_placed : (rows : Rows) (read : Reading) (way : Branching) (parent : Option Place) (n : ℕ) (body : Body) → row_of_node rows n ≡ Some (new_row parent body)
    → IsBelow parent n → IsIn rows read way parent (Inner (new_node read way n body))
new_placed rows read way parent n body e below = (
  body,
  (
    e ∙ ap (λ (cells : List (ℕ × AlternativeCell)). Some (record { parent = parent; body = body; cells = cells }))
        (sym (cells_of-new read way body 0 body.branches)),
    refl,
    below,
    new_in rows read way body n 0 body.branches,
  ),
)

-- no number from the length of the table on is in the tree
pub numbers_within : (nodes : NodesView) (read : Reading) (root : Status) (m : ℕ) → IsTableOf nodes read root → length nodes.rows ≤ m → count_below m root ≡ 0
numbers_within nodes read root m s l =
    elim (cases_lt 0 (count_below m root)) [
      | inl there ↦ (let f = found m root there in
          let placed : IsIn nodes.rows read [] None (plug f.up (Inner (Numbered m f.kind f.alternatives))) = subst (IsIn nodes.rows read [] None) f.is s.placed in
          let k = taken_out nodes.rows read f.up (Inner (Numbered m f.kind f.alternatives)) placed in
          let within = row_at_within nodes.rows m _ k.inside.1.0 in absurd (omega (arith, l, within)))
      | inr not ↦ omega (arith, not)
    ]

-- the way down to a place is one
pub way_to : (rows : Rows) (read : Reading) (levels : List Level) (way : Branching) (cell : AlternativeCell) → AreRound rows read levels way cell → IsWayTo rows levels way
way_to rows read [] way cell h = h
way_to rows read (v ∷ up) way cell h =
    (_, (h.1.0, (h.1.1.1.row, h.1.1.0, way_to rows read up h.1.0 (InnerCell v.number) h.1.1.2)))

pub way_same : (rows : Rows) (read : Reading) (levels : List Level) (way other : Branching) (cell : AlternativeCell) → AreRound rows read levels way cell
    → IsWayTo rows levels other → way ≡ other
way_same rows read [] way other cell h k = h ∙ sym k
way_same rows read (v ∷ up) way other cell h k =
    let above = way_same rows read up h.1.0 k.1.0 (InnerCell v.number) h.1.1.2 k.1.1.2 in
    let same : Some (record { parent = above_of up; body = h.0; cells = _ }) ≡ Some k.0 = sym h.1.1.1.row ∙ k.1.1.0 in
    let body : h.0 ≡ k.0.body = ap (λ (o : Option StoredNode). body_or h.0 o) same in
    h.1.1.0 ∙ (ap (λ (b : Body). (b, length v.left) ∷ h.1.0) body ∙ (ap (λ (w : Branching). (k.0.body, length v.left) ∷ w) above ∙ sym k.1.1.1))
  where
    body_or : Body → Option StoredNode → Body
    body_or b None = b
    body_or b (Some r) = r.body

module _ (old new : NodesView) (read : Reading) (v : Level) (up : List Level) (was : Status) (body : Body)
    (s : IsTableOf old read (plug (v ∷ up) was)) (open_cell : IsOpenCell (cell_at old.rows (place_at v)))
    (linked : IsLinkedAt (old.rows ++ Some (new_row (Some (place_at v)) body) ∷ []) new.rows (place_at v) (length old.rows))
    (first_same : new.first ≡ old.first) (one_more : new.live ≡ old.live + 1) where
  pushed : Rows
  pushed = old.rows ++ Some (new_row (Some (place_at v)) body) ∷ []

  was_cell : cell_at old.rows (place_at v) ≡ Some (v.spent, cell_of was)
  was_cell = let k = taken_out old.rows read (v ∷ up) was s.placed in cell_there old.rows read v up k.way (cell_of was) k.around

  was_open : (there : Status) → was ≡ there → ((m : ℕ) → count_below m was ≡ 0) × (nodes_below was ≡ 0)
  was_open (Pending hold entry) w = ((λ m. ap (count_below m) w), ap nodes_below w)
  was_open (Inner node) w = absurd (let z = subst IsOpenCell (was_cell ∙ ap (λ (x : Status). Some (v.spent, cell_of x)) w) open_cell in cc z)
  was_open (Closed credit) w = absurd (let z = subst IsOpenCell (was_cell ∙ ap (λ (x : Status). Some (v.spent, cell_of x)) w) open_cell in cc z)

  around_of : (m : ℕ) → count_below m (plug (v ∷ up) was) ≡ count_around m (v ∷ up)
  around_of m = let p = count_plug m (v ∷ up) was in let z = (was_open was refl).0 m in omega (arith, p, z)

  around_within : (m : ℕ) → 0 < count_around m (v ∷ up) → m < length old.rows
  around_within m l = elim (cases_lt m (length old.rows)) [
    | inl h ↦ h
    | inr h ↦ absurd (let z = numbers_within old read (plug (v ∷ up) was) m s h in let a = around_of m in omega (arith, l, z, a))
  ]

  own_within : v.number < length old.rows
  own_within = around_within v.number (let o = one_if-same v.number in omega (arith, o))

  same_spent : linked.spent ≡ v.spent
  unfolding pushed
  same_spent =
      let here : cell_at pushed (place_at v) ≡ Some (v.spent, cell_of was) = ap (λ (o : Option StoredNode). slice_get (alternatives_at o) (length v.left))
      (row_at-more old.rows (Some (new_row (Some (place_at v)) body)) v.number (λ e. (let l = own_within in absurd (omega (arith, e, l))))) ∙ was_cell in
      let pairs : Some (linked.spent, linked.cell) ≡ Some (v.spent, cell_of was) = sym linked.there ∙ here in
      ap spent_or pairs
    where
      spent_or : Option (ℕ × AlternativeCell) → ℕ
      spent_or None = 0
      spent_or (Some c) = c.0

  old_row : (m : ℕ) → m ≢ v.number → m ≢ length old.rows → row_of_node new.rows m ≡ row_of_node old.rows m
  old_row m ne past = linked.replaced.same m ne ∙ row_at-more old.rows (Some (new_row (Some (place_at v)) body)) m past

  pub adds_at : (way : Branching) → IsWayTo old.rows (v ∷ up) way → IsTableOf new read (plug (v ∷ up) (Inner (new_node read way (length old.rows) body)))
  adds_at way w =
      let k = taken_out old.rows read (v ∷ up) was s.placed in
      let n = length old.rows in
      let same_way : k.way ≡ way = way_same old.rows read (v ∷ up) k.way way (cell_of was) k.around w in
      let own = own_within in
      let apart : n ≢ v.number = (λ e. absurd (omega (arith, e, own))) in
      let row : row_of_node new.rows n ≡ Some (new_row (Some (place_at v)) body) = linked.replaced.same n apart
      ∙ row_at-last old.rows (Some (new_row (Some (place_at v)) body)) in
      let node : (m : ℕ) → count_among m (new_alternatives read way body 0 body.branches) ≡ 0 = new_none read way body 0 body.branches in
      replaced old new read v up was (Inner (new_node read way n body)) v.spent s (record {
        cell = record {
          row = linked.replaced.row
              ∙ (ap (λ (o : Option StoredNode). with_state (length v.left) (linked.spent, InnerCell n) o)
              (row_at-more old.rows (Some (new_row (Some (place_at v)) body)) v.number (λ e. absurd (omega (arith, e, own))))
              ∙ ap (λ (k : ℕ). with_state (length v.left) (k, InnerCell n) (row_of_node old.rows v.number)) same_spent);
          same = λ m l ne. old_row m ne (λ e. (let z = around_within m l in absurd (omega (arith, e, z))));
        };
        inside = subst (λ (w : Branching). IsIn new.rows read w (Some (place_at v)) (Inner (new_node read way n body))) (sym same_way)
            (new_placed new.rows read way (Some (place_at v)) n body row own);
        distinct = λ m. (let z = s.distinct m in let a = around_of m in let b = node m in
            elim (cases_lt 0 (count_around m (v ∷ up))) [
              | inl l ↦ (let c = around_within m l in let d = one_if-other n m (λ e. absurd (omega (arith, e, c))) in omega (arith, z, a, b, d))
              | inr not ↦ (let e = one_if_le n m in omega (arith, b, not, e))
            ]);
        others = λ m h k. (let b = node m in
            let past : m ≢ n = (λ e. (let o = one_if-same n in let k' = subst (λ (j : ℕ). one_if (n == j) + count_among j (new_alternatives read way body 0 body.branches) ≡ 0) e k in absurd (omega (arith, o, k')))) in
            let ne : m ≢ v.number = (λ e. (let o = one_if-same v.number in let h' = subst (λ (j : ℕ). count_around j (v ∷ up) ≡ 0) e h in absurd (omega (arith, o, h')))) in
            old_row m ne past ∙ s.others m (around_of m ∙ h));
        live = (let p = nodes_plug (v ∷ up) was in let l = s.live in let z = (was_open was refl).1 in let c = new_nodes read way body 0 body.branches in
            omega (arith, p, l, z, c, one_more));
        first = first_same;
      })
    where
      one_if_le : (a b : ℕ) → one_if (a == b) ≤ 1
      one_if_le a b = grind arith

-- a first node
pub adds_first : (old new : NodesView) (body : Body) → new.rows ≡ old.rows ++ Some (new_row None body) ∷ [] → new.first ≡ Some (length old.rows)
    → new.live ≡ old.live + 1 → AddsFirst old new (length old.rows) body
adds_first old new body rows first live read c s =
    let n = length old.rows in
    let alternatives = new_alternatives read [] body 0 body.branches in
    let row_of : (m : ℕ) → row_of_node new.rows m ≡ row_of_node (old.rows ++ Some (new_row None body) ∷ []) m = (λ m. ap (λ (rs : Rows). row_of_node rs m) rows) in
    let row : row_of_node new.rows n ≡ Some (new_row None body) = row_of n ∙ row_at-last old.rows (Some (new_row None body)) in
    record {
      placed = new_placed new.rows read [] None n body row tt;
      rooted = first;
      distinct = λ m. (let a = new_none read [] body 0 body.branches m in let b = one_if_le n m in omega (arith, a, b));
      others = λ m h. (let past : m ≢ n = (λ e. (let o = one_if-same n in let h' = subst (λ (j : ℕ). one_if (n == j) + count_among j alternatives ≡ 0) e h in absurd (omega (arith, o, h')))) in
          row_of m ∙ (row_at-more old.rows (Some (new_row None body)) m past ∙ s.others m refl));
      live = (let a = new_nodes read [] body 0 body.branches in let l = s.live in omega (arith, a, l, live));
    }
  where
    one_if_le : (a b : ℕ) → one_if (a == b) ≤ 1
    one_if_le a b = grind arith

-- what adding does, below an alternative or at first
pub adds : (old new : NodesView) (parent : Option Place) (body : Body)
    → IsLinked (old.rows ++ Some (new_row parent body) ∷ []) new.rows parent (length old.rows) → new.first ≡ root_after old.first parent (length old.rows)
    → new.live ≡ old.live + 1 → CanHold old parent → Adds old new parent (length old.rows) body
adds old new None body linked first live can = adds_first old new body linked first live
adds old new (Some a) body linked first live can = λ read v up was way e s w.
    let L : Place → Type 0 = λ b. IsLinkedAt (old.rows ++ Some (new_row (Some b) body) ∷ []) new.rows b (length old.rows) in
    let O : Place → Type 0 = λ b. IsOpenCell (cell_at old.rows b) in
    adds_at old new read v up was body s (subst O (sym e) can) (subst L (sym e) linked) first live way w

open_there : (o : Option (ℕ × AlternativeCell)) → IsOpenCell o → (c : ℕ × AlternativeCell) × (o ≡ Some c)
open_there None h = absurd (cc h)
open_there (Some c) h = (c, refl)

pub adds_stand : (old new : NodesView) (parent : Option Place) (body : Body) → Stand old → CanHold old parent
    → Adds old new parent (length old.rows) body → Stand new
adds_stand old new None body st can h = by_root st.root st.stands
  where
    by_root : (root : Status) → IsTableOf old st.read root → Stand new
    by_root (Pending hold entry) s = absurd s.rooted
    by_root (Inner (Numbered n kind others)) s = absurd (let l = s.live in omega (arith, l, can))
    by_root (Closed c) s = record { read = st.read; root = Inner (new_node st.read [] (length old.rows) body); stands = h st.read c s }
adds_stand old new (Some a) body st can h =
    let there = open_there (cell_at old.rows a) can in
    let k = located old st.read st.root a there.0 st.stands there.1 in
    let s = subst (IsTableOf old st.read) k.is st.stands in
    let p = taken_out old.rows st.read (k.level ∷ k.above) k.status s.placed in
    record {
      read = st.read;
      root = plug (k.level ∷ k.above) (Inner (new_node st.read p.way (length old.rows) body));
      stands = h st.read k.level k.above k.status p.way k.at s (way_to old.rows st.read (k.level ∷ k.above) p.way (cell_of k.status) p.around);
    }
