-- What a changed alternative makes of the tree.
use Rattle.std.proofs.Common.{◌≡◌, ◌≢◌, ℕ, zero, suc, ◌+◌, ◌<◌, ◌≤◌, List, [], ◌∷◌, ◌++◌, length, Option, Some, None}
use Rattle.std.proofs.Common.{refl, sym, ap, ◌∙◌, arith, subst, inl, inr}
use Rattle.std.specs.Prelude.{slice_get, IsSome}
use Rattle.std.proofs.lemmas.Bool.{cases_lt}
use Rattle.run_model.specs.Machine.Entries.{EndEntry}
use Rattle.tree_model.specs.Credits.{no_credit}
use Rattle.tree_model.specs.Nodes.{Hold, Node, Status, Pending, Inner, Closed, nodes_below}
use Rattle.tree_model.specs.Levels.{Level, plug, Place, place_at}
use Rattle.tree_model.specs.SoundTrees.{count_in, count_below}
use Rattle.tree_model.proofs.CountLemmas.{count_around, count_plug, one_if-same}
use Rattle.tree_nodes.specs.Bodies.{Branching, Reading}
use Rattle.tree_nodes.specs.Rows.{AlternativeCell, PendingCell, InnerCell, ClosedCell, StoredNode, Rows, row_of_node, alternatives_at, cell_at}
use Rattle.tree_nodes.specs.RowViews.{with_state, inner_of}
use Rattle.tree_nodes.specs.TreeTables.{node_number, cell_of, IsNodeIn, IsIn, IsRoot, NodesView, IsTableOf, Stand}
use Rattle.tree_nodes.specs.Changes.{IsEntryOf, IsSet, SetsCell, Fits}
use Rattle.tree_nodes.specs.Drops.{IsDropped, DropsNode}
use Rattle.tree_nodes.specs.Puts.{inner_at, IsDroppedBy, IsStatePut}
use Rattle.tree_nodes.proofs.PlaceLemmas.{left_cells, length-left_cells, AreRound, taken_out}
use Rattle.tree_nodes.proofs.PlaceLemmas.{nodes_plug}
use Rattle.tree_nodes.proofs.FrameLemmas.{below_kept, replaced}
use Rattle.tree_nodes.proofs.LocateLemmas.{located}

slice_get-seam : (xs : List (ℕ × AlternativeCell)) (y : ℕ × AlternativeCell) (ys : List (ℕ × AlternativeCell)) (n : ℕ) → length xs ≡ n → slice_get (xs ++ y ∷ ys) n ≡ Some y
slice_get-seam [] y ys zero e = refl
slice_get-seam [] y ys (suc n) e = absurd (omega (arith, e))
slice_get-seam (x ∷ xs) y ys zero e = absurd (omega (arith, e))
slice_get-seam (x ∷ xs) y ys (suc n) e = slice_get-seam xs y ys n (omega (arith, e))

pub cell_there : (rows : Rows) (read : Reading) (v : Level) (up : List Level) (way : Branching) (cell : AlternativeCell) → AreRound rows read (v ∷ up) way cell
    → cell_at rows (place_at v) ≡ Some (v.spent, cell)
cell_there rows read v up way cell h =
    ap (λ (o : Option StoredNode). slice_get (alternatives_at o) (length v.left)) h.1.1.1.row
    ∙ slice_get-seam (left_cells v.left) (v.spent, cell) _ (length v.left) (length-left_cells v.left)

-- what stood at a place goes, but for what stands there now
pub record IsTrimmed (middle : Rows) (live : ℕ) (new : Rows) (left : ℕ) (was now : Status) : Type 0 where
  pub gone : (m : ℕ) → 0 < count_below m was → count_below m now ≡ 0 → row_of_node new m ≡ None
  pub same : (m : ℕ) → count_below m was ≡ 0 → row_of_node new m ≡ row_of_node middle m
  pub less : (m : ℕ) → count_below m now ≤ count_below m was
  pub counted : nodes_below was ≤ live → left + nodes_below was ≡ live + nodes_below now

module _ (old new : NodesView) (read : Reading) (v : Level) (up : List Level) (was now : Status) (spent : ℕ)
    (s : IsTableOf old read (plug (v ∷ up) was)) (middle : Rows)
    (replaced_row : row_of_node middle v.number ≡ with_state (length v.left) (spent, cell_of now) (row_of_node old.rows v.number))
    (others_same : (m : ℕ) → m ≢ v.number → row_of_node middle m ≡ row_of_node old.rows m)
    (t : IsTrimmed middle old.live new.rows new.live was now) (first_same : new.first ≡ old.first)
    (inside_now : IsIn new.rows read (taken_out old.rows read (v ∷ up) was s.placed).way (Some (place_at v)) now) where
  parted : (m : ℕ) → count_around m (v ∷ up) + count_below m was ≤ 1
  parted m = let z = s.distinct m in let p = count_plug m (v ∷ up) was in omega (arith, z, p)

  not_here : (m : ℕ) → count_around m (v ∷ up) ≡ 0 → m ≢ v.number
  not_here m h e = let h' = subst (λ (k : ℕ). count_around k (v ∷ up) ≡ 0) e h in let o = one_if-same v.number in omega (arith, h', o)

  gone_others : (m : ℕ) → count_around m (v ∷ up) ≡ 0 → count_below m now ≡ 0 → row_of_node new.rows m ≡ None
  gone_others m h k = elim (cases_lt 0 (count_below m was)) [
    | inl l ↦ t.gone m l k
    | inr not ↦ t.same m (omega (arith, not)) ∙ (others_same m (not_here m h) ∙ s.others m (let p = count_plug m (v ∷ up) was in omega (arith, p, h, not)))
  ]

  pub trimmed_stands : IsTableOf new read (plug (record v { spent = spent } ∷ up) now)
  trimmed_stands = replaced old new read v up was now spent s (record {
    cell = record {
      row = t.same v.number (let z = parted v.number in let o = one_if-same v.number in omega (arith, z, o)) ∙ replaced_row;
      same = λ m l ne. t.same m (let z = parted m in omega (arith, z, l)) ∙ others_same m ne;
    };
    inside = inside_now;
    distinct = λ m. let z = parted m in let l = t.less m in omega (arith, z, l);
    others = gone_others;
    live = (let p = nodes_plug (v ∷ up) was in let l = s.live in let c = t.counted (omega (arith, p, l)) in omega (arith, p, l, c));
    first = first_same;
  })

same_trimmed : (middle new : Rows) (live left : ℕ) (was : Status) → new ≡ middle → left ≡ live → IsTrimmed middle live new left was was
same_trimmed middle new live left was e l = record {
  gone = λ m a b. absurd (omega (arith, a, b));
  same = λ m a. ap (λ (rows : Rows). row_of_node rows m) e;
  less = λ m. omega arith;
  counted = λ a. omega (arith, l);
}

-- where no node was, and none is
none_trimmed : (middle new : Rows) (live left : ℕ) (was now : Status) → new ≡ middle → left ≡ live → ((m : ℕ) → count_below m was ≡ 0)
    → ((m : ℕ) → count_below m now ≡ 0) → nodes_below was ≡ 0 → nodes_below now ≡ 0 → IsTrimmed middle live new left was now
none_trimmed middle new live left was now e l a b c d = record {
  gone = λ m x y. (let z = a m in absurd (omega (arith, x, z)));
  same = λ m x. ap (λ (rows : Rows). row_of_node rows m) e;
  less = λ m. (let z = b m in omega (arith, z));
  counted = λ x. omega (arith, l, c, d);
}

-- where a node goes
node_trimmed : (middle new : Rows) (live left : ℕ) (node : Node) (now : Status) → IsDropped middle live new left node
    → ((m : ℕ) → count_below m now ≡ 0) → nodes_below now ≡ 0 → IsTrimmed middle live new left (Inner node) now
node_trimmed middle new live left node now h b d = record {
  gone = λ m x y. h.gone m x;
  same = λ m x. h.same m x;
  less = λ m. (let z = b m in omega (arith, z));
  counted = λ x. (let c = h.counted in omega (arith, c, d, x));
}

-- one of no node
pub record IsLeaf (now : Status) : Type 0 where
  pub count : (m : ℕ) → count_below m now ≡ 0
  pub nodes : nodes_below now ≡ 0
  pub inner : inner_of (cell_of now) ≡ None

module _ (old new : NodesView) (read : Reading) (v : Level) (up : List Level) (was : Status) (cell : ℕ × AlternativeCell)
    (s : IsTableOf old read (plug (v ∷ up) was)) (p : IsStatePut old.rows old.live new.rows new.live (place_at v) cell) (first_same : new.first ≡ old.first) where
  was_cell : cell_at old.rows (place_at v) ≡ Some (v.spent, cell_of was)
  was_cell = let k = taken_out old.rows read (v ∷ up) was s.placed in cell_there old.rows read v up k.way (cell_of was) k.around

  below_was : p.below ≡ inner_of (cell_of was)
  below_was = p.replaced.inner ∙ ap inner_at was_cell

  -- what is at the place is none of the rows that change with it
  apart_was : (m : ℕ) → 0 < count_below m was → m ≢ v.number
  apart_was m l e =
      let l' = subst (λ (k : ℕ). 0 < count_below k was) e l in
      let z = s.distinct v.number in let q = count_plug v.number (v ∷ up) was in let o = one_if-same v.number in
      omega (arith, l', z, q, o)

  leaf_trimmed : (now : Status) → IsLeaf now → cell.1 ≡ cell_of now → (there : Status) → was ≡ there
      → IsTrimmed p.middle old.live new.rows new.live there now
  leaf_trimmed now leaf e (Pending hold entry) w =
      let d : IsDroppedBy None (inner_of cell.1) p.middle old.live new.rows new.live
      = subst (λ (o : Option ℕ). IsDroppedBy o (inner_of cell.1) p.middle old.live new.rows new.live) (below_was ∙ ap (λ (x : Status). inner_of (cell_of x)) w) p.dropped in
      none_trimmed p.middle new.rows old.live new.live (Pending hold entry) now d.0 d.1 (λ m. refl) leaf.count refl leaf.nodes
  leaf_trimmed now leaf e (Closed credit) w =
      let d : IsDroppedBy None (inner_of cell.1) p.middle old.live new.rows new.live
      = subst (λ (o : Option ℕ). IsDroppedBy o (inner_of cell.1) p.middle old.live new.rows new.live) (below_was ∙ ap (λ (x : Status). inner_of (cell_of x)) w) p.dropped in
      none_trimmed p.middle new.rows old.live new.live (Closed credit) now d.0 d.1 (λ m. refl) leaf.count refl leaf.nodes
  leaf_trimmed now leaf e (Inner node) w =
      let d : IsDroppedBy (Some (node_number node)) (inner_of cell.1) p.middle old.live new.rows new.live
      = subst (λ (o : Option ℕ). IsDroppedBy o (inner_of cell.1) p.middle old.live new.rows new.live) (below_was ∙ ap (λ (x : Status). inner_of (cell_of x)) w) p.dropped in
      let drops : DropsNode p.middle old.live new.rows new.live (node_number node)
      = subst (λ (o : Option ℕ). IsDroppedBy (Some (node_number node)) o p.middle old.live new.rows new.live) (ap inner_of e ∙ leaf.inner) d in
      let k = taken_out old.rows read (v ∷ up) was s.placed in
      let placed : IsNodeIn old.rows read k.way (Some (place_at v)) node = subst (IsIn old.rows read k.way (Some (place_at v))) w k.inside in
      let kept : IsIn p.middle read k.way (Some (place_at v)) (Inner node) = below_kept old.rows p.middle read k.way (Some (place_at v)) (Inner node)
      (λ m l. p.replaced.same m (apart_was m (subst (λ (x : Status). 0 < count_below m x) (sym w) l))) placed in
      let once : (m : ℕ) → count_in m node ≤ 1 = (λ m. let z = s.distinct m in let q = count_plug m (v ∷ up) was in
      let c : count_below m was ≡ count_in m node = ap (count_below m) w in omega (arith, z, q, c)) in
      node_trimmed p.middle new.rows old.live new.live node now (drops.drops read k.way (Some (place_at v)) node refl kept once) leaf.count leaf.nodes

  -- the same rows, at and off the place
  leaf_set : (now : Status) → IsLeaf now → cell.1 ≡ cell_of now
      → IsIn new.rows read (taken_out old.rows read (v ∷ up) was s.placed).way (Some (place_at v)) now
      → IsTableOf new read (plug (record v { spent = cell.0 } ∷ up) now)
  leaf_set now leaf e inside_now =
      trimmed_stands old new read v up was now cell.0 s p.middle
      (p.replaced.row ∙ ap (λ (c : AlternativeCell). with_state (length v.left) (cell.0, c) (row_of_node old.rows v.number)) e) p.replaced.same
      (leaf_trimmed now leaf e was refl) first_same inside_now

  entry_of : (way : Branching) (there : Status) → IsIn old.rows read way (Some (place_at v)) there → IsEntryOf there (read way)
  entry_of way (Pending hold entry) h = sym h
  entry_of way (Inner node) h = tt
  entry_of way (Closed credit) h = tt

  -- a node stays where it is
  stays_set : (n : ℕ) → cell.1 ≡ InnerCell n → (there : Status) → was ≡ there → cell_of there ≡ InnerCell n
      → IsTableOf new read (plug (record v { spent = cell.0 } ∷ up) was)
  stays_set n e (Pending hold entry) w h = absurd (cc h)
  stays_set n e (Closed credit) w h = absurd (cc h)
  stays_set n e (Inner node) w h =
      let below : p.below ≡ Some (node_number node) = below_was ∙ ap (λ (x : Status). inner_of (cell_of x)) w in
      let d : IsDroppedBy (Some (node_number node)) (Some n) p.middle old.live new.rows new.live
      = subst (λ (o : Option ℕ). IsDroppedBy (Some (node_number node)) o p.middle old.live new.rows new.live) (ap inner_of e)
      (subst (λ (o : Option ℕ). IsDroppedBy o (inner_of cell.1) p.middle old.live new.rows new.live) below p.dropped) in
      let k = taken_out old.rows read (v ∷ up) was s.placed in
      let cells : cell.1 ≡ cell_of was = e ∙ (sym h ∙ ap cell_of (sym w)) in
      trimmed_stands old new read v up was was cell.0 s p.middle
      (p.replaced.row ∙ ap (λ (c : AlternativeCell). with_state (length v.left) (cell.0, c) (row_of_node old.rows v.number)) cells) p.replaced.same
      (same_trimmed p.middle new.rows old.live new.live was d.0 d.1) first_same
      (below_kept old.rows new.rows read k.way (Some (place_at v)) was
      (λ m l. ap (λ (rows : Rows). row_of_node rows m) d.0 ∙ p.replaced.same m (apart_was m l)) k.inside)

  -- the entry of a branch, by the way down to it
  pub entry_back : (hold : Hold) → cell.1 ≡ PendingCell hold
      → IsTableOf new read (plug (record v { spent = cell.0 } ∷ up) (Pending hold (read (taken_out old.rows read (v ∷ up) was s.placed).way)))
  entry_back hold e =
      leaf_set (Pending hold (read (taken_out old.rows read (v ∷ up) was s.placed).way)) (record { count = λ m. refl; nodes = refl; inner = refl }) e refl

  by_cell : (c : AlternativeCell) → cell.1 ≡ c → Fits (cell_at old.rows (place_at v)) c → IsSet new read (record v { spent = cell.0 } ∷ up) was c
  by_cell (PendingCell hold) e fit =
      let k = taken_out old.rows read (v ∷ up) was s.placed in
      (read k.way, (entry_of k.way was k.inside, leaf_set (Pending hold (read k.way)) (record { count = λ m. refl; nodes = refl; inner = refl }) e refl))
  by_cell (ClosedCell credit) e fit = leaf_set (Closed credit) (record { count = λ m. refl; nodes = refl; inner = refl }) e tt
  by_cell (InnerCell n) e fit = stays_set n e was refl (subst (λ (o : Option (ℕ × AlternativeCell)). Fits o (InnerCell n)) was_cell fit)

  pub put_is_set : Fits (cell_at old.rows (place_at v)) cell.1 → IsSet new read (record v { spent = cell.0 } ∷ up) was cell.1
  put_is_set fit = by_cell cell.1 refl fit

  abbrev IsLeft : ℕ → Type 0
  IsLeft m = IsSome (row_of_node new.rows m) → row_of_node new.rows m ≡ row_of_node p.middle m

  left_by : (now : Status) → IsTrimmed p.middle old.live new.rows new.live was now → ((m : ℕ) → count_below m now ≡ 0) → (m : ℕ) → IsLeft m
  left_by now t leaf m there = elim (cases_lt 0 (count_below m was)) [
    | inl l ↦ absurd (let z = t.gone m l (leaf m) in cc (z, there))
    | inr not ↦ t.same m (omega (arith, not))
  ]

  same_left : (n : ℕ) (below : Option ℕ) → p.below ≡ below → inner_of cell.1 ≡ Some n → new.rows ≡ p.middle
  same_left n None e f = (subst (λ (o : Option ℕ). IsDroppedBy None o p.middle old.live new.rows new.live) f
      (subst (λ (o : Option ℕ). IsDroppedBy o (inner_of cell.1) p.middle old.live new.rows new.live) e p.dropped)).0
  same_left n (Some m) e f = (subst (λ (o : Option ℕ). IsDroppedBy (Some m) o p.middle old.live new.rows new.live) f
      (subst (λ (o : Option ℕ). IsDroppedBy o (inner_of cell.1) p.middle old.live new.rows new.live) e p.dropped)).0

  -- rows that are left are those before anything went
  pub rows_left : (c : AlternativeCell) → cell.1 ≡ c → (m : ℕ) → IsLeft m
  rows_left (PendingCell hold) e m there =
      let k = taken_out old.rows read (v ∷ up) was s.placed in
      let now : Status = Pending hold (read k.way) in
      left_by now (leaf_trimmed now (record { count = λ m. refl; nodes = refl; inner = refl }) e was refl) (λ m. refl) m there
  rows_left (ClosedCell credit) e m there =
      left_by (Closed credit) (leaf_trimmed (Closed credit) (record { count = λ m. refl; nodes = refl; inner = refl }) e was refl) (λ m. refl) m there
  rows_left (InnerCell n) e m there = ap (λ (rows : Rows). row_of_node rows m) (same_left n p.below refl (ap inner_of e))

pub put_set : (old new : NodesView) (a : Place) (cell : ℕ × AlternativeCell) → IsStatePut old.rows old.live new.rows new.live a cell → new.first ≡ old.first
    → Fits (cell_at old.rows a) cell.1 → SetsCell old new a cell.0 cell.1
put_set old new a cell p f fit read v up was e s =
    let P : Place → Type 0 = λ b. IsStatePut old.rows old.live new.rows new.live b cell in
    let Q : Place → Type 0 = λ b. Fits (cell_at old.rows b) cell.1 in
    put_is_set old new read v up was cell s (subst P (sym e) p) f (subst Q (sym e) fit)

set_stand : (new : NodesView) (read : Reading) (levels : List Level) (was : Status) (cell : AlternativeCell) → IsSet new read levels was cell → Stand new
set_stand new read levels was (PendingCell hold) h = record { read = read; root = plug levels (Pending hold h.0); stands = h.1.1 }
set_stand new read levels was (InnerCell n) h = record { read = read; root = plug levels was; stands = h }
set_stand new read levels was (ClosedCell credit) h = record { read = read; root = plug levels (Closed credit); stands = h }

-- nodes that stand for a tree still do
pub sets_stand : (old new : NodesView) (a : Place) (spent : ℕ) (cell there : AlternativeCell) (there_spent : ℕ) → Stand old → cell_at old.rows a ≡ Some (there_spent, there)
    → SetsCell old new a spent cell → Stand new
sets_stand old new a spent cell there there_spent st e h =
    let k = located old st.read st.root a (there_spent, there) st.stands e in
    set_stand new st.read (record k.level { spent = spent } ∷ k.above) k.status cell
    (h st.read k.level k.above k.status k.at (subst (IsTableOf old st.read) k.is st.stands))

pub is_some_cell : (o : Option (ℕ × AlternativeCell)) → IsSome o → (c : ℕ × AlternativeCell) × (o ≡ Some c)
is_some_cell None h = absurd (cc h)
is_some_cell (Some c) h = (c, refl)

pub put_stand : (old new : NodesView) (a : Place) (cell : ℕ × AlternativeCell) → Stand old → IsSome (cell_at old.rows a)
    → IsStatePut old.rows old.live new.rows new.live a cell → new.first ≡ old.first → Fits (cell_at old.rows a) cell.1 → Stand new
put_stand old new a cell st there p f fit =
    let k = is_some_cell (cell_at old.rows a) there in
    sets_stand old new a cell.0 cell.1 k.0.1 k.0.0 st k.1 (put_set old new a cell p f fit)

pub no_nodes_stand : Stand (record { rows = []; first = None; live = 0; spare = 0 })
no_nodes_stand = record {
  read = λ way. EndEntry None;
  root = Closed no_credit;
  stands = record { placed = tt; rooted = refl; distinct = λ n. omega arith; others = λ n h. refl; live = refl };
}

-- a table with the same rows, wherever they end
pub same_rows : (old new : NodesView) (read : Reading) (root : Status) → ((m : ℕ) → row_of_node new.rows m ≡ row_of_node old.rows m) → new.first ≡ old.first
    → new.live ≡ old.live → IsTableOf old read root → IsTableOf new read root
same_rows old new read root rows first live s = record {
  placed = below_kept old.rows new.rows read [] None root (λ m l. rows m) s.placed;
  rooted = subst (λ (o : Option ℕ). IsRoot o root) (sym first) s.rooted;
  distinct = s.distinct;
  others = λ m h. rows m ∙ s.others m h;
  live = live ∙ s.live;
}
