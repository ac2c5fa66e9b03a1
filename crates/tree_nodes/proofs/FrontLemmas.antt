-- The front of a table that has changed.
use Rattle.std.proofs.Common.{◌≡◌, ◌≢◌, ℕ, zero, suc, ◌<◌, ◌≤◌, true, false, List, [], ◌∷◌, ◌++◌, take, Option, Some, None}
use Rattle.std.proofs.Common.{refl, sym, ap, ◌∙◌, arith, subst, inl, inr}
use Rattle.std.proofs.lemmas.Bool.{cases_lt, cases_eq}
use Rattle.std.proofs.lemmas.List.{take-set-le}
use Rattle.std.specs.Option.{option_map}
use Rattle.std.specs.Prelude.{slice_get, slice_set, IsSome, is_some}
use Rattle.au_term.proofs.LogicLemmas.{both}
use Rattle.tree_model.specs.Credits.{counted}
use Rattle.tree_model.specs.Nodes.{Numbered, Status, Pending, Inner, Closed}
use Rattle.tree_model.specs.Levels.{Level, Place, place_at}
use Rattle.tree_nodes.specs.declared.front.Front.{Front}
use Rattle.tree_nodes.specs.Bodies.{Branching}
use Rattle.tree_nodes.specs.Rows.{AlternativeCell, PendingCell, InnerCell, ClosedCell, StoredNode, Rows, row_of_node, node_parent, alternatives_at, cell_at}
use Rattle.tree_nodes.specs.RowViews.{with_state, inner_of}
use Rattle.tree_nodes.specs.Puts.{inner_at}
use Rattle.tree_nodes.specs.Gathering.{is_shut, is_shut_at, are_shut}
use Rattle.tree_nodes.specs.Siblings.{counts_from}
use Rattle.tree_nodes.specs.TreeTables.{cell_of, IsIn, NodesView, Stand, above_of}
use Rattle.tree_nodes.specs.Fronts.{place_on, IsNextTo, IsNextDown, AreNext, IsLastOf, IsLastThere, IsBeyond, HasOpenLeft, KeepsFront}
use Rattle.tree_nodes.proofs.PlaceLemmas.{AreRound, taken_out}
use Rattle.tree_nodes.proofs.HeldLemmas.{state_cells}
use Rattle.tree_nodes.proofs.PutLemmas.{cell_there, is_some_cell}
use Rattle.tree_nodes.proofs.LocateLemmas.{IsAt, located, found, present}
use Rattle.tree_nodes.proofs.FoldLemmas.{parent_above}
use Rattle.tree_nodes.specs.Folds.{IsAbove}
use Rattle.tree_nodes.proofs.WalkLemmas.{cell_at_place}

abbrev Cell : Type 0
Cell = ℕ × AlternativeCell

pub some_row : (o : Option StoredNode) → IsSome o → (r : StoredNode) × (o ≡ Some r)
some_row None h = absurd (cc h)
some_row (Some r) h = (r, refl)

abbrev parent_or : Option StoredNode → Option Place
parent_or None = None
parent_or (Some r) = r.parent

parent_of : (rows : Rows) (n : ℕ) (p : Option Place) → node_parent rows n ≡ Some p → (r : StoredNode) × ((row_of_node rows n ≡ Some r) × (r.parent ≡ p))
parent_of rows n p e = by_row (row_of_node rows n) refl e
  where
    by_row : (o : Option StoredNode) → row_of_node rows n ≡ o → option_map (λ r. r.parent) o ≡ Some p
        → (r : StoredNode) × ((row_of_node rows n ≡ Some r) × (r.parent ≡ p))
    by_row None h k = absurd (cc k)
    by_row (Some r) h k = (r, (h, cc k))

-- a node is below the alternative that it names, and its number is greater
pub parent_inner : (nodes : NodesView) (n : ℕ) (p : Place) → Stand nodes → node_parent nodes.rows n ≡ Some (Some p)
    → (spent : ℕ) × (cell_at nodes.rows p ≡ Some (spent, InnerCell n))
parent_inner nodes n p st e =
    let r = parent_of nodes.rows n (Some p) e in
    let s = st.stands in
    let f = found n st.root (present nodes st.read st.root n r.0 s r.1.0) in
    let placed = subst (IsIn nodes.rows st.read [] None) f.is s.placed in
    let k = taken_out nodes.rows st.read f.up (Inner (Numbered n f.kind f.alternatives)) placed in
    let parent : above_of f.up ≡ Some p = ap parent_or (sym k.inside.1.0) ∙ (ap parent_or r.1.0 ∙ r.1.1) in
    by_levels f.up k.way k.around parent
  where
    by_levels : (up : List Level) (way : Branching) → AreRound nodes.rows st.read up way (InnerCell n) → above_of up ≡ Some p
        → (spent : ℕ) × (cell_at nodes.rows p ≡ Some (spent, InnerCell n))
    by_levels [] way h e = absurd (cc e)
    by_levels (v ∷ up) way h e =
        let at : place_at v ≡ p = (cc e) in
        (v.spent, ap (cell_at nodes.rows) (sym at) ∙ cell_there nodes.rows st.read v up way (InnerCell n) h)

pub parent_lower : (nodes : NodesView) (n : ℕ) (p : Place) → Stand nodes → node_parent nodes.rows n ≡ Some (Some p) → p.node < n
parent_lower nodes n p st e =
    let r = parent_of nodes.rows n (Some p) e in
    let h = parent_above nodes n r.0 st r.1.0 in
    (subst (λ (o : Option Place). IsAbove nodes.rows o n) r.1.1 h).1

abbrev cell_or : AlternativeCell → Option Cell → AlternativeCell
cell_or other None = other
cell_or other (Some c) = c.1

-- the node below an alternative names it
pub inner_parent : (nodes : NodesView) (a : Place) (spent n : ℕ) → Stand nodes → cell_at nodes.rows a ≡ Some (spent, InnerCell n)
    → node_parent nodes.rows n ≡ Some (Some a)
inner_parent nodes a spent n st e = by_status k.status refl
  where
    k : IsAt st.root a
    k = located nodes st.read st.root a (spent, InnerCell n) st.stands e

    below : ◌≡◌ {A = Option Cell} (Some (spent, InnerCell n)) (Some (k.level.spent, cell_of k.status))
    below = sym e ∙ cell_at_place nodes st.read st.root a st.stands k

    cell_is : (there : Status) → k.status ≡ there → InnerCell n ≡ cell_of there
    cell_is there is = ap (cell_or (InnerCell n)) below ∙ ap cell_of is

    by_status : (there : Status) → k.status ≡ there → node_parent nodes.rows n ≡ Some (Some a)
    by_status (Pending hold entry) is = absurd (let z : InnerCell n ≡ PendingCell hold = cell_is (Pending hold entry) is in cc z)
    by_status (Closed credit) is = absurd (let z : InnerCell n ≡ ClosedCell credit = cell_is (Closed credit) is in cc z)
    by_status (Inner (Numbered m kind others)) is =
        let z : InnerCell n ≡ InnerCell m = cell_is (Inner (Numbered m kind others)) is in
        let same : m ≡ n = cc z in
        let t = taken_out nodes.rows st.read (k.level ∷ k.above) k.status (subst (IsIn nodes.rows st.read [] None) k.is st.stands.placed) in
        let h : IsIn nodes.rows st.read t.way (Some (place_at k.level)) (Inner (Numbered m kind others))
        = subst (IsIn nodes.rows st.read t.way (Some (place_at k.level))) is t.inside in
        subst (λ (x : ℕ). node_parent nodes.rows x ≡ Some (Some a)) same
        (ap (λ (o : Option StoredNode). option_map (λ r. r.parent) o) h.1.0 ∙ ap (λ (q : Place). Some (Some q)) k.at)

set_same : (cells : List Cell) (i : ℕ) (c d : Cell) → slice_get (slice_set cells i c) i ≡ Some d → d ≡ c
set_same [] i c d e = absurd (cc e)
set_same (x ∷ cells) zero c d e = (cc e)
set_same (x ∷ cells) (suc i) c d e = set_same cells i c d e

set_before : (cells : List Cell) (i j : ℕ) (c : Cell) → j < i → slice_get (slice_set cells i c) j ≡ slice_get cells j
set_before [] i j c l = refl
set_before (x ∷ cells) zero j c l = absurd (omega (arith, l))
set_before (x ∷ cells) (suc i) zero c l = refl
set_before (x ∷ cells) (suc i) (suc j) c l = set_before cells i j c (omega (arith, l))

shut_before : (cells : List Cell) (n i : ℕ) (c : Cell) → are_shut (take n cells) ≡ true → i < n → slice_get cells i ≡ Some c → is_shut c.1 ≡ true
shut_before [] n i c h l e = absurd (cc e)
shut_before (x ∷ cells) zero i c h l e = absurd (omega (arith, l))
shut_before (x ∷ cells) (suc n) zero c h l e =
    let same : x ≡ c = (cc e) in
    ap (λ (y : Cell). is_shut y.1) (sym same) ∙ (both (is_shut x.1) (are_shut (take n cells)) h).0
shut_before (x ∷ cells) (suc n) (suc i) c h l e = shut_before cells n i c (both (is_shut x.1) (are_shut (take n cells)) h).1 (omega (arith, l)) e

some_cell_row : (rows : Rows) (p : Place) (c : Cell) → cell_at rows p ≡ Some c → IsSome (row_of_node rows p.node)
some_cell_row rows p c e = by_row (row_of_node rows p.node) e
  where
    by_row : (o : Option StoredNode) → slice_get (alternatives_at o) p.index ≡ Some c → IsSome o
    by_row None k = absurd (cc k)
    by_row (Some r) k = refl

some_parent_row : (rows : Rows) (n : ℕ) (p : Option Place) → node_parent rows n ≡ Some p → IsSome (row_of_node rows n)
some_parent_row rows n p e = let r = parent_of rows n p e in ap is_some r.1.0

-- rows that were there and still are have changed at one place alone
pub record IsChanged (rows new : Rows) (a : Place) (cell : Cell) : Type 0 where
  pub here : IsSome (row_of_node rows a.node) → IsSome (row_of_node new a.node) → row_of_node new a.node ≡ with_state a.index cell (row_of_node rows a.node)
  pub same : (m : ℕ) → m ≢ a.node → IsSome (row_of_node rows m) → IsSome (row_of_node new m) → row_of_node new m ≡ row_of_node rows m

module _ (old new : NodesView) (a : Place) (cell : Cell) (limit : ℕ) (was : Stand old) (stands : Stand new) (c : IsChanged old.rows new.rows a cell)
    (there : IsSome (cell_at old.rows a)) (keeps : KeepsFront old.rows a cell.1 limit) where
  parent_kept : (n : ℕ) (p : Option Place) → node_parent old.rows n ≡ Some p → IsSome (row_of_node new.rows n) → node_parent new.rows n ≡ Some p
  parent_kept n p e s = elim (cases_eq n a.node) [
    | inl same ↦ here (row_of_node old.rows a.node) (subst (λ (k : ℕ). node_parent old.rows k ≡ Some p) same e) same
        (c.here (subst (λ (k : ℕ). IsSome (row_of_node old.rows k)) same (some_parent_row old.rows n p e)) (subst (λ (k : ℕ). IsSome (row_of_node new.rows k)) same s))
    | inr ne ↦ ap (λ (o : Option StoredNode). option_map (λ r. r.parent) o) (c.same n ne (some_parent_row old.rows n p e) s) ∙ e
  ]
    where
      here : (o : Option StoredNode) → option_map (λ r. r.parent) o ≡ Some p → n ≡ a.node → row_of_node new.rows a.node ≡ with_state a.index cell o
          → node_parent new.rows n ≡ Some p
      here None h same r = absurd (cc h)
      here (Some r) h same w = subst (λ (k : ℕ). node_parent new.rows k ≡ Some p) (sym same) (ap (λ (o : Option StoredNode). option_map (λ r. r.parent) o) w ∙ h)

  -- where the rows above are the same
  moved : (d e : Front) → (h : IsNextTo old.rows d e) → node_parent new.rows e.node ≡ Some (Some (place_on d.node h.index))
      → row_of_node new.rows d.node ≡ row_of_node old.rows d.node → IsNextTo new.rows d e
  moved d e h p r = record {
    index = h.index;
    spent = h.spent;
    cell = ap (λ (o : Option StoredNode). slice_get (alternatives_at o) h.index) r ∙ h.cell;
    parent = p;
    shut = ap (λ (o : Option StoredNode). are_shut (take h.index (alternatives_at o))) r ∙ h.shut;
    answers = h.answers ∙ ap (λ (o : Option StoredNode). counted d.answers (counts_from (0, 0) (take h.index (alternatives_at o))).0) (sym r);
    inferences = h.inferences
        ∙ ap (λ (o : Option StoredNode). counted d.inferences (counted (counts_from (0, 0) (take h.index (alternatives_at o))).1 h.spent)) (sym r);
  }

  -- where another cell is at a place further right
  beyond : (d e : Front) → (h : IsNextTo old.rows d e) → node_parent new.rows e.node ≡ Some (Some (place_on d.node h.index)) → h.index < a.index
      → alternatives_at (row_of_node new.rows d.node) ≡ slice_set (alternatives_at (row_of_node old.rows d.node)) a.index cell → IsNextTo new.rows d e
  beyond d e h p l r =
      let cells = alternatives_at (row_of_node old.rows d.node) in
      let front : take h.index (alternatives_at (row_of_node new.rows d.node)) ≡ take h.index cells
      = ap (take h.index) r ∙ take-set-le h.index cells a.index cell (omega (arith, l)) in
      record {
        index = h.index;
        spent = h.spent;
        cell = ap (λ (x : List Cell). slice_get x h.index) r ∙ (set_before cells a.index h.index cell l ∙ h.cell);
        parent = p;
        shut = ap are_shut front ∙ h.shut;
        answers = h.answers ∙ ap (λ (x : List Cell). counted d.answers (counts_from (0, 0) x).0) (sym front);
        inferences = h.inferences ∙ ap (λ (x : List Cell). counted d.inferences (counted (counts_from (0, 0) x).1 h.spent)) (sym front);
      }

  -- at the node of the place
  module _ (d e : Front) (h : IsNextTo old.rows d e) (p : node_parent new.rows e.node ≡ Some (Some (place_on d.node h.index))) (same : d.node ≡ a.node) where
    row_there : IsSome (row_of_node new.rows d.node)
    row_there = let i = parent_inner new e.node (place_on d.node h.index) stands p in some_cell_row new.rows (place_on d.node h.index) (i.0, InnerCell e.node) i.1

    cells_are : alternatives_at (row_of_node new.rows d.node) ≡ slice_set (alternatives_at (row_of_node old.rows d.node)) a.index cell
    cells_are = subst (λ (k : ℕ). alternatives_at (row_of_node new.rows k) ≡ slice_set (alternatives_at (row_of_node old.rows k)) a.index cell) (sym same)
        (ap alternatives_at (c.here (subst (λ (k : ℕ). IsSome (row_of_node old.rows k)) same (some_cell_row old.rows (place_on d.node h.index) (h.spent, InnerCell e.node) h.cell))
        (subst (λ (k : ℕ). IsSome (row_of_node new.rows k)) same row_there)) ∙ state_cells a.index cell (row_of_node old.rows a.node))

    at_right : HasOpenLeft old.rows a → IsNextTo new.rows d e
    at_right o = elim (cases_lt h.index a.index) [
      | inl l ↦ beyond d e h p l cells_are
      | inr not ↦ absurd (
          let k = is_some_cell (cell_at old.rows (place_on a.node o.index)) o.there in
          let at : slice_get (alternatives_at (row_of_node old.rows d.node)) o.index ≡ Some k.0
          = ap (λ (n : ℕ). slice_get (alternatives_at (row_of_node old.rows n)) o.index) same ∙ k.1 in
          let less = o.less in
          let shut = shut_before (alternatives_at (row_of_node old.rows d.node)) h.index o.index k.0 h.shut (omega (arith, not, less)) at in
          let z : true ≡ false = sym shut ∙ (ap is_shut_at (sym k.1) ∙ o.unclosed) in
          cc z
          )
    ]

    at_node : IsBeyond old.rows a cell.1 → IsNextTo new.rows d e
    at_node b = elim (cases_lt h.index a.index) [
      | inl l ↦ beyond d e h p l cells_are
      | inr not ↦ absurd (elim (cases_eq h.index a.index) [ inl eq ↦ own eq | inr ne ↦ further (omega (arith, not, ne)) ])
    ]
      where
        own : h.index ≡ a.index → ⊥
        own eq =
            let i = parent_inner new e.node (place_on d.node h.index) stands p in
            let cells = alternatives_at (row_of_node old.rows d.node) in
            let there : slice_get (slice_set cells a.index cell) a.index ≡ Some (i.0, InnerCell e.node)
            = subst (λ (k : ℕ). slice_get (slice_set cells a.index cell) k ≡ Some (i.0, InnerCell e.node)) eq (ap (λ (x : List Cell). slice_get x h.index) (sym cells_are) ∙ i.1) in
            let is : (i.0, InnerCell e.node) ≡ cell = set_same cells a.index cell (i.0, InnerCell e.node) there in
            b.now e.node (some_parent_row old.rows e.node (Some (place_on d.node h.index)) h.parent) (ap (λ (x : Cell). inner_of x.1) (sym is))

        further : a.index < h.index → ⊥
        further l =
            let k = is_some_cell (cell_at old.rows a) there in
            let at : slice_get (alternatives_at (row_of_node old.rows d.node)) a.index ≡ Some k.0
            = ap (λ (n : ℕ). slice_get (alternatives_at (row_of_node old.rows n)) a.index) same ∙ k.1 in
            let shut = shut_before (alternatives_at (row_of_node old.rows d.node)) h.index a.index k.0 h.shut l at in
            let z : true ≡ false = sym shut ∙ (ap is_shut_at (sym k.1) ∙ b.was) in
            cc z

  next_kept : (d e : Front) → IsNextTo old.rows d e → IsSome (row_of_node new.rows e.node) → e.node ≤ limit → IsNextTo new.rows d e
  next_kept d e h s le =
      let p = parent_kept e.node (Some (place_on d.node h.index)) h.parent s in
      let lower = parent_lower old e.node (place_on d.node h.index) was h.parent in
      let i = parent_inner new e.node (place_on d.node h.index) stands p in
      let d_new = some_cell_row new.rows (place_on d.node h.index) (i.0, InnerCell e.node) i.1 in
      let d_old = some_cell_row old.rows (place_on d.node h.index) (h.spent, InnerCell e.node) h.cell in
      elim (cases_eq d.node a.node) [
        | inl same ↦ elim keeps [
          | inl o ↦ at_right d e h p same o
          | inr others ↦ elim others [ inl b ↦ at_node d e h p same b | inr at_limit ↦ absurd (omega (arith, same, at_limit, le, lower)) ]
        ]
        | inr ne ↦ moved d e h p (c.same d.node ne d_old d_new)
      ]

  abbrev pub IsHead : List Front → Type 0
  IsHead [] = Unit {0}
  IsHead (e ∷ front) = IsSome (row_of_node new.rows e.node) × (e.node ≤ limit)

  one_kept : (before : Option Front) (e : Front) → new.first ≡ old.first → IsNextDown old.rows old.first before e → IsSome (row_of_node new.rows e.node) → e.node ≤ limit
      → IsNextDown new.rows new.first before e
  one_kept None e f h s l = record { node = f ∙ h.node; answers = h.answers; inferences = h.inferences }
  one_kept (Some d) e f h s l = next_kept d e h s l

  pub are_kept : (before : Option Front) (front : List Front) → new.first ≡ old.first → AreNext old.rows old.first before front → IsLastThere new.rows limit front
      → AreNext new.rows new.first before front × IsHead front
  are_kept before [] f h last = (tt, tt)
  are_kept before (e ∷ []) f h last = let l = last [] e refl in ((one_kept before e f h.0 l.0 l.1, tt), l)
  are_kept before (e ∷ g ∷ front) f h last =
      let r = are_kept (Some e) (g ∷ front) f h.1 (λ above x eq. last (e ∷ above) x (ap (λ (y : List Front). e ∷ y) eq)) in
      let next = h.1.0 in
      let now = next_kept e g next r.1.0 r.1.1 in
      let there = some_cell_row new.rows (place_on e.node now.index) (now.spent, InnerCell g.node) now.cell in
      let lower = parent_lower old g.node (place_on e.node next.index) was next.parent in
      let l : e.node ≤ limit = (let z = r.1.1 in omega (arith, z, lower)) in
      ((one_kept before e f h.0 there l, r.0), (there, l))

pub next-front : (rows : Rows) (first : Option ℕ) (before : Option Front) (front past : List Front) → AreNext rows first before (front ++ past)
    → AreNext rows first before front
next-front rows first before [] past h = tt
next-front rows first before (e ∷ front) past h = (h.0, next-front rows first (Some e) front past h.1)

-- the same rows
pub next_same : (rows new : Rows) (first : Option ℕ) (before : Option Front) (front : List Front) → ((m : ℕ) → row_of_node new m ≡ row_of_node rows m)
    → AreNext rows first before front → AreNext new first before front
next_same rows new first before [] same h = tt
next_same rows new first before (e ∷ front) same h = (one before h.0, next_same rows new first (Some e) front same h.1)
  where
    one : (o : Option Front) → IsNextDown rows first o e → IsNextDown new first o e
    one None k = k
    one (Some d) k = record {
      index = k.index;
      spent = k.spent;
      cell = ap (λ (o : Option StoredNode). slice_get (alternatives_at o) k.index) (same d.node) ∙ k.cell;
      parent = ap (λ (o : Option StoredNode). option_map (λ r. r.parent) o) (same e.node) ∙ k.parent;
      shut = ap (λ (o : Option StoredNode). are_shut (take k.index (alternatives_at o))) (same d.node) ∙ k.shut;
      answers = k.answers ∙ ap (λ (o : Option StoredNode). counted d.answers (counts_from (0, 0) (take k.index (alternatives_at o))).0) (sym (same d.node));
      inferences = k.inferences
          ∙ ap (λ (o : Option StoredNode). counted d.inferences (counted (counts_from (0, 0) (take k.index (alternatives_at o))).1 k.spent)) (sym (same d.node));
    }

-- the last one, or the one before all
abbrev pub last_from : Option Front → List Front → Option Front
last_from before [] = before
last_from before (e ∷ front) = last_from (Some e) front

last_from-snoc : (before : Option Front) (front : List Front) (e : Front) → last_from before (front ++ e ∷ []) ≡ Some e
last_from-snoc before [] e = refl
last_from-snoc before (d ∷ front) e = last_from-snoc (Some d) front e

pub last_is : (front : List Front) (last : Option Front) → IsLastOf front last → last ≡ last_from None front
last_is front None h = sym (ap (last_from None) h)
last_is front (Some e) h = sym (ap (last_from None) h.1 ∙ last_from-snoc None h.0 e)

-- one node more
next_from : (rows : Rows) (first : Option ℕ) (before : Option Front) (front : List Front) (e : Front)
    → AreNext rows first before front → IsNextDown rows first (last_from before front) e → AreNext rows first before (front ++ e ∷ [])
next_from rows first before [] e h n = (n, tt)
next_from rows first before (d ∷ front) e h n = (h.0, next_from rows first (Some d) front e h.1 n)

pub next-snoc : (rows : Rows) (first : Option ℕ) (front : List Front) (last : Option Front) (e : Front)
    → AreNext rows first None front → IsLastOf front last → IsNextDown rows first last e → AreNext rows first None (front ++ e ∷ [])
next-snoc rows first front last e h l n = next_from rows first None front e h (subst (λ (o : Option Front). IsNextDown rows first o e) (last_is front last l) n)

pub next_at_first : (rows : Rows) (first : Option ℕ) (front : List Front) → first ≡ None → AreNext rows first None front → front ≡ []
next_at_first rows first [] e h = refl
next_at_first rows first (f ∷ front) e h = absurd (let z : Some f.node ≡ None = sym h.0.node ∙ e in cc z)

pub inner_cell : (o : Option Cell) (n : ℕ) → inner_at o ≡ Some n → (spent : ℕ) × (o ≡ Some (spent, InnerCell n))
inner_cell None n e = absurd (cc e)
inner_cell (Some (spent, PendingCell hold)) n e = absurd (cc e)
inner_cell (Some (spent, ClosedCell credit)) n e = absurd (cc e)
inner_cell (Some (spent, InnerCell m)) n e = let same : m ≡ n = (cc e) in (spent, ap (λ (k : ℕ). Some (spent, InnerCell k)) same)
