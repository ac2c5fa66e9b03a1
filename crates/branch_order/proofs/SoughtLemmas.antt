-- The walk to the right over the entries of a tree, a node at a time.
use Rattle.std.proofs.Common.{◌≡◌, ℕ, zero, suc, ◌+◌, ◌-◌, ◌*◌, ◌<◌, ◌≤◌, Bool, true, false, cond, List, [], ◌∷◌, ◌++◌, length, take, Option, Some, None}
use Rattle.std.proofs.Common.{refl, sym, ap, ◌∙◌, arith, subst, append_assoc, length-append}
use Rattle.std.proofs.lemmas.List.{append-nil, nil_from_length}
use Rattle.std.specs.Option.{option_map}
use Rattle.std.specs.Prelude.{find, slice_get, IsSome, is_some, is_none}
use Rattle.run_model.specs.Machine.Entries.{Entry}
use Rattle.tree_model.specs.Gates.{scope_of}
use Rattle.tree_model.specs.Orders.{levels_below, first_open, is_cleared}
use Rattle.tree_model.specs.Legality.{is_ready, may_resume}
use Rattle.tree_model.specs.Nodes.{Gate, Hold, Ready, TakenBy, Waiting, Dormant}
use Rattle.tree_model.specs.Nodes.{Kind, Numbered, Alternatives, none, alternative, Status, Pending, Inner, Closed, nodes_among, nodes_below}
use Rattle.tree_model.specs.Levels.{Level, put_left, level_node, plug, Place, place_at, Spot, place_of_spot, pending_among, pending_below, pending_of}
use Rattle.tree_nodes.specs.declared.front.Front.{Front}
use Rattle.tree_nodes.specs.Bodies.{Body, Reading}
use Rattle.tree_nodes.specs.Rows.{AlternativeCell, PendingCell, InnerCell, ClosedCell, StoredNode, row_of_node, node_parent, alternatives_at, cell_at}
use Rattle.tree_nodes.specs.RowViews.{inner_of}
use Rattle.tree_nodes.specs.Puts.{inner_at}
use Rattle.tree_nodes.specs.Gathering.{are_shut}
use Rattle.tree_nodes.specs.Gaps.{shut_or_past, IsShutAt, IsNextAfter}
use Rattle.tree_nodes.proofs.CellLemmas.{some_within}
use Rattle.tree_nodes.specs.Fronts.{place_on, IsNextDown, AreNext, IsFront}
use Rattle.tree_nodes.specs.TreeTables.{node_number, cell_of, cells_of, IsIn, NodesView, IsRoot, IsTableOf, Stand, above_of}
use Rattle.tree_nodes.proofs.PlaceLemmas.{left_cells, length-left_cells, cells_of-put, taken_out}
use Rattle.tree_nodes.proofs.WalkLemmas.{cell_here, one_level_up, no_level_up}
use Rattle.branch_order.specs.declared.sought.Sought.{Sought}
use Rattle.branch_order.specs.declared.sought.Sought.TheVariants as sought
use Rattle.branch_order.specs.LeftOf.{IsFirstOpen}
use Rattle.branch_order.specs.Sought.{test_of, wants_ready, IsFirstEntry, passes_test, PassesAt, spots_right, nodes_right, IsAheadIn, IsAheadFrom, IsEntered, IsAlternativePassed}

-- the node at which a walk is
module _ (nodes : NodesView) (test : Spot → Bool) (n i most : ℕ) (read : Reading) (root : Status) (s : IsTableOf nodes read root)
    (h : IsAheadIn test root n i most) where
  abbrev whole : Alternatives
  whole = put_left h.left h.right

  row_ahead : (body : Body) × (row_of_node nodes.rows n ≡ Some (record { parent = above_of h.up; body = body; cells = cells_of whole }))
  row_ahead =
      let k = taken_out nodes.rows read h.up (Inner (Numbered n h.kind whole)) (subst (IsIn nodes.rows read [] None) h.same s.placed) in
      (k.inside.0, k.inside.1.0)

  cells_ahead : alternatives_at (row_of_node nodes.rows n) ≡ left_cells h.left ++ cells_of h.right
  cells_ahead = ap alternatives_at row_ahead.1 ∙ cells_of-put h.left h.right

  many_ahead : length (alternatives_at (row_of_node nodes.rows n)) ≡ i + length (cells_of h.right)
  many_ahead =
      let e : length (alternatives_at (row_of_node nodes.rows n)) ≡ length (left_cells h.left ++ cells_of h.right) = ap length cells_ahead in
      let f : length (left_cells h.left ++ cells_of h.right) ≡ length (left_cells h.left) + length (cells_of h.right)
      = length-append (left_cells h.left) (cells_of h.right) in
      let g : length (left_cells h.left) ≡ length h.left = length-left_cells h.left in
      let k : length h.left ≡ i = h.index in
      omega (arith, e, f, g, k)

-- the alternative at which a walk is
pub record IsAheadAt (test : Spot → Bool) (root : Status) (n i most : ℕ) : Type 0 where
  pub level : Level
  pub up : List Level
  pub status : Status
  pub same : root ≡ plug (level ∷ up) status
  pub at : place_at level ≡ place_on n i
  pub first : find test (pending_of root)
      ≡ find test ((pending_below level up status
      ++ pending_among up level.number level.kind ((level.spent, status) ∷ level.left) level.right) ++ spots_right up (Inner (level_node level status)))
  pub nodes : (nodes_below status + nodes_among level.right) + nodes_right up ≤ most

ahead_at : (nodes : NodesView) (test : Spot → Bool) (n i most : ℕ) (read : Reading) (root : Status) → IsTableOf nodes read root
    → IsAheadIn test root n i most → i < length (alternatives_at (row_of_node nodes.rows n)) → IsAheadAt test root n i most
ahead_at nodes test n i most read root s h l = by_right h.right refl
  where
    by_right : (r : Alternatives) → h.right ≡ r → IsAheadAt test root n i most
    by_right none e =
        let many : length (alternatives_at (row_of_node nodes.rows n)) ≡ i + length (cells_of h.right) = many_ahead nodes test n i most read root s h in
        let empty : length (cells_of h.right) ≡ 0 = ap (λ (x : Alternatives). length (cells_of x)) e in
        absurd (omega (arith, l, many, empty))
    by_right (alternative spent status others) e = record {
      level = record { number = n; kind = h.kind; left = h.left; spent = spent; right = others };
      up = h.up;
      status = status;
      same = h.same ∙ ap (λ (x : Alternatives). plug h.up (Inner (Numbered n h.kind (put_left h.left x)))) e;
      at = ap (place_on n) h.index;
      first = h.first
          ∙ ap (λ (x : Alternatives). find test (pending_among h.up n h.kind h.left x ++ spots_right h.up (Inner (Numbered n h.kind (put_left h.left x))))) e;
      nodes = subst (λ (x : Alternatives). nodes_among x + nodes_right h.up ≤ most) e h.nodes;
    }

-- an entry that passes_test is found
pub entry_found : (nodes : NodesView) (test : Spot → Bool) (n i most : ℕ) → IsAheadFrom nodes test n i most
    → i < length (alternatives_at (row_of_node nodes.rows n)) → PassesAt nodes (place_on n i) test true → IsFirstEntry test nodes (Some (place_on n i))
entry_found nodes test n i most h l p read root s =
    let k = ahead_at nodes test n i most read root s (h read root s) l in
    ap (option_map place_of_spot) k.first ∙ by_status k (p read k.level k.up k.status k.at (subst (IsTableOf nodes read) k.same s))
  where
    by_status : (k : IsAheadAt test root n i most) → true ≡ passes_test test k.level k.up k.status
        → option_map place_of_spot (find test ((pending_below k.level k.up k.status
        ++ pending_among k.up k.level.number k.level.kind ((k.level.spent, k.status) ∷ k.level.left) k.level.right)
        ++ spots_right k.up (Inner (level_node k.level k.status)))) ≡ Some (place_on n i)
    by_status k e = go k.status e
      where
        go : (t : Status) → true ≡ passes_test test k.level k.up t
            → option_map place_of_spot (find test ((pending_below k.level k.up t
            ++ pending_among k.up k.level.number k.level.kind ((k.level.spent, t) ∷ k.level.left) k.level.right)
            ++ spots_right k.up (Inner (level_node k.level t)))) ≡ Some (place_on n i)
        go (Inner node) e = absurd (cc e)
        go (Closed credit) e = absurd (cc e)
        go (Pending hold entry) e =
            let spot : Spot = record { level = k.level; above = k.up; hold = hold; entry = entry } in
            let rest : List Spot
            = pending_among k.up k.level.number k.level.kind ((k.level.spent, Pending hold entry) ∷ k.level.left) k.level.right
            ++ spots_right k.up (Inner (level_node k.level (Pending hold entry))) in
            ap (λ (b : Bool). option_map place_of_spot (cond b (Some spot) (find test rest))) (sym e) ∙ ap Some k.at

-- what has no entry that passes_test and no node below it is left behind
pub goes_right : (nodes : NodesView) (test : Spot → Bool) (n i most : ℕ) → IsAheadFrom nodes test n i most
    → i < length (alternatives_at (row_of_node nodes.rows n)) → PassesAt nodes (place_on n i) test false
    → inner_at (cell_at nodes.rows (place_on n i)) ≡ None → IsAheadFrom nodes test n (suc i) most
goes_right nodes test n i most h l p below read root s =
    let k = ahead_at nodes test n i most read root s (h read root s) l in
    let here = subst (IsTableOf nodes read) k.same s in
    go k k.status refl (p read k.level k.up k.status k.at here)
    (ap inner_at (sym (cell_here nodes read k.level k.up k.status here)) ∙ (ap (λ (a : Place). inner_at (cell_at nodes.rows a)) k.at ∙ below))
  where
    on : (k : IsAheadAt test root n i most) (t : Status) → k.status ≡ t → nodes_below t ≡ 0
        → find test ((pending_below k.level k.up t
        ++ pending_among k.up k.level.number k.level.kind ((k.level.spent, t) ∷ k.level.left) k.level.right)
        ++ spots_right k.up (Inner (level_node k.level t)))
        ≡ find test (pending_among k.up k.level.number k.level.kind ((k.level.spent, t) ∷ k.level.left) k.level.right
        ++ spots_right k.up (Inner (level_node k.level t))) → IsAheadIn test root n (suc i) most
    on k t e z f =
        let number : k.level.number ≡ n = ap (λ (a : Place). a.node) k.at in
        let index : length k.level.left ≡ i = ap (λ (a : Place). a.index) k.at in
        let less : (nodes_below t + nodes_among k.level.right) + nodes_right k.up ≤ most
        = subst (λ (x : Status). (nodes_below x + nodes_among k.level.right) + nodes_right k.up ≤ most) e k.nodes in
        subst (λ (m : ℕ). IsAheadIn test root m (suc i) most) number (record {
          up = k.up;
          kind = k.level.kind;
          left = (k.level.spent, t) ∷ k.level.left;
          right = k.level.right;
          same = k.same ∙ ap (plug (k.level ∷ k.up)) e;
          index = ap suc index;
          first = k.first
              ∙ (ap (λ (x : Status). find test ((pending_below k.level k.up x
              ++ pending_among k.up k.level.number k.level.kind ((k.level.spent, x) ∷ k.level.left) k.level.right)
              ++ spots_right k.up (Inner (level_node k.level x)))) e ∙ f);
          nodes = omega (arith, less, z);
        })

    go : (k : IsAheadAt test root n i most) (t : Status) → k.status ≡ t → false ≡ passes_test test k.level k.up k.status
        → inner_of (cell_of k.status) ≡ None → IsAheadIn test root n (suc i) most
    go k (Closed credit) e f z = on k (Closed credit) e refl refl
    go k (Inner node) e f z = absurd (let no_way : Some (node_number node) ≡ None = ap (λ (x : Status). inner_of (cell_of x)) (sym e) ∙ z in cc no_way)
    go k (Pending hold entry) e f z =
        let spot : Spot = record { level = k.level; above = k.up; hold = hold; entry = entry } in
        let rest : List Spot
        = pending_among k.up k.level.number k.level.kind ((k.level.spent, Pending hold entry) ∷ k.level.left) k.level.right
        ++ spots_right k.up (Inner (level_node k.level (Pending hold entry))) in
        let fails : test spot ≡ false = sym (f ∙ ap (passes_test test k.level k.up) e) in
        on k (Pending hold entry) e refl (ap (λ (b : Bool). cond b (Some spot) (find test rest)) fails)

-- a node below is entered
pub goes_down_at : (nodes : NodesView) (test : Spot → Bool) (n i m most : ℕ) → IsAheadFrom nodes test n i most
    → i < length (alternatives_at (row_of_node nodes.rows n)) → inner_at (cell_at nodes.rows (place_on n i)) ≡ Some m → IsEntered nodes test m most
goes_down_at nodes test n i m most h l below read root s =
    let k = ahead_at nodes test n i most read root s (h read root s) l in
    let here = subst (IsTableOf nodes read) k.same s in
    go k k.status refl
    (ap inner_at (sym (cell_here nodes read k.level k.up k.status here)) ∙ (ap (λ (a : Place). inner_at (cell_at nodes.rows a)) k.at ∙ below))
  where
    go : (k : IsAheadAt test root n i most) (t : Status) → k.status ≡ t → inner_of (cell_of k.status) ≡ Some m
        → (0 < most) × IsAheadIn test root m 0 (most - 1)
    go k (Closed credit) e z = absurd (let no_way : None ≡ Some m = ap (λ (x : Status). inner_of (cell_of x)) (sym e) ∙ z in cc no_way)
    go k (Pending hold entry) e z = absurd (let no_way : None ≡ Some m = ap (λ (x : Status). inner_of (cell_of x)) (sym e) ∙ z in cc no_way)
    go k (Inner (Numbered c kind others)) e z =
        let same : c ≡ m = (let f : Some c ≡ Some m = ap (λ (x : Status). inner_of (cell_of x)) (sym e) ∙ z in cc f) in
        let less : ((1 + nodes_among others) + nodes_among k.level.right) + nodes_right k.up ≤ most
        = subst (λ (x : Status). (nodes_below x + nodes_among k.level.right) + nodes_right k.up ≤ most) e k.nodes in
        let t : Status = Inner (Numbered c kind others) in (
          omega (arith, less),
          subst (λ (x : ℕ). IsAheadIn test root x 0 (most - 1)) same (record {
            up = k.level ∷ k.up;
            kind = kind;
            left = [];
            right = others;
            same = k.same ∙ ap (plug (k.level ∷ k.up)) e;
            index = refl;
            first = k.first
                ∙ (ap (λ (x : Status). find test ((pending_below k.level k.up x
                ++ pending_among k.up k.level.number k.level.kind ((k.level.spent, x) ∷ k.level.left) k.level.right)
                ++ spots_right k.up (Inner (level_node k.level x)))) e
                ∙ ap (find test) (append_assoc (pending_among (k.level ∷ k.up) c kind [] others)
                (pending_among k.up k.level.number k.level.kind ((k.level.spent, t) ∷ k.level.left) k.level.right)
                (spots_right k.up (Inner (level_node k.level t)))));
            nodes = omega (arith, less);
          }),
        )

-- nothing is left of a node
module _ (nodes : NodesView) (test : Spot → Bool) (n i most : ℕ) (read : Reading) (root : Status) (s : IsTableOf nodes read root)
    (h : IsAheadIn test root n i most) (l : length (alternatives_at (row_of_node nodes.rows n)) ≤ i) where
  nothing_right : h.right ≡ none
  nothing_right = by_right h.right refl
    where
      many : length (alternatives_at (row_of_node nodes.rows n)) ≡ i + length (cells_of h.right)
      many = many_ahead nodes test n i most read root s h

      by_right : (r : Alternatives) → h.right ≡ r → r ≡ none
      by_right none e = refl
      by_right (alternative spent status others) e =
          let more : length (cells_of h.right) ≡ suc (length (cells_of others)) = ap (λ (x : Alternatives). length (cells_of x)) e in
          absurd (omega (arith, many, more, l))

  above_is : (parent : Option Place) → node_parent nodes.rows n ≡ Some parent → above_of h.up ≡ parent
  above_is parent e =
      let z : Some (above_of h.up) ≡ Some parent
      = sym (ap (λ (o : Option StoredNode). option_map (λ r. r.parent) o) (row_ahead nodes test n i most read root s h).1) ∙ e in
      cc z

  left_of : Status
  left_of = Inner (Numbered n h.kind (put_left h.left none))

  first_above : find test (pending_of root) ≡ find test (spots_right h.up left_of)
  unfolding left_of
  first_above = h.first
      ∙ ap (λ (x : Alternatives). find test (pending_among h.up n h.kind h.left x ++ spots_right h.up (Inner (Numbered n h.kind (put_left h.left x))))) nothing_right

  no_more : node_parent nodes.rows n ≡ Some None → find test (pending_of root) ≡ None
  no_more e = first_above ∙ ap (λ (ls : List Level). find test (spots_right ls left_of)) (no_level_up h.up (above_is None e))

  goes_up_in : (b : Place) → node_parent nodes.rows n ≡ Some (Some b) → IsAheadIn test root b.node (suc b.index) most
  unfolding left_of
  goes_up_in b e =
      let fake : Level = record { number = n; kind = h.kind; left = []; spent = 0; right = none } in
      let u = one_level_up fake h.up b (above_is (Some b) e) in
      let number : u.level.number ≡ b.node = ap (λ (a : Place). a.node) u.at in
      let index : length u.level.left ≡ b.index = ap (λ (a : Place). a.index) u.at in
      let less : nodes_among h.right + nodes_right h.up ≤ most = h.nodes in
      let more : nodes_right h.up ≡ nodes_among u.level.right + nodes_right u.above = ap nodes_right u.is in
      subst (λ (m : ℕ). IsAheadIn test root m (suc b.index) most) number (record {
        up = u.above;
        kind = u.level.kind;
        left = (u.level.spent, left_of) ∷ u.level.left;
        right = u.level.right;
        same = h.same ∙ (ap (λ (x : Alternatives). plug h.up (Inner (Numbered n h.kind (put_left h.left x)))) nothing_right
            ∙ ap (λ (ls : List Level). plug ls left_of) u.is);
        index = ap suc index;
        first = first_above ∙ ap (λ (ls : List Level). find test (spots_right ls left_of)) u.is;
        nodes = omega (arith, less, more);
      })

pub goes_up : (nodes : NodesView) (test : Spot → Bool) (n most : ℕ) (b : Place) → IsAlternativePassed nodes test n most → node_parent nodes.rows n ≡ Some (Some b)
    → IsAheadFrom nodes test b.node (suc b.index) most
goes_up nodes test n most b p e read root s = goes_up_in nodes test n p.index most read root s (p.ahead read root s) p.last b e

pub nothing_found : (nodes : NodesView) (test : Spot → Bool) (n most : ℕ) → IsAlternativePassed nodes test n most → node_parent nodes.rows n ≡ Some None
    → IsFirstEntry test nodes None
nothing_found nodes test n most p e read root s =
    ap (option_map place_of_spot) (no_more nodes test n p.index most read root s (p.ahead read root s) p.last e)

-- what has closed at the left of a node is passed
close_passed : (test : Spot → Bool) (root : Status) (n most : ℕ) (up : List Level) (kind : Kind) (left : List (ℕ × Status)) (right : Alternatives) (j : ℕ)
    → root ≡ plug up (Inner (Numbered n kind (put_left left right)))
    → find test (pending_of root) ≡ find test (pending_among up n kind left right ++ spots_right up (Inner (Numbered n kind (put_left left right))))
    → nodes_among right + nodes_right up ≤ most → are_shut (take j (cells_of right)) ≡ true → j ≤ length (cells_of right)
    → IsAheadIn test root n (length left + j) most
close_passed test root n most up kind left right zero e f g h l = record {
  up = up;
  kind = kind;
  left = left;
  right = right;
  same = e;
  index = let z : length left ≡ length left + 0 = omega arith in z;
  first = f;
  nodes = g;
}
close_passed test root n most up kind left none (suc j) e f g h l = absurd (omega (arith, l))
close_passed test root n most up kind left (alternative spent (Closed credit) others) (suc j) e f g h l =
    let more : suc (length left) + j ≡ length left + suc j = omega arith in
    subst (λ (k : ℕ). IsAheadIn test root n k most) more
    (close_passed test root n most up kind ((spent, Closed credit) ∷ left) others j e f (omega (arith, g)) h (omega (arith, l)))
close_passed test root n most up kind left (alternative spent (Pending hold entry) others) (suc j) e f g h l = absurd (cc h)
close_passed test root n most up kind left (alternative spent (Inner node) others) (suc j) e f g h l = absurd (cc h)

pub closed_passed : (nodes : NodesView) (test : Spot → Bool) (n j most : ℕ) → are_shut (take j (alternatives_at (row_of_node nodes.rows n))) ≡ true
    → j ≤ length (alternatives_at (row_of_node nodes.rows n)) → IsAheadFrom nodes test n 0 most → IsAheadFrom nodes test n j most
closed_passed nodes test n j most shut l h read root s =
    let k = h read root s in
    let none_left : k.left ≡ [] = nil_from_length k.left k.index in
    let cells : alternatives_at (row_of_node nodes.rows n) ≡ cells_of k.right
    = cells_ahead nodes test n 0 most read root s k ∙ ap (λ (x : List (ℕ × Status)). left_cells x ++ cells_of k.right) none_left in
    let many : length (alternatives_at (row_of_node nodes.rows n)) ≡ length (cells_of k.right) = ap length cells in
    let start : length k.left + j ≡ j = (let z : length k.left ≡ 0 = k.index in omega (arith, z)) in
    subst (λ (i : ℕ). IsAheadIn test root n i most) start
    (close_passed test root n most k.up k.kind k.left k.right j k.same k.first k.nodes
    (ap (λ (x : List (ℕ × AlternativeCell)). are_shut (take j x)) (sym cells) ∙ shut) (omega (arith, l, many)))

-- a walk begins at the first node
pub from_first : (nodes : NodesView) (test : Spot → Bool) (n : ℕ) → nodes.first ≡ Some n → IsAheadFrom nodes test n 0 nodes.live
from_first nodes test n f read root s = by_root root s.rooted refl
  where
    by_root : (r : Status) → IsRoot nodes.first r → root ≡ r → IsAheadIn test root n 0 nodes.live
    by_root (Pending hold entry) h e = absurd h
    by_root (Closed credit) h e = absurd (cc (sym h ∙ f))
    by_root (Inner (Numbered m kind others)) h e =
        let same : m ≡ n = (let z : Some m ≡ Some n = sym h ∙ f in cc z) in
        let live : nodes.live ≡ 1 + nodes_among others = s.live ∙ ap nodes_below e in
        subst (λ (x : ℕ). IsAheadIn test root x 0 nodes.live) same (record {
          up = [];
          kind = kind;
          left = [];
          right = others;
          same = e;
          index = refl;
          first = ap (λ (x : Status). find test (pending_of x)) e ∙ ap (find test) (sym (append-nil (pending_among [] m kind [] others)));
          nodes = omega (arith, live);
        })

pub no_first_entry : (nodes : NodesView) (test : Spot → Bool) → nodes.first ≡ None → IsFirstEntry test nodes None
no_first_entry nodes test f read root s = by_root root s.rooted refl
  where
    by_root : (r : Status) → IsRoot nodes.first r → root ≡ r → option_map place_of_spot (find test (pending_of root)) ≡ None
    by_root (Pending hold entry) h e = absurd h
    by_root (Closed credit) h e = ap (λ (x : Status). option_map place_of_spot (find test (pending_of x))) e
    by_root (Inner node) h e = absurd (let z : Some (node_number node) ≡ None = sym h ∙ f in cc z)

-- or at the front
fewer : (nodes : NodesView) (test : Spot → Bool) (n i most : ℕ) → IsEntered nodes test n most → IsAheadFrom nodes test n 0 most
fewer nodes test n i most h read root s =
    let k = (h read root s).1 in
    let less : nodes_among k.right + nodes_right k.up ≤ most - 1 = k.nodes in
    record { up = k.up; kind = k.kind; left = k.left; right = k.right; same = k.same; index = k.index; first = k.first; nodes = omega (arith, less) }

abbrev IsReached : NodesView → (Spot → Bool) → Option Front → Type 0
IsReached nodes test None = Unit {0}
IsReached nodes test (Some d) = IsAheadFrom nodes test d.node 0 nodes.live

some_less : (cells : List (ℕ × AlternativeCell)) (i : ℕ) (c : ℕ × AlternativeCell) → slice_get cells i ≡ Some c → i < length cells
some_less [] i c e = absurd (cc e)
some_less (x ∷ cells) zero c e = omega arith
some_less (x ∷ cells) (suc i) c e = let l = some_less cells i c e in omega (arith, l)

one_down : (nodes : NodesView) (test : Spot → Bool) (before : Option Front) (e : Front) → IsNextDown nodes.rows nodes.first before e
    → IsReached nodes test before → IsAheadFrom nodes test e.node 0 nodes.live
one_down nodes test None e h k = from_first nodes test e.node h.node
one_down nodes test (Some d) e h k =
    let cells = alternatives_at (row_of_node nodes.rows d.node) in
    let l : h.index < length cells = some_less cells h.index (h.spent, InnerCell e.node) h.cell in
    let less : h.index ≤ length cells = omega (arith, l) in
    fewer nodes test e.node 0 nodes.live (goes_down_at nodes test d.node h.index e.node nodes.live
    (closed_passed nodes test d.node h.index nodes.live h.shut less k) l (ap inner_at h.cell))

all_down : (nodes : NodesView) (test : Spot → Bool) (before : Option Front) (above : List Front) (e : Front)
    → AreNext nodes.rows nodes.first before (above ++ e ∷ []) → IsReached nodes test before → IsAheadFrom nodes test e.node 0 nodes.live
all_down nodes test before [] e h k = one_down nodes test before e h.0 k
all_down nodes test before (d ∷ above) e h k = all_down nodes test (Some d) above e h.1 (one_down nodes test before d h.0 k)

pub from_front : (nodes : NodesView) (test : Spot → Bool) (e : Front) → IsFront nodes (Some e) → IsAheadFrom nodes test e.node 0 nodes.live
from_front nodes test e h = all_down nodes test None h.0 e h.1 tt

-- the node of a walk is there
pub is_there : (nodes : NodesView) (test : Spot → Bool) (n i most : ℕ) → Stand nodes → IsAheadFrom nodes test n i most → IsSome (row_of_node nodes.rows n)
is_there nodes test n i most st h =
    ap is_some (row_ahead nodes test n i most st.read st.root st.stands (h st.read st.root st.stands)).1

-- how an alternative stands says whether it passes_test
abbrev AtCell : NodesView → Place → (Spot → Bool) → Bool → AlternativeCell → Type 0
AtCell nodes a test result cell =
    (read : Reading) (v : Level) (up : List Level) (was : Status) → place_at v ≡ a → IsTableOf nodes read (plug (v ∷ up) was) → cell_of was ≡ cell
    → result ≡ passes_test test v up was

passes_by : (nodes : NodesView) (a : Place) (test : Spot → Bool) (result : Bool) (cell : AlternativeCell)
    → option_map (λ c. c.1) (cell_at nodes.rows a) ≡ Some cell → AtCell nodes a test result cell → PassesAt nodes a test result
passes_by nodes a test result cell c h read v up was at s =
    let here : cell_at nodes.rows a ≡ Some (v.spent, cell_of was) = ap (cell_at nodes.rows) (sym at) ∙ cell_here nodes read v up was s in
    let same : Some (cell_of was) ≡ Some cell = sym (ap (λ (o : Option (ℕ × AlternativeCell)). option_map (λ c. c.1) o) here) ∙ c in
    h read v up was at s (cc same)

pub ready_passes : (nodes : NodesView) (a : Place) (which : Sought) → option_map (λ c. c.1) (cell_at nodes.rows a) ≡ Some (PendingCell Ready)
    → PassesAt nodes a (test_of which) (wants_ready which)
ready_passes nodes a which c = passes_by nodes a (test_of which) (wants_ready which) (PendingCell Ready) c (λ read v up was at s. by_status v up was)
  where
    on_hold : (v : Level) (up : List Level) (hold : Hold) (entry : Entry) (x : Sought) → hold ≡ Ready
        → wants_ready x ≡ test_of x (record { level = v; above = up; hold = hold; entry = entry })
    on_hold v up Ready entry sought.Ready e = refl
    on_hold v up Ready entry sought.Cleared e = refl
    on_hold v up (TakenBy w) entry x e = absurd (cc e)
    on_hold v up (Waiting g) entry x e = absurd (cc e)
    on_hold v up Dormant entry x e = absurd (cc e)

    by_status : (v : Level) (up : List Level) (was : Status) → cell_of was ≡ PendingCell Ready → wants_ready which ≡ passes_test (test_of which) v up was
    by_status v up (Inner node) e = absurd (cc e)
    by_status v up (Closed credit) e = absurd (cc e)
    by_status v up (Pending hold entry) e = on_hold v up hold entry which (cc e)

pub waiting_fails : (nodes : NodesView) (a : Place) (g : Gate) → option_map (λ c. c.1) (cell_at nodes.rows a) ≡ Some (PendingCell (Waiting g))
    → PassesAt nodes a (test_of sought.Ready) false
waiting_fails nodes a g c = passes_by nodes a (test_of sought.Ready) false (PendingCell (Waiting g)) c (λ read v up was at s. by_status v up was)
  where
    on_hold : (hold : Hold) → hold ≡ Waiting g → false ≡ is_ready hold
    on_hold Ready e = absurd (cc e)
    on_hold (TakenBy w) e = refl
    on_hold (Waiting h) e = refl
    on_hold Dormant e = refl

    by_status : (v : Level) (up : List Level) (was : Status) → cell_of was ≡ PendingCell (Waiting g) → false ≡ passes_test (test_of sought.Ready) v up was
    by_status v up (Inner node) e = refl
    by_status v up (Closed credit) e = refl
    by_status v up (Pending hold entry) e = on_hold hold (cc e)

pub waiting_passes : (nodes : NodesView) (a : Place) (g : Gate) (first : Option Place) → option_map (λ c. c.1) (cell_at nodes.rows a) ≡ Some (PendingCell (Waiting g))
    → IsFirstOpen nodes a (scope_of g) first → PassesAt nodes a (test_of sought.Cleared) (is_none first)
waiting_passes nodes a g first c f =
    passes_by nodes a (test_of sought.Cleared) (is_none first) (PendingCell (Waiting g)) c
    (λ read v up was at s e. by_status v up was (sym (f read v up was at s)) e)
  where
    on_hold : (v : Level) (up : List Level) (hold : Hold) (entry : Entry) → first ≡ first_open (levels_below (scope_of g) (v ∷ up)) → hold ≡ Waiting g
        → is_none first ≡ may_resume (record { level = v; above = up; hold = hold; entry = entry }) hold
    on_hold v up Ready entry z e = absurd (cc e)
    on_hold v up (TakenBy w) entry z e = absurd (cc e)
    on_hold v up (Waiting h) entry z e =
        let same : h ≡ g = cc e in
        ap is_none z ∙ ap (λ (x : Gate). is_cleared (scope_of x) (v ∷ up)) (sym same)
    on_hold v up Dormant entry z e = absurd (cc e)

    by_status : (v : Level) (up : List Level) (was : Status) → first ≡ first_open (levels_below (scope_of g) (v ∷ up)) → cell_of was ≡ PendingCell (Waiting g)
        → is_none first ≡ passes_test (test_of sought.Cleared) v up was
    by_status v up (Inner node) z e = absurd (cc e)
    by_status v up (Closed credit) z e = absurd (cc e)
    by_status v up (Pending hold entry) z e = on_hold v up hold entry z (cc e)

-- with a worker, asleep, closed or above a node
abbrev pub passes_never : AlternativeCell → Bool
passes_never (PendingCell Ready) = false
passes_never (PendingCell (Waiting g)) = false
passes_never (PendingCell (TakenBy w)) = true
passes_never (PendingCell Dormant) = true
passes_never (InnerCell n) = true
passes_never (ClosedCell credit) = true

pub others_fail : (nodes : NodesView) (a : Place) (which : Sought) (cell : AlternativeCell) → passes_never cell ≡ true
    → option_map (λ c. c.1) (cell_at nodes.rows a) ≡ Some cell → PassesAt nodes a (test_of which) false
others_fail nodes a which cell n c = passes_by nodes a (test_of which) false cell c (λ read v up was at s e. by_status v up was (ap passes_never e ∙ n))
  where
    on_hold : (v : Level) (up : List Level) (hold : Hold) (entry : Entry) (x : Sought) → passes_never (PendingCell hold) ≡ true
        → false ≡ test_of x (record { level = v; above = up; hold = hold; entry = entry })
    on_hold v up Ready entry x e = absurd (cc e)
    on_hold v up (Waiting g) entry x e = absurd (cc e)
    on_hold v up (TakenBy w) entry sought.Ready e = refl
    on_hold v up (TakenBy w) entry sought.Cleared e = refl
    on_hold v up Dormant entry sought.Ready e = refl
    on_hold v up Dormant entry sought.Cleared e = refl

    by_status : (v : Level) (up : List Level) (was : Status) → passes_never (cell_of was) ≡ true → false ≡ passes_test (test_of which) v up was
    by_status v up (Inner node) e = refl
    by_status v up (Closed credit) e = refl
    by_status v up (Pending hold entry) e = on_hold v up hold entry which e

-- what has closed beside an alternative is passed at once
module _ (nodes : NodesView) (which : Sought) (n most : ℕ) where
  abbrev Cells : List (ℕ × AlternativeCell)
  Cells = alternatives_at (row_of_node nodes.rows n)

  past_one : (j : ℕ) (o : Option (ℕ × AlternativeCell)) → slice_get Cells j ≡ o → shut_or_past o ≡ true → j < length Cells
      → IsAheadFrom nodes (test_of which) n j most → IsAheadFrom nodes (test_of which) n (suc j) most
  past_one j None e s l h = absurd (let z : IsSome {T = ℕ × AlternativeCell} None = subst IsSome e (some_within Cells j l) in cc z)
  past_one j (Some (spent, PendingCell hold)) e s l h = absurd (cc s)
  past_one j (Some (spent, InnerCell m)) e s l h = absurd (cc s)
  past_one j (Some (spent, ClosedCell credit)) e s l h =
      goes_right nodes (test_of which) n j most h l
      (others_fail nodes (place_on n j) which (ClosedCell credit) refl (ap (λ (o : Option (ℕ × AlternativeCell)). option_map (λ c. c.1) o) e)) (ap inner_at e)

  past_all : (i k : ℕ) → i + k ≤ length Cells → ((j : ℕ) → i ≤ j → j < i + k → IsShutAt Cells j) → IsAheadFrom nodes (test_of which) n i most
      → IsAheadFrom nodes (test_of which) n (i + k) most
  past_all i zero l s h = subst (λ (x : ℕ). IsAheadFrom nodes (test_of which) n x most) (let z : i ≡ i + 0 = omega arith in z) h
  past_all i (suc k) l s h =
      let before = past_all i k (omega (arith, l)) (λ j a b. s j a (omega (arith, b))) h in
      subst (λ (x : ℕ). IsAheadFrom nodes (test_of which) n x most) (let z : suc (i + k) ≡ i + suc k = omega arith in z)
      (past_one (i + k) (slice_get Cells (i + k)) refl (s (i + k) (omega arith) (omega arith)) (omega (arith, l)) before)

  pub jumped : (i m : ℕ) → IsNextAfter Cells i m → m ≤ length Cells → IsAheadFrom nodes (test_of which) n (suc i) most
      → IsAheadFrom nodes (test_of which) n m most
  jumped i m next l h =
      let f = next.further in
      let z : suc i + (m - suc i) ≡ m = omega (arith, f) in
      subst (λ (x : ℕ). IsAheadFrom nodes (test_of which) n x most) z
      (past_all (suc i) (m - suc i) (omega (arith, f, l)) (λ j a b. next.shut j (omega (arith, a)) (omega (arith, f, b))) h)

-- one node less is ahead
pub fewer_ahead : (left many m n : ℕ) → 0 < left → m < many → (left - 1) * (many + 1) + m < left * (many + 1) + n
fewer_ahead zero many m n l k = absurd (omega (arith, l))
fewer_ahead (suc left) many m n l k =
    let one : suc left - 1 ≡ left = omega arith in
    let more : suc left * (many + 1) ≡ left * (many + 1) + (many + 1) = omega arith in
    let less : left * (many + 1) + m < left * (many + 1) + (many + 1) + n = omega (arith, k) in
    subst (λ (x : ℕ). x * (many + 1) + m < suc left * (many + 1) + n) (sym one) (subst (λ (x : ℕ). left * (many + 1) + m < x + n) (sym more) less)
