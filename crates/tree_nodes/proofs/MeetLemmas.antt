-- Two ways up from places of a tree, until they meet.
use Rattle.std.proofs.Common.{◌≡◌, ◌≢◌, ℕ, ◌<◌, ◌≤◌, ◌==◌, Bool, true, false, cond, List, [], ◌∷◌, ◌++◌, length, Option, Some, None, refl, sym, ap, ◌∙◌, arith, subst, append_assoc}
use Rattle.std.specs.Prelude.{nat_lt}
use Rattle.std.proofs.lemmas.List.{append-nil}
use Rattle.std.specs.Option.{option_map}
use Rattle.tree_model.specs.Nodes.{Node, Status, Pending, Inner, Closed}
use Rattle.tree_model.specs.Levels.{Level, level_node, plug, Place, place_at}
use Rattle.tree_model.specs.Orders.{path_of, parts_left}
use Rattle.tree_nodes.specs.Bodies.{Branching, Reading}
use Rattle.tree_nodes.specs.Rows.{AlternativeCell, PendingCell, InnerCell, ClosedCell, StoredNode, Rows, row_of_node, node_parent, cell_at}
use Rattle.tree_nodes.specs.TreeTables.{node_number, cell_of, IsIn, NodesView, IsTableOf, above_of}
use Rattle.tree_nodes.proofs.PlaceLemmas.{AreRound, taken_out}
use Rattle.tree_nodes.proofs.PutLemmas.{cell_there}
use Rattle.tree_nodes.proofs.WalkLemmas.{one_level_up, no_level_up}

abbrev parent_or : Option StoredNode → Option Place
parent_or None = None
parent_or (Some r) = r.parent

abbrev number_or : Status → ℕ
number_or (Inner node) = node_number node
number_or (Pending hold entry) = 0
number_or (Closed credit) = 0

abbrev inner_or : Option (ℕ × AlternativeCell) → ℕ
inner_or None = 0
inner_or (Some c) = elim c.1 [ PendingCell hold ↦ 0 | InnerCell n ↦ n | ClosedCell credit ↦ 0 ]

-- levels that were left on the way up, the last first, put back
abbrev pub put_back : List Level → List Level → List Level
put_back [] levels = levels
put_back (x ∷ out) levels = put_back out (x ∷ levels)

abbrev pub path_down : List Level → List Place
path_down [] = []
path_down (x ∷ out) = place_at x ∷ path_down out

pub path_of-back : (out levels : List Level) → path_of (put_back out levels) ≡ path_of levels ++ path_down out
path_of-back [] levels = sym (append-nil (path_of levels))
path_of-back (x ∷ out) levels = path_of-back out (x ∷ levels) ∙ append_assoc (path_of levels) (place_at x ∷ []) (path_down out)

-- the last level that was left is below this number
abbrev pub IsLastBelow : List Level → ℕ → Type 0
IsLastBelow [] n = Unit {0}
IsLastBelow (x ∷ out) n = n < x.number

abbrev pub AreApart : List Level → List Level → Type 0
AreApart [] other = Unit {0}
AreApart (x ∷ out) [] = Unit {0}
AreApart (x ∷ out) (y ∷ other) = x.number ≢ y.number

pub record IsSide (root : Status) (whole : List Level) (a : Place) : Type 0 where
  pub level : Level
  pub above : List Level
  pub out : List Level
  pub status : Status
  pub is : root ≡ plug (level ∷ above) status
  pub at : place_at level ≡ a
  pub from : whole ≡ put_back out (level ∷ above)

-- two sides on their way up; each left last what is below the other
pub record AreSides (root : Status) (one other : List Level) (a b : Place) : Type 0 where
  pub first : IsSide root one a
  pub second : IsSide root other b
  pub first_below : IsLastBelow first.out second.level.number
  pub second_below : IsLastBelow second.out first.level.number
  pub apart : AreApart first.out second.out

abbrev pub sides_begin : (root : Status) (v : Level) (up : List Level) (s : Status) (w : Level) (over : List Level) (t : Status) → root ≡ plug (v ∷ up) s
    → root ≡ plug (w ∷ over) t → AreSides root (v ∷ up) (w ∷ over) (place_at v) (place_at w)
sides_begin root v up s w over t e f = record {
  first = record { level = v; above = up; out = []; status = s; is = e; at = refl; from = refl };
  second = record { level = w; above = over; out = []; status = t; is = f; at = refl; from = refl };
  first_below = tt;
  second_below = tt;
  apart = tt;
}

pub apart_sym : (one other : List Level) → AreApart one other → AreApart other one
apart_sym [] [] h = tt
apart_sym [] (y ∷ other) h = tt
apart_sym (x ∷ one) [] h = tt
apart_sym (x ∷ one) (y ∷ other) h = λ e. h (sym e)

abbrev pub sides_turned : (root : Status) (one other : List Level) (a b : Place) → AreSides root one other a b → AreSides root other one b a
sides_turned root one other a b s = record {
  first = s.second;
  second = s.first;
  first_below = s.second_below;
  second_below = s.first_below;
  apart = apart_sym s.first.out s.second.out s.apart;
}

-- the level above has a lower number
pub lower_above : (rows : Rows) (read : Reading) (v u : Level) (up : List Level) (way : Branching) (cell : AlternativeCell) → AreRound rows read (v ∷ u ∷ up) way cell
    → u.number < v.number
lower_above rows read v u up way cell h = h.1.1.1.below

pub last_lower : (out : List Level) (m n : ℕ) → m < n → IsLastBelow out n → IsLastBelow out m
last_lower [] m n l h = tt
last_lower (x ∷ out) m n l h = omega (arith, l, h)

pub apart_below : (x : Level) (out other : List Level) → IsLastBelow other x.number → AreApart (x ∷ out) other
apart_below x out [] h = tt
apart_below x out (y ∷ other) h = λ e. absurd (omega (arith, h, e))

pub same_parent : (a b : Option Place) → Some a ≡ Some b → a ≡ b
same_parent a b e = cc e

-- the deeper side goes up
abbrev pub first_up : (nodes : NodesView) (read : Reading) (root : Status) (one other : List Level) (a b above : Place) → IsTableOf nodes read root
    → AreSides root one other a b → b.node < a.node → node_parent nodes.rows a.node ≡ Some (Some above)
    → AreSides root one other above b
first_up nodes read root one other a b above st s l p =
    let f = s.first in
    let placed = subst (IsIn nodes.rows read [] None) f.is st.placed in
    let k = taken_out nodes.rows read (f.level ∷ f.above) f.status placed in
    let node : f.level.number ≡ a.node = ap (λ (q : Place). q.node) f.at in
    let node_b : s.second.level.number ≡ b.node = ap (λ (q : Place). q.node) s.second.at in
    let parent : Some (above_of f.above) ≡ Some (Some above) = sym (ap (λ (o : Option StoredNode). option_map (λ r. r.parent) o) k.around.1.1.1.row)
    ∙ (ap (λ (n : ℕ). node_parent nodes.rows n) node ∙ p) in
    let u = one_level_up f.level f.above above (same_parent (above_of f.above) (Some above) parent) in
    let round : AreRound nodes.rows read (f.level ∷ u.level ∷ u.above) k.way (cell_of f.status) = subst (λ (ls : List Level). AreRound nodes.rows read (f.level ∷ ls) k.way (cell_of f.status)) u.is k.around in
    let lower = lower_above nodes.rows read f.level u.level u.above k.way (cell_of f.status) round in
    record {
      first = record {
        level = u.level;
        above = u.above;
        out = f.level ∷ f.out;
        status = Inner (level_node f.level f.status);
        is = f.is ∙ ap (λ (ls : List Level). plug ls (Inner (level_node f.level f.status))) u.is;
        at = u.at;
        from = f.from ∙ ap (λ (ls : List Level). put_back f.out (f.level ∷ ls)) u.is;
      };
      second = s.second;
      first_below = omega (arith, l, node, node_b);
      second_below = last_lower s.second.out u.level.number f.level.number lower s.second_below;
      apart = apart_below f.level f.out s.second.out s.second_below;
    }

-- no side goes up from the first node while the other is above it
least : (rows : Rows) (read : Reading) (w : Level) (over : List Level) (way : Branching) (t : Status) (cell : AlternativeCell) (node : Node) → AreRound rows read (w ∷ over) way cell
    → Inner node ≡ plug (w ∷ over) t → node_number node ≤ w.number
least rows read w [] way t cell node h e = (let z : node_number node ≡ w.number = ap number_or e in omega (arith, z))
least rows read w (u ∷ over) way t cell node h e =
    let k = least rows read u over h.1.0 (Inner (level_node w t)) (InnerCell w.number) node h.1.1.2 e in
    let l = lower_above rows read w u over way cell h in
    omega (arith, k, l)

pub never_stuck : (nodes : NodesView) (read : Reading) (root : Status) (one other : List Level) (a b : Place) → IsTableOf nodes read root
    → AreSides root one other a b → b.node < a.node → node_parent nodes.rows a.node ≡ Some None → ⊥
never_stuck nodes read root one other a b st s l p =
    let f = s.first in
    let placed = subst (IsIn nodes.rows read [] None) f.is st.placed in
    let k = taken_out nodes.rows read (f.level ∷ f.above) f.status placed in
    let node : f.level.number ≡ a.node = ap (λ (q : Place). q.node) f.at in
    let node_b : s.second.level.number ≡ b.node = ap (λ (q : Place). q.node) s.second.at in
    let parent : Some (above_of f.above) ≡ Some None = sym (ap (λ (o : Option StoredNode). option_map (λ r. r.parent) o) k.around.1.1.1.row)
    ∙ (ap (λ (n : ℕ). node_parent nodes.rows n) node ∙ p) in
    let top = no_level_up f.above (cc parent) in
    let whole : root ≡ Inner (level_node f.level f.status) = f.is ∙ ap (λ (ls : List Level). plug (f.level ∷ ls) f.status) top in
    let g = s.second in
    let placed_b = subst (IsIn nodes.rows read [] None) g.is st.placed in
    let kb = taken_out nodes.rows read (g.level ∷ g.above) g.status placed_b in
    let z = least nodes.rows read g.level g.above kb.way g.status (cell_of g.status) (level_node f.level f.status) kb.around (sym whole ∙ g.is) in
    omega (arith, l, node, node_b, z)

-- where both are at one node, what is above is the same
pub path_same : (rows : Rows) (read : Reading) (up over : List Level) (way other : Branching) (cell there : AlternativeCell) → AreRound rows read up way cell
    → AreRound rows read over other there → above_of up ≡ above_of over → path_of up ≡ path_of over
path_same rows read [] [] way other cell there h k e = refl
path_same rows read [] (w ∷ over) way other cell there h k e = absurd (cc e)
path_same rows read (v ∷ up) [] way other cell there h k e = absurd (cc e)
path_same rows read (v ∷ up) (w ∷ over) way other cell there h k e =
    let place : place_at v ≡ place_at w = cc e in
    let node : v.number ≡ w.number = ap (λ (q : Place). q.node) place in
    let rows_same = sym h.1.1.1.row ∙ (ap (row_of_node rows) node ∙ k.1.1.1.row) in
    let parents : above_of up ≡ above_of over = ap parent_or rows_same in
    let rest = path_same rows read up over h.1.0 k.1.0 (InnerCell v.number) (InnerCell w.number) h.1.1.2 k.1.1.2 parents in
    ap (λ (ps : List Place). ps ++ place_at v ∷ []) rest ∙ ap (λ (q : Place). path_of over ++ q ∷ []) place

pub parts_front : (front ps qs : List Place) → parts_left (front ++ ps) (front ++ qs) ≡ parts_left ps qs
parts_front [] ps qs = refl
parts_front (a ∷ front) ps qs = ap (λ (b : Bool). cond b (parts_left (front ++ ps) (front ++ qs)) (nat_lt a.index a.index)) (same_index a.index) ∙ parts_front front ps qs
  where
    same_index : (n : ℕ) → (n == n) ≡ true
    same_index n = grind arith

-- the node below a place that was left
round_back : (rows : Rows) (read : Reading) (out levels : List Level) (way : Branching) (cell : AlternativeCell) → AreRound rows read (put_back out levels) way cell
    → (other : Branching) × ((there : AlternativeCell) × AreRound rows read levels other there)
round_back rows read [] levels way cell h = (way, (cell, h))
round_back rows read (x ∷ out) levels way cell h =
    let k = round_back rows read out (x ∷ levels) way cell h in
    (k.1.1.1.0, (InnerCell x.number, k.1.1.1.1.2))

head_cell : (rows : Rows) (read : Reading) (x : Level) (out levels : List Level) (way : Branching) (cell : AlternativeCell) → AreRound rows read (put_back (x ∷ out) levels) way cell
    → (other : Branching) × AreRound rows read levels other (InnerCell x.number)
head_cell rows read x out levels way cell h =
    let k = round_back rows read out (x ∷ levels) way cell h in
    (k.1.1.1.0, k.1.1.1.1.2)

module _ (nodes : NodesView) (read : Reading) (root : Status) (v : Level) (up : List Level) (s : Status) (w : Level) (over : List Level) (t : Status)
    (st : IsTableOf nodes read root) (is : root ≡ plug (v ∷ up) s) (other_is : root ≡ plug (w ∷ over) t) (a b : Place)
    (sides : AreSides root (v ∷ up) (w ∷ over) a b) (met : a.node ≡ b.node) where
  node_same : sides.first.level.number ≡ sides.second.level.number
  node_same = ap (λ (q : Place). q.node) sides.first.at ∙ (met ∙ ap (λ (q : Place). q.node) (sym sides.second.at))

  pub fronts_same : path_of sides.first.above ≡ path_of sides.second.above
  fronts_same =
      let k = taken_out nodes.rows read (sides.first.level ∷ sides.first.above) sides.first.status (subst (IsIn nodes.rows read [] None) sides.first.is st.placed) in
      let m = taken_out nodes.rows read (sides.second.level ∷ sides.second.above) sides.second.status (subst (IsIn nodes.rows read [] None) sides.second.is st.placed) in
      let rows_same = sym k.around.1.1.1.row ∙ (ap (row_of_node nodes.rows) node_same ∙ m.around.1.1.1.row) in
      path_same nodes.rows read sides.first.above sides.second.above k.around.1.0 m.around.1.0 (InnerCell sides.first.level.number) (InnerCell sides.second.level.number)
      k.around.1.1.2 m.around.1.1.2 (ap parent_or rows_same)

  pub path_one : path_of (v ∷ up) ≡ path_of sides.first.above ++ place_at sides.first.level ∷ path_down sides.first.out
  path_one = ap path_of sides.first.from ∙ (path_of-back sides.first.out (sides.first.level ∷ sides.first.above)
      ∙ append_assoc (path_of sides.first.above) (place_at sides.first.level ∷ []) (path_down sides.first.out))

  pub path_other : path_of (w ∷ over) ≡ path_of sides.first.above ++ place_at sides.second.level ∷ path_down sides.second.out
  path_other = ap path_of sides.second.from ∙ (path_of-back sides.second.out (sides.second.level ∷ sides.second.above)
      ∙ (append_assoc (path_of sides.second.above) (place_at sides.second.level ∷ []) (path_down sides.second.out)
      ∙ ap (λ (ps : List Place). ps ++ place_at sides.second.level ∷ path_down sides.second.out) (sym fronts_same)))

  -- at one place, at most one side has left anything
  one_left : place_at sides.first.level ≡ place_at sides.second.level → parts_left (path_down sides.first.out) (path_down sides.second.out) ≡ false
  one_left e = by_outs sides.first.out sides.second.out sides.first.from sides.second.from sides.apart
    where
      by_outs : (o p : List Level) → v ∷ up ≡ put_back o (sides.first.level ∷ sides.first.above) → w ∷ over ≡ put_back p (sides.second.level ∷ sides.second.above)
          → AreApart o p → parts_left (path_down o) (path_down p) ≡ false
      by_outs [] p f g h = refl
      by_outs (x ∷ o) [] f g h = refl
      by_outs (x ∷ o) (y ∷ p) f g h =
          let k = taken_out nodes.rows read (v ∷ up) s (subst (IsIn nodes.rows read [] None) is st.placed) in
          let m = taken_out nodes.rows read (w ∷ over) t (subst (IsIn nodes.rows read [] None) other_is st.placed) in
          let kx = head_cell nodes.rows read x o (sides.first.level ∷ sides.first.above) k.way (cell_of s)
          (subst (λ (ls : List Level). AreRound nodes.rows read ls k.way (cell_of s)) f k.around) in
          let my = head_cell nodes.rows read y p (sides.second.level ∷ sides.second.above) m.way (cell_of t)
          (subst (λ (ls : List Level). AreRound nodes.rows read ls m.way (cell_of t)) g m.around) in
          let cx = cell_there nodes.rows read sides.first.level sides.first.above kx.0 (InnerCell x.number) kx.1 in
          let cy = cell_there nodes.rows read sides.second.level sides.second.above my.0 (InnerCell y.number) my.1 in
          let same : Some (sides.first.level.spent, InnerCell x.number) ≡ Some (sides.second.level.spent, InnerCell y.number) = sym cx ∙ (ap (cell_at nodes.rows) e ∙ cy) in
          absurd (h (ap inner_or same))

  pub meeting_parts : parts_left (path_of (v ∷ up)) (path_of (w ∷ over)) ≡ nat_lt a.index b.index
  meeting_parts =
      ap (λ (ps : List Place). parts_left ps (path_of (w ∷ over))) path_one
      ∙ (ap (parts_left (path_of sides.first.above ++ place_at sides.first.level ∷ path_down sides.first.out)) path_other
      ∙ (parts_front (path_of sides.first.above) (place_at sides.first.level ∷ path_down sides.first.out) (place_at sides.second.level ∷ path_down sides.second.out)
      ∙ (by_test ((length sides.first.level.left) == (length sides.second.level.left)) refl
      ∙ (ap (λ (i : ℕ). nat_lt i (length sides.second.level.left)) (ap (λ (q : Place). q.index) sides.first.at)
      ∙ ap (nat_lt a.index) (ap (λ (q : Place). q.index) sides.second.at)))))
    where
      by_test : (c : Bool) → (length sides.first.level.left == length sides.second.level.left) ≡ c
          → cond (length sides.first.level.left == length sides.second.level.left) (parts_left (path_down sides.first.out) (path_down sides.second.out))
          (nat_lt (length sides.first.level.left) (length sides.second.level.left)) ≡ nat_lt (length sides.first.level.left) (length sides.second.level.left)
      by_test false c = ap (λ (x : Bool). cond x (parts_left (path_down sides.first.out) (path_down sides.second.out)) (nat_lt (length sides.first.level.left) (length sides.second.level.left))) c
      by_test true c =
          let index : length sides.first.level.left ≡ length sides.second.level.left = grind arith in
          let place : place_at sides.first.level ≡ place_at sides.second.level = ap (λ (i : ℕ). record { node = sides.first.level.number; index = i }) index
          ∙ ap (λ (n : ℕ). record { node = n; index = length sides.second.level.left }) node_same in
          ap (λ (x : Bool). cond x (parts_left (path_down sides.first.out) (path_down sides.second.out)) (nat_lt (length sides.first.level.left) (length sides.second.level.left))) c
          ∙ (one_left place ∙ sym (not_below (length sides.first.level.left) (length sides.second.level.left) index))
        where
          not_below : (i j : ℕ) → i ≡ j → nat_lt i j ≡ false
          not_below i j e = grind arith
