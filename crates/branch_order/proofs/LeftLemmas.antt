-- What is open to the left, level by level.
use Rattle.std.proofs.Common.{◌≡◌, ℕ, zero, suc, ◌+◌, Bool, true, false, cond, List, [], ◌∷◌, ◌++◌, ◌<◌, length, take, drop, Option, Some, None, refl, sym, ap, ◌∙◌, arith, subst}
use Rattle.std.specs.Option.{option_map}
use Rattle.std.specs.Prelude.{slice_get, IsSome}
use Rattle.tree_model.specs.Nodes.{Status, Pending, Inner, Closed}
use Rattle.tree_model.specs.Levels.{Level, level_node, plug, Place, place_at}
use Rattle.tree_model.specs.Orders.{is_node, levels_below, is_closed, first_open_left, first_open}
use Rattle.tree_nodes.specs.Bodies.{Reading}
use Rattle.tree_nodes.specs.Rows.{AlternativeCell, StoredNode, Rows, row_of_node, node_parent, alternatives_at, cell_at}
use Rattle.tree_nodes.specs.Gathering.{is_shut, is_shut_at}
use Rattle.tree_nodes.specs.TreeTables.{cell_of, cells_of, NodesView, IsTableOf, above_of}
use Rattle.tree_nodes.specs.Puts.{IsPlaceIn}
use Rattle.tree_nodes.specs.Folds.{IsAbove}
use Rattle.tree_nodes.proofs.PlaceLemmas.{left_cells, length-left_cells}
use Rattle.tree_nodes.proofs.WalkLemmas.{cells_beside, parent_here, one_level_up, no_level_up}
use Rattle.tree_nodes.proofs.FoldLemmas.{take-seam}
use Rattle.branch_order.specs.LeftOf.{first_at, open_index, open_beside, or_else, if_below, below_scope}
use Rattle.tree_nodes.specs.Fronts.{place_on}
use Rattle.branch_order.specs.Walks.{IsAtLevel, IsWalked, Walks}

abbrev or_index : Option ℕ → Option ℕ → Option ℕ
or_index None o = o
or_index (Some i) o = Some i

shut_closed : (s : Status) → is_shut (cell_of s) ≡ is_closed s
shut_closed (Pending hold entry) = refl
shut_closed (Inner node) = refl
shut_closed (Closed credit) = refl

open_index-snoc : (i : ℕ) (cells : List (ℕ × AlternativeCell)) (x : ℕ × AlternativeCell) → open_index i (cells ++ x ∷ [])
    ≡ or_index (open_index i cells) (first_at (is_shut x.1) (i + length cells) None)
open_index-snoc i [] x = ap (λ (k : ℕ). first_at (is_shut x.1) k None) (let e : i ≡ i + 0 = omega arith in e)
open_index-snoc i (y ∷ cells) x = by_test (is_shut y.1) (open_index-snoc (suc i) cells x)
  where
    more : suc i + length cells ≡ i + suc (length cells)
    more = omega arith

    by_test : (b : Bool) → open_index (suc i) (cells ++ x ∷ []) ≡ or_index (open_index (suc i) cells) (first_at (is_shut x.1) (suc i + length cells) None)
        → first_at b i (open_index (suc i) (cells ++ x ∷ [])) ≡ or_index (first_at b i (open_index (suc i) cells)) (first_at (is_shut x.1) (i + suc (length cells)) None)
    by_test false h = refl
    by_test true h = h ∙ ap (λ (k : ℕ). or_index (open_index (suc i) cells) (first_at (is_shut x.1) k None)) more

-- at one level
pub left_index : (n : ℕ) (left : List (ℕ × Status)) → first_open_left n left ≡ option_map (place_on n) (open_index 0 (left_cells left))
left_index n [] = refl
left_index n (a ∷ left) = by_found (first_open_left n left) (open_index 0 (left_cells left)) (left_index n left) refl
  where
    size : length (left_cells left) ≡ length left
    size = length-left_cells left

    by_closed : (b : Bool) → is_closed a.1 ≡ b → cond b None (Some (place_on n (length left)))
        ≡ option_map (place_on n) (first_at b (0 + length (left_cells left)) None)
    by_closed true e = refl
    by_closed false e = ap (λ (k : ℕ). Some (place_on n k)) (let z : length left ≡ 0 + length (left_cells left) = omega (arith, size) in z)

    by_found : (o : Option Place) (k : Option ℕ) → o ≡ option_map (place_on n) k → open_index 0 (left_cells left) ≡ k
        → (elim o [ Some p ↦ Some p | None ↦ cond (is_closed a.1) None (Some (place_on n (length left))) ])
        ≡ option_map (place_on n) (open_index 0 (left_cells left ++ (a.0, cell_of a.1) ∷ []))
    by_found o (Some i) e f = ap (λ (o : Option Place). elim o [ Some p ↦ Some p | None ↦ cond (is_closed a.1) None (Some (place_on n (length left))) ]) e
        ∙ sym (ap (option_map (place_on n)) (open_index-snoc 0 (left_cells left) (a.0, cell_of a.1)
        ∙ ap (λ (o : Option ℕ). or_index o (first_at (is_shut (cell_of a.1)) (0 + length (left_cells left)) None)) f))
    by_found o None e f = ap (λ (o : Option Place). elim o [ Some p ↦ Some p | None ↦ cond (is_closed a.1) None (Some (place_on n (length left))) ]) e
        ∙ (by_closed (is_closed a.1) refl
        ∙ (ap (λ (b : Bool). option_map (place_on n) (first_at b (0 + length (left_cells left)) None)) (sym (shut_closed a.1))
        ∙ sym (ap (option_map (place_on n)) (open_index-snoc 0 (left_cells left) (a.0, cell_of a.1)
        ∙ ap (λ (o : Option ℕ). or_index o (first_at (is_shut (cell_of a.1)) (0 + length (left_cells left)) None)) f))))

beside_here : (nodes : NodesView) (read : Reading) (v : Level) (up : List Level) (was : Status) → IsTableOf nodes read (plug (v ∷ up) was)
    → first_open_left v.number v.left ≡ open_beside nodes.rows (place_at v)
beside_here nodes read v up was s =
    left_index v.number v.left
    ∙ ap (λ (cells : List (ℕ × AlternativeCell)). option_map (place_on v.number) (open_index 0 cells))
    (sym (ap (take (length v.left)) (cells_beside nodes read v up was s)
    ∙ take-seam (left_cells v.left) (cells_of v.right) (v.spent, cell_of was) (length v.left) (length-left_cells v.left)))

or_else-assoc : (a b c : Option Place) → or_else (or_else a b) c ≡ or_else a (or_else b c)
or_else-assoc None b c = refl
or_else-assoc (Some p) b c = refl

pub first_open-level : (v : Level) (up : List Level) → first_open (v ∷ up) ≡ or_else (first_open up) (first_open_left v.number v.left)
first_open-level v up = by_found (first_open up)
  where
    by_found : (o : Option Place) → (elim o [ Some p ↦ Some p | None ↦ first_open_left v.number v.left ]) ≡ or_else o (first_open_left v.number v.left)
    by_found None = refl
    by_found (Some p) = refl

-- a level that is the scope, and one that isn't
at_scope : (scope : Option ℕ) (v : Level) (up : List Level) → is_node scope v.number ≡ true → levels_below scope (v ∷ up) ≡ []
at_scope scope v up e = ap (λ (b : Bool). cond b [] (v ∷ levels_below scope up)) e

off_scope : (scope : Option ℕ) (v : Level) (up : List Level) → is_node scope v.number ≡ false → levels_below scope (v ∷ up) ≡ v ∷ levels_below scope up
off_scope scope v up e = ap (λ (b : Bool). cond b [] (v ∷ levels_below scope up)) e

-- the walk begins
pub walk_begins : (nodes : NodesView) (a : Place) (scope : Option ℕ) → Walks nodes a scope (below_scope scope (Some a)) None
walk_begins nodes a scope read v up was e s = by_test (is_node scope a.node) refl
  where
    same_test : is_node scope v.number ≡ is_node scope a.node
    same_test = ap (λ (p : Place). is_node scope p.node) e

    or_none : (o : Option Place) → o ≡ or_else o None
    or_none None = refl
    or_none (Some p) = refl

    by_test : (b : Bool) → is_node scope a.node ≡ b → IsWalked v up was scope (if_below b a) None
    by_test true t = ap first_open (at_scope scope v up (same_test ∙ t))
    by_test false t = record {
      level = v;
      above = up;
      status = was;
      same = refl;
      at = e;
      below = off_scope scope v up (same_test ∙ t);
      found = or_none (first_open (levels_below scope (v ∷ up)));
    }

-- one level more
module _ (nodes : NodesView) (scope : Option ℕ) (b : Place) (first : Option Place) (read : Reading) (v : Level) (up : List Level) (was : Status)
    (k : IsAtLevel v up was scope b first) (here : IsTableOf nodes read (plug (k.level ∷ k.above) k.status)) where
  pub found_more : first_open (levels_below scope (v ∷ up)) ≡ or_else (first_open (levels_below scope k.above)) (or_else (open_beside nodes.rows b) first)
  found_more = k.found
      ∙ (ap (λ (ls : List Level). or_else (first_open ls) first) k.below
      ∙ (ap (λ (o : Option Place). or_else o first) (first_open-level k.level (levels_below scope k.above))
      ∙ (or_else-assoc (first_open (levels_below scope k.above)) (first_open_left k.level.number k.level.left) first
      ∙ ap (λ (o : Option Place). or_else (first_open (levels_below scope k.above)) (or_else o first))
      (beside_here nodes read k.level k.above k.status here ∙ ap (open_beside nodes.rows) k.at))))

  nothing_above : levels_below scope k.above ≡ [] → first_open (levels_below scope (v ∷ up)) ≡ or_else (open_beside nodes.rows b) first
  nothing_above z = found_more ∙ ap (λ (ls : List Level). or_else (first_open ls) (or_else (open_beside nodes.rows b) first)) z

  by_test : (t : Bool) (q : Place) → is_node scope q.node ≡ t → above_of k.above ≡ Some q
      → IsWalked v up was scope (if_below t q) (or_else (open_beside nodes.rows b) first)
  by_test true q t z =
      let u = one_level_up k.level k.above q z in
      nothing_above (ap (levels_below scope) u.is ∙ at_scope scope u.level u.above (ap (λ (x : Place). is_node scope x.node) u.at ∙ t))
  by_test false q t z =
      let u = one_level_up k.level k.above q z in
      record {
        level = u.level;
        above = u.above;
        status = Inner (level_node k.level k.status);
        same = k.same ∙ ap (λ (ls : List Level). plug ls (Inner (level_node k.level k.status))) u.is;
        at = u.at;
        below = off_scope scope u.level u.above (ap (λ (x : Place). is_node scope x.node) u.at ∙ t);
        found = found_more ∙ ap (λ (ls : List Level). or_else (first_open (levels_below scope ls)) (or_else (open_beside nodes.rows b) first)) u.is;
      }

  by_parent : (o : Option Place) → above_of k.above ≡ o → IsWalked v up was scope (below_scope scope o) (or_else (open_beside nodes.rows b) first)
  by_parent None z = nothing_above (ap (levels_below scope) (no_level_up k.above z))
  by_parent (Some q) z = by_test (is_node scope q.node) q refl z

pub walk_goes_on : (nodes : NodesView) (a : Place) (scope : Option ℕ) (b : Place) (first parent : Option Place) → Walks nodes a scope (Some b) first
    → node_parent nodes.rows b.node ≡ Some parent
    → Walks nodes a scope (below_scope scope parent) (or_else (open_beside nodes.rows b) first)
walk_goes_on nodes a scope b first parent w p read v up was e s =
    let k = w read v up was e s in
    let here = subst (IsTableOf nodes read) k.same s in
    by_parent nodes scope b first read v up was k here parent
    (parent_here nodes read k.level k.above k.status parent here
    (ap (λ (q : Place). node_parent nodes.rows q.node) k.at ∙ p))

-- one alternative more is closed
pub drop-take-cons : (cells : List (ℕ × AlternativeCell)) (i n : ℕ) (c : ℕ × AlternativeCell) → i < n → slice_get cells i ≡ Some c → drop i (take n cells) ≡ c ∷ drop (suc i) (take n cells)
drop-take-cons [] i n c l e = absurd (cc e)
drop-take-cons (x ∷ cells) zero zero c l e = absurd (omega (arith, l))
drop-take-cons (x ∷ cells) zero (suc n) c l e = ap (λ (y : ℕ × AlternativeCell). y ∷ take n cells) (cc e)
drop-take-cons (x ∷ cells) (suc i) zero c l e = absurd (omega (arith, l))
drop-take-cons (x ∷ cells) (suc i) (suc n) c l e = drop-take-cons cells i n c (omega (arith, l)) e

pub open_step : (cells : List (ℕ × AlternativeCell)) (i n : ℕ) (b : Bool) → i < n → is_shut_at (slice_get cells i) ≡ b → IsSome (slice_get cells i)
    → open_index i (drop i (take n cells)) ≡ first_at b i (open_index (suc i) (drop (suc i) (take n cells)))
open_step cells i n b l e there = by_cell (slice_get cells i) refl e there
  where
    by_cell : (o : Option (ℕ × AlternativeCell)) → slice_get cells i ≡ o → is_shut_at o ≡ b → IsSome o
        → open_index i (drop i (take n cells)) ≡ first_at b i (open_index (suc i) (drop (suc i) (take n cells)))
    by_cell None g f t = absurd (cc t)
    by_cell (Some c) g f t = ap (open_index i) (drop-take-cons cells i n c l g) ∙ ap (λ (x : Bool). first_at x i (open_index (suc i) (drop (suc i) (take n cells)))) f

pub none_left : (cells : List (ℕ × AlternativeCell)) (n : ℕ) → open_index n (drop n (take n cells)) ≡ None
none_left [] zero = refl
none_left [] (suc n) = ap (open_index (suc n)) (drop-nil-here (suc n))
  where
    drop-nil-here : (k : ℕ) → ◌≡◌ {A = List (ℕ × AlternativeCell)} (drop k (take k [])) []
    drop-nil-here zero = refl
    drop-nil-here (suc k) = refl
none_left (x ∷ cells) zero = refl
none_left (x ∷ cells) (suc n) = later cells n (suc n)
  where
    later : (cells : List (ℕ × AlternativeCell)) (n i : ℕ) → open_index i (drop n (take n cells)) ≡ None
    later [] zero i = refl
    later [] (suc n) i = refl
    later (x ∷ cells) zero i = refl
    later (x ∷ cells) (suc n) i = later cells n i

pub some_row : (rows : Rows) (a : Place) → IsSome (cell_at rows a) → IsSome (row_of_node rows a.node)
some_row rows a h = by_row (row_of_node rows a.node) h
  where
    by_row : (o : Option StoredNode) → IsSome (slice_get (alternatives_at o) a.index) → IsSome o
    by_row None h = absurd (cc h)
    by_row (Some r) h = refl

pub some_before : (cells : List (ℕ × AlternativeCell)) (i n : ℕ) → i < n → IsSome (slice_get cells n) → IsSome (slice_get cells i)
some_before [] i n l h = absurd (cc h)
some_before (x ∷ cells) zero n l h = refl
some_before (x ∷ cells) (suc i) zero l h = absurd (omega (arith, l))
some_before (x ∷ cells) (suc i) (suc n) l h = some_before cells i n (omega (arith, l)) h

pub place_below : (rows : Rows) (scope : Option ℕ) (parent : Option Place) (n : ℕ) → IsAbove rows parent n → IsPlaceIn rows (below_scope scope parent)
place_below rows scope None n h = tt
place_below rows scope (Some a) n h = by_test (is_node scope a.node)
  where
    by_test : (b : Bool) → IsPlaceIn rows (if_below b a)
    by_test true = tt
    by_test false = h.0

pub above_there : (rows : Rows) (parent : Option Place) (n : ℕ) → IsAbove rows parent n → IsPlaceIn rows parent
above_there rows None n h = tt
above_there rows (Some a) n h = h.0

-- the same over all alternatives of a node
drop-cons-here : (cells : List (ℕ × AlternativeCell)) (i : ℕ) (c : ℕ × AlternativeCell) → slice_get cells i ≡ Some c → drop i cells ≡ c ∷ drop (suc i) cells
drop-cons-here [] i c e = absurd (cc e)
drop-cons-here (x ∷ cells) zero c e = ap (λ (y : ℕ × AlternativeCell). y ∷ cells) (cc e)
drop-cons-here (x ∷ cells) (suc i) c e = drop-cons-here cells i c e

some_within : (cells : List (ℕ × AlternativeCell)) (i : ℕ) → i < length cells → (c : ℕ × AlternativeCell) × (slice_get cells i ≡ Some c)
some_within [] i l = absurd (omega (arith, l))
some_within (x ∷ cells) zero l = (x, refl)
some_within (x ∷ cells) (suc i) l = some_within cells i (omega (arith, l))

pub open_more : (cells : List (ℕ × AlternativeCell)) (i : ℕ) (b : Bool) → i < length cells → is_shut_at (slice_get cells i) ≡ b
    → open_index i (drop i cells) ≡ first_at b i (open_index (suc i) (drop (suc i) cells))
open_more cells i b l e =
    let c = some_within cells i l in
    ap (open_index i) (drop-cons-here cells i c.0 c.1)
    ∙ ap (λ (x : Bool). first_at x i (open_index (suc i) (drop (suc i) cells))) (ap is_shut_at (sym c.1) ∙ e)

pub row_within : (rows : Rows) (m : ℕ) → IsSome (row_of_node rows m) → m < length rows
row_within [] m h = absurd (cc h)
row_within (r ∷ rows) zero h = omega arith
row_within (r ∷ rows) (suc m) h = let l = row_within rows m h in omega (arith, l)
