-- What is known at the front.
use Rattle.std.proofs.Common.{◌≡◌, ℕ, zero, suc, ◌+◌, Bool, true, false, List, [], ◌∷◌, ◌++◌, length, take, drop, Option, Some, None}
use Rattle.std.proofs.Common.{refl, sym, ap, ◌∙◌, arith, subst}
use Rattle.std.specs.Option.{option_map}
use Rattle.std.specs.Prelude.{slice_get, is_some}
use Rattle.au_term.proofs.LogicLemmas.{both}
use Rattle.tree_model.specs.Credits.{counted}
use Rattle.tree_model.specs.Nodes.{Numbered, Status, Pending, Inner, Closed}
use Rattle.tree_model.specs.Levels.{Level, level_node, plug, Place}
use Rattle.tree_model.proofs.OrderLemmas.{none_below}
use Rattle.tree_model.specs.Orders.{first_open_left, first_open, credits_left, clock_of, answers_left}
use Rattle.tree_nodes.specs.declared.front.Front.{Front}
use Rattle.tree_nodes.specs.Bodies.{Reading}
use Rattle.tree_nodes.specs.Rows.{AlternativeCell, InnerCell, StoredNode, row_of_node, node_parent, alternatives_at, cell_at}
use Rattle.tree_nodes.specs.Puts.{inner_at}
use Rattle.tree_nodes.specs.Gathering.{is_shut, are_shut}
use Rattle.tree_nodes.specs.Siblings.{closed_counts, counts_from}
use Rattle.tree_nodes.specs.TreeTables.{cell_of, cells_of, NodesView, IsTableOf}
use Rattle.tree_nodes.specs.Fronts.{place_on, counts_beside, IsNextDown, AreNext, IsFront}
use Rattle.tree_nodes.proofs.PlaceLemmas.{left_cells, length-left_cells}
use Rattle.tree_nodes.proofs.FoldLemmas.{take-seam}
use Rattle.tree_nodes.proofs.WalkLemmas.{cells_beside, cell_here, parent_here, one_level_up, no_level_up}
use Rattle.branch_order.specs.LeftOf.{first_at, open_index, open_beside, or_else, IsFirstOpen, open_first, IsAtFront}
use Rattle.branch_order.specs.Clocks.{CountsBranch, Counts}
use Rattle.branch_order.specs.Walks.{Walks}
use Rattle.branch_order.specs.Leftmosts.{GoesDown}
use Rattle.branch_order.proofs.LeftLemmas.{left_index, first_open-level, found_more}
use Rattle.branch_order.proofs.LeftmostLemmas.{goes_down_from, goes_down}
use Rattle.branch_order.proofs.ClockLemmas.{left_closed, given_more, taken_more}

-- what has closed at the left is passed
pub shut_passed : (cells : List (ℕ × AlternativeCell)) (i n : ℕ) → are_shut (take n cells) ≡ true → open_index i cells ≡ open_index (i + n) (drop n cells)
shut_passed [] i zero h = refl
shut_passed [] i (suc n) h = refl
shut_passed (x ∷ cells) i zero h = ap (λ (k : ℕ). open_index k (x ∷ cells)) (let e : i ≡ i + 0 = omega arith in e)
shut_passed (x ∷ cells) i (suc n) h =
    let parts = both (is_shut x.1) (are_shut (take n cells)) h in
    let more : suc i + n ≡ i + suc n = omega arith in
    ap (λ (b : Bool). first_at b i (open_index (suc i) cells)) parts.0 ∙ (shut_passed cells (suc i) n parts.1 ∙ ap (λ (k : ℕ). open_index k (drop n cells)) more)

open_here : (cells : List (ℕ × AlternativeCell)) (i n : ℕ) (c : ℕ × AlternativeCell) → are_shut (take n cells) ≡ true → slice_get cells n ≡ Some c
    → is_shut c.1 ≡ false → open_index i cells ≡ Some (i + n)
open_here [] i n c h g e = absurd (cc g)
open_here (x ∷ cells) i zero c h g e =
    let same : x ≡ c = (cc g) in
    let here : is_shut x.1 ≡ false = ap (λ (y : ℕ × AlternativeCell). is_shut y.1) same ∙ e in
    ap (λ (b : Bool). first_at b i (open_index (suc i) cells)) here ∙ ap Some (let z : i ≡ i + 0 = omega arith in z)
open_here (x ∷ cells) i (suc n) c h g e =
    let parts = both (is_shut x.1) (are_shut (take n cells)) h in
    let more : suc i + n ≡ i + suc n = omega arith in
    ap (λ (b : Bool). first_at b i (open_index (suc i) cells)) parts.0 ∙ (open_here cells (suc i) n c parts.1 g e ∙ ap Some more)

none_open : (cells : List (ℕ × AlternativeCell)) (i : ℕ) → are_shut cells ≡ true → open_index i cells ≡ None
none_open [] i h = refl
none_open (x ∷ cells) i h =
    let parts = both (is_shut x.1) (are_shut cells) h in
    ap (λ (b : Bool). first_at b i (open_index (suc i) cells)) parts.0 ∙ none_open cells (suc i) parts.1

pub counts_passed : (n : ℕ × ℕ) (cells : List (ℕ × AlternativeCell)) (k : ℕ) → counts_from n cells ≡ counts_from (counts_from n (take k cells)) (drop k cells)
counts_passed n [] zero = refl
counts_passed n [] (suc k) = refl
counts_passed n (x ∷ cells) zero = refl
counts_passed n (x ∷ cells) (suc k) = counts_passed (counted n.0 (closed_counts x.1).0, counted n.1 (closed_counts x.1).1) cells k

-- the leftmost entry of the tree is that of the front
abbrev Reached : NodesView → Option Front → Type 0
Reached nodes None = Unit {0}
Reached nodes (Some d) = GoesDown nodes d.node

down_one : (nodes : NodesView) (before : Option Front) (e : Front) → IsNextDown nodes.rows nodes.first before e → Reached nodes before → GoesDown nodes e.node
down_one nodes None e h k = goes_down_from nodes e.node h.node
down_one nodes (Some d) e h k =
    let cells = alternatives_at (row_of_node nodes.rows d.node) in
    let first : open_first nodes.rows d.node ≡ Some (place_on d.node h.index)
    = ap (option_map (place_on d.node)) (open_here cells 0 h.index (h.spent, InnerCell e.node) h.shut h.cell refl
    ∙ ap Some (let z : 0 + h.index ≡ h.index = omega arith in z)) in
    goes_down nodes d.node (place_on d.node h.index) e.node k first (ap inner_at h.cell)

down_all : (nodes : NodesView) (before : Option Front) (above : List Front) (e : Front) → AreNext nodes.rows nodes.first before (above ++ e ∷ [])
    → Reached nodes before → GoesDown nodes e.node
down_all nodes before [] e h k = down_one nodes before e h.0 k
down_all nodes before (d ∷ above) e h k = down_all nodes (Some d) above e h.1 (down_one nodes before d h.0 k)

pub front_top : (nodes : NodesView) (e : Front) → IsFront nodes (Some e) → GoesDown nodes e.node
front_top nodes e h = down_all nodes None h.0 e h.1 tt

-- all to the left of a node has closed, and this was counted there and above
pub record IsCountedAt (up : List Level) (answers inferences : ℕ) : Type 0 where
  pub shut : first_open up ≡ None
  pub given : answers_left up ≡ answers
  pub taken : clock_of up ≡ inferences

abbrev CountsAt : NodesView → Front → Type 0
CountsAt nodes e = (read : Reading) (v : Level) (up : List Level) (was : Status) → v.number ≡ e.node → IsTableOf nodes read (plug (v ∷ up) was)
    → IsCountedAt up e.answers e.inferences

first_parent : (nodes : NodesView) (n : ℕ) (read : Reading) (root : Status) → nodes.first ≡ Some n → IsTableOf nodes read root → node_parent nodes.rows n ≡ Some None
first_parent nodes n read (Pending hold entry) f s = absurd s.rooted
first_parent nodes n read (Closed credit) f s = absurd (let z : Some n ≡ None = sym f ∙ s.rooted in cc z)
first_parent nodes n read (Inner (Numbered m kind others)) f s =
    let z : Some n ≡ Some m = sym f ∙ s.rooted in
    let same : m ≡ n = cc z in
    subst (λ (k : ℕ). node_parent nodes.rows k ≡ Some None) same (ap (λ (o : Option StoredNode). option_map (λ r. r.parent) o) s.placed.1.0)

abbrev CountedTo : NodesView → Option Front → Type 0
CountedTo nodes None = Unit {0}
CountedTo nodes (Some d) = CountsAt nodes d

abbrev spent_or : ℕ → Option (ℕ × AlternativeCell) → ℕ
spent_or other None = other
spent_or other (Some c) = c.0

counts_one : (nodes : NodesView) (before : Option Front) (e : Front) → IsNextDown nodes.rows nodes.first before e → CountedTo nodes before → CountsAt nodes e
counts_one nodes None e h k read v up was same s =
    let parent : node_parent nodes.rows v.number ≡ Some None
    = subst (λ (n : ℕ). node_parent nodes.rows n ≡ Some None) (sym same) (first_parent nodes e.node read (plug (v ∷ up) was) h.node s) in
    let top = no_level_up up (parent_here nodes read v up was None s parent) in
    record {
      shut = ap first_open top;
      given = ap answers_left top ∙ sym h.answers;
      taken = ap clock_of top ∙ sym h.inferences;
    }
counts_one nodes (Some d) e h k read v up was same s =
    let a = place_on d.node h.index in
    let parent : node_parent nodes.rows v.number ≡ Some (Some a) = subst (λ (n : ℕ). node_parent nodes.rows n ≡ Some (Some a)) (sym same) h.parent in
    let u = one_level_up v up a (parent_here nodes read v up was (Some a) s parent) in
    let status = Inner (level_node v was) in
    let there : IsTableOf nodes read (plug (u.level ∷ u.above) status) = subst (λ (ls : List Level). IsTableOf nodes read (plug ls status)) u.is s in
    let node : u.level.number ≡ d.node = ap (λ (p : Place). p.node) u.at in
    let counts = k read u.level u.above status node there in
    let cells : take h.index (alternatives_at (row_of_node nodes.rows d.node)) ≡ left_cells u.level.left
    = ap (λ (p : Place). take p.index (alternatives_at (row_of_node nodes.rows p.node))) (sym u.at)
    ∙ (ap (take (length u.level.left)) (cells_beside nodes read u.level u.above status there)
    ∙ take-seam (left_cells u.level.left) (cells_of u.level.right) (u.level.spent, cell_of status) (length u.level.left) (length-left_cells u.level.left)) in
    let shut : are_shut (left_cells u.level.left) ≡ true = ap are_shut (sym cells) ∙ h.shut in
    let none : first_open_left u.level.number u.level.left ≡ None
    = left_index u.level.number u.level.left ∙ ap (option_map (place_on u.level.number)) (none_open (left_cells u.level.left) 0 shut) in
    let left = left_closed u.level.number u.level.left none in
    let beside : counts_beside nodes.rows a ≡ counts_from (0, 0) (left_cells u.level.left) = ap (counts_from (0, 0)) cells in
    let given : (credits_left u.level.left).answers ≡ (counts_beside nodes.rows a).0 = left.0 ∙ sym (ap (λ (x : ℕ × ℕ). x.0) beside) in
    let taken : (credits_left u.level.left).inferences ≡ (counts_beside nodes.rows a).1 = left.1 ∙ sym (ap (λ (x : ℕ × ℕ). x.1) beside) in
    let spends : ◌≡◌ {A = Option (ℕ × AlternativeCell)} (Some (u.level.spent, cell_of status)) (Some (h.spent, InnerCell e.node))
    = sym (ap (cell_at nodes.rows) (sym u.at) ∙ cell_here nodes read u.level u.above status there) ∙ h.cell in
    let spent : u.level.spent ≡ h.spent = ap (spent_or 0) spends in
    record {
      shut = ap first_open u.is ∙ (first_open-level u.level u.above
          ∙ (ap (λ (o : Option Place). or_else o (first_open_left u.level.number u.level.left)) counts.shut ∙ none));
      given = ap answers_left u.is ∙ (ap (λ (n : ℕ). counted n (credits_left u.level.left).answers) counts.given
          ∙ (ap (λ (n : ℕ). counted d.answers n) given ∙ sym h.answers));
      taken = ap clock_of u.is ∙ (ap (λ (n : ℕ). counted n (counted (credits_left u.level.left).inferences u.level.spent)) counts.taken
          ∙ (ap (λ (n : ℕ). counted d.inferences (counted n u.level.spent)) taken
          ∙ (ap (λ (n : ℕ). counted d.inferences (counted (counts_beside nodes.rows a).1 n)) spent ∙ sym h.inferences)));
    }

counts_all : (nodes : NodesView) (before : Option Front) (above : List Front) (e : Front) → AreNext nodes.rows nodes.first before (above ++ e ∷ [])
    → CountedTo nodes before → CountsAt nodes e
counts_all nodes before [] e h k = counts_one nodes before e h.0 k
counts_all nodes before (d ∷ above) e h k = counts_all nodes (Some d) above e h.1 (counts_one nodes before d h.0 k)

pub front_counts : (nodes : NodesView) (e : Front) → IsFront nodes (Some e) → CountsAt nodes e
front_counts nodes e h = counts_all nodes None h.0 e h.1 tt

-- a walk up ends at the front
pub counts_end : (nodes : NodesView) (a b : Place) (answers inferences spent : ℕ) (beside : ℕ × ℕ) (e : Front) → Counts nodes a (Some b) answers inferences
    → beside ≡ counts_beside nodes.rows b → option_map (λ c. c.0) (cell_at nodes.rows b) ≡ Some spent → IsFront nodes (Some e) → e.node ≡ b.node
    → CountsBranch nodes a (counted e.answers (counted beside.0 answers)) (counted e.inferences (counted (counted beside.1 spent) inferences))
counts_end nodes a b answers inferences spent beside e w is_beside sp front node read v up was at s f =
    let k = w read v up was at s f in
    let here = subst (IsTableOf nodes read) k.same s in
    let spends : Some spent ≡ Some k.level.spent = sym sp ∙ ap (λ (o : Option (ℕ × AlternativeCell)). option_map (λ c. c.0) o)
    (ap (cell_at nodes.rows) (sym k.at) ∙ cell_here nodes read k.level k.above k.status here) in
    let spent_is : spent ≡ k.level.spent = cc spends in
    let above = front_counts nodes e front read k.level k.above k.status (ap (λ (q : Place). q.node) k.at ∙ sym node) here in (
      sym (given_more nodes b answers inferences spent read v up was k here beside is_beside spent_is
          ∙ ap (λ (n : ℕ). counted n (counted beside.0 answers)) above.given),
      sym (taken_more nodes b answers inferences spent read v up was k here beside is_beside spent_is
          ∙ ap (λ (n : ℕ). counted n (counted (counted beside.1 spent) inferences)) above.taken),
    )

pub walk_end : (nodes : NodesView) (a : Place) (scope : Option ℕ) (b : Place) (first : Option Place) (e : Front) → Walks nodes a scope (Some b) first
    → IsFront nodes (Some e) → e.node ≡ b.node → IsFirstOpen nodes a scope (or_else (open_beside nodes.rows b) first)
walk_end nodes a scope b first e w front node read v up was at s =
    let k = w read v up was at s in
    let here = subst (IsTableOf nodes read) k.same s in
    let above = front_counts nodes e front read k.level k.above k.status (ap (λ (q : Place). q.node) k.at ∙ sym node) here in
    found_more nodes scope b first read v up was k here
    ∙ ap (λ (o : Option Place). or_else o (or_else (open_beside nodes.rows b) first)) (none_below scope k.above above.shut)

pub at_front_some : (front : Option Front) (n : ℕ) (o : Option Front) → IsAtFront front n o → is_some o ≡ true → (e : Front) × ((front ≡ Some e) × (e.node ≡ n))
at_front_some front n None h e = absurd (cc e)
at_front_some front n (Some e) h s = (e, h)
