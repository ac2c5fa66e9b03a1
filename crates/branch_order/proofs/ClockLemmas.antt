-- What is counted, level by level.
use Rattle.std.proofs.Common.{◌≡◌, ℕ, suc, ◌<◌, cond, List, [], ◌∷◌, length, take, drop, Option, Some, None, refl, sym, ap, ◌∙◌, arith, subst}
use Rattle.std.specs.Option.{option_map}
use Rattle.std.specs.Prelude.{slice_get, IsSome}
use Rattle.tree_model.specs.Credits.{Credit, counted}
use Rattle.tree_model.specs.Nodes.{Status, Pending, Inner, Closed, credits_below}
use Rattle.tree_model.specs.Levels.{Level, level_node, plug, Place, place_at}
use Rattle.tree_model.specs.Orders.{is_closed, first_open_left, first_open, credits_left, clock_of, answers_left}
use Rattle.tree_nodes.specs.Bodies.{Reading}
use Rattle.tree_nodes.specs.Rows.{AlternativeCell, node_parent, cell_at}
use Rattle.tree_nodes.specs.TreeTables.{cell_of, cells_of, NodesView, IsTableOf, above_of}
use Rattle.tree_nodes.proofs.PlaceLemmas.{left_cells, length-left_cells}
use Rattle.tree_nodes.proofs.WalkLemmas.{cells_beside, cell_here, parent_here, one_level_up, no_level_up}
use Rattle.branch_order.specs.LeftOf.{or_else}
use Rattle.tree_nodes.specs.Fronts.{place_on}
use Rattle.branch_order.specs.Clocks.{IsCountedFrom, IsCountedTo, Counts}
use Rattle.tree_nodes.specs.Fronts.{counts_beside}
use Rattle.tree_nodes.specs.Siblings.{closed_counts, counts_in, counts_from}
use Rattle.tree_nodes.proofs.CreditLemmas.{counted-assoc}
use Rattle.tree_nodes.proofs.SiblingLemmas.{counts-snoc}
use Rattle.tree_nodes.proofs.FoldLemmas.{take-seam}
use Rattle.branch_order.proofs.LeftLemmas.{drop-take-cons, first_open-level}

counted-three : (x y s i : ℕ) → counted (counted x (counted y s)) i ≡ counted x (counted (counted y s) i)
counted-three x y s i = omega arith

counted-whole : (a b : ℕ) → counted a b ≡ counted (counted a b) 0
counted-whole a b = omega arith

counted-first : (a b : ℕ) → counted a b ≡ counted 0 (counted a b)
counted-first a b = omega arith

pub both_none : (a b : Option Place) → or_else a b ≡ None → (a ≡ None) × (b ≡ None)
both_none None b e = (refl, e)
both_none (Some p) b e = absurd (cc e)

-- at one level, where all to the left has closed
abbrev pub credits_of : Status → Credit
credits_of s = credits_below s

pub left_closed : (n : ℕ) (left : List (ℕ × Status)) → first_open_left n left ≡ None
    → ((credits_left left).answers ≡ (counts_from (0, 0) (left_cells left)).0) × ((credits_left left).inferences ≡ (counts_from (0, 0) (left_cells left)).1)
left_closed n [] e = (refl, refl)
left_closed n (a ∷ left) e = by_found (first_open_left n left) refl e (left_closed n left)
  where
    by_status : (s : Status) → a.1 ≡ s → ((credits_left left).answers ≡ (counts_from (0, 0) (left_cells left)).0) × ((credits_left left).inferences ≡ (counts_from (0, 0) (left_cells left)).1)
        → ◌≡◌ {A = Option Place} (cond (is_closed s) None (Some (place_on n (length left)))) None
        → ((credits_left (a ∷ left)).answers ≡ (counts_from (0, 0) (left_cells (a ∷ left))).0) × ((credits_left (a ∷ left)).inferences ≡ (counts_from (0, 0) (left_cells (a ∷ left))).1)
    by_status (Pending hold entry) is h f = absurd (cc f)
    by_status (Inner node) is h f = absurd (cc f)
    by_status (Closed c) is h f =
        let snoc = counts-snoc (0, 0) (left_cells left) (a.0, cell_of a.1) in
        let answers : (credits_left (a ∷ left)).answers ≡ counted (credits_left left).answers c.answers = ap (λ (s : Status). counted (credits_left left).answers (credits_of s).answers) is in
        let inferences : (credits_left (a ∷ left)).inferences ≡ counted (credits_left left).inferences c.inferences = ap (λ (s : Status). counted (credits_left left).inferences (credits_of s).inferences) is in (
          answers ∙ (ap (λ (k : ℕ). counted k c.answers) h.0
              ∙ (ap (λ (s : Status). counted (counts_from (0, 0) (left_cells left)).0 (closed_counts (cell_of s)).0) (sym is) ∙ sym (ap (λ (p : ℕ × ℕ). p.0) snoc))),
          inferences ∙ (ap (λ (k : ℕ). counted k c.inferences) h.1
              ∙ (ap (λ (s : Status). counted (counts_from (0, 0) (left_cells left)).1 (closed_counts (cell_of s)).1) (sym is) ∙ sym (ap (λ (p : ℕ × ℕ). p.1) snoc))),
        )

    by_found : (o : Option Place) → first_open_left n left ≡ o
        → ◌≡◌ {A = Option Place} (elim o [ Some p ↦ Some p | None ↦ cond (is_closed a.1) None (Some (place_on n (length left))) ]) None
        → (first_open_left n left ≡ None → ((credits_left left).answers ≡ (counts_from (0, 0) (left_cells left)).0) × ((credits_left left).inferences ≡ (counts_from (0, 0) (left_cells left)).1))
        → ((credits_left (a ∷ left)).answers ≡ (counts_from (0, 0) (left_cells (a ∷ left))).0) × ((credits_left (a ∷ left)).inferences ≡ (counts_from (0, 0) (left_cells (a ∷ left))).1)
    by_found (Some p) is f h = absurd (cc f)
    by_found None is f h = by_status a.1 refl (h is) f

-- the counts on the left of a place
beside_counts : (nodes : NodesView) (read : Reading) (v : Level) (up : List Level) (was : Status) → IsTableOf nodes read (plug (v ∷ up) was)
    → counts_beside nodes.rows (place_at v) ≡ counts_from (0, 0) (left_cells v.left)
beside_counts nodes read v up was s = ap (counts_from (0, 0)) (ap (take (length v.left)) (cells_beside nodes read v up was s)
    ∙ take-seam (left_cells v.left) (cells_of v.right) (v.spent, cell_of was) (length v.left) (length-left_cells v.left))

pub counts_begin : (nodes : NodesView) (a : Place) → Counts nodes a (Some a) 0 0
counts_begin nodes a read v up was e s f = record {
  level = v;
  above = up;
  status = was;
  same = refl;
  at = e;
  shut = f;
  given = counted-whole (answers_left up) (credits_left v.left).answers;
  taken = counted-whole (clock_of up) (counted (credits_left v.left).inferences v.spent);
}

module _ (nodes : NodesView) (b : Place) (answers inferences spent : ℕ) (read : Reading) (v : Level) (up : List Level) (was : Status)
    (k : IsCountedFrom v up was b answers inferences) (here : IsTableOf nodes read (plug (k.level ∷ k.above) k.status))
    (beside : ℕ × ℕ) (is_beside : beside ≡ counts_beside nodes.rows b) (is_spent : spent ≡ k.level.spent) where
  parts : (first_open k.above ≡ None) × (first_open_left k.level.number k.level.left ≡ None)
  parts = both_none (first_open k.above) (first_open_left k.level.number k.level.left) (sym (first_open-level k.level k.above) ∙ k.shut)

  left_counts : ((credits_left k.level.left).answers ≡ beside.0) × ((credits_left k.level.left).inferences ≡ beside.1)
  left_counts =
      let l = left_closed k.level.number k.level.left parts.1 in
      let same : counts_from (0, 0) (left_cells k.level.left) ≡ beside = sym (beside_counts nodes read k.level k.above k.status here)
      ∙ (ap (counts_beside nodes.rows) k.at ∙ sym is_beside) in
      (l.0 ∙ ap (λ (p : ℕ × ℕ). p.0) same, l.1 ∙ ap (λ (p : ℕ × ℕ). p.1) same)

  pub given_more : answers_left (v ∷ up) ≡ counted (answers_left k.above) (counted beside.0 answers)
  given_more = k.given ∙ (counted-assoc (answers_left k.above) (credits_left k.level.left).answers answers
      ∙ ap (λ (x : ℕ). counted (answers_left k.above) (counted x answers)) left_counts.0)

  pub taken_more : clock_of (v ∷ up) ≡ counted (clock_of k.above) (counted (counted beside.1 spent) inferences)
  taken_more = k.taken ∙ (counted-three (clock_of k.above) (credits_left k.level.left).inferences k.level.spent inferences
      ∙ (ap (λ (x : ℕ). counted (clock_of k.above) (counted (counted x k.level.spent) inferences)) left_counts.1
      ∙ ap (λ (x : ℕ). counted (clock_of k.above) (counted (counted beside.1 x) inferences)) (sym is_spent)))

  by_parent : (o : Option Place) → above_of k.above ≡ o → IsCountedTo v up was o (counted beside.0 answers) (counted (counted beside.1 spent) inferences)
  by_parent None z =
      let top = no_level_up k.above z in (
        counted-first beside.0 answers ∙ sym (given_more ∙ ap (λ (ls : List Level). counted (answers_left ls) (counted beside.0 answers)) top),
        counted-first (counted beside.1 spent) inferences
            ∙ sym (taken_more ∙ ap (λ (ls : List Level). counted (clock_of ls) (counted (counted beside.1 spent) inferences)) top),
      )
  by_parent (Some q) z =
      let u = one_level_up k.level k.above q z in
      record {
        level = u.level;
        above = u.above;
        status = Inner (level_node k.level k.status);
        same = k.same ∙ ap (λ (ls : List Level). plug ls (Inner (level_node k.level k.status))) u.is;
        at = u.at;
        shut = sym (ap first_open u.is) ∙ parts.0;
        given = given_more ∙ ap (λ (ls : List Level). counted (answers_left ls) (counted beside.0 answers)) u.is;
        taken = taken_more ∙ ap (λ (ls : List Level). counted (clock_of ls) (counted (counted beside.1 spent) inferences)) u.is;
      }

pub counts_go_on : (nodes : NodesView) (a b : Place) (answers inferences spent : ℕ) (parent : Option Place) (beside : ℕ × ℕ) → Counts nodes a (Some b) answers inferences
    → node_parent nodes.rows b.node ≡ Some parent → beside ≡ counts_beside nodes.rows b
    → option_map (λ c. c.0) (cell_at nodes.rows b) ≡ Some spent
    → Counts nodes a parent (counted beside.0 answers) (counted (counted beside.1 spent) inferences)
counts_go_on nodes a b answers inferences spent parent beside w p is_beside sp read v up was e s f =
    let k = w read v up was e s f in
    let here = subst (IsTableOf nodes read) k.same s in
    let spends : Some spent ≡ Some k.level.spent = sym sp ∙ ap (λ (o : Option (ℕ × AlternativeCell)). option_map (λ c. c.0) o)
    (ap (cell_at nodes.rows) (sym k.at) ∙ cell_here nodes read k.level k.above k.status here) in
    by_parent nodes b answers inferences spent read v up was k here beside is_beside (cc spends) parent
    (parent_here nodes read k.level k.above k.status parent here
    (ap (λ (q : Place). node_parent nodes.rows q.node) k.at ∙ p))

-- one alternative more
pub counts_step : (cells : List (ℕ × AlternativeCell)) (i n : ℕ) (so_far : ℕ × ℕ) → i < n → IsSome (slice_get cells i)
    → counts_from so_far (drop i (take n cells))
    ≡ counts_from (counted so_far.0 (counts_in (slice_get cells i)).0, counted so_far.1 (counts_in (slice_get cells i)).1) (drop (suc i) (take n cells))
counts_step cells i n so_far l there = by_cell (slice_get cells i) refl there
  where
    by_cell : (o : Option (ℕ × AlternativeCell)) → slice_get cells i ≡ o → IsSome o
        → counts_from so_far (drop i (take n cells)) ≡ counts_from (counted so_far.0 (counts_in o).0, counted so_far.1 (counts_in o).1) (drop (suc i) (take n cells))
    by_cell None g t = absurd (cc t)
    by_cell (Some c) g t = ap (counts_from so_far) (drop-take-cons cells i n c l g)
