-- Where an alternative closes, or something takes its place, no task goes out.
use Rattle.std.proofs.Common.{◌≡◌, ℕ, suc, ◌+◌, ◌-◌, ◌≤◌, ◌==◌, Bool, true, false, cond, List, [], ◌∷◌, ◌++◌, length, take, drop, Option, Some, None}
use Rattle.std.proofs.Common.{refl, ap, arith}
use Rattle.run_model.specs.Machine.Entries.{Entry, PlainEntry, CatchEntry, FindallEntry, EndEntry}
use Rattle.tree_model.specs.Credits.{Credit, no_credit, without_records}
use Rattle.tree_model.specs.Nodes.{Kind, ChoiceNode, CatchNode, FindallNode, QueryNode, Hold, Alternatives, none, alternative, Status, Inner, Closed}
use Rattle.tree_model.specs.Nodes.{single, entry_alternatives}
use Rattle.tree_model.specs.Levels.{Level, plug, Place}
use Rattle.tree_model.specs.Closing.{Grown, with_right, with_results, findall_goes_on, guarded, all_closed, folds, wakes, goal_side_closes, closes}
use Rattle.tree_model.specs.Pruning.{task_at, tasks_among, tasks_below, emptied, pruned, tasks_pruned, left_after, ball_closes}
use Rattle.tree_model.specs.Shapes.{further, guard_kind, guard_hold, placed_status}
use Rattle.hand_out_laws.proofs.TaskCountLemmas.{tasks_at, tasks_append, left_tasks, round_tasks, plug_tasks}

-- of a whole tree
abbrev pub tree_tasks : Place → Status → ℕ
tree_tasks a root = tasks_at a (tasks_below 0 0 root)

module _ (a : Place) where
  shut_tasks : (levels : List Level) (c : Credit) → tree_tasks a (plug levels (Closed c)) ≤ round_tasks a levels
  shut_tasks levels c = let h : tree_tasks a (plug levels (Closed c)) ≡ round_tasks a levels + 0 = plug_tasks a levels (Closed c) in omega (arith, h)

  folded_tasks : (next : ℕ) (v : Level) (up : List Level) (c : Credit) (o : Option Credit) (go : Credit → Grown) (most : ℕ)
      → round_tasks a (v ∷ up) ≤ most → ((k : Credit) → tree_tasks a (go k).root ≤ most) → tree_tasks a (folds next v up c o go).root ≤ most
  folded_tasks next v up c None go most l f = let h = shut_tasks (v ∷ up) c in omega (arith, h, l)
  folded_tasks next v [] c (Some total) go most l f = let h = shut_tasks (v ∷ []) c in omega (arith, h, l)
  folded_tasks next v (u ∷ up) c (Some total) go most l f = f _

  woken_tasks : (next : ℕ) (v : Level) (up : List Level) (c : Credit) (e : Entry)
      → tree_tasks a (wakes next v up c e).root ≤ left_tasks a v.number v.left + round_tasks a up
  woken_tasks next v up c e =
      let h : tree_tasks a (wakes next v up c e).root ≤ (left_tasks a v.number v.left + 0) + round_tasks a up
      = shut_tasks (with_right (Inner (single next e)) v ∷ up) c in
      omega (arith, h)

  side_tasks : (next : ℕ) (v : Level) (up : List Level) (c : Credit) (o : Option Entry) (go : Credit → Grown)
      → ((k : Credit) → tree_tasks a (go k).root ≤ round_tasks a up)
      → tree_tasks a (goal_side_closes next v up c o go).root ≤ round_tasks a (v ∷ up)
  side_tasks next v up c o go f = by_dormant o
    where
      above : (k : Credit) → tree_tasks a (go k).root ≤ round_tasks a (v ∷ up)
      above k = let h = f k in omega (arith, h)

      by_dormant : (o : Option Entry) → tree_tasks a (goal_side_closes next v up c o go).root ≤ round_tasks a (v ∷ up)
      by_dormant None = folded_tasks next v up c (all_closed v c) go (round_tasks a (v ∷ up)) (omega arith) above
      by_dormant (Some (PlainEntry g)) = folded_tasks next v up c (all_closed v c) go (round_tasks a (v ∷ up)) (omega arith) above
      by_dormant (Some (CatchEntry x r g)) =
          let gone = with_right (Closed no_credit) v in
          folded_tasks next gone up c (all_closed gone c) go (round_tasks a (v ∷ up)) (omega arith) above
      by_dormant (Some (FindallEntry results x g)) =
          let h = woken_tasks next v up (without_records c) (findall_goes_on v.number (with_results c.records (FindallEntry results x g))) in
          omega (arith, h)
      by_dormant (Some (EndEntry b)) = let h = woken_tasks next v up c (EndEntry b) in omega (arith, h)

  pub closed_tasks : (next : ℕ) (levels : List Level) (c : Credit) → tree_tasks a (closes next levels c).root ≤ round_tasks a levels
  closed_tasks next [] c = omega arith
  closed_tasks next (v ∷ up) c = side_tasks next v up c (guarded v) (closes next up) (λ k. closed_tasks next up k)

  -- what a cut or a ball takes away has a task of its own
  emptied_tasks : (n i : ℕ) (others : Alternatives) → tasks_at a (tasks_among n i (emptied others)) ≡ 0
  emptied_tasks n i none = refl
  emptied_tasks n i (alternative spent status others) = emptied_tasks n (suc i) others

  pub pruned_tasks : (scope : ℕ) (levels : List Level)
      → round_tasks a (pruned scope levels) + tasks_at a (tasks_pruned scope levels) ≤ round_tasks a levels
  pruned_tasks scope [] = omega arith
  pruned_tasks scope (v ∷ up) = by_scope (v.number == scope) (pruned_tasks scope up)
    where
      by_scope : (b : Bool) → round_tasks a (pruned scope up) + tasks_at a (tasks_pruned scope up) ≤ round_tasks a up
          → round_tasks a (cond b (v ∷ up) (record v { right = emptied v.right } ∷ pruned scope up))
          + tasks_at a (cond b [] (tasks_among v.number (suc (length v.left)) v.right ++ tasks_pruned scope up)) ≤ round_tasks a (v ∷ up)
      by_scope true h = omega arith
      by_scope false h =
          let z = emptied_tasks v.number (suc (length v.left)) v.right in
          let s = tasks_append a (tasks_among v.number (suc (length v.left)) v.right) (tasks_pruned scope up) in
          omega (arith, h, z, s)

  pub fallen_tasks : (next scope : ℕ) (levels : List Level) (c : Credit) (e : Entry)
      → tree_tasks a (ball_closes next scope levels c e).root + tasks_at a (tasks_pruned scope levels) ≤ round_tasks a levels
  fallen_tasks next scope [] c e = omega arith
  fallen_tasks next scope (v ∷ up) c e = by_scope (v.number == scope) (λ d. fallen_tasks next scope up d e)
    where
      by_scope : (b : Bool)
          → ((d : Credit) → tree_tasks a (ball_closes next scope up d e).root + tasks_at a (tasks_pruned scope up) ≤ round_tasks a up)
          → tree_tasks a (cond b (wakes next v up (left_after v c) e) (ball_closes next scope up (left_after v c) e)).root
          + tasks_at a (cond b [] (tasks_among v.number (suc (length v.left)) v.right ++ tasks_pruned scope up)) ≤ round_tasks a (v ∷ up)
      by_scope true f = let h = woken_tasks next v up (left_after v c) e in omega (arith, h)
      by_scope false f =
          let h = f (left_after v c) in
          let s = tasks_append a (tasks_among v.number (suc (length v.left)) v.right) (tasks_pruned scope up) in
          omega (arith, h, s)

  -- entries of new nodes
  abbrev IsFree : Hold → Type 0
  IsFree hold = (n i : ℕ) → task_at hold n i ≡ []

  pub entry_tasks : (hold : Hold) → IsFree hold → (n i : ℕ) (es : List Entry) → tasks_at a (tasks_among n i (entry_alternatives hold es)) ≡ 0
  entry_tasks hold f n i [] = refl
  entry_tasks hold f n i (e ∷ es) =
      let z = ap (tasks_at a) (f n i) in
      let k = entry_tasks hold f n (suc i) es in
      let s = tasks_append a (task_at hold n i) (tasks_among n (suc i) (entry_alternatives hold es)) in
      omega (arith, z, k, s)

  guard_free : (kind : Kind) → IsFree (guard_hold kind)
  guard_free ChoiceNode n i = refl
  guard_free CatchNode n i = refl
  guard_free FindallNode n i = refl
  guard_free QueryNode n i = refl

  pub placed_tasks : (next : ℕ) (sizes : List ℕ) (es : List Entry) (n i : ℕ) → tasks_at a (tasks_below n i (placed_status next sizes es)) ≡ 0
  placed_tasks next [] [] n i = refl
  placed_tasks next [] (e ∷ es) n i = refl
  placed_tasks next (size ∷ sizes) es n i =
      let rest = length es - further size in
      let hold = guard_hold (guard_kind (drop rest es)) in
      let k = placed_tasks (suc next) sizes (take rest es) next 0 in
      let m = entry_tasks hold (guard_free (guard_kind (drop rest es))) next 1 (drop rest es) in
      let s = tasks_append a (tasks_below next 0 (placed_status (suc next) sizes (take rest es))) (tasks_among next 1 (entry_alternatives hold (drop rest es))) in
      omega (arith, k, m, s)
