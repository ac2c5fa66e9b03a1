-- Where a worker gives an alternative back, what is round it is left, and no task more than that.
use Rattle.std.proofs.Common.{◌≡◌, ℕ, ◌+◌, ◌≤◌, Bool, true, false, cond, List, [], ◌∷◌, map, length, Option, Some, None, refl, ap, arith}
use Rattle.std.specs.Prelude.{nat_lt}
use Rattle.au_term.specs.Term.{Term}
use Rattle.au_model.specs.Terms.Substitutions.{Substitution}
use Rattle.run_model.specs.Programs.Clauses.{Clause}
use Rattle.run_model.specs.Programs.Databases.{Database, without_clause}
use Rattle.run_model.specs.Programs.Jobs.{Query}
use Rattle.run_model.specs.Goals.Worlds.{World, world_step}
use Rattle.run_model.specs.Goals.Outcomes.{Reply, Solutions, Ball, HaltNumber, GoesOnWith, EitherOf, TestOf, CutToScope, CatchOf, FindallOf}
use Rattle.run_model.specs.Goals.Outcomes.{Outcome, Replies, Controls, AskWorld}
use Rattle.run_model.specs.Goals.GoalOutcomes.{outcome_of}
use Rattle.run_model.specs.Machine.Items.{Item, GoalItem, CatchMark, CollectMark, RemovalItem, Continuation, with_items, without_marks, first_mark}
use Rattle.run_model.specs.Machine.Entries.{Entry, PlainEntry, CatchEntry, FindallEntry, EndEntry}
use Rattle.run_model.specs.Machine.Balls.{taken_by, next_mark, recovered, unwound}
use Rattle.tree_model.specs.Credits.{Credit, credit_of}
use Rattle.tree_model.specs.Nodes.{CutGate, BallGate, ChoiceNode, Ready, Numbered, Status, Inner, single, entry_alternatives}
use Rattle.tree_model.specs.Levels.{plug, Place, Spot, levels_of}
use Rattle.tree_model.specs.Floors.{with_nodes, node_of}
use Rattle.tree_model.specs.Gates.{ball_scope, is_caught_above, item_gate, goal_gate, gate_on}
use Rattle.tree_model.specs.PrivateRuns.{goal_alone, item_alone, taken_alone}
use Rattle.tree_model.specs.Pruning.{tasks_below, pruned, tasks_pruned}
use Rattle.tree_model.specs.Shapes.{placed_status, placed_scope}
use Rattle.tree_model.specs.FrontGates.{Taken, Continues, Answered, Raises, Halts, QueryEnds, reply_taken, goal_at_front}
use Rattle.tree_model.specs.FrontGates.{removal_at_front, item_at_front, taken_at_front}
use Rattle.tree_model.specs.TreeStates.{TreeState, opened_node}
use Rattle.tree_model.specs.Legality.{may_prune}
use Rattle.tree_model.specs.Effects.{spending, closed_with, left_at, ball_falls, cut_at, or_none, gate_pruned, query_opens, front_taken, run_placed}
use Rattle.au_term.proofs.LogicLemmas.{false_true}
use Rattle.hand_out_laws.proofs.TaskCountLemmas.{tasks_at, tasks_append, round_tasks, node_here, index_here, plug_tasks}
use Rattle.hand_out_laws.proofs.TaskClosingLemmas.{tree_tasks, closed_tasks, pruned_tasks, fallen_tasks, entry_tasks, placed_tasks}

-- all tasks at a place, in the tree and pruned
abbrev pub all_tasks : Place → TreeState → ℕ
all_tasks a t = tree_tasks a t.root + tasks_at a t.lost

-- of the tree as it was only what is round a place is left, and what had been pruned
abbrev pub LeavesRound : TreeState → Spot → TreeState → Type 0
LeavesRound t s new = (a : Place) → all_tasks a new ≤ round_tasks a (levels_of s) + tasks_at a t.lost

-- something is left where a cut or a ball is taken
abbrev pub LeavesSome : List Entry → Type 0
LeavesSome [] = ⊥
LeavesSome (e ∷ es) = Unit {0}

unwound_some : (ball : Term) (es : List Entry) (mark : Option ℕ) → LeavesSome (unwound ball mark es)
unwound_some ball [] mark = tt
unwound_some ball (PlainEntry f ∷ es) mark = unwound_some ball es mark
unwound_some ball (FindallEntry results l f ∷ es) mark = unwound_some ball es mark
unwound_some ball (EndEntry b ∷ es) mark = unwound_some ball es mark
unwound_some ball (CatchEntry c r f ∷ es) mark = by_unifier (taken_by mark (length es) ball c f) (unwound_some ball es (next_mark mark (length es) f))
  where
    by_unifier : (o : Option Substitution) → LeavesSome (unwound ball (next_mark mark (length es) f) es)
        → LeavesSome (recovered o ball r f es (unwound ball (next_mark mark (length es) f) es))
    by_unifier None k = k
    by_unifier (Some s) k = tt

-- what is taken leaves something where it is a ball
abbrev pub IsWhole : Taken → Type 0
IsWhole (Raises es) = LeavesSome es
IsWhole (Continues es) = Unit {0}
IsWhole Answered = Unit {0}
IsWhole (Halts k) = Unit {0}
IsWhole QueryEnds = Unit {0}

reply_whole : (r : Reply) (f : Continuation ℕ) (es : List Entry) → IsWhole (reply_taken r f es)
reply_whole (Solutions ss) f es = tt
reply_whole (Ball b) f es = unwound_some b es (first_mark f.items)
reply_whole (HaltNumber k) f es = tt

goal_whole : (clauses : List Clause) (o : Outcome) (f : Continuation ℕ) (es : List Entry) (w : World)
    → IsWhole (goal_at_front clauses o f es w).1
goal_whole clauses (AskWorld goal) f es w = reply_whole (world_step clauses goal f.next w).1 f es
goal_whole clauses (Replies r) f es w = reply_whole r f es
goal_whole clauses (Controls form) f es w = tt

removal_whole : (db : Option Database) (f : Continuation ℕ) (w : World) → IsWhole (removal_at_front db f w).1
removal_whole None f w = tt
removal_whole (Some db) f w = tt

item_whole : (clauses : List Clause) (items : List (Item ℕ)) (f : Continuation ℕ) (es : List Entry) (w : World)
    → IsWhole (item_at_front clauses items f es w).1
item_whole clauses [] f es w = tt
item_whole clauses (CatchMark h ∷ items) f es w = tt
item_whole clauses (CollectMark x h ∷ items) f es w = tt
item_whole clauses (RemovalItem n ∷ items) f es w = removal_whole (without_clause n w.database) (with_items items f) w
item_whole clauses (GoalItem g h ∷ items) f es w = goal_whole clauses (outcome_of clauses g f.next) (with_items items f) es w

pub front_whole : (clauses : List Clause) (es : List Entry) (w : World) → IsWhole (taken_at_front clauses es w).1
front_whole clauses [] w = tt
front_whole clauses (PlainEntry f ∷ es) w = item_whole clauses (without_marks f.items) f es w
front_whole clauses (EndEntry b ∷ es) w = tt
front_whole clauses (CatchEntry c r f ∷ es) w = tt
front_whole clauses (FindallEntry results l f ∷ es) w = tt

module _ (t : TreeState) (s : Spot) where
  pub closing_leaves : (c : Credit) → LeavesRound t s (closed_with s c t)
  closing_leaves c a = let h = closed_tasks a t.next (levels_of s) c in omega (arith, h)

  -- a status without tasks takes its place
  put_leaves : (k : ℕ) (status : Status) (new : TreeState) → new.root ≡ plug (spending k (levels_of s)) status → new.lost ≡ t.lost
      → ((a : Place) → tasks_at a (tasks_below (node_here (levels_of s)) (index_here (levels_of s)) status) ≡ 0) → LeavesRound t s new
  put_leaves k status new r l f a =
      let p : tree_tasks a (plug (spending k (levels_of s)) status)
      ≡ round_tasks a (levels_of s) + tasks_at a (tasks_below (node_here (levels_of s)) (index_here (levels_of s)) status)
      = plug_tasks a (spending k (levels_of s)) status in
      let q = ap (tree_tasks a) r in
      let m = ap (tasks_at a) l in
      let z = f a in
      omega (arith, p, q, m, z)

  pub run_leaves : (k : ℕ) (sizes : List ℕ) (es : List Entry) → LeavesRound t s (run_placed s k sizes (Some es) t)
  run_leaves k sizes es =
      let named = map (with_nodes (placed_scope t.next sizes (levels_of s))) es in
      put_leaves k (placed_status t.next sizes named) (run_placed s k sizes (Some es) t) refl refl
      (λ a. placed_tasks a t.next sizes named (node_here (levels_of s)) (index_here (levels_of s)))

  left_leaves : (es : List Entry) → LeavesRound t s (left_at s es t)
  left_leaves [] = closing_leaves (credit_of 1)
  left_leaves (e ∷ es) =
      let named = map (with_nodes (node_of (levels_of s))) (e ∷ es) in
      put_leaves 1 (Inner (Numbered t.next ChoiceNode (entry_alternatives Ready named))) (left_at s (e ∷ es) t) refl refl
      (λ a. entry_tasks a Ready (λ n i. refl) t.next 0 named)

  opening_leaves : (qs : List Query) → LeavesRound t s (query_opens s qs t)
  opening_leaves [] = closing_leaves (credit_of 1)
  opening_leaves (q ∷ qs) = put_leaves 1 (Inner (opened_node t.next q)) (query_opens s (q ∷ qs) t) refl refl (λ a. refl)

  cut_leaves : (n : ℕ) (es : List Entry) → LeavesSome es → LeavesRound t s (cut_at s n es t)
  cut_leaves n [] l a = absurd l
  cut_leaves n (e ∷ es) l a =
      let new = Inner (single t.next (with_nodes (node_of (levels_of s)) e)) in
      let p : tree_tasks a (plug (pruned n (spending 1 (levels_of s))) new) ≡ round_tasks a (pruned n (spending 1 (levels_of s))) + 0
      = plug_tasks a (pruned n (spending 1 (levels_of s))) new in
      let q : round_tasks a (pruned n (spending 1 (levels_of s))) + tasks_at a (tasks_pruned n (spending 1 (levels_of s)))
      ≤ round_tasks a (levels_of s) = pruned_tasks a n (spending 1 (levels_of s)) in
      let same = ap (tasks_at a) (spent_pruned n) in
      let m = tasks_append a t.lost (tasks_pruned n (levels_of s)) in
      omega (arith, p, q, same, m)
    where
      spent_pruned : (n : ℕ) → tasks_pruned n (spending 1 (levels_of s)) ≡ tasks_pruned n (levels_of s)
      spent_pruned n = refl

  ball_leaves : (es : List Entry) → LeavesSome es → LeavesRound t s (ball_falls s es t)
  ball_leaves [] l a = absurd l
  ball_leaves (e ∷ es) l a =
      let scope = ball_scope (levels_of s) (e ∷ es) in
      let h = fallen_tasks a t.next scope (levels_of s) (credit_of 1) (with_nodes (node_of (levels_of s)) e) in
      let m = tasks_append a t.lost (tasks_pruned scope (levels_of s)) in
      omega (arith, h, m)

  -- what may be pruned
  goal_leaves : (o : Outcome) (h : ℕ) (f : Continuation ℕ) (es : List Entry) → may_prune (levels_of s) (goal_gate (levels_of s) o h f es) ≡ true
      → LeavesRound t s (gate_pruned s (goal_gate (levels_of s) o h f es) (goal_alone o h f es) t)
  goal_leaves (AskWorld goal) h f es e = false_true e
  goal_leaves (Replies (Solutions ss)) h f es e = false_true e
  goal_leaves (Replies (HaltNumber k)) h f es e = false_true e
  goal_leaves (Replies (Ball b)) h f es e = by_landing (is_caught_above (levels_of s) left) e
    where
      left : List Entry
      left = unwound b (first_mark f.items) es

      by_landing : (c : Bool) → may_prune (levels_of s) (cond c None (Some (BallGate (ball_scope (levels_of s) left)))) ≡ true
          → LeavesRound t s (gate_pruned s (cond c None (Some (BallGate (ball_scope (levels_of s) left)))) left t)
      by_landing true k = false_true k
      by_landing false k = ball_leaves left (unwound_some b es (first_mark f.items))
  goal_leaves (Controls CutToScope) h f es e = by_height (nat_lt h (length (levels_of s))) e
    where
      left : List Entry
      left = goal_alone (Controls CutToScope) h f es

      by_height : (c : Bool) → may_prune (levels_of s) (cond c (Some (CutGate (node_of (levels_of s) h))) None) ≡ true
          → LeavesRound t s (gate_pruned s (cond c (Some (CutGate (node_of (levels_of s) h))) None) left t)
      by_height true k = cut_leaves (node_of (levels_of s) h) left tt
      by_height false k = false_true k
  goal_leaves (Controls (GoesOnWith gs)) h f es e = false_true e
  goal_leaves (Controls (EitherOf gs others)) h f es e = false_true e
  goal_leaves (Controls (TestOf gs thens others)) h f es e = false_true e
  goal_leaves (Controls (CatchOf goal catcher recovery)) h f es e = false_true e
  goal_leaves (Controls (FindallOf template goal list)) h f es e = false_true e

  item_leaves : (clauses : List Clause) (items : List (Item ℕ)) (f : Continuation ℕ) (es : List Entry)
      → may_prune (levels_of s) (item_gate clauses (levels_of s) items f es) ≡ true
      → LeavesRound t s (gate_pruned s (item_gate clauses (levels_of s) items f es) (or_none (item_alone clauses items f es)) t)
  item_leaves clauses [] f es e = false_true e
  item_leaves clauses (GoalItem g h ∷ items) f es e = goal_leaves (outcome_of clauses g f.next) h (with_items items f) es e
  item_leaves clauses (CatchMark h ∷ items) f es e = false_true e
  item_leaves clauses (CollectMark x h ∷ items) f es e = false_true e
  item_leaves clauses (RemovalItem number ∷ items) f es e = false_true e

  pub prune_leaves : (clauses : List Clause) (es : List Entry) → may_prune (levels_of s) (gate_on clauses (levels_of s) es) ≡ true
      → LeavesRound t s (gate_pruned s (gate_on clauses (levels_of s) es) (or_none (taken_alone clauses es)) t)
  prune_leaves clauses [] e = false_true e
  prune_leaves clauses (PlainEntry f ∷ es) e = item_leaves clauses (without_marks f.items) f es e
  prune_leaves clauses (EndEntry b ∷ es) e = false_true e
  prune_leaves clauses (CatchEntry c r f ∷ es) e = false_true e
  prune_leaves clauses (FindallEntry results l f ∷ es) e = false_true e

  -- what is taken at the front and doesn't halt
  pub front_leaves : (taken : Taken) → IsWhole taken → (front_taken s taken t).halted ≡ None → LeavesRound t s (front_taken s taken t)
  front_leaves (Continues es) w h = left_leaves es
  front_leaves Answered w h = closing_leaves _
  front_leaves (Raises es) w h = ball_leaves es w
  front_leaves (Halts k) w h = let no_way : ⊥ = cc in absurd no_way
  front_leaves QueryEnds w h = opening_leaves t.queries
