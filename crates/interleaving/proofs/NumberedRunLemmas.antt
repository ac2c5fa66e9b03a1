-- What is taken over the floor of a branch, privately or at the front, keeps variables below the next numbers.
use Rattle.std.proofs.Common.{ℕ, zero, suc, ◌-◌, Bool, true, false, cond, List, [], ◌∷◌, ◌++◌, map, length, take, drop, Option, Some, None}
use Rattle.std.specs.Prelude.{nat_lt}
use Rattle.au_model.specs.Terms.Each.{Each}
use Rattle.au_model.proofs.EachLemmas.{IfFound, each-append, each-map, each-drop}
use Rattle.run_model.specs.Programs.Clauses.{Clause}
use Rattle.run_model.specs.Programs.Databases.{Database, without_clause}
use Rattle.run_model.specs.Goals.Worlds.{World, world_step}
use Rattle.run_model.specs.Goals.Outcomes.{Reply, Solutions, Ball, HaltNumber, Outcome, Replies, Controls, AskWorld}
use Rattle.run_model.specs.Goals.GoalOutcomes.{outcome_of}
use Rattle.run_model.specs.Machine.Items.{Item, GoalItem, CatchMark, CollectMark, RemovalItem, Continuation, with_items, without_marks}
use Rattle.run_model.specs.Machine.Items.{first_mark}
use Rattle.run_model.specs.Machine.Entries.{Entry, PlainEntry, CatchEntry, FindallEntry, EndEntry, collected}
use Rattle.run_model.specs.Laws.Numbering.{AreItemTermsBelow, IsNamedBelow, IsContinuationNumbered, IsEntryNumbered, AreEntriesNumbered}
use Rattle.run_model.proofs.BuiltinRowBoundLemmas.{IsReplyBelow, IsOutcomeBelow}
use Rattle.run_model.proofs.OutcomeBoundLemmas.{outcome-below, world-below}
use Rattle.run_model.proofs.NumberingLemmas.{solutions-numbered, landing-numbered, reply-numbered, form-numbered, findall-numbered}
use Rattle.run_model.proofs.NumberingLemmas.{collected-numbered, marks-numbered}
use Rattle.tree_model.specs.Nodes.{Gate, Hold, Ready, TakenBy, Waiting, Dormant, Alternatives, none, alternative, Pending, Inner, Closed}
use Rattle.tree_model.specs.Nodes.{entry_alternatives}
use Rattle.tree_model.specs.Levels.{Level}
use Rattle.tree_model.specs.Floors.{renamed_item, renamed_continuation, renamed_entry, with_nodes, right_entry, floor_of}
use Rattle.tree_model.specs.Gates.{gate_on}
use Rattle.tree_model.specs.PrivateRuns.{own_free_step, own_free_steps, own_part, goal_alone, item_alone, taken_alone}
use Rattle.tree_model.specs.PrivateRuns.{if_no_gate}
use Rattle.tree_model.specs.PrivateRuns.{own_after, one_more, if_any, private_run}
use Rattle.tree_model.specs.Shapes.{further, guard_hold, guard_kind, placed_scope, placed_status, placed}
use Rattle.tree_model.specs.FrontGates.{Taken, Continues, Answered, Raises, Halts, QueryEnds, reply_taken, goal_at_front, removal_at_front}
use Rattle.tree_model.specs.FrontGates.{item_at_front, taken_at_front}
use Rattle.tree_model.specs.NumberedTrees.{IsNumberedStatus, AreNumbered}
use Rattle.interleaving.proofs.NumberedPlaceLemmas.{AreLevelsNumbered}

-- other names of scopes
renamed_below : (scope mark : ℕ → ℕ) (b : ℕ) (i : Item ℕ) → AreItemTermsBelow b i → AreItemTermsBelow b (renamed_item scope mark i)
renamed_below scope mark b (GoalItem t s) h = h
renamed_below scope mark b (CatchMark s) h = tt
renamed_below scope mark b (CollectMark t s) h = h
renamed_below scope mark b (RemovalItem n) h = tt

renamed_continuation_numbered : (scope mark : ℕ → ℕ) (f : Continuation ℕ) → IsContinuationNumbered f
    → IsContinuationNumbered (renamed_continuation scope mark f)
renamed_continuation_numbered scope mark f h = record {
  items = each-map (AreItemTermsBelow f.next) (AreItemTermsBelow f.next) (renamed_item scope mark) (renamed_below scope mark f.next)
      f.items h.items;
  named = h.named;
}

pub renamed_numbered : (scope mark : ℕ → ℕ) (e : Entry) → IsEntryNumbered e → IsEntryNumbered (renamed_entry scope mark e)
renamed_numbered scope mark (PlainEntry f) h = renamed_continuation_numbered scope mark f h
renamed_numbered scope mark (CatchEntry c r f) h = (h.0, h.1, renamed_continuation_numbered scope mark f h.2)
renamed_numbered scope mark (FindallEntry results l f) h = (h.0, h.1, renamed_continuation_numbered scope mark f h.2)
renamed_numbered scope mark (EndEntry b) h = tt

-- the floor
right_numbered : (right : Alternatives) → AreNumbered right → IsEntryNumbered (right_entry right)
right_numbered none h = tt
right_numbered (alternative sp (Inner node) others) h = tt
right_numbered (alternative sp (Closed c) others) h = tt
right_numbered (alternative sp (Pending Ready e) others) h = tt
right_numbered (alternative sp (Pending (TakenBy w) e) others) h = tt
right_numbered (alternative sp (Pending (Waiting g) e) others) h = tt
right_numbered (alternative sp (Pending Dormant e) others) h = h.0

pub floor_numbered : (levels : List Level) → AreLevelsNumbered levels → AreEntriesNumbered (floor_of levels)
floor_numbered [] h = tt
floor_numbered (v ∷ up) h = (renamed_numbered _ _ (right_entry v.right) (right_numbered v.right h.1), floor_numbered up h.2)

-- the free steps
own_steps_numbered : (items : List (Item ℕ)) (f : Continuation ℕ) (es floor : List Entry) (go : List Entry → List Entry)
    → Each (AreItemTermsBelow f.next) items → Each (IsNamedBelow f.next) f.named → AreEntriesNumbered es
    → ((ds : List Entry) → AreEntriesNumbered ds → AreEntriesNumbered (go ds)) → AreEntriesNumbered (own_free_step items f es floor go)
own_steps_numbered [] f es floor go i n e g = (record { items = i; named = n }, e)
own_steps_numbered (GoalItem t s ∷ items) f es floor go i n e g = (record { items = i; named = n }, e)
own_steps_numbered (CatchMark s ∷ items) f es floor go i n e g = (record { items = i; named = n }, e)
own_steps_numbered (RemovalItem k ∷ items) f es floor go i n e g = (record { items = i; named = n }, e)
own_steps_numbered (CollectMark t h ∷ items) f es floor go i n e g = pick (nat_lt h (length floor))
  where
    pick : (b : Bool) → AreEntriesNumbered
        (cond b (PlainEntry (with_items (CollectMark t h ∷ items) f) ∷ es) (go (collected (h - length floor) t es)))
    pick true = (record { items = i; named = n }, e)
    pick false = g (collected (h - length floor) t es) (collected-numbered (h - length floor) t es e)

own_free_numbered : (floor : List Entry) (k : ℕ) (es : List Entry) → AreEntriesNumbered es
    → AreEntriesNumbered (own_free_steps floor k es)
own_free_numbered floor zero es h = h
own_free_numbered floor (suc k) [] h = tt
own_free_numbered floor (suc k) (CatchEntry c r f ∷ es) h = own_free_numbered floor k es h.1
own_free_numbered floor (suc k) (FindallEntry results l f ∷ es) h =
    (findall-numbered results l f (es ++ floor) h.0.0 h.0.1 h.0.2, h.1)
own_free_numbered floor (suc k) (PlainEntry f ∷ es) h = own_steps_numbered (without_marks f.items) f es floor (own_free_steps floor k)
    (marks-numbered f.next f.items h.0.items) h.0.named h.1 (own_free_numbered floor k)
own_free_numbered floor (suc k) (EndEntry b ∷ es) h = h

each-take : (n : ℕ) (es : List Entry) → AreEntriesNumbered es → AreEntriesNumbered (take n es)
each-take zero es h = tt
each-take (suc n) [] h = tt
each-take (suc n) (e ∷ es) h = (h.0, each-take n es h.1)

-- a private inference
goal_numbered : (o : Outcome) (h : ℕ) (f : Continuation ℕ) (es : List Entry) → IsOutcomeBelow f.next o → IsContinuationNumbered f
    → AreEntriesNumbered es → AreEntriesNumbered (goal_alone o h f es)
goal_numbered (Replies r) h f es k n e = reply-numbered r f es k n e
goal_numbered (Controls form) h f es k n e = form-numbered form h f es k n e
goal_numbered (AskWorld g) h f es k n e = tt

item_numbered : (clauses : List Clause) (items : List (Item ℕ)) (f : Continuation ℕ) (es : List Entry)
    → Each (AreItemTermsBelow f.next) items → Each (IsNamedBelow f.next) f.named → AreEntriesNumbered es
    → IfFound AreEntriesNumbered (item_alone clauses items f es)
item_numbered clauses [] f es i n e = tt
item_numbered clauses (CatchMark s ∷ items) f es i n e = tt
item_numbered clauses (CollectMark t s ∷ items) f es i n e = tt
item_numbered clauses (RemovalItem k ∷ items) f es i n e = tt
item_numbered clauses (GoalItem g s ∷ items) f es i n e = goal_numbered (outcome_of clauses g f.next) s (with_items items f) es
    (outcome-below clauses g f.next i.0) (record { items = i.1; named = n }) e

pub alone_numbered : (clauses : List Clause) (es : List Entry) → AreEntriesNumbered es
    → IfFound AreEntriesNumbered (taken_alone clauses es)
alone_numbered clauses [] h = tt
alone_numbered clauses (CatchEntry c r f ∷ es) h = tt
alone_numbered clauses (FindallEntry results l f ∷ es) h = tt
alone_numbered clauses (EndEntry b ∷ es) h = tt
alone_numbered clauses (PlainEntry f ∷ es) h = item_numbered clauses (without_marks f.items) f es
    (marks-numbered f.next f.items h.0.items) h.0.named h.1

-- a private run
after_numbered : (floor : List Entry) (g : Option Gate) (o : Option (List Entry)) → IfFound AreEntriesNumbered o
    → IfFound AreEntriesNumbered (own_after floor (if_no_gate g o))
after_numbered floor (Some g) o h = tt
after_numbered floor None None h = tt
after_numbered floor None (Some es) h = own_free_numbered floor _ (own_part floor es) (each-take (length es - length floor) es h)

more_numbered : (clauses : List Clause) (levels : List Level) (o : Option (List Entry)) → AreLevelsNumbered levels
    → IfFound AreEntriesNumbered o → IfFound AreEntriesNumbered (if_any o (one_more clauses levels))
more_numbered clauses levels None v h = tt
more_numbered clauses levels (Some []) v h = tt
more_numbered clauses levels (Some (e ∷ es)) v h =
    let stack = (e ∷ es) ++ floor_of levels in
    after_numbered (floor_of levels) (gate_on clauses levels stack) (taken_alone clauses stack)
    (alone_numbered clauses stack (each-append IsEntryNumbered (e ∷ es) (floor_of levels) h (floor_numbered levels v)))

pub private_numbered : (clauses : List Clause) (levels : List Level) (e : Entry) (k : ℕ) → AreLevelsNumbered levels → IsEntryNumbered e
    → IfFound AreEntriesNumbered (private_run clauses levels e k)
unfolding private_run
private_numbered clauses levels e zero v h = own_free_numbered (floor_of levels) 1 (e ∷ []) (h, tt)
private_numbered clauses levels e (suc k) v h = more_numbered clauses levels (private_run clauses levels e k) v
    (private_numbered clauses levels e k v h)

-- its entries as nodes
pub alternatives_numbered : (hold : Hold) (es : List Entry) → AreEntriesNumbered es → AreNumbered (entry_alternatives hold es)
alternatives_numbered hold [] h = tt
alternatives_numbered hold (e ∷ es) h = (h.0, alternatives_numbered hold es h.1)

placed_status_numbered : (next : ℕ) (sizes : List ℕ) (es : List Entry) → AreEntriesNumbered es
    → IsNumberedStatus (placed_status next sizes es)
placed_status_numbered next [] [] h = tt
placed_status_numbered next [] (e ∷ es) h = h.0
placed_status_numbered next (size ∷ sizes) es h =
    let rest = length es - further size in (
      placed_status_numbered (suc next) sizes (take rest es) (each-take rest es h),
      alternatives_numbered (guard_hold (guard_kind (drop rest es))) (drop rest es) (each-drop IsEntryNumbered rest es h),
    )

pub nodes_numbered : (node : ℕ → ℕ) (es : List Entry) → AreEntriesNumbered es → AreEntriesNumbered (map (with_nodes node) es)
nodes_numbered node es h = each-map IsEntryNumbered IsEntryNumbered (with_nodes node) (λ e k. renamed_numbered _ _ e k) es h

pub placed_numbered : (next : ℕ) (sizes : List ℕ) (levels : List Level) (es : List Entry) → AreEntriesNumbered es
    → IsNumberedStatus (placed next sizes levels es)
placed_numbered next sizes levels es h = placed_status_numbered next sizes (map (with_nodes (placed_scope next sizes levels)) es)
    (nodes_numbered (placed_scope next sizes levels) es h)

-- what is taken at the front
abbrev pub IsTakenNumbered : Taken → Type 0
IsTakenNumbered (Continues es) = AreEntriesNumbered es
IsTakenNumbered (Raises es) = AreEntriesNumbered es
IsTakenNumbered Answered = Unit {0}
IsTakenNumbered (Halts k) = Unit {0}
IsTakenNumbered QueryEnds = Unit {0}

reply_at_front : (r : Reply) (f : Continuation ℕ) (es : List Entry) → IsReplyBelow f.next r → IsContinuationNumbered f
    → AreEntriesNumbered es → IsTakenNumbered (reply_taken r f es)
reply_at_front (Solutions ss) f es k n e = solutions-numbered (length es) f ss k n
reply_at_front (Ball b) f es k n e = landing-numbered b (first_mark f.items) es e
reply_at_front (HaltNumber m) f es k n e = tt

goal_front_numbered : (clauses : List Clause) (o : Outcome) (f : Continuation ℕ) (es : List Entry) (w : World)
    → IsOutcomeBelow f.next o → IsContinuationNumbered f → AreEntriesNumbered es → IsTakenNumbered (goal_at_front clauses o f es w).1
goal_front_numbered clauses (Replies r) f es w k n e = reply_at_front r f es k n e
goal_front_numbered clauses (Controls form) f es w k n e = tt
goal_front_numbered clauses (AskWorld g) f es w k n e = reply_at_front (world_step clauses g f.next w).1 f es
    (world-below clauses g f.next w k) n e

removal_front_numbered : (db : Option Database) (f : Continuation ℕ) (w : World) → IsContinuationNumbered f
    → IsTakenNumbered (removal_at_front db f w).1
removal_front_numbered None f w n = tt
removal_front_numbered (Some db) f w n = (n, tt)

item_front_numbered : (clauses : List Clause) (items : List (Item ℕ)) (f : Continuation ℕ) (es : List Entry) (w : World)
    → Each (AreItemTermsBelow f.next) items → Each (IsNamedBelow f.next) f.named → AreEntriesNumbered es
    → IsTakenNumbered (item_at_front clauses items f es w).1
item_front_numbered clauses [] f es w i n e = tt
item_front_numbered clauses (CatchMark s ∷ items) f es w i n e = tt
item_front_numbered clauses (CollectMark t s ∷ items) f es w i n e = tt
item_front_numbered clauses (GoalItem g s ∷ items) f es w i n e = goal_front_numbered clauses (outcome_of clauses g f.next)
    (with_items items f) es w (outcome-below clauses g f.next i.0) (record { items = i.1; named = n }) e
item_front_numbered clauses (RemovalItem k ∷ items) f es w i n e = removal_front_numbered (without_clause k w.database)
    (with_items items f) w (record { items = i.1; named = n })

pub front_numbered : (clauses : List Clause) (es : List Entry) (w : World) → AreEntriesNumbered es
    → IsTakenNumbered (taken_at_front clauses es w).1
front_numbered clauses [] w h = tt
front_numbered clauses (EndEntry b ∷ es) w h = tt
front_numbered clauses (CatchEntry c r f ∷ es) w h = tt
front_numbered clauses (FindallEntry results l f ∷ es) w h = tt
front_numbered clauses (PlainEntry f ∷ es) w h = item_front_numbered clauses (without_marks f.items) f es w
    (marks-numbered f.next f.items h.0.items) h.0.named h.1
