-- What a worker may not do by itself.
use Rattle.std.specs.Prelude.{ℕ, suc, Bool, false, nat_le, cond, List, [], ◌∷◌, Option, Some, None, length, nat_lt}
use Rattle.run_model.specs.Programs.Clauses.{Clause}
use Rattle.run_model.specs.Goals.Outcomes.{Reply, Solutions, Ball, HaltNumber, ControlForm, GoesOnWith, EitherOf, TestOf, CutToScope}
use Rattle.run_model.specs.Goals.Outcomes.{CatchOf}
use Rattle.run_model.specs.Goals.Outcomes.{FindallOf, Outcome, Replies, Controls, AskWorld}
use Rattle.run_model.specs.Machine.Items.{Item, GoalItem, CatchMark, CollectMark, RemovalItem, Continuation, with_items, without_marks}
use Rattle.run_model.specs.Machine.Items.{first_mark}
use Rattle.run_model.specs.Machine.Entries.{Entry, PlainEntry, CatchEntry, FindallEntry, EndEntry}
use Rattle.run_model.specs.Machine.Balls.{unwound}
use Rattle.run_model.specs.Goals.GoalOutcomes.{outcome_of}
use Rattle.tree_model.specs.Nodes.{Gate, CutGate, BallGate, WorldGate, FrozenGate}
use Rattle.tree_model.specs.Levels.{Level}
use Rattle.tree_model.specs.Floors.{node_of, query_node}

-- the scope of a ball that leaves this of a stack: the catch node that takes it, or the innermost query's node
abbrev pub ball_scope : List Level → List Entry → ℕ
ball_scope levels (PlainEntry f ∷ es) = node_of levels (suc (length es))
ball_scope levels es = query_node levels

-- whether it lands at one of the own entries
abbrev pub is_caught_above : List Level → List Entry → Bool
is_caught_above levels (PlainEntry f ∷ es) = nat_le (length levels) (length es)
is_caught_above levels es = false

-- a ball is one where it lands in the floor
abbrev pub ball_gate : List Level → List Entry → Option Gate
ball_gate levels es = cond (is_caught_above levels es) None (Some (BallGate (ball_scope levels es)))

-- a cut is one where its scope is a node, the alternative's own excepted
abbrev pub control_gate : List Level → ControlForm → ℕ → Option Gate
control_gate levels CutToScope h = cond (nat_lt h (length levels)) (Some (CutGate (node_of levels h))) None
control_gate levels (GoesOnWith gs) h = None
control_gate levels (EitherOf gs others) h = None
control_gate levels (TestOf condition thens others) h = None
control_gate levels (CatchOf goal catcher recovery) h = None
control_gate levels (FindallOf template goal list) h = None

abbrev pub reply_gate : List Level → Reply → Continuation ℕ → List Entry → Option Gate
reply_gate levels (Solutions ss) f es = None
reply_gate levels (Ball b) f es = ball_gate levels (unwound b (first_mark f.items) es)
reply_gate levels (HaltNumber k) f es = Some WorldGate

abbrev pub goal_gate : List Level → Outcome → ℕ → Continuation ℕ → List Entry → Option Gate
goal_gate levels (Replies r) h f es = reply_gate levels r f es
goal_gate levels (Controls form) h f es = control_gate levels form h
goal_gate levels (AskWorld goal) h f es = Some WorldGate

-- by what is after the catch marks in front: an answer is a gate
abbrev pub item_gate : List Clause → List Level → List (Item ℕ) → Continuation ℕ → List Entry → Option Gate
item_gate clauses levels [] f es = Some WorldGate
item_gate clauses levels (GoalItem g h ∷ items) f es = goal_gate levels (outcome_of clauses g f.next) h (with_items items f) es
item_gate clauses levels (RemovalItem number ∷ items) f es = Some WorldGate
item_gate clauses levels (CatchMark h ∷ items) f es = None
item_gate clauses levels (CollectMark t h ∷ items) f es = None

-- the gate at the top of a stack over the floor of these levels
abbrev pub gate_on : List Clause → List Level → List Entry → Option Gate
gate_on clauses levels (PlainEntry f ∷ es) = item_gate clauses levels (without_marks f.items) f es
gate_on clauses levels (EndEntry b ∷ es) = Some WorldGate
gate_on clauses levels (CatchEntry c r f ∷ es) = None
gate_on clauses levels (FindallEntry results l f ∷ es) = None
gate_on clauses levels [] = None

-- the node below which all to the left must have closed; none where it is the whole tree
abbrev pub scope_of : Gate → Option ℕ
scope_of (CutGate n) = Some n
scope_of (BallGate n) = Some n
scope_of WorldGate = None
scope_of FrozenGate = None
