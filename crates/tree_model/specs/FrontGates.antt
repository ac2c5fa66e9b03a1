-- What becomes of the leftmost pending alternative where its world goal, answer or end is taken.
use Rattle.std.specs.Prelude.{ℕ, List, [], ◌∷◌, Option, Some, None, length}
use Rattle.run_model.specs.Programs.Clauses.{Clause}
use Rattle.run_model.specs.Programs.Databases.{Database, without_clause}
use Rattle.run_model.specs.Goals.Worlds.{World, world_step, writes}
use Rattle.run_model.specs.Goals.Outcomes.{Reply, Solutions, Ball, HaltNumber, Outcome, Replies, Controls, AskWorld}
use Rattle.run_model.specs.Goals.GoalOutcomes.{outcome_of}
use Rattle.au_model.specs.Writing.Lines.{answer_line, end_line}
use Rattle.run_model.specs.Machine.Items.{Item, GoalItem, CatchMark, CollectMark, RemovalItem, Continuation, with_items, without_marks}
use Rattle.run_model.specs.Machine.Items.{first_mark}
use Rattle.run_model.specs.Machine.Entries.{Entry, PlainEntry, CatchEntry, FindallEntry, EndEntry, solution_entries}
use Rattle.run_model.specs.Machine.Balls.{unwound}

pub data Taken : Type 0 where
  -- these entries are left in its place
  Continues : List Entry → Taken
  -- its answer has been written
  Answered : Taken
  -- a ball: what it leaves of the stack
  Raises : List Entry → Taken
  Halts : ℕ → Taken
  -- the end of its query has been written
  QueryEnds : Taken

abbrev pub reply_taken : Reply → Continuation ℕ → List Entry → Taken
reply_taken (Solutions ss) f es = Continues (solution_entries (length es) f ss)
reply_taken (Ball b) f es = Raises (unwound b (first_mark f.items) es)
reply_taken (HaltNumber k) f es = Halts k

abbrev pub world_taken : World × Reply → Continuation ℕ → List Entry → World × Taken
world_taken r f es = (r.0, reply_taken r.1 f es)

abbrev pub goal_at_front : List Clause → Outcome → Continuation ℕ → List Entry → World → World × Taken
goal_at_front clauses (AskWorld goal) f es w = world_taken (world_step clauses goal f.next w) f es
goal_at_front clauses (Replies r) f es w = (w, reply_taken r f es)
goal_at_front clauses (Controls form) f es w = (w, Continues [])

abbrev pub removal_at_front : Option Database → Continuation ℕ → World → World × Taken
removal_at_front (Some db) f w = (record w { database = db }, Continues (PlainEntry f ∷ []))
removal_at_front None f w = (w, Continues [])

abbrev pub item_at_front : List Clause → List (Item ℕ) → Continuation ℕ → List Entry → World → World × Taken
item_at_front clauses [] f es w = (writes (answer_line w.operators f.named) w, Answered)
item_at_front clauses (GoalItem g h ∷ items) f es w = goal_at_front clauses (outcome_of clauses g f.next) (with_items items f) es w
item_at_front clauses (RemovalItem number ∷ items) f es w = removal_at_front (without_clause number w.database) (with_items items f) w
item_at_front clauses (CatchMark h ∷ items) f es w = (w, Continues [])
item_at_front clauses (CollectMark t h ∷ items) f es w = (w, Continues [])

-- one inference of the sequential machine at the top of a stack
abbrev pub taken_at_front : List Clause → List Entry → World → World × Taken
taken_at_front clauses (PlainEntry f ∷ es) w = item_at_front clauses (without_marks f.items) f es w
taken_at_front clauses (EndEntry b ∷ es) w = (writes (end_line w.operators b) w, QueryEnds)
taken_at_front clauses (CatchEntry c r f ∷ es) w = (w, Continues [])
taken_at_front clauses (FindallEntry results l f ∷ es) w = (w, Continues [])
taken_at_front clauses [] w = (w, Continues [])
