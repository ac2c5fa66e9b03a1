-- The state of the sequential machine, and one inference of it.
use Rattle.std.specs.Prelude.{ℕ, ◌+◌, List, [], ◌∷◌, Option, Some, None}
use Rattle.au_term.specs.Term.{Term}
use Rattle.au_model.specs.Writing.Lines.{answer_line, end_line}
use Rattle.run_model.specs.Programs.Clauses.{Clause}
use Rattle.run_model.specs.Programs.Databases.{Database, without_clause}
use Rattle.run_model.specs.Goals.Worlds.{World, writes, world_step}
use Rattle.run_model.specs.Goals.Outcomes.{Reply, Solutions, Ball, HaltNumber, Outcome, Replies, Controls, AskWorld}
use Rattle.run_model.specs.Goals.GoalOutcomes.{outcome_of}
use Rattle.run_model.specs.Machine.Items.{Item, GoalItem, CatchMark, CollectMark, RemovalItem, Continuation, with_items, goals_at}
use Rattle.run_model.specs.Machine.Entries.{Entry, PlainEntry, CatchEntry, FindallEntry, EndEntry}
use Rattle.run_model.specs.Machine.Heights.{after_reply, after_control}
use Rattle.run_model.specs.Machine.FreeSteps.{take_free_steps}
use Rattle.run_model.specs.Programs.Jobs.{Query, Job, own_terms, query_bound}
use Rattle.run_model.specs.Goals.Worlds.{first_world}

-- top entry first; the run has ended where no entry is left, and by which number where it was halted
pub record State : Type 0 where
  pub entries : List Entry
  pub world : World
  pub queries : List Query
  pub answers : ℕ
  pub inferences : ℕ
  pub halted : Option ℕ

-- the next query's goals on its end, a cut in them keeping the end alone; nothing where no query is left
abbrev pub opened : List Query → List Entry
opened [] = []
opened (q ∷ qs) = PlainEntry (record { items = goals_at 1 q.goals; named = own_terms q.names; next = query_bound q }) ∷ EndEntry None ∷ []

abbrev pub remaining_queries : List Query → List Query
remaining_queries [] = []
remaining_queries (q ∷ qs) = qs

-- one inference that leaves these entries
abbrev pub with_entries : List Entry → State → State
with_entries es st = record st { entries = es; inferences = st.inferences + 1 }

abbrev pub halt_number : Reply → Option ℕ
halt_number (Solutions ss) = None
halt_number (Ball b) = None
halt_number (HaltNumber k) = Some k

-- the world after a goal, and the goal's reply in its place
abbrev pub replied : World × Reply → Continuation ℕ → List Entry → State → State
replied r f es st = with_entries (after_reply r.1 f es) (record st { world = r.0; halted = halt_number r.1 })

abbrev pub goal_taken : List Clause → Outcome → ℕ → Continuation ℕ → List Entry → State → State
goal_taken clauses (Replies r) h f es st = replied (st.world, r) f es st
goal_taken clauses (Controls form) h f es st = with_entries (after_control form h f es) st
goal_taken clauses (AskWorld goal) h f es st = replied (world_step clauses goal f.next st.world) f es st

-- the clause is removed, or the goal fails where it is gone
abbrev pub removal_taken : Option Database → Continuation ℕ → List Entry → State → State
removal_taken (Some db) f es st = with_entries (PlainEntry f ∷ es) (record st { world = record st.world { database = db } })
removal_taken None f es st = with_entries es st

-- the answer's line is written
abbrev pub answered : Continuation ℕ → List Entry → State → State
answered f es st = with_entries es (record st { world = writes (answer_line st.world.operators f.named) st.world; answers = st.answers + 1 })

-- the line that ends a query is written, and the next query opens
abbrev pub query_ended : Option Term → State → State
query_ended ball st = with_entries (opened st.queries) (record st { world = writes (end_line st.world.operators ball) st.world; queries = remaining_queries st.queries })

abbrev pub item_taken : List Clause → List (Item ℕ) → Continuation ℕ → List Entry → State → State
item_taken clauses [] f es st = answered f es st
item_taken clauses (GoalItem g h ∷ items) f es st = goal_taken clauses (outcome_of clauses g f.next) h (with_items items f) es st
item_taken clauses (RemovalItem number ∷ items) f es st = removal_taken (without_clause number st.world.database) (with_items items f) es st
item_taken clauses (CatchMark h ∷ items) f es st = st
item_taken clauses (CollectMark t h ∷ items) f es st = st

-- by the top entry alone; an ended run stays, and where a free step is on top there is no inference to take
abbrev pub entry_taken : List Clause → List Entry → State → State
entry_taken clauses [] st = st
entry_taken clauses (PlainEntry f ∷ es) st = item_taken clauses f.items f es st
entry_taken clauses (EndEntry ball ∷ es) st = query_ended ball st
entry_taken clauses (CatchEntry c r f ∷ es) st = st
entry_taken clauses (FindallEntry results l f ∷ es) st = st

-- one inference
unfoldable pub step : List Clause → State → State
step clauses st = entry_taken clauses st.entries st

-- all free steps
abbrev pub with_free_steps : State → State
with_free_steps st = record st { entries = take_free_steps st.entries }

abbrev pub opening : Job → State
opening job = record { entries = opened job.queries; world = first_world job; queries = remaining_queries job.queries; answers = 0; inferences = 0; halted = None }
