-- What a run stands for: states of the sequential machine.
use Rattle.std.specs.Prelude.{◌≡◌, ◌+◌, ◌≤◌, ◌++◌, ℕ, zero, suc, List, [], ◌∷◌, length, drop, map, Option, Some, None}
use Rattle.std.specs.Arc.{arc_value}
use Rattle.au_term.specs.Term.{Term, VarTerm}
use Rattle.au_model.specs.Terms.Substitutions.{resolve}
use Rattle.au_model.specs.Terms.Named.{NamedTerm, NamedVariable}
use Rattle.au_model.specs.declared.types.VarName.{VarName}
use Rattle.run_model.specs.Programs.Clauses.{Clause}
use Rattle.run_model.specs.Programs.Jobs.{Query, Job, own_terms}
use Rattle.run_model.specs.Goals.Worlds.{World, static_among}
use Rattle.run_model.specs.Machine.Entries.{Entry, EndEntry}
use Rattle.run_model.specs.Machine.States.{State, opened, opening, remaining_queries, with_free_steps, step}
use Rattle.cell_store.specs.StoreView.{StoreView, substitution}
use Rattle.region_split.specs.Regions.{RegionView, entries_of, position_entry, IsPositionIn}
use Rattle.region_split.specs.ClauseTrials.{entries_at, IsOptionalPosition}
use Rattle.region_split.specs.Texts.{TextView}
use Rattle.region_split.specs.declared.frame.Position.{Position}
use Rattle.region_control.specs.Ahead.{IsNothingLeft}
use Rattle.region_control.specs.declared.replies.AfterGoal.{AfterGoal}
use Rattle.region_control.specs.declared.replies.AfterGoal.TheVariants.{At, Failed, Uncaught as UncaughtBall, AsksWorld}
use Rattle.region_run.specs.Runs.{run_on, stop_entries, AsksWorldNext, IsStop}
use Rattle.region_run.specs.declared.running.Ran.{Ran}
use Rattle.region_run.specs.declared.running.Stop.{Stop}
use Rattle.region_run.specs.declared.running.Stop.TheVariants as stop
use Rattle.effect_gate.specs.Effects.{statics_of, world_meant}
use Rattle.effect_gate.specs.declared.world.World.{World as KeptWorld}
use Rattle.stack_run.specs.declared.machine.Machine.{Machine}
use Rattle.stack_run.specs.declared.machine.Next.{Next}
use Rattle.stack_run.specs.declared.machine.Next.TheVariants.{Runs, Uncaught, Over}
use Rattle.stack_run.specs.declared.machine.Program.{Program}

-- the names of the query that was asked last, where so many were asked
abbrev pub names_asked : ℕ → List Query → List NamedVariable
names_asked zero qs = []
names_asked (suc n) [] = []
names_asked (suc zero) (q ∷ qs) = q.names
names_asked (suc (suc n)) (q ∷ qs) = names_asked (suc n) qs

-- what they stand for to begin with
abbrev pub own_asked : ℕ → List Query → List NamedTerm
own_asked asked qs = own_terms (names_asked asked qs)

-- the world after these bytes were put out
abbrev pub with_front : List ℕ → World → World
with_front bytes w = record w { written = bytes ++ w.written }

-- the text's clauses
abbrev pub clauses_in : Program → List Clause
clauses_in program = (arc_value program.text).clauses

-- the entries with which a region goes on
abbrev pub next_entries : List NamedTerm → RegionView → Next → List Entry
next_entries named r (Runs start) = entries_at named r start ++ entries_of named r
next_entries named r (Uncaught ball) = EndEntry (Some ball) ∷ []
next_entries named r (Over halted) = []

-- the status by which a run was halted
abbrev pub next_halt : Next → Option ℕ
next_halt (Runs start) = None
next_halt (Uncaught ball) = None
next_halt (Over halted) = halted

abbrev pub IsNextHeld : RegionView → Next → Type 0
IsNextHeld r (Runs start) = IsOptionalPosition r (length r.choices) start
IsNextHeld r (Uncaught ball) = Unit {0}
IsNextHeld r (Over halted) = Unit {0}

-- the state of a run that has put out these bytes, after so many inferences, with these entries
abbrev pub run_state : Program → Machine → (List NamedTerm → List Entry) → Option ℕ → List ℕ → ℕ → State
run_state program m entries halted written inferences = record {
  entries = entries (own_asked m.asked program.queries.items);
  world = with_front written (world_meant m.world);
  queries = drop m.asked program.queries.items;
  answers = m.answers;
  inferences = inferences;
  halted = halted;
}

-- where it is to go on so, and where its region has stopped
abbrev pub next_state : Program → Machine → Next → List ℕ → ℕ → State
next_state program m next written inferences = run_state program m (λ named. next_entries named m.region next) (next_halt next) written inferences

abbrev pub stop_state : Program → Machine → Option ℕ → Stop → List ℕ → ℕ → State
stop_state program m halted s written inferences = run_state program m (λ named. stop_entries named m.region s) halted written inferences

-- the region alone has changed
abbrev pub KeepsOthers : Machine → Machine → Type 0
KeepsOthers old new = (new ≡ record old { region = new.region }) × (new.region.text ≡ old.region.text)

-- what comes next is taken by the run, one inference each
abbrev pub IsTakenNext : RegionView → Stop → Type 0
IsTakenNext r (stop.Limit item g) = ⊥
IsTakenNext r (stop.World item g) = AsksWorldNext r item g
IsTakenNext r (stop.Removal number after) = IsPositionIn r after
IsTakenNext r (stop.Answer p) = IsNothingLeft r p
IsTakenNext r (stop.QueryDone ball) = Unit {0}
IsTakenNext r stop.AllDone = ⊥

-- where the region stopped: at the limit, at what the run takes, or where nothing is left
abbrev pub StopsAt : RegionView → ℕ → Ran → Stop → Type 0
StopsAt r limit ran (stop.Limit item g) = ran.taken ≡ limit
StopsAt r limit ran (stop.World item g) = IsTakenNext r (stop.World item g)
StopsAt r limit ran (stop.Removal number after) = IsTakenNext r (stop.Removal number after)
StopsAt r limit ran (stop.Answer p) = IsTakenNext r (stop.Answer p)
StopsAt r limit ran (stop.QueryDone ball) = Unit {0}
StopsAt r limit ran stop.AllDone = Unit {0}

-- the inferences of the region, whatever was put out and inferred before
pub record ComesTo (old new : Machine) (next : Next) (limit : ℕ) (ran : Ran) : Type 0 where
  pub run : (program : Program) (written : List ℕ) (inferences : ℕ)
      → run_on old.region.text.clauses ran.taken (with_free_steps (next_state program old next written inferences)) ≡ stop_state program new (next_halt next) ran.stop written (inferences + ran.taken)
  pub within : ran.taken ≤ limit
  pub stops : StopsAt new.region limit ran ran.stop

-- the static procedures of a world are those of a region's text
abbrev pub HasStatics : RegionView → KeptWorld → Type 0
HasStatics r w = statics_of w ≡ static_among r.text.clauses

-- one inference where a region has stopped, whatever was put out and inferred before
abbrev pub IsOneStep : Program → Machine → Stop → Machine → Next → Type 0
IsOneStep program old s new next =
    (written : List ℕ) (inferences : ℕ) → next_state program new next written (inferences + 1) ≡ step old.region.text.clauses (stop_state program old None s written inferences)

-- what a query's variable stands for
abbrev pub value_in : StoreView → VarName → Term
value_in st v = resolve (substitution st) (VarTerm v.number)

-- the next query in place of what is left of the last one
abbrev pub opened_state : State → State
opened_state st = record st { entries = opened st.queries; queries = remaining_queries st.queries }

-- a query is opened, or none is left
abbrev pub OpensNext : Program → Machine → Machine → Next → Type 0
OpensNext program old new next =
    (entries : List NamedTerm → List Entry) (written : List ℕ) (inferences : ℕ) → next_state program new next written inferences ≡ opened_state (run_state program old entries None written inferences)

-- the job of a program that begins in this world
abbrev pub program_job : Program → World → Job
program_job program w = record { clauses = clauses_in program; database = w.database; operators = w.operators; queries = program.queries.items }

-- a run before its first inference
pub record Begins (program : Program) (m : Machine) (next : Next) : Type 0 where
  pub state : next_state program m next [] 0 ≡ opening (program_job program (world_meant m.world))
  pub there : IsNextHeld m.region next
  pub text : m.region.text ≡ arc_value program.text
  pub empty : m.world.out.items ≡ []

-- a query begins in a region at a position
pub record OpensQuery (text : TextView) (q : Query) (r : RegionView) (p : Position) : Type 0 where
  pub entries : position_entry (own_terms q.names) r p ∷ entries_of (own_terms q.names) r ≡ opened (q ∷ [])
  pub position : IsPositionIn r p
  pub of_text : r.text ≡ text

-- what a goal of the world leaves a region with
abbrev pub AsksNoWorld : AfterGoal → Type 0
AsksNoWorld (At p) = Unit {0}
AsksNoWorld Failed = Unit {0}
AsksNoWorld (UncaughtBall ball) = Unit {0}
AsksNoWorld AsksWorld = ⊥

abbrev pub next_after : AfterGoal → Next
next_after (At p) = Runs (Some p)
next_after Failed = Runs None
next_after (UncaughtBall ball) = Uncaught ball.value
next_after AsksWorld = Runs None
