-- A run so far, and how it ends.
use Rattle.std.proofs.Common.{◌≡◌, ◌≢◌, inl, inr, ℕ, zero, suc, ◌||◌, Vec, Global, ◌+◌, ◌-◌, ◌<◌, ◌≤◌, List, [], ◌∷◌, ◌++◌, length, Option, Some, None, true, false, refl, sym, ap, ◌∙◌, subst, append-nil, arith}
use Rattle.std.specs.Prelude.{Bool}
use Rattle.std.specs.Arc.{arc_value}
use Rattle.std.proofs.Math.Path.{fun_ext}
use Rattle.au_io.specs.FaultCounts.{Appended, AppendedPrefix}
use Rattle.au_model.specs.Terms.Named.{NamedTerm}
use Rattle.run_model.specs.declared.ending.RunEnding.{RunEnding}
use Rattle.run_model.specs.declared.ending.RunEnding.TheVariants.{Budget, WriteFault, NoMemory}
use Rattle.run_model.specs.declared.ending.RunEnd.{RunEnd}
use Rattle.run_model.specs.Programs.Clauses.{Clause, is_defined}
use Rattle.run_model.specs.Programs.Databases.{Database, without_clause}
use Rattle.run_model.specs.Programs.Jobs.{Job}
use Rattle.run_model.specs.Goals.Worlds.{is_reserved, static_among, world_step}
use Rattle.run_model.specs.Goals.Outcomes.{Reply, Solutions, Ball, HaltNumber, Outcome, Replies, Controls, AskWorld}
use Rattle.run_model.specs.Goals.GoalOutcomes.{outcome_of}
use Rattle.run_model.specs.Machine.Entries.{Entry, PlainEntry, CatchEntry, FindallEntry, EndEntry}
use Rattle.run_model.specs.Machine.FreeSteps.{take_free_steps}
use Rattle.run_model.specs.Machine.Heights.{after_reply}
use Rattle.run_model.specs.Machine.Items.{Item, GoalItem, CatchMark, CollectMark, RemovalItem, Continuation, with_items}
use Rattle.run_model.specs.Machine.States.{State, opened, remaining_queries, halt_number, goal_taken, removal_taken, item_taken, entry_taken, step, with_free_steps, opening}
use Rattle.run_model.specs.Machine.Runs.{seq, text_of, ending_by, answers_of}
use Rattle.run_model.proofs.RunLemmas.{ended_run_stays, text_grows, is_stopped}
use Rattle.run_model.proofs.StepLemmas.{seq-zero, seq-suc, seq-next}
use Rattle.text_load.specs.JobView.{AreStatics, HasParts}
use Rattle.text_load.specs.declared.job.JobParts.{JobParts}
use Rattle.dyn_clauses.specs.DatabaseView.{is_static}
use Rattle.effect_gate.specs.Effects.{statics_of, world_meant}
use Rattle.effect_gate.specs.declared.world.World.{World as KeptWorld}
use Rattle.region_split.specs.Regions.{RegionView}
use Rattle.region_run.specs.Runs.{run_on, stop_entries}
use Rattle.region_run.specs.declared.running.Ran.{Ran}
use Rattle.region_run.specs.declared.running.Stop.{Stop}
use Rattle.region_run.specs.declared.running.Stop.TheVariants as stop
use Rattle.stack_run.specs.declared.machine.Program.{Program}
use Rattle.stack_run.specs.declared.machine.Machine.{Machine}
use Rattle.stack_run.specs.declared.machine.Next.{Next}
use Rattle.stack_run.specs.MachineView.{clauses_in, own_asked, next_halt, next_state, stop_state, program_job, Begins, ComesTo, KeepsOthers, StopsAt, IsTakenNext, HasStatics, IsNextHeld, OpensNext, IsOneStep}
use Rattle.stack_run.specs.RunEnds.{IsRun, IsRunBy, IsWholeRun}
use Rattle.stack_run.specs.Pieces.{PutsOut, IsClosedWith, write_failed}
use Rattle.stack_run.proofs.WaitingLemmas.{all_in_front, all_out, front_of_more, front_out, nothing_out, put_more, waits}

-- a run that was halted has nothing left
abbrev IsEmptyIfHalted : Option ℕ → List Entry → Type 0
IsEmptyIfHalted None es = Unit {0}
IsEmptyIfHalted (Some k) es = es ≡ []

reply_empties : (r : Reply) (f : Continuation ℕ) (es : List Entry) → IsEmptyIfHalted (halt_number r) (after_reply r f es)
reply_empties (Solutions ss) f es = tt
reply_empties (Ball b) f es = tt
reply_empties (HaltNumber k) f es = refl

still_empty : (o : Option ℕ) (e : Entry) (es new : List Entry) → IsEmptyIfHalted o (e ∷ es) → IsEmptyIfHalted o new
still_empty None e es new h = tt
still_empty (Some k) e es new h = cc

goal_empties : (clauses : List Clause) (o : Outcome) (h : ℕ) (f : Continuation ℕ) (e : Entry) (es : List Entry) (st : State) → IsEmptyIfHalted st.halted (e ∷ es) → IsEmptyIfHalted (goal_taken clauses o h f es st).halted (goal_taken clauses o h f es st).entries
goal_empties clauses (Replies r) h f e es st k = reply_empties r f es
goal_empties clauses (Controls form) h f e es st k = still_empty st.halted e es _ k
goal_empties clauses (AskWorld goal) h f e es st k = reply_empties (world_step clauses goal f.next st.world).1 f es

removal_empties : (o : Option Database) (f : Continuation ℕ) (e : Entry) (es : List Entry) (st : State) → IsEmptyIfHalted st.halted (e ∷ es) → IsEmptyIfHalted (removal_taken o f es st).halted (removal_taken o f es st).entries
removal_empties (Some db) f e es st k = still_empty st.halted e es _ k
removal_empties None f e es st k = still_empty st.halted e es _ k

item_empties : (clauses : List Clause) (items : List (Item ℕ)) (f : Continuation ℕ) (e : Entry) (es : List Entry) (st : State) → st.entries ≡ e ∷ es → IsEmptyIfHalted st.halted (e ∷ es) → IsEmptyIfHalted (item_taken clauses items f es st).halted (item_taken clauses items f es st).entries
item_empties clauses [] f e es st s k = still_empty st.halted e es _ k
item_empties clauses (GoalItem g h ∷ items) f e es st s k = goal_empties clauses (outcome_of clauses g f.next) h (with_items items f) e es st k
item_empties clauses (RemovalItem n ∷ items) f e es st s k = removal_empties (without_clause n st.world.database) (with_items items f) e es st k
item_empties clauses (CatchMark h ∷ items) f e es st s k = still_empty st.halted e es _ k
item_empties clauses (CollectMark t h ∷ items) f e es st s k = still_empty st.halted e es _ k

entry_empties : (clauses : List Clause) (all : List Entry) (st : State) → st.entries ≡ all → IsEmptyIfHalted st.halted all → IsEmptyIfHalted (entry_taken clauses all st).halted (entry_taken clauses all st).entries
entry_empties clauses [] st s k = subst (IsEmptyIfHalted st.halted) (sym s) k
entry_empties clauses (PlainEntry f ∷ es) st s k = item_empties clauses f.items f (PlainEntry f) es st s k
entry_empties clauses (EndEntry b ∷ es) st s k = still_empty st.halted (EndEntry b) es _ k
entry_empties clauses (CatchEntry c r f ∷ es) st s k = still_empty st.halted (CatchEntry c r f) es _ k
entry_empties clauses (FindallEntry results l f ∷ es) st s k = still_empty st.halted (FindallEntry results l f) es _ k

free_empties : (o : Option ℕ) (es : List Entry) → IsEmptyIfHalted o es → IsEmptyIfHalted o (take_free_steps es)
free_empties None es h = tt
free_empties (Some k) es h = ap take_free_steps h

step_empties : (clauses : List Clause) (st : State) → IsEmptyIfHalted st.halted st.entries → IsEmptyIfHalted (step clauses st).halted (step clauses st).entries
unfolding step
step_empties clauses st h = entry_empties clauses st.entries st refl h

halts_empty : (job : Job) (n : ℕ) → IsEmptyIfHalted (seq job n).halted (seq job n).entries
halts_empty job zero = subst (λ (st : State). IsEmptyIfHalted st.halted st.entries) (sym (seq-zero job)) tt
halts_empty job (suc n) =
    let next = free_empties (step job.clauses (seq job n)).halted (step job.clauses (seq job n)).entries (step_empties job.clauses (seq job n) (halts_empty job n)) in
    subst (λ (st : State). IsEmptyIfHalted st.halted st.entries) (sym (seq-suc job n)) next

-- a front of what the run writes is out
front_of_run : (job : Job) (i budget : ℕ) (waiting : List ℕ) (before now after : Option (List ℕ)) → i ≤ budget → PutsOut before now (text_of job i) waiting → AppendedPrefix now after waiting → AppendedPrefix before after (text_of job budget)
front_of_run job i budget waiting before now after le h k =
    let more = text_grows job i (budget - i) in
    let sum : i + (budget - i) ≡ budget = omega arith in
    subst (AppendedPrefix before after) (sym (ap (text_of job) (sym sum) ∙ more.joined)) (front_of_more before after (text_of job i) more.rest (front_out before now after (text_of job i) waiting h k))

-- what has been put out of a run, and what it stands on
pub record IsOut (job : Job) (program : Program) (m : Machine) (taken : ℕ) (waiting : List ℕ) (before now : Option (List ℕ)) (faults_before faults_now : ℕ) : Type 0 where
  pub clauses : clauses_in program ≡ job.clauses
  pub empty : m.world.out.items ≡ []
  pub bytes : PutsOut before now (text_of job taken) waiting
  pub faults : faults_now ≡ faults_before
  pub text : m.region.text ≡ arc_value program.text
  pub statics : HasStatics m.region m.world

-- after so many inferences the run goes on so, and its text was put out but for what waits
pub record IsRunning (job : Job) (program : Program) (m : Machine) (next : Next) (taken : ℕ) (waiting : List ℕ) (before now : Option (List ℕ)) (faults_before faults_now : ℕ) : Type 0 where
  pub state : with_free_steps (next_state program m next (text_of job taken) taken) ≡ seq job taken
  pub out : IsOut job program m taken waiting before now faults_before faults_now
  pub there : IsNextHeld m.region next

-- after so many inferences its region has stopped so
pub record HasStopped (job : Job) (program : Program) (m : Machine) (halted : Option ℕ) (s : Stop) (taken : ℕ) (waiting : List ℕ) (before now : Option (List ℕ)) (faults_before faults_now : ℕ) : Type 0 where
  pub state : stop_state program m halted s (text_of job taken) taken ≡ seq job taken
  pub out : IsOut job program m taken waiting before now faults_before faults_now

-- the statics of a world by those of its database
pub statics_same : (old new : KeptWorld) → new.database.statics ≡ old.database.statics → statics_of new ≡ statics_of old
statics_same old new h = ap (λ l (name : List ℕ) (arity : ℕ). is_reserved name arity || is_static l (record { name = name; arity = arity })) h

pub statics_by : (r : RegionView) (job : Job) (w : KeptWorld) → r.text.clauses ≡ job.clauses → AreStatics w.database.statics job.clauses → HasStatics r w
statics_by r job w c h = fun_ext (λ name. fun_ext (λ arity. ap (λ b. is_reserved name arity || b) (h (record { name = name; arity = arity }) ∙ ap (λ cs. is_defined cs name arity) (sym c))))

pub begins_so : (program : Program) (r0 : RegionView) (w : KeptWorld) (new : Machine) (next : Next) → w.out.items ≡ [] → OpensNext program (record { region = r0; asked = 0; answers = 0; world = w }) new next → new.world ≡ w → IsNextHeld new.region next → new.region.text ≡ arc_value program.text → Begins program new next
begins_so program r0 w new next e o same there text =
    let qs = program.queries.items in
    let state : List ℕ → State = λ bs. record { entries = opened qs; world = record (world_meant w) { written = bs }; queries = remaining_queries qs; answers = 0; inferences = 0; halted = None } in
    record {
      state = o (λ named. []) [] 0 ∙ (ap state e ∙ ap (λ x. opening (program_job program (world_meant x))) (sym same));
      there = there;
      text = text;
      empty = ap (λ (x : KeptWorld). x.out.items) same ∙ e;
    }

pub begun : (program : Program) (m : Machine) (next : Next) (waiting : List ℕ) (out : Option (List ℕ)) (faults : ℕ) → waiting ≡ [] → Begins program m next → HasStatics m.region m.world → IsRunning (program_job program (world_meant m.world)) program m next 0 waiting out out faults faults
begun program m next waiting out faults e b k =
    let job = program_job program (world_meant m.world) in
    let first : seq job 0 ≡ with_free_steps (next_state program m next [] 0) = seq-zero job ∙ ap with_free_steps (sym b.state) in
    let text : text_of job 0 ≡ [] = ap (λ (st : State). st.world.written) first ∙ b.empty in
    record {
      state = ap (λ bytes. with_free_steps (next_state program m next bytes 0)) text ∙ sym first;
      out = record {
        clauses = refl;
        empty = b.empty;
        bytes = nothing_out out (text_of job 0) waiting (text ∙ sym e);
        faults = refl;
        text = b.text;
        statics = k;
      };
      there = b.there;
    }

-- so many inferences more
run_further : (job : Job) (n k : ℕ) → run_on job.clauses k (seq job n) ≡ seq job (n + k)
run_further job n zero = ap (seq job) (let z : n ≡ n + 0 = omega arith in z)
run_further job n (suc k) =
    ap (λ st. with_free_steps (step job.clauses st)) (run_further job n k) ∙ (sym (seq-next job (n + k)) ∙ ap (seq job) (let z : n + k + 1 ≡ n + suc k = omega arith in z))

pub comes_to : (job : Job) (program : Program) (m new : Machine) (next : Next) (taken limit : ℕ) (ran : Ran) (waiting : List ℕ) (before now : Option (List ℕ)) (fb fn : ℕ) → IsRunning job program m next taken waiting before now fb fn → ComesTo m new next limit ran → KeepsOthers m new
    → HasStopped job program new (next_halt next) ran.stop (taken + ran.taken) waiting before now fb fn
comes_to job program m new next taken limit ran waiting before now fb fn r h k =
    let o = r.out in
    let clauses : m.region.text.clauses ≡ job.clauses = ap (λ t. t.clauses) o.text ∙ o.clauses in
    let at : stop_state program new (next_halt next) ran.stop (text_of job taken) (taken + ran.taken) ≡ seq job (taken + ran.taken) =
    sym (h.run program (text_of job taken) taken)
    ∙ (ap (λ cs. run_on cs ran.taken (with_free_steps (next_state program m next (text_of job taken) taken))) clauses
    ∙ (ap (run_on job.clauses ran.taken) r.state ∙ run_further job taken ran.taken)) in
    let world : new.world ≡ m.world = ap (λ (x : Machine). x.world) k.0 in
    let none : new.world.out.items ≡ [] = ap (λ (w : KeptWorld). w.out.items) world ∙ o.empty in
    let same : text_of job taken ≡ text_of job (taken + ran.taken) =
    sym (append-nil (text_of job taken)) ∙ (ap (λ bs. text_of job taken ++ bs) (sym none) ∙ ap (λ (st : State). st.world.written) at) in
    record {
      state = ap (λ bytes. stop_state program new (next_halt next) ran.stop bytes (taken + ran.taken)) (sym same) ∙ at;
      out = record {
        clauses = o.clauses;
        empty = none;
        bytes = subst (λ bytes. PutsOut before now bytes waiting) same o.bytes;
        faults = o.faults;
        text = k.1 ∙ o.text;
        statics = statics_same m.world new.world (ap (λ (w : KeptWorld). w.database.statics) world) ∙ (o.statics ∙ ap (λ t. static_among t.clauses) (sym k.1));
      };
    }

-- what is put out does not change the state
abbrev pub put_out : Machine → Vec ℕ Global → Machine
put_out m out = record m { world = record m.world { out = out } }

seen_same : (program : Program) (m : Machine) (next : Next) (out : Vec ℕ Global) (written : List ℕ) (inferences : ℕ) → out.items ≡ [] → next_state program (put_out m out) next (written ++ m.world.out.items) inferences ≡ next_state program m next written inferences
seen_same program m next out written inferences e =
    ap (λ bs. (let st : State = record (next_state program m next written inferences) { world = record (world_meant m.world) { written = bs } } in st))
    (ap (λ bs. (written ++ m.world.out.items) ++ bs) e ∙ append-nil (written ++ m.world.out.items))

module _ (job : Job) (program : Program) (m new : Machine) (s : Stop) (next : Next) (i : ℕ) (waiting : List ℕ) (before now : Option (List ℕ)) (fb fn : ℕ) (h : HasStopped job program m None s i waiting before now fb fn) (k : IsOneStep program m s new next) where
  -- the state after one more inference
  next_is : with_free_steps (next_state program new next (text_of job i) (i + 1)) ≡ seq job (i + 1)
  next_is =
      ap with_free_steps (k (text_of job i) i)
      ∙ (ap (λ cs. with_free_steps (step cs (stop_state program m None s (text_of job i) i))) (ap (λ t. t.clauses) h.out.text ∙ h.out.clauses)
      ∙ (ap (λ st. with_free_steps (step job.clauses st)) h.state ∙ sym (seq-next job i)))

  next_text : text_of job i ++ new.world.out.items ≡ text_of job (i + 1)
  next_text = ap (λ (st : State). st.world.written) next_is

  waits_more : PutsOut before now (text_of job (i + 1)) (waiting ++ new.world.out.items)
  waits_more = subst (λ bytes. PutsOut before now bytes (waiting ++ new.world.out.items)) next_text (waits before now (text_of job i) waiting new.world.out.items h.out.bytes)

  pub goes_on : (out : Vec ℕ Global) (left : List ℕ) (after : Option (List ℕ)) (fa : ℕ) → IsNextHeld new.region next → new.region.text ≡ arc_value program.text → new.world.database.statics ≡ m.world.database.statics
      → PutsOut now after (waiting ++ new.world.out.items) left → fa ≡ fn → out.items ≡ [] → IsRunning job program (put_out new out) next (i + 1) left before after fb fa
  goes_on out left after fa y x z t f e = record {
    state = subst (λ bytes. with_free_steps (next_state program (put_out new out) next bytes (i + 1)) ≡ seq job (i + 1)) next_text (ap with_free_steps (seen_same program new next out (text_of job i) (i + 1) e) ∙ next_is);
    out = record {
      clauses = h.out.clauses;
      empty = e;
      bytes = put_more before now after (text_of job (i + 1)) (waiting ++ new.world.out.items) left waits_more t;
      faults = f ∙ h.out.faults;
      text = x;
      statics = statics_same m.world (put_out new out).world z ∙ (h.out.statics ∙ ap (λ t. static_among t.clauses) (h.out.text ∙ sym x));
    };
    there = y;
  }

  -- a write failed of what waited and what this inference has written
  pub unwritten_next : (budget : ℕ) (after : Option (List ℕ)) → i < budget → AppendedPrefix now after (waiting ++ new.world.out.items) → IsRun job budget before after write_failed
  unwritten_next budget after lt out = record { bytes = front_of_run job (i + 1) budget (waiting ++ new.world.out.items) before now after (omega arith) waits_more out; answers = refl; inferences = refl }

-- so few answers have been counted
pub few_answers : (job : Job) (program : Program) (m : Machine) (halted : Option ℕ) (s : Stop) (i : ℕ) (waiting : List ℕ) (before now : Option (List ℕ)) (fb fn : ℕ) → HasStopped job program m halted s i waiting before now fb fn → m.answers ≤ i
few_answers job program m halted s i waiting before now fb fn r =
    let k = is_stopped job i in
    let same : m.answers ≡ answers_of job i = ap (λ (st : State). st.answers) r.state in
    omega (arith, same, k.answered, k.within)

-- a run of which nothing is left
pub finished : (job : Job) (program : Program) (m : Machine) (halted : Option ℕ) (s : Stop) (i budget : ℕ) (waiting : List ℕ) (before now after : Option (List ℕ)) (fb fn : ℕ) (end : RunEnding) → HasStopped job program m halted s i waiting before now fb fn → i ≤ budget → s ≡ stop.AllDone
    → end ≡ ending_by [] halted → Appended now after waiting → IsRun job budget before after (record { end = end; answers = m.answers; inferences = i })
finished job program m halted s i budget waiting before now after fb fn end r le e is out =
    let none : (seq job i).entries ≡ [] = sym (ap (λ (st : State). st.entries) r.state) ∙ ap (stop_entries (own_asked m.asked program.queries.items) m.region) e in
    let sum : i + (budget - i) ≡ budget = omega arith in
    let same : seq job budget ≡ seq job i = ap (seq job) (sym sum) ∙ ended_run_stays job i (budget - i) none in
    let stays : (seq job i).halted ≡ halted = sym (ap (λ (st : State). st.halted) r.state) in
    let whole : IsWholeRun job budget before after (record { end = end; answers = m.answers; inferences = i }) = record {
      ended = is ∙ sym (ap (λ (st : State). ending_by st.entries st.halted) same ∙ (ap (λ es. ending_by es (seq job i).halted) none ∙ ap (ending_by []) stays));
      bytes = subst (λ (st : State). Appended before after st.world.written) (sym same) (all_out before now after (text_of job i) waiting r.out.bytes out);
      answers = ap (λ (st : State). st.answers) (r.state ∙ sym same);
      inferences = ap (λ (st : State). st.inferences) (r.state ∙ sym same);
    } in
    by halted is whole
  where
    by : (o : Option ℕ) → end ≡ ending_by [] o → IsWholeRun job budget before after (record { end = end; answers = m.answers; inferences = i }) → IsRun job budget before after (record { end = end; answers = m.answers; inferences = i })
    by None x h = subst (λ x. IsRunBy x job budget before after (record { end = end; answers = m.answers; inferences = i })) (sym x) h
    by (Some k) x h = subst (λ x. IsRunBy x job budget before after (record { end = end; answers = m.answers; inferences = i })) (sym x) h

-- that is no failed write
pub no_fault : (o : Option ℕ) → ending_by [] o ≢ WriteFault
no_fault None h = cc
no_fault (Some k) h = cc

-- where a region stops with something left
abbrev pub IsLeft : Stop → Type 0
IsLeft (stop.Limit item g) = Unit {0}
IsLeft (stop.World item g) = Unit {0}
IsLeft (stop.Removal number after) = Unit {0}
IsLeft (stop.Answer p) = Unit {0}
IsLeft (stop.QueryDone ball) = Unit {0}
IsLeft stop.AllDone = ⊥

pub is_left : (s : Stop) → (s ≡ stop.AllDone → ⊥) → IsLeft s
is_left (stop.Limit item g) h = tt
is_left (stop.World item g) h = tt
is_left (stop.Removal number after) h = tt
is_left (stop.Answer p) h = tt
is_left (stop.QueryDone ball) h = tt
is_left stop.AllDone h = h refl

some_entries : (named : List NamedTerm) (r : RegionView) (s : Stop) → IsLeft s → 0 < length (stop_entries named r s)
some_entries named r (stop.Limit item g) h = omega arith
some_entries named r (stop.World item g) h = omega arith
some_entries named r (stop.Removal number after) h = omega arith
some_entries named r (stop.Answer p) h = omega arith
some_entries named r (stop.QueryDone None) h = omega arith
some_entries named r (stop.QueryDone (Some ball)) h = omega arith
some_entries named r stop.AllDone h = absurd h

budget_by : (es : List Entry) (halted : Option ℕ) → 0 < length es → ending_by es halted ≡ Budget
budget_by [] halted lt = absurd (omega arith)
budget_by (e ∷ es) halted lt = refl

module _ (job : Job) (program : Program) (m : Machine) (halted : Option ℕ) (s : Stop) (i : ℕ) (waiting : List ℕ) (before now : Option (List ℕ)) (fb fn : ℕ) (r : HasStopped job program m halted s i waiting before now fb fn) where
  abbrev entries_now : List Entry
  entries_now = stop_entries (own_asked m.asked program.queries.items) m.region s

  same_entries : (seq job i).entries ≡ entries_now
  same_entries = sym (ap (λ (st : State). st.entries) r.state)

  -- where something is left, nothing has halted
  pub not_halted : IsLeft s → halted ≡ None
  not_halted left =
      let many = some_entries (own_asked m.asked program.queries.items) m.region s left in
      ap (λ (st : State). st.halted) r.state ∙ by (seq job i).halted (halts_empty job i) (omega (arith, many, ap length same_entries))
    where
      by : (o : Option ℕ) → IsEmptyIfHalted o (seq job i).entries → 0 < length (seq job i).entries → o ≡ None
      by None h lt = refl
      by (Some k) h lt = absurd (omega (arith, ap length h))

  -- the budget is used up
  pub stopped : (budget : ℕ) (after : Option (List ℕ)) → IsLeft s → i ≡ budget → Appended now after waiting → IsRun job budget before after (record { end = Budget; answers = m.answers; inferences = budget })
  stopped budget after left e out = subst (λ n. IsRun job n before after (record { end = Budget; answers = m.answers; inferences = n })) e here
    where
      here : IsRun job i before after (record { end = Budget; answers = m.answers; inferences = i })
      here = record {
        ended = sym (ap (λ es. ending_by es (seq job i).halted) same_entries ∙ budget_by entries_now (seq job i).halted (some_entries (own_asked m.asked program.queries.items) m.region s left));
        bytes = all_out before now after (text_of job i) waiting r.out.bytes out;
        answers = ap (λ (st : State). st.answers) r.state;
        inferences = ap (λ (st : State). st.inferences) r.state;
      }

-- nothing is written before the run begins
pub not_begun : (job : Job) (budget : ℕ) (out : Option (List ℕ)) → IsRun job budget out out (record { end = NoMemory; answers = 0; inferences = 0 })
not_begun job budget out = record { bytes = none out; answers = refl; inferences = refl }
  where
    none : (o : Option (List ℕ)) → AppendedPrefix o o (text_of job budget)
    none None = tt
    none (Some old) = (0, ap Some (sym (append-nil old)))

-- a run that is cut short after so many inferences: what waited is out, or a write of it failed
module _ (job : Job) (program : Program) (m : Machine) (i budget : ℕ) (waiting : List ℕ) (before now after : Option (List ℕ)) (fb fn : ℕ) (r : IsOut job program m i waiting before now fb fn) (le : i ≤ budget) where
  pub cut_short : Appended now after waiting → IsRun job budget before after (record { end = NoMemory; answers = 0; inferences = 0 })
  cut_short out = record {
    bytes = front_of_run job i budget waiting before now after le r.bytes (all_in_front now after waiting out);
    answers = refl;
    inferences = refl;
  }

  pub unwritten : AppendedPrefix now after waiting → IsRun job budget before after write_failed
  unwritten out = record { bytes = front_of_run job i budget waiting before now after le r.bytes out; answers = refl; inferences = refl }

-- a run that was to end so has put out what waited, or a write failed
pub closed : (job : Job) (budget : ℕ) (waiting : List ℕ) (before now after : Option (List ℕ)) (end r : RunEnd) → IsClosedWith waiting now after end r → (Appended now after waiting → IsRun job budget before after end)
    → (AppendedPrefix now after waiting → IsRun job budget before after write_failed) → IsRun job budget before after r
closed job budget waiting before now after end r (inl h) whole cut = subst (IsRun job budget before after) (sym h.0) (whole h.1)
closed job budget waiting before now after end r (inr h) whole cut = subst (IsRun job budget before after) (sym h.0) (cut h.1)

-- what comes next below the budget is taken by the run
pub taken_next : (r : RegionView) (limit : ℕ) (ran : Ran) (s : Stop) → StopsAt r limit ran s → ran.taken < limit → IsLeft s → IsTakenNext r s
taken_next r limit ran (stop.Limit item g) h lt left = absurd (omega (arith, h))
taken_next r limit ran (stop.World item g) h lt left = h
taken_next r limit ran (stop.Removal number after) h lt left = h
taken_next r limit ran (stop.Answer p) h lt left = h
taken_next r limit ran (stop.QueryDone ball) h lt left = tt
taken_next r limit ran stop.AllDone h lt left = absurd left

-- the parts of a job make it again
pub parts_job : (job : Job) (parts : JobParts) (program : Program) (w : KeptWorld) → HasParts job parts → clauses_in program ≡ job.clauses → program.queries.items ≡ parts.queries.items → w.database.kept ≡ parts.database.kept → w.ops ≡ parts.ops → program_job program (world_meant w) ≡ job
parts_job job parts program w h c q d o = rw (c, q ∙ h.queries, d ∙ h.database, o ∙ h.operators) refl
