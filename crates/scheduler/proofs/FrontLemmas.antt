-- What is taken at the front of an alternative that is out.
use Rattle.std.proofs.Common.{◌≡◌, ◌⊎◌, inl, inr, ℕ, Bool, true, false, cond, List, [], ◌∷◌, map, length, Option, Some, refl, sym, ap, ap₂, ◌∙◌, subst}
use Rattle.std.specs.Prelude.{◌&&◌, not, is_none, is_some}
use Rattle.au_term.specs.Term.{Term}
use Rattle.au_term.proofs.LogicLemmas.{and-false}
use Rattle.task_region.specs.TaskLoads.{run_on_branch}
use Rattle.branch_reading.specs.Readings.{named_of, query_on, reading}
use Rattle.branch_shapes.proofs.OutLemmas.{IsOutAt, out_at, spot_out}
use Rattle.effect_gate.specs.Effects.{world_meant}
use Rattle.effect_gate.specs.declared.world.World.{World as KeptWorld}
use Rattle.interleaving.proofs.UnchangedPlaceLemmas.{place_self}
use Rattle.public_tree.specs.PublicTrees.{is_going}
use Rattle.public_tree.specs.declared.answering.Answering.{Answering}
use Rattle.public_tree.specs.declared.answering.Answering.TheVariants as answering
use Rattle.query_laws.specs.QueriesCounted.{EndsOpenQueries, TakesEnd}
use Rattle.region_floor.specs.BareFloors.{AreOwn}
use Rattle.region_floor.specs.Deferred.{Deferred, joined_entry}
use Rattle.region_floor.specs.RegionRuns.{StandsAtGate}
use Rattle.region_control.specs.declared.control.GoalPlace.{GoalPlace}
use Rattle.region_split.specs.declared.frame.FrameItem.{FrameItem}
use Rattle.run_model.specs.Goals.Worlds.{World as WorldTerms}
use Rattle.run_model.specs.Machine.Entries.{Entry, PlainEntry, CatchEntry, FindallEntry, EndEntry}
use Rattle.run_model.specs.Programs.Clauses.{Clause}
use Rattle.run_model.specs.Programs.Jobs.{Job}
use Rattle.task_region.specs.TaskStops.{StopsTask}
use Rattle.task_region.specs.TaskViews.{TaskView}
use Rattle.task_region.specs.declared.running.TaskStop.{TaskStop}
use Rattle.task_region.specs.declared.running.TaskStop.TheVariants.{World, Removal, Answer}
use Rattle.scheduler.specs.FrontTurns.{EndsStep, FailsStep, IsOutStill, IsStepOpen, IsTaskAtWorld}
use Rattle.scheduler.specs.GivenBack.{IsGivenBackOnce}
use Rattle.scheduler.specs.JobRuns.{IsJobRun}
use Rattle.scheduler.specs.declared.job_run.JobRun.{JobRun}
use Rattle.scheduler.proofs.BackLemmas.{legal_where}
use Rattle.scheduler.proofs.EventLemmas.{noted_same, state_after}
use Rattle.scheduler.proofs.RunLemmas.{run_moved}
use Rattle.task_world.proofs.EventLemmas.{legal}
use Rattle.task_world.specs.FrontSteps.{ComesAbout, IsWorldAfter, MayClose, front_event}
use Rattle.task_world.specs.FrontsTold.{StopsAtOnce}
use Rattle.task_world.specs.declared.step.FrontStep.{FrontStep}
use Rattle.task_world.specs.declared.step.FrontStep.TheVariants.{Done, Closes}
use Rattle.tree_core.specs.Histories.{History, TreeView, NodesStand, state_of, with_event}
use Rattle.tree_core.specs.Turns.{answering_of, where_legal}
use Rattle.tree_model.specs.Effects.{after_event}
use Rattle.tree_model.specs.Events.{Event, Suspend}
use Rattle.tree_model.specs.Floors.{floor_of, with_heights}
use Rattle.tree_model.specs.LegalTrees.{IsLegalTree}
use Rattle.tree_model.specs.Legality.{is_allowed, is_legal, taken_at}
use Rattle.tree_model.specs.Levels.{Level, Place, Spot, levels_of}
use Rattle.tree_model.specs.Nodes.{Gate, Pending, WorldGate}
use Rattle.tree_model.specs.PrivateRuns.{own_at_rest, private_run}
use Rattle.tree_model.specs.TreeStates.{TreeState, ended}
use Rattle.public_tree.specs.PublicTrees.{IsItsGate}

-- a run that stands at a gate did not start at the end of a query
module _ (clauses : List Clause) (levels : List Level) (d : Deferred) (b : Option Term) where
  none_own : (own : List Entry) → AreOwn (length levels) own → EndEntry b ∷ [] ≡ map (joined_entry d) own → ⊥
  none_own [] h e = cc
  none_own (PlainEntry f ∷ es) h e = cc
  none_own (CatchEntry c r f ∷ es) h e = cc
  none_own (FindallEntry results l f ∷ es) h e = cc
  none_own (EndEntry o ∷ es) h e = h.0

  ends_at_no_gate : (e : Entry) (stack : List Entry) (gate : Gate) → e ≡ EndEntry b
      → StandsAtGate (record { clauses = clauses; levels = levels; entry = with_heights levels e; deferred = d }) 0 stack gate → ⊥
  unfolding private_run
  ends_at_no_gate e stack gate is st =
      let runs : Some (own_at_rest (floor_of levels) (with_heights levels e ∷ [])) ≡ Some (map (joined_entry d) st.own) = st.run in
      let both : own_at_rest (floor_of levels) (with_heights levels e ∷ []) ≡ map (joined_entry d) st.own = cc runs in
      none_own st.own st.are_own (ap (λ (x : Entry). own_at_rest (floor_of levels) (with_heights levels x ∷ [])) (sym is) ∙ both)

-- so the alternative of a task that needs the world next is no end
module _ (v : TreeView) (w : ℕ) (a : Place) (clauses : List Clause) (task : TaskView) (stand : NodesStand v) (gate : IsItsGate WorldGate w a (state_of v.history)) where
  abbrev t : TreeState
  t = state_of v.history

  abbrev job : Job
  job = v.history.job

  module _ (s : Spot) (taken : taken_at w a t ≡ Some s) where
    there : IsOutAt job v.nodes t w a s
    there = out_at job v.nodes t w a s stand.placed taken

    stopped : (stop : TaskStop) → StopsAtOnce v.nodes a clauses task stop
        → StopsTask (run_on_branch clauses (levels_of s) job there.way) 0 (named_of (query_on job there.way)) task stop
    stopped stop stops = stops job (reading job) s.level s.above (Pending s.hold s.entry) there.way there.at there.table there.on

    no_end : (ball : Option Term) → s.entry ≡ EndEntry ball → (stack : List Entry)
        → StandsAtGate (run_on_branch clauses (levels_of s) job there.way) 0 stack WorldGate → ⊥
    no_end ball ends stack st =
        ends_at_no_gate clauses (levels_of s) (run_on_branch clauses (levels_of s) job there.way).deferred ball (reading job there.way) stack WorldGate
        (sym there.reads ∙ ends) st

  pub goal_at_world : (item : FrameItem) (g : GoalPlace) → StopsAtOnce v.nodes a clauses task (World item g) → IsTaskAtWorld w a t
  goal_at_world item g stops = record { gate = gate; no_end = λ s ball taken ends. no_end s taken ball ends _ (stopped s taken (World item g) stops).1 }

  pub removal_at_world : (clause : ℕ) → StopsAtOnce v.nodes a clauses task (Removal clause) → IsTaskAtWorld w a t
  removal_at_world clause stops = record { gate = gate; no_end = λ s ball taken ends. no_end s taken ball ends _ (stopped s taken (Removal clause) stops).1 }

  pub answer_at_world : StopsAtOnce v.nodes a clauses task Answer → IsTaskAtWorld w a t
  answer_at_world stops = record { gate = gate; no_end = λ s ball taken ends. no_end s taken ball ends _ (stopped s taken Answer stops).1 }

-- what has come of it, in the end: it was taken, or it waits
pub record IsTakenThere (old new : History) (w : ℕ) (a : Place) : Type 0 where
  pub legal : is_legal (state_of old) (front_event w a) ≡ true
  pub noted : new ≡ with_event (front_event w a) old

pub record WaitsThere (old new : History) (w : ℕ) (a : Place) : Type 0 where
  pub still : where_legal (front_event w a) old ≡ old
  pub noted : new ≡ with_event (Suspend w a false) old

abbrev pub HasComeTo : History → History → ℕ → Place → FrontStep → Type 0
HasComeTo old new w a (Done answering.Taken) = IsTakenThere old new w a
HasComeTo old new w a (Done answering.NotLeftmost) = WaitsThere old new w a
HasComeTo old new w a (Done answering.HasEnded) = ⊥
HasComeTo old new w a (Closes closing) = IsTakenThere old new w a

-- by the answer
module _ (h : History) (w : ℕ) (a : Place) (going : is_going (state_of h) ≡ true) where
  abbrev e : Event
  e = front_event w a

  abbrev allowed : Bool
  allowed = is_allowed (state_of h) e

  answer_is : (r : Answering) → r ≡ answering_of e (state_of h) → r ≡ cond allowed answering.Taken answering.NotLeftmost
  answer_is r is = is ∙ ap (λ (b : Bool). cond b (cond allowed answering.Taken answering.NotLeftmost) answering.HasEnded) going

  taken_legal : answering.Taken ≡ answering_of e (state_of h) → is_legal (state_of h) e ≡ true
  taken_legal is = legal_where h h w a going e (by_test allowed (answer_is answering.Taken is))
    where
      by_test : (b : Bool) → answering.Taken ≡ cond b answering.Taken answering.NotLeftmost → b ≡ true
      by_test true k = refl
      by_test false k = absurd cc

  later_still : answering.NotLeftmost ≡ answering_of e (state_of h) → where_legal e h ≡ h
  unfolding is_legal
  later_still is =
      let no : allowed ≡ false = by_test allowed (answer_is answering.NotLeftmost is) in
      ap (λ (b : Bool). cond (not (state_of h).stopped && (is_none (ended (state_of h)) && b)) (with_event e h) h) no
      ∙ ap (λ (b : Bool). cond (not (state_of h).stopped && b) (with_event e h) h) (and-false (is_none (ended (state_of h))))
      ∙ ap (λ (b : Bool). cond b (with_event e h) h) (and-false (not (state_of h).stopped))
    where
      by_test : (b : Bool) → answering.NotLeftmost ≡ cond b answering.Taken answering.NotLeftmost → b ≡ false
      by_test true k = absurd cc
      by_test false k = refl

  never_ended : answering.HasEnded ≡ answering_of e (state_of h) → ⊥
  never_ended is = by_test allowed (answer_is answering.HasEnded is)
    where
      by_test : (b : Bool) → answering.HasEnded ≡ cond b answering.Taken answering.NotLeftmost → ⊥
      by_test true k = cc
      by_test false k = cc

  pub legal_is : is_legal (state_of h) e ≡ true → where_legal e h ≡ with_event e h
  legal_is l = ap (λ (b : Bool). cond b (with_event e h) h) l

module _ (v0 v1 : TreeView) (w : ℕ) (a : Place) (out : IsOutStill v0 w a) (gate : IsItsGate WorldGate w a (state_of v0.history)) where
  -- so it can be brought to its end
  pub step_open : (step : FrontStep) → ComesAbout v0 v1 w a step → IsStepOpen v1 w a step
  step_open (Done answering.Taken) c = tt
  step_open (Done answering.NotLeftmost) c =
      let same : v0.history ≡ v1.history = sym (c.1 ∙ later_still v0.history w a out.going c.0) in (
        record {
          out = subst (λ (h : History). is_some (taken_at w a (state_of h)) ≡ true) same out.out;
          going = subst (λ (h : History). is_going (state_of h) ≡ true) same out.going;
        },
        subst (λ (h : History). IsItsGate WorldGate w a (state_of h)) same gate,
      )
  step_open (Done answering.HasEnded) c = absurd (never_ended v0.history w a out.going c.0)
  step_open (Closes closing) c = (subst (λ (x : TreeView). IsOutStill x w a) (sym c.0) out, subst (λ (x : TreeView). MayClose x w a closing) (sym c.0) c.1)

  module _ (v2 : TreeView) where
    pub has_come : (step : FrontStep) → ComesAbout v0 v1 w a step → EndsStep v1 v2 w a step → HasComeTo v0.history v2.history w a step
    has_come (Done answering.Taken) c k =
        let l = taken_legal v0.history w a out.going c.0 in
        record { legal = l; noted = k ∙ (c.1 ∙ legal_is v0.history w a out.going l) }
    has_come (Done answering.NotLeftmost) c k =
        let still = later_still v0.history w a out.going c.0 in
        record { still = still; noted = k ∙ ap (with_event (Suspend w a false)) (c.1 ∙ still) }
    has_come (Done answering.HasEnded) c k = absurd k
    has_come (Closes closing) c k =
        let s = spot_out (taken_at w a (state_of v0.history)) out.out in
        let may = c.1.may in
        record {
          legal = legal v0.history w a s.0 s.1 (gate s.0 s.1) may.0 may.1;
          noted = k ∙ ap (λ (x : TreeView). with_event (front_event w a) x.history) c.0;
        }

    -- where that fails nothing has happened
    pub has_failed : (step : FrontStep) → ComesAbout v0 v1 w a step → FailsStep v1 v2 step → v2.history ≡ v0.history
    has_failed (Done answering) c k = absurd k
    has_failed (Closes closing) c k = k ∙ ap (λ (x : TreeView). x.history) c.0

-- by one event
pub come_back : (old new : History) (w : ℕ) (a : Place) (step : FrontStep) → HasComeTo old new w a step → IsGivenBackOnce old new a
come_back old new w a (Done answering.Taken) h = record { back = front_event w a; noted = h.noted; gives = place_self a }
come_back old new w a (Done answering.NotLeftmost) h = record { back = Suspend w a false; noted = h.noted; gives = place_self a }
come_back old new w a (Done answering.HasEnded) h = absurd h
come_back old new w a (Closes closing) h = record { back = front_event w a; noted = h.noted; gives = place_self a }

pub come_job : (old new : History) (w : ℕ) (a : Place) (step : FrontStep) → HasComeTo old new w a step → new.job ≡ old.job
come_job old new w a step h = ap (λ (x : History). x.job) (come_back old new w a step h).noted

-- in the world of the tree
module _ (old new : History) (w : ℕ) (a : Place) (world : WorldTerms) (is : IsWorldAfter old w a world) where
  taken_world : IsTakenThere old new w a → world ≡ (state_of new).world
  taken_world h =
      is ∙ ap (λ (b : Bool). (state_of (cond b (with_event (front_event w a) old) old)).world) h.legal ∙ ap (λ (x : History). (state_of x).world) (sym h.noted)

  waiting_world : WaitsThere old new w a → world ≡ (state_of new).world
  waiting_world h =
      is ∙ ap (λ (x : History). (state_of x).world) h.still ∙ sym (noted_same old new (Suspend w a false) refl h.noted).world

  pub come_world : (step : FrontStep) → HasComeTo old new w a step → world ≡ (state_of new).world
  come_world (Done answering.Taken) h = taken_world h
  come_world (Done answering.NotLeftmost) h = waiting_world h
  come_world (Done answering.HasEnded) h = absurd h
  come_world (Closes closing) h = taken_world h

-- with the queries that were left, where it is no end of one
module _ (old new : History) (w : ℕ) (a : Place) (task : IsTaskAtWorld w a (state_of old)) (lawful : IsLegalTree (state_of old)) (law : EndsOpenQueries) where
  after_task : is_legal (state_of old) (front_event w a) ≡ true → (after_event (state_of old) (front_event w a)).queries ≡ (state_of old).queries
  after_task l = by_case (law (state_of old) (front_event w a) lawful l)
    where
      by_case : ((after_event (state_of old) (front_event w a)).queries ≡ (state_of old).queries) ⊎ TakesEnd (state_of old) (front_event w a)
          → (after_event (state_of old) (front_event w a)).queries ≡ (state_of old).queries
      by_case (inl same) = same
      by_case (inr k) =
          let worker : w ≡ k.worker = let e = k.is in cc in
          let place : a ≡ k.place = let e = k.is in cc in
          absurd (task.no_end k.spot k.ball (ap₂ (λ n p. taken_at n p (state_of old)) worker place ∙ k.out) k.ends)

  taken_queries : IsTakenThere old new w a → (state_of new).queries ≡ (state_of old).queries
  taken_queries h =
      ap (λ (x : History). (state_of x).queries) h.noted
      ∙ ap (λ (t : TreeState). t.queries) (state_after old (front_event w a))
      ∙ after_task h.legal

  pub come_queries : (step : FrontStep) → HasComeTo old new w a step → (state_of new).queries ≡ (state_of old).queries
  come_queries (Done answering.Taken) h = taken_queries h
  come_queries (Done answering.NotLeftmost) h = (noted_same old new (Suspend w a false) refl h.noted).queries
  come_queries (Done answering.HasEnded) h = absurd h
  come_queries (Closes closing) h = taken_queries h

  -- so the run goes on with its tree
  pub come_run : (run : JobRun) (world : KeptWorld) (step : FrontStep) → IsJobRun old run → HasComeTo old new w a step
      → world.database.statics ≡ run.world.database.statics → IsWorldAfter old w a (world_meant world) → IsJobRun new (record run { world = world })
  come_run run world step k h statics is =
      run_moved old new run world run.asked k (come_job old new w a step h) statics (come_world old new w a (world_meant world) is step h) k.asked
      (come_queries step h ∙ k.left)
