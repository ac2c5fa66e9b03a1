-- A task that has stopped at a ball before any inference: the first goal of its alternative throws that ball.
use Rattle.std.proofs.Common.{◌≡◌, ℕ, ◌-◌, Bool, true, false, cond, List, [], ◌∷◌, length, map, Some, refl, sym, ap, ◌∙◌, subst}
use Rattle.std.specs.Prelude.{nat_lt}
use Rattle.au_term.specs.Term.{Term}
use Rattle.au_model.specs.Terms.Copies.{copied}
use Rattle.run_model.specs.Goals.GoalOutcomes.{outcome_of}
use Rattle.run_model.specs.Machine.Entries.{Entry, PlainEntry, CatchEntry, FindallEntry, EndEntry, collected}
use Rattle.run_model.specs.Machine.Items.{Item, GoalItem, CatchMark, CollectMark, RemovalItem, Continuation, before, with_items, without_marks}
use Rattle.run_model.specs.Programs.Jobs.{Job}
use Rattle.region_floor.specs.BareFloors.{TopGoal, goal_entries}
use Rattle.region_floor.specs.Deferred.{Deferred, joined_continuation, joined_entry}
use Rattle.region_floor.specs.RegionRuns.{FallsAt, RegionRun, StandsAtGate}
use Rattle.region_floor.proofs.RunLemmas.{tops_are_own}
use Rattle.tree_model.specs.Floors.{floor_of, with_heights}
use Rattle.tree_model.specs.LegalTrees.{IsLegalTree}
use Rattle.tree_model.specs.Legality.{taken_at}
use Rattle.tree_model.specs.Levels.{Level, Place, Spot, levels_of}
use Rattle.tree_model.specs.Nodes.{Gate, Pending}
use Rattle.tree_model.specs.PrivateRuns.{own_at_rest, own_free_step, own_free_steps, private_run}
use Rattle.tree_model.specs.TreeStates.{TreeState}
use Rattle.tree_model.specs.Ways.{IsAwake}
use Rattle.tree_core.specs.Histories.{TreeView, NodesStand, state_of}
use Rattle.task_region.specs.TaskLoads.{run_on_branch}
use Rattle.branch_shapes.proofs.OutLemmas.{IsOutAt, out_at, awake_at}
use Rattle.task_region.specs.TaskViews.{TaskView}
use Rattle.task_region.specs.declared.running.TaskStop.TheVariants.{Ball}
use Rattle.task_publishing.proofs.JobLemmas.{job_of_state}
use Rattle.task_stops.specs.StopCauses.{HasStoppedFor, StopsThereFor}
use Rattle.task_stops.specs.StopGates.{StopsAreGates}
use Rattle.task_stops.specs.ThrownBalls.{BallStopsThrow, IsAtBall}

-- an entry whose first goal is this
record BeginsWith (e : Entry) (goal : Term) (height next : ℕ) : Type 0 where
  pub top : Continuation ℕ
  pub plain : e ≡ PlainEntry top
  pub behind : List (Item ℕ)
  pub first : without_marks top.items ≡ GoalItem goal height ∷ behind
  pub number : top.next ≡ next

-- what rests with a goal on top began with it
module _ (floor : List Entry) (goal : Term) (height : ℕ) (more : List (Item ℕ)) (g : Continuation ℕ) (first : g.items ≡ GoalItem goal height ∷ more) (es : List Entry) where
  rests : (items : List (Item ℕ)) (f : Continuation ℕ) → own_free_step items f [] floor (own_free_steps floor 0) ≡ PlainEntry g ∷ es → with_items items f ≡ g
  rests [] f h = cc
  rests (GoalItem t n ∷ items) f h = cc
  rests (CatchMark n ∷ items) f h = cc
  rests (RemovalItem n ∷ items) f h = cc
  rests (CollectMark t n ∷ items) f h = by_test (nat_lt n (length floor)) h
    where
      by_test : (b : Bool) → cond b (PlainEntry (with_items (CollectMark t n ∷ items) f) ∷ []) (own_free_steps floor 0 (collected (n - length floor) t [])) ≡ PlainEntry g ∷ es
          → with_items (CollectMark t n ∷ items) f ≡ g
      by_test true k = cc
      by_test false k = absurd cc

  begins : (e : Entry) → IsAwake e → own_at_rest floor (e ∷ []) ≡ PlainEntry g ∷ es → BeginsWith e goal height g.next
  begins (PlainEntry f) awake h =
      let same : with_items (without_marks f.items) f ≡ g = rests (without_marks f.items) f h in
      record {
        top = f;
        plain = refl;
        behind = more;
        first = ap (λ (c : Continuation ℕ). c.items) same ∙ first;
        number = ap (λ (c : Continuation ℕ). c.next) same;
      }
  begins (CatchEntry c r f) awake h = absurd awake
  begins (FindallEntry results l f) awake h = absurd awake
  begins (EndEntry b) awake h = absurd cc

heights_awake : (levels : List Level) (e : Entry) → IsAwake e → IsAwake (with_heights levels e)
heights_awake levels (PlainEntry f) awake = tt
heights_awake levels (CatchEntry c r f) awake = absurd awake
heights_awake levels (FindallEntry results l f) awake = absurd awake
heights_awake levels (EndEntry b) awake = tt

-- a run that is at a gate at its start, with a goal on top
module _ (r : RegionRun) (top : TopGoal) (gate : Gate) (awake : IsAwake r.entry) (stands : StandsAtGate r 0 (goal_entries top) gate) where
  abbrev d : Deferred
  d = r.deferred

  abbrev on_top : Continuation ℕ
  on_top = before (GoalItem top.goal top.height ∷ []) top.after

  run_is : Some (own_at_rest (floor_of r.levels) (r.entry ∷ [])) ≡ Some (map (joined_entry d) stands.own)
  unfolding private_run
  run_is = stands.run

  begins_with : BeginsWith r.entry top.goal top.height top.after.next
  begins_with =
      let own_top = tops_are_own r.levels stands.own on_top top.below (sym stands.entries) in
      let rest : own_at_rest (floor_of r.levels) (r.entry ∷ []) ≡ map (joined_entry d) stands.own = let h = run_is in cc in
      begins (floor_of r.levels) top.goal top.height _ (joined_continuation d on_top) refl (map (joined_entry d) own_top.below) r.entry awake
      (rest ∙ ap (map (joined_entry d)) own_top.own_is)

module _ (gates : StopsAreGates) (v : TreeView) (w : ℕ) (a : Place) (task : TaskView) (ball : Term) (stand : NodesStand v) (legal : IsLegalTree (state_of v.history))
    (stops : StopsThereFor v.nodes a v.history.job.clauses 0 task (Ball ball)) (s : Spot) (taken : taken_at w a (state_of v.history) ≡ Some s) where
  abbrev t : TreeState
  t = state_of v.history

  abbrev job : Job
  job = v.history.job

  abbrev levels : List Level
  levels = levels_of s

  there : IsOutAt job v.nodes t w a s
  there = out_at job v.nodes t w a s stand.placed taken

  abbrev run : RegionRun
  run = run_on_branch t.job.clauses levels job there.way

  stopped : HasStoppedFor t.job.clauses levels job there.way 0 task (Ball ball)
  stopped =
      subst (λ (j : Job). HasStoppedFor j.clauses levels job there.way 0 task (Ball ball)) (sym (job_of_state v.history))
      (stops job _ s.level s.above (Pending s.hold s.entry) there.way there.at there.table there.on)

  abbrev top : TopGoal
  top = stopped.stops.0

  abbrev thrown : Term
  thrown = stopped.stops.1

  falls : FallsAt run 0 top thrown (Some ball)
  falls = stopped.stops.2

  begun : BeginsWith run.entry top.goal top.height top.after.next
  begun = begins_with run top _ (heights_awake levels _ (subst IsAwake there.reads (awake_at job v.nodes t w a s legal there).awake)) falls.stops

  at_ball : IsAtBall t s ball
  at_ball =
      let told : Some ball ≡ Some (copied thrown 0) = falls.ball in
      let gate = gates v w a task (Ball ball) stand legal stops s taken in
      record {
        thrown = thrown;
        throws = record {
          top = begun.top;
          under = floor_of levels;
          entries = ap (λ (e : Entry). with_heights levels e ∷ floor_of levels) there.reads ∙ ap (λ (e : Entry). e ∷ floor_of levels) begun.plain;
          goal = top.goal;
          height = top.height;
          behind = begun.behind;
          first = begun.first;
          outcome = ap (outcome_of t.job.clauses top.goal) begun.number ∙ falls.outcome;
        };
        ball_is = cc;
        node = gate.0;
        gate = gate.1;
      }

pub ball_stops_throw : StopsAreGates → BallStopsThrow
ball_stops_throw gates v w a task ball stand legal stops s taken = at_ball gates v w a task ball stand legal stops s taken
