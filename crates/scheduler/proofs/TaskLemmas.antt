-- A task that was loaded and run has stopped, short of a ball.
use Rattle.std.proofs.Common.{◌≡◌, ◌≢◌, ◌≤◌, ◌<◌, ◌+◌, ◌-◌, ℕ, suc, Bool, true, false, cond, List, Option, refl, sym, ap, ◌∙◌, subst, arith}
use Rattle.std.proofs.Common.{Vec}
use Rattle.std.specs.Global.{Global}
use Rattle.std.specs.Prelude.{IsSome}
use Rattle.task_region.specs.KeptRegions.{IsOnWay, TasksStayOnWays}
use Rattle.au_term.proofs.LogicLemmas.{false_true}
use Rattle.task_region.specs.TaskLoads.{LoadsTask}
use Rattle.region_split.specs.Texts.{TextView}
use Rattle.region_split.specs.declared.frame.Position.{Position}
use Rattle.run_model.specs.Programs.Clauses.{Clause}
use Rattle.task_stops.specs.StopCauses.{CausesAreStops, LoadedTasksStopFor, StoppedTasksRunOnFor, StopsThereFor}
use Rattle.task_publishing.specs.TaskRuns.{TasksStayOnBranches}
use Rattle.task_region.specs.TaskStops.{IsBall, IsLimit, LeavesNext, RunsTask}
use Rattle.task_region.specs.TaskViews.{TaskView}
use Rattle.task_region.specs.declared.running.TaskRan.{TaskRan}
use Rattle.task_region.specs.declared.running.TaskStop.{TaskStop}
use Rattle.task_region.specs.declared.running.TaskStop.TheVariants.{Limit, Cut, World, Removal, Answer, Collect, Ball, Empty}
use Rattle.scheduler.specs.StoppedTasks.{before_ball, run_before_ball, is_limit, inferences_left, CanBeServed, HasStoppedOut, RunsFurther, RunsOut, RunsUnder}
use Rattle.scheduler.specs.declared.running.OutStop.{OutStop}
use Rattle.scheduler.specs.declared.running.StoppedTask.{StoppedTask}
use Rattle.scheduler.specs.declared.running.OutStop.TheVariants.{Ends, Stops}
use Rattle.task_world.specs.FrontsTold.{LoadedTasksStopAtFront, StopsAtFront}
use Rattle.tree_core.specs.Histories.{TreeView}
use Rattle.tree_model.specs.Levels.{Place}

-- what is stopped by a limit
pub limit_is : (stop : TaskStop) → is_limit stop ≡ true → IsLimit stop
limit_is Limit e = tt
limit_is (Cut node) e = false_true e
limit_is (World item g) e = false_true e
limit_is (Removal clause) e = false_true e
limit_is Answer e = false_true e
limit_is (Collect number) e = false_true e
limit_is (Ball ball) e = false_true e
limit_is Empty e = false_true e

limit_goes_on : (stop : TaskStop) (next : Option Position) → LeavesNext stop next → IsLimit stop → IsSome next
limit_goes_on Limit next h at_limit = h
limit_goes_on (Cut node) next h at_limit = absurd at_limit
limit_goes_on (World item g) next h at_limit = absurd at_limit
limit_goes_on (Removal clause) next h at_limit = absurd at_limit
limit_goes_on Answer next h at_limit = absurd at_limit
limit_goes_on (Collect number) next h at_limit = absurd at_limit
limit_goes_on (Ball ball) next h at_limit = absurd at_limit
limit_goes_on Empty next h at_limit = absurd at_limit

module _ (v : TreeView) (a : Place) (text : TextView) (old new : TaskView) (limit : ℕ) (ran : TaskRan) (clauses : text.clauses ≡ v.history.job.clauses)
    (loads : LoadsTask v.nodes a text old) (numbers : Vec ℕ Global) (way : IsOnWay v.nodes.rows a text numbers.items old) (runs : RunsTask old new limit ran) where
  pub has_stopped : LoadedTasksStopFor → LoadedTasksStopAtFront → TasksStayOnBranches → TasksStayOnWays
      → HasStoppedOut text v a (record { task = new; taken = ran.taken; stop = ran.stop; numbers = numbers })
  has_stopped stops front stay ways = record {
    stops = subst (λ (cs : List Clause). StopsThereFor v.nodes a cs ran.taken new ran.stop) clauses (stops v.nodes a text old new limit ran loads runs);
    front = λ none. subst (λ (cs : List Clause). StopsAtFront v.nodes a cs new ran.stop) clauses (front v.nodes a text old new limit ran loads runs none);
    start = stay v.nodes a old new limit ran loads.start runs;
    way = ways v.nodes.rows a text numbers.items old new limit ran way runs;
    clauses_are = ap (λ (r : TextView). r.clauses) (runs.same.text ∙ loads.text_is) ∙ clauses;
    going = runs.next;
    next = runs.next_for;
  }

  pub runs_under : LoadedTasksStopFor → LoadedTasksStopAtFront → TasksStayOnBranches → TasksStayOnWays → (names : List (List ℕ)) (most : ℕ) → names ≡ text.code.names
      → 1 ≤ limit → limit ≤ most → RunsUnder text v a names most (record { task = new; taken = ran.taken; stop = ran.stop; numbers = numbers })
  runs_under stops front stay ways names most of_text some le = record {
    stopped = has_stopped stops front stay ways;
    names_are = of_text ∙ sym (ap (λ (r : TextView). r.code.names) (runs.same.text ∙ loads.text_is));
    some = λ u. let all = runs.all u in omega (arith, all, some);
    under = λ u. let under = runs.under u in omega (arith, under, le);
  }

-- a task that was stopped by a limit is run on
module _ (text : TextView) (v : TreeView) (a : Place) (names : List (List ℕ)) (limit : ℕ) (s : StoppedTask) (h : RunsUnder text v a names limit s) (at_limit : IsLimit s.stop)
    (most : ℕ) (some : 1 ≤ most) (fits : s.taken + most ≤ limit) (new : TaskView) (ran : TaskRan) (runs : RunsTask s.task new most ran) where
  same_clauses : new.region.text.clauses ≡ v.history.job.clauses
  same_clauses = ap (λ (r : TextView). r.clauses) runs.same.text ∙ h.stopped.clauses_are

  pub slice_under : StoppedTasksRunOnFor → CausesAreStops → TasksStayOnBranches → TasksStayOnWays
      → RunsUnder text v a names limit (record { task = new; taken = s.taken + ran.taken; stop = ran.stop; numbers = s.numbers })
  slice_under on stops stay ways = record {
    stopped = record {
      stops = on v.nodes a v.history.job.clauses s.taken s.task new most ran (limit_goes_on s.stop s.task.next h.stopped.going at_limit)
          (stops v.nodes a v.history.job.clauses s.taken s.task s.stop h.stopped.stops) runs;
      front = λ none. absurd (let one = h.some at_limit in omega (arith, one, none));
      start = stay v.nodes a s.task new most ran h.stopped.start runs;
      way = ways v.nodes.rows a text s.numbers.items s.task new most ran h.stopped.way runs;
      clauses_are = same_clauses;
      going = runs.next;
      next = runs.next_for;
    };
    names_are = h.names_are ∙ sym (ap (λ (r : TextView). r.code.names) runs.same.text);
    some = λ u. let one = h.some at_limit in omega (arith, one);
    under = λ u. let under = runs.under u in omega (arith, under, fits);
  }

  pub slice_further : RunsFurther s.taken limit (record { task = new; taken = s.taken + ran.taken; stop = ran.stop; numbers = s.numbers })
  slice_further = record {
    later = λ e. let all = runs.all (limit_is ran.stop e) in omega (arith, all, some);
    within = let within = runs.within in omega (arith, within, fits);
  }

-- fewer inferences may be taken then
pub left_falls : (limit : ℕ) (old new : StoppedTask) → is_limit old.stop ≡ true → RunsFurther old.taken limit new → inferences_left limit new < inferences_left limit old
left_falls limit old new e h = subst (λ b. inferences_left limit new < cond b (suc (limit - old.taken)) 0) (sym e) (by_stop (is_limit new.stop) refl)
  where
    by_stop : (b : Bool) → is_limit new.stop ≡ b → cond b (suc (limit - new.taken)) 0 < suc (limit - old.taken)
    by_stop true k = let later = h.later k in let within = h.within in omega (arith, later, within)
    by_stop false k = omega (arith)

-- a ball that was met
at_ball : (stop : TaskStop) (k : ℕ) → IsBall stop → before_ball stop k ≡ k
at_ball Limit k h = absurd h
at_ball (Cut node) k h = absurd h
at_ball (World item g) k h = absurd h
at_ball (Removal clause) k h = absurd h
at_ball Answer k h = absurd h
at_ball (Collect number) k h = absurd h
at_ball (Ball ball) k h = refl
at_ball Empty k h = absurd h

under_limit : (stop : TaskStop) (k limit : ℕ) → (IsBall stop → k < limit) → before_ball stop k ≢ 0 → before_ball stop k < limit
under_limit Limit k limit h some = absurd (some refl)
under_limit (Cut node) k limit h some = absurd (some refl)
under_limit (World item g) k limit h some = absurd (some refl)
under_limit (Removal clause) k limit h some = absurd (some refl)
under_limit Answer k limit h some = absurd (some refl)
under_limit (Collect number) k limit h some = absurd (some refl)
under_limit (Ball ball) k limit h some = h tt
under_limit Empty k limit h some = absurd (some refl)

module _ (text : TextView) (v : TreeView) (w : ℕ) (a : Place) (limit : ℕ) where
  pub shorter : (out : OutStop) → RunsOut text v w a limit out → run_before_ball out ≢ 0 → run_before_ball out < limit
  shorter (Ends ball) h some = absurd (some refl)
  shorter (Stops s) h some = under_limit s.stop s.taken limit h.2 some

  pub can_be_served : (out : OutStop) → RunsOut text v w a limit out → run_before_ball out ≡ 0 → CanBeServed text v w a out
  can_be_served (Ends ball) h none = h
  can_be_served (Stops s) h none = (h.0, h.1, λ b. sym (at_ball s.stop s.taken b) ∙ none)

-- within some limit
pub record RunsSome (text : TextView) (v : TreeView) (w : ℕ) (a : Place) (out : OutStop) : Type 0 where
  pub limit : ℕ
  pub runs : RunsOut text v w a limit out

-- where it goes on
pub goes_on : (stop : TaskStop) (next : Option Position) → LeavesNext stop next → (IsBall stop → ⊥) → (stop ≡ Empty → ⊥) → IsSome next
goes_on Limit next h no_ball left = h
goes_on (Cut node) next h no_ball left = h
goes_on (World item g) next h no_ball left = h
goes_on (Removal clause) next h no_ball left = h
goes_on Answer next h no_ball left = h
goes_on (Collect number) next h no_ball left = h
goes_on (Ball ball) next h no_ball left = absurd (no_ball tt)
goes_on Empty next h no_ball left = absurd (left refl)
