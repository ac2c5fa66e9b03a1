-- A task that runs on.
use Rattle.std.proofs.Common.{◌≡◌, ℕ, ◌+◌, ◌<◌, ◌≤◌, Bool, true, false, List, length, Option, Some, None, IsSome, IfSome, refl, sym, ◌∙◌, subst, arith}
use Rattle.au_model.specs.Terms.Each.{Each}
use Rattle.au_model.specs.Terms.Named.{NamedTerm}
use Rattle.region_split.specs.ClauseTrials.{IsOptionalPosition}
use Rattle.region_split.specs.Regions.{RegionView}
use Rattle.region_split.specs.declared.frame.FrameItem.{FrameItem}
use Rattle.region_split.specs.declared.frame.Position.{Position}
use Rattle.region_control.specs.declared.control.GoalPlace.{GoalPlace}
use Rattle.region_floor.specs.RegionRuns.{RegionRun}
use Rattle.task_region.specs.DeferredItems.{IsDeferredOver}
use Rattle.task_region.specs.TaskViews.{TaskView}
use Rattle.task_region.specs.TaskStandings.{StandsOnRun, HasOwnRun, IsUnderWay, IsTask}
use Rattle.task_region.specs.TaskStops.{LeavesNext, SameTask, StopsTask, RunsTask}
use Rattle.task_region.specs.TaskRounds.{LooksAhead, TakesGoalNext, PassesRound, RunsOn}
use Rattle.task_region.specs.declared.ahead.TaskAhead.TheVariants as ahead
use Rattle.task_region.specs.declared.rounds.TaskRound.{TaskRound}
use Rattle.task_region.specs.declared.rounds.TaskRound.TheVariants.{GoesOn, Stops}
use Rattle.task_region.specs.declared.running.TaskRan.{TaskRan}
use Rattle.task_region.specs.declared.running.TaskStop.{TaskStop}
use Rattle.task_region.specs.declared.running.TaskStop.TheVariants.{Limit, Cut, World, Removal, Answer, Collect, Ball, Empty}
use Rattle.task_region.proofs.AheadLemmas.{changed_to}
use Rattle.task_region.proofs.StandingRunLemmas.{own_run_of}

-- so many inferences were taken
pub record IsRunning (old here : TaskView) (taken : ℕ) : Type 0 where
  pub stands : (r : RegionRun) (k : ℕ) (named : List NamedTerm) → StandsOnRun r k named old → StandsOnRun r (k + taken) named here
  pub way : IsUnderWay here
  pub same : SameTask old here

pub same_twice : (x y z : TaskView) → SameTask x y → SameTask y z → SameTask x z
same_twice x y z a b = record { text = b.text ∙ a.text; start = b.start ∙ a.start; floor = b.floor ∙ a.floor; variables = b.variables ∙ a.variables; deferred = b.deferred ∙ a.deferred }

-- a round is what lies ahead, or what is taken of it
pub goal_round : (old : TaskView) (r1 r2 : RegionView) (item : FrameItem) (g : GoalPlace) (more : Bool) (round : TaskRound) → LooksAhead old (changed_to old r1) (ahead.Goal item g)
    → TakesGoalNext (changed_to old r1) (changed_to old r2) item g more round → PassesRound old (changed_to old r2) more round
goal_round old r1 r2 item g more round l t = record {
  stands = λ r k named s. t.stands r k named (own_run_of r named old (changed_to old r1) l.same s.own) (l.stands r k named s);
  there = t.there;
  same = same_twice old (changed_to old r1) (changed_to old r2) l.same t.same;
}

pub stop_round : (old : TaskView) (r1 : RegionView) (stop : TaskStop) (next : Option Position) (more : Bool) → LooksAhead old (changed_to old r1) (ahead.Stops stop next)
    → PassesRound old (changed_to old r1) more (Stops stop next)
stop_round old r1 stop next more l = record { stands = l.stands; there = (l.there.0, (λ u. absurd (l.there.1 u)), (λ u. absurd (l.there.2 u))); same = l.same }

deferred_same : (x y : TaskView) → SameTask x y → Each (IsDeferredOver x.variables x.floor) x.deferred → Each (IsDeferredOver y.variables y.floor) y.deferred
deferred_same x y s d =
    subst (Each (IsDeferredOver y.variables y.floor)) (sym s.deferred)
    (subst (λ n. Each (IsDeferredOver n y.floor) x.deferred) (sym s.variables) (subst (λ n. Each (IsDeferredOver x.variables n) x.deferred) (sym s.floor) d))

pub running_begun : (t : TaskView) → IsUnderWay t → IsRunning t t 0
running_begun t way = record {
  stands = λ r k named s. subst (λ n. StandsOnRun r n named t) (let e : k ≡ k + 0 = omega arith in e) s;
  way = way;
  same = record { text = refl; start = refl; floor = refl; variables = refl; deferred = refl };
}

module _ (old here : TaskView) (taken : ℕ) (w : IsRunning old here taken) (way : IsUnderWay old) where
  pub one_more : (new : TaskView) (more : Bool) (next : Option Position) → PassesRound here new more (GoesOn next) → IsRunning old (record new { next = next }) (taken + 1)
  one_more new more next p =
      let stands : (r : RegionRun) (k : ℕ) (named : List NamedTerm) → StandsOnRun r k named old → StandsOnRun r (k + (taken + 1)) named (record new { next = next }) =
      λ r k named s. subst (λ n. StandsOnRun r n named (record new { next = next })) (let e : k + taken + 1 ≡ k + (taken + 1) = omega arith in e) (p.stands r (k + taken) named (w.stands r k named s)) in
      record {
        stands = stands;
        way = record {
          deferred = deferred_same here new p.same w.way.deferred;
          next = p.there.0;
          run = record { run = way.run.run; inferences = way.run.inferences + (taken + 1); named = way.run.named; stands = stands way.run.run way.run.inferences way.run.named way.run.stands };
        };
        same = same_twice old here (record new { next = next }) w.same (record { text = p.same.text; start = p.same.start; floor = p.same.floor; variables = p.same.variables; deferred = p.same.deferred });
      }

  pub stops_here : (new : TaskView) (more : Bool) (stop : TaskStop) (next : Option Position) (limit : ℕ) → PassesRound here new more (Stops stop next) → taken ≤ limit → (more ≡ false → taken ≡ limit) → (more ≡ true → taken < limit)
      → RunsOn old (record new { next = next }) limit (record { taken = taken; stop = stop })
  stops_here new more stop next limit p le full below = record {
    run = λ r k named s. p.stands r (k + taken) named (w.stands r k named s);
    within = le;
    all = λ u. full (p.there.1 u);
    under = λ u. below (p.there.2 u);
    there = p.there.0;
    same = same_twice old here (record new { next = next }) w.same (record { text = p.same.text; start = p.same.start; floor = p.same.floor; variables = p.same.variables; deferred = p.same.deferred });
  }

-- a task that goes on at a position is under way
pub under_way : (t : TaskView) (start : Position) → t.next ≡ Some start → IsTask t → IsUnderWay (record t { next = Some start })
under_way t start e k = record {
  deferred = k.deferred;
  next = subst (IsOptionalPosition t.region (length t.region.choices)) e k.next;
  run = subst (λ next. HasOwnRun (record t { next = next })) e (subst (λ next. IfSome next (λ p. HasOwnRun t)) e k.run);
}

none_is_none : (next : Option Position) → next ≡ None → IsSome next → ⊥
none_is_none None e h = absurd cc
none_is_none (Some p) e h = absurd cc

if_any : (next : Option Position) (X : Type 0) → X → IfSome next (λ p. X)
if_any None X x = tt
if_any (Some p) X x = x

module _ (old new : TaskView) (limit : ℕ) (ran : TaskRan) (o : RunsOn old new limit ran) (way : IsUnderWay old) where
  run_left : (stop : TaskStop) → LeavesNext stop new.next → StopsTask way.run.run (way.run.inferences + ran.taken) way.run.named new stop → IfSome new.next (λ p. HasOwnRun new)
  run_left Limit l h = if_any new.next (HasOwnRun new) (record { run = way.run.run; inferences = way.run.inferences + ran.taken; named = way.run.named; stands = h.0 })
  run_left (Cut node) l h = if_any new.next (HasOwnRun new) (record { run = way.run.run; inferences = way.run.inferences + ran.taken; named = way.run.named; stands = h.0 })
  run_left (World item g) l h = if_any new.next (HasOwnRun new) (record { run = way.run.run; inferences = way.run.inferences + ran.taken; named = way.run.named; stands = h.0 })
  run_left (Removal clause) l h = if_any new.next (HasOwnRun new) (record { run = way.run.run; inferences = way.run.inferences + ran.taken; named = way.run.named; stands = h.0 })
  run_left Answer l h = if_any new.next (HasOwnRun new) (record { run = way.run.run; inferences = way.run.inferences + ran.taken; named = way.run.named; stands = h.0 })
  run_left (Collect number) l h = if_any new.next (HasOwnRun new) (record { run = way.run.run; inferences = way.run.inferences + ran.taken; named = way.run.named; stands = h.0 })
  run_left (Ball ball) l h = subst (λ next. IfSome next (λ p. HasOwnRun new)) (sym l) tt
  run_left Empty l h = subst (λ next. IfSome next (λ p. HasOwnRun new)) (sym l) tt

  pub still_a_task : IsTask new
  still_a_task = record {
    deferred = deferred_same old new o.same way.deferred;
    next = o.there.0;
    run = run_left ran.stop o.there.1 (o.run way.run.run way.run.inferences way.run.named way.run.stands);
  }

  pub runs_task : (before : TaskView) → before ≡ old → IsSome old.next → RunsTask before new limit ran
  runs_task before e going = record {
    run = λ r k named going s. o.run r k named (subst (StandsOnRun r k named) e s);
    within = o.within;
    all = o.all;
    under = o.under;
    next = o.there.1;
    next_for = o.there.2;
    same = subst (λ (t : TaskView). SameTask t new) (sym e) o.same;
    idle = λ none. absurd (none_is_none before.next none (subst (λ (t : TaskView). IsSome t.next) (sym e) going));
  }

-- a task of whose run nothing is left
pub ended_task : (t : TaskView) (limit : ℕ) → t.next ≡ None → RunsTask t t limit (record { taken = 0; stop = Empty })
ended_task t limit e = record {
  run = λ r k named going s. absurd (none_is_none t.next e going);
  within = omega arith;
  all = λ u. absurd u;
  under = λ u. absurd u;
  next = e;
  next_for = tt;
  same = record { text = refl; start = refl; floor = refl; variables = refl; deferred = refl };
  idle = λ e. (refl, refl, refl);
}
