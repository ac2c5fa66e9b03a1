-- A task that has stopped and can go on stands for own entries to which its run has come.
use Rattle.std.proofs.Common.{◌≡◌, ℕ, List, [], ◌∷◌, length, map, Option, Some, None, sym, ap, ◌∙◌}
use Rattle.std.specs.Prelude.{IsSome}
use Rattle.au_model.specs.Terms.Named.{NamedTerm}
use Rattle.run_model.specs.Machine.Items.{Continuation, GoalItem, before}
use Rattle.run_model.specs.Machine.Entries.{Entry}
use Rattle.region_split.specs.declared.frame.Position.{Position}
use Rattle.region_floor.specs.BareFloors.{AreOwn, TopGoal, goal_entries, bare_stack, true_rest}
use Rattle.region_floor.specs.Deferred.{joined_entry}
use Rattle.region_floor.specs.RegionRuns.{RegionRun, run_after}
use Rattle.region_floor.specs.RunLaws.{GoalsRest, IsOwnTop, TopsAreOwn}
use Rattle.task_region.specs.TaskStandings.{IsOwnRun, StandsOnRun}
use Rattle.task_region.specs.TaskStops.{LeavesNext, StopsTask}
use Rattle.task_region.specs.TaskViews.{TaskView, task_stack}
use Rattle.task_region.specs.declared.running.TaskStop.{TaskStop}
use Rattle.task_region.specs.declared.running.TaskStop.TheVariants.{Limit, Cut, Collect, Ball, Empty}

-- own entries at rest
pub record ComesToRest (r : RegionRun) (k : ℕ) (named : List NamedTerm) (t : TaskView) : Type 0 where
  pub run_is : IsOwnRun r named t
  pub own : List Entry
  pub are_own : AreOwn (length r.levels) own
  pub entries : task_stack named t ≡ bare_stack r.levels own
  pub run : run_after r k ≡ Some (map (joined_entry r.deferred) own)

at_goal : (r : RegionRun) (k : ℕ) (named : List NamedTerm) (t : TaskView) → GoalsRest → TopsAreOwn → StandsOnRun r k named t → (g : TopGoal)
    → task_stack named t ≡ goal_entries g → ComesToRest r k named t
at_goal r k named t rest tops s g e =
    let own = s.stands.own in
    let f : Continuation ℕ = before (GoalItem g.goal g.height ∷ []) g.after in
    let top : IsOwnTop r.levels own f g.below = tops r.levels own f g.below (sym s.stands.entries ∙ e) in
    let mine : TopGoal = record g { below = top.below } in
    let same : own ≡ goal_entries mine = top.own_is in
    let rests : true_rest r.deferred r.levels own ≡ map (joined_entry r.deferred) own
    = ap (λ (es : List Entry). true_rest r.deferred r.levels es) same
    ∙ (rest r.deferred r.levels mine ∙ ap (map (joined_entry r.deferred)) (sym same)) in
    record {
      run_is = s.own;
      own = own;
      are_own = s.stands.are_own;
      entries = s.stands.entries;
      run = s.stands.run ∙ ap (λ (es : List Entry). Some es) rests;
    }

pub no_next : (o : Option Position) → IsSome o → o ≡ None → ⊥
no_next None some e = cc some
no_next (Some p) some e = cc e

pub come_to_rest : (r : RegionRun) (k : ℕ) (named : List NamedTerm) (t : TaskView) (stop : TaskStop) → GoalsRest → TopsAreOwn → IsSome t.next
    → LeavesNext stop t.next → StopsTask r k named t stop → ComesToRest r k named t
come_to_rest r k named t Limit rest tops some next s = at_goal r k named t rest tops s.0 s.1.0 s.1.1
come_to_rest r k named t (Cut node) rest tops some next s =
    record { run_is = s.0.own; own = s.2.own; are_own = s.2.are_own; entries = s.2.entries; run = s.2.run }
come_to_rest r k named t (Collect number) rest tops some next s =
    record { run_is = s.0.own; own = s.2.own; are_own = s.2.are_own; entries = s.2.entries; run = s.2.run }
come_to_rest r k named t (Ball ball) rest tops some next s = absurd (no_next t.next some next)
come_to_rest r k named t Empty rest tops some next s = absurd (no_next t.next some next)
-- at a gate of the world
come_to_rest r k named t gate rest tops some next s =
    record { run_is = s.0.own; own = s.1.own; are_own = s.1.are_own; entries = s.1.entries; run = s.1.run }
