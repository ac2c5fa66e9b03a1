-- Tasks that were loaded and run without an inference.
use Rattle.std.proofs.Common.{◌≡◌, ◌+◌, ◌∷◌, subst, arith}
use Rattle.task_region.specs.TaskLoads.{run_on_branch}
use Rattle.branch_reading.specs.Readings.{named_of, query_on}
use Rattle.task_region.specs.TaskStops.{StopsTask}
use Rattle.task_world.specs.FrontsTold.{LoadedTasksStopAtFront}

pub loaded_stop_at_front : LoadedTasksStopAtFront
loaded_stop_at_front nodes a text old new limit ran l r none = record {
  stops = λ job read v up was way at table on.
      let run = run_on_branch text.clauses (v ∷ up) job way in
      let named = named_of (query_on job way) in
      let start : 0 + ran.taken ≡ 0 = omega (arith, none) in
      subst (λ k. StopsTask run k named new ran.stop) start (r.run run 0 named l.going (l.stands job read v up was way at table on));
  next = r.next_for;
}
