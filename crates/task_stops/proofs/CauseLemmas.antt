-- Tasks that were loaded and run stop for the cause that they tell.
use Rattle.std.proofs.Common.{◌≡◌, ◌+◌, ◌∷◌, subst, arith}
use Rattle.task_region.specs.TaskStops.{StopsTask}
use Rattle.branch_reading.specs.Readings.{named_of, query_on}
use Rattle.task_region.specs.TaskLoads.{run_on_branch}
use Rattle.task_publishing.proofs.TaskLemmas.{still_stands}
use Rattle.task_stops.specs.StopCauses.{LoadedTasksStopFor, StoppedTasksRunOnFor, CausesAreStops}

pub loaded_stop_for : LoadedTasksStopFor
loaded_stop_for nodes a text old new limit ran l r job read v up was way at table on =
    let run = run_on_branch text.clauses (v ∷ up) job way in
    let named = named_of (query_on job way) in
    let none : 0 + ran.taken ≡ ran.taken = omega arith in
    record {
      stops = subst (λ k. StopsTask run k named new ran.stop) none (r.run run 0 named l.going (l.stands job read v up was way at table on));
      next = r.next;
    }

pub stopped_run_on_for : StoppedTasksRunOnFor
stopped_run_on_for nodes a clauses k old new limit ran some stops r job read v up was way at table on =
    let run = run_on_branch clauses (v ∷ up) job way in
    let named = named_of (query_on job way) in
    let before = stops job read v up was way at table on in
    record {
      stops = r.run run k named some (still_stands run k named old before.stop some before.next before.stops);
      next = r.next;
    }

pub causes_are_stops : CausesAreStops
causes_are_stops nodes a clauses k t cause stops job read v up was way at table on =
    let h = stops job read v up was way at table on in
    record { stop = cause; stops = h.stops; next = h.next }
