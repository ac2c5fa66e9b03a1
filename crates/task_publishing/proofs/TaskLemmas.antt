-- Tasks that were loaded and run.
use Rattle.std.proofs.Common.{◌≡◌, ℕ, ◌+◌, List, ◌∷◌, Option, Some, None, refl, sym, subst, arith}
use Rattle.std.specs.Prelude.{IsSome}
use Rattle.run_model.specs.Programs.Clauses.{Clause}
use Rattle.au_model.specs.Terms.Named.{NamedTerm}
use Rattle.region_floor.specs.RegionRuns.{RegionRun}
use Rattle.region_floor.specs.RunLaws.{GoalsRest, TopsAreOwn}
use Rattle.task_region.specs.TaskStandings.{StandsOnRun}
use Rattle.task_region.specs.TaskStops.{LeavesNext, StopsTask}
use Rattle.task_region.specs.TaskViews.{TaskView}
use Rattle.task_region.specs.declared.running.TaskStop.{TaskStop}
use Rattle.task_region.specs.declared.running.TaskStop.TheVariants.{Ball, Empty}
use Rattle.tree_model.specs.Levels.{Level, Place}
use Rattle.tree_nodes.specs.Rows.{AlternativeCell, cell_at}
use Rattle.tree_nodes.specs.TreeTables.{NodesView, IsTableOf, Stand, cell_of}
use Rattle.tree_nodes.proofs.AddLemmas.{way_to}
use Rattle.tree_nodes.proofs.LocateLemmas.{IsAt, located}
use Rattle.tree_nodes.proofs.PlaceLemmas.{taken_out}
use Rattle.tree_core.specs.Brands.{no_job}
use Rattle.branch_reading.specs.Readings.{named_of, query_on}
use Rattle.branch_reading.specs.SettledWays.{items_on}
use Rattle.task_region.specs.TaskLoads.{run_on_branch, IsBoundOnBranch}
use Rattle.task_publishing.specs.OwnBodies.{HasSomeOwn}
use Rattle.task_publishing.specs.TaskRuns.{StopsThere, LoadedTasksStop, StoppedTasksRunOn, StoppedTasksHaveOwn, TasksStayOnBranches}
use Rattle.task_publishing.proofs.StoppedLemmas.{ComesToRest, come_to_rest, no_next}

pub loaded_stop : LoadedTasksStop
loaded_stop nodes a text old new limit ran l r job read v up was way at table on =
    let run = run_on_branch text.clauses (v ∷ up) job way in
    let named = named_of (query_on job way) in
    let none : 0 + ran.taken ≡ ran.taken = omega arith in
    record {
      stop = ran.stop;
      stops = subst (λ k. StopsTask run k named new ran.stop) none (r.run run 0 named l.going (l.stands job read v up was way at table on));
      next = r.next;
    }

-- where it can go on, a task that has stopped stands on its run
pub still_stands : (r : RegionRun) (k : ℕ) (named : List NamedTerm) (t : TaskView) (stop : TaskStop) → IsSome t.next → LeavesNext stop t.next → StopsTask r k named t stop
    → StandsOnRun r k named t
still_stands r k named t (Ball ball) some next s = absurd (no_next t.next some next)
still_stands r k named t Empty some next s = absurd (no_next t.next some next)
still_stands r k named t stop some next s = s.0

pub stopped_run_on : StoppedTasksRunOn
stopped_run_on nodes a clauses k old new limit ran some stops r job read v up was way at table on =
    let run = run_on_branch clauses (v ∷ up) job way in
    let named = named_of (query_on job way) in
    let before = stops job read v up was way at table on in
    record {
      stop = ran.stop;
      stops = r.run run k named some (still_stands run k named old before.stop some before.next before.stops);
      next = r.next;
    }

-- by any tree for which the nodes stand
own_at : GoalsRest → TopsAreOwn → (nodes : NodesView) (a : Place) (clauses : List Clause) (k : ℕ) (t : TaskView) (st : Stand nodes) → IsAt st.root a → IsSome t.next
    → StopsThere nodes a clauses k t → HasSomeOwn t
own_at rests tops nodes a clauses k t st p some stops =
    let levels : List Level = p.level ∷ p.above in
    let table = subst (IsTableOf nodes st.read) p.is st.stands in
    let placed = taken_out nodes.rows st.read levels p.status table.placed in
    let way = placed.way in
    let on = way_to nodes.rows st.read levels way (cell_of p.status) placed.around in
    let stopped = stops no_job st.read p.level p.above p.status way p.at table on in
    let named = named_of (query_on no_job way) in
    let rest : ComesToRest (run_on_branch clauses levels no_job way) k named t
    = come_to_rest (run_on_branch clauses levels no_job way) k named t stopped.stop rests tops some stopped.next stopped.stops in
    record {
      some = let f = rest.run_is.levels in omega (arith, f);
      levels = levels;
      named = named;
      items = items_on way;
      own = rest.own;
      has = record { floor = rest.run_is.levels; deferred = sym rest.run_is.items; are_own = rest.are_own; entries = rest.entries };
    }

pub stopped_have_own : GoalsRest → TopsAreOwn → StoppedTasksHaveOwn
stopped_have_own rests tops nodes a clauses k t st there some stops = by_cell (cell_at nodes.rows a) refl there
  where
    by_cell : (o : Option (ℕ × AlternativeCell)) → cell_at nodes.rows a ≡ o → IsSome o → HasSomeOwn t
    by_cell None e s = absurd (cc s)
    by_cell (Some c) e s = own_at rests tops nodes a clauses k t st (located nodes st.read st.root a c st.stands e) some stops

pub stay_on_branches : TasksStayOnBranches
stay_on_branches nodes a old new limit ran starts r job read v up was way at table on =
    subst (IsBoundOnBranch way) (sym r.same.start) (starts job read v up was way at table on)
