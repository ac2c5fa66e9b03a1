-- The run of a task that has come to an answer, with nothing left but catches.
use Rattle.std.proofs.Common.{◌≡◌, ℕ, true, List, [], ◌∷◌, ◌++◌, map, length, Some, refl, sym, ap, ◌∙◌, subst}
use Rattle.std.proofs.lemmas.List.{length-map}
use Rattle.std.specs.List.{list_all}
use Rattle.au_model.specs.Terms.Each.{Each}
use Rattle.au_model.specs.Terms.Named.{NamedTerm}
use Rattle.au_model.specs.declared.types.VarName.{VarName}
use Rattle.answered_runs.specs.AnswersAtOnce.{is_recovery}
use Rattle.branch_reading.specs.Readings.{named_of, query_on, reading}
use Rattle.region_floor.specs.BareFloors.{AreOwn}
use Rattle.region_floor.specs.Deferred.{Deferred, joined_continuation, joined_entry}
use Rattle.region_floor.specs.RegionRuns.{RegionRun, StandsAtGate}
use Rattle.region_floor.proofs.RunLemmas.{tops_are_own}
use Rattle.region_split.specs.Regions.{entries_of}
use Rattle.run_model.specs.Machine.Entries.{Entry, PlainEntry, CatchEntry, FindallEntry, EndEntry}
use Rattle.run_model.specs.Machine.Items.{Continuation, without_marks}
use Rattle.run_model.specs.Programs.Clauses.{Clause}
use Rattle.run_model.specs.Programs.Jobs.{Job}
use Rattle.task_publishing.proofs.JobLemmas.{job_of_state}
use Rattle.task_region.specs.TaskCatches.{HasCatchesAlone}
use Rattle.task_region.specs.TaskLoads.{run_on_branch}
use Rattle.task_region.specs.TaskStandings.{IsOwnRun}
use Rattle.task_region.specs.TaskStops.{IsNextFor}
use Rattle.task_region.specs.TaskViews.{TaskView, carried, task_stack}
use Rattle.task_region.specs.declared.running.TaskStop.TheVariants.{Answer}
use Rattle.task_region.proofs.CatchLemmas.{IsCatchEntry, catches_stand}
use Rattle.task_stops.specs.StopCauses.{HasStoppedFor, StopsThereFor}
use Rattle.task_world.specs.FrontItems.{terms_named}
use Rattle.task_world.specs.FrontsTold.{AreItsNames, IsTreeAt}
use Rattle.task_world.proofs.SpotLemmas.{at, on, reads, table, way}
use Rattle.task_world.proofs.ToldLemmas.{answer_items, answer_named, top}
use Rattle.tree_core.specs.Histories.{state_of}
use Rattle.tree_model.specs.Floors.{with_heights}
use Rattle.tree_model.specs.Legality.{run_of, taken_at}
use Rattle.tree_model.specs.Levels.{Level, Place, Spot, levels_of}
use Rattle.tree_model.specs.Nodes.{Pending, WorldGate}
use Rattle.tree_model.specs.PrivateRuns.{private_run}
use Rattle.tree_model.specs.TreeStates.{TreeState}
use Rattle.tree_nodes.specs.Bodies.{Branching}
use Rattle.tree_nodes.specs.TreeTables.{NodesView}
use Rattle.answered_tasks.specs.AnsweredTasks.{AnsweredTasksRunAlone, AnswersAlone}

-- a catch is the recovery that is left of it, whatever is deferred
recoveries_joined : (d : Deferred) (es : List Entry) → Each IsCatchEntry es → list_all is_recovery (map (joined_entry d) es) ≡ true
recoveries_joined d [] h = refl
recoveries_joined d (PlainEntry f ∷ es) h = absurd h.0
recoveries_joined d (CatchEntry c r f ∷ es) h = recoveries_joined d es h.1
recoveries_joined d (FindallEntry results l f ∷ es) h = absurd h.0
recoveries_joined d (EndEntry b ∷ es) h = absurd h.0

module _ (job : Job) (nodes : NodesView) (t : TreeState) (w : ℕ) (a : Place) (k catches : ℕ) (task : TaskView) (tree : IsTreeAt job nodes t) (clauses : List Clause)
    (same : clauses ≡ t.job.clauses) (stops : StopsThereFor nodes a clauses k task Answer) (next : IsNextFor Answer task) (alone : HasCatchesAlone task catches) (s : Spot)
    (taken : taken_at w a t ≡ Some s) where
  abbrev levels : List Level
  levels = levels_of s

  abbrev here : Branching
  here = way job nodes t w a tree.placed s taken

  abbrev named : List NamedTerm
  named = named_of (query_on job here)

  abbrev run : RegionRun
  run = run_on_branch clauses levels job here

  stopped : HasStoppedFor clauses levels job here k task Answer
  stopped =
      stops job (reading job) s.level s.above (Pending s.hold s.entry) here (at job nodes t w a tree.placed s taken) (table job nodes t w a tree.placed s taken)
      (on job nodes t w a tree.placed s taken)

  own_run : IsOwnRun run named task
  own_run = stopped.stops.0.own

  gate : StandsAtGate run k (task_stack named task) WorldGate
  gate = stopped.stops.1

  -- the answer is on top
  abbrev front : Continuation ℕ
  front = top job nodes t w a clauses task tree s taken own_run next.0

  abbrev under : List Entry
  under = entries_of (carried named task.deferred) task.region

  on_top : task_stack named task ≡ PlainEntry front ∷ under
  on_top = ap (λ es. es ++ under) (next.2 (carried named task.deferred))

  record OverCatches : Type 0 where
    below : List Entry
    own_is : gate.own ≡ PlainEntry front ∷ below
    catch : Each IsCatchEntry below
    many : length below ≡ catches

  over_catches : OverCatches
  over_catches =
      let own_top = tops_are_own levels gate.own front under (sym gate.entries ∙ on_top) in
      let are_own : AreOwn (length levels) (PlainEntry front ∷ own_top.below) = subst (AreOwn (length levels)) own_top.own_is gate.are_own in
      let stand = catches_stand task catches (carried named task.deferred) levels own_top.below alone own_run.levels are_own.1 own_top.entries in
      record { below = own_top.below; own_is = own_top.own_is; catch = stand.0; many = stand.1 }

  runs_so : run_of t s k ≡ Some (PlainEntry (joined_continuation run.deferred front) ∷ map (joined_entry run.deferred) over_catches.below)
  unfolding run_of
  runs_so =
      ap (λ x. private_run t.job.clauses levels (with_heights levels x) k) (reads job nodes t w a tree.placed s taken)
      ∙ ap (λ cs. private_run cs levels (with_heights levels (reading job here)) k) (sym same)
      ∙ gate.run
      ∙ ap (λ es. Some (map (joined_entry run.deferred) es)) over_catches.own_is

  pub answers_alone : (names : List VarName) → AreItsNames job nodes.rows names w a t → AnswersAlone t s k catches (terms_named task.region.store names)
  answers_alone names are = record {
    runs = record {
      answer = joined_continuation run.deferred front;
      over = map (joined_entry run.deferred) over_catches.below;
      run = runs_so;
      answers = ap without_marks (answer_items job nodes t w a clauses task tree s taken own_run next.0 next.1);
      spent = recoveries_joined run.deferred over_catches.below over_catches.catch;
      many = length-map over_catches.below (joined_entry run.deferred) ∙ over_catches.many;
    };
    named_are = answer_named job nodes t w a clauses task tree s taken own_run next.0 names are;
  }

pub answered_run_alone : AnsweredTasksRunAlone
answered_run_alone v w a k catches task names stand legal stopped alone are s taken =
    answers_alone v.history.job v.nodes (state_of v.history) w a k catches task (record { placed = stand.placed; legal = legal }) v.history.job.clauses
    (ap (λ (j : Job). j.clauses) (sym (job_of_state v.history))) stopped.stops stopped.next alone s taken names are
