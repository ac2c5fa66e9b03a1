-- The bodies that are made of a task read as the entries to which its run has come.
use Rattle.std.proofs.Common.{◌≡◌, ℕ, ◌≤◌, true, List, length, map, Option, Some, None, refl, sym, ap, ◌∙◌, subst, arith}
use Rattle.std.specs.Prelude.{IsSome, is_some}
use Rattle.run_model.specs.Machine.Entries.{Entry}
use Rattle.run_model.specs.Programs.Jobs.{Job}
use Rattle.au_model.specs.Terms.Named.{NamedTerm}
use Rattle.region_floor.specs.Deferred.{joined_entry}
use Rattle.region_floor.specs.RegionRuns.{RegionRun}
use Rattle.region_floor.specs.RunLaws.{GoalsRest, TopsAreOwn}
use Rattle.task_region.specs.TaskViews.{TaskView}
use Rattle.tree_model.specs.Floors.{with_heights}
use Rattle.tree_model.specs.LegalTrees.{IsLegalTree}
use Rattle.tree_model.specs.Legality.{run_of, taken_at}
use Rattle.tree_model.specs.Levels.{Level, Place, Spot, levels_of}
use Rattle.tree_model.specs.Nodes.{Pending}
use Rattle.tree_model.specs.PrivateRuns.{private_run}
use Rattle.tree_model.specs.TreeStates.{TreeState}
use Rattle.tree_nodes.specs.Bodies.{Body, Branching}
use Rattle.tree_nodes.specs.Rows.{cell_at}
use Rattle.tree_nodes.specs.TreeTables.{NodesView, IsTableOf}
use Rattle.public_tree.specs.Publishing.{AreWhole, RunReadsAs}
use Rattle.branch_reading.specs.BranchSegments.{segments_on, next_number}
use Rattle.branch_reading.specs.NumberedReadings.{NumberedTreesAreSettled}
use Rattle.branch_reading.specs.Readings.{named_of, query_on, reading}
use Rattle.branch_reading.specs.SettledWays.{items_on}
use Rattle.task_region.specs.TaskLoads.{run_on_branch, IsBoundOnBranch, StartsOnBranch}
use Rattle.task_region.proofs.BranchLoadLemmas.{settled_bindings}
use Rattle.branch_bindings.specs.ExtensionLaws.{SettledAreUnified}
use Rattle.branch_shapes.specs.ExtendedWays.{SettledSegmentsBind}
use Rattle.branch_shapes.specs.FloorItems.{ScopedItemsNameLevels}
use Rattle.branch_shapes.specs.MeantRuns.{MeanRun, placement_at, MeantRunsFit, RunIsMeant, MeantRunsRead}
use Rattle.task_publishing.specs.OwnBodies.{HasOwn, HasSomeOwn, CanBePublished, MeanOwn, MeanFromStart, MeanTask}
use Rattle.task_publishing.specs.TaskRuns.{HasStopped, StopsThere}
use Rattle.task_publishing.proofs.StoppedLemmas.{ComesToRest, come_to_rest}
use Rattle.task_publishing.proofs.SpotLemmas.{at, table, way, on, reads, cell_there, can_be_published}

module _ (job : Job) (nodes : NodesView) (t : TreeState) (w : ℕ) (a : Place) (k : ℕ) (some : 1 ≤ k) (task : TaskView) (placed : IsTableOf nodes (reading job) t.root)
    (stops : StopsThere nodes a t.job.clauses k task) (next : IsSome task.next) (rests : GoalsRest) (tops : TopsAreOwn) where
  module _ (s : Spot) (taken : taken_at w a t ≡ Some s) where
    abbrev levels : List Level
    levels = levels_of s

    abbrev here : Branching
    here = way job nodes t w a placed s taken

    abbrev named : List NamedTerm
    named = named_of (query_on job here)

    abbrev run : RegionRun
    run = run_on_branch t.job.clauses levels job here

    stopped : HasStopped t.job.clauses levels job here k task
    stopped =
        stops job (reading job) s.level s.above (Pending s.hold s.entry) here (at job nodes t w a placed s taken) (table job nodes t w a placed s taken)
        (on job nodes t w a placed s taken)

    rest : ComesToRest run k named task
    rest = come_to_rest run k named task stopped.stop rests tops next stopped.next stopped.stops

    has : HasOwn levels named (items_on here) task rest.own
    has = record { floor = rest.run_is.levels; deferred = sym rest.run_is.items; are_own = rest.are_own; entries = rest.entries }

    run_there : run_of t s k ≡ Some (map (joined_entry run.deferred) rest.own)
    unfolding run_of
    run_there =
        ap (λ x. private_run t.job.clauses levels (with_heights levels x) k) (reads job nodes t w a placed s taken) ∙ rest.run

    own_there : HasSomeOwn task
    own_there = record {
      some = let f = has.floor in omega (arith, f);
      levels = levels;
      named = named;
      items = items_on here;
      own = rest.own;
      has = has;
    }

    module _ (bodies : List Body) (mean : MeanTask nodes a task bodies) (start : StartsOnBranch nodes a task) (number : length nodes.rows ≡ t.next)
        (legal : IsLegalTree t) (numbered : NumberedTreesAreSettled) (scoped : ScopedItemsNameLevels) (bind : SettledSegmentsBind)
        (unified : SettledAreUnified) where
      can : CanBePublished job levels here
      can = can_be_published job nodes t w a placed s taken legal numbered scoped bind unified k _ some run_there

      from : MeanFromStart job (length nodes.rows) levels here task bodies rest.own
      from =
          mean job (reading job) s.level s.above (Pending s.hold s.entry) here rest.own (at job nodes t w a placed s taken)
          (table job nodes t w a placed s taken) (on job nodes t w a placed s taken) can has

      bound : IsBoundOnBranch here task.region.store.floor
      bound =
          start job (reading job) s.level s.above (Pending s.hold s.entry) here (at job nodes t w a placed s taken)
          (table job nodes t w a placed s taken) (on job nodes t w a placed s taken)

      meant : MeanOwn job (length nodes.rows) levels here task.region.store.floor.bound bodies rest.own
      meant = from bound

      run_is_meant : RunIsMeant job nodes.rows bodies k t s
      run_is_meant = record {
        current = meant.current;
        groups = meant.groups;
        run = run_there ∙ ap (λ (es : List Entry). Some es) meant.entries;
        way = here;
        path = on job nodes t w a placed s taken;
        before = task.region.store.floor.bound;
        binds = bind (segments_on here) task.region.store.floor.bound (settled_bindings here can.settled) bound.bound;
        means = subst (λ n. MeanRun (placement_at job here n levels meant.groups) (next_number (segments_on here)) task.region.store.floor.bound bodies meant.current)
            number meant.means;
      }

      whole_there : MeantRunsFit → AreWhole bodies
      whole_there fit =
          (fit (placement_at job here (length nodes.rows) levels meant.groups) (next_number (segments_on here)) task.region.store.floor.bound bodies meant.current
          meant.means).2

  pub run_reads : (bodies : List Body) → MeanTask nodes a task bodies → StartsOnBranch nodes a task → length nodes.rows ≡ t.next → IsLegalTree t
      → NumberedTreesAreSettled → ScopedItemsNameLevels → SettledSegmentsBind → SettledAreUnified → MeantRunsRead → RunReadsAs nodes.rows bodies w a k (reading job) t
  run_reads bodies mean start number legal numbered scoped bind unified law =
      law job nodes.rows bodies w a k t (λ s taken. run_is_meant s taken bodies mean start number legal numbered scoped bind unified)

  spot : (o : Option Spot) → is_some o ≡ true → (s : Spot) × (o ≡ Some s)
  spot None out = absurd (cc out)
  spot (Some s) out = (s, refl)

  pub bodies_whole : (bodies : List Body) → MeanTask nodes a task bodies → StartsOnBranch nodes a task → length nodes.rows ≡ t.next → IsLegalTree t
      → NumberedTreesAreSettled → ScopedItemsNameLevels → SettledSegmentsBind → SettledAreUnified → MeantRunsFit → is_some (taken_at w a t) ≡ true → AreWhole bodies
  bodies_whole bodies mean start number legal numbered scoped bind unified fit out =
      let s = spot (taken_at w a t) out in whole_there s.0 s.1 bodies mean start number legal numbered scoped bind unified fit

  pub has_own : is_some (taken_at w a t) ≡ true → HasSomeOwn task
  has_own out = let s = spot (taken_at w a t) out in own_there s.0 s.1

  pub is_there : is_some (taken_at w a t) ≡ true → IsSome (cell_at nodes.rows a)
  is_there out = let s = spot (taken_at w a t) out in cell_there job nodes t w a placed s.0 s.1
