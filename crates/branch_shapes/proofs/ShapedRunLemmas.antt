-- Bodies that are made of choice points can be published.
use Rattle.std.proofs.Common.{ℕ, List, sym, subst}
use Rattle.run_model.specs.Programs.Jobs.{Job}
use Rattle.tree_model.specs.Levels.{Spot, levels_of}
use Rattle.tree_model.specs.TreeStates.{TreeState}
use Rattle.tree_nodes.specs.Bodies.{Body}
use Rattle.tree_nodes.specs.Rows.{Rows}
use Rattle.branch_reading.specs.BranchSegments.{segments_on, binding_equations, bindings_on, next_number}
use Rattle.branch_bindings.proofs.ExtendedUnifierLemmas.{unifiers_stand_for_older, unifiers_are_final}
use Rattle.branch_shapes.specs.MeantBranches.{Placement}
use Rattle.branch_shapes.specs.MeantRuns.{MeanRun, placement_at, RunIsMeant}
use Rattle.branch_shapes.specs.ShapedRuns.{RunIsShaped, ShapedRunsRead}
use Rattle.branch_shapes.proofs.MeantRunLemmas.{meant_runs_read}
use Rattle.branch_shapes.proofs.ShapedBodyLemmas.{shaped_bodies_mean}

module _ (job : Job) (rows : Rows) (bodies : List Body) (k : ℕ) (t : TreeState) (s : Spot) (h : RunIsShaped job rows bodies k t s) where
  abbrev at : Placement
  at = placement_at job h.way t.next (levels_of s) h.groups

  abbrev next : ℕ
  next = next_number (segments_on h.way)

  run_is_meant : RunIsMeant job rows bodies k t s
  run_is_meant =
      let equations = binding_equations (bindings_on (segments_on h.way)) in
      let means = shaped_bodies_mean at h.before next h.choices h.branch h.current (unifiers_stand_for_older equations h.before h.binds.unified)
      (unifiers_are_final equations h.before h.binds.unified) h.stand in
      record {
        current = h.current;
        groups = h.groups;
        run = h.run;
        way = h.way;
        path = h.path;
        before = h.before;
        binds = h.binds;
        means = subst (λ bs. MeanRun at next h.before bs h.current) (sym h.made) means;
      }

pub shaped_runs_read : ShapedRunsRead
shaped_runs_read job rows bodies w a k t h = meant_runs_read job rows bodies w a k t (λ s out. run_is_meant job rows bodies k t s (h s out))
