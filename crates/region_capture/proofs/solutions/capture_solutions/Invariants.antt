use Rattle.std.proofs.Common.{length}
use Rattle.region_split.specs.Regions.{IsPositionIn}
use Rattle.region_split.specs.SolutionTrials.{AreSolutionsHere}
use Rattle.region_split.specs.declared.choice.Alternatives.TheVariants.{Solutions}
use Rattle.region_capture.specs.CaptureSteps.{CapturesUpTo, entries_here}
use Rattle.region_capture.specs.declared.captured.CapturedKind.TheVariants.{Choice}
use Rattle.region_capture.proofs.solutions.capture_solutions.Given as goal

abbrev pub invariant-loop-solution : goal.invariant-loop-solution
invariant-loop-solution l = record {
  captured : CapturesUpTo Choice l.fn.region l.region l.fn.items l.items (entries_here l.fn.region (Solutions l.fn.solutions) l.fn.after) (entries_here l.region (Solutions l.left) l.fn.after) l.alternatives.items;
  there : AreSolutionsHere l.region l.left;
  position : IsPositionIn l.region l.fn.after;
}

abbrev pub decreases-loop-solution : goal.decreases-loop-solution
decreases-loop-solution l = length l.left
