use Rattle.std.proofs.Common.{length}
use Rattle.region_split.specs.SolutionTrials.{AreSolutionsHere}
use Rattle.front_goals.specs.SolvedSolutions.{IsRegionTakenBack}
use Rattle.front_goals.proofs.BranchLemmas.{AreFirst}
use Rattle.front_goals.proofs.branches.solution_branches.Given as goal

abbrev pub invariant-loop-solution : goal.invariant-loop-solution
invariant-loop-solution l = record {
  back : IsRegionTakenBack l.fn.region l.region l.fn.position;
  there : AreSolutionsHere l.fn.region l.left;
  first : AreFirst l.fn.region l.fn.node l.fn.follows l.fn.solutions l.left l.branches.items;
}

abbrev pub decreases-loop-solution : goal.decreases-loop-solution
decreases-loop-solution l = length l.left
