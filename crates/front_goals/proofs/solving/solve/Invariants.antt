use Rattle.std.proofs.Common.{take}
use Rattle.region_split.specs.SolutionTrials.{AreAllSolved, equations_here}
use Rattle.front_goals.specs.SolvedSolutions.{KeepsMarked}
use Rattle.front_goals.proofs.solving.solve.Given as goal

abbrev pub invariant-loop-equation : goal.invariant-loop-equation
invariant-loop-equation l = record {
  solved : AreAllSolved l.fn.region l.region (equations_here l.fn.region (take l.equation-index l.equations));
  keeps : KeepsMarked l.fn.region.store l.region.store;
}
