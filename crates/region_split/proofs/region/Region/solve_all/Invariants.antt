use Rattle.std.proofs.Common.{take}
use Rattle.region_split.specs.SolutionTrials.{AreAllSolved, equations_here}
use Rattle.region_split.proofs.region.Region.solve_all.Given as goal

abbrev pub invariant-loop-equation : goal.invariant-loop-equation
invariant-loop-equation l = AreAllSolved l.fn.self l.self (equations_here l.fn.self (take l.equation-index l.equations))
