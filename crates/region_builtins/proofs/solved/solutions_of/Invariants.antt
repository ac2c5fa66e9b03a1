use Rattle.std.proofs.Common.{◌≡◌, map, take}
use Rattle.std_builtins.specs.Answers.{solution_meant}
use Rattle.region_builtins.specs.CopiedSolutions.{copied_solution}
use Rattle.region_builtins.proofs.solved.solutions_of.Given as goal

abbrev pub invariant-loop-solution : goal.invariant-loop-solution
invariant-loop-solution l = l.solutions.items ≡ map copied_solution (map solution_meant (take l.solution-index l.found))
