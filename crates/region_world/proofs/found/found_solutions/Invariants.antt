use Rattle.std.proofs.Common.{◌≡◌, map, take}
use Rattle.clause_compile.specs.CompiledClauses.{shown}
use Rattle.region_world.specs.FoundSolutions.{found_solution}
use Rattle.region_world.proofs.found.found_solutions.Given as goal

abbrev pub invariant-loop-found : goal.invariant-loop-found
invariant-loop-found l = l.solutions.items ≡ map (found_solution l.matching l.base) (map shown (take l.found-index l.found))
