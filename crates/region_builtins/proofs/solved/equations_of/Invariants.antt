use Rattle.std.proofs.Common.{◌≡◌, map, take}
use Rattle.region_builtins.specs.CopiedSolutions.{copied_equation}
use Rattle.region_builtins.proofs.solved.equations_of.Given as goal

abbrev pub invariant-loop-sides : goal.invariant-loop-sides
invariant-loop-sides l = l.equations.items ≡ map copied_equation (take l.sides-index l.found)
