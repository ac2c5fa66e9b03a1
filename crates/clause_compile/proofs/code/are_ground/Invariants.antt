use Rattle.std.proofs.Common.{◌≡◌, true, take, reverse}
use Rattle.std.specs.List.{list_all}
use Rattle.clause_compile.specs.Places.{is_ground_place}
use Rattle.clause_compile.proofs.code.are_ground.Given as goal

abbrev pub invariant-loop-argument : goal.invariant-loop-argument
invariant-loop-argument l = list_all is_ground_place (take l.argument (reverse l.stack)) ≡ true
