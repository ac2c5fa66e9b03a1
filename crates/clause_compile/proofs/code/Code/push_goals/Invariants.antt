use Rattle.std.proofs.Common.{take}
use Rattle.clause_compile.specs.GoalPlaces.{subterms_at}
use Rattle.clause_compile.specs.Places.{AreAllPlaced}
use Rattle.clause_compile.proofs.code.Code.push_goals.Given as goal

abbrev pub invariant-loop-at : goal.invariant-loop-at
invariant-loop-at l = AreAllPlaced l.fn.self l.self (subterms_at l.body (take l.at-index l.places)) l.goals.items
