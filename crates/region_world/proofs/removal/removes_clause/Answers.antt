use Rattle.clause_compile.specs.declared.item.ClauseId.{ClauseId}
use Rattle.region_world.proofs.RemovalLemmas.{was_there, was_gone, never_other}
use Rattle.region_world.proofs.removal.removes_clause.Goals as goal

pub returns-in-Went-clause-removes : goal.returns-in-Went-clause-removes
returns-in-Went-clause-removes c = let id : ClauseId = record { 0 = c.args.number } in was_there id c.args.world.now c.apply.new.self c.in_ok-apply.field-0 c.in-Went.is c.in_ok-apply.ensures.applied

pub returns-in-Fails-clause-removes : goal.returns-in-Fails-clause-removes
returns-in-Fails-clause-removes c = let id : ClauseId = record { 0 = c.args.number } in was_gone id c.args.world.now c.apply.new.self c.in_ok-apply.field-0 c.in-Fails.is c.in_ok-apply.ensures.applied

pub unreachable-requires : goal.unreachable-requires
unreachable-requires c = let id : ClauseId = record { 0 = c.args.number } in never_other id c.args.world.now c.apply.new.self c.in_ok-apply.field-0 c.in_ok-apply.ensures.applied c.in_default.not-Went c.in_default.not-Fails
