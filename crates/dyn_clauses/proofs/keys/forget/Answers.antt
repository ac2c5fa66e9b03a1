use Rattle.std.proofs.Common.{Some, refl}
use Rattle.dyn_clauses.proofs.PositionIndexLemmas.{noted_set, noted_dropped, noted_none, some_there}
use Rattle.proc_index.specs.ProcedureIndex.{key_cmp}
use Rattle.std.proofs.Common.{false}
use Rattle.std.specs.BTreeMap.{get}
use Rattle.dyn_clauses.proofs.keys.forget.Goals as goal

pub returns-in_default : goal.returns-in_default
returns-in_default c = noted_none c.args.index.now c.get_mut.follows.lender-at-none c.args.key.now c.args.position c.in_default.ensures.value c.get_mut.follows.holds-at-none

pub returns-then-is_empty : goal.returns-then-is_empty
returns-then-is_empty c =
    let w = c.remove.new.self in
    let there = c.in-Some.ensures.value in
    let set = (c.get_mut.follows.holds w).3 (some_there c.in-Some.positions.now (get key_cmp c.args.index.now c.args.key.now) there) in
    noted_dropped c.args.index.now c.remove-then-is_empty.new.self c.args.key.now c.args.position (c.get_mut.follows.lender w) c.in-Some.positions.now w there set.0 c.remove.ensures.updates.0 (c.if-is_empty.ensures.0 refl) c.remove-then-is_empty.ensures.updates.0

pub returns-else-is_empty : goal.returns-else-is_empty
returns-else-is_empty c =
    let w = c.remove.new.self in
    let there = c.in-Some.ensures.value in
    let set = (c.get_mut.follows.holds w).3 (some_there c.in-Some.positions.now (get key_cmp c.args.index.now c.args.key.now) there) in
    noted_set c.args.index.now (c.get_mut.follows.lender w) c.args.key.now c.args.position (Some c.in-Some.positions.now) w false there set.0 c.remove.ensures.updates.0
