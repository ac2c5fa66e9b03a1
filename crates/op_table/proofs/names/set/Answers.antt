use Rattle.std.specs.Str.{chars}
use Rattle.op_table.specs.OperatorView.{class_meant}
use Rattle.op_table.proofs.MapLemmas.{IsSet, set_there, set_absent}
use Rattle.op_table.proofs.names.set.Goals as goal
use Rattle.op_table.proofs.names.set.Goals.{After-names-in-Some-1}

done : (c : After-names-in-Some-1) → IsSet c.args.names.now (c.get_mut.follows.lender c.with.result) (class_meant c.args.class) c.args.operator (chars c.args.name.now)
done c =
    let held = c.get_mut.follows.holds c.with.result in
    set_there c.args.names.now (c.get_mut.follows.lender c.with.result) (class_meant c.args.class) c.args.operator c.args.name.now c.in-Some.operators.now c.with.result c.utf8.name c.requires.names c.requires.class
    c.in-Some.ensures.value c.with.ensures held.0 held.4

pub returns-in-Some-clause-names : goal.returns-in-Some-clause-names
returns-in-Some-clause-names c = (done c).names

pub returns-in-Some-clause-rows : goal.returns-in-Some-clause-rows
returns-in-Some-clause-rows c = (done c).rows

pub returns-in-Some-clause-kept : goal.returns-in-Some-clause-kept
returns-in-Some-clause-kept c = (done c).kept

pub returns-in_default-clause-rows : goal.returns-in_default-clause-rows
returns-in_default-clause-rows c =
    set_absent c.args.names.now c.get_mut.follows.lender-at-none (class_meant c.args.class) c.args.operator c.args.name.now c.utf8.name c.requires.there c.in_default.ensures.value c.get_mut.follows.holds-at-none
