use Rattle.std.proofs.Common.{◌∙◌, sym}
use Rattle.std.specs.Str.{chars}
use Rattle.op_table.proofs.MapLemmas.{IsPlaced, has_name, placed}
use Rattle.op_table.proofs.names.make_place.Goals as goal
use Rattle.op_table.proofs.names.make_place.Goals.{In_ok-insert}

pub returns-then-contains_key-clause-there : goal.returns-then-contains_key-clause-there
returns-then-contains_key-clause-there c = has_name c.args.names.now c.args.name.now c.utf8.name (sym c.contains_key.ensures ∙ c.if-contains_key.true)

made : (c : In_ok-insert) → IsPlaced c.args.names.now c.insert.new.self (chars c.args.name.now)
made c =
    placed c.args.names.now c.insert.new.self c.args.name.now c.in_ok-from_str.field-0 c.none.result c.utf8.name c.requires (sym c.contains_key.ensures ∙ c.if-contains_key.false)
    c.in_ok-from_str.ensures.ok c.none.ensures c.in_ok-insert.ensures.entries c.in_ok-insert.ensures.ordered

pub returns-clause-names : goal.returns-clause-names
returns-clause-names c = (made c).names

pub returns-clause-rows : goal.returns-clause-rows
returns-clause-rows c = (made c).rows

pub returns-clause-there : goal.returns-clause-there
returns-clause-there c = (made c).there

pub returns-clause-kept : goal.returns-clause-kept
returns-clause-kept c = (made c).kept
