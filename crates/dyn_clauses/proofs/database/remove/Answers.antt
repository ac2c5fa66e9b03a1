use Rattle.std.proofs.Common.{◌∙◌, ap, sym}
use Rattle.dyn_clauses.specs.DatabaseView.{procedures_meant}
use Rattle.dyn_clauses.proofs.DatabaseLemmas.{any_numbered, none_numbered, placed_none, remove_kept, taken_numbered}
use Rattle.dyn_clauses.proofs.database.remove.Goals as goal

pub returns-in_default-clause-kept : goal.returns-in_default-clause-kept
returns-in_default-clause-kept c = placed_none c.args.procedures.now c.args.places.now c.remove.new.self c.args.number c.requires (sym c.in_default.ensures.value) c.in_default.ensures.updates.0

pub returns-in_default-clause-found : goal.returns-in_default-clause-found
returns-in_default-clause-found c = sym (none_numbered c.args.procedures.now c.args.places.now c.requires c.args.number (sym c.in_default.ensures.value))

pub returns-clause-kept : goal.returns-clause-kept
returns-clause-kept c =
    remove_kept c.args.procedures.now c.take.new.procedures c.args.places.now c.remove.new.self c.args.number c.in-Some.place c.requires (sym c.in-Some.ensures.value) c.take.ensures.ordered c.take.ensures.clauses c.in-Some.ensures.updates.0

pub returns-clause-found : goal.returns-clause-found
returns-clause-found c = sym (any_numbered c.args.procedures.now c.args.places.now c.args.number c.in-Some.place c.requires (sym c.in-Some.ensures.value))

pub returns-clause-taken : goal.returns-clause-taken
returns-clause-taken c =
    ap procedures_meant c.take.ensures.taken ∙ taken_numbered c.args.procedures.now c.args.places.now c.requires c.args.number c.in-Some.place (sym c.in-Some.ensures.value)
