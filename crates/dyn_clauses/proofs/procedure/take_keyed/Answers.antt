use Rattle.std.proofs.Common.{◌∙◌, ap, sym, refl}
use Rattle.std.specs.Option.{is_some}
use Rattle.dyn_clauses.proofs.ProcedureLemmas.{found_placed, take_is, take_placed}
use Rattle.dyn_clauses.proofs.procedure.take_keyed.Goals as goal

pub returns-in_default-clause-found : goal.returns-in_default-clause-found
returns-in_default-clause-found c = sym (found_placed c.args.clauses.now c.args.position ∙ ap is_some (sym c.in_default.ensures.value))

pub returns-in_default-clause-taken : goal.returns-in_default-clause-taken
returns-in_default-clause-taken c = take_placed c.args.clauses.now c.remove.new.self c.args.position c.requires.ordered c.remove.ensures.entries

pub returns-clause-kept : goal.returns-clause-kept
returns-clause-kept c =
    take_is c.args.clauses.now c.remove.new.self c.args.index.now c.forget.new.index c.args.position c.in-Some.kept.key c.requires c.in-Some.kept refl (sym c.in-Some.ensures.value)
    c.remove.ensures.entries c.remove.ensures.updates.0 c.remove.ensures.ordered c.forget.ensures

pub returns-clause-found : goal.returns-clause-found
returns-clause-found c = sym (found_placed c.args.clauses.now c.args.position ∙ ap is_some (sym c.in-Some.ensures.value))

pub returns-clause-taken : goal.returns-clause-taken
returns-clause-taken c = take_placed c.args.clauses.now c.remove.new.self c.args.position c.requires.ordered c.remove.ensures.entries
