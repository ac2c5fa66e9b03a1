use Rattle.dyn_clauses.proofs.DatabaseLemmas.{abolish_kept, placed_same}
use Rattle.dyn_clauses.proofs.database.abolish.Goals as goal

pub returns-in-Some-clause-kept : goal.returns-in-Some-clause-kept
returns-in-Some-clause-kept c =
    abolish_kept c.args.procedures.now c.remove.new.self c.args.places.now c.drop_places.new.places c.args.procedure.now c.in-Some.gone c.requires c.in-Some.ensures.ordered c.in-Some.ensures.value c.in-Some.ensures.updates.0 c.drop_places.ensures

pub returns-in_default-clause-kept : goal.returns-in_default-clause-kept
returns-in_default-clause-kept c = placed_same c.args.procedures.now c.remove.new.self c.args.places.now c.requires c.in_default.ensures.ordered c.in_default.ensures.unchanged
