use Rattle.std.proofs.Common.{refl, subst}
use Rattle.cell_store.specs.StoreView.{meaning}
use Rattle.region_control.proofs.ControlLemmas.{place_in}
use Rattle.region_split.specs.ClauseTrials.{Calls}
use Rattle.region_run.proofs.InferenceLemmas.{called_at, called_none}
use Rattle.region_run.proofs.inference.procedure_called.Goals as goal

pub call-requires-clause-after : goal.call-requires-clause-after
call-requires-clause-after c = place_in c.args.region.now c.args.place c.requires.place

pub returns-in-Some-clause-infers : goal.returns-in-Some-clause-infers
returns-in-Some-clause-infers c =
    let r = c.args.region.now in
    let calls = subst (Calls r c.call.new.self c.args.goal c.args.place.after) c.in-Some.is c.in_ok-position.ensures in
    called_at r (meaning r.store c.args.goal) c.args.place c.requires.callable c.requires.row c.requires.defined c.call.new.self c.args.goal refl c.in-Some.position calls

pub returns-in-None-clause-infers : goal.returns-in-None-clause-infers
returns-in-None-clause-infers c =
    let r = c.args.region.now in
    let calls = subst (Calls r c.call.new.self c.args.goal c.args.place.after) c.in-None.is c.in_ok-position.ensures in
    called_none r (meaning r.store c.args.goal) c.args.place c.requires.callable c.requires.row c.requires.defined c.call.new.self c.args.goal refl calls
