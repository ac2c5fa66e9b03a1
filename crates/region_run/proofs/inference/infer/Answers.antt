use Rattle.std.proofs.Common.{ap}
use Rattle.std.proofs.lemmas.Result.{IfOk-weaker}
use Rattle.region_run.specs.Inferences.{item_goal}
use Rattle.region_run.proofs.InferenceLemmas.{item_infers, call_infers, cut_infers, true_infers, fail_infers}
use Rattle.region_run.proofs.inference.infer.Goals as goal

pub returns-in-Call-clause-infers : goal.returns-in-Call-clause-infers
returns-in-Call-clause-infers c =
    let r = c.args.region.now in
    IfOk-weaker c.called.result _ _ (λ after k. item_infers r c.called.new.region c.args.item c.args.place after _ (ap (item_goal r.store) c.in-Call.is) (call_infers r c.called.new.region c.in-Call.goal c.args.place after k)) c.called.ensures.comes

pub returns-in-Cut-clause-infers : goal.returns-in-Cut-clause-infers
returns-in-Cut-clause-infers c =
    let r = c.args.region.now in
    item_infers r c.cut.new.region c.args.item c.args.place _ _ (ap (item_goal r.store) c.in-Cut.is) (cut_infers r c.cut.new.region c.args.place c.cut.ensures)

pub returns-in-True-clause-infers : goal.returns-in-True-clause-infers
returns-in-True-clause-infers c =
    let r = c.args.region.now in
    item_infers r r c.args.item c.args.place _ _ (ap (item_goal r.store) c.in-True.is) (true_infers r c.args.place c.requires.there.place)

pub returns-in-Fail-clause-infers : goal.returns-in-Fail-clause-infers
returns-in-Fail-clause-infers c =
    let r = c.args.region.now in
    item_infers r r c.args.item c.args.place _ _ (ap (item_goal r.store) c.in-Fail.is) (fail_infers r c.args.place)
