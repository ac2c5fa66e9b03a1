use Rattle.std.proofs.Common.{subst}
use Rattle.std.specs.Prelude.{MatchOption, codes}
use Rattle.std.proofs.lemmas.Result.{IfOk-weaker}
use Rattle.cell_store.specs.StoreView.{StoreView}
use Rattle.region_control.specs.Sides.{HasNoSides, HasSides}
use Rattle.region_control.proofs.GoalLemmas.{body_put}
use Rattle.region_control.proofs.goals.push_body.Goals as goal

pub returns-in-None-clause-ok : goal.returns-in-None-clause-ok
returns-in-None-clause-ok c =
    let alone = subst (λ (st : StoreView). HasNoSides st c.args.body (codes ",")) c.store.ensures.store (subst (λ o. MatchOption o (HasNoSides c.store.result.now c.args.body (codes ",")) (HasSides c.store.result.now c.args.body (codes ","))) c.in-None.is c.sides.ensures) in
    IfOk-weaker c.push_item.result _ _ (λ p put. body_put c.args.region.now c.push_item.new.self c.args.body c.args.cut c.args.after p alone put) c.push_item.ensures.ok
