use Rattle.std.proofs.lemmas.Result.{IfOk-weaker}
use Rattle.cell_store.specs.StoreView.{meaning}
use Rattle.region_builtins.proofs.quick.is.Goals as goal

pub returns-in-Err : goal.returns-in-Err
returns-in-Err c = IfOk-weaker c.refused.result _ _ (λ q h. h c.args.store.now _ (c.in-Err.ensures.error (meaning c.args.store.now c.args.left))) c.refused.ensures
