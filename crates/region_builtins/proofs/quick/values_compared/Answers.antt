use Rattle.std.proofs.lemmas.Result.{IfOk-weaker}
use Rattle.std_builtins.specs.Meanings.{value_test}
use Rattle.region_builtins.proofs.quick.values_compared.Goals as goal

pub returns-in-Err : goal.returns-in-Err
returns-in-Err c = IfOk-weaker c.refused.result _ _ (λ q h. h c.args.store.now _ (c.in-Err.ensures.error (value_test c.args.test))) c.refused.ensures
