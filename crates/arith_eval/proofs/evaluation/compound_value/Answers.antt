use Rattle.std.proofs.Common.{◌-◌, arith}
use Rattle.std.proofs.lemmas.Result.{IfOk-weaker}
use Rattle.arith_eval.proofs.Stacks.{wide_value}
use Rattle.arith_eval.proofs.evaluation.compound_value.Goals as goal

pub returns : goal.returns
returns c = λ ts h.
    IfOk-weaker c.not_evaluable.result _ _ (λ v e. wide_value c.args.name.now c.args.arity (c.len.result - c.args.arity) c.args.values.now.items _ ts v c.if-arity-eq1.false c.if-arity-eq2.false c.requires (omega arith) c.truncate.ensures.items h e) c.not_evaluable.ensures
