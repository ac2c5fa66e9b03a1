use Rattle.std.proofs.Common.{get_or, None, sym, subst}
use Rattle.clause_index.specs.Chains.{AreNamedFirsts}
use Rattle.clause_index.proofs.NamedLemmas.{firsts_changed}
use Rattle.clause_index.proofs.index.named_firsts.Goals as goal

pub loop-head-preserved : goal.loop-head-preserved
loop-head-preserved c =
    subst (AreNamedFirsts c.args.firsts.now) (sym c.put_firsts.ensures)
    (firsts_changed c.args.firsts.now c.loop-head.named.items (get_or c.args.heads.now c.loop-head.head-index (record { name = 0; arity = 0; first = None })).name c.firsts_of.result c.firsts_of.ensures c.loop-head.invariant)
