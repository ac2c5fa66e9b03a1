use Rattle.std.proofs.Common.{take}
use Rattle.clause_index.specs.Chains.{AreNamedFirsts, KnowKeysOf}
use Rattle.clause_index.proofs.index.put_keys.Given as goal

abbrev pub invariant-loop-head : goal.invariant-loop-head
invariant-loop-head l = AreNamedFirsts l.firsts l.named.items × KnowKeysOf (take l.head-index l.heads) l.named.items
