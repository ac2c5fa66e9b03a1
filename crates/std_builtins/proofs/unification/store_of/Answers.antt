use Rattle.std.proofs.Common.{◌∙◌}
use Rattle.std_builtins.proofs.UnificationLemmas.{next_taken, none_bound}
use Rattle.std_builtins.proofs.unification.store_of.Goals as goal

pub returns-clause-next : goal.returns-clause-next
returns-clause-next c = next_taken _ _ _ _ c.in_ok-store.ensures.new c.in_ok-fresh.ensures.ok

pub returns-clause-bound : goal.returns-clause-bound
returns-clause-bound c = none_bound _ _ _ _ c.in_ok-store.ensures.new c.in_ok-fresh.ensures.ok
