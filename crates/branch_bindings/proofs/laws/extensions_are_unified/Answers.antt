use Rattle.branch_bindings.proofs.ExtendedUnifierLemmas.{unified_bindings_extend}
use Rattle.branch_bindings.proofs.SettledBindingLemmas.{settled_are_unified}
use Rattle.branch_bindings.proofs.SettledExtensionLemmas.{settled_bindings_extend}
use Rattle.branch_bindings.proofs.laws.extensions_are_unified.Goals as goal

pub returns : goal.returns
returns c = record { unified = unified_bindings_extend; settled = settled_bindings_extend; free = settled_are_unified }
