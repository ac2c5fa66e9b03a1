use Rattle.branch_bindings.proofs.ExtensionLemmas.{extensions_compose, extensions_stay_older, extensions_are_final, nothing_extends}
use Rattle.branch_bindings.proofs.laws.extensions_compose.Goals as goal

pub returns : goal.returns
returns c = record { compose = extensions_compose; older = extensions_stay_older; last = extensions_are_final; nothing = nothing_extends }
