use Rattle.std.proofs.Common.{◌≡◌, drop}
use Rattle.text_load.specs.Directives.{indicators_among}
use Rattle.text_load.proofs.DirectiveLemmas.{after_found}
use Rattle.text_load.proofs.directive.indicators_in.Given as goal

abbrev pub invariant-loop-part : goal.invariant-loop-part
invariant-loop-part l = after_found l.procedures.items (indicators_among (drop l.part-index l.part-items)) ≡ indicators_among l.part-items
