use Rattle.std.proofs.Common.{◌≡◌, take}
use Rattle.region_capture.specs.CapturedMeanings.{captured_bindings}
use Rattle.branch_bindings.specs.ExtensionLaws.{written_bindings}
use Rattle.region_capture.proofs.writing.written_values.Given as goal

abbrev pub invariant-loop-variable : goal.invariant-loop-variable
invariant-loop-variable l = captured_bindings l.bindings ≡ written_bindings l.store (take l.variable-index l.made)
