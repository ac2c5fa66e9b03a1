use Rattle.std.proofs.Common.{◌≡◌, ◌-◌, length}
use Rattle.au_model.specs.Syntax.Characters.{chars_from}
use Rattle.au_model.specs.Syntax.Layout.{after_layout}
use Rattle.token_scan.specs.ScannedParts.{IsPlaceFrom}
use Rattle.token_scan.proofs.layout.skip_layout.Given as goal

abbrev pub invariant-loop-c : goal.invariant-loop-c
invariant-loop-c l = IsPlaceFrom l.text l.at l.here
    × (after_layout (chars_from l.text l.at) ≡ after_layout (chars_from l.text l.here))

abbrev pub decreases-loop-c : goal.decreases-loop-c
decreases-loop-c l = length l.text - l.here
