use Rattle.std.proofs.Common.{◌≡◌, ◌-◌, length}
use Rattle.au_model.specs.Syntax.Characters.{after_run, chars_from}
use Rattle.token_scan.specs.ScannedParts.{passes, IsPlaceFrom}
use Rattle.token_scan.proofs.cursor.run_end.Given as goal

abbrev pub invariant-loop-c : goal.invariant-loop-c
invariant-loop-c l = IsPlaceFrom l.text l.at l.end
    × (after_run (passes l.class) (chars_from l.text l.end) ≡ after_run (passes l.class) (chars_from l.text l.at))

abbrev pub decreases-loop-c : goal.decreases-loop-c
decreases-loop-c l = length l.text - l.end
