use Rattle.std.proofs.Common.{◌≡◌, ◌≤◌, ◌-◌, ◌^◌, min, length}
use Rattle.std.specs.Str.Parse.{digits_value, digits_value_after}
use Rattle.au_model.specs.Syntax.Characters.{after_run, run, is_digit_of, chars_from}
use Rattle.token_scan.specs.ScannedParts.{IsPlaceFrom}
use Rattle.token_scan.proofs.cursor.digits.Given as goal

abbrev pub invariant-loop-c : goal.invariant-loop-c
invariant-loop-c l = record {
  fits : l.number ≤ 2 ^ 64 - 1;
  place : IsPlaceFrom l.text l.at l.end;
  rest : after_run (is_digit_of l.base) (chars_from l.text l.end) ≡ after_run (is_digit_of l.base) (chars_from l.text l.at);
  number : min (digits_value_after l.base l.number (run (is_digit_of l.base) (chars_from l.text l.end))) (2 ^ 64 - 1)
      ≡ min (digits_value l.base (run (is_digit_of l.base) (chars_from l.text l.at))) (2 ^ 64 - 1);
}

abbrev pub decreases-loop-c : goal.decreases-loop-c
decreases-loop-c l = length l.text - l.end
