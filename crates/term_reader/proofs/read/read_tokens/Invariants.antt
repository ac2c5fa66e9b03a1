use Rattle.std.proofs.Common.{◌≡◌, ◌-◌, length}
use Rattle.token_scan.specs.ScannedParts.{IsPlaceFrom}
use Rattle.term_reader.specs.PrimaryView.{setting_of}
use Rattle.term_reader.specs.Expectations.{expected_after, last_may_take}
use Rattle.term_reader.specs.Positions.{Position, IsAtPosition, HasReadTo, priority_of_operand}
use Rattle.term_reader.proofs.read.read_tokens.Given as goal

abbrev pub invariant-tokens : goal.invariant-tokens
invariant-tokens l = record {
  place : IsPlaceFrom l.source.text.now l.at l.state.at;
  position : Position;
  at_position : IsAtPosition l.state position;
  expected_is : expected_after l.expected ≡ priority_of_operand position;
  read_to : HasReadTo (setting_of l.source) l.source.text.now l.at position l.state.at (last_may_take l.expected);
}

abbrev pub decreases-tokens : goal.decreases-tokens
decreases-tokens l = length l.source.text.now - l.state.at
