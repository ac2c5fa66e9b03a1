-- What a reader expects at its place.
use Rattle.std.specs.Prelude.{ℕ, Bool, true, false, Option, Some, None}
use Rattle.term_reader.specs.declared.state.Expected.{Expected}
use Rattle.term_reader.specs.declared.state.Expected.TheVariants.{Operand, Operator}
use Rattle.term_reader.specs.declared.state.LastOperand.{LastOperand}
use Rattle.term_reader.specs.declared.state.LastOperand.TheVariants.{Whole, LonePrefix}

-- whether the token after it might have been its operand
abbrev pub may_take_operand : LastOperand → Bool
may_take_operand Whole = false
may_take_operand LonePrefix = true

-- the priority of the operand that is there
abbrev pub expected_after : Expected → Option ℕ
expected_after Operand = None
expected_after (Operator priority last) = Some priority

-- whether that operand might have taken one itself
abbrev pub last_may_take : Expected → Bool
last_may_take Operand = false
last_may_take (Operator priority last) = may_take_operand last
