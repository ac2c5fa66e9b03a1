-- The greatest priorities of an operator's operands.
use Rattle.std.proofs.Common.{◌≤◌, ℕ, ◌-◌, Bool, true, false, if◌then◌else◌, arith}
use Rattle.au_model.specs.Syntax.Operators.{Operator}
use Rattle.au_model.specs.Syntax.PostOperators.{left_bound, takes_equal_left}

pub bound_le : (b : Bool) (n : ℕ) → (if b then n else n - 1) ≤ n
bound_le true n = omega arith
bound_le false n = omega arith

pub left_bound-le : (o : Operator) → left_bound o ≤ o.priority
left_bound-le o = bound_le (takes_equal_left o.kind) o.priority
