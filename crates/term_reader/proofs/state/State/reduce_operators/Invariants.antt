use Rattle.std.proofs.Common.{◌≡◌, List, ℕ, vec_len}
use Rattle.au_model.specs.Syntax.Primaries.{Setting}
use Rattle.au_model.specs.Syntax.Trees.{Tree}
use Rattle.term_reader.specs.LexemeView.{post_operator_meant}
use Rattle.term_reader.specs.Completion.{OpenFrame}
use Rattle.term_reader.specs.Positions.{IsAtPosition, AfterOperand}
use Rattle.term_reader.specs.OperatorReductions.{IsReducedOnce}
use Rattle.term_reader.proofs.state.State.reduce_operators.Given as goal

abbrev pub invariant-operators : goal.invariant-operators
invariant-operators l = (l.self.at ≡ l.fn.self.at)
    × ((s : Setting) (k : List OpenFrame) (t : Tree) (n : List ℕ) → IsAtPosition l.fn.self (AfterOperand k t l.fn.priority) → IsReducedOnce s k t l.fn.priority (post_operator_meant n l.post_operator) l.self l.last)

abbrev pub decreases-operators : goal.decreases-operators
decreases-operators l = vec_len l.self.frames
