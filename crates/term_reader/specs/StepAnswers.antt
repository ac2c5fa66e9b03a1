-- What a step of the reader answers, for a source and the state in which the step began.
use Rattle.std.specs.Prelude.{◌≡◌, ℕ, Bool, false, List}
use Rattle.au_model.specs.Syntax.Characters.{chars_from}
use Rattle.au_model.specs.Syntax.Tokens.{scanned, token, ScannedTo}
use Rattle.au_model.specs.Syntax.PostOperators.{post_operator_fits, lexeme_post_operator}
use Rattle.au_model.specs.Syntax.Trees.{Tree}
use Rattle.term_reader.specs.Completion.{OpenFrame, bound_of}
use Rattle.term_reader.specs.Expectations.{expected_after, last_may_take, may_take_operand}
use Rattle.term_reader.specs.LexemeView.{lexeme_meant, IsStart}
use Rattle.term_reader.specs.Positions.{Position, ExpectsOperand, AfterOperand, IsAtPosition, HasReadTo, IsStepOutcome, MovesForward, priority_of_operand}
use Rattle.term_reader.specs.PrimaryView.{setting_of}
use Rattle.term_reader.specs.ReaderSteps.{IsFrameClosing}
use Rattle.term_reader.specs.Refusals.{IsFirstFault, IsFaultAtFrame, IsReadBelow, IsStuck, RefusesFirstFault}
use Rattle.term_reader.specs.FrameShapes.{HasNoOperatorOnTop}
use Rattle.term_reader.specs.declared.lexeme.Closer.{Closer}
use Rattle.term_reader.specs.declared.lexeme.Placed.{Placed}
use Rattle.term_reader.specs.declared.primary.Source.{Source}
use Rattle.term_reader.specs.declared.refusal.Refused.{Refused}
use Rattle.term_reader.specs.declared.state.Expected.{Expected}
use Rattle.term_reader.specs.declared.state.Frame.{Frame}
use Rattle.term_reader.specs.declared.state.LastOperand.{LastOperand}
use Rattle.term_reader.specs.declared.state.State.{State}
use Rattle.term_reader.specs.declared.steps.Step.{Step}

-- the state has moved on
abbrev pub MovesOn : Source → State → State → Step → Type 0
MovesOn source old new step = MovesForward source.text.now old.at new step

-- what the step comes to from a position
abbrev pub StepsFrom : Source → State → Position → State → Step → Type 0
StepsFrom source old x new step = IsStepOutcome (setting_of source) source.text.now x old.at new step

-- a refusal is the first fault of the text from this place on
abbrev pub RefusesWell : Source → ℕ → Step → Type 0
RefusesWell source first step = RefusesFirstFault (setting_of source) source.text.now first step

-- this refusal is it, where no token goes on
abbrev pub IsFaultIfStuck : Source → State → ℕ → Refused → Type 0
IsFaultIfStuck source old first refused =
    IsStuck (setting_of source) source.text.now first old.at → IsFirstFault (setting_of source) source.text.now first refused

-- the tokens from this place on have led to the position
abbrev pub HasReadIn : Source → ℕ → Position → State → Bool → Type 0
HasReadIn source first x old may_take_operand = HasReadTo (setting_of source) source.text.now first x old.at may_take_operand

-- the next token was found
abbrev pub IsTokenFound : Source → State → Placed → Type 0
IsTokenFound source old found =
    scanned (chars_from source.text.now old.at) ≡ ScannedTo (token found.apart (lexeme_meant found.lexeme)) (chars_from source.text.now found.end)

-- the token found is no operator that goes on after an operand of this priority in this stack
abbrev pub IsNotContinued : Source → Placed → List OpenFrame → ℕ → Type 0
IsNotContinued source found k p = post_operator_fits (bound_of k) p (lexeme_post_operator source.ops.now (lexeme_meant found.lexeme)) ≡ false

-- for each stack and operand of which this frame was taken off
abbrev pub WhereClosing : Source → State → Frame → Closer → ℕ → (List OpenFrame → Tree → ℕ → Type 0) → Type 0
WhereClosing source old frame closer end P = (k : List OpenFrame) (l : Tree) (p : ℕ) → IsFrameClosing source old frame k l p closer end → P k l p

-- where this refusal is the fault, if the token is not taken
abbrev pub WhereFault : Source → State → Frame → Closer → ℕ → Refused → (ℕ → Type 0) → Type 0
WhereFault source old frame closer end refused P =
    (first : ℕ) (k : List OpenFrame) (l : Tree) (p : ℕ) (h : IsFrameClosing source old frame k l p closer end)
    → IsFaultAtFrame source first old frame k l p closer end h refused → P first

-- where an operand is expected
abbrev pub WhereExpecting : State → (Position → Type 0) → Type 0
WhereExpecting old P = (k : List OpenFrame) → IsAtPosition old (ExpectsOperand k) → P (ExpectsOperand k)

-- after an operand of this priority
abbrev pub WhereAfter : State → ℕ → (Position → Type 0) → Type 0
WhereAfter old priority P = (k : List OpenFrame) (l : Tree) → IsAtPosition old (AfterOperand k l priority) → P (AfterOperand k l priority)

-- where an operand is expected, or after one, with all that was read from some place on
abbrev pub WhereReadExpecting : Source → State → (ℕ → Type 0) → Type 0
WhereReadExpecting source old P =
    (first : ℕ) (may_take_operand : Bool) (k : List OpenFrame) → IsAtPosition old (ExpectsOperand k)
    → HasReadIn source first (ExpectsOperand k) old may_take_operand → P first

abbrev pub WhereReadAfter : Source → State → ℕ → LastOperand → (ℕ → Type 0) → Type 0
WhereReadAfter source old priority last P =
    (first : ℕ) (k : List OpenFrame) (l : Tree) → IsAtPosition old (AfterOperand k l priority)
    → HasReadIn source first (AfterOperand k l priority) old (may_take_operand last) → P first

-- after an operand with which neither an operator nor the token found goes on
abbrev pub WhereEnding : Source → State → Placed → (List OpenFrame → Tree → ℕ → Type 0) → Type 0
WhereEnding source old found P =
    (k : List OpenFrame) (l : Tree) (p : ℕ) → IsAtPosition old (AfterOperand k l p) → HasNoOperatorOnTop k → IsNotContinued source found k p → P k l p

-- what was read from a place on is read below operators that were put over their operands
abbrev pub IsReadUpTo : Source → ℕ → State → LastOperand → Placed → List OpenFrame → Tree → ℕ → Type 0
IsReadUpTo source first old last found k l p =
    IsReadBelow source first old.at (may_take_operand last) (token found.apart (lexeme_meant found.lexeme)) k l p

-- there, with all that was read from some place on
abbrev pub WhereReadEnding : Source → State → LastOperand → Placed → (ℕ → Type 0) → Type 0
WhereReadEnding source old last found P =
    (first : ℕ) (k : List OpenFrame) (l : Tree) (p : ℕ) → IsAtPosition old (AfterOperand k l p) → HasNoOperatorOnTop k
    → IsNotContinued source found k p → IsReadUpTo source first old last found k l p → P first

-- at a position whose operand has this priority, or that expects one, with all that was read from some place on
abbrev pub WhereReadAt : Source → State → Expected → (ℕ → Type 0) → Type 0
WhereReadAt source old expected P =
    (first : ℕ) (x : Position) → IsAtPosition old x → expected_after expected ≡ priority_of_operand x
    → HasReadIn source first x old (last_may_take expected) → P first

-- the layout after the state's place ends here
abbrev pub StartsAt : Source → State → ℕ → Type 0
StartsAt source old start = IsStart source.text.now old.at start
