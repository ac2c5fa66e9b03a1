-- Where a reader is, and what its steps keep.
use Rattle.std.specs.Prelude.{◌≡◌, ◌≤◌, ℕ, suc, Bool, true, false, List, [], ◌∷◌, ◌++◌, Option, Some, None, map}
use Rattle.au_model.specs.Syntax.Characters.{chars_from}
use Rattle.au_model.specs.Syntax.Tokens.{Token, front, tokens_of}
use Rattle.au_model.specs.Syntax.Trees.{Tree}
use Rattle.au_model.specs.Syntax.Primaries.{Setting, prefix_is_atom}
use Rattle.term_reader.specs.Lookahead.{Lookahead, Free, Lone, WithOperand as OverOperand, InList, InCurly, is_as_expected, Scans, IsPrefixAsAtom, MayTakeOperand}
use Rattle.token_scan.specs.ScannedParts.{IsPlaceFrom}
use Rattle.term_reader.specs.Completion.{OpenFrame, CompletesOperand, CompletesAfter, bound_of}
use Rattle.term_reader.specs.Nesting.{NestsIn}
use Rattle.term_reader.specs.TermOutput.{TermOutput, no_cells, emit_tree}
use Rattle.term_reader.specs.OutputView.{IsOutputOf}
use Rattle.term_reader.specs.FrameShapes.{frame_meant, shapes_up, emitted_stack, IsWithinBounds}
use Rattle.term_reader.specs.Expectations.{expected_after, last_may_take}
use Rattle.term_reader.specs.declared.state.Expected.{Expected}
use Rattle.term_reader.specs.declared.state.State.{State}
use Rattle.term_reader.specs.declared.steps.Step.{Step}
use Rattle.term_reader.specs.declared.steps.Step.TheVariants.{Continue, Accept, Refused}

-- an operand is due, or this one is there and has this priority
pub data Position : Type 0 where
  ExpectsOperand : List OpenFrame → Position
  AfterOperand : List OpenFrame → Tree → ℕ → Position

-- these tokens complete it to the term
abbrev pub Completes : Setting → Position → List Token → Tree → Type 0
Completes s (ExpectsOperand k) ts goal = CompletesOperand s k ts goal
Completes s (AfterOperand k l p) ts goal = CompletesAfter s k ts l p goal

abbrev pub open_frames : Position → List OpenFrame
open_frames (ExpectsOperand k) = k
open_frames (AfterOperand k l p) = k

abbrev pub output_at : Position → TermOutput
output_at (ExpectsOperand k) = emitted_stack k
output_at (AfterOperand k l p) = emit_tree (emitted_stack k) l

abbrev pub IsWithinBound : Position → Type 0
IsWithinBound (ExpectsOperand k) = Unit {0}
IsWithinBound (AfterOperand k l p) = p ≤ bound_of k

-- the priority of the operand, where one is there
abbrev pub priority_of_operand : Position → Option ℕ
priority_of_operand (ExpectsOperand k) = None
priority_of_operand (AfterOperand k l p) = Some p

-- the state is that of a position
pub record IsAtPosition (st : State) (x : Position) : Type 0 where
  pub shapes : map frame_meant st.frames.items ≡ shapes_up (open_frames x)
  pub output : IsOutputOf st.output (output_at x)
  pub bounds : IsWithinBounds (open_frames x)
  pub low : IsWithinBound x

abbrev pub rest_at : List ℕ → ℕ → List ℕ
rest_at text at = (front (chars_from text at)).rest

-- what may be presumed at a position
abbrev pub SuitsLookahead : Position → Lookahead → Type 0
SuitsLookahead (ExpectsOperand k) (Lone sign) = ⊥
SuitsLookahead (AfterOperand k l p) (OverOperand sign) = ⊥
SuitsLookahead (AfterOperand k l p) InList = ⊥
SuitsLookahead (AfterOperand k l p) InCurly = ⊥
SuitsLookahead _ _ = Unit {0}

-- these tokens lead to the new position, where they are after others that were read up to here and nest in the stack
abbrev pub NestsAfterPrimary : Setting → List ℕ → ℕ → List OpenFrame → List Token → Lookahead → Position → Type 0
NestsAfterPrimary s text at k over look new =
    (start : ℕ) (read : List Token) → Scans (chars_from text start) read (chars_from text at) → NestsIn s text start read k
    → ((vs : List Token) (goal : Tree) → is_as_expected s.ops look vs ≡ true → CompletesOperand s [] ((read ++ over) ++ vs) goal → Completes s new vs goal)
    → ((vs : List Token) (goal : Tree) → is_as_expected s.ops look vs ≡ true → Completes s new vs goal → CompletesOperand s [] ((read ++ over) ++ vs) goal) → NestsIn s text start (read ++ over) (open_frames new)

abbrev pub NestsAfterToken : Setting → List ℕ → List OpenFrame → Token → List OpenFrame → Type 0
NestsAfterToken s text k first new = (start : ℕ) (read : List Token) → NestsIn s text start read k → NestsIn s text start (read ++ first ∷ []) new

-- The beginning of an operand presumes something of the tokens after it; a token after an operand does not.
abbrev pub IsStepFrom : Setting → List ℕ → ℕ → Position → Position → Token → List Token → List Token → Lookahead → Bool → Type 0
IsStepFrom s text at (ExpectsOperand k) new first over us look may_take_operand =
    ((vs : List Token) → is_as_expected s.ops look vs ≡ true → prefix_is_atom s.ops (first ∷ over ++ vs) ≡ prefix_is_atom s.ops (first ∷ over ++ us)) × SuitsLookahead new look × MayTakeOperand s k first over look may_take_operand
    × NestsAfterPrimary s text at k (first ∷ over) look new
IsStepFrom s text at (AfterOperand k l p) new first over us look may_take_operand = (over ≡ []) × (look ≡ Free) × (may_take_operand ≡ false) × NestsAfterToken s text k first (open_frames new)

-- A step over some tokens: whatever comes after them, if it is as presumed, is read at the old position together
-- with them just as it is at the new one.
pub record LeadsTo (s : Setting) (text : List ℕ) (old : Position) (at : ℕ) (new : Position) (end : ℕ) (may_take_operand : Bool) : Type 0 where
  pub first : Token
  pub over : List Token
  pub scans : Scans (chars_from text at) (first ∷ over) (chars_from text end)
  pub look : Lookahead
  pub fits : is_as_expected s.ops look (tokens_of (chars_from text end)) ≡ true
  pub to : (vs : List Token) (goal : Tree) → is_as_expected s.ops look vs ≡ true → Completes s old (first ∷ over ++ vs) goal → Completes s new vs goal
  pub back : (vs : List Token) (goal : Tree) → is_as_expected s.ops look vs ≡ true → Completes s new vs goal → Completes s old (first ∷ over ++ vs) goal
  pub step : IsStepFrom s text at old new first over (tokens_of (chars_from text end)) look may_take_operand

pub record HasMoved (s : Setting) (text : List ℕ) (old : Position) (at : ℕ) (st : State) (expected : Expected) : Type 0 where
  pub new : Position
  pub at_position : IsAtPosition st new
  pub expected_is : expected_after expected ≡ priority_of_operand new
  pub leads : LeadsTo s text old at new st.at (last_may_take expected)

-- where a prefix operator was read that stands for itself
pub record PrefixAtomBefore (s : Setting) (read : List Token) (sign may_take_operand : Bool) : Type 0 where
  pub stack : List OpenFrame
  pub bounds : IsWithinBounds stack
  pub before : List Token
  pub first : Token
  pub is : read ≡ before ++ first ∷ []
  pub lone : IsPrefixAsAtom s stack first sign may_take_operand
  pub to : (vs : List Token) (goal : Tree) → CompletesOperand s [] (before ++ first ∷ vs) goal → CompletesOperand s stack (first ∷ vs) goal
  pub back : (vs : List Token) (goal : Tree) → CompletesOperand s stack (first ∷ vs) goal → CompletesOperand s [] (before ++ first ∷ vs) goal

abbrev pub MayTakeOperandBefore : Setting → List Token → Lookahead → Bool → Type 0
MayTakeOperandBefore s read (Lone sign) may_take_operand = PrefixAtomBefore s read sign may_take_operand
MayTakeOperandBefore s read _ may_take_operand = may_take_operand ≡ false

-- The tokens from the start lead to this position: whatever comes after them, if it is as presumed, is read there
-- just as it is from the start together with them.
pub record HasReadTo (s : Setting) (text : List ℕ) (start : ℕ) (x : Position) (at : ℕ) (may_take_operand : Bool) : Type 0 where
  pub read : List Token
  pub scans : Scans (chars_from text start) read (chars_from text at)
  pub look : Lookahead
  pub fits : is_as_expected s.ops look (tokens_of (chars_from text at)) ≡ true
  pub to : (vs : List Token) (goal : Tree) → is_as_expected s.ops look vs ≡ true → CompletesOperand s [] (read ++ vs) goal → Completes s x vs goal
  pub back : (vs : List Token) (goal : Tree) → is_as_expected s.ops look vs ≡ true → Completes s x vs goal → CompletesOperand s [] (read ++ vs) goal
  pub suits : SuitsLookahead x look
  pub may_take : MayTakeOperandBefore s read look may_take_operand
  pub nests : NestsIn s text start read (open_frames x)

-- the term is whole, and its end is in front of this place
pub record HasEnded (s : Setting) (text : List ℕ) (old : Position) (at : ℕ) (st : State) (end : ℕ) : Type 0 where
  pub tree : Tree
  pub output : IsOutputOf st.output (emit_tree no_cells tree)
  pub reads : Completes s old (tokens_of (chars_from text at)) tree
  pub rest : rest_at text at ≡ chars_from text end

abbrev pub IsStepOutcome : Setting → List ℕ → Position → ℕ → State → Step → Type 0
IsStepOutcome s text old at st (Continue expected) = HasMoved s text old at st expected
IsStepOutcome s text old at st (Accept end) = HasEnded s text old at st end
IsStepOutcome s text old at st (Refused r) = (goal : Tree) → Completes s old (tokens_of (chars_from text at)) goal → ⊥

-- the place moved on
abbrev pub MovesForward : List ℕ → ℕ → State → Step → Type 0
MovesForward text at st (Continue expected) = IsPlaceFrom text (suc at) st.at
MovesForward text at st (Accept end) = IsPlaceFrom text (suc at) end
MovesForward text at st (Refused r) = Unit {0}
