-- Operators that are put over their operands.
use Rattle.std.specs.Prelude.{◌≡◌, ◌+◌, ℕ, Bool, true, false, List, [], ◌∷◌}
use Rattle.au_model.specs.Syntax.Operators.{OperatorTable}
use Rattle.au_model.specs.Syntax.Tokens.{Token}
use Rattle.au_model.specs.Syntax.Trees.{Tree}
use Rattle.au_model.specs.Syntax.PostOperators.{PostOperator, Nothing, token_post_operator, post_operator_fits}
use Rattle.au_model.specs.Syntax.Primaries.{Setting}
use Rattle.term_reader.specs.Completion.{OpenFrame, CompletesAfter, bound_of}
use Rattle.term_reader.specs.FrameShapes.{HasNoOperatorOnTop}
use Rattle.term_reader.specs.Nesting.{NestsIn}
use Rattle.term_reader.specs.Positions.{IsAtPosition, AfterOperand}
use Rattle.term_reader.specs.declared.state.State.{State}
use Rattle.term_reader.specs.declared.state.Reduced.{Reduced}
use Rattle.term_reader.specs.declared.state.Reduced.TheVariants.{Applied, Fits, Ends}

-- what the first token joins
abbrev pub first_post_operator : OperatorTable → List Token → PostOperator
first_post_operator ops [] = Nothing
first_post_operator ops (t ∷ ts) = token_post_operator ops t

-- before this post-operator one operand goes on just as the other does
pub record ReadSame (s : Setting) (j : PostOperator) (k : List OpenFrame) (l : Tree) (p : ℕ) (m : List OpenFrame) (t : Tree) (q : ℕ) : Type 0 where
  pub to : (ts : List Token) (goal : Tree) → first_post_operator s.ops ts ≡ j → CompletesAfter s k ts l p goal → CompletesAfter s m ts t q goal
  pub back : (ts : List Token) (goal : Tree) → first_post_operator s.ops ts ≡ j → CompletesAfter s m ts t q goal → CompletesAfter s k ts l p goal

-- what nests in one stack nests in the other
abbrev pub NestSame : Setting → List OpenFrame → List OpenFrame → Type 0
NestSame s k m = (text : List ℕ) (start : ℕ) (read : List Token) → NestsIn s text start read k → NestsIn s text start read m

-- an operator is over its operand, also where nothing is joined
pub record IsReducedOnce (s : Setting) (k : List OpenFrame) (l : Tree) (p : ℕ) (j : PostOperator) (st : State) (q : ℕ) : Type 0 where
  pub below : List OpenFrame
  pub tree : Tree
  pub at_position : IsAtPosition st (AfterOperand below tree q)
  pub same : ReadSame s j k l p below tree q
  pub apart : ReadSame s Nothing k l p below tree q
  pub nests : NestSame s k below

abbrev pub IsReduceOutcome : Setting → List OpenFrame → Tree → ℕ → PostOperator → State → Reduced → Type 0
IsReduceOutcome s k l p j st (Applied q) = IsReducedOnce s k l p j st q
IsReduceOutcome s k l p j st Fits = IsAtPosition st (AfterOperand k l p) × (post_operator_fits (bound_of k) p j ≡ true)
IsReduceOutcome s k l p j st Ends = IsAtPosition st (AfterOperand k l p) × (post_operator_fits (bound_of k) p j ≡ false) × HasNoOperatorOnTop k

abbrev pub IsFewer : Reduced → ℕ → ℕ → Type 0
IsFewer (Applied q) m n = n + 1 ≡ m
IsFewer _ m n = Unit {0}

-- nothing is left to be put over the operand; a post-operator goes on after it, or none is open
abbrev pub IsFullyReduced : List OpenFrame → ℕ → PostOperator → Bool → Type 0
IsFullyReduced k q j true = post_operator_fits (bound_of k) q j ≡ true
IsFullyReduced k q j false = (post_operator_fits (bound_of k) q j ≡ false) × HasNoOperatorOnTop k

pub record IsReducedBefore (s : Setting) (k : List OpenFrame) (l : Tree) (p : ℕ) (j : PostOperator) (st : State) (q : ℕ) (fits : Bool) : Type 0 where
  pub below : List OpenFrame
  pub tree : Tree
  pub at_position : IsAtPosition st (AfterOperand below tree q)
  pub same : ReadSame s j k l p below tree q
  pub apart : ReadSame s Nothing k l p below tree q
  pub nests : NestSame s k below
  pub free : IsFullyReduced below q j fits

-- for each setting, each stack and operand of this priority at which the state is, and each name
abbrev pub WhereOperand : State → ℕ → (Setting → List OpenFrame → Tree → List ℕ → Type 0) → Type 0
WhereOperand st priority P = (s : Setting) (k : List OpenFrame) (l : Tree) (n : List ℕ) → IsAtPosition st (AfterOperand k l priority) → P s k l n
