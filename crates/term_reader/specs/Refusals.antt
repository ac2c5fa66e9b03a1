-- Where no token goes on, and what is refused there.
use Rattle.std.specs.Prelude.{◌≡◌, ◌^◌, ◌≤◌, ◌<◌, ◌&&◌, ◌||◌, not, ℕ, Bool, nat_le, false, List, [], ◌∷◌, ◌++◌, length, map, Option, Some, None, IsCharBoundary, if◌then◌else◌}
use Rattle.au_model.specs.Syntax.Characters.{chars_from}
use Rattle.au_model.specs.Syntax.Tokens.{Lexeme, Name, QuotedName, Integer, Close, Comma, Token, token, scanned, ScannedTo, tokens_of}
use Rattle.au_model.specs.Syntax.Operators.{OperatorTable, prefix_of}
use Rattle.au_model.specs.Syntax.PostOperators.{PostOperator, named_post_operator, post_operator_fits, right_bound}
use Rattle.au_model.specs.Syntax.Trees.{Tree}
use Rattle.au_model.specs.Syntax.Primaries.{Setting, is_post_operator, is_some_operator}
use Rattle.au_model.specs.declared.types.FaultKind.{FaultKind}
use Rattle.au_model.specs.declared.types.FaultKind.TheVariants.{UnexpectedToken, WideNumeral, TooManyArguments}
use Rattle.term_reader.specs.Completion.{OpenFrame, PrefixOf, InfixOf, CompletesOperand, CompletesAfter, bound_of}
use Rattle.term_reader.specs.FrameShapes.{IsWithinBounds, frame_meant, shapes_up}
use Rattle.term_reader.specs.Positions.{ExpectsOperand, AfterOperand, HasReadTo}
use Rattle.term_reader.specs.PrimaryView.{setting_of}
use Rattle.term_reader.specs.LexemeView.{lexeme_meant, scan_meant, IsScan, IsStart}
use Rattle.term_reader.specs.declared.lexeme.Scan.{Scan}
use Rattle.term_reader.specs.declared.lexeme.Scan.TheVariants.{Found}
use Rattle.term_reader.specs.ReaderSteps.{StartsPrimary, IsFrameClosing}
use Rattle.term_reader.specs.declared.lexeme.Closer.{Closer}
use Rattle.term_reader.specs.declared.state.State.{State}
use Rattle.term_reader.specs.declared.primary.Source.{Source}
use Rattle.term_reader.specs.declared.primary.Primary.TheVariants as primary
use Rattle.op_table.specs.declared.operator.Operator.{Operator as DeclaredOperator}
use Rattle.term_reader.specs.declared.state.Frame.{Frame as DeclaredFrame}
use Rattle.term_reader.specs.declared.state.Frame.TheVariants as frame
use Rattle.term_reader.specs.Lookahead.{Scans}
use Rattle.term_reader.specs.Nesting.{NestsIn}
use Rattle.au_model.specs.Syntax.TextFaults.{BeginsTerm, Fault, IsOneTooMany}
use Rattle.term_reader.specs.declared.refusal.Refused.{Refused}
use Rattle.term_reader.specs.declared.steps.Step.{Step}
use Rattle.term_reader.specs.declared.steps.Step.TheVariants.{Refused as RefusedTurn}

-- the tokens up to a place begin a term, and with the next one they do not; this is not one argument too many
pub record IsStuck (s : Setting) (text : List ℕ) (start at : ℕ) : Type 0 where
  pub read : List Token
  pub scans : Scans (chars_from text start) read (chars_from text at)
  pub begins : BeginsTerm s read
  pub ends : (t : Token) (us : List Token) → tokens_of (chars_from text at) ≡ t ∷ us → (more : List Token) (goal : Tree) → CompletesOperand s [] (read ++ t ∷ more) goal → ⊥
  pub few : (t : Token) (us : List Token) → tokens_of (chars_from text at) ≡ t ∷ us → (m : ℕ) (name : List ℕ) → IsOneTooMany s (read ++ t ∷ us) (length read) m name → ⊥

abbrev pub unexpected_kind : Lexeme → FaultKind
unexpected_kind (Integer k) = if nat_le (2 ^ 63) k then WideNumeral else UnexpectedToken
unexpected_kind _ = UnexpectedToken

-- the fault of the text from its start is this one
pub record IsFirstFault (s : Setting) (text : List ℕ) (start : ℕ) (r : Refused) : Type 0 where
  pub place : IsCharBoundary text r.at
  pub fault : Fault s (chars_from text start) r.kind (chars_from text r.at)

abbrev pub RefusesFirstFault : Setting → List ℕ → ℕ → Step → Type 0
RefusesFirstFault s text start (RefusedTurn r) = IsFirstFault s text start r
RefusesFirstFault s text start _ = Unit {0}

-- ---- after an operand

-- an operator of this name
abbrev pub is_named_post_operator : OperatorTable → Lexeme → Bool
is_named_post_operator ops (Name n) = is_post_operator (named_post_operator ops n)
is_named_post_operator ops (QuotedName n) = is_post_operator (named_post_operator ops n)
is_named_post_operator ops _ = false

-- a token at a place, with which no operand there goes on and none ends
pub record IsNotAccepted (source : Source) (start : ℕ) (k : List OpenFrame) (l : Tree) (p at : ℕ) (may_take_operand : Bool) (lexeme : Lexeme) (place end : ℕ) : Type 0 where
  pub read_to : HasReadTo (setting_of source) source.text.now start (AfterOperand k l p) at may_take_operand
  pub bounds : IsWithinBounds k
  pub low : p ≤ bound_of k
  pub apart : Bool
  pub found : scanned (chars_from source.text.now at) ≡ ScannedTo (token apart lexeme) (chars_from source.text.now end)
  pub starts : IsStart source.text.now at place
  pub refused : (more : List Token) (goal : Tree) → CompletesAfter (setting_of source) k (token apart lexeme ∷ more) l p goal → ⊥
  pub few : (us : List Token) (m : ℕ) (name : List ℕ) → IsOneTooMany (setting_of source) (read_to.read ++ token apart lexeme ∷ us) (length read_to.read) m name → ⊥

-- what is read at a place with this token is read in this stack, after operators that were put over their operands;
-- and what this stack reads after a bracket that closes is read at the place
pub record IsReadBelow (source : Source) (start at : ℕ) (may_take_operand : Bool) (t : Token) (k : List OpenFrame) (l : Tree) (p : ℕ) : Type 0 where
  pub stack : List OpenFrame
  pub tree : Tree
  pub priority : ℕ
  pub read_to : HasReadTo (setting_of source) source.text.now start (AfterOperand stack tree priority) at may_take_operand
  pub bounds : IsWithinBounds stack
  pub low : priority ≤ bound_of stack
  pub passes : (more : List Token) (goal : Tree) → CompletesAfter (setting_of source) stack (t ∷ more) tree priority goal → CompletesAfter (setting_of source) k (t ∷ more) l p goal
  pub closes : (more : List Token) (goal : Tree) → CompletesAfter (setting_of source) k (token false Close ∷ more) l p goal → CompletesAfter (setting_of source) stack (token false Close ∷ more) tree priority goal
  pub nests : NestsIn (setting_of source) source.text.now start read_to.read k

-- ---- where an operand ends

-- a compound with the last argument but one that it may have
abbrev pub HasAllArguments : DeclaredFrame → Type 0
HasAllArguments (frame.Argument name n place) = 65534 ≤ n
HasAllArguments _ = ⊥

-- This is the fault where the token that is after the operand is not taken, and is no comma after the last
-- argument that a compound may have. Where it is one, the compound's place is that of the fault.
abbrev pub IsFaultAtFrame : (source : Source) → ℕ → (st : State) → (f : DeclaredFrame) → (k : List OpenFrame) → (l : Tree) → (p : ℕ) → (c : Closer) → (end : ℕ) → IsFrameClosing source st f k l p c end → Refused → Type 0
IsFaultAtFrame source start st f k l p c end h r =
    ((more : List Token) (goal : Tree) → CompletesAfter (setting_of source) k (token h.apart h.lexeme ∷ more) l p goal → ⊥)
    → ((HasAllArguments f → h.lexeme ≡ Comma → ⊥) → IsFirstFault (setting_of source) source.text.now start r) × ((name : List ℕ) (n place : ℕ) → f ≡ frame.Argument name n place → 65534 ≤ n → h.lexeme ≡ Comma → IsFirstFault (setting_of source) source.text.now start (record { at = place; kind = TooManyArguments }))

-- ---- after a prefix operator

-- the post-operator goes on after an operand of this priority, maybe when operators were put over it
abbrev pub accepts : List OpenFrame → ℕ → PostOperator → Bool
accepts [] p j = post_operator_fits 1200 p j
accepts (PrefixOf n o ∷ k) p j = post_operator_fits (right_bound o) p j || accepts k o.priority j
accepts (InfixOf n o l ∷ k) p j = post_operator_fits (right_bound o) p j || accepts k o.priority j
accepts (f ∷ k) p j = post_operator_fits (bound_of (f ∷ k)) p j

-- an operator, and no prefix operator, that goes on after an atom
abbrev pub name_follows_atom : OperatorTable → List OpenFrame → List ℕ → Bool
name_follows_atom ops k n = (is_post_operator (named_post_operator ops n) && not (is_some_operator (prefix_of ops n))) && accepts k 0 (named_post_operator ops n)

abbrev pub lexeme_follows_atom : OperatorTable → List OpenFrame → Lexeme → Bool
lexeme_follows_atom ops k (Name n) = name_follows_atom ops k n
lexeme_follows_atom ops k (QuotedName n) = name_follows_atom ops k n
lexeme_follows_atom ops k _ = false

-- a prefix operator above the bound
pub record IsPrefixAboveBound (source : Source) (start : ℕ) (k : List OpenFrame) (at end : ℕ) : Type 0 where
  pub may_take_operand : Bool
  pub name : List ℕ
  pub operator : DeclaredOperator
  pub read_to : HasReadTo (setting_of source) source.text.now start (ExpectsOperand k) at may_take_operand
  pub bounds : IsWithinBounds k
  pub starts : StartsPrimary source at (primary.Prefix name operator end)
  pub high : bound_of k < operator.priority

-- the place after a token that joins an atom
abbrev pub follower_end : OperatorTable → List OpenFrame → Scan → Option ℕ
follower_end ops k (Found t) = if lexeme_follows_atom ops k (lexeme_meant t.lexeme) then Some t.end else None
follower_end ops k _ = None

-- the first fault of the source's text from a place on
abbrev pub IsFaultFrom : Source → ℕ → Refused → Type 0
IsFaultFrom source start r = IsFirstFault (setting_of source) source.text.now start r

-- what is open is this stack
abbrev pub HasFrames : State → List OpenFrame → Type 0
HasFrames st k = map frame_meant st.frames.items ≡ shapes_up k

-- for each place and operand there that this token neither goes on nor ends
abbrev pub WhereNotAccepted : Source → Bool → Lexeme → ℕ → ℕ → (ℕ → Type 0) → Type 0
WhereNotAccepted source may_take_operand lexeme place end P =
    (start : ℕ) (k : List OpenFrame) (l : Tree) (p at : ℕ) → IsNotAccepted source start k l p at may_take_operand lexeme place end → P start

-- for each place at which this was scanned and no token goes on
abbrev pub WhereStuck : List ℕ → Scan → (Setting → ℕ → Type 0) → Type 0
WhereStuck text scan P =
    (s : Setting) (start at : ℕ) → scan_meant text scan ≡ scanned (chars_from text at) → IsScan text at scan → IsStuck s text start at → P s start
