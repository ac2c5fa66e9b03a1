-- Single steps of a reader.
use Rattle.std.specs.Prelude.{◌≡◌, ◌≤◌, ℕ, suc, Bool, false, List, [], ◌∷◌, ◌++◌, map}
use Rattle.au_model.specs.Syntax.Characters.{chars_from}
use Rattle.au_model.specs.Syntax.Tokens.{Lexeme, Token, token, scanned, ScannedTo}
use Rattle.au_model.specs.Syntax.PostOperators.{post_operator_fits, lexeme_post_operator}
use Rattle.au_model.specs.Syntax.Trees.{Tree}
use Rattle.au_model.specs.Syntax.Primaries as begun
use Rattle.token_scan.specs.ScannedParts.{IsPlaceFrom}
use Rattle.term_reader.specs.PrimaryView.{setting_of, tokens_at, primary_meant, IsPrimaryOfLexeme}
use Rattle.term_reader.specs.Lookahead.{Scans}
use Rattle.term_reader.specs.FollowingToken.{closer_of}
use Rattle.term_reader.specs.Completion as stack
use Rattle.term_reader.specs.Completion.{bound_of}
use Rattle.term_reader.specs.TermOutput.{TermOutput, emit_tree}
use Rattle.term_reader.specs.OutputView.{IsOutputOf}
use Rattle.term_reader.specs.FrameShapes.{frame_meant, shapes_up, emitted_stack, IsWithinBounds, HasNoOperatorOnTop}
use Rattle.term_reader.specs.declared.lexeme.Closer.{Closer}
use Rattle.term_reader.specs.declared.primary.Source.{Source}
use Rattle.term_reader.specs.declared.primary.Primary.{Primary}
use Rattle.term_reader.specs.declared.primary.Primary.TheVariants as kind
use Rattle.term_reader.specs.declared.state.Expected.TheVariants.{Operand, Operator}
use Rattle.term_reader.specs.declared.state.LastOperand.{LastOperand}
use Rattle.term_reader.specs.declared.state.State.{State}
use Rattle.term_reader.specs.declared.state.Frame.{Frame}
use Rattle.term_reader.specs.declared.steps.Step.{Step}
use Rattle.term_reader.specs.declared.steps.Step.TheVariants.{Continue}

-- a place further on, after a token and maybe some more
pub record IsPlaceAfterToken (text : List ℕ) (at end : ℕ) : Type 0 where
  pub place : IsPlaceFrom text (suc at) end
  pub first : Token
  pub over : List Token
  pub scans : Scans (chars_from text at) (first ∷ over) (chars_from text end)

abbrev pub PrimaryEndsAfter : List ℕ → ℕ → Primary → Type 0
PrimaryEndsAfter text at (kind.Leaf l end) = IsPlaceAfterToken text at end
PrimaryEndsAfter text at (kind.Alone n o end) = IsPlaceAfterToken text at end
PrimaryEndsAfter text at (kind.Round end) = IsPlaceAfterToken text at end
PrimaryEndsAfter text at (kind.Curly end) = IsPlaceAfterToken text at end
PrimaryEndsAfter text at (kind.List end) = IsPlaceAfterToken text at end
PrimaryEndsAfter text at (kind.Call n end) = IsPlaceAfterToken text at end
PrimaryEndsAfter text at (kind.Prefix n o end) = IsPlaceAfterToken text at end
PrimaryEndsAfter text at kind.Fails = Unit {0}

-- a term begins so at a place
pub record StartsPrimary (source : Source) (at : ℕ) (o : Primary) : Type 0 where
  pub begins : begun.primary_of (setting_of source) (tokens_at source at) ≡ primary_meant source o
  pub ends : PrimaryEndsAfter source.text.now at o
  pub apart : Bool
  pub lexeme : Lexeme
  pub left : List ℕ
  pub found : scanned (chars_from source.text.now at) ≡ ScannedTo (token apart lexeme) left
  pub named : IsPrimaryOfLexeme source.ops.now lexeme o

-- a frame was put on
pub record IsFramePushed (old : State) (f : Frame) (end : ℕ) (new : State) (t : Step) : Type 0 where
  pub frames : new.frames.items ≡ old.frames.items ++ f ∷ []
  pub output : new.output ≡ old.output
  pub at : new.at ≡ end
  pub step : t ≡ Continue Operand

-- an operand was put
pub record IsOperandEmitted (old : State) (tree : Tree) (end : ℕ) (last : LastOperand) (new : State) (t : Step) : Type 0 where
  pub frames : new.frames.items ≡ old.frames.items
  pub output : (s : TermOutput) → IsOutputOf old.output s → IsOutputOf new.output (emit_tree s tree)
  pub at : new.at ≡ end
  pub step : t ≡ Continue (Operator 0 last)

-- A frame was taken off, of a stack without operators on its top, after an operand that does not go on with the
-- token that is there.
pub record IsFrameClosing (source : Source) (st : State) (f : Frame) (k : List stack.OpenFrame) (l : Tree) (p : ℕ) (c : Closer) (end : ℕ) : Type 0 where
  pub shapes : map frame_meant (st.frames.items ++ f ∷ []) ≡ shapes_up k
  pub output : IsOutputOf st.output (emit_tree (emitted_stack k) l)
  pub bounds : IsWithinBounds k
  pub low : p ≤ bound_of k
  pub shut : HasNoOperatorOnTop k
  pub apart : Bool
  pub lexeme : Lexeme
  pub found : scanned (chars_from source.text.now st.at) ≡ ScannedTo (token apart lexeme) (chars_from source.text.now end)
  pub closer : c ≡ closer_of lexeme
  pub stops : post_operator_fits (bound_of k) p (lexeme_post_operator source.ops.now lexeme) ≡ false
