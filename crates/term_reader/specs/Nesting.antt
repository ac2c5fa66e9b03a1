-- How what was read nests in the brackets that are open.
use Rattle.std.specs.Prelude.{◌≡◌, ℕ, Bool, List, [], ◌∷◌, ◌++◌, IsCharBoundary}
use Rattle.au_model.specs.Syntax.Characters.{chars_from}
use Rattle.au_model.specs.Syntax.Layout.{GapThen, after_layout}
use Rattle.au_model.specs.Syntax.Tokens.{Lexeme, Token, token, Open, OpenList, OpenCurly}
use Rattle.au_model.specs.Syntax.Trees.{Tree}
use Rattle.au_model.specs.Syntax.Primaries.{Setting, Call, primary_of}
use Rattle.term_reader.specs.Brackets.{Balanced}
use Rattle.term_reader.specs.Lookahead.{Scans}
use Rattle.term_reader.specs.Completion.{OpenFrame, Round, Braces, ItemOf, TailOf, ArgumentOf, PrefixOf, InfixOf, CompletesOperand}

-- what was read up to a bracket that is open, and after it
pub record OpenSince (x : Lexeme) (read : List Token) : Type 0 where
  pub before : List Token
  pub apart : Bool
  pub inside : List Token
  pub is : read ≡ before ++ token apart x ∷ inside
  pub balanced : Balanced inside

-- what comes after a round bracket is read in this stack just as it is from the start
pub record ReadsAfterRound (s : Setting) (k : List OpenFrame) (before : List Token) (apart : Bool) : Type 0 where
  pub to : (vs : List Token) (goal : Tree) → CompletesOperand s [] (before ++ token apart Open ∷ vs) goal → CompletesOperand s k vs goal
  pub back : (vs : List Token) (goal : Tree) → CompletesOperand s k vs goal → CompletesOperand s [] (before ++ token apart Open ∷ vs) goal

-- the tokens in front of a round bracket end with the name of a compound, which starts at this place
pub record IsCompoundName (s : Setting) (text : List ℕ) (start : ℕ) (before : List Token) (apart : Bool) (name : List ℕ) (place : ℕ) : Type 0 where
  pub first : List Token
  pub named : List Token
  pub is : before ≡ first ++ named
  pub from : List ℕ
  pub scans : Scans (chars_from text start) first from
  pub layout : after_layout from ≡ GapThen (chars_from text place)
  pub boundary : IsCharBoundary text place
  pub called : (vs : List Token) → primary_of s (named ++ token apart Open ∷ vs) ≡ Call name vs

abbrev pub NestsIn : Setting → List ℕ → ℕ → List Token → List OpenFrame → Type 0
NestsIn s text start read [] = Balanced read
NestsIn s text start read (Round ∷ k) = (b : OpenSince Open read) × ReadsAfterRound s (Round ∷ k) b.before b.apart × NestsIn s text start b.before k
NestsIn s text start read (Braces ∷ k) = (b : OpenSince OpenCurly read) × NestsIn s text start b.before k
NestsIn s text start read (ItemOf ts ∷ k) = (b : OpenSince OpenList read) × NestsIn s text start b.before k
NestsIn s text start read (TailOf ts ∷ k) = (b : OpenSince OpenList read) × NestsIn s text start b.before k
NestsIn s text start read (ArgumentOf n place ts ∷ k) = (b : OpenSince Open read) × ReadsAfterRound s (ArgumentOf n place [] ∷ k) b.before b.apart × IsCompoundName s text start b.before b.apart n place × NestsIn s text start b.before k
NestsIn s text start read (PrefixOf n o ∷ k) = NestsIn s text start read k
NestsIn s text start read (InfixOf n o l ∷ k) = NestsIn s text start read k
