-- What loading answers.
use Rattle.std.specs.Prelude.{◌≡◌, ◌⊎◌, ℕ, List, true, Result, Ok, Err, IsCharBoundary}
use Rattle.std.specs.Str.{chars}
use Rattle.au_model.specs.Syntax.Characters.{chars_from}
use Rattle.au_model.specs.Syntax.Layout.{GapThen, after_layout}
use Rattle.au_model.specs.Syntax.Primaries.{Setting}
use Rattle.au_model.specs.Syntax.TermTexts.{SpellsTermWithEnd, is_over}
use Rattle.au_model.specs.Syntax.Trees.{Tree}
use Rattle.au_model.specs.declared.types.FaultKind.{FaultKind}
use Rattle.term_reader.specs.ReadTerm.{Spelling}
use Rattle.au_model.specs.Syntax.TextFaults.{IsLineAndColumn}
use Rattle.term_reader.specs.declared.read.ReadRefused.{ReadRefused}
use Rattle.term_reader.specs.declared.read.ReadRefused.TheVariants.{Syntax, NoMemory as Full}
use Rattle.text_load.specs.LoadedSentences.{IsSentenceOf}
use Rattle.text_load.specs.Sentences.{Sentence, sentence}
use Rattle.text_load.specs.LoadedTexts.{Loading, Loads, FirstFault, IsRefused, first_loading, taken}
use Rattle.text_load.specs.declared.sentence.Sentence.{Sentence as ReadSentence}
use Rattle.text_load.specs.declared.reading.LoadRefusal.{LoadRefusal}
use Rattle.text_load.specs.declared.reading.LoadRefusal.TheVariants.{Refused, NoMemory}
use Rattle.text_load.specs.declared.reading.Next.{Next}
use Rattle.text_load.specs.declared.reading.Next.TheVariants as next

-- a text is refused, or memory runs out
abbrev pub IsRefusedAt : List ℕ → LoadRefusal → Type 0
IsRefusedAt text (Refused line column kind) = IsRefused text line column kind
IsRefusedAt text NoMemory = Unit {0}

-- the library is refused, or else the text
pub record IsTextRefused (library text : List ℕ) (line column : ℕ) (kind : FaultKind) : Type 0 where
  pub others : Loading
  pub library_is : Loads first_loading library others
  pub text_is : IsRefused text line column kind

abbrev pub IsLoadRefusal : List ℕ → List ℕ → LoadRefusal → Type 0
IsLoadRefusal library text (Refused line column kind) = IsRefused library line column kind ⊎ IsTextRefused library text line column kind
IsLoadRefusal library text NoMemory = Unit {0}

-- a term that a text spells from one place to another, and what is kept of it
pub record HoldsSentence (s : Setting) (text : List ℕ) (at : ℕ) (t : Tree) (kept : ReadSentence) (end : ℕ) : Type 0 where
  pub spelling : Spelling s text at end t
  pub kept_is : IsSentenceOf (sentence t) kept

-- where a term begins
abbrev pub BeginsTermAt : Setting → List ℕ → ℕ → ℕ → Type 0
BeginsTermAt s text at start = (t : Tree) (rest : List ℕ) → SpellsTermWithEnd s (chars_from text at) t rest → (after_layout (chars_from text at) ≡ GapThen (chars_from text start)) × IsCharBoundary text start

-- the first fault of a text from a place on, with its line and column in the whole text
pub record FaultsFrom (l : Loading) (text : List ℕ) (at line column : ℕ) (kind : FaultKind) : Type 0 where
  pub from : List ℕ
  pub fault : FirstFault l (chars_from text at) kind from
  pub place : IsLineAndColumn text from line column

-- the next sentence, or the end of the text, or the fault where none can be read
abbrev pub IsNext : Loading → List ℕ → ℕ → Result Next LoadRefusal → Type 0
IsNext l text at (Ok (next.Sentence kept end)) = (t : Tree) × HoldsSentence l.setting text at t kept end
IsNext l text at (Ok next.Over) = is_over (chars_from text at) ≡ true
IsNext l text at (Err (Refused line column kind)) = FaultsFrom l text at line column kind
IsNext l text at (Err NoMemory) = Unit {0}

-- what is loaded with a sentence more, or its fault, at the first token of its term
abbrev pub IsStep : Loading → Sentence → List ℕ → ℕ → Result Loading LoadRefusal → Type 0
IsStep l x text at (Ok more) = taken l x ≡ Ok more
IsStep l x text at (Err (Refused line column kind)) = (t : Tree) (rest : List ℕ) → SpellsTermWithEnd l.setting (chars_from text at) t rest → x ≡ sentence t → FaultsFrom l text at line column kind
IsStep l x text at (Err NoMemory) = Unit {0}

abbrev pub refusal_by : ReadRefused → LoadRefusal
refusal_by (Syntax line column kind) = Refused line column kind
refusal_by Full = NoMemory

-- a text was loaded up to a place
pub record IsLoadedTo (text : List ℕ) (at : ℕ) (l : Loading) : Type 0 where
  pub leads : (all : Loading) → Loads l (chars_from text at) all → Loads first_loading (chars text) all
  pub faults : (kind : FaultKind) (from : List ℕ) → FirstFault l (chars_from text at) kind from → FirstFault first_loading (chars text) kind from
