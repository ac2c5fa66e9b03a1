-- What reading a term answers.
use Rattle.std.specs.Prelude.{◌≡◌, ℕ, suc, true, false, List, Result, Ok, Err, map}
use Rattle.au_model.specs.Syntax.Characters.{chars_from}
use Rattle.au_model.specs.Syntax.Trees.{Tree}
use Rattle.au_model.specs.Syntax.Primaries.{Setting}
use Rattle.au_model.specs.Syntax.VariableNumbers.{no_variables, numbered}
use Rattle.au_model.specs.Syntax.TermTexts.{SpellsTermWithEnd, is_over}
use Rattle.token_scan.specs.ScannedParts.{IsPlaceFrom}
use Rattle.term_reader.specs.TermOutput.{no_cells, emit_tree}
use Rattle.au_model.specs.Terms.Named.{variable_meant}
use Rattle.term_reader.specs.OutputView.{IsOutputOf}
use Rattle.au_model.specs.Syntax.TextFaults.{Fault, IsLineAndColumn}
use Rattle.term_reader.specs.Refusals.{IsFirstFault}
use Rattle.term_reader.specs.declared.read.ReadOutcome.{ReadOutcome}
use Rattle.term_reader.specs.declared.read.ReadOutcome.TheVariants.{Read, EndOfText}
use Rattle.term_reader.specs.declared.read.ReadRefused.{ReadRefused}
use Rattle.term_reader.specs.declared.read.ReadRefused.TheVariants.{Syntax, NoMemory}
use Rattle.term_reader.specs.declared.read.Reading.{Reading as DeclaredReading}
use Rattle.term_reader.specs.declared.read.Reading.TheVariants.{Whole, Refused}
use Rattle.term_reader.specs.declared.state.State.{State}

-- no front of what is left is a term with its end
abbrev pub NoTerm : Setting → List ℕ → Type 0
NoTerm s cs = (t : Tree) (rest : List ℕ) → SpellsTermWithEnd s cs t rest → ⊥

-- the tree that a text's front spells from one place up to another
pub record Spelling (s : Setting) (text : List ℕ) (at end : ℕ) (t : Tree) : Type 0 where
  pub spelled : SpellsTermWithEnd s (chars_from text at) t (chars_from text end)
  pub place : IsPlaceFrom text (suc at) end

-- the state has the cells of what is spelled up to this place
pub record IsWholeTerm (s : Setting) (text : List ℕ) (at : ℕ) (st : State) (end : ℕ) : Type 0 where
  pub tree : Tree
  pub output : IsOutputOf st.output (emit_tree no_cells tree)
  pub spelling : Spelling s text at end tree

abbrev pub IsReadTo : Setting → List ℕ → ℕ → DeclaredReading → Type 0
IsReadTo s text at (Whole st end) = IsWholeTerm s text at st end
IsReadTo s text at (Refused r) = NoTerm s (chars_from text at) × IsFirstFault s text at r

-- The term that is spelled, with its named variables, and the place after its end; or nothing but layout is left. A
-- text is refused only where more is left and no front of it is a term with its end, with the kind and the place of its
-- fault, by line and column in the whole text.
abbrev pub IsTermRead : Setting → List ℕ → ℕ → Result ReadOutcome ReadRefused → Type 0
IsTermRead s text at (Ok (Read term names end)) =
    (t : Tree) × Spelling s text at end t × (term ≡ (numbered no_variables t).0) × (map variable_meant names.items ≡ (numbered no_variables t).1.named)
IsTermRead s text at (Ok EndOfText) = is_over (chars_from text at) ≡ true
IsTermRead s text at (Err (Syntax line column kind)) =
    (is_over (chars_from text at) ≡ false) × NoTerm s (chars_from text at) × ((from : List ℕ) × Fault s (chars_from text at) kind from × IsLineAndColumn text from line column)
IsTermRead s text at (Err NoMemory) = Unit {0}
