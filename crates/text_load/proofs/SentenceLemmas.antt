-- Sentences read one after another.
use Rattle.std.proofs.Common.{◌≡◌, ◌∙◌, ℕ, List, [], ◌∷◌, Result, Ok, Err, IfErr, IsErrAnd, refl, sym, ap, subst, true}
use Rattle.std.specs.Str.{chars}
use Rattle.au_model.specs.Syntax.Characters.{chars_from}
use Rattle.au_model.specs.Syntax.Tokens.{Token, tokens_of, scanned_word}
use Rattle.au_model.specs.Syntax.Primaries.{Setting, Fails}
use Rattle.au_model.specs.Syntax.Spelling.{Spelled, Operand, Form, operand, form, infixed, postfixed}
use Rattle.au_model.specs.Syntax.Words.{next_word}
use Rattle.au_model.specs.Syntax.TermTexts.{is_over}
use Rattle.au_model.specs.Syntax.Trees.{Tree}
use Rattle.au_model.specs.Syntax.Layout.{begins_layout}
use Rattle.au_model.specs.declared.types.FaultKind.{FaultKind}
use Rattle.token_scan.specs.NextToken.{IsTokenFault}
use Rattle.token_scan.specs.declared.token.BadToken.{BadToken}
use Rattle.term_reader.specs.ReadTerm.{IsTermRead}
use Rattle.term_reader.specs.declared.read.ReadRefused.{ReadRefused}
use Rattle.term_reader.specs.declared.read.ReadRefused.TheVariants.{Syntax, NoMemory as Full}
use Rattle.au_model.specs.Syntax.TextFaults.{IsLineAndColumn}
use Rattle.term_reader.proofs.FirstTokenLemmas.{tokens-none}
use Rattle.text_load.specs.LoadOutcome.{IsLoadedTo, IsNext, IsRefusedAt, IsStep, refusal_by, HoldsSentence, FaultsFrom, BeginsTermAt}
use Rattle.text_load.specs.LoadedSentences.{sentence_meant}
use Rattle.text_load.specs.Sentences.{Sentence, sentence}
use Rattle.text_load.specs.LoadedTexts.{Loading, Loads, no_more, one_more, unread, refused, further, IsRefused, first_loading, taken}
use Rattle.text_load.specs.declared.sentence.Sentence.{Sentence as ReadSentence}
use Rattle.text_load.specs.declared.reading.LoadRefusal.{LoadRefusal}
use Rattle.text_load.specs.declared.reading.LoadRefusal.TheVariants.{Refused, NoMemory}

-- no term is spelled by no tokens
no_form : {s : Setting} {us : List Token} {t : Tree} {p : ℕ} → Form s Fails us t p → ⊥
no_form f = elim f [ ]

no_spelled : {s : Setting} {us : List Token} {t : Tree} {p : ℕ} (ts : List Token) → ts ≡ [] → Spelled s ts us t p → ⊥
no_spelled [] e (form f) = no_form f
no_spelled [] e (infixed l j le r) = no_spelled [] refl l
no_spelled [] e (postfixed l j le) = no_spelled [] refl l
no_spelled (x ∷ ts) e h = let f : ⊥ = cc in absurd f

pub no_operand : {s : Setting} {us : List Token} {t : Tree} {b : ℕ} (ts : List Token) → ts ≡ [] → Operand s b ts us t → ⊥
no_operand ts e (operand h le stops) = no_spelled ts e h

-- a term does not begin with a faulty token
pub begins_no_fault : (s : Setting) (text : List ℕ) (at : ℕ) (e : BadToken) → IsTokenFault (next_word (chars_from text at)) text at e → BeginsTermAt s text at at
begins_no_fault s text at e f t rest h =
    let none = tokens-none (chars_from text at) (ap (scanned_word (begins_layout (chars_from text at))) f.fault) in
    absurd (no_operand (tokens_of (chars_from text at)) none h.spelled)

-- one sentence further
pub read_on : (text : List ℕ) (at end : ℕ) (l m : Loading) (t : Tree) (k : ReadSentence) → IsLoadedTo text at l → HoldsSentence l.setting text at t k end → taken l (sentence_meant k) ≡ Ok m → IsLoadedTo text end m
read_on text at end l m t k r h e =
    let s = ap (taken l) (sym h.kept_is) ∙ e in
    record {
      leads = λ all more. r.leads all (one_more h.spelling.spelled s more);
      faults = λ kind from f. r.faults kind from (further h.spelling.spelled s f);
    }

pub read_none : (text : List ℕ) (l : Loading) → l ≡ first_loading → IsLoadedTo text 0 l
read_none text l e = subst (IsLoadedTo text 0) (sym e) (record { leads = λ all h. h; faults = λ kind from f. f })

pub read_all : (text : List ℕ) (at : ℕ) (l : Loading) → IsLoadedTo text at l → is_over (chars_from text at) ≡ true → Loads first_loading (chars text) l
read_all text at l r over = r.leads l (no_more over)

pub refused_from : (text : List ℕ) (at line column : ℕ) (kind : FaultKind) (l : Loading) → IsLoadedTo text at l → FaultsFrom l text at line column kind → IsRefused (chars text) line column kind
refused_from text at line column kind l r f = record {
  before = f.place.before;
  from = f.from;
  splits = f.place.splits;
  fault = r.faults kind f.from f.fault;
  line_is = f.place.line_is;
  column_is = f.place.column_is;
}

-- a term that is refused is blamed at its first token
pub blamed : (l : Loading) (x : Sentence) (text : List ℕ) (at start line column : ℕ) (kind : FaultKind) → taken l x ≡ Err kind → BeginsTermAt l.setting text at start → IsLineAndColumn text (chars_from text start) line column
    → IsStep l x text at (Err (Refused line column kind))
blamed l x text at start line column kind bad b p t rest h is =
    record { from = chars_from text start; fault = refused h (ap (taken l) (sym is) ∙ bad) (b t rest h).0; place = p }

-- the fault of a step from a text's term
pub step_refused : (l : Loading) (k : ReadSentence) (text : List ℕ) (at end line column : ℕ) (t : Tree) → HoldsSentence l.setting text at t k end → (kind : FaultKind)
    → IsStep l (sentence_meant k) text at (Err (Refused line column kind)) → FaultsFrom l text at line column kind
step_refused l k text at end line column t h kind step = step t (chars_from text end) h.spelling.spelled h.kept_is

-- a text in which no term can be read
pub unread_from : (l : Loading) (text : List ℕ) (at : ℕ) (r : ReadRefused) → IsTermRead l.setting text at (Err r) → IsNext l text at (Err (refusal_by r))
unread_from l text at (Syntax line column kind) h = record { from = h.2.0; fault = unread h.0 h.1 h.2.1; place = h.2.2 }
unread_from l text at Full h = tt

-- what is refused of a text that was loaded so far
pub step_fails : (text : List ℕ) (at end : ℕ) (l : Loading) (k : ReadSentence) (t : Tree) → IsLoadedTo text at l → HoldsSentence l.setting text at t k end → (r s : Result Loading LoadRefusal) (f : LoadRefusal)
    → IsStep l (sentence_meant k) text at r → r ≡ Err f → IsErrAnd s (λ g. g ≡ f) → IfErr s (IsRefusedAt (chars text))
step_fails text at end l k t read h r (Ok m) f step was same = absurd same
step_fails text at end l k t read h r (Err g) f step was same = by g (subst (IsStep l (sentence_meant k) text at) (was ∙ ap Err (sym same)) step)
  where
    by : (g : LoadRefusal) → IsStep l (sentence_meant k) text at (Err g) → IsRefusedAt (chars text) g
    by (Refused line column kind) s = refused_from text at line column kind l read (step_refused l k text at end line column t h kind s)
    by NoMemory s = tt
