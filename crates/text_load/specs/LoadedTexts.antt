-- The job that a text loads to, or its first fault. This file is the one place that says it.
use Rattle.std.specs.Prelude.{◌≡◌, ℕ, Bool, true, false, not, ◌||◌, ◌&&◌, ◌==◌, cond, List, [], ◌∷◌, ◌++◌, filter, fold, Option, Some, None, Result, Ok, Err}
use Rattle.std.specs.List.{list_any}
use Rattle.au_term.specs.Term.{Term, argument_count}
use Rattle.au_model.specs.Terms.Forms.{same_name, name_of}
use Rattle.run_model.specs.Programs.Clauses.{Clause, is_defined}
use Rattle.run_model.specs.Programs.Databases.{Database, no_procedures}
use Rattle.run_model.specs.Programs.DatabaseChanges.{declared_in, with_last_clause}
use Rattle.run_model.specs.Programs.Jobs.{Query, Job}
use Rattle.au_model.specs.Syntax.Layout.{GapThen, after_layout}
use Rattle.au_model.specs.Syntax.Operators.{OperatorTable, initial_operators}
use Rattle.au_model.specs.Syntax.OperatorChanges.{operators_changed}
use Rattle.au_model.specs.Syntax.Primaries.{Setting}
use Rattle.au_model.specs.Syntax.TermTexts.{SpellsTermWithEnd, is_over}
use Rattle.au_model.specs.Syntax.Trees.{Tree}
use Rattle.au_model.specs.declared.types.DoubleQuotes.TheVariants.{Codes}
use Rattle.au_model.specs.declared.types.FaultKind.{FaultKind}
use Rattle.au_model.specs.declared.types.FaultKind.TheVariants.{BadDirective, StaticTwice}
use Rattle.au_model.specs.Syntax.TextFaults.{Fault, line_after, column_after}
use Rattle.dyn_clauses.specs.declared.indicator.Indicator.{Indicator}
use Rattle.text_load.specs.Directives.{Directive, MakesDynamic, LetsStandApart, ChangesOperators, ReadsQuotesAs}
use Rattle.text_load.specs.Sentences.{Sentence, ClauseSentence, QuerySentence, DirectiveSentence, NoSentence, sentence}

-- What is loaded of a text so far: the operators and the meaning of double-quoted items in force, the procedures that
-- were made dynamic, the clauses of the others and of these, and the queries, all in the order of the text.
pub record Loading : Type 0 where
  pub setting : Setting
  pub declared : List Indicator
  pub statics : List Clause
  pub dynamics : List Clause
  pub queries : List Query

-- a text begins with the standard's operators, and its double-quoted items are lists of codes
abbrev pub first_loading : Loading
first_loading = record {
  setting = record { ops = initial_operators; quotes = Codes };
  declared = [];
  statics = [];
  dynamics = [];
  queries = [];
}

-- ---- what a sentence does

abbrev pub is_declared : List Indicator → List ℕ → ℕ → Bool
is_declared is name arity = list_any (λ i. same_name name i.name && arity == i.arity) is

-- a clause of a dynamic procedure, or of a static one
abbrev pub with_clause : Loading → Clause → Loading
with_clause l c = cond (is_declared l.declared (name_of c.head) (argument_count c.head)) (record l { dynamics = l.dynamics ++ c ∷ [] }) (record l { statics = l.statics ++ c ∷ [] })

abbrev pub with_query : Loading → Query → Loading
with_query l q = record l { queries = l.queries ++ q ∷ [] }

-- a procedure with clauses that is not dynamic stays static
abbrev pub has_static : Loading → List Indicator → Bool
has_static l is = list_any (λ i. is_defined l.statics i.name i.arity) is

abbrev pub with_declared : Loading → List Indicator → Result Loading FaultKind
with_declared l is = cond (has_static l is) (Err StaticTwice) (Ok (record l { declared = l.declared ++ is }))

-- operators that `op/3` gives, but not its error
abbrev pub with_operators : Loading → Result OperatorTable Term → Result Loading FaultKind
with_operators l (Ok ops) = Ok (record l { setting = record { ops = ops; quotes = l.setting.quotes } })
with_operators l (Err error) = Err BadDirective

abbrev pub directed : Loading → Directive → Result Loading FaultKind
directed l (MakesDynamic is) = with_declared l is
directed l (LetsStandApart is) = Ok l
directed l (ChangesOperators priority specifier names) = with_operators l (operators_changed l.setting.ops priority specifier names)
directed l (ReadsQuotesAs quotes) = Ok (record l { setting = record { ops = l.setting.ops; quotes = quotes } })

-- what is loaded with a sentence more, or its fault
abbrev pub taken : Loading → Sentence → Result Loading FaultKind
taken l (ClauseSentence c) = Ok (with_clause l c)
taken l (QuerySentence q) = Ok (with_query l q)
taken l (DirectiveSentence d) = directed l d
taken l (NoSentence kind) = Err kind

-- ---- texts

-- Terms with their ends, one after another, and then nothing but layout. Each is spelled with the operators and the
-- meaning of double-quoted items that those before it left.
pub data Loads : Loading → List ℕ → Loading → Type 0 where
  no_more : {l : Loading} {cs : List ℕ} → is_over cs ≡ true → Loads l cs l
  one_more : {l mid all : Loading} {cs rest : List ℕ} {t : Tree} → SpellsTermWithEnd l.setting cs t rest → taken l (sentence t) ≡ Ok mid → Loads mid rest all → Loads l cs all

-- no term with its end is in front of what is left
abbrev pub IsNoTermFirst : Setting → List ℕ → Type 0
IsNoTermFirst s cs = (t : Tree) (rest : List ℕ) → SpellsTermWithEnd s cs t rest → ⊥

-- After sentences, the first thing that is none: its kind, and the characters from its place on. A term that is no
-- sentence, or a directive that is refused, is blamed at its first token.
pub data FirstFault : Loading → List ℕ → FaultKind → List ℕ → Type 0 where
  unread : {l : Loading} {cs from : List ℕ} {kind : FaultKind} → is_over cs ≡ false → IsNoTermFirst l.setting cs → Fault l.setting cs kind from → FirstFault l cs kind from
  refused : {l : Loading} {cs rest from : List ℕ} {t : Tree} {kind : FaultKind} → SpellsTermWithEnd l.setting cs t rest → taken l (sentence t) ≡ Err kind → after_layout cs ≡ GapThen from → FirstFault l cs kind from
  further : {l mid : Loading} {cs rest from : List ℕ} {t : Tree} {kind : FaultKind} → SpellsTermWithEnd l.setting cs t rest → taken l (sentence t) ≡ Ok mid → FirstFault mid rest kind from → FirstFault l cs kind from

-- ---- the job

-- a text defines a procedure by a clause or by making it dynamic
abbrev pub defines : Loading → List ℕ → ℕ → Bool
defines l name arity = is_defined l.statics name arity || is_declared l.declared name arity

abbrev pub clauses_beside : Loading → List Clause → List Clause
clauses_beside text clauses = filter (λ c. not (defines text (name_of c.head) (argument_count c.head))) clauses

abbrev pub procedures_beside : Loading → List Indicator → List Indicator
procedures_beside text is = filter (λ i. not (defines text i.name i.arity)) is

-- procedures without clauses, and then the clauses, one after another
abbrev pub database_of : List Indicator → List Clause → Database
database_of is clauses = fold with_last_clause (fold (λ db i. declared_in db i.name i.arity) no_procedures is) clauses

-- the library's procedures and the text's: one that the text defines is the text's alone
abbrev pub job_of : Loading → Loading → Job
job_of library text = record {
  clauses = clauses_beside text library.statics ++ text.statics;
  database = database_of (procedures_beside text library.declared ++ text.declared) (clauses_beside text library.dynamics ++ text.dynamics);
  operators = text.setting.ops;
  queries = library.queries ++ text.queries;
}

-- the library is a text of its own, whose operators and double-quoted items do not change those of the text
pub record LoadsTo (library text : List ℕ) (job : Job) : Type 0 where
  pub own : Loading
  pub others : Loading
  pub library_is : Loads first_loading library others
  pub text_is : Loads first_loading text own
  pub is : job ≡ job_of others own

-- a text is refused with the line, the column and the kind of its first fault
pub record IsRefused (text : List ℕ) (line column : ℕ) (kind : FaultKind) : Type 0 where
  pub before : List ℕ
  pub from : List ℕ
  pub splits : text ≡ before ++ from
  pub fault : FirstFault first_loading text kind from
  pub line_is : line ≡ line_after before
  pub column_is : column ≡ column_after before

-- what a text is refused with is one line, one column and one kind
abbrev pub IsOneRefusal : List ℕ → Type 0
IsOneRefusal text =
    (line column other_line other_column : ℕ) (kind other : FaultKind) → IsRefused text line column kind
    → IsRefused text other_line other_column other → (line ≡ other_line) × (column ≡ other_column) × (kind ≡ other)
