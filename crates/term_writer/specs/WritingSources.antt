-- A term with its notation, as the tasks of writing it see them.
use Rattle.std.specs.Prelude.{ℕ, Bool, ◌+◌, ◌<◌, List, ◌∷◌, length}
use Rattle.au_term.specs.Term.{Term, arguments, take_terms}
use Rattle.au_term.specs.PrefixOrder.{cells_of, subterm}
use Rattle.au_model.specs.Syntax.Tokens.{Bar as BarMark}
use Rattle.au_model.specs.Writing.OperatorForms.{Notation, CompoundForm, is_above}
use Rattle.au_model.specs.Writing.Pieces.{Piece, Put}
use Rattle.au_model.specs.Writing.WrittenTerms.{compound_pieces, cell_pieces, further_pieces, tail_pieces, enclosed, pieces}
use Rattle.term_writer.specs.NotationView.{notation_meant}
use Rattle.term_writer.specs.WritingTasks.{AddsTasks, DoesTask, term_weight, terms_at, terms_weight}
use Rattle.term_writer.specs.declared.text.Text.{Text}
use Rattle.term_writer.specs.declared.tasks.Task.{Task}
use Rattle.term_writer.specs.declared.tasks.Source.{Source}

abbrev pub notation_of_source : Source → Notation
notation_of_source s = notation_meant s.notation

abbrev pub term_of_source : Source → Term
term_of_source s = s.term.now

-- a place of the source's term
abbrev pub IsSourcePlace : Source → ℕ → Type 0
IsSourcePlace s at = at < length (cells_of (term_of_source s))

abbrev pub source_subterm : Source → ℕ → Term
source_subterm s at = subterm at (term_of_source s)

-- tasks for these pieces were put on top
abbrev pub PushesTasks : Source → List Task → List Task → (List Piece → List Piece) → ℕ → Type 0
PushesTasks s old new f weight = AddsTasks (notation_of_source s) (term_of_source s) old new f weight

-- the subterm at a place, in brackets or not
abbrev pub PushesSubterm : Source → ℕ → Bool → List Task → List Task → Type 0
PushesSubterm s at is_enclosed old new =
    PushesTasks s old new (enclosed is_enclosed (pieces (notation_of_source s) (source_subterm s at))) (2 + term_weight (source_subterm s at))

-- the compound at a place
abbrev pub PushesCompound : Source → ℕ → List Task → List Task → Type 0
PushesCompound s at old new = PushesTasks s old new (pieces (notation_of_source s) (source_subterm s at)) (9 + terms_weight (arguments (source_subterm s at)))

-- what is left of a list after an item
abbrev pub PushesListRest : Source → ℕ → List Task → List Task → Type 0
PushesListRest s at old new = PushesTasks s old new (tail_pieces (notation_of_source s) (source_subterm s at)) (5 + term_weight (source_subterm s at))

-- a task was done
abbrev pub FinishesTask : Source → Task → List Task → List Task → Text → Text → Type 0
FinishesTask s task old new before after = DoesTask (notation_of_source s) (term_of_source s) task old new before after

-- a compound's name and arguments, in this form
abbrev pub OpensCompound : Source → ℕ → CompoundForm → List ℕ → List Task → List Task → Type 0
OpensCompound s at form name old new =
    PushesTasks s old new (compound_pieces (notation_of_source s) form name (arguments (source_subterm s at))) (9 + terms_weight (arguments (source_subterm s at)))

-- a tail that is no list, after a bar
abbrev pub PushesTail : Source → ℕ → List Task → List Task → Type 0
PushesTail s at old new =
    let t = source_subterm s at in
    let notation = notation_of_source s in
    PushesTasks s old new (λ rest. Put BarMark ∷ enclosed (is_above notation 999 t) (pieces notation t) rest) (3 + term_weight t)

-- so many further arguments from a place on
abbrev pub PushesFurther : Source → ℕ → ℕ → List Task → List Task → Type 0
PushesFurther s at number old new =
    let ts = take_terms number (terms_at (term_of_source s) at) in
    PushesTasks s old new (further_pieces (notation_of_source s) ts) (1 + terms_weight ts)

-- an item of a list and what follows it
abbrev pub PushesItem : Source → ℕ → List Task → List Task → Type 0
PushesItem s at old new =
    let ts = arguments (source_subterm s at) in
    PushesTasks s old new (cell_pieces (notation_of_source s) ts) (9 + terms_weight ts)
