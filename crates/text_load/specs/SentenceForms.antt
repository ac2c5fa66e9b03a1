-- How a term of a text is written, by its first cell.
use Rattle.std.specs.Prelude.{ℕ, Bool, ◌&&◌, ◌==◌, List, codes, if◌then◌else◌}
use Rattle.au_term.specs.Term.{Term, argument}
use Rattle.au_term.specs.declared.cell.Cell.{Cell}
use Rattle.au_term.specs.declared.cell.Cell.TheVariants.{Var as VarCell, Int as IntCell, Atom as AtomCell, Functor}
use Rattle.au_model.specs.Terms.Forms.{same_name}
use Rattle.run_model.specs.Programs.Bodies.{called_goals}
use Rattle.au_model.specs.Terms.Named.{NamedVariable}
use Rattle.text_load.specs.Sentences as form
use Rattle.text_load.specs.Sentences.{query_with, directive_with, clause_of, fact_of}
use Rattle.text_load.specs.Directives.{directive_of}
use Rattle.text_load.specs.declared.sentence.Form.{Form}
use Rattle.text_load.specs.declared.sentence.Form.TheVariants.{Query, Directive, Rule, Fact}

abbrev pub compound_form : ℕ → Bool → Bool → Form
compound_form arity asks rules =
    if arity == 1 && asks then Query
    else if arity == 1 && rules then Directive
    else if arity == 2 && rules then Rule
    else Fact

abbrev pub sentence_form_of_cell : Cell → Form
sentence_form_of_cell (VarCell n) = Fact
sentence_form_of_cell (IntCell z) = Fact
sentence_form_of_cell (AtomCell a) = Fact
sentence_form_of_cell (Functor f n) = compound_form n (same_name f (codes "?-")) (same_name f (codes ":-"))

abbrev pub sentence_written_as : Form → List NamedVariable → Term → form.Sentence
sentence_written_as Query names t = query_with names (called_goals (argument 0 t))
sentence_written_as Directive names t = directive_with (directive_of (argument 0 t))
sentence_written_as Rule names t = clause_of (argument 0 t) (argument 1 t)
sentence_written_as Fact names t = fact_of t
