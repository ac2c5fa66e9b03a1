-- What is read of a term of a text.
use Rattle.std.specs.Prelude.{◌≡◌, List, Result, Ok, Err, map}
use Rattle.std.specs.Arc.{arc_value}
use Rattle.au_model.specs.declared.types.FaultKind.{FaultKind}
use Rattle.text_load.specs.Directives as asked
use Rattle.text_load.specs.Sentences as form
use Rattle.text_load.specs.LoadedTexts.{Loading as LoadingTerms}
use Rattle.text_load.specs.declared.directive.Directive.{Directive as ReadDirective}
use Rattle.text_load.specs.declared.directive.Directive.TheVariants.{Dynamic, Discontiguous, Op, Quotes}
use Rattle.text_load.specs.declared.sentence.Sentence.{Sentence}
use Rattle.text_load.specs.declared.sentence.Sentence.TheVariants.{Clause, Query, Directive, Refused}
use Rattle.text_load.specs.declared.loading.Untaken.{Untaken}
use Rattle.text_load.specs.declared.loading.Untaken.TheVariants.{Fault, NoMemory}

abbrev pub directive_meant : ReadDirective → asked.Directive
directive_meant (Dynamic is) = asked.MakesDynamic is.items
directive_meant (Discontiguous is) = asked.LetsStandApart is.items
directive_meant (Op priority specifier names) = asked.ChangesOperators priority specifier names
directive_meant (Quotes quotes) = asked.ReadsQuotesAs quotes

abbrev pub sentence_meant : Sentence → form.Sentence
sentence_meant (Clause c) = form.ClauseSentence (arc_value c)
sentence_meant (Query q) = form.QuerySentence q
sentence_meant (Directive d) = form.DirectiveSentence (directive_meant d)
sentence_meant (Refused kind) = form.NoSentence kind

-- a sentence is read as such
abbrev pub IsSentenceOf : form.Sentence → Sentence → Type 0
IsSentenceOf s kept = sentence_meant kept ≡ s

-- what is loaded with a sentence more, or its fault
abbrev pub IsTaken : {X : Type 0} → (X → LoadingTerms) → Result LoadingTerms FaultKind → Result X Untaken → Type 0
IsTaken meant wanted (Ok l) = wanted ≡ Ok (meant l)
IsTaken meant wanted (Err (Fault kind)) = wanted ≡ Err kind
IsTaken meant wanted (Err NoMemory) = Unit {0}
