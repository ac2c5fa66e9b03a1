-- What a term of a text is: a clause, a query, a directive, or none of them (ISO/IEC 13211-1, 6.2.1 and 7.4). That a
-- query is in the text is our own.
use Rattle.std.specs.Prelude.{ℕ, Bool, not, ◌&&◌, List, Option, Some, None, codes, if◌then◌else◌, cond}
use Rattle.au_term.specs.Term.{Term, AtomTerm, Compound, end, more, argument_count}
use Rattle.au_model.specs.Terms.Forms.{same_name, name_of, is_callable}
use Rattle.run_model.specs.Programs.Bodies.{body_of, called_goals}
use Rattle.run_model.specs.Programs.Clauses.{Clause}
use Rattle.run_model.specs.Goals.GoalOutcomes.{is_reserved}
use Rattle.au_model.specs.Terms.Named.{NamedVariable}
use Rattle.run_model.specs.Programs.Jobs.{Query}
use Rattle.au_model.specs.Syntax.Trees.{Tree}
use Rattle.au_model.specs.Syntax.VariableNumbers as reading
use Rattle.au_model.specs.Syntax.VariableNumbers.{no_variables}
use Rattle.au_model.specs.declared.types.FaultKind.{FaultKind}
use Rattle.au_model.specs.declared.types.FaultKind.TheVariants.{BadClause, BadDirective}
use Rattle.run_model.specs.Programs.Clauses.{numbered}
use Rattle.text_load.specs.Directives.{Directive, directive_of}

pub data Sentence : Type 0 where
  ClauseSentence : Clause → Sentence
  QuerySentence : Query → Sentence
  DirectiveSentence : Directive → Sentence
  NoSentence : FaultKind → Sentence

-- a head names a procedure that a text may define
abbrev pub may_head : Term → Bool
may_head h = is_callable h && not (is_reserved (name_of h) (argument_count h))

abbrev pub clause_with : Term → Option Term → Sentence
clause_with h (Some body) = ClauseSentence (numbered (record { head = h; body = body }))
clause_with h None = NoSentence BadClause

-- a head and a body, which is kept as such
abbrev pub clause_of : Term → Term → Sentence
clause_of h b = cond (may_head h) (clause_with h (body_of b)) (NoSentence BadClause)

abbrev pub fact_of : Term → Sentence
fact_of h = clause_of h (AtomTerm (codes "true"))

abbrev pub query_with : List NamedVariable → Option (List Term) → Sentence
query_with names (Some gs) = QuerySentence (record { goals = gs; names = names })
query_with names None = NoSentence BadClause

abbrev pub directive_with : Option Directive → Sentence
directive_with (Some d) = DirectiveSentence d
directive_with None = NoSentence BadDirective

abbrev pub prefixed_sentence : List NamedVariable → List ℕ → Term → Sentence
prefixed_sentence names f t =
    if same_name f (codes "?-") then query_with names (called_goals t)
    else if same_name f (codes ":-") then directive_with (directive_of t)
    else fact_of (Compound f (more t end))

abbrev pub sentence_of : List NamedVariable → Term → Sentence
sentence_of names (Compound f (more t end)) = prefixed_sentence names f t
sentence_of names (Compound f (more h (more b end))) = if same_name f (codes ":-") then clause_of h b else fact_of (Compound f (more h (more b end)))
sentence_of names t = fact_of t

-- the sentence of a term as it is spelled
abbrev pub sentence : Tree → Sentence
sentence t = let r = reading.numbered no_variables t in sentence_of r.1.named r.0
