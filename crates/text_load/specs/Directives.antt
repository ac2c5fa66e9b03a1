-- Directives (ISO/IEC 13211-1, 7.4.2): what a term after `:-` asks for. That `set_prolog_flag/2` is one for the flag
-- `double_quotes` alone is our own.
use Rattle.std.specs.Prelude.{ℕ, ℤ, pos, negsuc, nat_le, Bool, not, ◌&&◌, ◌==◌, if◌then◌else◌, cond, List, [], ◌∷◌, Option, Some, None, codes}
use Rattle.std.specs.Option.{option_map}
use Rattle.au_term.specs.Term.{Term, IntTerm, AtomTerm, Compound, end, more, argument, argument_count}
use Rattle.au_model.specs.Terms.Forms.{same_name, name_of}
use Rattle.au_model.specs.Terms.ListForms.{ListForm, ProperList, PartialList, NoList, list_form}
use Rattle.au_model.specs.declared.types.DoubleQuotes.{DoubleQuotes}
use Rattle.au_model.specs.declared.types.DoubleQuotes.TheVariants as quotes
use Rattle.run_model.specs.Programs.Bodies.{goals_of}
use Rattle.run_model.specs.Goals.GoalOutcomes.{is_reserved}
use Rattle.dyn_clauses.specs.declared.indicator.Indicator.{Indicator}

pub data Directive : Type 0 where
  -- procedures are dynamic from then on (7.4.2.1)
  MakesDynamic : List Indicator → Directive
  -- clauses of procedures need not stand together, which they never need (7.4.2.3)
  LetsStandApart : List Indicator → Directive
  -- op(Priority, Specifier, Names) (7.4.2.4)
  ChangesOperators : Term → Term → Term → Directive
  -- what double-quoted items stand for (7.11.2.5)
  ReadsQuotesAs : DoubleQuotes → Directive

-- a procedure that a text may define
abbrev pub definable : List ℕ → ℕ → Option Indicator
definable name arity = cond (nat_le arity 65535 && not (is_reserved name arity)) (Some (record { name = name; arity = arity })) None

abbrev pub indicator_with : List ℕ → ℤ → Option Indicator
indicator_with name (pos arity) = definable name arity
indicator_with name (negsuc n) = None

-- the procedure of an indicator `Name/Arity` (7.1.6.6)
abbrev pub indicator_in : Term → Option Indicator
indicator_in (Compound f (more (AtomTerm name) (more (IntTerm arity) end))) = cond (same_name f (codes "/")) (indicator_with name arity) None
indicator_in t = None

-- all of them, or none where one is missing
abbrev pub indicator_before : Option Indicator → Option (List Indicator) → Option (List Indicator)
indicator_before (Some i) (Some is) = Some (i ∷ is)
indicator_before (Some i) None = None
indicator_before None is = None

abbrev pub indicators_among : List Term → Option (List Indicator)
indicators_among [] = Some []
indicators_among (t ∷ ts) = indicator_before (indicator_in t) (indicators_among ts)

-- the items of a list, or else the parts of a conjunction, which may be one alone
abbrev pub parts_by : ListForm → Term → List Term
parts_by (ProperList ts) t = ts
parts_by (PartialList ts) t = goals_of t
parts_by NoList t = goals_of t

abbrev pub listed_parts : Term → List Term
listed_parts t = parts_by (list_form t) t

abbrev pub indicators_in : Term → Option (List Indicator)
indicators_in t = indicators_among (listed_parts t)

abbrev pub quotes_named : List ℕ → Option DoubleQuotes
quotes_named name =
    if same_name name (codes "codes") then Some quotes.Codes
    else if same_name name (codes "chars") then Some quotes.Chars
    else if same_name name (codes "atom") then Some quotes.Atom
    else None

-- the flag `double_quotes` with one of its values
abbrev pub quotes_set : Term → Term → Option Directive
quotes_set (AtomTerm flag) (AtomTerm value) = cond (same_name flag (codes "double_quotes")) (option_map ReadsQuotesAs (quotes_named value)) None
quotes_set flag value = None

abbrev pub has_indicator : Term → List ℕ → ℕ → Bool
has_indicator t name arity = argument_count t == arity && same_name (name_of t) name

abbrev pub directive_of : Term → Option Directive
directive_of t =
    if has_indicator t (codes "dynamic") 1 then option_map MakesDynamic (indicators_in (argument 0 t))
    else if has_indicator t (codes "discontiguous") 1 then option_map LetsStandApart (indicators_in (argument 0 t))
    else if has_indicator t (codes "op") 3 then Some (ChangesOperators (argument 0 t) (argument 1 t) (argument 2 t))
    else if has_indicator t (codes "set_prolog_flag") 2 then quotes_set (argument 0 t) (argument 1 t)
    else None
