-- Directives by the first cells of their arguments.
use Rattle.std.specs.Prelude.{cond, Option, None, codes}
use Rattle.std.specs.Option.{option_map}
use Rattle.au_term.specs.declared.cell.Cell.{Cell}
use Rattle.au_term.specs.declared.cell.Cell.TheVariants.{Var as VarCell, Int as IntCell, Atom as AtomCell, Functor}
use Rattle.au_model.specs.Terms.Forms.{same_name}
use Rattle.text_load.specs.Directives.{Directive, ReadsQuotesAs, quotes_named}

-- a flag that is set to a value
abbrev pub quotes_by : Cell → Cell → Option Directive
quotes_by (AtomCell flag) (AtomCell value) = cond (same_name flag (codes "double_quotes")) (option_map ReadsQuotesAs (quotes_named value)) None
quotes_by flag value = None
