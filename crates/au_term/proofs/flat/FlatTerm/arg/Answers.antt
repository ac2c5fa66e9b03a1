use Rattle.std.proofs.Common.{ap, ◌∙◌, sym, subst, ◌<◌}
use Rattle.au_term.specs.PrefixOrder.{cells_of}
use Rattle.au_term.specs.Term.{argument, argument_count}
use Rattle.au_term.proofs.SubtermLemmas.{subterm-zero}
use Rattle.au_term.proofs.flat.FlatTerm.arg.Goals as goal

pub arg_start-requires-clause-argument : goal.arg_start-requires-clause-argument
arg_start-requires-clause-argument c = subst (λ t. c.args.i < argument_count t) (sym (subterm-zero c.args.self.now)) c.requires

pub returns-clause-cells : goal.returns-clause-cells
returns-clause-cells c =
    c.subterm.ensures.cells ∙ ap cells_of (c.arg_start.ensures.is ∙ ap (argument c.args.i) (subterm-zero c.args.self.now))
