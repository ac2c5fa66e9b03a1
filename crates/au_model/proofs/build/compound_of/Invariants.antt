use Rattle.std.proofs.Common.{◌≡◌, ◌++◌, drop}
use Rattle.au_term.specs.Term.{Compound}
use Rattle.au_term.specs.PrefixOrder.{cells_of, all_cells}
use Rattle.au_model.specs.Terms.Lists.{terms_from}
use Rattle.au_model.proofs.build.compound_of.Given as goal

abbrev pub invariant-loop-argument : goal.invariant-loop-argument
invariant-loop-argument l =
    l.builder ++ all_cells (terms_from (drop l.argument-index l.arguments)) ≡ cells_of (Compound l.fn.name (terms_from l.arguments))
