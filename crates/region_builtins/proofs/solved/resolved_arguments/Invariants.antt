use Rattle.std.proofs.Common.{◌≡◌, map}
use Rattle.au_model.specs.Terms.Substitutions.{resolve}
use Rattle.cell_store.specs.Arguments.{arguments_from}
use Rattle.cell_store.specs.StoreView.{substitution, text_in}
use Rattle.region_builtins.proofs.solved.resolved_arguments.Given as goal

abbrev pub invariant-loop-i : goal.invariant-loop-i
invariant-loop-i l = l.terms.items ≡ map (resolve (substitution l.store)) (arguments_from (text_in l.store) l.arguments.base l.i l.arguments.at)
