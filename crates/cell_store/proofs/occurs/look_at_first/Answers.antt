use Rattle.std.proofs.Common.{subst}
use Rattle.au_term.specs.Term.{Term}
use Rattle.au_model.specs.Terms.Substitutions.{resolve, value_of}
use Rattle.cell_store.specs.Arguments.{argument_at, IsSearched}
use Rattle.cell_store.specs.StoreView.{substitution, text_in}
use Rattle.cell_store.proofs.OccurrenceLemmas.{none_occurs}
use Rattle.cell_store.proofs.occurs.look_at_first.Goals as goal

pub returns-in-Some-clause-searched : goal.returns-in-Some-clause-searched
returns-in-Some-clause-searched c =
    let st = c.args.store.now in
    subst (λ (t : Term). IsSearched st c.args.variable (resolve (substitution st) t) c.look_at.result) c.in-Some.ensures.argument.term c.look_at.ensures

pub returns-in-None-clause-searched : goal.returns-in-None-clause-searched
returns-in-None-clause-searched c =
    let st = c.args.store.now in
    none_occurs (value_of (substitution st)) c.args.variable (argument_at (text_in st) c.args.arguments.base c.args.arguments.at) c.in-None.ensures.argument
