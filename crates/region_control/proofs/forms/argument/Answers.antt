use Rattle.region_control.proofs.FormLemmas.{argument_there, argument_term}
use Rattle.region_control.proofs.forms.argument.Goals as goal

pub argument-requires : goal.argument-requires
argument-requires c = argument_there c.args.store.now c.args.arguments c.requires.there c.args.number c.requires.some

pub returns-clause-term : goal.returns-clause-term
returns-clause-term c = argument_term c.args.store.now c.args.arguments c.requires.there c.args.number c.requires.some c.argument.result c.argument.ensures.term
