use Rattle.cell_store.proofs.RuleLemmas.{int_clash, atom_clash, compound_clash, no_variable_constant}
use Rattle.cell_store.proofs.unify.constants_go.Goals as goal

pub returns-in_default : goal.returns-in_default
returns-in_default c = int_clash c.args.store.now c.in_default.field-0-0 c.args.left c.args.right c.in_default.is-0 (no_variable_constant c.args.right c.requires.right_constant) c.requires.right c.in_default.not-Int-1

pub returns-in_default-2 : goal.returns-in_default-2
returns-in_default-2 c = atom_clash c.args.store.now c.in_default.field-0-0 c.args.left c.args.right c.in_default.is-0 (no_variable_constant c.args.right c.requires.right_constant) c.requires.right c.in_default.not-Atom-1

pub returns-in_default-3 : goal.returns-in_default-3
returns-in_default-3 c = compound_clash c.args.store.now c.args.left c.args.right c.requires.left_no_variable c.requires.left c.in_default.not-Int-0 c.in_default.not-Atom-0 c.requires.right_constant
