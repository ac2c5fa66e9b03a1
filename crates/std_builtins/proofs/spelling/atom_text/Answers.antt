use Rattle.std.proofs.Common.{◌∙◌, sym}
use Rattle.std_builtins.specs.Meanings.{spelling_meant}
use Rattle.std_builtins.proofs.TextLemmas.{variable_spelled}
use Rattle.std_builtins.proofs.spelling.atom_text.Goals as goal

pub returns-in-Var : goal.returns-in-Var
returns-in-Var c = variable_spelled c.args.atom.now c.args.list.now c.in-Var.field-0 (spelling_meant c.args.by) c.atom_of_list.result (sym c.top.ensures ∙ c.in-Var.is) c.atom_of_list.ensures
