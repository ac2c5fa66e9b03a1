use Rattle.std.proofs.Common.{◌∙◌, sym}
use Rattle.std_builtins.proofs.TextLemmas.{length_asked}
use Rattle.std_builtins.proofs.atoms.atom_length.Goals as goal

pub returns-in_err-check_number-in-Atom : goal.returns-in_err-check_number-in-Atom
returns-in_err-check_number-in-Atom c =
    length_asked c.args.atom.now c.args.length.now c.in-Atom.name c.check_number.result c.in_err-check_number-in-Atom.field-0.0 c.from_residual.result (sym c.top.ensures ∙ c.in-Atom.is) c.check_number.ensures c.in_err-check_number-in-Atom.was c.from_residual.ensures.1
