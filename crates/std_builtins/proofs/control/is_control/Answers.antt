use Rattle.std.proofs.Common.{◌∙◌, sym}
use Rattle.std.specs.Str.{chars}
use Rattle.run_model.specs.Goals.Control.{is_named, control_constructs}
use Rattle.run_model.proofs.ReservedNameLemmas.{found_any}
use Rattle.std_builtins.proofs.control.is_control.Goals as goal

pub returns : goal.returns
unfolding chars
returns c = c.is_among.ensures ∙ sym (found_any (is_named (chars c.args.name.now) c.args.arity) control_constructs)
