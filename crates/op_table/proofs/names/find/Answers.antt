use Rattle.std.proofs.Common.{◌∙◌, ap, Some, None}
use Rattle.std.specs.Option.{option_map}
use Rattle.op_table.specs.OperatorView.{class_meant, operator_meant}
use Rattle.op_table.proofs.MapLemmas.{operator_found}
use Rattle.op_table.proofs.names.find.Goals as goal

pub returns-in_err-get : goal.returns-in_err-get
returns-in_err-get c =
    ap (option_map operator_meant) c.from_residual.ensures ∙ operator_found (class_meant c.args.class) c.args.names.now c.args.name.now None c.utf8.name c.requires c.in_err-get.ensures.value

pub returns : goal.returns
returns c =
    ap (option_map operator_meant) c.of.ensures ∙ operator_found (class_meant c.args.class) c.args.names.now c.args.name.now (Some c.in_ok-get.field-0.now) c.utf8.name c.requires c.in_ok-get.ensures.value
