use Rattle.std.proofs.Common.{◌∙◌, ◌++◌, sym, ap₂}
use Rattle.std.specs.Str.{chars}
use Rattle.op_table.specs.NameRows.{name_rows}
use Rattle.op_table.proofs.MapLemmas.{rows_push}
use Rattle.op_table.proofs.table.Ops.rows.Goals as goal

pub loop-name-preserved : goal.loop-name-preserved
loop-name-preserved c =
    c.in_ok-push_rows.ensures
    ∙ (ap₂ (λ t b. t ++ name_rows (chars b) c.in-Some.operators.now) c.loop-name.invariant c.as_str.ensures.value ∙ sym (rows_push c.loop-name.yielded c.in-Some.name c.in-Some.operators))
