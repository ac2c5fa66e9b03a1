use Rattle.std.proofs.Common.{◌≡◌, ◌∙◌, sym, subst, ap}
use Rattle.au_model.specs.Syntax.Operators.{IsOperatorTable}
use Rattle.op_table.specs.NameRows.{named_entries, table_rows}
use Rattle.op_table.proofs.NameOrderLemmas.{clones_named}
use Rattle.op_table.proofs.MapLemmas.{names_copied}
use Rattle.op_table.proofs.table.Ops.copy.Goals as goal
use Rattle.op_table.proofs.table.Ops.copy.Goals.{In_ok-clone}

same : (c : In_ok-clone) → named_entries c.in_ok-clone.field-0 ≡ named_entries c.self.inside.names
same c = clones_named _ _ (λ j k h. h) (λ s t h. h) c.self.inside.names.entries c.in_ok-clone.field-0.entries c.in_ok-clone.ensures.cases

pub invariant_of-result : goal.invariant_of-result
invariant_of-result c =
    (names_copied c.self.inside.names c.in_ok-clone.field-0 (same c) c.self.invariant.0, subst IsOperatorTable (ap table_rows (sym (same c))) c.self.invariant.1)

pub returns : goal.returns
returns c = ap table_rows (same c) ∙ c.self.view_is
