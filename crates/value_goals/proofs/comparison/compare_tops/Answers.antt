use Rattle.std.proofs.Common.{ap₂, ◌∙◌, subst}
use Rattle.std.specs.Ordering.{nat_cmp}
use Rattle.cell_store.specs.StoreView.{IsValueIn}
use Rattle.value_goals.proofs.ComparisonLemmas.{by_kind, not_variable, not_integer, not_atom, not_compound}
use Rattle.value_goals.proofs.comparison.compare_tops.Goals as goal
use Rattle.value_goals.proofs.comparison.compare_tops.Goals.{in_default-via-in-Var+in_default, in_default-via-in-Int+in_default, in_default-via-in-Atom+in_default, in_default-via-in-Compound+in_default, in_default-via-in_default}

pub returns-in_default : goal.returns-in_default
returns-in_default c = c.cmp-in_default.ensures ∙ (ap₂ nat_cmp c.kind_number.ensures c.kind_number-in_default.ensures ∙ by_kind c.args.store.now c.args.left c.args.right c.dereference-left.result c.dereference-right.result c.dereference-left.ensures c.dereference-right.ensures
    (elim c.in_default.branch [
      | in_default-via-in-Var+in_default w ↦ not_variable w.in_default.field-0-0 c.dereference-left.result c.dereference-right.result w.in_default.is-0 w.in_default.not-Var-1
      | in_default-via-in-Int+in_default w ↦ not_integer w.in_default.field-0-0 c.dereference-left.result c.dereference-right.result w.in_default.is-0 w.in_default.not-Int-1
      | in_default-via-in-Atom+in_default w ↦ not_atom w.in_default.field-0-0 c.dereference-left.result c.dereference-right.result w.in_default.is-0 w.in_default.not-Atom-1
      | in_default-via-in-Compound+in_default w ↦ not_compound w.in_default.field-0-0 w.in_default.field-1-0 c.dereference-left.result c.dereference-right.result w.in_default.is-0 w.in_default.not-Compound-1
      | in_default-via-in_default w ↦ absurd (subst (IsValueIn c.args.store.now) w.in_default.is-0 c.dereference-left.ensures.there)
    ]))
