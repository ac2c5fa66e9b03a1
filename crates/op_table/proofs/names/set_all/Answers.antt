use Rattle.std.proofs.Common.{◌∙◌, sym, subst, ap, ap₂, refl, fold}
use Rattle.op_table.specs.OperatorView.{class_meant}
use Rattle.op_table.specs.NameRows.{HasName, row_changed, rows_of}
use Rattle.op_table.proofs.MapLemmas.{each_kept, each_at, take_whole, fold_more}
use Rattle.op_table.proofs.names.set_all.Goals as goal

pub loop-name-init : goal.loop-name-init
loop-name-init c = record { names = c.requires.names; rows = refl; there = c.requires.there }

pub set-requires-clause-there : goal.set-requires-clause-there
set-requires-clause-there c = λ some.
    subst (HasName c.loop-name.names) (sym c.text.ensures) (each_at (HasName c.loop-name.names) c.args.changed.now c.loop-name.name-index c.name-item.result c.loop-name-test.true c.name-item.is (c.loop-name.invariant.there some))

pub loop-name-preserved : goal.loop-name-preserved
loop-name-preserved c =
    let f = row_changed (class_meant c.args.class) c.args.operator in
    record {
      names = c.set.ensures.names;
      rows = c.set.ensures.rows ∙ (ap₂ f c.loop-name.invariant.rows c.text.ensures ∙ sym (fold_more f (rows_of c.args.names.now) c.args.changed.now c.loop-name.name-index c.name-item.result c.loop-name-test.true c.name-item.is));
      there = λ some. each_kept (HasName c.loop-name.names) (HasName c.set.new.names) c.args.changed.now c.set.ensures.kept (c.loop-name.invariant.there some);
    }

pub returns-clause-rows : goal.returns-clause-rows
returns-clause-rows c =
    c.loop-name.invariant.rows ∙ ap (fold (row_changed (class_meant c.args.class) c.args.operator) (rows_of c.args.names.now)) (take_whole c.args.changed.now c.loop-name.name-index c.loop-name-test.false)
