use Rattle.std.proofs.Common.{◌∙◌, refl, subst, take}
use Rattle.au_model.specs.Terms.Each.{Each}
use Rattle.op_table.specs.NameRows.{HasName}
use Rattle.op_table.proofs.MapLemmas.{each_more, each_kept, take_whole}
use Rattle.op_table.proofs.names.make_places.Goals as goal

pub loop-name-init : goal.loop-name-init
loop-name-init c = record { names = c.requires; rows = refl; there = tt }

pub loop-name-preserved : goal.loop-name-preserved
loop-name-preserved c =
    let now = c.make_place.new.names in
    let name = c.name-item.result in
    let there = subst (HasName now) c.text.ensures c.in_ok-make_place.ensures.there in
    let before = each_kept (HasName c.loop-name.names) (HasName now) (take c.loop-name.name-index c.args.wanted.now) c.in_ok-make_place.ensures.kept c.loop-name.invariant.there in
    record {
      names = c.in_ok-make_place.ensures.names;
      rows = c.in_ok-make_place.ensures.rows ∙ c.loop-name.invariant.rows;
      there = each_more (HasName now) c.args.wanted.now c.loop-name.name-index name c.loop-name-test.true c.name-item.is before there;
    }

pub returns-clause-there : goal.returns-clause-there
returns-clause-there c = λ some. subst (Each (HasName c.loop-name.names)) (take_whole c.args.wanted.now c.loop-name.name-index c.loop-name-test.false) c.loop-name.invariant.there
