use Rattle.std.proofs.Common.{sym, ap, ◌∙◌, subst}
use Rattle.run_model.specs.Programs.Bodies.{is_junction}
use Rattle.cell_store.specs.StoreView.{IsValueIn}
use Rattle.meta_call.proofs.BodyLemmas.{not_two, no_junction}
use Rattle.meta_call.proofs.bodies.part_of_body.Goals.{then-count-ne2-via-then-count-ne2, then-count-ne2-via-else-count-ne2+then-not-is_junction}
use Rattle.meta_call.proofs.bodies.part_of_body.Goals as goal

pub returns-then-count-ne2 : goal.returns-then-count-ne2
returns-then-count-ne2 c =
    let st = c.args.store.now in
    let has = c.functor-name.ensures.functor c.in-Compound.base (subst (IsValueIn st) c.in-Compound.is c.dereference.ensures.there) in
    elim c.then-count-ne2.branch [
      | then-count-ne2-via-then-count-ne2 w ↦
          not_two st c.args.value c.dereference.result c.in-Compound.at c.in-Compound.base c.functor-name.result.0 c.functor-name.result.1 c.dereference.ensures.same c.in-Compound.is has w.if-count-ne2.true
      | then-count-ne2-via-else-count-ne2+then-not-is_junction w ↦
          no_junction st c.args.value c.dereference.result c.in-Compound.at c.in-Compound.base c.functor-name.result.0 c.functor-name.result.1 c.dereference.ensures.same c.in-Compound.is has (ap is_junction (sym w.name.ensures) ∙ (sym w.is_junction.ensures ∙ w.if-not-is_junction.true))
    ]
