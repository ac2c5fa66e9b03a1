use Rattle.std.proofs.Common.{nat_eq, sym, ap, ◌∙◌, subst}
use Rattle.std.specs.Cmp.Lexicographic.{pointwise}
use Rattle.cell_store.specs.StoreView.{IsValueIn}
use Rattle.region_control.proofs.SideLemmas.{other_count, other_name}
use Rattle.region_control.proofs.sides.sides.Goals.{then-count-ne2-via-then-count-ne2, then-count-ne2-via-else-count-ne2+then-not-is_text}
use Rattle.region_control.proofs.sides.sides.Goals as goal

pub returns-then-count-ne2 : goal.returns-then-count-ne2
returns-then-count-ne2 c =
    let st = c.args.store.now in
    let has = c.functor-number.ensures.functor c.in-Compound.base (subst (IsValueIn st) c.in-Compound.is c.dereference.ensures.there) in
    elim c.then-count-ne2.branch [
      | then-count-ne2-via-then-count-ne2 w ↦
          other_count st c.args.value c.dereference.result c.in-Compound.at c.in-Compound.base c.functor-number.result.0 c.functor-number.result.1 c.dereference.ensures.same c.in-Compound.is has c.args.name.now w.if-count-ne2.true
      | then-count-ne2-via-else-count-ne2+then-not-is_text w ↦
          other_name st c.args.value c.dereference.result c.in-Compound.at c.in-Compound.base c.functor-number.result.0 c.functor-number.result.1 c.dereference.ensures.same c.in-Compound.is has c.args.name.now (ap (λ name. pointwise nat_eq name c.args.name.now) (sym w.name.ensures) ∙ (sym w.is_text.ensures ∙ w.if-not-is_text.true))
    ]
