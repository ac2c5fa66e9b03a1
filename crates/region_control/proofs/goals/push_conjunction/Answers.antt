use Rattle.std.proofs.Common.{◌≡◌, List, [], ◌∷◌, ◌++◌, sym, ap, ◌∙◌, subst}
use Rattle.std.specs.Prelude.{codes}
use Rattle.binding_array.specs.declared.cell.BindingCell.{BindingCell}
use Rattle.cell_store.specs.StoreView.{StoreView, IsValueIn}
use Rattle.region_control.specs.Sides.{HasSides, HasNoSides}
use Rattle.region_control.proofs.GoalLemmas.{putting_begun, value_there, goal_put, goal_smaller, sides_pending, sides_smaller}
use Rattle.region_control.proofs.goals.push_conjunction.Goals.{In_ok-push-in-Some-sides-2}
use Rattle.region_control.proofs.goals.push_conjunction.Goals as goal

pub loop-value-init : goal.loop-value-init
loop-value-init c =
    putting_begun c.args.region.now c.args.body c.args.cut c.args.after c.push.new.self.items
    (c.in_ok-push.ensures.items ∙ ap (λ (xs : List BindingCell). xs ++ c.args.body ∷ []) c.new-pending.ensures.items)
    c.requires.body c.requires.after

pub sides-requires-clause-value : goal.sides-requires-clause-value
sides-requires-clause-value c =
    subst (λ (st : StoreView). IsValueIn st c.in-Some.value) (sym c.store.ensures.store)
    (value_there c.args.region.now c.loop-value.region c.args.body c.args.cut c.args.after c.loop-value.next c.loop-value.pending.items c.pop.new.self.items c.in-Some.value c.in-Some.ensures.items c.loop-value.invariant)

pub push_item-requires-clause-item : goal.push_item-requires-clause-item
push_item-requires-clause-item c =
    value_there c.args.region.now c.loop-value.region c.args.body c.args.cut c.args.after c.loop-value.next c.loop-value.pending.items c.pop.new.self.items c.in-Some.value c.in-Some.ensures.items c.loop-value.invariant

module _ (c : In_ok-push-in-Some-sides-2) where
  abbrev both : BindingCell × BindingCell
  both = (c.in-Some-sides.left, c.in-Some-sides.right)

  has : HasSides c.loop-value.region.store c.in-Some.value (codes ",") both
  has = subst (λ (st : StoreView). HasSides st c.in-Some.value (codes ",") both) c.store.ensures.store c.in-Some-sides.ensures

  pushed : c.push-in-Some-sides-2.new.self.items ≡ (c.pop.new.self.items ++ c.in-Some-sides.left ∷ []) ++ c.in-Some-sides.right ∷ []
  pushed = c.in_ok-push-in-Some-sides-2.ensures.items ∙ ap (λ (xs : List BindingCell). xs ++ c.in-Some-sides.right ∷ []) c.in_ok-push-in-Some-sides.ensures.items

pub loop-value-smaller-in-Continue-branch-3 : goal.loop-value-smaller-in-Continue-branch-3
loop-value-smaller-in-Continue-branch-3 c =
    sides_smaller c.args.region.now c.loop-value.region c.args.body c.args.cut c.args.after c.loop-value.next c.loop-value.pending.items c.pop.new.self.items c.in-Some.value c.in-Some.ensures.items c.loop-value.invariant (both c) (has c) c.push-in-Some-sides-2.new.self.items (pushed c)

pub loop-value-preserved-in-Continue-branch-3 : goal.loop-value-preserved-in-Continue-branch-3
loop-value-preserved-in-Continue-branch-3 c =
    sides_pending c.args.region.now c.loop-value.region c.args.body c.args.cut c.args.after c.loop-value.next c.loop-value.pending.items c.pop.new.self.items c.in-Some.value c.in-Some.ensures.items c.loop-value.invariant (both c) (has c) c.push-in-Some-sides-2.new.self.items (pushed c)

pub loop-value-smaller : goal.loop-value-smaller
loop-value-smaller c =
    goal_smaller c.args.region.now c.loop-value.region c.args.body c.args.cut c.args.after c.loop-value.next c.loop-value.pending.items c.pop.new.self.items c.in-Some.value c.in-Some.ensures.items c.loop-value.invariant

pub loop-value-preserved : goal.loop-value-preserved
loop-value-preserved c =
    goal_put c.args.region.now c.loop-value.region c.args.body c.args.cut c.args.after c.loop-value.next c.loop-value.pending.items c.pop.new.self.items c.in-Some.value c.in-Some.ensures.items c.loop-value.invariant c.push_item.new.self c.in_ok-next-in-None.next
    (subst (λ (st : StoreView). HasNoSides st c.in-Some.value (codes ",")) c.store.ensures.store c.in-None.ensures)
    c.in_ok-next-in-None.ensures.ok
