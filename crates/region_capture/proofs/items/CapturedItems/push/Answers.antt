use Rattle.std.proofs.Common.{◌<◌, length, sym, subst, arith}
use Rattle.region_capture.specs.CapturedItems.{ItemLists, AreItemLinksFrom, AddsItems, HasItemBefore, captured_item, linked_items}
use Rattle.region_capture.specs.declared.items.ItemLink.{ItemLink}
use Rattle.region_capture.proofs.ItemLemmas.{pushed_linked, pushed_before, pushed_adds}
use Rattle.region_capture.proofs.items.CapturedItems.push.Goals.{In_ok-push}
use Rattle.region_capture.proofs.items.CapturedItems.push.Goals as goal

module _ (c : In_ok-push) where
  abbrev link : ItemLink
  link = record { item = c.args.item; after = c.args.after }

  within : c.args.after < length (linked_items c.self.inside.links.items)
  within = subst (λ (lists : ItemLists). c.args.after < length lists) (sym c.self.view_is) c.requires

pub invariant_of-self-2 : goal.invariant_of-self-2
invariant_of-self-2 c = subst (AreItemLinksFrom 1) (sym c.in_ok-push.ensures.items) (pushed_linked c.self.inside.links.items (link c) c.self.invariant (within c))

pub returns-clause-before : goal.returns-clause-before
returns-clause-before c =
    subst (λ links. HasItemBefore (linked_items links) c.in-Ok.number (captured_item c.args.item) c.args.after) (sym c.in_ok-push.ensures.items)
    (pushed_before c.self.inside.links.items (link c) c.in-Ok.number (within c) (let e = c.in-Ok.ensures in let l = c.len.ensures in omega (arith, e, l)))

pub returns-clause-adds : goal.returns-clause-adds
returns-clause-adds c =
    subst (λ (lists : ItemLists). AddsItems lists (linked_items c.push.new.self.items)) c.self.view_is
    (subst (λ links. AddsItems (linked_items c.self.inside.links.items) (linked_items links)) (sym c.in_ok-push.ensures.items) (pushed_adds c.self.inside.links.items (link c)))
