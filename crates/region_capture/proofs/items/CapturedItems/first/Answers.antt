use Rattle.std.proofs.Common.{◌≡◌, ◌-◌, [], ◌∷◌, length, sym, ap, subst, arith}
use Rattle.region_capture.specs.CapturedItems.{ItemLists, HasItems, HasItemBefore, captured_item, linked_items}
use Rattle.region_capture.proofs.ItemLemmas.{first_none, length-linked, linked_before}
use Rattle.region_capture.proofs.items.CapturedItems.first.Goals as goal

pub returns-then-number-eq0 : goal.returns-then-number-eq0
returns-then-number-eq0 c = subst (λ number. HasItems c.args.self.now number []) (sym c.if-number-eq0.true) (subst (λ lists. HasItems lists 0 []) c.self.view_is (first_none c.self.inside.links.items))

pub index-link-requires : goal.index-link-requires
index-link-requires c =
    let links = c.self.inside.links.items in
    let long = length-linked ([] ∷ []) links in
    let seen : length (linked_items links) ≡ length c.args.self.now = ap (λ (x : ItemLists). length x) c.self.view_is in
    omega (arith, long, seen, c.requires, c.if-number-eq0.false)

pub returns : goal.returns
returns c =
    let links = c.self.inside.links.items in
    let long = length-linked ([] ∷ []) links in
    let seen : length (linked_items links) ≡ length c.args.self.now = ap (λ (x : ItemLists). length x) c.self.view_is in
    subst (λ (lists : ItemLists). HasItemBefore lists c.args.number (captured_item c.index-link.result.now.item) c.index-link.result.now.after) c.self.view_is
    (linked_before ([] ∷ []) links (c.args.number - 1) c.args.number c.index-link.result.now c.self.invariant (omega (arith, long, seen, c.requires, c.if-number-eq0.false)) c.index-link.ensures (omega (arith, c.if-number-eq0.false)))
