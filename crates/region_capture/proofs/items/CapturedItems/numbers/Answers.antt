use Rattle.std.proofs.Common.{◌≡◌, [], ◌∷◌, length, ap, arith}
use Rattle.region_capture.specs.CapturedItems.{ItemLists, linked_items}
use Rattle.region_capture.proofs.ItemLemmas.{length-linked}
use Rattle.region_capture.proofs.items.CapturedItems.numbers.Goals as goal

pub returns : goal.returns
returns c =
    let links = c.self.inside.links.items in
    let long = length-linked ([] ∷ []) links in
    let seen : length (linked_items links) ≡ length c.args.self.now = ap (λ (x : ItemLists). length x) c.self.view_is in
    omega (arith, long, seen, c.len.ensures)
