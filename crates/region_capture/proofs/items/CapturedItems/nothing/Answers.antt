use Rattle.std.proofs.Common.{subst, []}
use Rattle.region_capture.specs.CapturedItems.{HasItems}
use Rattle.region_capture.proofs.ItemLemmas.{first_none}
use Rattle.region_capture.proofs.items.CapturedItems.nothing.Goals as goal

pub returns : goal.returns
returns c = subst (λ lists. HasItems lists 0 []) c.self.view_is (first_none c.self.inside.links.items)
