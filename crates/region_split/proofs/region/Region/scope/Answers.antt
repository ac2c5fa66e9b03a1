use Rattle.std.proofs.Common.{◌≡◌, length, ap, ◌∙◌, subst, arith}
use Rattle.std.specs.Arc.{arc_value}
use Rattle.region_split.specs.ChoicePoints.{height_of_cut}
use Rattle.region_split.specs.Regions.{RegionView, entries_of, heights_of}
use Rattle.region_split.proofs.RegionLemmas.{whole_height}
use Rattle.region_split.proofs.region.Region.scope.Goals as goal

pub returns-in-Ok-clause-height : goal.returns-in-Ok-clause-height
returns-in-Ok-clause-height c named =
    let s = c.self.inside in
    let r : RegionView = record { text = arc_value s.text; store = s.store; frames = s.frames.items; choices = s.choices.items } in
    let count : c.in-Ok.count ≡ length r.choices = let a = c.in-Ok.ensures.1 in let b = c.len.ensures in omega (arith, a, b) in
    subst (λ (x : RegionView). height_of_cut (heights_of named x) c.in-Ok.count ≡ length (entries_of named x)) c.self.view_is (ap (height_of_cut (heights_of named r)) count ∙ whole_height r c.self.invariant named)
