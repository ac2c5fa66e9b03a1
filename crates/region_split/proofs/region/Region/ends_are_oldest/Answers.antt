use Rattle.std.proofs.Common.{◌≡◌, [], length, sym, subst}
use Rattle.std.specs.Arc.{arc_value}
use Rattle.region_split.specs.QueryEnds.{AreEndsAtFloor, AreEndsOldest}
use Rattle.region_split.specs.Regions.{RegionView, region_setting}
use Rattle.region_split.proofs.OldestEndLemmas.{ends_at_floor}
use Rattle.region_split.proofs.StandingLemmas.{as_many}
use Rattle.region_split.proofs.region.Region.ends_are_oldest.Goals as goal

pub returns : goal.returns
returns c =
    let s = c.self.inside in
    let r : RegionView = record { text = arc_value s.text; store = s.store; frames = s.frames.items; choices = s.choices.items } in
    record {
      ends = subst (λ (x : RegionView). AreEndsOldest x.choices) c.self.view_is c.self.invariant.ends;
      floor = subst (λ (x : RegionView). AreEndsAtFloor x.store.floor x.choices x.store.marks) c.self.view_is (ends_at_floor (region_setting [] r) 0 0 r.choices r.store.marks c.self.invariant.choices);
      marks = subst (λ (x : RegionView). length x.store.marks ≡ length x.choices) c.self.view_is (sym (as_many (region_setting [] r) 0 0 r.choices r.store.marks c.self.invariant.choices));
    }
