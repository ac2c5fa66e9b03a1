use Rattle.std.proofs.Common.{length, map, refl, sym, ap, subst, arith}
use Rattle.cell_store.specs.StoreView.{text_in}
use Rattle.region_split.specs.Frames.{item_in, AreLeftScoped}
use Rattle.region_split.specs.ChoicePoints.{AreMarked}
use Rattle.region_split.proofs.FrameLemmas.{nothing_left}
use Rattle.region_split.proofs.region.Region.nothing_left.Goals as goal

pub returns-clause-items : goal.returns-clause-items
returns-clause-items c = let r = c.args.self.now in ap (map (item_in (text_in r.store))) (nothing_left r.text.bodies r.frames (record { frame = 0; at = 0 }) refl)

pub returns-clause-position : goal.returns-clause-position
returns-clause-position c =
    let r = c.args.self.now in
    record { frame = omega arith; scoped = subst (AreLeftScoped (text_in r.store) r.store.now.next (length r.choices)) (sym (nothing_left r.text.bodies r.frames (record { frame = 0; at = 0 }) refl)) tt; marked = subst (AreMarked r.choices) (sym (nothing_left r.text.bodies r.frames (record { frame = 0; at = 0 }) refl)) tt }
