use Rattle.std.proofs.Common.{◌≤◌, List, length, take, sym, subst}
use Rattle.std.specs.Arc.{arc_value}
use Rattle.cell_store.specs.StoreView.{StoreView}
use Rattle.region_split.specs.Regions.{RegionView, IsConsistentRegion}
use Rattle.region_split.specs.StackOperations.{CutsTo}
use Rattle.region_split.specs.declared.choice.ChoicePoint.{ChoicePoint}
use Rattle.region_split.proofs.RegionLemmas.{cut_region, cuts_to}
use Rattle.region_split.proofs.region.Region.cut_to.Goals.{After-keep_marks}
use Rattle.region_split.proofs.region.Region.cut_to.Goals as goal

abbrev before : After-keep_marks → RegionView
before c = let s = c.self.inside in record { text = arc_value s.text; store = s.store; frames = s.frames.items; choices = s.choices.items }

few : (c : After-keep_marks) → c.args.count ≤ length (before c).choices
few c = subst (λ (x : RegionView). c.args.count ≤ length x.choices) (sym c.self.view_is) c.requires

pub invariant_of-self : goal.invariant_of-self
invariant_of-self c =
    subst (λ (cs : List ChoicePoint). IsConsistentRegion (record (before c) { store = c.keep_marks.new.self; choices = cs })) (sym c.truncate.ensures.items)
    (subst (λ (st : StoreView). IsConsistentRegion (record (before c) { store = st; choices = take c.args.count (before c).choices })) (sym c.keep_marks.ensures)
    (cut_region (before c) c.self.invariant c.args.count (few c)))

pub returns : goal.returns
returns c =
    subst (λ (x : RegionView). CutsTo x (record (before c) { store = c.keep_marks.new.self; choices = c.truncate.new.self.items }) c.args.count) c.self.view_is
    (subst (λ (cs : List ChoicePoint). CutsTo (before c) (record (before c) { store = c.keep_marks.new.self; choices = cs }) c.args.count) (sym c.truncate.ensures.items)
    (subst (λ (st : StoreView). CutsTo (before c) (record (before c) { store = st; choices = take c.args.count (before c).choices }) c.args.count) (sym c.keep_marks.ensures)
    (cuts_to (before c) c.self.invariant c.args.count (few c))))
