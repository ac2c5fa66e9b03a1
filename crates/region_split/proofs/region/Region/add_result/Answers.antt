use Rattle.std.proofs.Common.{◌≡◌, List, slice_set, sym, subst}
use Rattle.std.specs.Arc.{arc_value}
use Rattle.region_split.specs.ChoicePoints.{with_found}
use Rattle.region_split.specs.Regions.{RegionView, IsConsistentRegion}
use Rattle.region_split.specs.StackOperations.{AddsResult}
use Rattle.region_split.specs.declared.choice.ChoicePoint.{ChoicePoint}
use Rattle.region_split.proofs.FindallLemmas.{result_region, result_added, same_choices, by_result, on_ok}
use Rattle.region_split.proofs.region.Region.add_result.Goals.{After-self-1}
use Rattle.region_split.proofs.region.Region.add_result.Goals as goal

module _ (c : After-self-1) where
  abbrev before : RegionView
  before = let s = c.self.inside in record { text = arc_value s.text; store = s.store; frames = s.frames.items; choices = s.choices.items }

  abbrev place : ChoicePoint
  place = c.index_mut.result.now

  abbrev now : List ChoicePoint
  now = slice_set before.choices c.args.over (record place { alternatives = c.add_result.new.self })

  sound : IsConsistentRegion (record before { choices = now })
  sound = by_result (c.add_result.new.self ≡ with_found c.args.term place.alternatives) (c.add_result.new.self ≡ place.alternatives) (IsConsistentRegion (record before { choices = now })) c.add_result.result c.add_result.ensures.ok c.add_result.ensures.err
      (result_region before c.args.self.now c.self.view_is c.self.invariant c.args.over place c.args.term c.add_result.new.self c.requires c.index_mut.ensures.value)
      (λ e. subst (λ (cs : List ChoicePoint). IsConsistentRegion (record before { choices = cs })) (sym (same_choices before c.args.self.now c.self.view_is c.self.invariant c.args.over place c.args.term c.add_result.new.self c.requires c.index_mut.ensures.value e)) c.self.invariant)

pub invariant_of-self : goal.invariant_of-self
invariant_of-self c = sound c

pub returns-clause-ok : goal.returns-clause-ok
returns-clause-ok c = on_ok (c.add_result.new.self ≡ with_found c.args.term (place c).alternatives) (AddsResult c.args.self.now (record (before c) { choices = now c }) c.args.over c.args.term) c.add_result.result c.add_result.ensures.ok
    (result_added (before c) c.args.self.now c.self.view_is c.self.invariant c.args.over (place c) c.args.term c.add_result.new.self c.requires c.index_mut.ensures.value)
