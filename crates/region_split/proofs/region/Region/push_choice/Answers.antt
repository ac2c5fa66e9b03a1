use Rattle.std.proofs.Common.{◌≡◌, ◌≤◌, List, [], ◌∷◌, ◌++◌, length, max, sym, ap, ◌∙◌, subst, arith}
use Rattle.std.specs.Arc.{arc_value}
use Rattle.cell_store.specs.StoreView.{StoreView}
use Rattle.region_split.specs.ChoicePoints.{frames_kept}
use Rattle.region_split.specs.QueryEnds.{MayComeOver}
use Rattle.region_split.specs.Regions.{RegionView, IsConsistentRegion, IsPositionIn, AreAlternativesIn}
use Rattle.region_split.specs.StackOperations.{AddsChoice}
use Rattle.region_split.specs.declared.choice.ChoicePoint.{ChoicePoint}
use Rattle.std.proofs.Math.Nat.{le-max_left, le-max_right, max-le}
use Rattle.region_split.proofs.RegionLemmas.{topped_region, adds_choice}
use Rattle.region_split.proofs.region.Region.push_choice.Goals.{After-unwrap}
use Rattle.region_split.proofs.region.Region.push_choice.Goals as goal

module _ (c : After-unwrap) where
  abbrev before : RegionView
  before = let s = c.self.inside in record { text = arc_value s.text; store = s.store; frames = s.frames.items; choices = s.choices.items }

  abbrev choice : ChoicePoint
  choice = record { alternatives = c.args.alternatives; after = c.args.after; frames = c.max-frames.result }

  frames : c.max-frames.result ≡ max (frames_kept 0 before.choices) c.args.after.frame
  frames = c.max-frames.ensures ∙ ap (λ n. max n c.args.after.frame) (c.frames_kept_by.ensures ∙ ap (frames_kept 0) c.deref.ensures.value)

  own : c.args.after.frame ≤ c.max-frames.result
  own = let e = frames in let m = le-max_right (frames_kept 0 before.choices) c.args.after.frame in omega (arith, e, m)

  older : frames_kept 0 before.choices ≤ c.max-frames.result
  older = let e = frames in let m = le-max_left (frames_kept 0 before.choices) c.args.after.frame in omega (arith, e, m)

  position : IsPositionIn before c.args.after
  position = subst (λ x. IsPositionIn x c.args.after) (sym c.self.view_is) c.requires.position

  within : c.max-frames.result ≤ length before.frames
  within = let e = frames in let m = max-le c.self.invariant.frames position.frame in omega (arith, e, m)

  values : AreAlternativesIn before c.args.alternatives
  values = subst (λ x. AreAlternativesIn x c.args.alternatives) (sym c.self.view_is) c.requires.values

  over : MayComeOver before.choices c.args.alternatives
  over = subst (λ (x : RegionView). MayComeOver x.choices c.args.alternatives) (sym c.self.view_is) c.requires.over

  listed : c.push.new.self.items ≡ before.choices ++ choice ∷ []
  listed = let p = c.push.ensures.items in let u = c.unwrap.ensures in let e = c.reserve.ensures.items in grind (arith, p, u, e)

pub invariant_of-self-2 : goal.invariant_of-self-2
invariant_of-self-2 c =
    subst (λ (cs : List ChoicePoint). IsConsistentRegion (record (before c) { store = c.mark.new.self; choices = cs })) (sym (listed c))
    (subst (λ (st : StoreView). IsConsistentRegion (record (before c) { store = st; choices = (before c).choices ++ choice c ∷ [] })) (sym c.in_ok-mark.ensures.ok)
    (topped_region (before c) c.self.invariant (choice c) (own c) (older c) (within c) (position c) (values c) (over c)))

pub returns-clause-ok : goal.returns-clause-ok
returns-clause-ok c =
    subst (λ (x : RegionView). AddsChoice x (record (before c) { store = c.mark.new.self; choices = c.push.new.self.items }) c.args.alternatives c.args.after) c.self.view_is
    (subst (λ (cs : List ChoicePoint). AddsChoice (before c) (record (before c) { store = c.mark.new.self; choices = cs }) c.args.alternatives c.args.after) (sym (listed c))
    (subst (λ (st : StoreView). AddsChoice (before c) (record (before c) { store = st; choices = (before c).choices ++ choice c ∷ [] }) c.args.alternatives c.args.after) (sym c.in_ok-mark.ensures.ok)
    (adds_choice (before c) c.self.invariant (choice c) (own c) (older c) (within c) (position c) (values c))))
