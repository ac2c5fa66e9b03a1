use Rattle.std.proofs.Common.{◌≡◌, ℕ, ◌+◌, ◌-◌, ◌<◌, [], ◌∷◌, length, length-append, refl, sym, ap, ◌∙◌, subst, arith}
use Rattle.std.specs.Arc.{arc_value}
use Rattle.cell_store.specs.StoreView.{StoreView, with_marks}
use Rattle.region_split.specs.Regions.{RegionView, IsConsistentRegion, region_setting}
use Rattle.region_split.specs.StackOperations.{TakesNewest}
use Rattle.region_split.proofs.StandingLemmas.{as_many}
use Rattle.region_split.proofs.RegionLemmas.{EndsWith, ends_with, back_at, lowered_region, takes_newest}
use Rattle.region_split.proofs.region.Region.take_newest.Goals.{In-Some}
use Rattle.region_split.proofs.region.Region.take_newest.Goals as goal

pub undo_to-requires : goal.undo_to-requires
undo_to-requires c =
    let s = c.self.inside in
    let r : RegionView = record { text = arc_value s.text; store = s.store; frames = s.frames.items; choices = s.choices.items } in
    let many : length s.choices.items ≡ length s.store.marks = as_many (region_setting [] r) 0 0 s.choices.items s.store.marks c.self.invariant.choices in
    let some : 0 < length s.choices.items = subst (λ (x : RegionView). 0 < length x.choices) (sym c.self.view_is) c.requires in
    let count = c.len-newest.ensures in
    omega (arith, many, some, count)

module _ (c : In-Some) where
  abbrev before : RegionView
  before = let s = c.self.inside in record { text = arc_value s.text; store = s.store; frames = s.frames.items; choices = s.choices.items }

  many : length before.choices ≡ length before.store.marks
  many = as_many (region_setting [] before) 0 0 before.choices before.store.marks c.self.invariant.choices

  place : ℕ
  place = length c.pop.new.self.items

  long : length before.store.marks ≡ length c.pop.new.self.items + 1
  long = let a = ap length c.in-Some.ensures.items in let b = length-append c.pop.new.self.items (c.in-Some.choice ∷ []) in let m = many in omega (arith, a, b, m)

  newest : c.len-newest.result - 1 ≡ length c.pop.new.self.items
  newest = let count = c.len-newest.ensures in let l = c.in-Some.ensures.len in omega (arith, count, l)

  marks : EndsWith before.store.marks (length c.pop.new.self.items)
  marks = ends_with before.store.marks (length c.pop.new.self.items) long

  store : c.keep_marks.new.self ≡ record before.store { now = marks.last; marks = marks.before }
  store =
      let at : c.len-newest.result - 1 ≡ length marks.before = newest ∙ sym marks.long in
      back_at before.store c.keep_marks.new.self marks.before marks.last (c.len-newest.result - 1) marks.is (sym at) (c.keep_marks.ensures ∙ ap (with_marks (c.len-newest.result - 1)) (c.undo_to.ensures marks.before [] marks.last marks.is at))

pub invariant_of-self : goal.invariant_of-self
invariant_of-self c =
    subst (λ (st : StoreView). IsConsistentRegion (record (before c) { store = st; choices = c.pop.new.self.items })) (sym (store c))
    (lowered_region (before c) c.self.invariant c.pop.new.self.items c.in-Some.choice (marks c).before (marks c).last (marks c).last c.in-Some.ensures.items (marks c).is)

pub returns : goal.returns
returns c =
    subst (λ (x : RegionView). TakesNewest x (record (before c) { store = c.keep_marks.new.self; choices = c.pop.new.self.items }) c.in-Some.choice) c.self.view_is
    (subst (λ (st : StoreView). TakesNewest (before c) (record (before c) { store = st; choices = c.pop.new.self.items }) c.in-Some.choice) (sym (store c))
    (takes_newest (before c) c.self.invariant c.pop.new.self.items c.in-Some.choice (marks c).before (marks c).last (marks c).last c.in-Some.ensures.items (marks c).is refl))
