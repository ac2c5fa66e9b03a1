use Rattle.std.proofs.Common.{◌≡◌, map, slice_get, Some, sym, ap, ◌∙◌, subst}
use Rattle.std.specs.Arc.{arc_value}
use Rattle.cell_store.specs.StoreView.{text_in}
use Rattle.region_split.specs.Frames.{item_in}
use Rattle.region_split.specs.Regions.{RegionView, IsPositionIn, IsLeftAt}
use Rattle.region_split.specs.Texts.{TextView}
use Rattle.region_split.specs.declared.frame.FrameItem.TheVariants.{Goal}
use Rattle.region_split.specs.declared.frame.Left.TheVariants.{First, GoesOnAt}
use Rattle.region_split.proofs.FrameLemmas.{nothing_left}
use Rattle.region_split.proofs.LeftLemmas.{own_first, own_ended, goal_there, goal_first, end_reached, no_body}
use Rattle.region_split.proofs.region.Region.left_at.Goals.{In-Some-Goal, After-value-goal, In-Some-BodyEnd, After-result-in-None-1, Then-position-eq0-2, After-result-in-One-1}
use Rattle.region_split.proofs.region.Region.left_at.Goals as goal

pub returns-then-position-eq0 : goal.returns-then-position-eq0
returns-then-position-eq0 c = let r = c.args.self.now in ap (map (item_in (text_in r.store))) (nothing_left r.text.bodies r.frames c.args.position c.if-position-eq0.true)

module _ (c : In-Some-Goal) where
  abbrev here : RegionView
  here = let s = c.self.inside in record { text = arc_value s.text; store = s.store; frames = s.frames.items; choices = s.choices.items }

  there : IsPositionIn here c.args.position
  there = subst (λ (x : RegionView). IsPositionIn x c.args.position) (sym c.self.view_is) c.requires

  read : slice_get here.text.bodies c.args.position.at ≡ c.get.result
  read = sym (c.get.ensures ∙ ap (λ (t : TextView). slice_get t.bodies c.args.position.at) c.deref.ensures)

pub value-goal-requires-clause-there : goal.value-goal-requires-clause-there
value-goal-requires-clause-there c =
    (goal_there (here c) c.self.invariant c.args.position c.index-frame.result.now (there c) c.if-position-eq0.false c.index-frame.ensures c.in-Text.base c.in-Text.is c.in-Some-Goal.place (read c ∙ (c.in-Some-Goal.is ∙ ap Some c.in-Some-Goal.field-0-is))).0

pub value-goal-requires-clause-below : goal.value-goal-requires-clause-below
value-goal-requires-clause-below c =
    (goal_there (here c) c.self.invariant c.args.position c.index-frame.result.now (there c) c.if-position-eq0.false c.index-frame.ensures c.in-Text.base c.in-Text.is c.in-Some-Goal.place (read c ∙ (c.in-Some-Goal.is ∙ ap Some c.in-Some-Goal.field-0-is))).1

pub returns-in-Some-Goal : goal.returns-in-Some-Goal
returns-in-Some-Goal c =
    let s = c.self.inside in let r : RegionView = record { text = arc_value s.text; store = s.store; frames = s.frames.items; choices = s.choices.items } in
    let i = subst (λ (x : RegionView). IsPositionIn x c.args.position) (sym c.self.view_is) c.requires in
    let read : slice_get r.text.bodies c.args.position.at ≡ c.get.result = sym (c.get.ensures ∙ ap (λ (t : TextView). slice_get t.bodies c.args.position.at) c.deref.ensures) in
    subst (λ (x : RegionView). IsLeftAt x c.args.position (First (Goal c.value-goal.result) c.index-frame.result.now.cut)) c.self.view_is
    (goal_first r c.self.invariant c.args.position c.index-frame.result.now i c.if-position-eq0.false c.index-frame.ensures c.in-Text.base c.in-Text.is c.in-Some-Goal.place c.value-goal.result (read ∙ (c.in-Some-Goal.is ∙ ap Some c.in-Some-Goal.field-0-is)) c.value-goal.ensures.term c.value-goal.ensures.there)

pub returns-in-Some-BodyEnd : goal.returns-in-Some-BodyEnd
returns-in-Some-BodyEnd c =
    let s = c.self.inside in let r : RegionView = record { text = arc_value s.text; store = s.store; frames = s.frames.items; choices = s.choices.items } in
    let i = subst (λ (x : RegionView). IsPositionIn x c.args.position) (sym c.self.view_is) c.requires in
    let read : slice_get r.text.bodies c.args.position.at ≡ c.get.result = sym (c.get.ensures ∙ ap (λ (t : TextView). slice_get t.bodies c.args.position.at) c.deref.ensures) in
    subst (λ (x : RegionView). IsLeftAt x c.args.position (GoesOnAt c.index-frame.result.now.after)) c.self.view_is
    (end_reached r c.self.invariant c.args.position c.index-frame.result.now i c.if-position-eq0.false c.index-frame.ensures c.in-Text.base c.in-Text.is (read ∙ (c.in-Some-BodyEnd.is ∙ ap Some c.in-Some-BodyEnd.field-0-is)))

pub returns-in-None : goal.returns-in-None
returns-in-None c =
    let s = c.self.inside in let r : RegionView = record { text = arc_value s.text; store = s.store; frames = s.frames.items; choices = s.choices.items } in
    let i = subst (λ (x : RegionView). IsPositionIn x c.args.position) (sym c.self.view_is) c.requires in
    let read : slice_get r.text.bodies c.args.position.at ≡ c.get.result = sym (c.get.ensures ∙ ap (λ (t : TextView). slice_get t.bodies c.args.position.at) c.deref.ensures) in
    subst (λ (x : RegionView). IsLeftAt x c.args.position (GoesOnAt c.index-frame.result.now.after)) c.self.view_is
    (no_body r c.self.invariant c.args.position c.index-frame.result.now i c.if-position-eq0.false c.index-frame.ensures c.in-Text.base c.in-Text.is (read ∙ c.in-None.is))

pub returns-then-position-eq0-2 : goal.returns-then-position-eq0-2
returns-then-position-eq0-2 c =
    let s = c.self.inside in let r : RegionView = record { text = arc_value s.text; store = s.store; frames = s.frames.items; choices = s.choices.items } in
    let i = subst (λ (x : RegionView). IsPositionIn x c.args.position) (sym c.self.view_is) c.requires in
    subst (λ (x : RegionView). IsLeftAt x c.args.position (First c.in-One.item c.index-frame.result.now.cut)) c.self.view_is
    (own_first r c.self.invariant c.args.position c.index-frame.result.now i c.if-position-eq0.false c.index-frame.ensures c.in-One.item c.in-One.is c.if-position-eq0-2.true)

pub returns-else-position-eq0-2 : goal.returns-else-position-eq0-2
returns-else-position-eq0-2 c =
    let s = c.self.inside in let r : RegionView = record { text = arc_value s.text; store = s.store; frames = s.frames.items; choices = s.choices.items } in
    let i = subst (λ (x : RegionView). IsPositionIn x c.args.position) (sym c.self.view_is) c.requires in
    subst (λ (x : RegionView). IsLeftAt x c.args.position (GoesOnAt c.index-frame.result.now.after)) c.self.view_is
    (own_ended r c.self.invariant c.args.position c.index-frame.result.now i c.if-position-eq0.false c.index-frame.ensures c.in-One.item c.in-One.is c.if-position-eq0-2.false)
