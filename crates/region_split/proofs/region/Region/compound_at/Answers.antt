use Rattle.std.proofs.Common.{◌≡◌, ◌+◌, ℕ, slice_get, Some, false, MatchOption, sym, ap, ◌∙◌, subst}
use Rattle.std.specs.Arc.{arc_value}
use Rattle.au_model.specs.Terms.TermTypes.{is_compound}
use Rattle.au_term.specs.Shifted.{shifted}
use Rattle.binding_array.specs.declared.cell.BindingCell.TheVariants.{Compound}
use Rattle.cell_store.specs.ArgumentSteps.{IsCompoundPlace}
use Rattle.cell_store.specs.StoreView.{text_in}
use Rattle.clause_compile.specs.Places.{meaning_in}
use Rattle.region_split.specs.CompoundGoals.{HasNoCompoundFirst, IsCompoundFirst, IsNoCompoundGoal}
use Rattle.region_split.specs.Regions.{RegionView, IsPositionIn}
use Rattle.region_split.specs.Texts.{TextView}
use Rattle.region_split.specs.declared.frame.FrameBody.TheVariants.{One}
use Rattle.region_split.specs.declared.frame.FrameItem.TheVariants.{Goal}
use Rattle.region_split.proofs.LeftLemmas.{goal_there}
use Rattle.region_split.proofs.CompoundLemmas.{item_past, item_no_compound, item_compound, body_ended, body_past, goal_no_compound, goal_before, goal_last}
use Rattle.region_split.proofs.region.Region.compound_at.Goals.{in-Some-BodyEnd-get, in_default-get, in_default-get-2}
use Rattle.region_split.proofs.region.Region.compound_at.Goals as goal

pub any_compound-requires-clause-there : goal.any_compound-requires-clause-there
any_compound-requires-clause-there c =
    let s = c.self.inside in let r : RegionView = record { text = arc_value s.text; store = s.store; frames = s.frames.items; choices = s.choices.items } in
    let i = subst (λ (x : RegionView). IsPositionIn x c.args.position) (sym c.self.view_is) c.requires in
    let read : slice_get r.text.bodies c.args.position.at ≡ c.get.result = sym (c.get.ensures ∙ ap (λ (t : TextView). slice_get t.bodies c.args.position.at) c.deref.ensures) in
    (goal_there r c.self.invariant c.args.position c.index-frame.result.now i c.if-position-eq0.false c.index-frame.ensures c.in-Text.base c.in-Text.is c.in-Some-Goal.place (read ∙ (c.in-Some-Goal.is ∙ ap Some c.in-Some-Goal.field-0-is))).0

pub any_compound-requires-clause-below : goal.any_compound-requires-clause-below
any_compound-requires-clause-below c =
    let s = c.self.inside in let r : RegionView = record { text = arc_value s.text; store = s.store; frames = s.frames.items; choices = s.choices.items } in
    let i = subst (λ (x : RegionView). IsPositionIn x c.args.position) (sym c.self.view_is) c.requires in
    let read : slice_get r.text.bodies c.args.position.at ≡ c.get.result = sym (c.get.ensures ∙ ap (λ (t : TextView). slice_get t.bodies c.args.position.at) c.deref.ensures) in
    (goal_there r c.self.invariant c.args.position c.index-frame.result.now i c.if-position-eq0.false c.index-frame.ensures c.in-Text.base c.in-Text.is c.in-Some-Goal.place (read ∙ (c.in-Some-Goal.is ∙ ap Some c.in-Some-Goal.field-0-is))).1

pub returns-in_default : goal.returns-in_default
returns-in_default c =
    let s = c.self.inside in let r : RegionView = record { text = arc_value s.text; store = s.store; frames = s.frames.items; choices = s.choices.items } in
    let i = subst (λ (x : RegionView). IsPositionIn x c.args.position) (sym c.self.view_is) c.requires in
    let read : slice_get r.text.bodies c.args.position.at ≡ c.get.result = sym (c.get.ensures ∙ ap (λ (t : TextView). slice_get t.bodies c.args.position.at) c.deref.ensures) in
    let no = subst (λ o. MatchOption o (is_compound (shifted c.in-Text.base (meaning_in (text_in r.store) c.in-Some-Goal.place)) ≡ false) (IsCompoundPlace r.store c.in-Some-Goal.place c.in-Text.base)) c.in_default.is c.any_compound.ensures in
    subst (λ (x : RegionView). HasNoCompoundFirst x c.args.position) c.self.view_is
    (goal_no_compound r c.self.invariant c.args.position c.index-frame.result.now i c.if-position-eq0.false c.index-frame.ensures c.in-Text.base c.in-Text.is c.in-Some-Goal.place (read ∙ (c.in-Some-Goal.is ∙ ap Some c.in-Some-Goal.field-0-is)) no)

pub returns-then-position-ne0 : goal.returns-then-position-ne0
returns-then-position-ne0 c =
    let s = c.self.inside in let r : RegionView = record { text = arc_value s.text; store = s.store; frames = s.frames.items; choices = s.choices.items } in
    let i = subst (λ (x : RegionView). IsPositionIn x c.args.position) (sym c.self.view_is) c.requires in
    subst (λ (x : RegionView). HasNoCompoundFirst x c.args.position) c.self.view_is
    (item_past r c.self.invariant c.args.position c.index-frame.result.now i c.if-position-eq0.false c.index-frame.ensures c.in-One.item c.in-One.is c.if-position-ne0.true)

pub returns-in_default-compound : goal.returns-in_default-compound
returns-in_default-compound c =
    let s = c.self.inside in let r : RegionView = record { text = arc_value s.text; store = s.store; frames = s.frames.items; choices = s.choices.items } in
    let i = subst (λ (x : RegionView). IsPositionIn x c.args.position) (sym c.self.view_is) c.requires in
    let no = subst (λ o. MatchOption o (IsNoCompoundGoal c.in-One.item) (λ x. c.in-One.item ≡ Goal (Compound x.0 x.1))) c.in_default-compound.is c.compound.ensures in
    subst (λ (x : RegionView). HasNoCompoundFirst x c.args.position) c.self.view_is
    (item_no_compound r c.self.invariant c.args.position c.index-frame.result.now i c.if-position-eq0.false c.index-frame.ensures c.in-One.item c.in-One.is c.if-position-ne0.false no)

pub returns-after-get-3 : goal.returns-after-get-3
returns-after-get-3 c =
    let s = c.self.inside in let r : RegionView = record { text = arc_value s.text; store = s.store; frames = s.frames.items; choices = s.choices.items } in
    let i = subst (λ (x : RegionView). IsPositionIn x c.args.position) (sym c.self.view_is) c.requires in
    let read : slice_get r.text.bodies c.args.position.at ≡ c.get.result = sym (c.get.ensures ∙ ap (λ (t : TextView). slice_get t.bodies c.args.position.at) c.deref.ensures) in
    let next = c.in_ok-next.next in
    let after_is : next ≡ c.args.position.at + 1 = c.in_ok-next.ensures.1 in
    let next_read : slice_get r.text.bodies (c.args.position.at + 1) ≡ c.get-in-Some-Goal.result = ap (slice_get r.text.bodies) (sym after_is) ∙ sym (c.get-in-Some-Goal.ensures ∙ ap (λ (t : TextView). slice_get t.bodies next) c.deref-in-Some-Goal.ensures) in
    let found : ℕ × ℕ = (c.in-Some.at, c.in-Some.base) in
    let on = goal_before r c.self.invariant c.args.position c.index-frame.result.now i c.if-position-eq0.false c.index-frame.ensures c.in-Text.base c.in-Text.is c.in-Some-Goal.place (read ∙ (c.in-Some-Goal.is ∙ ap Some c.in-Some-Goal.field-0-is)) found c.in-Some.ensures next after_is in
    let past = goal_last r c.self.invariant c.args.position c.index-frame.result.now i c.if-position-eq0.false c.index-frame.ensures c.in-Text.base c.in-Text.is c.in-Some-Goal.place (read ∙ (c.in-Some-Goal.is ∙ ap Some c.in-Some-Goal.field-0-is)) found c.in-Some.ensures in
    subst (λ (x : RegionView). IsCompoundFirst x c.args.position (record { at = c.in-Some.at; base = c.in-Some.base; cut = c.index-frame.result.now.cut; after = c.match-get-3.after })) c.self.view_is
    (elim c.match-get-3.branch [
      | in-Some-BodyEnd-get w ↦ subst (λ q. IsCompoundFirst r c.args.position (record { at = c.in-Some.at; base = c.in-Some.base; cut = c.index-frame.result.now.cut; after = q })) (sym w.after-is) (past (next_read ∙ (w.in-Some-BodyEnd-get.is ∙ ap Some w.in-Some-BodyEnd-get.field-0-is)))
      | in_default-get w ↦ subst (λ q. IsCompoundFirst r c.args.position (record { at = c.in-Some.at; base = c.in-Some.base; cut = c.index-frame.result.now.cut; after = q })) (sym w.after-is) on
      | in_default-get-2 w ↦ subst (λ q. IsCompoundFirst r c.args.position (record { at = c.in-Some.at; base = c.in-Some.base; cut = c.index-frame.result.now.cut; after = q })) (sym w.after-is) on
    ])

pub returns-in-Some-BodyEnd : goal.returns-in-Some-BodyEnd
returns-in-Some-BodyEnd c =
    let s = c.self.inside in let r : RegionView = record { text = arc_value s.text; store = s.store; frames = s.frames.items; choices = s.choices.items } in
    let i = subst (λ (x : RegionView). IsPositionIn x c.args.position) (sym c.self.view_is) c.requires in
    let read : slice_get r.text.bodies c.args.position.at ≡ c.get.result = sym (c.get.ensures ∙ ap (λ (t : TextView). slice_get t.bodies c.args.position.at) c.deref.ensures) in
    subst (λ (x : RegionView). HasNoCompoundFirst x c.args.position) c.self.view_is
    (body_ended r c.self.invariant c.args.position c.index-frame.result.now i c.if-position-eq0.false c.index-frame.ensures c.in-Text.base c.in-Text.is (read ∙ (c.in-Some-BodyEnd.is ∙ ap Some c.in-Some-BodyEnd.field-0-is)))

pub returns-in-None : goal.returns-in-None
returns-in-None c =
    let s = c.self.inside in let r : RegionView = record { text = arc_value s.text; store = s.store; frames = s.frames.items; choices = s.choices.items } in
    let i = subst (λ (x : RegionView). IsPositionIn x c.args.position) (sym c.self.view_is) c.requires in
    let read : slice_get r.text.bodies c.args.position.at ≡ c.get.result = sym (c.get.ensures ∙ ap (λ (t : TextView). slice_get t.bodies c.args.position.at) c.deref.ensures) in
    subst (λ (x : RegionView). HasNoCompoundFirst x c.args.position) c.self.view_is
    (body_past r c.self.invariant c.args.position c.index-frame.result.now i c.if-position-eq0.false c.index-frame.ensures c.in-Text.base c.in-Text.is (read ∙ c.in-None.is))

pub returns-in-Some-compound : goal.returns-in-Some-compound
returns-in-Some-compound c =
    let s = c.self.inside in let r : RegionView = record { text = arc_value s.text; store = s.store; frames = s.frames.items; choices = s.choices.items } in
    let i = subst (λ (x : RegionView). IsPositionIn x c.args.position) (sym c.self.view_is) c.requires in
    subst (λ (x : RegionView). IsCompoundFirst x c.args.position (record { at = c.in-Some-compound.at; base = c.in-Some-compound.base; cut = c.index-frame.result.now.cut; after = c.index-frame.result.now.after })) c.self.view_is
    (item_compound r c.self.invariant c.args.position c.index-frame.result.now i c.if-position-eq0.false c.index-frame.ensures c.in-Some-compound.at c.in-Some-compound.base (c.in-One.is ∙ ap One c.in-Some-compound.ensures) c.if-position-ne0.false)
