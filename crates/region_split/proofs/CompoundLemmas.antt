-- Compounds that stand first as goals, as they are read.
use Rattle.std.proofs.Common.{◌≡◌, ℕ, zero, suc, ◌+◌, ◌-◌, ◌<◌, ◌∷◌, length, get_or, slice_get, Some, None, false, refl, sym, ap, ap₂, ◌∙◌, subst, arith}
use Rattle.std.proofs.lemmas.Option.{slice_get_read}
use Rattle.au_term.specs.Shifted.{shifted}
use Rattle.au_model.specs.Terms.TermTypes.{is_compound}
use Rattle.clause_compile.specs.Places.{meaning_in}
use Rattle.clause_compile.specs.declared.place.Place.{Place}
use Rattle.binding_array.specs.declared.cell.BindingCell.TheVariants.{Compound}
use Rattle.cell_store.specs.ArgumentSteps.{IsCompoundPlace}
use Rattle.cell_store.specs.StoreView.{text_in}
use Rattle.region_split.specs.Frames.{own_body_left, body_left, scoped_item, next_position}
use Rattle.region_split.specs.CompoundGoals.{HasNoCompoundFirst, IsCompoundFirst, IsNoCompoundGoal, is_compound_first, left_in_own, left_in_frame}
use Rattle.region_split.specs.Regions.{RegionView, IsConsistentRegion, IsPositionIn, IsFirstAt, GoesOnIn}
use Rattle.region_split.specs.declared.frame.Frame.{Frame}
use Rattle.region_split.specs.declared.frame.FrameBody.TheVariants.{Text, One}
use Rattle.region_split.specs.declared.frame.FrameItem.{FrameItem}
use Rattle.region_split.specs.declared.frame.FrameItem.TheVariants.{Goal}
use Rattle.region_split.specs.declared.frame.Position.{Position}
use Rattle.region_split.specs.declared.text.BodyItem.TheVariants.{Goal as GoalPlace, BodyEnd}
use Rattle.region_split.proofs.FrameLemmas.{read_on, read_past}
use Rattle.region_split.proofs.ItemLemmas.{position_more}
use Rattle.region_split.proofs.LeftLemmas.{own_first, own_ended, goal_first, end_reached}

-- nothing stands first in no frame
pub no_frame : (r : RegionView) (p : Position) → p.frame ≡ 0 → HasNoCompoundFirst r p
no_frame r p e few = ap (λ n. is_compound_first (text_in r.store) (left_in_frame r.text.bodies r.frames n p.at)) e

module _ (r : RegionView) (k : IsConsistentRegion r) (p : Position) (f : Frame) (i : IsPositionIn r p) (some : p.frame ≡ 0 → ⊥) (at : f ≡ get_or r.frames (p.frame - 1) f) where
  own : left_in_frame r.text.bodies r.frames p.frame p.at ≡ own_body_left r.text.bodies f.body f.cut p.at
  own =
      let place : p.frame ≡ suc (p.frame - 1) = omega (arith, some) in
      let within : p.frame - 1 < length r.frames = let a = i.frame in omega (arith, a, some) in
      ap (λ n. left_in_frame r.text.bodies r.frames n p.at) place
      ∙ ap (λ o. left_in_own r.text.bodies o p.at) (slice_get_read r.frames (length r.frames) (p.frame - 1) f refl within at)

  none_by : is_compound_first (text_in r.store) (own_body_left r.text.bodies f.body f.cut p.at) ≡ false → HasNoCompoundFirst r p
  none_by e few = ap (is_compound_first (text_in r.store)) own ∙ e

  -- a frame's own item is past
  pub item_past : (item : FrameItem) → f.body ≡ One item → (p.at ≡ 0 → ⊥) → HasNoCompoundFirst r p
  item_past item e past = none_by (ap (λ b. is_compound_first (text_in r.store) (own_body_left r.text.bodies b f.cut p.at)) e ∙ by_place p.at past)
    where
      by_place : (n : ℕ) → (n ≡ 0 → ⊥) → is_compound_first (text_in r.store) (own_body_left r.text.bodies (One item) f.cut n) ≡ false
      by_place zero h = absurd (h refl)
      by_place (suc n) h = refl

  -- or is no compound
  pub item_no_compound : (item : FrameItem) → f.body ≡ One item → p.at ≡ 0 → IsNoCompoundGoal item → HasNoCompoundFirst r p
  item_no_compound item e first other =
      none_by (ap₂ (λ b n. is_compound_first (text_in r.store) (own_body_left r.text.bodies b f.cut n)) e first ∙ other (text_in r.store))

  -- or it is one, behind which the frame goes on
  pub item_compound : (at_place base : ℕ) → f.body ≡ One (Goal (Compound at_place base)) → p.at ≡ 0
      → IsCompoundFirst r p (record { at = at_place; base = base; cut = f.cut; after = f.after })
  item_compound at_place base e first =
      let is : IsFirstAt r p (Goal (Compound at_place base)) f.cut = own_first r k p f i some at (Goal (Compound at_place base)) e first in
      let next : IsPositionIn r (next_position p) = position_more r f.cut (length r.choices) (next_position p) is.scope is.after in
      let ended : GoesOnIn r (next_position p) f.after = own_ended r k (next_position p) f next some at (Goal (Compound at_place base)) e (λ z. omega (arith, z)) in
      record { items = is.items ∙ ap (λ items. scoped_item (text_in r.store) (Goal (Compound at_place base)) f.cut ∷ items) ended.items; there = is.there; scope = is.scope; after = ended.over f.cut is.after }

  module _ (base : ℕ) (text : f.body ≡ Text base) where
    body_is : own_body_left r.text.bodies f.body f.cut p.at ≡ own_body_left r.text.bodies (Text base) f.cut p.at
    body_is = ap (λ b. own_body_left r.text.bodies b f.cut p.at) text

    -- no goal of the text is there
    pub body_ended : slice_get r.text.bodies p.at ≡ Some BodyEnd → HasNoCompoundFirst r p
    body_ended e = none_by (ap (is_compound_first (text_in r.store)) (body_is ∙ ap (body_left base f.cut) (read_on r.text.bodies p.at BodyEnd e)))

    pub body_past : slice_get r.text.bodies p.at ≡ None → HasNoCompoundFirst r p
    body_past e = none_by (ap (is_compound_first (text_in r.store)) (body_is ∙ ap (body_left base f.cut) (read_past r.text.bodies p.at e)))

    module _ (t : Place) (here : slice_get r.text.bodies p.at ≡ Some (GoalPlace t)) where
      -- one that is no compound
      pub goal_no_compound : is_compound (shifted base (meaning_in (text_in r.store) t)) ≡ false → HasNoCompoundFirst r p
      goal_no_compound e = none_by (ap (is_compound_first (text_in r.store)) (body_is ∙ ap (body_left base f.cut) (read_on r.text.bodies p.at (GoalPlace t) here)) ∙ e)

      module _ (c : ℕ × ℕ) (means : IsCompoundPlace r.store t base c) where
        is_first : IsFirstAt r p (Goal (Compound c.0 c.1)) f.cut
        is_first = goal_first r k p f i some at base text t (Compound c.0 c.1) here means.is means.there

        -- one that is a compound, before the next place
        pub goal_before : (next : ℕ) → next ≡ p.at + 1 → IsCompoundFirst r p (record { at = c.0; base = c.1; cut = f.cut; after = record { frame = p.frame; at = next } })
        goal_before next e = subst (λ n. IsCompoundFirst r p (record { at = c.0; base = c.1; cut = f.cut; after = record { frame = p.frame; at = n } })) (sym e)
            (record { items = is_first.items; there = is_first.there; scope = is_first.scope; after = is_first.after })

        -- or before the end of its body
        pub goal_last : slice_get r.text.bodies (p.at + 1) ≡ Some BodyEnd → IsCompoundFirst r p (record { at = c.0; base = c.1; cut = f.cut; after = f.after })
        goal_last e =
            let next : IsPositionIn r (next_position p) = position_more r f.cut (length r.choices) (next_position p) is_first.scope is_first.after in
            let ended : GoesOnIn r (next_position p) f.after = end_reached r k (next_position p) f next some at base text e in
            record { items = is_first.items ∙ ap (λ items. scoped_item (text_in r.store) (Goal (Compound c.0 c.1)) f.cut ∷ items) ended.items; there = is_first.there; scope = is_first.scope; after = ended.over f.cut is_first.after }
