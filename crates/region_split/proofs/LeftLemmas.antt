-- What is left at a position, as it is read.
use Rattle.std.proofs.Common.{◌≡◌, ℕ, zero, suc, ◌+◌, ◌-◌, ◌<◌, ◌≤◌, List, [], ◌∷◌, ◌++◌, length, map, get_or, slice_get, Some, None, refl, sym, ap, ap₂, ◌∙◌, subst, arith}
use Rattle.au_term.specs.Term.{var_bound}
use Rattle.au_term.specs.Shifted.{shifted}
use Rattle.run_model.specs.Machine.Items.{GoalItem}
use Rattle.clause_compile.specs.Places.{IsPlaceOf, meaning_in}
use Rattle.clause_compile.specs.declared.place.Place.{Place}
use Rattle.binding_array.specs.declared.cell.BindingCell.{BindingCell}
use Rattle.cell_store.specs.StoreView.{IsValueIn, text_in, value_term}
use Rattle.region_split.specs.Frames.{LeftItem, PlacedGoal, OwnItem, item_in, body_left, own_body_left, next_position, AreLeftScoped}
use Rattle.region_split.specs.ChoicePoints.{AreMarked}
use Rattle.region_split.specs.Regions.{RegionView, IsConsistentRegion, left_here, items_here, IsPositionIn, IsPositionOver, IsLeftAt}
use Rattle.region_split.specs.declared.frame.Frame.{Frame}
use Rattle.region_split.specs.declared.frame.FrameBody.{FrameBody}
use Rattle.region_split.specs.declared.frame.FrameBody.TheVariants.{Text, One}
use Rattle.region_split.specs.declared.frame.FrameItem.{FrameItem}
use Rattle.region_split.specs.declared.frame.FrameItem.TheVariants.{Goal}
use Rattle.region_split.specs.declared.frame.Left.TheVariants.{First, GoesOnAt}
use Rattle.region_split.specs.declared.frame.Position.{Position}
use Rattle.region_split.specs.declared.text.BodyItem.TheVariants.{Goal as GoalPlace, BodyEnd}
use Rattle.region_split.proofs.FrameLemmas.{frame_left, goes_on_before, read_on, read_past}

-- a position whose frame is there
module _ (r : RegionView) (k : IsConsistentRegion r) (p : Position) (f : Frame) (i : IsPositionIn r p) (some : p.frame ≡ 0 → ⊥) (at : f ≡ get_or r.frames (p.frame - 1) f) where
  place : p.frame ≡ (p.frame - 1) + 1
  place = omega (arith, some)

  frame_there : p.frame - 1 < length r.frames
  frame_there = let a = i.frame in let b = place in omega (arith, a, b)

  abbrev own : FrameBody → ℕ → List LeftItem
  own body at = own_body_left r.text.bodies body f.cut at

  whole : left_here r p ≡ own f.body p.at ++ left_here r f.after
  whole = frame_left r.text.bodies r.frames f (p.frame - 1) p k.older frame_there at place

  rest : left_here r (next_position p) ≡ own f.body (p.at + 1) ++ left_here r f.after
  rest = frame_left r.text.bodies r.frames f (p.frame - 1) (next_position p) k.older frame_there at place

  older_frame : f.after.frame < p.frame
  older_frame = let a = goes_on_before 0 (p.frame - 1) r.frames f k.older frame_there at in let b = place in omega (arith, a, b)

  next : (item : LeftItem) → own f.body p.at ≡ item ∷ own f.body (p.at + 1) → left_here r p ≡ item ∷ left_here r (next_position p)
  next item e = whole ∙ (ap (λ is. is ++ left_here r f.after) e ∙ ap (λ is. item ∷ is) (sym rest))

  pub ended : own f.body p.at ≡ [] → IsLeftAt r p (GoesOnAt f.after)
  ended e =
      let same : left_here r p ≡ left_here r f.after = whole ∙ ap (λ is. is ++ left_here r f.after) e in
      let over : (cut : ℕ) → IsPositionOver r cut p → IsPositionOver r cut f.after
      = λ cut h. record { frame = let a = older_frame in let b = i.frame in omega (arith, a, b); scoped = subst (AreLeftScoped (text_in r.store) r.store.now.next cut) same h.scoped; marked = subst (AreMarked r.choices) same h.marked } in
      record { items = ap (map (item_in (text_in r.store))) same; over = over; position = over (length r.choices) i; older = older_frame }

  scoped_from : (item : LeftItem) → left_here r p ≡ item ∷ left_here r (next_position p) → AreLeftScoped (text_in r.store) r.store.now.next (length r.choices) (item ∷ left_here r (next_position p))
  scoped_from item e = subst (AreLeftScoped (text_in r.store) r.store.now.next (length r.choices)) e i.scoped

  marked_from : (item : LeftItem) → left_here r p ≡ item ∷ left_here r (next_position p) → AreMarked r.choices (item ∷ left_here r (next_position p))
  marked_from item e = subst (AreMarked r.choices) e i.marked

  pub own_first : (item : FrameItem) → f.body ≡ One item → p.at ≡ 0 → IsLeftAt r p (First item f.cut)
  own_first item e zero_at =
      let first = next (OwnItem item f.cut) (ap₂ own e zero_at ∙ ap (λ is. OwnItem item f.cut ∷ is) (sym (ap₂ own e (ap (λ n. n + 1) zero_at)))) in
      let s = scoped_from (OwnItem item f.cut) first in
      record { items = ap (map (item_in (text_in r.store))) first; there = s.1; scope = s.0; mark = (marked_from (OwnItem item f.cut) first).0; after = record { frame = i.frame; scoped = s.2; marked = (marked_from (OwnItem item f.cut) first).1 } }

  own_past : (item : FrameItem) (n : ℕ) → (n ≡ 0 → ⊥) → own (One item) n ≡ []
  own_past item zero h = absurd (h refl)
  own_past item (suc n) h = refl

  pub own_ended : (item : FrameItem) → f.body ≡ One item → (p.at ≡ 0 → ⊥) → IsLeftAt r p (GoesOnAt f.after)
  own_ended item e past = ended (ap (λ b. own b p.at) e ∙ own_past item p.at past)

  module _ (base : ℕ) (text : f.body ≡ Text base) where
    goal_next : (t : Place) → slice_get r.text.bodies p.at ≡ Some (GoalPlace t) → left_here r p ≡ PlacedGoal t base f.cut ∷ left_here r (next_position p)
    goal_next t e = next (PlacedGoal t base f.cut) (ap (λ b. own b p.at) text ∙ (ap (body_left base f.cut) (read_on r.text.bodies p.at (GoalPlace t) e) ∙ ap (λ b. PlacedGoal t base f.cut ∷ own b (p.at + 1)) (sym text)))

    pub goal_there : (t : Place) → slice_get r.text.bodies p.at ≡ Some (GoalPlace t) → IsPlaceOf (text_in r.store) t × (var_bound (shifted base (meaning_in (text_in r.store) t)) ≤ r.store.now.next)
    goal_there t e = (scoped_from (PlacedGoal t base f.cut) (goal_next t e)).1

    pub goal_first : (t : Place) (value : BindingCell) → slice_get r.text.bodies p.at ≡ Some (GoalPlace t) → value_term r.store value ≡ shifted base (meaning_in (text_in r.store) t) → IsValueIn r.store value → IsLeftAt r p (First (Goal value) f.cut)
    goal_first t value e means there =
        let first = goal_next t e in
        let s = scoped_from (PlacedGoal t base f.cut) first in
        record {
          items = ap (map (item_in (text_in r.store))) first ∙ ap (λ t. GoalItem t f.cut ∷ items_here r (next_position p)) (sym means);
          there = there;
          scope = s.0;
          mark = tt;
          after = record { frame = i.frame; scoped = s.2; marked = (marked_from (PlacedGoal t base f.cut) first).1 };
        }

    pub end_reached : slice_get r.text.bodies p.at ≡ Some BodyEnd → IsLeftAt r p (GoesOnAt f.after)
    end_reached e = ended (ap (λ b. own b p.at) text ∙ ap (body_left base f.cut) (read_on r.text.bodies p.at BodyEnd e))

    pub no_body : slice_get r.text.bodies p.at ≡ None → IsLeftAt r p (GoesOnAt f.after)
    no_body e = ended (ap (λ b. own b p.at) text ∙ ap (body_left base f.cut) (read_past r.text.bodies p.at e))
