-- A ball on its way down.
use Rattle.std.proofs.Common.{◌≡◌, ℕ, ◌+◌, ◌<◌, ◌≤◌, List, [], ◌∷◌, length, map, Option, Some, None, refl, sym, ap, ap₂, ◌∙◌, subst, arith}
use Rattle.au_term.specs.Term.{Term}
use Rattle.au_model.specs.Terms.Copies.{copied}
use Rattle.au_model.specs.Terms.Named.{NamedTerm}
use Rattle.au_model.specs.Terms.Substitutions.{Substitution}
use Rattle.au_model.specs.Terms.Unifier.{unifier}
use Rattle.run_model.specs.Machine.Balls.{recovered, unwound}
use Rattle.run_model.specs.Machine.Entries.{CatchEntry}
use Rattle.run_model.specs.Machine.Items.{first_mark, resolve_item}
use Rattle.clause_compile.specs.Places.{CodeView}
use Rattle.cell_store.specs.StoreView.{text_in, meaning}
use Rattle.region_split.specs.Frames.{LeftItem, PlacedGoal, OwnItem, item_in}
use Rattle.region_split.specs.ChoicePoints.{Standing, height_of_cut, by_height}
use Rattle.region_split.specs.Regions.{RegionView, left_here, entries_of, heights_of, continuation_here, IsPositionIn, IsPositionOver}
use Rattle.region_split.specs.StackOperations.{CutsTo, StaysStanding}
use Rattle.region_split.specs.declared.frame.FrameItem.TheVariants.{Goal, Call, Cut, True, Fail, CatchEnd, Collect, Removal}
use Rattle.region_split.specs.declared.frame.Position.{Position}
use Rattle.region_control.specs.Balls.{mark_height, IsCatchOver, HasFirstCatch, TakesCatch, Recovers, LandsAt, IsUncaught}
use Rattle.region_control.specs.declared.balls.Catch.{Catch}
use Rattle.region_control.proofs.BallLemmas.{unwound_past, unwound_at, uncaught}

-- the first mark of what is left, in some text and with some bindings, on which it does not depend
abbrev mark_left : Substitution → CodeView → List ℕ → List LeftItem → Option ℕ
mark_left s code heights left = first_mark (map (resolve_item s) (map (by_height heights) (map (item_in code) left)))

same_left : (s t : Substitution) (code text : CodeView) (heights : List ℕ) (left : List LeftItem) → mark_left s code heights left ≡ mark_left t text heights left
same_left s t code text heights [] = refl
same_left s t code text heights (PlacedGoal place base cut ∷ left) = same_left s t code text heights left
same_left s t code text heights (OwnItem (Goal value) cut ∷ left) = same_left s t code text heights left
same_left s t code text heights (OwnItem (Call value) cut ∷ left) = same_left s t code text heights left
same_left s t code text heights (OwnItem Cut cut ∷ left) = same_left s t code text heights left
same_left s t code text heights (OwnItem True cut ∷ left) = same_left s t code text heights left
same_left s t code text heights (OwnItem Fail cut ∷ left) = same_left s t code text heights left
same_left s t code text heights (OwnItem CatchEnd cut ∷ left) = refl
same_left s t code text heights (OwnItem (Collect value) cut ∷ left) = same_left s t code text heights left
same_left s t code text heights (OwnItem (Removal number) cut ∷ left) = same_left s t code text heights left

mark_stays : (r new : RegionView) (p : Position) → StaysStanding r new → (named : List NamedTerm) → first_mark (continuation_here named new p).items ≡ first_mark (continuation_here named r p).items
mark_stays r new p stays named =
    ap₂ (λ (s : Standing) left. mark_left new.store.now.bound (text_in new.store) s.heights left) (stays.stands named) (ap (λ (x : RegionView). left_here x p) stays.others)
    ∙ same_left new.store.now.bound r.store.now.bound (text_in new.store) (text_in r.store) (heights_of named r) (left_here r p)

-- a ball was thrown, and goes further down to a mark
pub record IsUnwinding (old now : RegionView) (ball : Term) (thrown : Position) (mark : Option ℕ) : Type 0 where
  pub same : (named : List NamedTerm) → unwound ball (first_mark (continuation_here named old thrown).items) (entries_of named old) ≡ unwound ball (mark_height (heights_of named now) mark) (entries_of named now)
  pub there : IsCatchOver now.choices mark

pub unwinding_begun : (r : RegionView) (ball : Term) (thrown : Position) (mark : Option ℕ) → HasFirstCatch r thrown mark → IsUnwinding r r ball thrown mark
unwinding_begun r ball thrown mark h = record { same = λ named. ap (λ m. unwound ball m (entries_of named r)) (h.is named); there = h.there }

module _ (old now r : RegionView) (ball : Term) (thrown : Position) (mark : Option ℕ) (over : ℕ) (c : Catch) (is : mark ≡ Some over) (w : IsUnwinding old now ball thrown mark) (takes : TakesCatch now r over c) where
  at_catch : (named : List NamedTerm) → unwound ball (first_mark (continuation_here named old thrown).items) (entries_of named old)
      ≡ recovered (unifier ((meaning r.store c.catcher, copied ball r.store.now.next) ∷ [])) ball (meaning r.store c.recovery) (continuation_here named r c.after) (entries_of named r) (unwound ball (first_mark (continuation_here named r c.after).items) (entries_of named r))
  at_catch named =
      let h = height_of_cut (heights_of named now) over in
      let f = continuation_here named r c.after in
      let es = entries_of named r in
      let e = CatchEntry (meaning r.store c.catcher) (meaning r.store c.recovery) f in
      w.same named
      ∙ (ap₂ (λ m xs. unwound ball (mark_height (heights_of named now) m) xs) is (takes.entries named)
      ∙ (unwound_past ball h (takes.above named) (e ∷ es) (let k = takes.height named in omega (arith, k))
      ∙ unwound_at ball h (meaning r.store c.catcher) (meaning r.store c.recovery) f es (takes.height named)))

  pub lands : (last : RegionView) (p : Position) → Recovers r last ball c p → LandsAt old last ball thrown p
  lands last p recovers = record {
    entries = λ named. at_catch named ∙ recovers.entries named (unwound ball (first_mark (continuation_here named r c.after).items) (entries_of named r));
    position = recovers.position;
  }

  module _ (new : RegionView) (fails : unifier ((meaning r.store c.catcher, copied ball r.store.now.next) ∷ []) ≡ None) (stays : StaysStanding r new) where
    pub after_stays : IsPositionIn new c.after
    after_stays = subst (λ n. IsPositionOver new n c.after) (sym (ap (λ (x : RegionView). length x.choices) stays.others)) (stays.position (length r.choices) c.after takes.position)

    pub further_down : (next : Option ℕ) → HasFirstCatch new c.after next → IsUnwinding old new ball thrown next
    further_down next h = record {
      same = λ named.
          let f = continuation_here named r c.after in
          let es = entries_of named r in
          at_catch named
          ∙ (ap (λ o. recovered o ball (meaning r.store c.recovery) f es (unwound ball (first_mark f.items) es)) fails
          ∙ ap₂ (unwound ball) (sym (mark_stays r new c.after stays named) ∙ h.is named) (sym (ap (λ (s : Standing). s.entries) (stays.stands named))));
      there = h.there;
    }

    pub fewer_choices : over + 1 ≤ length now.choices → length new.choices < length now.choices
    fewer_choices le = let a = ap (λ (x : RegionView). length x.choices) stays.others in let b = takes.many in omega (arith, a, b, le)

pub none_takes : (old now last : RegionView) (ball : Term) (thrown : Position) (mark : Option ℕ) → mark ≡ None → IsUnwinding old now ball thrown mark → CutsTo now last 0 → IsUncaught old last ball thrown
none_takes old now last ball thrown mark is w cuts = record {
  entries = λ named. w.same named ∙ (ap (λ m. unwound ball (mark_height (heights_of named now) m) (entries_of named now)) is ∙ uncaught ball (entries_of named now));
  none = cuts.count;
}
