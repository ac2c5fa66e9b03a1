-- A choice point that came on top is taken off again: all is as it was.
use Rattle.std.proofs.Common.{◌≡◌, Bool, true, false, not, [], ◌∷◌, sym, ap, ◌∙◌, subst}
use Rattle.std.specs.Prelude.{is_none}
use Rattle.au_model.specs.Terms.Unifier.{unifier}
use Rattle.binding_array.specs.declared.cell.BindingCell.{BindingCell}
use Rattle.cell_store.specs.StoreView.{StoreView, IsValueIn, meaning, with_mark}
use Rattle.cell_store.specs.UnificationSteps.{IsUnified, OnlyBinds}
use Rattle.region_split.specs.Regions.{RegionView}
use Rattle.region_split.specs.StackOperations.{AddsChoice, StaysStanding, TakesNewest}
use Rattle.region_split.specs.declared.choice.Alternatives.{Alternatives}
use Rattle.region_split.specs.declared.choice.ChoicePoint.{ChoicePoint}
use Rattle.region_split.specs.declared.frame.Position.{Position}
use Rattle.region_split.proofs.CursorLemmas.{last_apart}
use Rattle.run_model.specs.Goals.BuiltinAnswers.{Answer}
use Rattle.region_control.specs.declared.control.GoalPlace.{GoalPlace}
use Rattle.region_control.specs.declared.replies.AfterGoal.{AfterGoal}
use Rattle.region_builtins.specs.QuickAnswers.{AnswersIn}

module _ (r marked : RegionView) (alternatives : Alternatives) (after : Position) (adds : AddsChoice r marked alternatives after) where
  pub marked_store : marked.store ≡ with_mark r.store
  marked_store = ap (λ (x : RegionView). x.store) adds.others

  pub still_there : (c : BindingCell) → IsValueIn r.store c → IsValueIn marked.store c
  still_there c there = subst (λ (s : StoreView). IsValueIn s c) (sym marked_store) there

  pub apart_seen : (a b : BindingCell) (new : StoreView) (ok : Bool) → IsUnified a b marked.store new ok → not ok ≡ is_none (unifier ((meaning r.store a, meaning r.store b) ∷ []))
  apart_seen a b new ok u = by ok u
    where
      same : unifier ((meaning marked.store a, meaning marked.store b) ∷ []) ≡ unifier ((meaning r.store a, meaning r.store b) ∷ [])
      same = ap (λ (s : StoreView). unifier ((meaning s a, meaning s b) ∷ [])) marked_store

      by : (k : Bool) → IsUnified a b marked.store new k → not k ≡ is_none (unifier ((meaning r.store a, meaning r.store b) ∷ []))
      by true h = ap is_none (sym h.unified ∙ same)
      by false h = ap is_none (sym h ∙ same)

  -- and something was bound meanwhile
  module _ (bound new : RegionView) (taken : ChoicePoint) (stays : StaysStanding marked bound) (binds : OnlyBinds marked.store bound.store) (takes : TakesNewest bound new taken) where
    choices_are : new.choices ≡ r.choices
    choices_are = (last_apart new.choices r.choices taken adds.choice (sym takes.choices ∙ (ap (λ (x : RegionView). x.choices) stays.others ∙ ap (λ (x : RegionView). x.choices) adds.others))).0

    marks_are : (new.store.marks ≡ r.store.marks) × (new.store.now ≡ r.store.now)
    marks_are = last_apart new.store.marks r.store.marks new.store.now r.store.now (sym takes.marked ∙ (ap (λ (s : StoreView). s.marks) binds.others ∙ ap (λ (s : StoreView). s.marks) marked_store))

    store_is : new.store ≡ r.store
    store_is =
        let program : bound.store.program ≡ r.store.program = ap (λ (s : StoreView). s.program) binds.others ∙ ap (λ (s : StoreView). s.program) marked_store in
        let names : bound.store.names ≡ r.store.names = ap (λ (s : StoreView). s.names) binds.others ∙ ap (λ (s : StoreView). s.names) marked_store in
        let floor : bound.store.floor ≡ r.store.floor = ap (λ (s : StoreView). s.floor) binds.others ∙ ap (λ (s : StoreView). s.floor) marked_store in
        takes.store
        ∙ (ap (λ p. (let s : StoreView = record bound.store { program = p; now = new.store.now; marks = new.store.marks } in s)) program
        ∙ (ap (λ n. (let s : StoreView = record { program = r.store.program; names = n; now = new.store.now; floor = bound.store.floor; marks = new.store.marks } in s)) names
        ∙ (ap (λ f. (let s : StoreView = record { program = r.store.program; names = r.store.names; now = new.store.now; floor = f; marks = new.store.marks } in s)) floor
        ∙ (ap (λ m. (let s : StoreView = record r.store { now = m; marks = new.store.marks } in s)) marks_are.1
        ∙ ap (λ ms. (let s : StoreView = record r.store { marks = ms } in s)) marks_are.0))))

    pub undone : new ≡ r
    undone =
        let text : new.text ≡ r.text = takes.text ∙ (ap (λ (x : RegionView). x.text) stays.others ∙ ap (λ (x : RegionView). x.text) adds.others) in
        let frames : new.frames ≡ r.frames = takes.frames ∙ (ap (λ (x : RegionView). x.frames) stays.others ∙ ap (λ (x : RegionView). x.frames) adds.others) in
        ap (λ t. (let x : RegionView = record { text = t; store = new.store; frames = new.frames; choices = new.choices } in x)) text
        ∙ (ap (λ s. (let x : RegionView = record { text = r.text; store = s; frames = new.frames; choices = new.choices } in x)) store_is
        ∙ (ap (λ fs. (let x : RegionView = record { text = r.text; store = r.store; frames = fs; choices = new.choices } in x)) frames
        ∙ ap (λ cs. (let x : RegionView = record { text = r.text; store = r.store; frames = r.frames; choices = cs } in x)) choices_are))

-- the same answer, in the same region
pub same_region : (r new : RegionView) (answer other : Answer) (place : GoalPlace) (after : AfterGoal) → new ≡ r → other ≡ answer → AnswersIn r r other place after → AnswersIn r new answer place after
same_region r new answer other place after same e k = subst (λ x. AnswersIn r x answer place after) (sym same) (subst (λ a. AnswersIn r r a place after) e k)
