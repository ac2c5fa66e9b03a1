-- The way to what comes first at a position, and free steps.
use Rattle.std.proofs.Common.{◌≡◌, ℕ, ◌+◌, ◌-◌, ◌<◌, ◌≤◌, true, List, [], ◌∷◌, ◌++◌, length, map, Option, Some, None, refl, sym, ap, ◌∙◌, subst, arith}
use Rattle.au_model.specs.Terms.Named.{NamedTerm}
use Rattle.au_model.specs.Terms.Substitutions.{Substitution}
use Rattle.run_model.specs.Machine.Entries.{Entry, PlainEntry, CatchEntry, FindallEntry, EndEntry}
use Rattle.run_model.specs.Machine.FreeSteps.{take_free_steps, free_steps_within, plain_free_step}
use Rattle.run_model.specs.Machine.Items.{Item, with_items, resolve_item, without_marks}
use Rattle.run_model.proofs.FreeStepLemmas.{length-collected, result_collects}
use Rattle.clause_compile.specs.Places.{CodeView}
use Rattle.binding_array.specs.declared.cell.BindingCell.{BindingCell}
use Rattle.binding_array.specs.declared.cell.BindingCell.TheVariants.{Compound}
use Rattle.cell_store.specs.StoreView.{text_in, meaning}
use Rattle.region_split.specs.CompoundGoals.{IsCompoundFirst}
use Rattle.region_split.specs.declared.frame.CompoundFirst.{CompoundFirst}
use Rattle.region_split.specs.Backtracking.{resumed_entries, without_catches, IsResumed, TakesFreeSteps, Resumes as HasResumed}
use Rattle.region_split.specs.ClauseTrials.{entries_at}
use Rattle.region_split.specs.StackOperations.{item_here}
use Rattle.region_split.specs.Frames.{scoped_item, next_position}
use Rattle.region_split.specs.ChoicePoints.{height_of_cut, by_height}
use Rattle.region_split.specs.Regions.{RegionView, entries_of, heights_of, items_here, continuation_here, position_entry, IsPositionIn, IsPositionOver, IsFirstAt, GoesOnIn}
use Rattle.region_split.specs.ResultLists.{ResultsView}
use Rattle.region_split.specs.declared.choice.Resumed.{Resumed}
use Rattle.region_split.specs.declared.choice.Resumed.TheVariants as Resumes
use Rattle.region_split.specs.declared.frame.FrameItem.{FrameItem}
use Rattle.region_split.specs.declared.frame.FrameItem.TheVariants.{Goal, Call, Cut, True, Fail, CatchEnd, Collect, Removal}
use Rattle.region_split.specs.declared.frame.Position.{Position}
use Rattle.region_split.proofs.ItemLemmas.{position_more}
use Rattle.region_control.specs.Ahead.{is_goal_item, items_with_goal, goal_entry, HasGoalFirst, HasResultFirst, HasRemovalFirst, HasNothingFirst, LiesAhead, CollectsResult, EndsFindall}
use Rattle.region_control.specs.declared.ahead.Ahead.{Ahead}
use Rattle.region_control.specs.declared.control.GoalPlace.{GoalPlace}

-- items but for the ends of catches in front, as they are with bindings and heights
abbrev unmarked : Substitution → List ℕ → List (Item ℕ) → List (Item ℕ)
unmarked s heights items = without_marks (map (resolve_item s) (map (by_height heights) items))

goal_stays : (s : Substitution) (heights : List ℕ) (code : CodeView) (item : FrameItem) (cut : ℕ) (items : List (Item ℕ)) → is_goal_item item ≡ true
    → unmarked s heights (scoped_item code item cut ∷ items) ≡ resolve_item s (by_height heights (scoped_item code item cut)) ∷ map (resolve_item s) (map (by_height heights) items)
goal_stays s heights code (Goal value) cut items e = refl
goal_stays s heights code (Call value) cut items e = refl
goal_stays s heights code Cut cut items e = refl
goal_stays s heights code True cut items e = refl
goal_stays s heights code Fail cut items e = refl
goal_stays s heights code CatchEnd cut items e = absurd cc
goal_stays s heights code (Collect value) cut items e = absurd cc
goal_stays s heights code (Removal number) cut items e = absurd cc

-- the ends of catches alone were passed on the way from one position to another
pub record IsPassing (r : RegionView) (start next : Position) : Type 0 where
  pub position : IsPositionIn r next
  pub same : (named : List NamedTerm) → without_marks (continuation_here named r start).items ≡ without_marks (continuation_here named r next).items

pub passing_begun : (r : RegionView) (p : Position) → IsPositionIn r p → IsPassing r p p
passing_begun r p i = record { position = i; same = λ named. refl }

module _ (r : RegionView) (start p : Position) (w : IsPassing r start p) where
  module _ (cut : ℕ) (q : Position) (is : q ≡ next_position p) where
    pub end_passed : IsFirstAt r p CatchEnd cut → IsPassing r start q
    end_passed first = subst (IsPassing r start) (sym is) (record {
      position = position_more r cut (length r.choices) (next_position p) first.scope first.after;
      same = λ named. w.same named ∙ ap (unmarked r.store.now.bound (heights_of named r)) first.items;
    })

    pub goal_found : (item : FrameItem) → IsFirstAt r p item cut → is_goal_item item ≡ true → HasGoalFirst r start item (record { cut = cut; after = q })
    goal_found item first e = subst (λ (x : Position). HasGoalFirst r start item (record { cut = cut; after = x })) (sym is) (record {
      items = λ named. w.same named ∙ (ap (unmarked r.store.now.bound (heights_of named r)) first.items ∙ goal_stays r.store.now.bound (heights_of named r) (text_in r.store) item cut (items_here r (next_position p)) e);
      there = record { goal = e; there = first.there; place = record { scope = first.scope; after = first.after } };
    })

    -- where it goes on at a position at which the same is left
    pub goal_further : (item : FrameItem) (q1 : Position) → IsFirstAt r p item cut → is_goal_item item ≡ true → IsPositionOver r cut q1 → items_here r q1 ≡ items_here r q → HasGoalFirst r start item (record { cut = cut; after = q1 })
    goal_further item q1 first e over same =
        let h = goal_found item first e in
        record {
          items = λ named. h.items named ∙ ap (λ is. item_here r item cut (heights_of named r) ++ map (resolve_item r.store.now.bound) (map (by_height (heights_of named r)) is)) (sym same);
          there = record { goal = e; there = first.there; place = record { scope = first.scope; after = over } };
        }

    pub result_found : (value : _) → IsFirstAt r p (Collect value) cut → HasResultFirst r start value (cut - 1)
    result_found value first = record {
      after = λ named. map (resolve_item r.store.now.bound) (map (by_height (heights_of named r)) (items_here r (next_position p)));
      items = λ named. w.same named ∙ ap (unmarked r.store.now.bound (heights_of named r)) first.items;
      there = first.there;
      findall = first.mark.1;
    }

    pub removal_found : (number : ℕ) → IsFirstAt r p (Removal number) cut → HasRemovalFirst r start number q
    removal_found number first = subst (HasRemovalFirst r start number) (sym is) (record {
      items = λ named. w.same named ∙ ap (unmarked r.store.now.bound (heights_of named r)) first.items;
      there = position_more r cut (length r.choices) (next_position p) first.scope first.after;
    })

    pub fewer_items : (item : FrameItem) → IsFirstAt r p item cut → length (items_here r q) + q.frame < length (items_here r p) + p.frame
    fewer_items item first = let a = ap length first.items in let b = ap (λ (x : Position). length (items_here r x) + x.frame) is in omega (arith, a, b)

  pub older_found : (q : Position) → GoesOnIn r p q → IsPassing r start q
  older_found q g = record { position = g.position; same = λ named. w.same named ∙ ap (unmarked r.store.now.bound (heights_of named r)) g.items }

  pub older_items : (q : Position) → GoesOnIn r p q → length (items_here r q) + q.frame < length (items_here r p) + p.frame
  older_items q g = let a = ap length g.items in let o = g.older in omega (arith, a, o)

  pub nothing_found : items_here r p ≡ [] → HasNothingFirst r start p
  nothing_found e = record {
    items = λ named. w.same named ∙ ap (unmarked r.store.now.bound (heights_of named r)) e;
    left = record { items = e; position = w.position };
  }

-- free steps were taken from the start up to what goes on now
pub record IsGoingAhead (old r : RegionView) (start : Option Position) (now : Resumed) : Type 0 where
  pub same : (named : List NamedTerm) → take_free_steps (entries_at named old start ++ entries_of named old) ≡ take_free_steps (resumed_entries named r now)
  pub there : IsResumed r now
  pub text : r.text ≡ old.text
  pub floor : r.store.floor ≡ old.store.floor

pub going_at : (r : RegionView) (start : Option Position) (p : Position) → start ≡ Some p → IsPositionIn r p → IsGoingAhead r r start (Resumes.At p)
going_at r start p e i = record { same = λ named. ap (λ o. take_free_steps (entries_at named r o ++ entries_of named r)) e; there = i; text = refl; floor = refl }

pub going_back : (old r : RegionView) (start : Option Position) (now : Resumed) → start ≡ None → HasResumed old r now → TakesFreeSteps old r now → r.text ≡ old.text → r.store.floor ≡ old.store.floor → IsGoingAhead old r start now
going_back old r start now e resumes steps text floor = record { same = λ named. ap (λ o. take_free_steps (entries_at named old o ++ entries_of named old)) e ∙ steps named; there = resumes.there; text = text; floor = floor }

by_item : (named : List NamedTerm) (r : RegionView) (p : Position) (item : FrameItem) (g : GoalPlace) → is_goal_item item ≡ true → without_marks (continuation_here named r p).items ≡ items_with_goal named r item g → take_free_steps (position_entry named r p ∷ entries_of named r) ≡ goal_entry named r item g ∷ entries_of named r
by_item named r p (Goal value) g k e = ap (λ is. plain_free_step is (continuation_here named r p) (entries_of named r) (free_steps_within (length (entries_of named r)))) e
by_item named r p (Call value) g k e = ap (λ is. plain_free_step is (continuation_here named r p) (entries_of named r) (free_steps_within (length (entries_of named r)))) e
by_item named r p Cut g k e = ap (λ is. plain_free_step is (continuation_here named r p) (entries_of named r) (free_steps_within (length (entries_of named r)))) e
by_item named r p True g k e = ap (λ is. plain_free_step is (continuation_here named r p) (entries_of named r) (free_steps_within (length (entries_of named r)))) e
by_item named r p Fail g k e = ap (λ is. plain_free_step is (continuation_here named r p) (entries_of named r) (free_steps_within (length (entries_of named r)))) e
by_item named r p CatchEnd g k e = absurd cc
by_item named r p (Collect value) g k e = absurd cc
by_item named r p (Removal number) g k e = absurd cc

without_catches-length : (es : List Entry) → length (without_catches es) ≤ length es
without_catches-length [] = omega arith
without_catches-length (CatchEntry c r f ∷ es) = let k = without_catches-length es in omega (arith, k)
without_catches-length (PlainEntry f ∷ es) = omega arith
without_catches-length (FindallEntry results l f ∷ es) = omega arith
without_catches-length (EndEntry b ∷ es) = omega arith

module _ (old r : RegionView) (start : Option Position) (now : Resumed) (w : IsGoingAhead old r start now) where
  -- a goal comes first
  pub goal_ahead : (p : Position) (item : FrameItem) (g : GoalPlace) → now ≡ Resumes.At p → HasGoalFirst r p item g → LiesAhead old r start (Ahead.Goal item g)
  goal_ahead p item g e h = record {
    entries = λ named. w.same named ∙ (ap (λ n. take_free_steps (resumed_entries named r n)) e ∙ by_item named r p item g h.there.goal (h.items named));
    there = h.there;
  }

  -- the removal of a clause
  pub removal_ahead : (p after : Position) (number : ℕ) → now ≡ Resumes.At p → HasRemovalFirst r p number after → LiesAhead old r start (Ahead.Removal number after)
  removal_ahead p after number e h = record {
    entries = λ named.
        let f = continuation_here named r p in
        let es = entries_of named r in
        w.same named
        ∙ (ap (λ n. take_free_steps (resumed_entries named r n)) e
        ∙ ap (λ is. plain_free_step is f es (free_steps_within (length es))) (h.items named));
    there = h.there;
  }

  -- nothing is left of a query's goals
  pub answer_ahead : (p last : Position) → now ≡ Resumes.At p → HasNothingFirst r p last → LiesAhead old r start (Ahead.Answer last)
  answer_ahead p last e h = record {
    entries = λ named.
        let f = continuation_here named r p in
        let es = entries_of named r in
        w.same named
        ∙ (ap (λ n. take_free_steps (resumed_entries named r n)) e
        ∙ (ap (λ is. plain_free_step is f es (free_steps_within (length es))) (h.items named)
        ∙ sym (ap (λ is. PlainEntry (with_items (map (resolve_item r.store.now.bound) (map (by_height (heights_of named r)) is)) f) ∷ es) h.left.items)));
    there = h.left;
  }

  pub query_ahead : now ≡ Resumes.QueryDone → LiesAhead old r start Ahead.QueryDone
  query_ahead e = record { entries = λ named. w.same named ∙ ap (λ n. take_free_steps (resumed_entries named r n)) e; there = tt }

  pub nothing_ahead : now ≡ Resumes.AllDone → LiesAhead old r start Ahead.AllDone
  nothing_ahead e = record { entries = λ named. w.same named ∙ ap (λ n. take_free_steps (resumed_entries named r n)) e; there = subst (IsResumed r) e w.there }

  -- a findall has ended
  pub findall_ahead : (new : RegionView) (list : BindingCell) (results : ResultsView) (after : Position) (a : Ahead) → now ≡ Resumes.FindallDone list results after → EndsFindall r new list results after a → LiesAhead old new start a
  findall_ahead new list results after a e ends = record {
    entries = λ named. w.same named ∙ (ap (λ n. take_free_steps (resumed_entries named r n)) e ∙ ends.entries named);
    there = ends.there;
  }

  -- a result was collected, and what the choice points have left goes on
  module _ (p : Position) (value : BindingCell) (over : ℕ) (e : now ≡ Resumes.At p) (h : HasResultFirst r p value over) (r1 r2 : RegionView) (collects : CollectsResult r r1 value over) (next : Resumed) (resumes : HasResumed r1 r2 next) where
    pub collected_on : TakesFreeSteps r1 r2 next → r2.text ≡ r1.text → r2.store.floor ≡ r1.store.floor → IsGoingAhead old r2 start next
    collected_on steps text floor = record {
      same = λ named.
          w.same named
          ∙ (ap (λ n. take_free_steps (resumed_entries named r n)) e
          ∙ (result_collects (meaning r.store value) (height_of_cut (heights_of named r) over) (h.after named) (continuation_here named r p) (entries_of named r) (h.items named)
          ∙ (ap take_free_steps (sym (collects.entries named)) ∙ steps named)));
      there = resumes.there;
      text = text ∙ (collects.text ∙ w.text);
      floor = floor ∙ (collects.floor ∙ w.floor);
    }

    pub fewer_entries : length (resumed_entries [] r2 next) < length (resumed_entries [] r now)
    fewer_entries =
        let a = ap length (resumes.entries []) in
        let b = without_catches-length (entries_of [] r1) in
        let c = ap length (collects.entries []) in
        let d = length-collected (height_of_cut (heights_of [] r) over) (meaning r.store value) (entries_of [] r) in
        let f = ap (λ n. length (resumed_entries [] r n)) e in
        omega (arith, a, b, c, d, f)

-- a compound that stands first lies ahead
pub compound_lies_ahead : (r : RegionView) (p : Position) (g : CompoundFirst) → IsPositionIn r p → IsCompoundFirst r p g → LiesAhead r r (Some p) (Ahead.Goal (Goal (Compound g.at g.base)) (record { cut = g.cut; after = g.after }))
compound_lies_ahead r p g i first =
    let item = Goal (Compound g.at g.base) in
    let place : GoalPlace = record { cut = g.cut; after = g.after } in
    let found : HasGoalFirst r p item place = record {
      items = λ named. ap (unmarked r.store.now.bound (heights_of named r)) first.items ∙ goal_stays r.store.now.bound (heights_of named r) (text_in r.store) item g.cut (items_here r g.after) refl;
      there = record { goal = refl; there = first.there; place = record { scope = first.scope; after = first.after } };
    } in
    goal_ahead r r (Some p) (Resumes.At p) (going_at r (Some p) p refl i) p item place refl found
