-- What is deferred is taken up, or stops the run.
use Rattle.std.proofs.Common.{◌≡◌, ℕ, zero, suc, ◌+◌, ◌-◌, ◌<◌, ◌≤◌, List, [], ◌∷◌, ◌++◌, length, map, drop, Some, None, refl, sym, ap, ap₂, ◌∙◌, subst, arith}
use Rattle.std.specs.List.{slice_get}
use Rattle.std.proofs.lemmas.List.{length-map}
use Rattle.au_term.specs.Term.{Term}
use Rattle.au_model.specs.Terms.Named.{NamedTerm}
use Rattle.au_model.specs.Terms.Substitutions.{resolve}
use Rattle.run_model.specs.Machine.Items.{Item, GoalItem, CatchMark, CollectMark, RemovalItem, Continuation, before, goals_at, resolve_item}
use Rattle.run_model.specs.Machine.Entries.{Entry, PlainEntry}
use Rattle.tree_model.specs.Nodes.{WorldGate}
use Rattle.region_split.specs.ChoicePoints.{Standing}
use Rattle.region_split.specs.Regions.{RegionView, entries_of, continuation_here}
use Rattle.region_split.specs.declared.frame.FrameItem.{FrameItem}
use Rattle.region_split.specs.declared.frame.Position.{Position}
use Rattle.region_control.specs.declared.control.GoalPlace.{GoalPlace}
use Rattle.region_floor.specs.Deferred.{deferred_now, items_now}
use Rattle.region_floor.specs.BareFloors.{AreOwn}
use Rattle.region_floor.specs.GateLaws.{deferred_entries}
use Rattle.region_floor.specs.RegionRuns.{RegionRun, StandsAfter, StandsAtGate, ComesToResult, TakesDeferred as TakesNext}
use Rattle.region_floor.proofs.JoinedLemmas.{bound_now}
use Rattle.region_floor.proofs.RegionRunLemmas.{goals_loaded, mark_skipped, answer_stops, removal_stops, result_comes}
use Rattle.region_floor.proofs.RunLemmas.{tops_are_own}
use Rattle.task_region.specs.DeferredItems.{IsDeferredOver, IsMarkAt, SkipsMarks, AreGoalsFrom, FindsGoals}
use Rattle.task_region.specs.GoalLoads.{nothing_here, LeavesItems, LoadsGoals, rest_items, ComesToDeferred, TakesUpDeferred}
use Rattle.task_region.specs.declared.loading.AfterDeferred.TheVariants.{Goal, Answer, Result, Removal}
use Rattle.task_region.specs.TaskViews.{carried, position_stack, deferred_stack, goal_stack}
use Rattle.task_region.proofs.FoundLemmas.{item_holds, items_from, nothing_from, goals_now, goals_resolved}

module _ (r : RegionRun) (k : ℕ) (named : List NamedTerm) (old : RegionView) (number : ℕ) (after : Position) (w : ComesToDeferred r k named old number after) where
  abbrev all : List NamedTerm
  all = carried named r.deferred.items

  abbrev f : Continuation ℕ
  f = continuation_here all old after

  abbrev es : List Entry
  es = entries_of all old

  abbrev now : List (Item ℕ)
  now = map (resolve_item old.store.now.bound) r.deferred.items

  now_is : deferred_now r.deferred f ≡ now
  now_is =
      ap (λ n. items_now r.deferred.items (drop n f.named)) w.named_are
      ∙ bound_now old.store.now.bound (record { items = r.deferred.items; named = named; next = 0 }) f refl

  takes : (items : List (Item ℕ)) → drop number now ≡ items → TakesNext r k number f es items
  takes items e = record { stands = w.stands; deferred = ap (drop number) now_is ∙ e }

  takes_item : (i : Item ℕ) → slice_get r.deferred.items number ≡ Some i → TakesNext r k number f es (resolve_item old.store.now.bound i ∷ drop (suc number) now)
  takes_item i e = takes _ (items_from (resolve_item old.store.now.bound) r.deferred.items number i e)

  -- nothing follows
  nothing_after : f.items ≡ []
  nothing_after =
      let top = tops_are_own r.levels w.stands.own (before (RemovalItem number ∷ []) f) es (sym w.stands.entries) in
      (subst (AreOwn (length r.levels)) top.own_is w.stands.are_own).0

  f_is : nothing_here all old ≡ f
  f_is = ap (λ items. let g : Continuation ℕ = record { items = items; named = f.named; next = f.next } in g) (sym nothing_after)

  scoped : (i : Item ℕ) → slice_get r.deferred.items number ≡ Some i → IsDeferredOver old.store.now.next (length r.levels) i
  scoped i e = item_holds (IsDeferredOver old.store.now.next (length r.levels)) r.deferred.items number i w.scoped e

  abbrev with_goals : List (Item ℕ) → ℕ → Continuation ℕ → List Entry
  with_goals goals n g = PlainEntry (before (goals ++ RemovalItem n ∷ []) g) ∷ es

  goals_taken : (new : RegionView) (item : FrameItem) (g : GoalPlace) (term : Term) (more : List Term) (cut rest : ℕ) → AreGoalsFrom r.deferred.items cut number (term ∷ more)
      → rest ≡ number + 1 + length more → LoadsGoals old new (term ∷ more) cut rest item g → StandsAfter r k (goal_stack named r.deferred.items new item g)
  goals_taken new item g term more cut rest are e l =
      let s = old.store.now.bound in
      let goals = map (resolve s) (term ∷ more) in
      let many : rest ≡ number + length goals = let same = length-map more (resolve s) in omega (arith, e, same) in
      let height = w.over.below cut (scoped (GoalItem term cut) are.0).1 in
      let left = ap₂ (λ (x : Entry) xs. x ∷ xs) (l.entry all) (ap (λ (st : Standing). st.entries) (l.stands all)) in
      let loaded = ap (λ h. map (resolve_item s) (goals_at h (term ∷ more))) height ∙ goals_resolved s cut (term ∷ more) in
      subst (StandsAfter r k)
      (sym (left ∙ (ap₂ (λ gs n. with_goals gs n (nothing_here all old)) loaded many ∙ ap (with_goals (goals_at cut goals) (number + length goals)) f_is)))
      (goals_loaded r k number cut goals f es _ (takes _ (goals_now s r.deferred.items cut number (term ∷ more) are)))

  mark_passed : (h : ℕ) → slice_get r.deferred.items number ≡ Some (CatchMark h) → ComesToDeferred r k named old (suc number) after
  mark_passed h e = record { named_are = w.named_are; over = w.over; scoped = w.scoped; stands = mark_skipped r k number h f es _ (takes_item (CatchMark h) e) }

  -- what is deferred from there on is left at a position of its own
  pub rest_left : (new : RegionView) (p : Position) → LeavesItems old new (rest_items number) p → position_stack named r.deferred.items new p ≡ deferred_stack named r.deferred.items old number after
  rest_left new p l =
      ap₂ (λ (x : Entry) xs. x ∷ xs) (l.entry all) (ap (λ (st : Standing). st.entries) (l.stands all)) ∙ ap (λ g. deferred_entries number g es) f_is

  answer_is : slice_get r.deferred.items number ≡ None → StandsAtGate r k (deferred_stack named r.deferred.items old number after) WorldGate
  answer_is e = answer_stops r k number f es (takes [] (nothing_from (resolve_item old.store.now.bound) r.deferred.items number e))

  removal_is : (clause : ℕ) → slice_get r.deferred.items number ≡ Some (RemovalItem clause) → StandsAtGate r k (deferred_stack named r.deferred.items old number after) WorldGate
  removal_is clause e = removal_stops r k number clause f es _ (takes_item (RemovalItem clause) e)

  result_is : (result : Term) (h : ℕ) → slice_get r.deferred.items number ≡ Some (CollectMark result h) → ComesToResult r k (deferred_stack named r.deferred.items old number after)
  result_is result h e = result_comes r k number h (resolve old.store.now.bound result) f es _ (takes_item (CollectMark result h) e) (scoped (CollectMark result h) e).1

module _ (r : RegionRun) (k : ℕ) (named : List NamedTerm) (old : RegionView) (after : Position) where
  passed_by : (many start reached : ℕ) → reached ≡ start + many → ((n : ℕ) → start ≤ n → n < reached → IsMarkAt r.deferred.items n)
      → ComesToDeferred r k named old start after → ComesToDeferred r k named old reached after
  passed_by zero start reached e marks w = subst (λ n. ComesToDeferred r k named old n after) (let s : start ≡ reached = omega (arith, e) in s) w
  passed_by (suc many) start reached e marks w =
      let m = marks start (omega arith) (omega (arith, e)) in
      passed_by many (suc start) reached (omega (arith, e)) (λ n ge lt. marks n (omega (arith, ge)) lt) (mark_passed r k named old start after w m.0 m.1)

  -- the ends of what catches guard are skipped
  marks_passed : (start reached : ℕ) → SkipsMarks r.deferred.items start reached → ComesToDeferred r k named old start after → ComesToDeferred r k named old reached after
  marks_passed start reached skips w =
      passed_by (reached - start) start reached (let le = skips.from in omega (arith, le)) skips.marks w

-- what is deferred from a number on is taken up past the ends of catches
module _ (old : RegionView) (items : List (Item ℕ)) (start reached : ℕ) (skips : SkipsMarks items start reached) where
  come : (r : RegionRun) (k : ℕ) (named : List NamedTerm) (after : Position) → r.deferred.items ≡ items → ComesToDeferred r k named old start after → ComesToDeferred r k named old reached after
  come r k named after e w = marks_passed r k named old after start reached (subst (λ is. SkipsMarks is start reached) (sym e) skips) w

  pub takes_answer : slice_get items reached ≡ None → TakesUpDeferred old old items start (Answer reached)
  takes_answer none = record {
    taken = λ r k named after e w.
        let there = come r k named after e w in
        (there, answer_is r k named old reached after there (subst (λ is. slice_get is reached ≡ None) (sym e) none));
    there = (none, refl);
    stands = λ named. refl;
    choices = refl;
    text = refl;
    floor = refl;
    next = refl;
  }

  pub takes_removal : (clause : ℕ) → slice_get items reached ≡ Some (RemovalItem clause) → TakesUpDeferred old old items start (Removal reached clause)
  takes_removal clause is = record {
    taken = λ r k named after e w.
        let there = come r k named after e w in
        (there, removal_is r k named old reached after there clause (subst (λ is. slice_get is reached ≡ Some (RemovalItem clause)) (sym e) is));
    there = (is, refl);
    stands = λ named. refl;
    choices = refl;
    text = refl;
    floor = refl;
    next = refl;
  }

  pub takes_result : (result : Term) (h : ℕ) → slice_get items reached ≡ Some (CollectMark result h) → TakesUpDeferred old old items start (Result reached)
  takes_result result h is = record {
    taken = λ r k named after e w.
        let there = come r k named after e w in
        (there, result_is r k named old reached after there result h (subst (λ is. slice_get is reached ≡ Some (CollectMark result h)) (sym e) is));
    there = ((result, h, is), refl);
    stands = λ named. refl;
    choices = refl;
    text = refl;
    floor = refl;
    next = refl;
  }

  pub takes_goals : (term : Term) (more : List Term) (cut rest : ℕ) (new : RegionView) (item : FrameItem) (g : GoalPlace) → slice_get items reached ≡ Some (GoalItem term cut)
      → FindsGoals items cut (reached + 1) more rest → LoadsGoals old new (term ∷ more) cut rest item g → TakesUpDeferred old new items start (Goal item g)
  takes_goals term more cut rest new item g is finds l = record {
    taken = λ r k named after e w.
        let are : AreGoalsFrom items cut reached (term ∷ more) = (is, subst (λ n. AreGoalsFrom items cut n more) (omega arith) finds.are) in
        goals_taken r k named old reached after (come r k named after e w) new item g term more cut rest (subst (λ is. AreGoalsFrom is cut reached (term ∷ more)) (sym e) are) finds.rest_is l;
    there = l.there;
    stands = l.stands;
    choices = l.choices;
    text = l.text;
    floor = l.floor;
    next = l.next;
  }
