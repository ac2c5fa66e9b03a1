-- A task that has no choice point over its floor, and the result that is next.
use Rattle.std.proofs.Common.{◌≡◌, inl, inr, ℕ, zero, suc, ◌+◌, ◌≤◌, List, [], ◌∷◌, ◌++◌, length, Option, Some, None, refl, sym, ap, ap₂, ◌∙◌, subst, arith}
use Rattle.std.specs.List.{slice_get}
use Rattle.std.specs.Prelude.{◌==◌, IsSome, IfSome, IsTrue, ◌↔◌}
use Rattle.au_term.specs.Term.{Term, var_bound}
use Rattle.au_term.proofs.LogicLemmas.{same_number, number_same}
use Rattle.au_model.specs.Terms.Each.{Each}
use Rattle.au_model.specs.Terms.Named.{NamedTerm}
use Rattle.run_model.specs.Machine.Items.{CollectMark, RemovalItem, Continuation, before}
use Rattle.run_model.specs.Machine.Entries.{Entry, PlainEntry, EndEntry}
use Rattle.cell_store.specs.StoreView.{Moment}
use Rattle.region_split.specs.ChoicePoints.{RegionSetting, Standing, nothing_standing, continuation_at, choice_entries, with_entries_on_top, standing_over}
use Rattle.region_split.specs.ClauseTrials.{entries_at}
use Rattle.region_split.specs.QueryEnds.{IsEnd, AreEndsOldest}
use Rattle.region_split.specs.Regions.{RegionView, region_setting, entries_of, continuation_here, position_entry}
use Rattle.region_split.specs.declared.choice.ChoicePoint.{ChoicePoint}
use Rattle.region_split.specs.declared.frame.Position.{Position}
use Rattle.region_floor.specs.BareFloors.{bare_floor, bare_stack, AreOwn}
use Rattle.region_floor.specs.RegionRuns.{StandsAfter}
use Rattle.region_floor.proofs.NextNumberLemmas.{next_never_falls}
use Rattle.region_floor.proofs.RunLemmas.{tops_are_own}
use Rattle.tree_model.specs.Levels.{Level}
use Rattle.task_region.specs.DeferredItems.{IsDeferredOver}
use Rattle.task_region.specs.GoalLoads.{nothing_here}
use Rattle.task_region.specs.TaskResults.{HasNoChoice}
use Rattle.task_region.specs.TaskStandings.{HasOwnRun, IsTask}
use Rattle.task_region.specs.TaskStops.{IsNextFor}
use Rattle.task_region.specs.TaskViews.{TaskView, carried, task_stack}
use Rattle.task_region.specs.declared.running.TaskStop.TheVariants.{Collect}
use Rattle.task_region.proofs.ChoiceEntryLemmas.{IsNoEndEntry, end_is}
use Rattle.task_region.proofs.EndLemmas.{no_ends_over, own_no_ends, same_floor}
use Rattle.task_region.proofs.FoundLemmas.{item_holds}
use Rattle.task_region.proofs.StandingRunLemmas.{outer_marks}

module _ (s : RegionSetting) where
  -- ends stand for ends
  ends_stand : (below : Standing) (k : ℕ) (cs : List ChoicePoint) (ms : List Moment) → below.entries ≡ bare_floor k → Each (λ (c : ChoicePoint). IsEnd c.alternatives) cs
      → (n : ℕ) × ((standing_over s below cs ms).entries ≡ bare_floor n) × (length cs ≡ length ms → n ≡ k + length cs)
  ends_stand below k [] ms is ends = (k, is, λ long. omega arith)
  ends_stand below k (c ∷ cs) [] is ends = (k, is, λ long. absurd (omega (arith, long)))
  ends_stand below k (c ∷ cs) (m ∷ ms) is ends =
      let end = end_is s m (length below.entries) (continuation_at s below.heights m c.after) c.alternatives ends.0 in
      let r = ends_stand (with_entries_on_top (choice_entries s below c m) below) (suc k) cs ms (ap₂ ◌++◌ end is) ends.1 in
      (r.0, r.1, λ long. let all = r.2 (omega (arith, long)) in omega (arith, all))

  -- as many ends as choice points: each is one
  all_ends : (below : Standing) (k : ℕ) (cs : List ChoicePoint) (ms : List Moment) (own : List Entry) → below.entries ≡ bare_floor k → length cs ≡ length ms → AreEndsOldest cs
      → Each IsNoEndEntry own → (standing_over s below cs ms).entries ≡ own ++ bare_floor (k + length cs) → Each (λ (c : ChoicePoint). IsEnd c.alternatives) cs
  all_ends below k [] ms own is long oldest no_ends e = tt
  all_ends below k (c ∷ cs) [] own is long oldest no_ends e = absurd (omega (arith, long))
  all_ends below k (c ∷ cs) (m ∷ ms) own is long (inl one) no_ends e =
      let end = end_is s m (length below.entries) (continuation_at s below.heights m c.after) c.alternatives one.0 in
      let more = with_entries_on_top (choice_entries s below c m) below in
      let same : k + suc (length cs) ≡ suc k + length cs = omega arith in
      (one.0, all_ends more (suc k) cs ms own (ap₂ ◌++◌ end is) (omega (arith, long)) one.1 no_ends (e ∙ ap (λ n. own ++ bare_floor n) same))
  all_ends below k (c ∷ cs) (m ∷ ms) own is long (inr none) no_ends e =
      let o = no_ends_over s below (c ∷ cs) (m ∷ ms) none in
      let same = same_floor k (k + length (c ∷ cs)) o.0 own o.2 no_ends (sym (o.1 ∙ ap (λ es. o.0 ++ es) is) ∙ e) in
      absurd (omega (arith, same))

none_over : (n m : ℕ) (es : List Entry) → Each IsNoEndEntry es → bare_floor n ≡ es ++ bare_floor m → es ≡ []
none_over n m [] no_ends e = refl
none_over zero m (x ∷ es) no_ends e = absurd cc
none_over (suc n) m (x ∷ es) no_ends e = let end : EndEntry None ≡ x = cc in absurd (subst IsNoEndEntry (sym end) no_ends.0)

-- nothing of a region's own is over its floor
pub nothing_over_floor : (named : List NamedTerm) (r : RegionView) (levels : List Level) (below : List Entry) → Each (λ (c : ChoicePoint). IsEnd c.alternatives) r.choices
    → AreOwn (length levels) below → entries_of named r ≡ bare_stack levels below → below ≡ []
nothing_over_floor named r levels below ends are_own is =
    let o = ends_stand (region_setting named r) nothing_standing 0 r.choices r.store.marks refl ends in
    none_over o.0 (length levels) below (own_no_ends (length levels) below are_own) (sym o.1 ∙ is)

-- what a task has of its own under what is next
module _ (t : TaskView) (run : HasOwnRun t) where
  abbrev pub all : List NamedTerm
  all = carried run.named t.deferred

  pub record Under : Type 0 where
    pub own : List Entry
    pub are_own : AreOwn (length run.run.levels) own
    pub entries : entries_of all t.region ≡ bare_stack run.run.levels own

  pub under : (o : Option Position) → t.next ≡ o → IsSome o → Under
  under None e some = absurd (cc some)
  under (Some p) e some =
      let st = run.stands.stands in
      let stack : task_stack run.named t ≡ position_entry all t.region p ∷ entries_of all t.region
      = ap (λ o. entries_at all t.region o ++ entries_of all t.region) e in
      let top = tops_are_own run.run.levels st.own (continuation_here all t.region p) (entries_of all t.region) (sym st.entries ∙ stack) in
      record { own = top.below; are_own = (subst (AreOwn (length run.run.levels)) top.own_is st.are_own).1; entries = top.entries }

  module _ (next : IsSome t.next) (ends : AreEndsOldest t.region.choices) (marks : length t.region.store.marks ≡ length t.region.choices) where
    pub choices_are_ends : length t.region.choices ≡ t.floor → HasNoChoice t
    choices_are_ends many =
        let u = under t.next refl next in
        let levels = run.stands.own.levels in
        let same : length run.run.levels ≡ 0 + length t.region.choices = omega (arith, levels, many) in
        all_ends (region_setting all t.region) nothing_standing 0 t.region.choices t.region.store.marks u.own refl (sym marks) ends
        (own_no_ends (length run.run.levels) u.own u.are_own) (u.entries ∙ ap (λ n. u.own ++ bare_floor n) same)

    pub ends_are_choices : HasNoChoice t → length t.region.choices ≡ t.floor
    ends_are_choices alone =
        let u = under t.next refl next in
        let o = ends_stand (region_setting all t.region) nothing_standing 0 t.region.choices t.region.store.marks refl alone in
        let same = same_floor o.0 (length run.run.levels) [] u.own tt (own_no_ends (length run.run.levels) u.own u.are_own) (sym o.1 ∙ u.entries) in
        let many = o.2 (sym marks) in
        let levels = run.stands.own.levels in
        omega (arith, same, many, levels)

    pub counts_tell : (x y : ℕ) → x ≡ length t.region.choices → y ≡ t.floor → IsTrue (x == y) ↔ HasNoChoice t
    counts_tell x y many floor = (
      (λ is. choices_are_ends (sym many ∙ same_number x y is ∙ floor)),
      (λ alone. subst (λ n. IsTrue (n == y)) (sym (many ∙ ends_are_choices alone ∙ sym floor)) (number_same y)),
    )

-- a task that can go on has a run
pub run_there : (t : TaskView) → IsTask t → IsSome t.next → HasOwnRun t
run_there t task next = by_next t.next refl next
  where
    by_next : (o : Option Position) → t.next ≡ o → IsSome o → HasOwnRun t
    by_next None e some = absurd (cc some)
    by_next (Some p) e some = subst (λ (o : Option Position). IfSome o (λ p. HasOwnRun t)) e task.run

-- the variables of a result that is next are there
module _ (t : TaskView) (number : ℕ) (task : IsTask t) (next : IsNextFor (Collect number) t) where
  goes_on : (o : Option Position) → t.next ≡ o → IsSome o
  goes_on None e = let wrong : [] ≡ PlainEntry (before (RemovalItem number ∷ []) (nothing_here [] t.region)) ∷ [] = ap (entries_at [] t.region) (sym e) ∙ next.1 [] in absurd cc
  goes_on (Some p) e = refl

  pub result_fits : (template : Term) (h : ℕ) → slice_get t.deferred number ≡ Some (CollectMark template h) → var_bound template ≤ t.region.store.now.next
  result_fits template h is =
      let run = run_there t task (goes_on t.next refl) in
      let all = carried run.named t.deferred in
      let f : Continuation ℕ = before (RemovalItem number ∷ []) (nothing_here all t.region) in
      let stack : task_stack run.named t ≡ PlainEntry f ∷ entries_of all t.region = ap (λ es. es ++ entries_of all t.region) (next.1 all) in
      let enough : t.variables ≤ t.region.store.now.next
      = next_never_falls run.run run.inferences t.variables f (entries_of all t.region) (outer_marks run.run run.named t run.stands.own task.deferred)
      run.stands.own.numbers tt (subst (StandsAfter run.run run.inferences) stack run.stands.stands) in
      let within = (item_holds (IsDeferredOver t.variables t.floor) t.deferred number (CollectMark template h) task.deferred is).0 in
      omega (arith, enough, within)
