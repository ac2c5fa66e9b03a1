-- The newest choice point, as it is read and changed.
use Rattle.std.proofs.Common.{◌≡◌, ℕ, Bool, true, ◌+◌, ◌-◌, ◌<◌, List, [], ◌∷◌, ◌++◌, length, slice_set, get_or, sym, ap, ap₂, ◌∙◌, subst, arith}
use Rattle.std.proofs.Math.Seq.{get_or-append_seam}
use Rattle.clause_index.specs.Cursors.{IsCursorOf}
use Rattle.clause_index.specs.declared.cursor.Cursor.{Cursor}
use Rattle.binding_array.specs.declared.cell.BindingCell.{BindingCell}
use Rattle.cell_store.specs.StoreView.{Moment, StoreView, IsValueIn, meaning, taken_back, with_marks}
use Rattle.region_split.specs.Candidates.{FindsClause, HaveNoEntry}
use Rattle.region_split.specs.QueryEnds.{IsEnd}
use Rattle.region_split.specs.Regions.{RegionView, IsConsistentRegion, region_setting}
use Rattle.region_split.specs.Solutions.{SolutionView}
use Rattle.region_split.specs.ChoicePoints.{HaveSolution}
use Rattle.region_split.specs.StackOperations.{TakesNewest, TakesClause, TakesSolution}
use Rattle.region_split.specs.declared.choice.Alternatives.{Alternatives}
use Rattle.region_split.specs.declared.choice.Alternatives.TheVariants.{Clauses}
use Rattle.region_split.specs.declared.choice.ChoicePoint.{ChoicePoint}
use Rattle.region_split.specs.declared.choice.Trial.{Trial}
use Rattle.region_split.proofs.StandingLemmas.{as_many}
use Rattle.region_split.proofs.RegionLemmas.{EndsWith, ends_with}
use Rattle.region_split.proofs.CursorLemmas.{replaced, undone_at, undone_region, clauses_there, next_there, moved_region, takes_clause, takes_last, rest_there, takes_solution, takes_last_solution}

module _ (before : RegionView) (k : IsConsistentRegion before) (count : ℕ) (many : count ≡ length before.choices) (some : count ≡ 0 → ⊥) where
  abbrev place : ℕ
  place = count - 1

  all : length before.choices ≡ place + 1
  all = omega (arith, many, some)

  as_long : length before.store.marks ≡ place + 1
  as_long = sym (as_many (region_setting [] before) 0 0 before.choices before.store.marks k.choices) ∙ all

  pub mark_there : place < length before.store.marks
  mark_there = let l = as_long in omega (arith, l)

  choices : EndsWith before.choices place
  choices = ends_with before.choices place all

  marks : EndsWith before.store.marks place
  marks = ends_with before.store.marks place as_long

  last_is : (newest : ChoicePoint) → newest ≡ get_or before.choices place newest → newest ≡ choices.last
  last_is newest e = e ∙ (ap (λ cs. get_or cs place newest) choices.is ∙ (ap (λ i. get_or (choices.before ++ choices.last ∷ []) i newest) (sym choices.long) ∙ get_or-append_seam choices.before choices.last [] newest))

  module _ (st : StoreView) (undoing : (ms ns : List Moment) (m : Moment) → before.store.marks ≡ ms ++ m ∷ ns → place ≡ length ms → st ≡ taken_back m (with_marks (place + 1) before.store)) where
    abbrev back : StoreView
    back = record before.store { now = marks.last; marks = marks.before ++ marks.last ∷ [] }

    store : st ≡ back
    store = undone_at before.store st marks.before marks.last place marks.is marks.long (undoing marks.before [] marks.last marks.is (sym marks.long))

    abbrev undone : RegionView
    undone = record before { store = st }

    pub undone_is : IsConsistentRegion undone
    undone_is = subst (λ (x : StoreView). IsConsistentRegion (record before { store = x })) (sym store) (undone_region before k choices.before choices.last marks.before marks.last choices.is marks.is)

    pub program_is : st.program ≡ before.text.code
    program_is = ap (λ (x : StoreView). x.program) store ∙ k.program

    -- alternatives in the newest choice point
    abbrev with_newest : ChoicePoint → Alternatives → List ChoicePoint
    with_newest newest d = slice_set before.choices place (record { alternatives = d; after = newest.after; frames = newest.frames })

    set : (newest : ChoicePoint) (d : Alternatives) → newest ≡ get_or before.choices place newest → with_newest newest d ≡ choices.before ++ record choices.last { alternatives = d } ∷ []
    set newest d newest_is =
        ap (λ cs. slice_set cs place (record newest { alternatives = d })) choices.is
        ∙ (replaced choices.before [] choices.last (record newest { alternatives = d }) place (sym choices.long)
        ∙ ap (λ (y : ChoicePoint). choices.before ++ record y { alternatives = d } ∷ []) (last_is newest newest_is))

    set_region : (newest : ChoicePoint) (d : Alternatives) → newest ≡ get_or before.choices place newest → record before { store = st; choices = with_newest newest d } ≡ record before { store = back; choices = choices.before ++ record choices.last { alternatives = d } ∷ [] }
    set_region newest d newest_is = ap₂ (λ (x : StoreView) cs. record before { store = x; choices = cs }) store (set newest d newest_is)

    module _ (newest : ChoicePoint) (newest_is : newest ≡ get_or before.choices place newest) (goal : BindingCell) (n : ℕ) (left : Cursor) (was : newest.alternatives ≡ Clauses goal n left) where
      last_was : choices.last.alternatives ≡ Clauses goal n left
      last_was = ap (λ (x : ChoicePoint). x.alternatives) (sym (last_is newest newest_is)) ∙ was

      pub goal_there : IsValueIn st goal
      goal_there = subst (λ (x : StoreView). IsValueIn x goal) (sym store) (clauses_there before k choices.before choices.last marks.before marks.last choices.is marks.is goal n left last_was).0

      pub cursor_there : IsCursorOf before.text.heads left
      cursor_there = (clauses_there before k choices.before choices.last marks.before marks.last choices.is marks.is goal n left last_was).2

      abbrev trial : Trial
      trial = record { goal = goal; clause = n; after = newest.after }

      trial_is : (let t : Trial = record { goal = goal; clause = n; after = choices.last.after } in t) ≡ trial
      trial_is = ap (λ (x : ChoicePoint). (let t : Trial = record { goal = goal; clause = n; after = x.after } in t)) (sym (last_is newest newest_is))

      pub none_left : HaveNoEntry before.text (meaning st goal) st.now.next left → (new : RegionView) (d : ChoicePoint) → TakesNewest undone new d → TakesClause before new trial
      none_left none new d t =
          subst (TakesClause before new) trial_is
          (takes_last before k choices.before choices.last marks.before marks.last choices.is marks.is goal n left last_was (subst (λ (x : StoreView). HaveNoEntry before.text (meaning x goal) x.now.next left) store none) new d
          (subst (λ (x : StoreView). TakesNewest (record before { store = x }) new d) store t))

      module _ (next : ℕ) (rest : Cursor) (finds : FindsClause before.text (meaning st goal) st.now.next left rest next) (again : ChoicePoint) (again_is : again ≡ get_or before.choices place again) where
        abbrev now : List ChoicePoint
        now = with_newest again (Clauses goal next rest)

        found : FindsClause before.text (meaning back goal) back.now.next left rest next
        found = subst (λ (x : StoreView). FindsClause before.text (meaning x goal) x.now.next left rest next) store finds

        pub changed_is : IsConsistentRegion (record before { store = st; choices = now })
        changed_is =
            subst IsConsistentRegion (sym (set_region again (Clauses goal next rest) again_is))
            (moved_region before k choices.before choices.last marks.before marks.last choices.is marks.is (Clauses goal next rest) (next_there before k choices.before choices.last marks.before marks.last choices.is marks.is goal n left last_was next rest found) (λ e. subst IsEnd last_was e) (λ e. e))

        pub others_left : TakesClause before (record before { store = st; choices = now }) trial
        others_left =
            subst (TakesClause before (record before { store = st; choices = now })) trial_is
            (subst (λ (x : RegionView). TakesClause before x (record { goal = goal; clause = n; after = choices.last.after })) (sym (set_region again (Clauses goal next rest) again_is))
            (takes_clause before k choices.before choices.last marks.before marks.last choices.is marks.is goal n left last_was next rest found))

    -- a solution was taken off
    module _ (newest : ChoicePoint) (newest_is : newest ≡ get_or before.choices place newest) (d : Alternatives) (solution : SolutionView) (is_last : Bool) (takes : HaveSolution newest.alternatives d solution is_last) where
      last_takes : HaveSolution choices.last.alternatives d solution is_last
      last_takes = subst (λ (x : ChoicePoint). HaveSolution x.alternatives d solution is_last) (last_is newest newest_is) takes

      abbrev shorter : RegionView
      shorter = record before { store = st; choices = with_newest newest d }

      pub shorter_is : IsConsistentRegion shorter
      shorter_is =
          subst IsConsistentRegion (sym (set_region newest d newest_is))
          (moved_region before k choices.before choices.last marks.before marks.last choices.is marks.is d (rest_there before k choices.before choices.last marks.before marks.last choices.is marks.is d solution is_last last_takes) (λ e. subst IsEnd last_takes.was e) (λ e. subst IsEnd last_takes.is e))

      pub solution_taken : TakesSolution before shorter solution newest.after
      solution_taken =
          subst (λ (x : ChoicePoint). TakesSolution before shorter solution x.after) (sym (last_is newest newest_is))
          (subst (λ (x : RegionView). TakesSolution before x solution choices.last.after) (sym (set_region newest d newest_is))
          (takes_solution before k choices.before choices.last marks.before marks.last choices.is marks.is d solution is_last last_takes))

      pub last_taken : is_last ≡ true → (new : RegionView) (e : ChoicePoint) → TakesNewest shorter new e → TakesSolution before new solution newest.after
      last_taken yes_last new e t =
          subst (λ (x : ChoicePoint). TakesSolution before new solution x.after) (sym (last_is newest newest_is))
          (takes_last_solution before k choices.before choices.last marks.before marks.last choices.is marks.is d solution is_last last_takes yes_last shorter new e (set_region newest d newest_is) t)
