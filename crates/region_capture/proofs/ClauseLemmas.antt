-- A clause that is tried over a choice point of its own and undone.
use Rattle.std.proofs.Common.{◌≡◌, ℕ, ◌<◌, List, [], ◌∷◌, ◌++◌, length, slice_get, Option, Some, sym, ap, ap₂, ◌∙◌, subst}
use Rattle.au_model.specs.Terms.Named.{NamedTerm}
use Rattle.run_model.specs.Goals.Outcomes.{clause_solution}
use Rattle.run_model.specs.Programs.Clauses.{Clause}
use Rattle.run_model.specs.Machine.Items.{Continuation}
use Rattle.run_model.specs.Machine.Entries.{Entry, PlainEntry, solution_entry}
use Rattle.cell_store.specs.StoreView.{StoreView, IsValueIn, meaning, with_mark}
use Rattle.region_split.specs.Candidates.{entries_of_clauses}
use Rattle.region_split.specs.ChoicePoints.{height_of_cut, alternative_entries, continuation_at}
use Rattle.region_split.specs.ClauseTrials.{TriesClause, KeepsChoices, entries_at}
use Rattle.region_split.specs.Regions.{RegionView, region_setting, entries_of, heights_of, continuation_here, entries_on, IsPositionIn}
use Rattle.region_split.specs.StackOperations.{AddsChoice, TakesNewest}
use Rattle.region_split.specs.Texts.{TextView}
use Rattle.region_split.specs.declared.choice.Alternatives.TheVariants.{Elsewhere}
use Rattle.region_split.specs.declared.choice.ChoicePoint.{ChoicePoint}
use Rattle.region_split.specs.declared.choice.Trial.{Trial}
use Rattle.region_split.specs.declared.frame.Position.{Position}
use Rattle.region_split.proofs.CandidateLemmas.{IsThere, is_there, clause_first}
use Rattle.region_capture.specs.CapturedItems.{ItemLists}
use Rattle.region_capture.specs.CaptureSteps.{CapturesReached, CapturesClause, ComesBack, clause_entries_here}
use Rattle.region_capture.specs.declared.captured.CapturedAlternative.{CapturedAlternative}
use Rattle.region_capture.proofs.ComesBackLemmas.{comes_back, marked_still, heights_then, same_after, same_alternatives, same_entries}
use Rattle.region_capture.proofs.ReachedLemmas.{reached_captures}

module _ (r r1 r2 r3 : RegionView) (t : Trial) (cut : ℕ) (c : ChoicePoint) (many : length r.store.marks ≡ length r.choices) (count : cut ≡ length r.choices) (clause : t.clause < length r.text.clauses) (goal : IsValueIn r.store t.goal)
    (after : IsPositionIn r t.after) (adds : AddsChoice r r1 Elsewhere t.after) (reached : Option Position) (tried : TriesClause r1 r2 t cut reached) (kept : KeepsChoices r1 r2) (takes : TakesNewest r2 r3 c) where
  same_choices : r2.choices ≡ r1.choices
  same_choices = ap (λ (x : RegionView). x.choices) kept.others

  same_marks : r2.store.marks ≡ r1.store.marks
  same_marks = ap (λ (x : RegionView). x.store.marks) kept.others

  same_text : r2.text ≡ r1.text
  same_text = ap (λ (x : RegionView). x.text) kept.others

  back : ComesBack r r3
  back = comes_back r r1 r2 r3 Elsewhere t.after c many adds kept.stands same_choices same_marks same_text takes

  first_store : r1.store ≡ with_mark r.store
  first_store = ap (λ (x : RegionView). x.store) adds.others

  store : r3.store ≡ r.store
  store =
      let own = takes.store in
      let others = ap (λ (x : RegionView). x.store) kept.others in
      let now = back.now in
      let marks = back.marks in
      takes.store
      ∙ (ap (λ (st : StoreView). record st { now = r3.store.now; marks = r3.store.marks }) (ap (λ (x : RegionView). x.store) kept.others ∙ ap (λ (st : StoreView). record st { now = r2.store.now }) first_store)
      ∙ ap₂ (λ m ms. record r.store { now = m; marks = ms }) back.now back.marks)

  position : IsPositionIn r3 t.after
  position = subst (IsPositionIn r3) (same_after r r1 r2 r3 Elsewhere t.after c many adds kept.stands same_choices same_marks same_text takes) takes.position

  elsewhere : (x : RegionView) (d : ChoicePoint) (named : List NamedTerm) → d.alternatives ≡ Elsewhere → d.after ≡ t.after → entries_on named x d x.store.now ≡ PlainEntry (continuation_here named x t.after) ∷ []
  elsewhere x d named is at = ap₂ (λ a p. alternative_entries (region_setting named x) x.store.now (length (entries_of named x)) (continuation_at (region_setting named x) (heights_of named x) x.store.now p) a) is at

  follows : (named : List NamedTerm) → continuation_here named r3 t.after ≡ continuation_here named r t.after
  follows named =
      let then = elsewhere r adds.choice named adds.is.0 adds.is.1 in
      let again = elsewhere r3 c named (same_alternatives r r1 r2 r3 Elsewhere t.after c many adds kept.stands same_choices same_marks same_text takes) (same_after r r1 r2 r3 Elsewhere t.after c many adds kept.stands same_choices same_marks same_text takes) in
      let same = same_entries r r1 r2 r3 Elsewhere t.after c many adds kept.stands same_choices same_marks same_text takes named in
      plain_same (continuation_here named r3 t.after) (continuation_here named r t.after) (sym again ∙ (same ∙ then))
    where
      plain_same : (f g : Continuation ℕ) → ◌≡◌ {A = List Entry} (PlainEntry f ∷ []) (PlainEntry g ∷ []) → f ≡ g
      plain_same f g e = cc

  there : IsThere r.text.clauses t.clause
  there = is_there r.text.clauses t.clause clause

  same_clause : there.element ≡ tried.clause
  same_clause = let a = there.is in let b = tried.is in let e = ap (λ (x : RegionView). slice_get x.text.clauses t.clause) adds.others in some_same there.element tried.clause (sym there.is ∙ (sym e ∙ tried.is))
    where
      some_same : (x y : Clause) → ◌≡◌ {A = Option Clause} (Some x) (Some y) → x ≡ y
      some_same x y e = cc

  abbrev own : List NamedTerm → List Entry
  own named = solution_entry (length (entries_of named r)) (continuation_here named r t.after) (clause_solution (meaning r.store t.goal) r.store.now.next there.element)

  continues : (named : List NamedTerm) → continuation_here named r1 t.after ≡ continuation_here named r t.after
  continues named = let same = adds.keeps.same named t.after after.frame after in cc

  tried_entries : (named : List NamedTerm) → own named ≡ entries_at named r2 reached
  tried_entries named =
      sym (ap₂ (λ h f. solution_entry h f (clause_solution (meaning r1.store t.goal) r1.store.now.next tried.clause)) (ap (height_of_cut (heights_of named r1)) count ∙ adds.heights named) (continues named)
      ∙ ap₂ (λ (st : StoreView) d. solution_entry (length (entries_of named r)) (continuation_here named r t.after) (clause_solution (meaning st t.goal) st.now.next d)) first_store (sym same_clause))
      ∙ tried.entries named

  whole : (left : List ℕ) (named : List NamedTerm) → clause_entries_here r t.goal t.after (t.clause ∷ left) named ≡ own named ++ clause_entries_here r3 t.goal t.after left named
  whole left named =
      clause_first r.text (meaning r.store t.goal) r.store.now.next (length (entries_of named r)) (continuation_here named r t.after) t.clause left there.element there.first
      ∙ ap (λ es. own named ++ es) (sym (same_left left named))
    where
      same_left : (left : List ℕ) (named : List NamedTerm) → clause_entries_here r3 t.goal t.after left named ≡ clause_entries_here r t.goal t.after left named
      same_left left named =
          ap₂ (λ (x : TextView) (st : StoreView). entries_of_clauses x (meaning st t.goal) st.now.next (length (entries_of named r3)) (continuation_here named r3 t.after) left) back.text store
          ∙ ap₂ (λ (es : List Entry) f. entries_of_clauses r.text (meaning r.store t.goal) r.store.now.next (length es) f left) (back.entries named) (follows named)

  pub clause_captured : (lists more : ItemLists) (o : Option CapturedAlternative) → CapturesReached r2 cut reached lists more o → CapturesClause r r3 lists more t o
  clause_captured lists more o captured = record {
    captures = λ left.
        reached_captures r r2 r3 cut count many (marked_still r r1 r2 r3 Elsewhere t.after c many adds kept.stands same_choices same_marks same_text takes) adds.choice (same_choices ∙ ap (λ (x : RegionView). x.choices) adds.others)
        (heights_then r r1 r2 r3 Elsewhere t.after c many adds kept.stands same_choices same_marks same_text takes) back own (clause_entries_here r3 t.goal t.after left) (clause_entries_here r t.goal t.after (t.clause ∷ left)) (whole left)
        reached o lists more tried.position tried_entries captured;
    goal = subst (λ (st : StoreView). IsValueIn st t.goal) (sym store) goal;
    after = position;
  }
