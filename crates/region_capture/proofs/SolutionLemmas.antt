-- A solution that is tried over a choice point of those that are left, and undone.
use Rattle.std.proofs.Common.{◌≡◌, ℕ, List, ◌∷◌, ◌++◌, length, Option, sym, ap, ap₂, ◌∙◌, subst}
use Rattle.au_model.specs.Terms.Named.{NamedTerm}
use Rattle.run_model.specs.Machine.Entries.{Entry, solution_entry}
use Rattle.cell_store.specs.StoreView.{StoreView, text_in, with_mark}
use Rattle.region_split.specs.ChoicePoints.{height_of_cut, alternative_entries, continuation_at}
use Rattle.region_split.specs.ClauseTrials.{entries_at}
use Rattle.region_split.specs.Regions.{RegionView, region_setting, entries_of, heights_of, continuation_here, entries_on, IsPositionIn, AreAlternativesIn}
use Rattle.region_split.specs.Solutions.{SolutionView, solution_at}
use Rattle.region_split.specs.SolutionTrials.{TriesSolution}
use Rattle.region_split.specs.StackOperations.{AddsChoice, TakesNewest, solution_here}
use Rattle.region_split.specs.declared.choice.Alternatives.{Alternatives}
use Rattle.region_split.specs.declared.choice.Alternatives.TheVariants.{Solutions}
use Rattle.region_split.specs.declared.choice.ChoicePoint.{ChoicePoint}
use Rattle.region_split.specs.declared.frame.Position.{Position}
use Rattle.region_capture.specs.CapturedItems.{ItemLists}
use Rattle.region_capture.specs.CaptureSteps.{CapturesReached, CapturesSolution, ComesBack, entries_here}
use Rattle.region_capture.specs.declared.captured.CapturedAlternative.{CapturedAlternative}
use Rattle.region_capture.proofs.ComesBackLemmas.{comes_back, marked_still, heights_then, same_after, same_alternatives, same_entries}
use Rattle.region_capture.proofs.ReachedLemmas.{reached_captures}

module _ (r r1 r2 r3 : RegionView) (solution : SolutionView) (left : List SolutionView) (after : Position) (cut : ℕ) (c : ChoicePoint) (many : length r.store.marks ≡ length r.choices) (count : cut ≡ length r.choices)
    (there : IsPositionIn r after) (adds : AddsChoice r r1 (Solutions left) after) (reached : Option Position) (tried : TriesSolution r1 r2 solution after cut reached) (takes : TakesNewest r2 r3 c) where
  abbrev rest : Alternatives
  rest = Solutions left

  back : ComesBack r r3
  back = comes_back r r1 r2 r3 rest after c many adds tried.stands tried.choices tried.marks tried.text takes

  at : c.after ≡ after
  at = same_after r r1 r2 r3 rest after c many adds tried.stands tried.choices tried.marks tried.text takes

  pub kept : c.alternatives ≡ Solutions left
  kept = same_alternatives r r1 r2 r3 rest after c many adds tried.stands tried.choices tried.marks tried.text takes

  own_entries : (x : RegionView) (d : ChoicePoint) (named : List NamedTerm) → d.alternatives ≡ rest → d.after ≡ after → entries_on named x d x.store.now ≡ entries_here x rest after named
  own_entries x d named is p = ap₂ (λ a q. alternative_entries (region_setting named x) x.store.now (length (entries_of named x)) (continuation_at (region_setting named x) (heights_of named x) x.store.now q) a) is p

  same_left : (named : List NamedTerm) → entries_here r3 rest after named ≡ entries_here r rest after named
  same_left named = sym (own_entries r3 c named kept at) ∙ (same_entries r r1 r2 r3 rest after c many adds tried.stands tried.choices tried.marks tried.text takes named ∙ own_entries r adds.choice named adds.is.0 adds.is.1)

  abbrev own : List NamedTerm → List Entry
  own named = solution_entry (length (entries_of named r)) (continuation_here named r after) (solution_here r solution)

  store : r1.store ≡ with_mark r.store
  store = ap (λ (x : RegionView). x.store) adds.others

  continues : (named : List NamedTerm) → continuation_here named r1 after ≡ continuation_here named r after
  continues named = let same = adds.keeps.same named after there.frame there in cc

  tried_entries : (named : List NamedTerm) → own named ≡ entries_at named r2 reached
  tried_entries named =
      sym (ap₂ (λ h f. solution_entry h f (solution_here r1 solution)) (ap (height_of_cut (heights_of named r1)) count ∙ adds.heights named) (continues named)
      ∙ ap (λ (st : StoreView). solution_entry (length (entries_of named r)) (continuation_here named r after) (solution_at (text_in st) st.now.bound solution)) store)
      ∙ tried.entries named

  pub solution_captured : (lists more : ItemLists) (o : Option CapturedAlternative) (others : List SolutionView) → CapturesReached r2 cut reached lists more o → c.alternatives ≡ Solutions others → CapturesSolution r r3 lists more solution left after o others
  solution_captured lists more o others captured is = record {
    same = let e : ◌≡◌ {A = Alternatives} (Solutions others) (Solutions left) = sym is ∙ kept in cc;
    captures =
        reached_captures r r2 r3 cut count many (marked_still r r1 r2 r3 rest after c many adds tried.stands tried.choices tried.marks tried.text takes) adds.choice (tried.choices ∙ ap (λ (x : RegionView). x.choices) adds.others)
        (heights_then r r1 r2 r3 rest after c many adds tried.stands tried.choices tried.marks tried.text takes) back own (entries_here r3 rest after) (entries_here r (Solutions (solution ∷ left)) after)
        (λ named. ap (λ es. own named ++ es) (sym (same_left named))) reached o lists more tried.position tried_entries captured;
    there = subst (AreAlternativesIn r3) kept takes.alternatives;
    position = subst (IsPositionIn r3) at takes.position;
  }
