-- Backtracking in the steps of the sequential machine.
use Rattle.std.proofs.Common.{◌≡◌, ℕ, ◌-◌, ◌<◌, List, [], ◌∷◌, ◌++◌, length, Option, Some, None, slice_get, option_map, refl, sym, ap, ap₂, ◌∙◌, subst, arith}
use Rattle.au_model.specs.Terms.Named.{NamedTerm}
use Rattle.run_model.specs.Machine.Entries.{Entry, PlainEntry, CatchEntry, FindallEntry, EndEntry}
use Rattle.run_model.specs.Machine.FreeSteps.{take_free_steps}
use Rattle.cell_store.specs.StoreView.{Moment}
use Rattle.run_model.specs.Programs.Clauses.{Clause}
use Rattle.region_split.specs.Texts.{TextView}
use Rattle.region_split.specs.ChoicePoints.{RegionSetting, Standing, standing_over, nothing_standing, all_takes_left, HaveNoSolution}
use Rattle.region_split.specs.Regions.{RegionView, region_setting, entries_of, entries_on}
use Rattle.region_split.specs.StackOperations.{TakesNewest, TakesClause, TakesSolution, HasNoSolutionOnTop, trial_entries, solved_entries}
use Rattle.region_split.specs.Solutions.{SolutionView}
use Rattle.region_split.specs.SolutionTrials.{TriesSolution}
use Rattle.region_split.specs.ClauseTrials.{TriesClause, KeepsChoices, entries_at}
use Rattle.region_split.specs.Backtracking.{without_catches, Resumes, TakesFreeSteps, TakesNext}
use Rattle.binding_array.specs.declared.cell.BindingCell.{BindingCell}
use Rattle.region_split.specs.declared.choice.Alternatives.TheVariants.{Catch, Solutions}
use Rattle.region_split.specs.declared.choice.ChoicePoint.{ChoicePoint}
use Rattle.region_split.specs.declared.choice.Resumed.{Resumed}
use Rattle.region_split.specs.declared.choice.Resumed.TheVariants.{At, AllDone}
use Rattle.region_split.specs.declared.choice.Trial.{Trial}
use Rattle.region_split.specs.declared.frame.Position.{Position}
use Rattle.region_split.proofs.CallLemmas.{position_over}
use Rattle.region_split.proofs.CursorLemmas.{takes-append}

-- catches on top are dropped by free steps
past_catches : (es : List Entry) → take_free_steps es ≡ take_free_steps (without_catches es)
past_catches [] = refl
past_catches (CatchEntry c r f ∷ es) = past_catches es
past_catches (PlainEntry f ∷ es) = refl
past_catches (FindallEntry results l f ∷ es) = refl
past_catches (EndEntry b ∷ es) = refl

pub resumed_by_steps : (old r new : RegionView) (next : Resumed) → ((named : List NamedTerm) → without_catches (entries_of named old) ≡ without_catches (entries_of named r)) → Resumes r new next → TakesFreeSteps old new next
resumed_by_steps old r new next passed resumes named = past_catches (entries_of named old) ∙ ap take_free_steps (passed named ∙ resumes.entries named)

nothing_stands : (s : RegionSetting) (cs : List ChoicePoint) (ms : List Moment) → length cs ≡ 0 → (standing_over s nothing_standing cs ms).entries ≡ []
nothing_stands s [] ms e = refl
nothing_stands s (c ∷ cs) ms e = absurd (omega (arith, e))

pub all_done : (r : RegionView) → length r.choices ≡ 0 → Resumes r r AllDone
all_done r e = record { entries = λ named. ap without_catches (nothing_stands (region_setting named r) r.choices r.store.marks e); there = e }

-- a clause that was taken and tried
module _ (old r new : RegionView) (t : Trial) (cut : ℕ) (took : TakesClause old r t) (count : cut ≡ length old.choices - 1) (kept : KeepsChoices r new) where
  some_same : (x y : Clause) → Some x ≡ Some y → x ≡ y
  some_same x y e = cc

  same_clause : (reached : Option Position) (tried : TriesClause r new t cut reached) → took.clause ≡ tried.clause
  same_clause reached tried = some_same took.clause tried.clause (sym took.is ∙ (ap (λ (x : TextView). slice_get x.clauses t.clause) (sym took.text) ∙ tried.is))

  entries : (reached : Option Position) → TriesClause r new t cut reached → (named : List NamedTerm) → entries_of named old ≡ entries_at named new reached ++ entries_of named new
  entries reached tried named =
      took.entries named
      ∙ ap₂ (λ es fs. es ++ fs)
      (ap₂ (λ n c. trial_entries named r t n c) (sym count) (same_clause reached tried) ∙ tried.entries named)
      (ap (λ (st : Standing). st.entries) (sym (kept.stands named)))

  same_choices : new.choices ≡ r.choices
  same_choices = ap (λ (x : RegionView). x.choices) kept.others

  pub clause_resumes : (p : Position) → TriesClause r new t cut (Some p) → Resumes old new (At p)
  clause_resumes p tried = record {
    entries = λ named. ap without_catches (entries (Some p) tried named);
    there = position_over new cut (length new.choices) (Some p) (let m = took.many in let l = ap length same_choices in omega (arith, m, l, count)) tried.position;
  }

  pub clause_fails : TriesClause r new t cut None → TakesNext old new None
  clause_fails tried = (
    subst (λ (x : RegionView). all_takes_left x.text.heads x.choices < all_takes_left old.text.heads old.choices) (sym kept.others) took.fewer,
    λ named. ap without_catches (entries None tried named),
  )

-- what was taken off is less
pub newest_fewer : (old new : RegionView) (c : ChoicePoint) → TakesNewest old new c → all_takes_left new.text.heads new.choices < all_takes_left old.text.heads old.choices
newest_fewer old new c t =
    let long = ap (all_takes_left old.text.heads) t.choices ∙ takes-append old.text.heads new.choices (c ∷ []) in
    subst (λ x. all_takes_left x new.choices < all_takes_left old.text.heads old.choices) (sym (ap (λ (x : TextView). x.heads) t.text)) (omega (arith, long))

-- a catch whose goal has no solution left
pub catch_passed : (old r new : RegionView) (c : ChoicePoint) (catcher recovery : BindingCell) → r ≡ old → TakesNewest r new c → c.alternatives ≡ Catch catcher recovery → TakesNext old new None
catch_passed old r new c catcher recovery same t is =
    subst (λ x. TakesNext x new None) same (
      newest_fewer r new c t,
      λ named. ap without_catches (t.entries named ∙ ap (λ a. entries_on named new (record c { alternatives = a }) new.store.now ++ entries_of named new) is),
    )

-- a solution that was taken and tried
module _ (old r new : RegionView) (solution : SolutionView) (after : Position) (cut : ℕ) (took : TakesSolution old r solution after) (count : cut ≡ length old.choices - 1) where
  solution_entries_are : (reached : Option Position) → TriesSolution r new solution after cut reached → (named : List NamedTerm) → entries_of named old ≡ entries_at named new reached ++ entries_of named new
  solution_entries_are reached tried named = took.entries named ∙ ap₂ (λ es fs. es ++ fs) (ap (λ n. solved_entries named r solution n after) (sym count) ∙ tried.entries named) (ap (λ (st : Standing). st.entries) (sym (tried.stands named)))

  pub solution_resumes : (p : Position) → TriesSolution r new solution after cut (Some p) → Resumes old new (At p)
  solution_resumes p tried = record {
    entries = λ named. ap without_catches (solution_entries_are (Some p) tried named);
    there = position_over new cut (length new.choices) (Some p) (let m = took.many in let l = ap length tried.choices in omega (arith, m, l, count)) tried.position;
  }

  pub solution_fails : TriesSolution r new solution after cut None → TakesNext old new None
  solution_fails tried = (
    subst (λ (x : TextView). all_takes_left x.heads new.choices < all_takes_left old.text.heads old.choices) (sym tried.text)
        (subst (λ cs. all_takes_left r.text.heads cs < all_takes_left old.text.heads old.choices) (sym tried.choices) took.fewer),
    λ named. ap without_catches (solution_entries_are None tried named),
  )

-- solutions of which none is left
pub no_solution : (old mid r new : RegionView) (c : ChoicePoint) (left : List SolutionView) → mid ≡ old → HasNoSolutionOnTop mid → r ≡ mid → TakesNewest r new c → c.alternatives ≡ Solutions left → TakesNext old new None
no_solution old mid r new c left same none again t is =
    let empty : left ≡ [] = subst HaveNoSolution is (none new.choices c (ap (λ (x : RegionView). x.choices) (sym again) ∙ t.choices)) in
    subst (λ x. TakesNext x new None) (again ∙ same) (
      newest_fewer r new c t,
      λ named. ap without_catches (t.entries named ∙ ap (λ a. entries_on named new (record c { alternatives = a }) new.store.now ++ entries_of named new) (is ∙ ap Solutions empty)),
    )

-- what was reached, if anything was
pub clause_next : (old r new : RegionView) (t : Trial) (cut : ℕ) (reached : Option Position) (next : Option Resumed) → TakesClause old r t → cut ≡ length old.choices - 1 → KeepsChoices r new → TriesClause r new t cut reached → next ≡ option_map At reached → TakesNext old new next
clause_next old r new t cut None next took count kept tried e = subst (TakesNext old new) (sym e) (clause_fails old r new t cut took count kept tried)
clause_next old r new t cut (Some p) next took count kept tried e = subst (TakesNext old new) (sym e) (clause_resumes old r new t cut took count kept p tried)

pub solution_next : (old r new : RegionView) (solution : SolutionView) (after : Position) (cut : ℕ) (reached : Option Position) (next : Option Resumed) → TakesSolution old r solution after → cut ≡ length old.choices - 1 → TriesSolution r new solution after cut reached → next ≡ option_map At reached → TakesNext old new next
solution_next old r new solution after cut None next took count tried e = subst (TakesNext old new) (sym e) (solution_fails old r new solution after cut took count tried)
solution_next old r new solution after cut (Some p) next took count tried e = subst (TakesNext old new) (sym e) (solution_resumes old r new solution after cut took count p tried)
