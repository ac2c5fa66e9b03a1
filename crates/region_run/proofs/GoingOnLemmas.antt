-- What goes on where the newest choice point has a clause next.
use Rattle.std.proofs.Common.{◌≡◌, ℕ, ◌-◌, ◌++◌, length, Option, Some, None, slice_get, sym, ap, ap₂, ◌∙◌, arith}
use Rattle.run_model.specs.Machine.FreeSteps.{take_free_steps}
use Rattle.run_model.specs.Programs.Clauses.{Clause}
use Rattle.region_split.specs.ChoicePoints.{Standing}
use Rattle.region_split.specs.ClauseTrials.{TriesClause, KeepsChoices}
use Rattle.region_split.specs.Regions.{RegionView}
use Rattle.region_split.specs.StackOperations.{TakesClause, trial_entries}
use Rattle.region_split.specs.Texts.{TextView}
use Rattle.region_split.specs.declared.choice.Trial.{Trial}
use Rattle.region_split.specs.declared.frame.FrameItem.{FrameItem}
use Rattle.region_split.specs.declared.frame.Position.{Position}
use Rattle.region_split.proofs.CallLemmas.{position_over}
use Rattle.region_control.specs.Ahead.{LiesAhead}
use Rattle.region_control.specs.declared.ahead.Ahead.{Ahead}
use Rattle.region_control.specs.declared.ahead.Ahead.TheVariants.{Goal}
use Rattle.region_control.specs.declared.control.GoalPlace.{GoalPlace}
use Rattle.region_control.specs.declared.replies.AfterGoal.{AfterGoal}
use Rattle.region_run.specs.Inferences.{InfersItem}
use Rattle.region_run.specs.Runs.{GoesOnFrom, TakesFirst, TakesNothing}

some_same : (x y : Clause) → Some x ≡ Some y → x ≡ y
some_same x y e = cc

-- a clause that was taken off and tried
module _ (old r new : RegionView) (t : Trial) (cut : ℕ) (took : TakesClause old r t) (count : cut ≡ length old.choices - 1) (kept : KeepsChoices r new) (reached : Option Position) (tried : TriesClause r new t cut reached) where
  same_clause : took.clause ≡ tried.clause
  same_clause = some_same took.clause tried.clause (sym took.is ∙ (ap (λ (x : TextView). slice_get x.clauses t.clause) (sym took.text) ∙ tried.is))

  same_choices : new.choices ≡ r.choices
  same_choices = ap (λ (x : RegionView). x.choices) kept.others

  pub tried_next : GoesOnFrom old new None reached
  tried_next = record {
    entries = λ named.
        took.entries named
        ∙ ap₂ (λ es fs. es ++ fs)
        (ap₂ (λ n c. trial_entries named r t n c) (sym count) same_clause ∙ tried.entries named)
        (ap (λ (st : Standing). st.entries) (sym (kept.stands named)));
    there = position_over new cut (length new.choices) reached (let m = took.many in let l = ap length same_choices in omega (arith, m, l, count)) tried.position;
  }

-- what lies ahead of where a region goes on lies ahead of it
pub lies_further : (old r between : RegionView) (start next : Option Position) (a : Ahead) → GoesOnFrom old r start next → LiesAhead r between next a → LiesAhead old between start a
lies_further old r between start next a goes l = record { entries = λ named. ap take_free_steps (goes.entries named) ∙ l.entries named; there = l.there }

-- a goal that lay ahead there was taken
pub takes_ahead : (old r between new : RegionView) (start next : Option Position) (i : FrameItem) (g : GoalPlace) (after : AfterGoal) → TakesNothing old r start next
    → LiesAhead r between next (Goal i g) → between.text ≡ r.text → between.store.floor ≡ r.store.floor
    → InfersItem between new i g after → new.text ≡ between.text → new.store.floor ≡ between.store.floor → TakesFirst old new start i g after
takes_ahead old r between new start next i g after h l kept stayed infers text floor = record {
  between = between;
  ahead = lies_further old r between start next (Goal i g) h.goes l;
  kept = kept ∙ h.text;
  stayed = stayed ∙ h.floor;
  infers = infers;
  text = text;
  floor = floor;
}
