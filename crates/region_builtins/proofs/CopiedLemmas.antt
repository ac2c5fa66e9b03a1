-- A goal in whose place a term was copied in.
use Rattle.std.proofs.Common.{◌≡◌, ℕ, ◌≤◌, [], ◌∷◌, List, length, None, sym, ap, ap₂, ◌∙◌, subst}
use Rattle.au_term.specs.Term.{Term}
use Rattle.au_model.specs.Terms.Named.{NamedTerm}
use Rattle.au_model.specs.Terms.Substitutions.{resolve}
use Rattle.run_model.specs.Goals.BuiltinAnswers.{equal}
use Rattle.run_model.specs.Goals.Outcomes.{Solution, Solutions}
use Rattle.run_model.specs.Machine.Items.{Continuation}
use Rattle.run_model.specs.Machine.Entries.{Entry}
use Rattle.run_model.specs.Machine.Heights.{after_reply}
use Rattle.binding_array.specs.declared.cell.BindingCell.{BindingCell}
use Rattle.cell_store.specs.StoreView.{AddsText, IsValueIn, meaning}
use Rattle.region_split.specs.ChoicePoints.{Standing}
use Rattle.region_split.specs.Regions.{RegionView, entries_of, continuation_here}
use Rattle.region_split.specs.StackOperations.{StaysStanding}
use Rattle.region_split.proofs.StoreLemmas.{goes_on_there}
use Rattle.region_control.specs.Controls.{IsGoalPlace}
use Rattle.region_control.specs.Replies.{Leaves}
use Rattle.region_control.specs.declared.control.GoalPlace.{GoalPlace}
use Rattle.region_control.specs.declared.replies.AfterGoal.{AfterGoal}
use Rattle.region_control.proofs.ReplyLemmas.{leaves_same}
use Rattle.region_builtins.specs.QuickAnswers.{AnswersIn}

-- what comes after two terms that are made one
abbrev after_equal : Term → Term → Continuation ℕ → List Entry → List Entry
after_equal t u f es = after_reply (Solutions ((let s : Solution = record { equations = (t, u) ∷ []; goals = []; removes = None; variables = 0 } in s) ∷ [])) f es

module _ (r r1 : RegionView) (place : GoalPlace) (at : IsGoalPlace r place) (adds : AddsText r.store r1.store) (stays : StaysStanding r r1) where
  pub place_still : IsGoalPlace r1 place
  place_still = record {
    scope = subst (λ (x : RegionView). place.cut ≤ length x.choices) (sym stays.others) at.scope;
    after = stays.position place.cut place.after at.after;
  }

  pub means_still : (c : BindingCell) → IsValueIn r.store c → meaning r1.store c ≡ meaning r.store c
  means_still c there = ap₂ resolve adds.bound (adds.values c there).1

  -- then two terms were made one
  pub equal_after : (r2 : RegionView) (a b t u : Term) (after : AfterGoal) → a ≡ t → b ≡ u → AnswersIn r1 r2 (equal a b) place after → AnswersIn r r2 (equal t u) place after
  equal_after r2 a b t u after left right k name arity =
      leaves_same (λ named. after_equal a b (continuation_here named r1 place.after) (entries_of named r1)) (λ named. after_equal t u (continuation_here named r place.after) (entries_of named r)) r2 after same (k name arity)
    where
      same : (named : List NamedTerm) → after_equal t u (continuation_here named r place.after) (entries_of named r) ≡ after_equal a b (continuation_here named r1 place.after) (entries_of named r1)
      same named =
          ap₂ (λ v w. after_equal v w (continuation_here named r place.after) (entries_of named r)) (sym left) (sym right)
          ∙ ap₂ (after_equal a b) (sym (goes_on_there r r1 adds stays place.cut place.after at.after named)) (sym (ap (λ (st : Standing). st.entries) (stays.stands named)))
