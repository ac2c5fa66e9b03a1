-- What goes on after a goal of the world.
use Rattle.std.proofs.Common.{◌≡◌, ℕ, ◌+◌, List, [], ◌∷◌, ◌++◌, length, map, Option, Some, None, refl, sym, ap, ◌∙◌, subst, arith}
use Rattle.au_model.specs.Terms.Named.{NamedTerm}
use Rattle.au_model.specs.Terms.Unifier.{unifier}
use Rattle.run_model.specs.Goals.Outcomes.{Reply, Replies, Solutions, Solution}
use Rattle.run_model.specs.Goals.WorldConstructs.{holds_once}
use Rattle.run_model.specs.Machine.Entries.{Entry, PlainEntry}
use Rattle.run_model.specs.Machine.Heights.{after_reply}
use Rattle.run_model.specs.Machine.Items.{Continuation}
use Rattle.region_split.specs.ClauseTrials.{entries_at, IsOptionalPosition}
use Rattle.region_split.specs.Regions.{RegionView, entries_of, continuation_here}
use Rattle.region_split.specs.Solutions.{SolutionView}
use Rattle.region_split.specs.SolutionTrials.{Solves}
use Rattle.region_split.specs.StackOperations.{solution_here}
use Rattle.region_split.specs.declared.frame.Position.{Position}
use Rattle.region_split.proofs.TrialLemmas.{same_parts, items_same, named_same}
use Rattle.region_control.specs.Controls.{IsGoalPlace}
use Rattle.region_control.specs.Replies.{Leaves, LeavesOutcome}
use Rattle.region_control.specs.declared.control.GoalPlace.{GoalPlace}
use Rattle.region_control.specs.declared.replies.AfterGoal.{AfterGoal}
use Rattle.region_control.specs.declared.replies.AfterGoal.TheVariants.{At, Failed, Uncaught, AsksWorld}
use Rattle.region_control.proofs.ControlLemmas.{place_in}
use Rattle.region_world.specs.WorldAnswers.{AreOfReply}

-- to hold once is to go on
once_goes_on : (f : Continuation ℕ) (es : List Entry) → after_reply holds_once f es ≡ PlainEntry f ∷ es
unfolding unifier
once_goes_on f es = ap (λ g. PlainEntry g ∷ es) (same_parts (items_same f.items) (named_same f.named) (let e : f.next + 0 ≡ f.next = omega arith in e))

module _ (r : RegionView) (place : GoalPlace) where
  -- the same reply
  pub replied_as : (new : RegionView) (reply other : Reply) (after : AfterGoal) → reply ≡ other → LeavesOutcome r new (Replies other) place after → LeavesOutcome r new (Replies reply) place after
  replied_as new reply other after e l = subst (λ x. LeavesOutcome r new (Replies x) place after) (sym e) l

  pub once : (at : IsGoalPlace r place) (reply : Reply) → reply ≡ holds_once → LeavesOutcome r r (Replies reply) place (At place.after)
  once at reply e = replied_as r reply holds_once (At place.after) e ((λ named. once_goes_on (continuation_here named r place.after) (entries_of named r)), place_in r place at)

  pub none : (reply : Reply) → reply ≡ Solutions [] → LeavesOutcome r r (Replies reply) place Failed
  none reply e = replied_as r reply (Solutions []) Failed e (λ named. refl)

  module _ (new : RegionView) where
    -- solutions that were tried
    module _ (solutions : List SolutionView) (p : Option Position) (solves : Solves r new solutions place.after p) where
      pub solved_at : (q : Position) → p ≡ Some q → LeavesOutcome r new (Replies (Solutions (map (solution_here r) solutions))) place (At q)
      solved_at q e = ((λ named. solves.entries named ∙ ap (λ o. entries_at named new o ++ entries_of named new) e), subst (IsOptionalPosition new (length new.choices)) e solves.position)

      pub solved_none : p ≡ None → LeavesOutcome r new (Replies (Solutions (map (solution_here r) solutions))) place Failed
      solved_none e = λ named. solves.entries named ∙ ap (λ o. entries_at named new o ++ entries_of named new) e

    leaves_equal : (p q : List NamedTerm → List Entry) (after : AfterGoal) → ((named : List NamedTerm) → p named ≡ q named) → Leaves q new after → Leaves p new after
    leaves_equal p q (At x) e l = ((λ named. e named ∙ l.0 named), l.1)
    leaves_equal p q Failed e l = λ named. e named ∙ l named
    leaves_equal p q (Uncaught ball) e l = λ named. e named ∙ l named
    leaves_equal p q AsksWorld e l = absurd l

    -- those that leave what a reply leaves
    pub reply_leaves : (solutions : List Solution) (reply : Reply) (after : AfterGoal) → AreOfReply solutions reply → LeavesOutcome r new (Replies (Solutions solutions)) place after → LeavesOutcome r new (Replies reply) place after
    reply_leaves solutions reply after h l =
        replied_as new reply (Solutions h.all) after h.replies
        (leaves_equal (λ named. after_reply (Solutions h.all) (continuation_here named r place.after) (entries_of named r)) (λ named. after_reply (Solutions solutions) (continuation_here named r place.after) (entries_of named r)) after
        (λ named. let es = entries_of named r in ap (λ xs. xs ++ es) (h.leave (length es) (continuation_here named r place.after)))
        l)
