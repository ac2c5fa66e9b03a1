-- The engine's steps over a bare floor.
use Rattle.std.proofs.Common.{◌≡◌, ◌⊎◌, inl, inr, ℕ, suc, ◌<◌, ◌≤◌, false, cond, nat_lt, List, [], ◌∷◌, length, Option, Some, None, refl, sym, ap, ◌∙◌, subst, arith}
use Rattle.au_term.proofs.LogicLemmas.{not_less}
use Rattle.au_term.specs.Term.{Term}
use Rattle.au_model.specs.Terms.Copies.{copied}
use Rattle.au_model.specs.Terms.Named.{NamedTerm}
use Rattle.run_model.specs.Goals.Outcomes.{Solutions, Ball, HaltNumber, ControlForm, CutToScope, GoesOnWith, EitherOf, TestOf, CatchOf, FindallOf, Controls, Outcome, Replies, AskWorld}
use Rattle.run_model.specs.Goals.GoalOutcomes.{outcome_of}
use Rattle.run_model.specs.Machine.Balls.{unwound}
use Rattle.run_model.specs.Machine.Entries.{Entry, PlainEntry, EndEntry}
use Rattle.run_model.specs.Machine.Heights.{after_reply, after_control}
use Rattle.run_model.specs.Machine.Items.{Continuation, first_mark}
use Rattle.tree_model.specs.Gates.{control_gate}
use Rattle.tree_model.specs.Nodes.{Gate, CutGate}
use Rattle.tree_model.specs.Floors.{node_of}
use Rattle.region_split.specs.ChoicePoints.{height_of_cut}
use Rattle.region_split.specs.Regions.{RegionView, entries_of, heights_of, continuation_here}
use Rattle.region_control.specs.Replies.{Leaves, LeavesOutcome}
use Rattle.region_control.specs.declared.control.GoalPlace.{GoalPlace}
use Rattle.region_control.specs.declared.replies.AfterGoal.{AfterGoal}
use Rattle.region_control.specs.declared.replies.AfterGoal.TheVariants.{At, Failed, Uncaught, AsksWorld}
use Rattle.region_floor.specs.BareFloors.{goal_entries}
use Rattle.region_floor.specs.RegionRuns.{RegionRun, StandsAfter, StandsAtGate, TakesGoal, AreOuter}
use Rattle.region_floor.proofs.OwnBallLemmas.{balls_land}
use Rattle.region_floor.proofs.RegionRunLemmas.{free_steps, control_stands, solutions_stand, ball_stands, ball_stops, cut_stops, world_stops, no_ball_is_left}
use Rattle.task_region.specs.EngineSteps.{LookingStands, InferenceStands, FloorCutStops, ComesToGoal, StandsBy, top_goal}
use Rattle.task_region.proofs.ChoiceEntryLemmas.{no_ball_stands}

pub looking_stands : LookingStands
looking_stands r k named old new start a h l = subst (StandsAfter r k) (l.entries named) (free_steps r k _ h)

module _ (r : RegionRun) (k : ℕ) (named : List NamedTerm) (old new : RegionView) (goal : Term) (g : GoalPlace) (outer : AreOuter r) where
  leaves : (after : AfterGoal) (stack : List NamedTerm → List Entry) → StandsAfter r (suc k) (stack named) → Leaves stack new after → StandsBy r k named new (top_goal named old goal g) after
  leaves (At p) stack h l = subst (StandsAfter r (suc k)) (l.0 named) h
  leaves Failed stack h l = subst (StandsAfter r (suc k)) (l named) h
  leaves (Uncaught ball) stack h l = absurd (no_ball_is_left r (suc k) ball.value [] (subst (StandsAfter r (suc k)) (l named) h))
  leaves AsksWorld stack h l = absurd l

  -- a ball that leaves no position lands nowhere
  fails : (b : Term) → TakesGoal r k (top_goal named old goal g) (Replies (Ball b))
      → unwound b (first_mark (continuation_here named old g.after).items) (entries_of named old) ≡ entries_of named new
      → ((f : Continuation ℕ) × (ds : List Entry) × (unwound b (first_mark (continuation_here named old g.after).items) (entries_of named old) ≡ PlainEntry f ∷ ds))
      ⊎ (unwound b (first_mark (continuation_here named old g.after).items) (entries_of named old) ≡ EndEntry (Some (copied b 0)) ∷ []) → StandsAfter r (suc k) (entries_of named new)
  fails b h l (inl e) = subst (StandsAfter r (suc k)) (sym e.2 ∙ l) (ball_stands r k (top_goal named old goal g) b outer h e.0 e.1 e.2)
  fails b h l (inr e) = absurd (no_ball_stands named new (copied b 0) [] (sym l ∙ e))

  outcome_stands : (o : Outcome) (after : AfterGoal) → TakesGoal r k (top_goal named old goal g) o
      → ((form : ControlForm) → o ≡ Controls form → control_gate r.levels form (height_of_cut (heights_of named old) g.cut) ≡ None)
      → LeavesOutcome old new o g after → StandsBy r k named new (top_goal named old goal g) after
  outcome_stands (Controls form) after h c l =
      leaves after (λ ns. after_control form (height_of_cut (heights_of ns old) g.cut) (continuation_here ns old g.after) (entries_of ns old))
      (control_stands r k (top_goal named old goal g) form h (c form refl)) l
  outcome_stands (Replies (Solutions ss)) after h c l =
      leaves after (λ ns. after_reply (Solutions ss) (continuation_here ns old g.after) (entries_of ns old)) (solutions_stand r k (top_goal named old goal g) ss h) l
  outcome_stands (Replies (HaltNumber n)) after h c l = absurd l
  outcome_stands (AskWorld asked) after h c l = subst (StandsBy r k named new (top_goal named old goal g)) (sym l.0) (world_stops r k (top_goal named old goal g) asked h)
  outcome_stands (Replies (Ball b)) (At p) h c l = ball_stands r k (top_goal named old goal g) b outer h _ _ (l.0 named)
  outcome_stands (Replies (Ball b)) (Uncaught ball) h c l = (b, ball_stops r k (top_goal named old goal g) b outer h (Some ball.value) (l named))
  outcome_stands (Replies (Ball b)) AsksWorld h c l = absurd l
  outcome_stands (Replies (Ball b)) Failed h c l =
      fails b h (l named) (balls_land b (first_mark (continuation_here named old g.after).items) (entries_of named old))

module _ (r : RegionRun) (k : ℕ) (named : List NamedTerm) (here : RegionView) (goal : Term) (g : GoalPlace) (w : ComesToGoal r k named here goal g) where
  abbrev outcome : Outcome
  outcome = outcome_of here.text.clauses goal here.store.now.next

  takes : TakesGoal r k (top_goal named here goal g) outcome
  takes = record { stands = w.stands; outcome = ap (λ cs. outcome_of cs goal here.store.now.next) w.clauses }

  -- above the floor no control construct is a gate
  no_gate : (outcome ≡ Controls CutToScope → length r.levels ≤ g.cut) → (form : ControlForm) → outcome ≡ Controls form
      → control_gate r.levels form (height_of_cut (heights_of named here) g.cut) ≡ None
  no_gate c CutToScope e =
      let high = w.over.above g.cut (c e) w.place.scope in
      let test : nat_lt (height_of_cut (heights_of named here) g.cut) (length r.levels) ≡ false = not_less _ _ high in
      ap (λ b. cond b (let gate : Option Gate = Some (CutGate (node_of r.levels (height_of_cut (heights_of named here) g.cut))) in gate) None) test
  no_gate c (GoesOnWith gs) e = refl
  no_gate c (EitherOf gs others) e = refl
  no_gate c (TestOf condition thens others) e = refl
  no_gate c (CatchOf guarded catcher recovery) e = refl
  no_gate c (FindallOf template collected list) e = refl

  pub cut_to_floor : outcome ≡ Controls CutToScope → g.cut < length r.levels → StandsAtGate r k (goal_entries (top_goal named here goal g)) (CutGate (node_of r.levels g.cut))
  cut_to_floor is low =
      let height = w.over.below g.cut (omega (arith, low)) in
      subst (λ h. StandsAtGate r k (goal_entries (top_goal named here goal g)) (CutGate (node_of r.levels h))) height
      (cut_stops r k (top_goal named here goal g) (record { stands = w.stands; outcome = takes.outcome ∙ is }) (omega (arith, height, low)))

pub inference_stands : InferenceStands
inference_stands r k named old new goal g after w c l =
    outcome_stands r k named old new goal g w.outer (outcome_of old.text.clauses goal old.store.now.next) after (takes r k named old goal g w) (no_gate r k named old goal g w c) l

pub floor_cut_stops : FloorCutStops
floor_cut_stops r k named here goal g w is low = cut_to_floor r k named here goal g w is low
