-- Rounds in which a compound that stood first was taken, or none did.
use Rattle.std.proofs.Common.{◌≡◌, ℕ, ◌<◌, Bool, true, List, Option, Some, None, IsSomeAnd, refl, sym, subst, arith}
use Rattle.au_term.specs.Term.{Term, argument_count}
use Rattle.au_model.specs.Terms.Named.{NamedTerm}
use Rattle.region_split.specs.Regions.{RegionView}
use Rattle.region_split.specs.declared.frame.FrameItem.{FrameItem}
use Rattle.region_split.specs.declared.frame.Position.{Position}
use Rattle.region_control.specs.Ahead.{IsGoalThere, LiesAhead}
use Rattle.region_control.specs.declared.ahead.Ahead.{Ahead}
use Rattle.region_control.specs.declared.ahead.Ahead.TheVariants.{Goal}
use Rattle.region_control.specs.declared.control.GoalPlace.{GoalPlace}
use Rattle.region_control.specs.declared.replies.AfterGoal.{AfterGoal}
use Rattle.region_control.specs.declared.replies.AfterGoal.TheVariants.{At, Failed, AsksWorld}
use Rattle.region_run.specs.Inferences.{item_goal}
use Rattle.region_run.specs.Runs.{TakesCall, TakesCompoundFirst, TakesNothing}
use Rattle.region_floor.specs.RegionRuns.{RegionRun, StandsAfter}
use Rattle.task_region.specs.CutGoals.{IsCutCall}
use Rattle.task_region.specs.TaskViews.{TaskView, carried}
use Rattle.task_region.specs.TaskStandings.{StandsOnRun, IsUnderWay}
use Rattle.task_region.specs.TaskStops.{SameTask}
use Rattle.task_region.specs.TaskRounds.{HasLooked, LooksAhead, TakesGoalNext, TakesOwnGoal, PassesRound}
use Rattle.task_region.specs.declared.ahead.TaskAhead.TheVariants as ahead
use Rattle.task_region.specs.declared.rounds.TaskRound.{TaskRound}
use Rattle.task_region.specs.declared.rounds.TaskRound.TheVariants.{GoesOn}
use Rattle.task_region.proofs.AheadLemmas.{changed_to, goal_ahead}
use Rattle.task_region.proofs.RoundLemmas.{goes_on_at, fails_on, same_region}
use Rattle.task_region.proofs.RunningLemmas.{goal_round, same_twice}
use Rattle.task_region.proofs.StandingRunLemmas.{own_run_of}

-- a goal that has arguments is no cut
uncut_by_arguments : (goal : Option Term) → IsSomeAnd goal (λ g. 0 < argument_count g) → IsSomeAnd goal IsCutCall → ⊥
uncut_by_arguments None some cut = absurd cut
uncut_by_arguments (Some g) some cut = let none = cut.1.1 in absurd (omega (arith, some, none))

-- the world is asked where nothing has changed
pub asked_there : (t : TaskView) (new : RegionView) (item : FrameItem) (g : GoalPlace) (after : AfterGoal) → TakesOwnGoal t new item g after → after ≡ AsksWorld → IsGoalThere new item g
asked_there t new item g after w e =
    subst (λ (r : RegionView). IsGoalThere r item g) (sym (same_region t item g w.there w.deferred w.ends w.marks new after w.infers w.uncut w.text w.start e)) w.there

-- a compound was taken
module _ (t : TaskView) (way : IsUnderWay t) (new : RegionView) (item : FrameItem) (g : GoalPlace) (after : AfterGoal) (takes : TakesCompoundFirst t.region new t.next item g after) where
  abbrev pub here : TaskView
  here = changed_to t takes.first.between

  pub takes_own : TakesOwnGoal here new item g after
  takes_own = record {
    there = takes.first.ahead.there;
    infers = takes.first.infers;
    uncut = λ low cut. uncut_by_arguments (item_goal takes.first.between.store item) takes.arguments cut;
    deferred = way.deferred;
    ends = takes.ends;
    marks = takes.marks;
    text = takes.first.text;
    start = takes.first.floor;
  }

  looks : LooksAhead t here (ahead.Goal item g)
  looks = goal_ahead t takes.first.between takes.first.kept takes.first.stayed item g takes.first.ahead

  pub compound_round : (last : RegionView) (round : TaskRound) → TakesGoalNext here (changed_to here last) item g true round → PassesRound t (changed_to t last) true round
  compound_round last round n = goal_round t takes.first.between last item g true round looks n

-- a call was taken
pub call_round : (t : TaskView) (way : IsUnderWay t) (new : RegionView) (next : Option Position) → TakesCall t.region new t.next next → PassesRound t (changed_to t new) true (GoesOn next)
call_round t way new (Some p) c =
    let w = takes_own t way new c.item c.place (At p) c.call in
    compound_round t way new c.item c.place (At p) c.call new (GoesOn (Some p))
    (goes_on_at (here t way new c.item c.place (At p) c.call) c.item c.place w.there w.deferred w.ends w.marks new (At p) w.infers w.uncut w.text w.start p refl)
call_round t way new None c =
    let w = takes_own t way new c.item c.place Failed c.call in
    compound_round t way new c.item c.place Failed c.call new (GoesOn None)
    (fails_on (here t way new c.item c.place Failed c.call) c.item c.place w.there w.deferred w.ends w.marks new Failed w.infers w.uncut w.text w.start refl)

-- nothing was taken
module _ (t : TaskView) (new : RegionView) (next : Option Position) (n : TakesNothing t.region new t.next next) where
  abbrev moved : TaskView
  moved = record t { region = new; next = next }

  same : SameTask t moved
  same = record { text = n.text; start = n.floor; floor = refl; variables = refl; deferred = refl }

  stands_still : (r : RegionRun) (k : ℕ) (named : List NamedTerm) → StandsOnRun r k named t → StandsOnRun r k named moved
  stands_still r k named s = record { own = own_run_of r named t moved same s.own; stands = subst (StandsAfter r k) (n.goes.entries (carried named t.deferred)) s.stands }

  pub under_way_still : IsUnderWay t → IsUnderWay moved
  under_way_still way = record {
    deferred = way.deferred;
    next = n.goes.there;
    run = record { run = way.run.run; inferences = way.run.inferences; named = way.run.named; stands = stands_still way.run.run way.run.inferences way.run.named way.run.stands };
  }

  pub round_from : (last : RegionView) (more : Bool) (round : TaskRound) → PassesRound moved (changed_to moved last) more round → PassesRound t (changed_to t last) more round
  round_from last more round p = record {
    stands = λ r k named s. p.stands r k named (stands_still r k named s);
    there = p.there;
    same = same_twice t moved (changed_to moved last) same p.same;
  }

  -- and it was looked ahead from there
  pub looked : IsUnderWay t → (r1 : RegionView) (found : Ahead) → LiesAhead new r1 next found → r1.text ≡ new.text → r1.store.floor ≡ new.store.floor → HasLooked moved r1 found
  looked way r1 found l text floor = record { way = under_way_still way; ahead = l; text = text; start = floor }

  pub goal_round_from : (r1 last : RegionView) (item : FrameItem) (g : GoalPlace) (round : TaskRound) → HasLooked moved r1 (Goal item g)
      → TakesGoalNext (changed_to moved r1) (changed_to moved last) item g true round → PassesRound t (changed_to t last) true round
  goal_round_from r1 last item g round h takes =
      round_from last true round (goal_round moved r1 last item g true round (goal_ahead moved r1 h.text h.start item g h.ahead) takes)
