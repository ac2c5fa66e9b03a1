use Rattle.std.proofs.Common.{◌≡◌, ◌+◌, None, Some, false, true, sym, subst, arith}
use Rattle.region_control.specs.Ahead.{LiesAhead}
use Rattle.region_control.specs.declared.ahead.Ahead.TheVariants.{Goal}
use Rattle.region_run.specs.Runs.{TakesCompound}
use Rattle.task_region.specs.TaskViews.{view_of_task}
use Rattle.task_region.specs.TaskRounds.{HasLooked, PassesRound, RunsOn}
use Rattle.task_region.proofs.CompoundRoundLemmas.{asked_there, call_round, compound_round, goal_round_from, here, looked, round_from, takes_own}
use Rattle.task_region.proofs.RunningLemmas.{IsRunning, one_more, stops_here}
use Rattle.task_region.proofs.running.run_on.Goals as goal
use Rattle.task_region.proofs.running.run_on.Goals.{in-Called, in-Goal+in_ok-position-in-Goal+in-GoesOn, In_ok-found}
use Rattle.task_region.proofs.running.run_on.Goals.{in-Nothing+in_ok-found-in-Nothing+in-Goal-2+in_ok-position-in-Goal-2+in-GoesOn-2}
use Rattle.task_region.proofs.running.run_on.Goals.{in-Nothing+in_ok-found-in-Nothing+in_default+in_ok-position-in_default+in-GoesOn-3}

pub after_goal-requires : goal.after_goal-requires
after_goal-requires c =
    let t = view_of_task c.loop-count.region c.args.task.now c.loop-count.next in
    let way = c.loop-count.invariant.0.way in
    let new = c.take_compound.new.region in
    let g = c.in-Goal in
    let takes = subst (TakesCompound t.region new t.next) g.is c.in_ok-position.ensures in
    asked_there (here t way new g.item g.place g.after takes) new g.item g.place g.after (takes_own t way new g.item g.place g.after takes)

pub returns-in-Stops : goal.returns-in-Stops
returns-in-Stops c =
    let old = view_of_task c.args.region.now c.args.task.now (Some c.args.start) in
    let t = view_of_task c.loop-count.region c.args.task.now c.loop-count.next in
    let way = c.loop-count.invariant.0.way in
    let new = c.take_compound.new.region in
    let last = c.after_goal.new.region in
    let g = c.in-Goal in
    let takes = subst (TakesCompound t.region new t.next) g.is c.in_ok-position.ensures in
    let next = c.in_ok-position-in-Goal.ensures (here t way new g.item g.place g.after takes) (takes_own t way new g.item g.place g.after takes) in
    let passes = subst (PassesRound t (view_of_task last c.args.task.now None) true) c.in-Stops.is (compound_round t way new g.item g.place g.after takes last c.in_ok-position-in-Goal.field-0 next) in
    subst (λ ran. RunsOn old (view_of_task last c.args.task.now c.in-Stops.position) c.args.limit ran) (sym c.ran.ensures)
    (stops_here old t c.loop-count.count c.loop-count.invariant.0 c.requires.way (view_of_task last c.args.task.now None) true c.in-Stops.stop c.in-Stops.position c.args.limit passes c.loop-count.invariant.1 (λ e. absurd cc) (λ e. c.loop-count-test.true))

pub pass_on-requires-clause-looked : goal.pass_on-requires-clause-looked
pass_on-requires-clause-looked c =
    let t = view_of_task c.loop-count.region c.args.task.now c.loop-count.next in
    let new = c.take_compound.new.region in
    let takes = subst (TakesCompound t.region new t.next) c.in-Nothing.is c.in_ok-position.ensures in
    let found = c.in_ok-found-in-Nothing in
    (new, c.in-Nothing.position, looked t new c.in-Nothing.position takes c.loop-count.invariant.0.way c.look_ahead.new.region c.in_ok-found-in-Nothing.found found.ensures.ahead found.ensures.text found.ensures.floor)

pub returns-in-Stops-2 : goal.returns-in-Stops-2
returns-in-Stops-2 c =
    let task = c.args.task.now in
    let old = view_of_task c.args.region.now task (Some c.args.start) in
    let t = view_of_task c.loop-count.region task c.loop-count.next in
    let new = c.take_compound.new.region in
    let mid = c.look_ahead.new.region in
    let last = c.take_goal.new.region in
    let g = c.in-Goal-2 in
    let takes = subst (TakesCompound t.region new t.next) c.in-Nothing.is c.in_ok-position.ensures in
    let found = c.in_ok-found-in-Nothing.ensures in
    let ahead = looked t new c.in-Nothing.position takes c.loop-count.invariant.0.way mid (Goal g.item g.place) (subst (LiesAhead new mid c.in-Nothing.position) g.is found.ahead) found.text found.floor in
    let passes = subst (PassesRound t (view_of_task last task None) true) c.in-Stops-2.is (goal_round_from t new c.in-Nothing.position takes mid last g.item g.place c.in_ok-position-in-Goal-2.field-0 ahead c.in_ok-position-in-Goal-2.ensures) in
    subst (λ ran. RunsOn old (view_of_task last task c.in-Stops-2.position) c.args.limit ran) (sym c.ran-in-Stops-2.ensures)
    (stops_here old t c.loop-count.count c.loop-count.invariant.0 c.requires.way (view_of_task last task None) true c.in-Stops-2.stop c.in-Stops-2.position c.args.limit passes c.loop-count.invariant.1 (λ e. absurd cc) (λ e. c.loop-count-test.true))

pub returns-in-Stops-3 : goal.returns-in-Stops-3
returns-in-Stops-3 c =
    let task = c.args.task.now in
    let old = view_of_task c.args.region.now task (Some c.args.start) in
    let t = view_of_task c.loop-count.region task c.loop-count.next in
    let new = c.take_compound.new.region in
    let last = c.pass_on.new.region in
    let takes = subst (TakesCompound t.region new t.next) c.in-Nothing.is c.in_ok-position.ensures in
    let found = c.in_ok-found-in-Nothing.ensures in
    let ahead = looked t new c.in-Nothing.position takes c.loop-count.invariant.0.way c.look_ahead.new.region c.in_ok-found-in-Nothing.found found.ahead found.text found.floor in
    let next = c.in_ok-position-in_default.ensures new c.in-Nothing.position ahead in
    let passes = subst (PassesRound t (view_of_task last task None) true) c.in-Stops-3.is (round_from t new c.in-Nothing.position takes last true c.in_ok-position-in_default.field-0 next) in
    subst (λ ran. RunsOn old (view_of_task last task c.in-Stops-3.position) c.args.limit ran) (sym c.ran-in-Stops-3.ensures)
    (stops_here old t c.loop-count.count c.loop-count.invariant.0 c.requires.way (view_of_task last task None) true c.in-Stops-3.stop c.in-Stops-3.position c.args.limit passes c.loop-count.invariant.1 (λ e. absurd cc) (λ e. c.loop-count-test.true))

pub loop-count-preserved : goal.loop-count-preserved
loop-count-preserved c =
    let task = c.args.task.now in
    let old = view_of_task c.args.region.now task (Some c.args.start) in
    let t = view_of_task c.loop-count.region task c.loop-count.next in
    let running = c.loop-count.invariant.0 in
    let n = c.loop-count.count in
    let new = c.take_compound.new.region in
    let m = c.match-branch-2 in
    let further : IsRunning old (view_of_task m.region task m.next) (n + 1) = elim m.branch [
      | in-Called w ↦
          let takes = subst (TakesCompound t.region new t.next) w.in-Called.is c.in_ok-position.ensures in
          subst (λ r. IsRunning old (view_of_task r task m.next) (n + 1)) (sym w.region-is)
          (subst (λ p. IsRunning old (view_of_task new task p) (n + 1)) (sym w.next-is)
          (one_more old t n running c.requires.way (view_of_task new task None) true w.in-Called.position (call_round t running.way new w.in-Called.position takes)))
      | in-Goal+in_ok-position-in-Goal+in-GoesOn w ↦
          let g = w.in-Goal in
          let last = w.after_goal.new.region in
          let takes = subst (TakesCompound t.region new t.next) g.is c.in_ok-position.ensures in
          let next = w.in_ok-position-in-Goal.ensures (here t running.way new g.item g.place g.after takes) (takes_own t running.way new g.item g.place g.after takes) in
          let passes = subst (PassesRound t (view_of_task last task None) true) w.in-GoesOn.is (compound_round t running.way new g.item g.place g.after takes last w.in_ok-position-in-Goal.field-0 next) in
          subst (λ r. IsRunning old (view_of_task r task m.next) (n + 1)) (sym w.region-is)
          (subst (λ p. IsRunning old (view_of_task last task p) (n + 1)) (sym w.next-is) (one_more old t n running c.requires.way (view_of_task last task None) true w.in-GoesOn.position passes))
      | in-Nothing+in_ok-found-in-Nothing+in-Goal-2+in_ok-position-in-Goal-2+in-GoesOn-2 w ↦
          let g = w.in-Goal-2 in
          let mid = w.look_ahead.new.region in
          let last = w.take_goal.new.region in
          let takes = subst (TakesCompound t.region new t.next) w.in-Nothing.is c.in_ok-position.ensures in
          let found = w.in_ok-found-in-Nothing.ensures in
          let ahead = looked t new w.in-Nothing.position takes running.way mid (Goal g.item g.place) (subst (LiesAhead new mid w.in-Nothing.position) g.is found.ahead) found.text found.floor in
          let passes = subst (PassesRound t (view_of_task last task None) true) w.in-GoesOn-2.is (goal_round_from t new w.in-Nothing.position takes mid last g.item g.place w.in_ok-position-in-Goal-2.field-0 ahead w.in_ok-position-in-Goal-2.ensures) in
          subst (λ r. IsRunning old (view_of_task r task m.next) (n + 1)) (sym w.region-is)
          (subst (λ p. IsRunning old (view_of_task last task p) (n + 1)) (sym w.next-is) (one_more old t n running c.requires.way (view_of_task last task None) true w.in-GoesOn-2.position passes))
      | in-Nothing+in_ok-found-in-Nothing+in_default+in_ok-position-in_default+in-GoesOn-3 w ↦
          let last = w.pass_on.new.region in
          let takes = subst (TakesCompound t.region new t.next) w.in-Nothing.is c.in_ok-position.ensures in
          let found = w.in_ok-found-in-Nothing.ensures in
          let ahead = looked t new w.in-Nothing.position takes running.way w.look_ahead.new.region w.in_ok-found-in-Nothing.found found.ahead found.text found.floor in
          let next = w.in_ok-position-in_default.ensures new w.in-Nothing.position ahead in
          let passes = subst (PassesRound t (view_of_task last task None) true) w.in-GoesOn-3.is (round_from t new w.in-Nothing.position takes last true w.in_ok-position-in_default.field-0 next) in
          subst (λ r. IsRunning old (view_of_task r task m.next) (n + 1)) (sym w.region-is)
          (subst (λ p. IsRunning old (view_of_task last task p) (n + 1)) (sym w.next-is) (one_more old t n running c.requires.way (view_of_task last task None) true w.in-GoesOn-3.position passes))
    ] in
    (further, let lt = c.loop-count-test.true in omega (arith, lt))

-- what is left ahead at the end
ahead_at_end : (c : In_ok-found) → HasLooked (view_of_task c.loop-count.region c.args.task.now c.loop-count.next) c.look_ahead-2.new.region c.in_ok-found.found
ahead_at_end c = record { way = c.loop-count.invariant.0.way; ahead = c.in_ok-found.ensures.ahead; text = c.in_ok-found.ensures.text; start = c.in_ok-found.ensures.floor }

pub pass_on-requires-2-clause-looked : goal.pass_on-requires-2-clause-looked
pass_on-requires-2-clause-looked c = (c.loop-count.region, c.loop-count.next, ahead_at_end (goal.at.pass_on-requires-2-clause-looked c).In_ok-found)

pub returns : goal.returns
returns c =
    let task = c.args.task.now in
    let old = view_of_task c.args.region.now task (Some c.args.start) in
    let t = view_of_task c.loop-count.region task c.loop-count.next in
    let last = c.pass_on-2.new.region in
    let all : c.loop-count.count ≡ c.args.limit = let le = c.loop-count.invariant.1 in let ge = c.loop-count-test.false in omega (arith, le, ge) in
    let next = c.in_ok-pass_on.ensures c.loop-count.region c.loop-count.next (ahead_at_end (goal.at.returns c).In_ok-found) in
    let passes = subst (PassesRound t (view_of_task last task None) false) c.in-Stops-4.is next in
    subst (λ ran. RunsOn old (view_of_task last task c.in-Stops-4.position) c.args.limit ran) (sym c.ran-in-Stops-4.ensures)
    (stops_here old t c.loop-count.count c.loop-count.invariant.0 c.requires.way (view_of_task last task None) false c.in-Stops-4.stop c.in-Stops-4.position c.args.limit passes c.loop-count.invariant.1 (λ e. all) (λ e. absurd cc))
