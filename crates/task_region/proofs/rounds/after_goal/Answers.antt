use Rattle.std.proofs.Common.{None, sym, subst, true}
use Rattle.task_region.specs.TaskRounds.{TakesGoalNext}
use Rattle.task_region.specs.declared.rounds.TaskRound.TheVariants.{Stops}
use Rattle.task_region.specs.declared.running.TaskStop.TheVariants.{Ball}
use Rattle.task_region.proofs.AheadLemmas.{changed_to}
use Rattle.task_region.proofs.RoundLemmas.{goes_on_at, fails_on, ball_falls, world_stops}
use Rattle.task_region.proofs.rounds.after_goal.Goals as goal

pub returns-in-At : goal.returns-in-At
returns-in-At c t w =
    goes_on_at t c.args.item c.args.place w.there w.deferred w.ends w.marks c.args.region.now c.args.after w.infers w.uncut w.text w.start c.in-At.position c.in-At.is

pub returns-in-Failed : goal.returns-in-Failed
returns-in-Failed c t w = fails_on t c.args.item c.args.place w.there w.deferred w.ends w.marks c.args.region.now c.args.after w.infers w.uncut w.text w.start c.in-Failed.is

pub returns-in-Uncaught : goal.returns-in-Uncaught
returns-in-Uncaught c t w =
    subst (λ ball. TakesGoalNext t (changed_to t c.args.region.now) c.args.item c.args.place true (Stops (Ball ball) None)) (sym c.into_inner.ensures)
    (ball_falls t c.args.item c.args.place w.there w.deferred w.ends w.marks c.args.region.now c.args.after w.infers w.uncut w.text w.start c.in-Uncaught.ball c.in-Uncaught.is)

pub returns-in_ok-position-in-AsksWorld : goal.returns-in_ok-position-in-AsksWorld
returns-in_ok-position-in-AsksWorld c t w =
    world_stops t c.args.item c.args.place w.there w.deferred w.ends w.marks c.args.region.now c.args.after w.infers w.uncut w.text w.start true c.in-AsksWorld.is
    c.leave_goal.new.region c.in_ok-position-in-AsksWorld.position c.in_ok-position-in-AsksWorld.ensures
