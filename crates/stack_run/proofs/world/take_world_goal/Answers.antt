use Rattle.stack_run.proofs.QueryLemmas.{only_goals_ask}
use Rattle.stack_run.proofs.StepLemmas.{goes_taken, goes_there, goes_so, halts_so}
use Rattle.stack_run.proofs.world.take_world_goal.Goals as goal

pub unreachable-requires : goal.unreachable-requires
unreachable-requires c = only_goals_ask c.args.machine.now.region c.args.item c.args.place c.requires.asks c.in_default.not-Goal

pub next_after-requires : goal.next_after-requires
next_after-requires c =
    goes_taken c.args.machine.now c.world_goal.new.region c.world_goal.new.world c.args.item c.in-Goal.goal c.args.place c.in-Goal.is c.requires.asks c.in_ok-after.field-0 c.in_ok-after.ensures.takes c.in-Goes.after c.in-Goes.is

pub returns-in-Goes-clause-steps : goal.returns-in-Goes-clause-steps
returns-in-Goes-clause-steps c =
    goes_so c.args.machine.now c.world_goal.new.region c.world_goal.new.world c.args.item c.in-Goal.goal c.args.place c.in-Goal.is c.requires.asks c.in_ok-after.field-0 c.in_ok-after.ensures.takes c.in-Goes.after c.next_after.result c.in-Goes.is c.next_after.ensures

pub returns-in-Goes-clause-there : goal.returns-in-Goes-clause-there
returns-in-Goes-clause-there c =
    goes_there c.args.machine.now c.world_goal.new.region c.world_goal.new.world c.args.item c.in-Goal.goal c.args.place c.in-Goal.is c.requires.asks c.in_ok-after.field-0 c.in_ok-after.ensures.takes c.in-Goes.after c.next_after.result c.in-Goes.is c.next_after.ensures

pub returns-in-Halted-clause-steps : goal.returns-in-Halted-clause-steps
returns-in-Halted-clause-steps c =
    halts_so c.args.machine.now c.world_goal.new.region c.world_goal.new.world c.args.item c.in-Goal.goal c.args.place c.in-Goal.is c.requires.asks c.in_ok-after.field-0 c.in_ok-after.ensures.takes c.in-Halted.status c.in-Halted.is
