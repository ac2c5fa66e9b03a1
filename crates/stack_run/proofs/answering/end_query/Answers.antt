use Rattle.std.proofs.Common.{ap}
use Rattle.effect_gate.specs.Effects.{world_meant}
use Rattle.region_run.specs.declared.running.Stop.TheVariants.{QueryDone}
use Rattle.region_split.proofs.CallLemmas.{if_ok_then}
use Rattle.stack_run.specs.MachineView.{OpensNext, IsOneStep}
use Rattle.stack_run.proofs.StepLemmas.{query_ends}
use Rattle.stack_run.proofs.answering.end_query.Goals as goal

pub returns-clause-steps : goal.returns-clause-steps
returns-clause-steps c =
    let program = c.args.program.now in
    let m = c.args.machine.now in
    let w1 = record m.world { out = c.push_end.new.line } in
    let new = c.ask_next.new.machine in
    if_ok_then (OpensNext program (record m { world = w1 }) new) (IsOneStep program m (QueryDone c.args.ball) new) c.ask_next.result
    (λ next o. query_ends program m new w1 c.args.ball next (ap (λ bytes. record (world_meant m.world) { written = bytes }) c.in_ok-push_end.ensures) o) c.ask_next.ensures.opens
