use Rattle.std.proofs.Common.{arith}
use Rattle.stack_run.proofs.StepLemmas.{query_opens, none_opens}
use Rattle.stack_run.proofs.query.ask_next.Goals as goal

pub returns-clause-opens : goal.returns-clause-opens
returns-clause-opens c =
    let program = c.args.program.now in
    let m = c.args.machine.now in
    query_opens program m c.index.result.now c.in_ok-region.region c.in_ok-region.position (omega (arith, c.if-machine-len.false, c.len.ensures, program.queries.ok.0)) c.index.ensures c.in_ok-region.ensures.entries
