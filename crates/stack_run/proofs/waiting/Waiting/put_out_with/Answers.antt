use Rattle.stack_run.proofs.WaitingLemmas.{on_err, front_after}
use Rattle.stack_run.proofs.waiting.Waiting.put_out_with.Goals as goal

pub returns-clause-err : goal.returns-clause-err
returns-clause-err g c = on_err c.write_all.result (front_after _ _ _ c.args.self.now.bytes.items c.args.written.now c.in_ok-put_out.ensures.ok) c.write_all.ensures.err
