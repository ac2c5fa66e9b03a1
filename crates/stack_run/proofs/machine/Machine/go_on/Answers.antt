use Rattle.std.proofs.Common.{sym, subst}
use Rattle.region_split.proofs.CallLemmas.{if_ok_then}
use Rattle.region_run.specs.Runs.{Runs}
use Rattle.stack_run.specs.MachineView.{ComesTo}
use Rattle.stack_run.proofs.MachineLemmas.{ran_to}
use Rattle.stack_run.proofs.machine.Machine.go_on.Goals as goal

pub returns-in-Runs-clause-comes : goal.returns-in-Runs-clause-comes
returns-in-Runs-clause-comes c =
    let m = c.args.self.now in
    let r1 = c.run.new.region in
    if_ok_then (Runs m.region r1 c.in-Runs.start c.args.limit) (ComesTo m (record m { region = r1 }) c.args.next c.args.limit) c.run.result
    (λ ran h. subst (λ next. ComesTo m (record m { region = r1 }) next c.args.limit ran) (sym c.in-Runs.is) (ran_to m r1 c.in-Runs.start c.args.limit ran h)) c.run.ensures.runs
