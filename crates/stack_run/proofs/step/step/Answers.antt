use Rattle.std.proofs.Common.{sym, subst}
use Rattle.region_run.specs.declared.running.Stop.TheVariants.{World, Removal}
use Rattle.region_split.proofs.CallLemmas.{if_ok_then}
use Rattle.stack_run.specs.MachineView.{IsOneStep}
use Rattle.stack_run.specs.declared.machine.Program.{Program}
use Rattle.stack_run.proofs.step.step.Goals as goal

pub returns-in-World-clause-steps : goal.returns-in-World-clause-steps
returns-in-World-clause-steps c =
    let program = c.args.program.now in
    let m = c.args.machine.now in
    let new = c.take_world_goal.new.machine in
    if_ok_then (λ next. (p : Program) → IsOneStep p m (World c.in-World.item c.in-World.place) new next) (IsOneStep program m c.args.stop new) c.take_world_goal.result
    (λ next h. subst (λ s. IsOneStep program m s new next) (sym c.in-World.is) (h program)) c.take_world_goal.ensures.steps

pub returns-in-Removal-clause-steps : goal.returns-in-Removal-clause-steps
returns-in-Removal-clause-steps c =
    let program = c.args.program.now in
    let m = c.args.machine.now in
    let new = c.take_removal.new.machine in
    if_ok_then (λ next. (p : Program) → IsOneStep p m (Removal c.in-Removal.number c.in-Removal.after) new next) (IsOneStep program m c.args.stop new) c.take_removal.result
    (λ next h. subst (λ s. IsOneStep program m s new next) (sym c.in-Removal.is) (h program)) c.take_removal.ensures.steps
