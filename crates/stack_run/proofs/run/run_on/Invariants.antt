use Rattle.std.proofs.Common.{◌≤◌, ◌-◌}
use Rattle.effect_gate.specs.Effects.{world_meant}
use Rattle.stack_run.specs.MachineView.{program_job}
use Rattle.stack_run.proofs.RunLemmas.{IsRunning}
use Rattle.stack_run.proofs.run.run_on.Given as goal

abbrev pub invariant-loop-ran : goal.invariant-loop-ran
invariant-loop-ran g l =
    IsRunning (program_job l.program (world_meant l.fn.machine.world)) l.program l.machine l.next l.taken l.waiting.bytes.items (g.K.Sink.taken l.fn.out) (g.K.Sink.taken l.out) (g.K.Sink.faults l.fn.out) (g.K.Sink.faults l.out) × (l.taken ≤ l.budget)

abbrev pub decreases-loop-ran : goal.decreases-loop-ran
decreases-loop-ran g l = l.budget - l.taken
