use Rattle.std.proofs.Common.{◌≡◌, ◌+◌, ◌-◌, ◌<◌, ◌≤◌, ◌++◌, Bool, true, false, [], ap, sym, subst, ◌∙◌, arith}
use Rattle.effect_gate.specs.Effects.{world_meant}
use Rattle.run_model.specs.Machine.Runs.{ending_by}
use Rattle.stack_run.specs.MachineView.{program_job, next_halt}
use Rattle.au_io.specs.FaultCounts.{AppendedPrefix}
use Rattle.stack_run.specs.Pieces.{PutsOut}
use Rattle.stack_run.specs.RunEnds.{IsRun}
use Rattle.stack_run.proofs.RunLemmas.{begun, comes_to, cut_short, unwritten, closed, finished, stopped, is_left, taken_next, few_answers, not_halted, IsLeft, unwritten_next, goes_on, HasStopped}
use Rattle.stack_run.proofs.run.run_on.Goals.{in-AllDone, in_default-matches}
use Rattle.stack_run.proofs.run.run_on.Goals as goal

true_false : {b : Bool} → b ≡ true → b ≡ false → ⊥
true_false p q = cc

pub loop-ran-init : goal.loop-ran-init
loop-ran-init g c = (begun c.args.program.now c.args.machine.now c.args.next c.new-waiting.result.bytes.items (g.K.Sink.taken c.args.out.now) (g.K.Sink.faults c.args.out.now) c.new-waiting.ensures c.requires.begins c.requires.statics, omega arith)

pub returns-in_default-clause-run : goal.returns-in_default-clause-run
returns-in_default-clause-run g c =
    let job = program_job c.args.program.now (world_meant c.args.machine.now.world) in
    let r = c.loop-ran.invariant.0.out in
    closed job c.args.budget c.loop-ran.waiting.bytes.items (g.K.Sink.taken c.args.out.now) (g.K.Sink.taken c.loop-ran.out) (g.K.Sink.taken c.close.new.out) c.failed.result c.close.result c.close.ensures.closed
    (λ out. subst (IsRun job c.args.budget (g.K.Sink.taken c.args.out.now) (g.K.Sink.taken c.close.new.out)) (sym c.failed.ensures)
    (cut_short job c.args.program.now c.loop-ran.machine c.loop-ran.taken c.args.budget c.loop-ran.waiting.bytes.items (g.K.Sink.taken c.args.out.now) (g.K.Sink.taken c.loop-ran.out) (g.K.Sink.taken c.close.new.out) _ _ r c.loop-ran.invariant.1 out))
    (λ out. unwritten job c.args.program.now c.loop-ran.machine c.loop-ran.taken c.args.budget c.loop-ran.waiting.bytes.items (g.K.Sink.taken c.args.out.now) (g.K.Sink.taken c.loop-ran.out) (g.K.Sink.taken c.close.new.out) _ _ r c.loop-ran.invariant.1 out)

pub returns-then-matches-clause-run : goal.returns-then-matches-clause-run
returns-then-matches-clause-run g c =
    let job = program_job c.args.program.now (world_meant c.args.machine.now.world) in
    let h = comes_to (program_job c.args.program.now (world_meant c.args.machine.now.world)) c.args.program.now c.loop-ran.machine c.go_on.new.self c.loop-ran.next c.loop-ran.taken (c.args.budget - c.loop-ran.taken) c.in-Ok.ran c.loop-ran.waiting.bytes.items (g.K.Sink.taken c.args.out.now) (g.K.Sink.taken c.loop-ran.out) (g.K.Sink.faults c.args.out.now) (g.K.Sink.faults c.loop-ran.out) c.loop-ran.invariant.0 c.in-Ok.ensures.comes c.in-Ok.ensures.others in
    let within : c.loop-ran.taken + c.in-Ok.ran.taken ≤ c.args.budget = omega (arith, c.in-Ok.ensures.comes.within, c.loop-ran.invariant.1) in
    closed job c.args.budget c.loop-ran.waiting.bytes.items (g.K.Sink.taken c.args.out.now) (g.K.Sink.taken c.loop-ran.out) (g.K.Sink.taken c.close-then-matches.new.out) c.ended-end.result c.close-then-matches.result c.close-then-matches.ensures.closed
    (λ out. subst (IsRun job c.args.budget (g.K.Sink.taken c.args.out.now) (g.K.Sink.taken c.close-then-matches.new.out)) (sym c.ended-end.ensures)
    (finished job c.args.program.now c.go_on.new.self (next_halt c.loop-ran.next) c.in-Ok.ran.stop (c.loop-ran.taken + c.in-Ok.ran.taken) c.args.budget _ _ _ _ _ _ c.ending_by.result h within
    (elim c.match-matches.branch [ in-AllDone w ↦ w.in-AllDone.is | in_default-matches w ↦ absurd (true_false c.if-matches.true w.matches-is) ])
    (c.ending_by.ensures ∙ ap (ending_by []) c.halted-halted.ensures) out))
    (λ out. unwritten job c.args.program.now c.go_on.new.self (c.loop-ran.taken + c.in-Ok.ran.taken) c.args.budget _ _ _ _ _ _ h.out within out)

pub returns-then-taken-budget-clause-run : goal.returns-then-taken-budget-clause-run
returns-then-taken-budget-clause-run g c =
    let job = program_job c.args.program.now (world_meant c.args.machine.now.world) in
    let h = comes_to (program_job c.args.program.now (world_meant c.args.machine.now.world)) c.args.program.now c.loop-ran.machine c.go_on.new.self c.loop-ran.next c.loop-ran.taken (c.args.budget - c.loop-ran.taken) c.in-Ok.ran c.loop-ran.waiting.bytes.items (g.K.Sink.taken c.args.out.now) (g.K.Sink.taken c.loop-ran.out) (g.K.Sink.faults c.args.out.now) (g.K.Sink.faults c.loop-ran.out) c.loop-ran.invariant.0 c.in-Ok.ensures.comes c.in-Ok.ensures.others in
    let within : c.loop-ran.taken + c.in-Ok.ran.taken ≤ c.args.budget = omega (arith, c.in-Ok.ensures.comes.within, c.loop-ran.invariant.1) in
    closed job c.args.budget c.loop-ran.waiting.bytes.items (g.K.Sink.taken c.args.out.now) (g.K.Sink.taken c.loop-ran.out) (g.K.Sink.taken c.close-then-taken-budget.new.out) c.ended-end-then-taken-budget.result c.close-then-taken-budget.result c.close-then-taken-budget.ensures.closed
    (λ out. subst (IsRun job c.args.budget (g.K.Sink.taken c.args.out.now) (g.K.Sink.taken c.close-then-taken-budget.new.out)) (sym c.ended-end-then-taken-budget.ensures)
    (stopped job c.args.program.now c.go_on.new.self (next_halt c.loop-ran.next) c.in-Ok.ran.stop (c.loop-ran.taken + c.in-Ok.ran.taken) _ _ _ _ _ h c.args.budget (g.K.Sink.taken c.close-then-taken-budget.new.out)
    (elim c.match-matches.branch [ in-AllDone w ↦ absurd (true_false w.matches-is c.if-matches.false) | in_default-matches w ↦ is_left c.in-Ok.ran.stop (λ e. w.in_default-matches.not-AllDone e) ]) c.if-taken-budget.true out))
    (λ out. unwritten job c.args.program.now c.go_on.new.self (c.loop-ran.taken + c.in-Ok.ran.taken) c.args.budget _ _ _ _ _ _ h.out within out)

pub step-requires-clause-few : goal.step-requires-clause-few
step-requires-clause-few g c =
    let h = comes_to (program_job c.args.program.now (world_meant c.args.machine.now.world)) c.args.program.now c.loop-ran.machine c.go_on.new.self c.loop-ran.next c.loop-ran.taken (c.args.budget - c.loop-ran.taken) c.in-Ok.ran c.loop-ran.waiting.bytes.items (g.K.Sink.taken c.args.out.now) (g.K.Sink.taken c.loop-ran.out) (g.K.Sink.faults c.args.out.now) (g.K.Sink.faults c.loop-ran.out) c.loop-ran.invariant.0 c.in-Ok.ensures.comes c.in-Ok.ensures.others in
    let within : c.loop-ran.taken + c.in-Ok.ran.taken ≤ c.args.budget = omega (arith, c.in-Ok.ensures.comes.within, c.loop-ran.invariant.1) in
    let few = few_answers (program_job c.args.program.now (world_meant c.args.machine.now.world)) c.args.program.now c.go_on.new.self (next_halt c.loop-ran.next) c.in-Ok.ran.stop (c.loop-ran.taken + c.in-Ok.ran.taken) _ _ _ _ _ h in
    omega (arith, few, within, c.if-taken-budget.false, c.ranges.budget.fits)

pub returns-in-Err-clause-run : goal.returns-in-Err-clause-run
returns-in-Err-clause-run g c =
    let job = program_job c.args.program.now (world_meant c.args.machine.now.world) in
    let program = c.args.program.now in
    let m = c.go_on.new.self in
    let s = c.in-Ok.ran.stop in
    let i = c.loop-ran.taken + c.in-Ok.ran.taken in
    let waiting = c.loop-ran.waiting.bytes.items in
    let before = g.K.Sink.taken c.args.out.now in
    let now = g.K.Sink.taken c.loop-ran.out in
    let fb = g.K.Sink.faults c.args.out.now in
    let fn = g.K.Sink.faults c.loop-ran.out in
    let h = comes_to (program_job c.args.program.now (world_meant c.args.machine.now.world)) c.args.program.now c.loop-ran.machine c.go_on.new.self c.loop-ran.next c.loop-ran.taken (c.args.budget - c.loop-ran.taken) c.in-Ok.ran c.loop-ran.waiting.bytes.items (g.K.Sink.taken c.args.out.now) (g.K.Sink.taken c.loop-ran.out) (g.K.Sink.faults c.args.out.now) (g.K.Sink.faults c.loop-ran.out) c.loop-ran.invariant.0 c.in-Ok.ensures.comes c.in-Ok.ensures.others in
    let left : IsLeft s = (elim c.match-matches.branch [ in-AllDone w ↦ absurd (true_false w.matches-is c.if-matches.false) | in_default-matches w ↦ is_left c.in-Ok.ran.stop (λ e. w.in_default-matches.not-AllDone e) ]) in
    let still = subst (λ o. HasStopped job program m o s i waiting before now fb fn) (not_halted job program m (next_halt c.loop-ran.next) s i waiting before now fb fn h left) h in
    let within : i ≤ c.args.budget = omega (arith, c.in-Ok.ensures.comes.within, c.loop-ran.invariant.1) in
    let few : i < c.args.budget = omega (arith, within, c.if-taken-budget.false) in
    closed job c.args.budget waiting before now (g.K.Sink.taken c.close-in-Err.new.out) c.failed-in-Err.result c.close-in-Err.result c.close-in-Err.ensures.closed
    (λ out. subst (IsRun job c.args.budget before (g.K.Sink.taken c.close-in-Err.new.out)) (sym c.failed-in-Err.ensures) (cut_short job program m i c.args.budget waiting before now (g.K.Sink.taken c.close-in-Err.new.out) fb fn h.out within out))
    (λ out. unwritten job program m i c.args.budget waiting before now (g.K.Sink.taken c.close-in-Err.new.out) fb fn h.out within out)

pub returns-in-Err-take-clause-run : goal.returns-in-Err-take-clause-run
returns-in-Err-take-clause-run g c =
    let job = program_job c.args.program.now (world_meant c.args.machine.now.world) in
    let program = c.args.program.now in
    let m = c.go_on.new.self in
    let s = c.in-Ok.ran.stop in
    let i = c.loop-ran.taken + c.in-Ok.ran.taken in
    let waiting = c.loop-ran.waiting.bytes.items in
    let before = g.K.Sink.taken c.args.out.now in
    let now = g.K.Sink.taken c.loop-ran.out in
    let fb = g.K.Sink.faults c.args.out.now in
    let fn = g.K.Sink.faults c.loop-ran.out in
    let h = comes_to (program_job c.args.program.now (world_meant c.args.machine.now.world)) c.args.program.now c.loop-ran.machine c.go_on.new.self c.loop-ran.next c.loop-ran.taken (c.args.budget - c.loop-ran.taken) c.in-Ok.ran c.loop-ran.waiting.bytes.items (g.K.Sink.taken c.args.out.now) (g.K.Sink.taken c.loop-ran.out) (g.K.Sink.faults c.args.out.now) (g.K.Sink.faults c.loop-ran.out) c.loop-ran.invariant.0 c.in-Ok.ensures.comes c.in-Ok.ensures.others in
    let left : IsLeft s = (elim c.match-matches.branch [ in-AllDone w ↦ absurd (true_false w.matches-is c.if-matches.false) | in_default-matches w ↦ is_left c.in-Ok.ran.stop (λ e. w.in_default-matches.not-AllDone e) ]) in
    let still = subst (λ o. HasStopped job program m o s i waiting before now fb fn) (not_halted job program m (next_halt c.loop-ran.next) s i waiting before now fb fn h left) h in
    let within : i ≤ c.args.budget = omega (arith, c.in-Ok.ensures.comes.within, c.loop-ran.invariant.1) in
    let few : i < c.args.budget = omega (arith, within, c.if-taken-budget.false) in
    subst (IsRun job c.args.budget before (g.K.Sink.taken c.take.new.out)) (sym c.failed-in-Err-take.ensures)
    (unwritten_next job program m c.step.new.machine s c.in-Ok-step.next i waiting before now fb fn still c.in-Ok-step.ensures.steps c.args.budget (g.K.Sink.taken c.take.new.out) few
    (subst (λ bytes. AppendedPrefix now (g.K.Sink.taken c.take.new.out) (waiting ++ bytes)) c.deref.ensures.value c.in-Err-take.ensures.err))

pub loop-ran-preserved : goal.loop-ran-preserved
loop-ran-preserved g c =
    let job = program_job c.args.program.now (world_meant c.args.machine.now.world) in
    let program = c.args.program.now in
    let m = c.go_on.new.self in
    let s = c.in-Ok.ran.stop in
    let i = c.loop-ran.taken + c.in-Ok.ran.taken in
    let waiting = c.loop-ran.waiting.bytes.items in
    let before = g.K.Sink.taken c.args.out.now in
    let now = g.K.Sink.taken c.loop-ran.out in
    let fb = g.K.Sink.faults c.args.out.now in
    let fn = g.K.Sink.faults c.loop-ran.out in
    let h = comes_to (program_job c.args.program.now (world_meant c.args.machine.now.world)) c.args.program.now c.loop-ran.machine c.go_on.new.self c.loop-ran.next c.loop-ran.taken (c.args.budget - c.loop-ran.taken) c.in-Ok.ran c.loop-ran.waiting.bytes.items (g.K.Sink.taken c.args.out.now) (g.K.Sink.taken c.loop-ran.out) (g.K.Sink.faults c.args.out.now) (g.K.Sink.faults c.loop-ran.out) c.loop-ran.invariant.0 c.in-Ok.ensures.comes c.in-Ok.ensures.others in
    let left : IsLeft s = (elim c.match-matches.branch [ in-AllDone w ↦ absurd (true_false w.matches-is c.if-matches.false) | in_default-matches w ↦ is_left c.in-Ok.ran.stop (λ e. w.in_default-matches.not-AllDone e) ]) in
    let still = subst (λ o. HasStopped job program m o s i waiting before now fb fn) (not_halted job program m (next_halt c.loop-ran.next) s i waiting before now fb fn h left) h in
    let within : i ≤ c.args.budget = omega (arith, c.in-Ok.ensures.comes.within, c.loop-ran.invariant.1) in
    let few : i < c.args.budget = omega (arith, within, c.if-taken-budget.false) in (
      goes_on job program m c.step.new.machine s c.in-Ok-step.next i waiting before now fb fn still c.in-Ok-step.ensures.steps c.clear.new.self c.take.new.self.bytes.items (g.K.Sink.taken c.take.new.out) (g.K.Sink.faults c.take.new.out)
          c.in-Ok-step.ensures.there c.in-Ok-step.ensures.text c.in-Ok-step.ensures.statics
          (subst (λ bytes. PutsOut now (g.K.Sink.taken c.take.new.out) (waiting ++ bytes) c.take.new.self.bytes.items) c.deref.ensures.value c.in-Ok-take.ensures.ok) c.in-Ok-take.ensures.quiet c.clear.ensures.items,
      omega (arith, few),
    )

pub step-requires-clause-stop : goal.step-requires-clause-stop
step-requires-clause-stop g c =
    let job = program_job c.args.program.now (world_meant c.args.machine.now.world) in
    let program = c.args.program.now in
    let m = c.go_on.new.self in
    let s = c.in-Ok.ran.stop in
    let i = c.loop-ran.taken + c.in-Ok.ran.taken in
    let waiting = c.loop-ran.waiting.bytes.items in
    let before = g.K.Sink.taken c.args.out.now in
    let now = g.K.Sink.taken c.loop-ran.out in
    let fb = g.K.Sink.faults c.args.out.now in
    let fn = g.K.Sink.faults c.loop-ran.out in
    let h = comes_to (program_job c.args.program.now (world_meant c.args.machine.now.world)) c.args.program.now c.loop-ran.machine c.go_on.new.self c.loop-ran.next c.loop-ran.taken (c.args.budget - c.loop-ran.taken) c.in-Ok.ran c.loop-ran.waiting.bytes.items (g.K.Sink.taken c.args.out.now) (g.K.Sink.taken c.loop-ran.out) (g.K.Sink.faults c.args.out.now) (g.K.Sink.faults c.loop-ran.out) c.loop-ran.invariant.0 c.in-Ok.ensures.comes c.in-Ok.ensures.others in
    let left : IsLeft s = (elim c.match-matches.branch [ in-AllDone w ↦ absurd (true_false w.matches-is c.if-matches.false) | in_default-matches w ↦ is_left c.in-Ok.ran.stop (λ e. w.in_default-matches.not-AllDone e) ]) in
    let still = subst (λ o. HasStopped job program m o s i waiting before now fb fn) (not_halted job program m (next_halt c.loop-ran.next) s i waiting before now fb fn h left) h in
    let within : i ≤ c.args.budget = omega (arith, c.in-Ok.ensures.comes.within, c.loop-ran.invariant.1) in
    let few : i < c.args.budget = omega (arith, within, c.if-taken-budget.false) in
    taken_next m.region (c.args.budget - c.loop-ran.taken) c.in-Ok.ran s c.in-Ok.ensures.comes.stops (let lt : c.in-Ok.ran.taken < c.args.budget - c.loop-ran.taken = omega (arith, few) in lt) left
