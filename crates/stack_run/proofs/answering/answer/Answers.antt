use Rattle.std.proofs.Common.{ap, map, ◌∙◌}
use Rattle.effect_gate.specs.Effects.{world_meant}
use Rattle.stack_run.specs.MachineView.{value_in}
use Rattle.stack_run.proofs.StepLemmas.{answers_so}
use Rattle.stack_run.proofs.answering.answer.Goals as goal

pub returns-clause-steps : goal.returns-clause-steps
returns-clause-steps c =
    let m = c.args.machine.now in
    let names = c.asked_names-names.result.now in
    answers_so c.args.program.now m c.args.position (record m.world { out = c.answer_line.new.out }) names c.deref.result.now c.requires.left c.asked_names-names.ensures
    (c.deref.ensures.value ∙ (c.in_ok-values.ensures ∙ ap (λ st. map (value_in st) names) c.store.ensures.store))
    (ap (λ bytes. record (world_meant m.world) { written = bytes }) c.in_ok-answer_line.ensures.ok)
