use Rattle.run_model.specs.Goals.DatabaseGoals.{modify_error, static_error}
use Rattle.clause_compile.specs.declared.event.Effect.TheVariants as effect
use Rattle.effect_gate.specs.Effects.{statics_of}
use Rattle.effect_gate.proofs.RefusalLemmas.{stopped_by}
use Rattle.effect_gate.proofs.FoundClauseLemmas.{retraction_done, retraction_raises}
use Rattle.effect_gate.proofs.world.World.retract.Goals as goal

pub returns-in_err-check_procedure : goal.returns-in_err-check_procedure
returns-in_err-check_procedure c =
    let old = c.args.self.now in
    let head = c.in_ok-head.head in
    stopped_by (effect.Retract c.args.clause.now) old (static_error (statics_of old) modify_error head) c.in_err-check_procedure.field-0.0 c.from_residual-in_err-check_procedure.result
    c.in_err-check_procedure.ensures c.from_residual-in_err-check_procedure.ensures.1 (retraction_raises old c.args.clause.now head c.in_ok-head.ensures c.in_ok-check_head.ensures)

pub returns : goal.returns
returns c = retraction_done c.args.self.now c.args.clause.now c.in_ok-head.head c.in_ok-look_up.field-0 c.in_ok-head.ensures c.in_ok-check_head.ensures c.in_ok-check_procedure.ensures c.in_ok-look_up.ensures
