use Rattle.run_model.specs.Goals.DatabaseGoals.{access_error, static_error}
use Rattle.clause_compile.specs.declared.event.Effect.TheVariants as effect
use Rattle.effect_gate.specs.Effects.{statics_of}
use Rattle.effect_gate.proofs.RefusalLemmas.{stopped_by}
use Rattle.effect_gate.proofs.FoundClauseLemmas.{look_done, look_raises}
use Rattle.effect_gate.proofs.world.World.clauses.Goals as goal

pub returns-in_err-check_procedure : goal.returns-in_err-check_procedure
returns-in_err-check_procedure c =
    let old = c.args.self.now in
    let head = c.args.head.now in
    stopped_by (effect.Clause head c.args.body.now) old (static_error (statics_of old) access_error head) c.in_err-check_procedure.field-0.0 c.from_residual-in_err-check_procedure.result
    c.in_err-check_procedure.ensures c.from_residual-in_err-check_procedure.ensures.1 (look_raises old head c.args.body.now c.in_ok-check_head.ensures c.in_ok-check_body.ensures)

pub returns : goal.returns
returns c = look_done c.args.self.now c.args.head.now c.args.body.now c.in_ok-look_up.field-0 c.in_ok-check_head.ensures c.in_ok-check_body.ensures c.in_ok-check_procedure.ensures c.in_ok-look_up.ensures
