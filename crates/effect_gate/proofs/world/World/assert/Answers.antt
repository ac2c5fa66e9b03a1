use Rattle.std.proofs.Common.{◌∙◌}
use Rattle.std.specs.Arc.{arc_value}
use Rattle.std.specs.Global.{Global}
use Rattle.std.specs.declared.sync.Arc.{Arc}
use Rattle.clause_compile.specs.declared.clause.Clause.{Clause}
use Rattle.run_model.specs.Goals.DatabaseGoals.{modify_error, static_error}
use Rattle.effect_gate.specs.Effects.{statics_of}
use Rattle.effect_gate.specs.Refusals.{IsKeptClause, assertion}
use Rattle.effect_gate.proofs.RefusalLemmas.{refused_by, stopped_by}
use Rattle.effect_gate.proofs.AssertionLemmas.{assertion_done, assertion_raises, may_be_changed, refused_terms, taken_terms, term_errors}
use Rattle.effect_gate.proofs.world.World.assert.Goals as goal

pub returns-in_err-kept-clause-done : goal.returns-in_err-kept-clause-done
returns-in_err-kept-clause-done c =
    let old = c.args.self.now in
    let t = c.args.clause.now in
    let head = c.in_ok-head.head in
    let body = c.in_ok-body_of.field-0 in
    refused_by (assertion c.args.end t) old (term_errors head body) (λ (kept : Arc Clause Global). IsKeptClause head body (arc_value kept)) c.in_err-kept.field-0.0 c.from_residual-in_err-kept.result
    c.in_err-kept.ensures c.from_residual-in_err-kept.ensures.1
    (λ fault e. assertion_raises c.args.end old t head body c.in_ok-head.ensures c.in_ok-body_of.ensures fault (refused_terms old head body _ e))

pub returns-in_err-check_procedure-clause-done : goal.returns-in_err-check_procedure-clause-done
returns-in_err-check_procedure-clause-done c =
    let old = c.args.self.now in
    let t = c.args.clause.now in
    let head = c.in_ok-head.head in
    let body = c.in_ok-body_of.field-0 in
    stopped_by (assertion c.args.end t) old (static_error (statics_of old) modify_error head) c.in_err-check_procedure.field-0.0 c.from_residual-in_err-check_procedure.result
    c.in_err-check_procedure.ensures c.from_residual-in_err-check_procedure.ensures.1
    (λ fault e. assertion_raises c.args.end old t head body c.in_ok-head.ensures c.in_ok-body_of.ensures fault (taken_terms old head body c.in_ok-kept.ensures.0 ∙ e))

pub add-requires : goal.add-requires
add-requires c = may_be_changed c.args.self.now c.in_ok-head.head c.in_ok-body_of.field-0 (arc_value c.in_ok-kept.kept) c.in_ok-kept.ensures.1 c.in_ok-check_procedure.ensures

pub returns-clause-done : goal.returns-clause-done
returns-clause-done c =
    let old = c.args.self.now in
    let head = c.in_ok-head.head in
    let body = c.in_ok-body_of.field-0 in
    assertion_done old c.add.new.database c.args.clause.now head body (arc_value c.in_ok-kept.kept) c.in_ok-head.ensures c.in_ok-body_of.ensures
    (taken_terms old head body c.in_ok-kept.ensures.0 ∙ c.in_ok-check_procedure.ensures) c.in_ok-kept.ensures.1 c.args.end c.in_ok-add.ensures.ok
