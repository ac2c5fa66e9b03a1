use Rattle.std.proofs.Common.{◌∙◌, ap, codes, sym}
use Rattle.au_model.specs.Terms.ErrorTerms.{error_term}
use Rattle.run_model.specs.Goals.Outcomes.{Ball}
use Rattle.run_model.specs.Goals.DatabaseGoals.{modify_error}
use Rattle.clause_compile.specs.declared.event.Effect.TheVariants as effect
use Rattle.effect_gate.specs.Indicators.{AreParts, IsProcedureOf, parts_error, shape_error}
use Rattle.effect_gate.proofs.RefusalLemmas.{refused_by}
use Rattle.effect_gate.proofs.AbolitionLemmas.{abolition_done, not_static, parts_raise, shape_raises, static_raises}
use Rattle.effect_gate.proofs.world.World.abolish.Goals as goal

pub returns-in_err-name-clause-done : goal.returns-in_err-name-clause-done
returns-in_err-name-clause-done c =
    let old = c.args.self.now in
    let t = c.args.term.now in
    refused_by (effect.Abolish t) old (shape_error t) (AreParts t) c.in_err-name.field-0.0 c.from_residual.result c.in_err-name.ensures c.from_residual.ensures.1 (shape_raises old t)

pub returns-in_err-procedure-clause-done : goal.returns-in_err-procedure-clause-done
returns-in_err-procedure-clause-done c =
    let old = c.args.self.now in
    let t = c.args.term.now in
    let name = c.in_ok-name.name in
    let arity = c.in_ok-name.arity in
    refused_by (effect.Abolish t) old (parts_error name arity) (IsProcedureOf name arity) c.in_err-procedure.field-0.0 c.from_residual-in_err-procedure.result c.in_err-procedure.ensures c.from_residual-in_err-procedure.ensures.1
    (parts_raise old t name arity c.in_ok-name.ensures.0 c.in_ok-name.ensures.1)

pub returns-then-is_static-clause-done : goal.returns-then-is_static-clause-done
returns-then-is_static-clause-done c =
    let old = c.args.self.now in
    let t = c.args.term.now in
    let name = c.in_ok-name.name in
    let arity = c.in_ok-name.arity in
    λ next.
    let raises = static_raises old t name arity c.in_ok-name.ensures.0 c.in_ok-name.ensures.1 c.in_ok-procedure.procedure c.in_ok-procedure.ensures.0 c.in_ok-procedure.ensures.1 (sym c.if-is_static.ensures) next in
    (raises.0, raises.1 ∙ ap (λ x. Ball (error_term (modify_error x) (codes "abolish") 1)) (sym c.in_ok-copy.ensures))

pub unreachable-requires : goal.unreachable-requires
unreachable-requires c = not_static c.args.self.now c.in_ok-procedure.procedure (sym c.if-is_static.ensures) c.in-Err.ensures.cause

pub returns-clause-done : goal.returns-clause-done
returns-clause-done c =
    let old = c.args.self.now in
    let t = c.args.term.now in
    abolition_done old t c.in_ok-name.name c.in_ok-name.arity c.in_ok-name.ensures.0 c.in_ok-name.ensures.1 c.in_ok-procedure.procedure c.in_ok-procedure.ensures.0 c.in_ok-procedure.ensures.1
    c.abolish.new.self (sym c.if-is_static.ensures) c.in-Ok.ensures.ok
