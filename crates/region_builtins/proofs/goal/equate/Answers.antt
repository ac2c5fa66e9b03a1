use Rattle.std.proofs.Common.{[], ◌∷◌, sym, subst}
use Rattle.run_model.specs.Goals.BuiltinAnswers.{equal}
use Rattle.binding_array.specs.declared.cell.BindingCell.TheVariants.{Var}
use Rattle.cell_store.specs.StoreView.{StoreView, BindsFurther, IsDereferenced, meaning}
use Rattle.region_control.specs.declared.replies.AfterGoal.TheVariants.{At}
use Rattle.region_builtins.specs.QuickAnswers.{AnswersIn}
use Rattle.cell_store.specs.UnificationSteps.{IsUnified}
use Rattle.region_builtins.proofs.ReplyLemmas.{number_bound, unified_goes_on}
use Rattle.region_builtins.proofs.goal.equate.Goals as goal

pub returns-in-Var-clause-comes : goal.returns-in-Var-clause-comes
returns-in-Var-clause-comes c =
    let r = c.args.region.now in
    let new = c.bind.new.self in
    let z = c.in-Int.field-0 in
    let d = subst (λ (st : StoreView). IsDereferenced st c.args.left (Var c.in-Var.variable)) c.store.ensures.store (subst (IsDereferenced c.store.result.now c.args.left) c.in-Var.is c.dereference.ensures) in
    let b = subst (λ value. BindsFurther r.store new.store ((c.in-Var.variable, meaning r.store value) ∷ [])) c.in-Int.is c.in_ok-bind.ensures.ok in
    subst (λ value. AnswersIn r new (equal (meaning r.store c.args.left) (meaning r.store value)) c.args.place (At c.args.place.after)) (sym c.in-Int.is)
    (number_bound r c.args.place c.requires.place new c.args.left c.in-Var.variable z d c.in_ok-bind.ensures.stays b)

pub returns-then-branch-clause-comes : goal.returns-then-branch-clause-comes
returns-then-branch-clause-comes c =
    let r = c.args.region.now in
    let new = c.unify.new.self in
    unified_goes_on r c.args.place c.requires.place new c.args.left c.args.right c.in_ok-unify.ensures.stays (subst (IsUnified c.args.left c.args.right r.store new.store) c.if-branch.true c.in_ok-unify.ensures.unified) c.in_ok-unify.ensures.kept
