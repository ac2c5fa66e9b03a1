use Rattle.std.proofs.Common.{◌≡◌, ◌∙◌, refl, sym, ap, subst}
use Rattle.std.proofs.lemmas.Result.{IfOk-weaker}
use Rattle.au_term.specs.Term.{VarTerm}
use Rattle.binding_array.specs.declared.cell.BindingCell.TheVariants.{Compound}
use Rattle.cell_store.specs.StoreView.{meaning, substitution, IsUnbound}
use Rattle.cell_store.proofs.RuleLemmas.{rule_left, bound_or, sides_same}
use Rattle.cell_store.proofs.unify.compound_goes.Goals as goal

pub returns-in-Var-clause-goes : goal.returns-in-Var-clause-goes
returns-in-Var-clause-goes c =
    let st = c.args.store.now in
    let m = c.in-Var.m in
    let value = Compound c.args.right.0 c.args.right.1 in
    let now = c.bind_left.new.store in
    let left : VarTerm m ≡ meaning st c.args.left = sym (subst (IsUnbound (substitution st)) c.in-Var.is c.requires.unbound) ∙ ap (meaning st) (sym c.in-Var.is) in
    let rule = rule_left st m value tt c.requires.right in
    IfOk-weaker c.bind_left.result _ _ (λ outcome h. sides_same st now (VarTerm m) (meaning st value) (meaning st c.args.left) (meaning st value) outcome left refl (bound_or st now (VarTerm m) (meaning st value) (meaning st value) m outcome rule h)) c.bind_left.ensures.bound
