use Rattle.std.proofs.Common.{◌≡◌, ◌∙◌, refl, sym, ap, subst}
use Rattle.std.proofs.lemmas.Result.{IfOk-weaker}
use Rattle.au_term.specs.Term.{VarTerm}
use Rattle.cell_store.specs.StoreView.{meaning, substitution, IsUnbound}
use Rattle.cell_store.proofs.RuleLemmas.{rule_left, rule_right, no_variable, constant, no_variable_constant, bound_or, sides_same}
use Rattle.cell_store.proofs.unify.values_go.Goals as goal

pub returns-in_default-left : goal.returns-in_default-left
returns-in_default-left c =
    let st = c.args.store.now in
    let n = c.in-Var.n in
    let value = c.args.left in
    let now = c.bind_right.new.store in
    let right : VarTerm n ≡ meaning st c.args.right = sym (subst (IsUnbound (substitution st)) c.in-Var.is c.requires.right_unbound) ∙ ap (meaning st) (sym c.in-Var.is) in
    let rule = rule_right st n value (no_variable st value c.requires.left c.in_default-left.not-Var) c.requires.left in
    record {
      goes = IfOk-weaker c.bind_right.result _ _ (λ outcome h. sides_same st now (meaning st value) (VarTerm n) (meaning st value) (meaning st c.args.right) outcome refl right (bound_or st now (meaning st value) (VarTerm n) (meaning st value) n outcome rule h)) c.bind_right.ensures.bound;
      stays = c.bind_right.ensures.stays;
      kept = c.bind_right.ensures.kept;
    }

pub returns-in-Var-left-2 : goal.returns-in-Var-left-2
returns-in-Var-left-2 c =
    let st = c.args.store.now in
    let m = c.in-Var-left-2.m in
    let value = c.args.right in
    let now = c.bind_left.new.store in
    let left : VarTerm m ≡ meaning st c.args.left = sym (subst (IsUnbound (substitution st)) c.in-Var-left-2.is c.requires.left_unbound) ∙ ap (meaning st) (sym c.in-Var-left-2.is) in
    let rule = rule_left st m value (no_variable_constant value (constant st value c.requires.right c.in_default.not-Var c.in_default.not-Compound)) c.requires.right in
    record {
      goes = IfOk-weaker c.bind_left.result _ _ (λ outcome h. sides_same st now (VarTerm m) (meaning st value) (meaning st c.args.left) (meaning st value) outcome left refl (bound_or st now (VarTerm m) (meaning st value) (meaning st value) m outcome rule h)) c.bind_left.ensures.bound;
      stays = c.bind_left.ensures.stays;
      kept = c.bind_left.ensures.kept;
    }
