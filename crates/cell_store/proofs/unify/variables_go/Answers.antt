use Rattle.au_term.specs.Term.{VarTerm}
use Rattle.binding_array.specs.declared.cell.BindingCell.TheVariants.{Var}
use Rattle.cell_store.specs.StoreView.{meaning}
use Rattle.std.proofs.Common.{sym, subst}
use Rattle.cell_store.specs.FreshVariables.{IsOlder}
use Rattle.cell_store.proofs.FreshLemmas.{binding_stays, smaller_older}
use Rattle.cell_store.proofs.RuleLemmas.{right_bound, left_bound, variable_binding}
use Rattle.cell_store.proofs.unify.variables_go.Goals as goal

pub returns-in_ok-bind-clause-goes : goal.returns-in_ok-bind-clause-goes
returns-in_ok-bind-clause-goes c =
    let st = c.args.store.now in
    variable_binding st c.bind.new.self (VarTerm c.args.m) (VarTerm c.args.n) (VarTerm c.args.m) (meaning st (Var c.args.m)) c.args.n (right_bound c.args.m c.args.n c.if-m-n.true) c.requires.left_free c.in_ok-bind.ensures.ok

pub returns-in_ok-bind-2-clause-goes : goal.returns-in_ok-bind-2-clause-goes
returns-in_ok-bind-2-clause-goes c =
    let st = c.args.store.now in
    variable_binding st c.bind-then-n-m.new.self (VarTerm c.args.m) (VarTerm c.args.n) (VarTerm c.args.n) (meaning st (Var c.args.n)) c.args.m (left_bound c.args.m c.args.n c.if-n-m.true) c.requires.right_free c.in_ok-bind-2.ensures.ok

pub returns-in_ok-bind-clause-stays : goal.returns-in_ok-bind-clause-stays
returns-in_ok-bind-clause-stays c = λ fresh o.
    let st = c.args.store.now in
    binding_stays st c.bind.new.self fresh c.args.n (meaning st (Var c.args.m)) c.in_ok-bind.ensures.ok (subst (IsOlder fresh) (sym c.requires.left_free) o)

pub returns-in_ok-bind-2-clause-stays : goal.returns-in_ok-bind-2-clause-stays
returns-in_ok-bind-2-clause-stays c = λ fresh o.
    let st = c.args.store.now in
    binding_stays st c.bind-then-n-m.new.self fresh c.args.m (meaning st (Var c.args.n)) c.in_ok-bind-2.ensures.ok (subst (IsOlder fresh) (sym c.requires.right_free) (smaller_older fresh c.args.n c.args.m c.if-n-m.true o))
