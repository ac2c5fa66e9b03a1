use Rattle.std.proofs.Common.{◌≡◌, subst}
use Rattle.std.specs.Prelude.{IfOk}
use Rattle.au_term.specs.Term.{term_at}
use Rattle.cell_store.specs.StoreView.{StoreView, meaning}
use Rattle.region_control.specs.GoalForms.{argument_terms}
use Rattle.region_control.specs.Replies.{LeavesOutcome}
use Rattle.meta_call.proofs.CallLemmas.{call_by_arguments}
use Rattle.meta_call.proofs.call.call_arguments.Goals as goal

pub returns-clause-comes : goal.returns-clause-comes
returns-clause-comes c =
    let r = c.args.region.now in
    let callee = c.argument-callee.result in
    let first = subst (λ (st : StoreView). meaning st callee ≡ term_at 0 (argument_terms st c.args.arguments)) c.store.ensures.store c.argument-callee.ensures.term in
    subst (λ o. IfOk c.call_goal.result (LeavesOutcome r c.call_goal.new.region o c.args.place)) (call_by_arguments r.store c.args.arguments c.rest_of.result callee c.requires.arity.0 c.rest_of.ensures first) c.call_goal.ensures.comes
