use Rattle.std.proofs.Common.{subst}
use Rattle.tree_model.specs.Credits.{Credit}
use Rattle.tree_model.specs.EventViews.{place_view}
use Rattle.tree_nodes.proofs.StayingLemmas.{made_then}
use Rattle.public_tree.specs.AnsweringAtOnce.{run_credit, SpendsOnClosed}
use Rattle.public_tree.specs.Opening.{opening_body}
use Rattle.public_tree.proofs.RunRestLemmas.{run_rests}
use Rattle.public_tree.proofs.answering_at_once.close_run.Goals as goal

pub returns-clause-rests : goal.returns-clause-rests
returns-clause-rests c =
    let mid = c.skip_and_rest.new.nodes in
    let new = c.spend_on_closed.new.nodes in
    let a = place_view c.args.at in
    let k = c.args.inferences in
    let spends : SpendsOnClosed mid new a c.in-Some.spent (run_credit k)
    = subst (λ (x : Credit). SpendsOnClosed mid new a c.in-Some.spent x) c.credit_of_run-credit.ensures c.spend_on_closed.ensures.spends in
    run_rests c.args.nodes.now mid new a k c.args.skipped c.spent.result c.in-Some.spent c.args.closing (opening_body c.args.woken) c.spent.ensures c.in-Some.ensures.1
    c.in_ok-skip_and_rest.ensures.rests spends c.spend_on_closed.ensures.numbers

pub returns-clause-made : goal.returns-clause-made
returns-clause-made c =
    made_then c.args.nodes.now.rows c.skip_and_rest.new.nodes.rows c.spend_on_closed.new.nodes.rows c.in_ok-skip_and_rest.ensures.made c.spend_on_closed.ensures.made
