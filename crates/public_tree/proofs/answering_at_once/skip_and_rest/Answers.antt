use Rattle.std.proofs.Common.{◌∙◌, subst}
use Rattle.tree_model.specs.EventViews.{place_view}
use Rattle.tree_nodes.specs.Rows.{credit_view}
use Rattle.tree_nodes.specs.TreeTables.{NodesView}
use Rattle.tree_nodes.proofs.StayingLemmas.{made_then}
use Rattle.public_tree.specs.Opening.{opening_body}
use Rattle.public_tree.specs.PublicClosing.{RestsIn}
use Rattle.public_tree.proofs.RunRestLemmas.{all_given_back}
use Rattle.public_tree.proofs.answering_at_once.skip_and_rest.Goals as goal

pub returns-in-Ok-clause-rests : goal.returns-in-Ok-clause-rests
returns-in-Ok-clause-rests c =
    subst (λ (n : NodesView). RestsIn n c.rest.new.nodes (place_view c.args.closing.end) (credit_view c.args.closing.credit) c.args.closing.beside (opening_body c.args.woken))
    c.in_ok-skip.ensures.ok c.in-Ok.ensures.rests

pub returns-in-Err-clause-err : goal.returns-in-Err-clause-err
returns-in-Err-clause-err c =
    all_given_back c.args.nodes.now c.rest.new.nodes c.give_back.new.self c.args.skipped c.drawn-drawn.result c.drawn-drawn.ensures
    (c.in-Err.ensures.err ∙ c.in_ok-skip.ensures.ok) c.give_back.ensures.given

pub returns-in-Ok-clause-made : goal.returns-in-Ok-clause-made
returns-in-Ok-clause-made c = made_then c.args.nodes.now.rows c.skip.new.self.rows c.rest.new.nodes.rows c.in_ok-skip.ensures.made c.in-Ok.ensures.made
