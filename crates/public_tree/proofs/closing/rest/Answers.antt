use Rattle.std.proofs.Common.{sym, ap, subst}
use Rattle.std.specs.Arc.{arc_value}
use Rattle.tree_model.specs.EventViews.{place_view}
use Rattle.tree_nodes.specs.Bodies.{body_view}
use Rattle.tree_nodes.specs.Rows.{credit_view}
use Rattle.public_tree.specs.Opening.{opening_body}
use Rattle.public_tree.specs.PublicClosing.{RestsIn}
use Rattle.public_tree.proofs.PublicClosingLemmas.{is_quiet, is_woken, rests_quietly, rests_waking}
use Rattle.public_tree.proofs.closing.rest.Goals as goal

pub returns-in-Same-clause-rests : goal.returns-in-Same-clause-rests
returns-in-Same-clause-rests c =
    rests_quietly c.args.nodes.now c.settle.new.nodes (place_view c.args.closing.end) (credit_view c.args.closing.credit) c.args.closing.beside (opening_body c.args.woken)
    (is_quiet c.args.closing.beside c.in-Same.is) c.settle.ensures.rests c.settle.ensures.numbers

pub returns-in_ok-_number-in-Gathers-clause-rests : goal.returns-in_ok-_number-in-Gathers-clause-rests
returns-in_ok-_number-in-Gathers-clause-rests c =
    let b = place_view c.args.closing.end in
    let total = credit_view c.args.closing.credit in
    let e = c.in_ok-_number-in-Gathers.ensures in
    let body = body_view (arc_value c.in-Some.body) in
    subst (RestsIn c.args.nodes.now c.wake.new.nodes b total c.args.closing.beside) (sym (ap opening_body c.in-Some.is))
    (rests_waking c.args.nodes.now c.wake.new.nodes b total c.args.closing.beside body c.in_ok-_number-in-Gathers._number (is_woken c.args.closing.beside c.in-Gathers.is) e.number e.rests e.grown)
