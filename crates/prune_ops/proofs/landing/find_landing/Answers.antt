use Rattle.std.proofs.Common.{◌≡◌, ℕ, sym, subst}
use Rattle.tree_model.specs.Credits.{Credit}
use Rattle.tree_model.specs.EventViews.{place_view}
use Rattle.tree_nodes.specs.Rows.{scope_number, credit_view}
use Rattle.prune_ops.specs.Falls.{LandsNowhere, LandsBelow}
use Rattle.prune_ops.proofs.FallLemmas.{number_is, rises, nowhere, lands}
use Rattle.prune_ops.proofs.landing.find_landing.Goals.{in-Node, in-Node-2}
use Rattle.prune_ops.proofs.landing.find_landing.Goals as goal

pub loop-here-preserved : goal.loop-here-preserved
loop-here-preserved c =
    let nodes = c.args.nodes.now in
    let a = place_view c.args.at in
    let l = c.loop-here in
    let b = place_view l.here in
    record {
      there = c.in-Some.ensures.above.0;
      rises = rises nodes a b c.match-scope.number l.sum c.rise.new.sum l.invariant.rises c.in_ok-rise.ensures c.loop-here-test.true (place_view c.in-Some.above) c.in-Some.ensures.parent;
    }

pub returns-in-None-clause-finds : goal.returns-in-None-clause-finds
returns-in-None-clause-finds c =
    let nodes = c.args.nodes.now in
    let a = place_view c.args.at in
    let l = c.loop-here in
    let number : c.match-scope.number ≡ scope_number c.args.scope
    = elim c.match-scope.branch [
      | in-Node w ↦ number_is c.args.scope w.in-Node.number c.match-scope.number w.in-Node.is w.number-is
      | in-Node-2 w ↦ number_is c.args.scope w.in-Node.number c.match-scope.number w.in-Node.is w.number-is
    ] in
    subst (LandsNowhere nodes a) number
    (nowhere nodes a (place_view l.here) c.match-scope.number l.sum c.rise.new.sum l.invariant.rises c.in_ok-rise.ensures c.loop-here-test.true c.in-None.ensures.parent)

pub returns-clause-finds : goal.returns-clause-finds
returns-clause-finds c =
    let nodes = c.args.nodes.now in
    let a = place_view c.args.at in
    let l = c.loop-here in
    let b = place_view l.here in
    let number : c.match-scope.number ≡ scope_number c.args.scope
    = elim c.match-scope.branch [
      | in-Node w ↦ number_is c.args.scope w.in-Node.number c.match-scope.number w.in-Node.is w.number-is
      | in-Node-2 w ↦ number_is c.args.scope w.in-Node.number c.match-scope.number w.in-Node.is w.number-is
    ] in
    let beside = c.if-not-is_beside_sleeper.ensures.beside in
    subst (λ (n : ℕ). LandsBelow nodes a n b (credit_view c.in_ok-finish.field-0)) number
    (subst (λ (x : Credit). LandsBelow nodes a c.match-scope.number b x) (sym c.in_ok-finish.ensures)
    (lands nodes a b c.match-scope.number l.sum l.invariant.rises c.loop-here-test.false c.rise-2.new.sum c.in_ok-rise-2.ensures beside.first))
