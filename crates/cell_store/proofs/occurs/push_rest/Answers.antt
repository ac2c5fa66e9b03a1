use Rattle.std.proofs.Common.{◌∙◌, reverse, sym, subst, ap}
use Rattle.cell_store.specs.Arguments.{KeepsRest}
use Rattle.cell_store.proofs.WalkLemmas.{rest_some, turned}
use Rattle.cell_store.proofs.occurs.push_rest.Goals as goal

pub returns-in_ok-push : goal.returns-in_ok-push
returns-in_ok-push c =
    let old = c.args.pending.now.items in
    let others = c.rest_of.result in
    subst (KeepsRest c.args.arguments (reverse old)) (sym (ap reverse c.in_ok-push.ensures.items ∙ turned old others)) (rest_some c.args.arguments others (reverse old) c.if-arguments-gt1.true c.rest_of.ensures)
