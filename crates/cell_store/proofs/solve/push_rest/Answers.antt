use Rattle.std.proofs.Common.{◌∙◌, reverse, sym, subst, ap}
use Rattle.cell_store.specs.UnificationSteps.{KeepsRestEquations}
use Rattle.cell_store.proofs.WalkLemmas.{turned}
use Rattle.cell_store.proofs.solve.push_rest.Goals as goal

pub returns-in_ok-push : goal.returns-in_ok-push
returns-in_ok-push c =
    let old = c.args.pending.now.items in
    subst (KeepsRestEquations c.args.equations (reverse old)) (sym (ap reverse c.in_ok-push.ensures.items ∙ turned old c.rest.result)) (c.rest.ensures.kept (reverse old))
