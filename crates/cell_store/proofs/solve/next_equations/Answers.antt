use Rattle.std.proofs.Common.{reverse, sym, subst, arith}
use Rattle.cell_store.specs.UnificationSteps.{KeepsRestEquations}
use Rattle.cell_store.proofs.WalkLemmas.{popped}
use Rattle.cell_store.proofs.RuleLemmas.{no_other_equation}
use Rattle.cell_store.proofs.solve.next_equations.Goals as goal

pub returns-then-equations-eq1 : goal.returns-then-equations-eq1
returns-then-equations-eq1 c =
    let old = c.args.pending.now.items in
    let waiting = popped old c.pop.new.self.items c.pop.result _ _ c.pop.ensures.items (omega (arith, c.args.pending.now.ok.0)) c.pop.ensures.cases in
    subst (KeepsRestEquations c.args.equations (reverse old)) (sym waiting) (no_other_equation c.args.equations (reverse old) c.requires.some.0 (omega (arith, c.if-equations-eq1.true)))
