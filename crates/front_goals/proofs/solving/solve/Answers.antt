use Rattle.std.proofs.Common.{◌+◌, drop, take, sym, ap, ◌∙◌, subst}
use Rattle.au_model.specs.Terms.Unifier.{unifier}
use Rattle.cell_store.specs.StoreView.{text_in}
use Rattle.cell_store.specs.UnificationSteps.{IsUnified}
use Rattle.cell_store.proofs.UndoingLemmas.{each_at}
use Rattle.region_split.specs.Solutions.{equation_meant, IsEquationAt}
use Rattle.region_split.specs.SolutionTrials.{AreAllSolved, equations_here}
use Rattle.region_split.proofs.SolvedLemmas.{none_solved, one_more, no_more, front_equations, all_equations}
use Rattle.front_goals.proofs.TrialLemmas.{kept_on, nothing_lost}
use Rattle.front_goals.proofs.solving.solve.Goals as goal

pub loop-equation-init : goal.loop-equation-init
loop-equation-init c = record { solved = none_solved c.args.region.now; keeps = nothing_lost c.args.region.now.store }

pub returns-then-not-branch-clause-solves : goal.returns-then-not-branch-clause-solves
returns-then-not-branch-clause-solves c =
    let r0 = c.args.region.now in
    let es = c.args.equations.now in
    let i = c.loop-equation.equation-index in
    let e = c.equation-item.result in
    let there = each_at (IsEquationAt (text_in r0.store) r0.store.now.next r0.store.now.next) es i e c.requires c.loop-equation-test.true c.equation-item.is in
    let fails = no_more r0 c.loop-equation.region (equations_here r0 (take i es)) c.loop-equation.invariant.solved e there c.side.new.region c.side-in-loop-equation.new.region c.unify.new.self c.in_ok-left.left c.in_ok-right.right c.in_ok-left.ensures.text c.in_ok-left.ensures.stays c.in_ok-right.ensures.text c.in_ok-right.ensures.stays c.in_ok-left.ensures.there c.in_ok-left.ensures.term c.in_ok-right.ensures.term c.in_ok-unify.ensures.kept c.in_ok-unify.ensures.stays (equations_here r0 (drop (i + 1) es))
    (subst (IsUnified c.in_ok-left.left c.in_ok-right.right c.side-in-loop-equation.new.region.store c.unify.new.self.store) c.if-not-branch.true c.in_ok-unify.ensures.unified) in
    (ap unifier (all_equations (equation_meant (text_in r0.store) r0.store.now.bound) es i e c.loop-equation-test.true c.equation-item.is) ∙ fails.0, fails.1)

pub loop-equation-preserved : goal.loop-equation-preserved
loop-equation-preserved c =
    let r0 = c.args.region.now in
    let es = c.args.equations.now in
    let i = c.loop-equation.equation-index in
    let e = c.equation-item.result in
    let there = each_at (IsEquationAt (text_in r0.store) r0.store.now.next r0.store.now.next) es i e c.requires c.loop-equation-test.true c.equation-item.is in
    record {
      solved =
          subst (AreAllSolved r0 c.unify.new.self) (sym (front_equations (equation_meant (text_in r0.store) r0.store.now.bound) es i e c.loop-equation-test.true c.equation-item.is))
          (one_more r0 c.loop-equation.region (equations_here r0 (take i es)) c.loop-equation.invariant.solved e there c.side.new.region c.side-in-loop-equation.new.region c.unify.new.self c.in_ok-left.left c.in_ok-right.right c.in_ok-left.ensures.text c.in_ok-left.ensures.stays c.in_ok-right.ensures.text c.in_ok-right.ensures.stays c.in_ok-left.ensures.there c.in_ok-left.ensures.term c.in_ok-right.ensures.term c.in_ok-unify.ensures.kept c.in_ok-unify.ensures.stays
          (subst (IsUnified c.in_ok-left.left c.in_ok-right.right c.side-in-loop-equation.new.region.store c.unify.new.self.store) c.if-not-branch.false c.in_ok-unify.ensures.unified));
      keeps =
          kept_on r0.store c.loop-equation.region.store c.side.new.region.store c.side-in-loop-equation.new.region.store c.unify.new.self.store c.loop-equation.invariant.keeps
          c.in_ok-left.ensures.text c.in_ok-right.ensures.text c.in_ok-unify.ensures.kept;
    }

pub returns-then-not-branch-clause-keeps : goal.returns-then-not-branch-clause-keeps
returns-then-not-branch-clause-keeps c =
    kept_on c.args.region.now.store c.loop-equation.region.store c.side.new.region.store c.side-in-loop-equation.new.region.store c.unify.new.self.store c.loop-equation.invariant.keeps
    c.in_ok-left.ensures.text c.in_ok-right.ensures.text c.in_ok-unify.ensures.kept
