use Rattle.std.proofs.Common.{◌∙◌, sym, ap, Err}
use Rattle.std_builtins.specs.Checks.{check_test, check_error}
use Rattle.std_builtins.proofs.CheckLemmas.{each_passes, each_fails, each_over}
use Rattle.std_builtins.proofs.checks.check_each.Goals as goal

pub returns-then-not-passes : goal.returns-then-not-passes
returns-then-not-passes c = λ a.
    c.loop-term.invariant a
    ∙ (each_fails (check_test c.args.check) (check_error c.args.check) c.args.terms.now c.loop-term.term-index c.term-item.result a c.loop-term-test.true c.term-item.is (sym c.passes.ensures ∙ c.if-not-passes.true) ∙ ap Err c.in_ok-fault.ensures)

pub loop-term-preserved : goal.loop-term-preserved
loop-term-preserved c = λ a.
    c.loop-term.invariant a ∙ each_passes (check_test c.args.check) (check_error c.args.check) c.args.terms.now c.loop-term.term-index c.term-item.result a c.loop-term-test.true c.term-item.is (sym c.passes.ensures ∙ c.if-not-passes.false)

pub returns : goal.returns
returns c = λ a. c.loop-term.invariant a ∙ each_over (check_test c.args.check) (check_error c.args.check) c.args.terms.now c.loop-term.term-index a c.loop-term-test.false
