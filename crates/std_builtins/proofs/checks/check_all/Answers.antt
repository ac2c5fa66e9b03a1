use Rattle.std.proofs.Common.{◌∙◌, ◌<◌, ◌≤◌, sym, ap, subst, map, refl, Err}
use Rattle.std.proofs.lemmas.List.{get_or-map, length-map}
use Rattle.std_builtins.specs.Checks.{check_test, check_error}
use Rattle.std_builtins.proofs.CheckLemmas.{each_passes, each_fails, each_over}
use Rattle.std_builtins.proofs.checks.check_all.Goals as goal

pub loop-term-init : goal.loop-term-init
loop-term-init c = λ a. refl

pub returns-then-not-passes : goal.returns-then-not-passes
returns-then-not-passes c = λ a.
    let ts = c.args.terms.now in
    let i = c.loop-term.term-index in
    let t = c.term-item.result in
    let lt = subst (λ n. i < n) (sym (length-map ts (λ t. t.now))) c.loop-term-test.true in
    let is = ap (λ t. t.now) c.term-item.is ∙ sym (get_or-map (λ t. t.now) ts i t t.now c.loop-term-test.true) in
    c.loop-term.invariant a
    ∙ (each_fails (check_test c.args.check) (check_error c.args.check) (map (λ t. t.now) ts) i t.now a lt is (sym c.passes.ensures ∙ c.if-not-passes.true) ∙ ap Err c.in_ok-fault.ensures)

pub loop-term-preserved : goal.loop-term-preserved
loop-term-preserved c = λ a.
    let ts = c.args.terms.now in
    let i = c.loop-term.term-index in
    let t = c.term-item.result in
    let lt = subst (λ n. i < n) (sym (length-map ts (λ t. t.now))) c.loop-term-test.true in
    let is = ap (λ t. t.now) c.term-item.is ∙ sym (get_or-map (λ t. t.now) ts i t t.now c.loop-term-test.true) in
    c.loop-term.invariant a ∙ each_passes (check_test c.args.check) (check_error c.args.check) (map (λ t. t.now) ts) i t.now a lt is (sym c.passes.ensures ∙ c.if-not-passes.false)

pub returns : goal.returns
returns c = λ a.
    let ts = c.args.terms.now in
    c.loop-term.invariant a ∙ each_over (check_test c.args.check) (check_error c.args.check) (map (λ t. t.now) ts) c.loop-term.term-index a (subst (λ n. n ≤ c.loop-term.term-index) (sym (length-map ts (λ t. t.now))) c.loop-term-test.false)
