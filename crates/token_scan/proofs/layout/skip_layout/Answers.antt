use Rattle.std.proofs.Common.{◌≡◌, ◌∙◌, ◌==◌, ◌&&◌, true, false, None, slice_get, rules, arith}
use Rattle.au_model.specs.Syntax.Characters.{chars_from, is_blank, first_is}
use Rattle.token_scan.proofs.LayoutLemmas.{layout-blank, layout-line, layout-comment, layout-unclosed, layout-none, layout-end}
use Rattle.token_scan.proofs.layout.skip_layout.Goals as goal
use Rattle.token_scan.proofs.layout.skip_layout.Goals.{else-c-eq47-via-then-c-eq47+else-is_next, else-c-eq47-via-else-c-eq47}

pub loop-c-preserved-then-is_blank : goal.loop-c-preserved-then-is_blank
loop-c-preserved-then-is_blank c =
    let h : is_blank c.in-Some.c ≡ true = search rules in (
      (omega (arith, c.loop-c.invariant.0.0, c.step-after.ensures.place), c.step-after.ensures.boundary),
      c.loop-c.invariant.1 ∙ layout-blank c.step-after.ensures.rest h,
    )

pub loop-c-preserved-then-c-eq37 : goal.loop-c-preserved-then-c-eq37
loop-c-preserved-then-c-eq37 c =
    let h : c.in-Some.c ≡ 37 = search rules in (
      (omega (arith, c.loop-c.invariant.0.0, c.step-after.ensures.place, c.run_end-here.ensures.place.0), c.run_end-here.ensures.place.1),
      c.loop-c.invariant.1 ∙ layout-line c.step-after.ensures.rest h c.run_end-here.ensures.rest,
    )

pub returns-in-None-clause-unclosed : goal.returns-in-None-clause-unclosed
returns-in-None-clause-unclosed c =
    let h : c.in-Some.c ≡ 47 = search rules in
    c.loop-c.invariant.1 ∙ layout-unclosed c.step-after.ensures.rest h c.step.ensures.rest c.in-None.ensures.none

pub loop-c-preserved : goal.loop-c-preserved
loop-c-preserved c =
    let h : c.in-Some.c ≡ 47 = search rules in (
      (omega (arith, c.loop-c.invariant.0.0, c.step-after.ensures.place, c.step.ensures.place, c.in-Some-comment_end.ensures.place.0), c.in-Some-comment_end.ensures.place.1),
      c.loop-c.invariant.1 ∙ layout-comment c.step-after.ensures.rest h c.step.ensures.rest c.in-Some-comment_end.ensures.some,
    )

pub returns-else-c-eq47-clause-clear : goal.returns-else-c-eq47-clause-clear
returns-else-c-eq47-clause-clear c =
    let a : is_blank c.in-Some.c ≡ false = search rules in
    let b : (c.in-Some.c == 37) ≡ false = search rules in
    let d : ((c.in-Some.c == 47) && first_is 42 (chars_from c.args.text.now c.step-after.result)) ≡ false =
    elim c.else-c-eq47.branch [ else-c-eq47-via-then-c-eq47+else-is_next w ↦ search rules | else-c-eq47-via-else-c-eq47 w ↦ search rules ] in
    c.loop-c.invariant.1 ∙ layout-none c.step-after.ensures.rest a b d

pub returns-clause-clear : goal.returns-clause-clear
returns-clause-clear c =
    let over : slice_get (chars_from c.args.text.now c.loop-c.here) 0 ≡ None = search rules in
    c.loop-c.invariant.1 ∙ layout-end (chars_from c.args.text.now c.loop-c.here) over
