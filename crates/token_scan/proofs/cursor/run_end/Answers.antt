use Rattle.std.proofs.Common.{◌≡◌, ◌∙◌, sym, rules, slice_get, None, false}
use Rattle.au_model.specs.Syntax.Characters.{chars_from}
use Rattle.token_scan.specs.ScannedParts.{passes}
use Rattle.token_scan.proofs.RunLemmas.{after_run-none, after_run-stops}
use Rattle.token_scan.proofs.cursor.run_end.Goals as goal

pub returns-then-not-passes-clause-rest : goal.returns-then-not-passes-clause-rest
returns-then-not-passes-clause-rest c =
    let fails : passes c.args.class c.in-Some.c ≡ false = search rules in
    sym (after_run-stops (passes c.args.class) (chars_from c.args.text.now c.loop-c.end) c.in-Some.c (sym c.in-Some.ensures) fails) ∙ c.loop-c.invariant.1

pub returns-clause-rest : goal.returns-clause-rest
returns-clause-rest c =
    let over : slice_get (chars_from c.args.text.now c.loop-c.end) 0 ≡ None = search rules in
    sym (after_run-none (passes c.args.class) (chars_from c.args.text.now c.loop-c.end) over) ∙ c.loop-c.invariant.1
