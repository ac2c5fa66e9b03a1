use Rattle.std.proofs.Common.{◌≡◌, ◌∙◌, ◌-◌, ◌^◌, ◌+◌, ◌*◌, min, ap, sym, rules, slice_get, None, true, false, arith}
use Rattle.std.specs.Char.{digit_value}
use Rattle.au_model.specs.Syntax.Characters.{chars_from, is_digit_of, run, after_run}
use Rattle.token_scan.proofs.RunLemmas.{after_run-none, after_run-stops, after_run-passes, run-none, run-stops}
use Rattle.token_scan.proofs.CappedNumberLemmas.{number-goes_on, number-stops}
use Rattle.token_scan.proofs.cursor.digits.Goals as goal

pub returns-in_default-to_digit-clause-rest : goal.returns-in_default-to_digit-clause-rest
returns-in_default-to_digit-clause-rest c =
    let fails : is_digit_of c.args.base c.in-Some.c ≡ false = search rules in
    sym (after_run-stops (is_digit_of c.args.base) (chars_from c.args.text.now c.loop-c.end) c.in-Some.c (sym c.in-Some.ensures) fails) ∙ c.loop-c.invariant.rest

pub returns-in_default-to_digit-clause-number : goal.returns-in_default-to_digit-clause-number
returns-in_default-to_digit-clause-number c =
    let fails : is_digit_of c.args.base c.in-Some.c ≡ false = search rules in
    number-stops c.args.base (2 ^ 64 - 1) c.loop-c.number _ (run (is_digit_of c.args.base) (chars_from c.args.text.now c.loop-c.end))
    (run-stops (is_digit_of c.args.base) (chars_from c.args.text.now c.loop-c.end) c.in-Some.c (sym c.in-Some.ensures) fails) c.loop-c.invariant.fits c.loop-c.invariant.number

pub returns-clause-rest : goal.returns-clause-rest
returns-clause-rest c =
    let over : slice_get (chars_from c.args.text.now c.loop-c.end) 0 ≡ None = search rules in
    sym (after_run-none (is_digit_of c.args.base) (chars_from c.args.text.now c.loop-c.end) over) ∙ c.loop-c.invariant.rest

pub returns-clause-number : goal.returns-clause-number
returns-clause-number c =
    let over : slice_get (chars_from c.args.text.now c.loop-c.end) 0 ≡ None = search rules in
    number-stops c.args.base (2 ^ 64 - 1) c.loop-c.number _ (run (is_digit_of c.args.base) (chars_from c.args.text.now c.loop-c.end))
    (run-none (is_digit_of c.args.base) (chars_from c.args.text.now c.loop-c.end) over) c.loop-c.invariant.fits c.loop-c.invariant.number

pub loop-c-preserved : goal.loop-c-preserved
loop-c-preserved c =
    let passes : is_digit_of c.args.base c.in-Some.c ≡ true = search rules in
    let value : c.in-Some-to_digit.digit ≡ digit_value c.in-Some.c = search rules in
    let new : c.saturating_add-number.result ≡ min (min (c.loop-c.number * c.args.base) (2 ^ 64 - 1) + c.in-Some-to_digit.digit) (2 ^ 64 - 1) = cc in
    record {
      fits = omega arith;
      place = search rules;
      rest = sym (after_run-passes (is_digit_of c.args.base) c.in-Some.c (chars_from c.args.text.now c.step-end.result) passes)
          ∙ (ap (after_run (is_digit_of c.args.base)) (sym c.step-end.ensures.rest) ∙ c.loop-c.invariant.rest);
      number = number-goes_on c.args.base (2 ^ 64 - 1) c.loop-c.number c.in-Some-to_digit.digit c.saturating_add-number.result c.in-Some.c _ _ (omega arith)
          c.step-end.ensures.rest passes value new ∙ c.loop-c.invariant.number;
    }
