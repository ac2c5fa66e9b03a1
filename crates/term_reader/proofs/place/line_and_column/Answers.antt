use Rattle.std.proofs.Common.{◌≡◌, ◌∙◌, ◌+◌, ◌-◌, ◌^◌, true, false, ◌==◌, arith, sym, ap, min, take}
use Rattle.std.proofs.lemmas.Iterator.{YieldsList-from_chars}
use Rattle.std.proofs.lemmas.Iterator.Consumers.{YieldsList-end}
use Rattle.std.specs.Str.{chars}
use Rattle.term_reader.proofs.LineColumnLemmas.{line-more, line-same, column-first, column-more, place}
use Rattle.term_reader.proofs.TermOutputLemmas.{map_same}
use Rattle.term_reader.proofs.place.line_and_column.Goals as goal

pub loop-c-preserved-then-c-eq10 : goal.loop-c-preserved-then-c-eq10
loop-c-preserved-then-c-eq10 c =
    let ys = c.loop-c.yielded in
    let x = c.in-Some.c in
    let e : (x == 10) ≡ true = grind (arith, c.if-c-eq10.true) in
    record {
      line_is = c.saturating_add-line.ensures ∙ (ap (λ n. min (n + 1) (2 ^ 32 - 1)) c.loop-c.invariant.line_is ∙ sym (line-more ys x e));
      column_is = sym (column-first ys x e);
    }

pub loop-c-preserved : goal.loop-c-preserved
loop-c-preserved c =
    let ys = c.loop-c.yielded in
    let x = c.in-Some.c in
    let e : (x == 10) ≡ false = grind (arith, c.if-c-eq10.false) in
    record {
      line_is = c.loop-c.invariant.line_is ∙ sym (line-same ys x e);
      column_is = c.saturating_add-column.ensures ∙ (ap (λ n. min (n + 1) (2 ^ 32 - 1)) c.loop-c.invariant.column_is ∙ sym (column-more ys x e));
    }

pub returns : goal.returns
returns c =
    let xs = c.loop-c.yielded in
    let t = YieldsList-end (YieldsList-from_chars c.range.result.now c.range.utf8 cc) xs _ c.loop-c.yielded_by _ _ c.in-None.is c.next.ensures.steps in
    let z : c.args.at - 0 ≡ c.args.at = omega arith in
    let front = c.range.ensures.value ∙ ap (λ n. take n c.args.text.now) z in
    place c.args.text.now c.args.at c.loop-c.line c.loop-c.column xs c.utf8.text c.requires (sym (map_same xs) ∙ (t.0 ∙ ap chars front)) c.loop-c.invariant.line_is c.loop-c.invariant.column_is
