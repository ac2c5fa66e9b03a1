use Rattle.std.proofs.Common.{◌∙◌, w64, rules, sym, subst, arith}
use Rattle.std.proofs.lemmas.Iterator.{YieldsList-from_chars}
use Rattle.std.proofs.lemmas.Iterator.Consumers.{YieldsList-end}
use Rattle.std.proofs.lemmas.Int.{to_z-of_z}
use mir.Val.{SFits}
use Rattle.std.proofs.lemmas.List.{length_push}
use Rattle.au_term.specs.declared.cell.Cell.TheVariants.{Int as IntCell}
use Rattle.term_reader.specs.OutputView.{IsOutputOf}
use Rattle.term_reader.specs.TermOutput.{emit_cell, emit_codes}
use Rattle.term_reader.proofs.TermOutputLemmas.{put_codes-last, map_same}
use Rattle.term_reader.proofs.output.TermOutput.each_code.Goals as goal

pub loop-c-preserved : goal.loop-c-preserved
loop-c-preserved c =
    let xs = c.loop-c.yielded in
    let x = c.in-Some.c in
    let f : SFits w64 c.code_of.result = search rules in (
      omega (arith, length_push xs x, c.loop-c.invariant.0, c.in-Some-checked_add.ensures),
      λ s h. subst (λ z. IsOutputOf c.emit.new.self z) (sym (put_codes-last s xs x))
          (subst (λ v. IsOutputOf c.emit.new.self (emit_cell (emit_codes s xs) (IntCell v))) c.code_of.ensures (subst (λ v. IsOutputOf c.emit.new.self (emit_cell (emit_codes s xs) (IntCell v))) (to_z-of_z w64 c.code_of.result f) (c.in_ok-emit.ensures (emit_codes s xs) (c.loop-c.invariant.1 s h)))),
    )

pub returns : goal.returns
returns c = λ s h.
    let xs = c.loop-c.yielded in
    let t = YieldsList-end (YieldsList-from_chars c.args.text.now c.utf8.text cc) xs _ c.loop-c.yielded_by _ _ c.in-None.is c.next.ensures.steps in
    (c.loop-c.invariant.0 ∙ t.1, subst (λ zs. IsOutputOf c.loop-c.self (emit_codes s zs)) (sym (map_same xs) ∙ t.0) (c.loop-c.invariant.1 s h))
