use Rattle.std.proofs.Common.{◌∙◌, sym, ap, w64, rules}
use Rattle.std.proofs.lemmas.Int.{to_z-of_z}
use mir.Val.{SFits}
use Rattle.au_term.specs.Term.{IntTerm}
use Rattle.au_term.proofs.SubtermLemmas.{integer_of_top}
use Rattle.std_builtins.proofs.TextLemmas.{coded_made}
use Rattle.std_builtins.proofs.atoms.coded.Goals as goal

pub returns-in_ok-copy-in-Some : goal.returns-in_ok-copy-in-Some
returns-in_ok-copy-in-Some c =
    let f : SFits w64 c.in-Int.value = search rules in
    let code = integer_of_top c.args.code.now c.in-Int.value (sym c.top.ensures ∙ c.in-Int.is) ∙ ap IntTerm (sym (to_z-of_z w64 c.in-Int.value f)) in
    coded_made c.args.atom.now c.args.code.now c.in_ok-made-in-Some.made c.in_ok-copy-in-Some.field-0 _ c.in-Some.c c.equal-in-Some.result code c.in-Some.ensures c.in_ok-made-in-Some.ensures c.in_ok-copy-in-Some.ensures c.equal-in-Some.ensures
