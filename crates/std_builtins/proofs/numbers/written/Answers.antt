use Rattle.std.proofs.Common.{◌∙◌, sym, ap, w64, rules}
use Rattle.std.specs.Fmt.{signed_decimal}
use Rattle.std.proofs.lemmas.Int.{to_z-of_z}
use mir.Val.{SFits}
use Rattle.std.proofs.lemmas.Str.{chars-IsAscii}
use Rattle.std_builtins.specs.Meanings.{spelling_meant}
use Rattle.au_term.proofs.SubtermLemmas.{integer_of_top}
use Rattle.std_builtins.proofs.TextLemmas.{integer_written}
use Rattle.std_builtins.proofs.numbers.written.Goals as goal

pub returns-in_ok-copy-in-Int : goal.returns-in_ok-copy-in-Int
returns-in_ok-copy-in-Int c = λ f some.
    let fits : SFits w64 c.in-Int.value = search rules in
    integer_written (spelling_meant c.args.by) c.args.number.now c.args.list.now f c.in-Int.value c.in_ok-copy-in-Int.field-0 c.in_ok-found-in-Int.found c.format.result.now c.equal.result (integer_of_top c.args.number.now c.in-Int.value (sym c.top.ensures ∙ c.in-Int.is)) some
    (chars-IsAscii c.format.result.now c.format.ensures.ascii ∙ (c.format.ensures.text ∙ ap signed_decimal (to_z-of_z w64 c.in-Int.value fits))) c.in_ok-found-in-Int.ensures c.in_ok-copy-in-Int.ensures c.equal.ensures
