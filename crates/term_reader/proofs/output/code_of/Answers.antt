use Rattle.std.proofs.Common.{◌∙◌, pos, ap, w64, rules}
use Rattle.std.proofs.lemmas.Int.{to_z-of_z}
use mir.Val.{SFits}
use Rattle.term_reader.proofs.output.code_of.Goals as goal

pub returns : goal.returns
returns c =
    let f : SFits w64 c.from-2.result = search rules in
    to_z-of_z w64 c.from-2.result f ∙ (c.from-2.ensures ∙ ap pos c.from.ensures)
