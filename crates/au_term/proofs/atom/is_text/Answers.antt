use Rattle.std.proofs.Common.{nat_eq, ap, ◌∙◌}
use Rattle.std.proofs.lemmas.Str.{chars-IsAscii, IsUtf8-from_ascii}
use Rattle.std.specs.Cmp.Lexicographic.{pointwise}
use Rattle.std.specs.Str.{chars}
use Rattle.au_term.proofs.TextLemmas.{by_chars}
use Rattle.au_term.proofs.atom.is_text.Goals as goal

pub returns : goal.returns
returns c =
    let text = c.args.text.now in
    let name = c.args.name.now in
    c.eq.ensures ∙ (by_chars name text c.utf8.name (IsUtf8-from_ascii text c.requires) ∙ ap (pointwise nat_eq (chars name)) (chars-IsAscii text c.requires))
