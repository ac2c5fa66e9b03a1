use Rattle.std.proofs.Common.{nat_eq, ap, ◌∙◌}
use Rattle.std.specs.Cmp.Lexicographic.{pointwise}
use Rattle.au_term.proofs.atom.Atom.is_text.Goals as goal

pub returns : goal.returns
returns c = c.is_text.ensures ∙ ap (λ name. pointwise nat_eq name c.args.text.now) c.text.ensures
