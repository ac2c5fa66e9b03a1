use Rattle.std.proofs.Common.{◌∙◌}
use Rattle.au_term.proofs.TextLemmas.{by_chars}
use Rattle.arith_eval.proofs.functions.is_named.Goals as goal

pub returns : goal.returns
returns c = c.eq.ensures ∙ by_chars c.args.row.now c.args.name.now c.utf8.row c.utf8.name
