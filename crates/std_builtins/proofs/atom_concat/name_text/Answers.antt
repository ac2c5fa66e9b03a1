use Rattle.std.proofs.Common.{◌∙◌}
use Rattle.std_builtins.proofs.AskedPartLemmas.{nameless}
use Rattle.std_builtins.proofs.atom_concat.name_text.Goals as goal

pub returns-in_default : goal.returns-in_default
returns-in_default c = nameless c.args.term.now (λ a e. c.in_default.not-Atom a (c.top.ensures ∙ e)) (λ a n e. c.in_default.not-Functor a n (c.top.ensures ∙ e))
