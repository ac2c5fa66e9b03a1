use Rattle.std.proofs.Common.{sym, ap, ◌∙◌}
use Rattle.au_term.specs.PrefixOrder.{due_after}
use Rattle.au_term.proofs.WholeTermLemmas.{due_after-is}
use Rattle.au_term.proofs.builder.TermBuilder.missing.Goals as goal

pub returns : goal.returns
returns c = sym (due_after-is 1 c.self.inside.cells.items c.self.inside.due c.self.invariant.0.leaves) ∙ ap (due_after 1) c.self.view_is
