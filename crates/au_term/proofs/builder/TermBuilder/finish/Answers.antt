use Rattle.std.proofs.Common.{sym, ap, ◌∙◌}
use Rattle.au_term.specs.PrefixOrder.{due_after}
use Rattle.au_term.proofs.WholeTermLemmas.{due_after-is}
use Rattle.au_term.proofs.builder.TermBuilder.finish.Goals as goal

pub with_places-requires-clause-whole : goal.with_places-requires-clause-whole
with_places-requires-clause-whole c =
    let none_due = sym (due_after-is 1 c.self.inside.cells.items c.self.inside.due c.self.invariant.0.leaves) ∙ (ap (due_after 1) c.self.view_is ∙ c.requires) in
    record { leaves = rw none_due at c.self.invariant.0.leaves; sound = c.self.invariant.0.sound }
