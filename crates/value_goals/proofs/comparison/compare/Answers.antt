use Rattle.std.proofs.Common.{reverse, ap, ◌∙◌}
use Rattle.cell_store.proofs.WalkLemmas.{turned}
use Rattle.value_goals.proofs.ComparisonLemmas.{popped_smaller}
use Rattle.value_goals.proofs.comparison.compare.Goals as goal

pub loop-deeper-smaller : goal.loop-deeper-smaller
loop-deeper-smaller c =
    popped_smaller c.args.store.now c.loop-deeper.inside c.in-Some.equations (reverse c.loop-deeper.pending.items) (reverse c.pop.new.self.items) c.loop-deeper.invariant.there (ap reverse c.in-Some.ensures.items ∙ turned c.pop.new.self.items c.in-Some.equations)
