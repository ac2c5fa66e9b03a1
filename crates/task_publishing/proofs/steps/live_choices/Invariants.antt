use Rattle.task_publishing.proofs.LiveLemmas.{AreLiveUpTo}
use Rattle.task_publishing.proofs.steps.live_choices.Given as goal

abbrev pub invariant-loop-choice : goal.invariant-loop-choice
invariant-loop-choice l = AreLiveUpTo l.fn.base l.fn.choices.items l.choice-iterator.rest.items l.live
