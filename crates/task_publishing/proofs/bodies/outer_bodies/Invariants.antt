use Rattle.public_tree.specs.Publishing.{bodies_view}
use Rattle.task_publishing.proofs.MadeLemmas.{BodiesUpTo}
use Rattle.task_publishing.proofs.bodies.outer_bodies.Given as goal

abbrev pub invariant-loop-choice : goal.invariant-loop-choice
invariant-loop-choice l = BodiesUpTo l.goals l.fn.choices.items l.choice-iterator.rest.items (bodies_view l.bodies.items)
