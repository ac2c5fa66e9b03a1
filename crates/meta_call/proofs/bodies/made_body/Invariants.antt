use Rattle.cell_store.specs.Arguments.{sizes}
use Rattle.cell_store.specs.StoreView.{meaning}
use Rattle.meta_call.specs.OwnBodies.{pending_meanings}
use Rattle.meta_call.proofs.BodyLemmas.{AreKept}
use Rattle.meta_call.proofs.bodies.made_body.Given as goal

abbrev pub invariant-loop-value : goal.invariant-loop-value
invariant-loop-value l = AreKept l.store (meaning l.store l.fn.value) l.builder l.pending.items

abbrev pub decreases-loop-value : goal.decreases-loop-value
decreases-loop-value l = sizes (pending_meanings l.store l.pending.items)
