use Rattle.cell_store.specs.Arguments.{sizes}
use Rattle.cell_store.specs.StoreView.{meaning}
use Rattle.meta_call.proofs.BodyLemmas.{left_terms, IsOwnWith}
use Rattle.meta_call.proofs.bodies.is_own_body.Given as goal

abbrev pub invariant-loop-next : goal.invariant-loop-next
invariant-loop-next l = IsOwnWith l.store (meaning l.store l.fn.value) l.next l.pending.items

abbrev pub decreases-loop-next : goal.decreases-loop-next
decreases-loop-next l = sizes (left_terms l.store l.next l.pending.items)
