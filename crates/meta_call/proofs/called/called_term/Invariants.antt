use Rattle.std.proofs.Common.{[], reverse}
use Rattle.cell_store.specs.StoreView.{text_in}
use Rattle.cell_store.specs.Arguments.{pending_terms, resolved_terms, sizes}
use Rattle.meta_call.specs.CalledTerms.{HasBegun}
use Rattle.meta_call.proofs.called.called_term.Given as goal

abbrev pub invariant-loop-arguments : goal.invariant-loop-arguments
invariant-loop-arguments l = HasBegun l.store l.fn.callee l.fn.further l.builder l.pending.items

abbrev pub decreases-loop-arguments : goal.decreases-loop-arguments
decreases-loop-arguments l = sizes (resolved_terms [] (pending_terms (text_in l.store) (reverse l.pending.items)))
