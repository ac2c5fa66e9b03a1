use Rattle.std.proofs.Common.{◌≡◌, ◌++◌, reverse}
use Rattle.au_term.specs.PrefixOrder.{cells_of}
use Rattle.cell_store.specs.StoreView.{text_in}
use Rattle.cell_store.specs.Arguments.{AllThere, pending_terms, resolved_terms, sizes}
use Rattle.cell_store.specs.WrittenTerms.{cells_left, followed, followed_term}
use Rattle.cell_store.proofs.resolved.resolved.Given as goal

abbrev pub invariant-loop-arguments : goal.invariant-loop-arguments
invariant-loop-arguments l = record {
  same : l.builder ++ cells_left (followed l.follow l.store) (text_in l.store) (reverse l.pending.items) ≡ cells_of (followed_term l.follow l.store l.fn.value);
  there : AllThere (text_in l.store) l.store.now.next (reverse l.pending.items);
}

abbrev pub decreases-loop-arguments : goal.decreases-loop-arguments
decreases-loop-arguments l = sizes (resolved_terms (followed l.follow l.store) (pending_terms (text_in l.store) (reverse l.pending.items)))
