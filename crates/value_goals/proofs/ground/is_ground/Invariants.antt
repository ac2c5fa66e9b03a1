use Rattle.std.proofs.Common.{◌≡◌, reverse}
use Rattle.run_model.specs.Goals.TermTests.{is_ground}
use Rattle.cell_store.specs.Arguments.{AllThere, sizes}
use Rattle.cell_store.specs.StoreView.{meaning, text_in}
use Rattle.value_goals.specs.GroundTerms.{are_ground, terms_left}
use Rattle.value_goals.proofs.ground.is_ground.Given as goal

abbrev pub invariant-loop-arguments : goal.invariant-loop-arguments
invariant-loop-arguments l = record {
  same : are_ground (terms_left l.store (reverse l.pending.items)) ≡ is_ground (meaning l.store l.fn.value);
  there : AllThere (text_in l.store) l.store.now.next (reverse l.pending.items);
}

abbrev pub decreases-loop-arguments : goal.decreases-loop-arguments
decreases-loop-arguments l = sizes (terms_left l.store (reverse l.pending.items))
