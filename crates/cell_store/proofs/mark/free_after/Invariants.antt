use Rattle.std.proofs.Common.{◌≡◌, ◌<◌, length, take, drop}
use Rattle.au_model.specs.Terms.Each.{Each}
use Rattle.cell_store.specs.Undoing.{freed}
use Rattle.cell_store.proofs.mark.free_after.Given as goal

abbrev pub invariant-loop-trail : goal.invariant-loop-trail
invariant-loop-trail l = record {
  there : Each (λ v. v < length l.cells) l.trail.items;
  trail : take l.kept l.trail.items ≡ take l.kept l.initial.trail.items;
  cells : freed (drop l.kept l.trail.items) l.cells ≡ freed (drop l.kept l.initial.trail.items) l.initial.cells;
}

abbrev pub decreases-loop-trail : goal.decreases-loop-trail
decreases-loop-trail l = length l.trail.items
