use Rattle.std.proofs.Common.{◌-◌, length, IsCharBoundary}
use Rattle.text_load.specs.LoadOutcome.{IsLoadedTo}
use Rattle.text_load.proofs.reading.loaded.Given as goal

abbrev pub invariant-sentences : goal.invariant-sentences
invariant-sentences l = record {
  place : IsCharBoundary l.text l.at;
  read : IsLoadedTo l.text l.at l.loading;
}

abbrev pub decreases-sentences : goal.decreases-sentences
decreases-sentences l = length l.text - l.at
