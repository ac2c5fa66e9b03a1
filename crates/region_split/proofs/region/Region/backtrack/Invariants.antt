use Rattle.std.proofs.Common.{◌≡◌, List}
use Rattle.au_model.specs.Terms.Named.{NamedTerm}
use Rattle.region_split.specs.ChoicePoints.{all_takes_left}
use Rattle.region_split.specs.Regions.{entries_of}
use Rattle.region_split.specs.Backtracking.{without_catches}
use Rattle.region_split.proofs.region.Region.backtrack.Given as goal

abbrev pub invariant-loop-self : goal.invariant-loop-self
invariant-loop-self l = ((named : List NamedTerm) → without_catches (entries_of named l.fn.self) ≡ without_catches (entries_of named l.self)) × ((l.self.text ≡ l.fn.self.text) × (l.self.store.floor ≡ l.fn.self.store.floor))

abbrev pub decreases-loop-self : goal.decreases-loop-self
decreases-loop-self l = all_takes_left l.self.text.heads l.self.choices
