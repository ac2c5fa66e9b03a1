use Rattle.std.proofs.Common.{◌-◌, List, ℕ, length}
use Rattle.au_model.specs.Syntax.Characters.{chars_from}
use Rattle.token_scan.specs.ScannedParts.{IsPlaceFrom}
use Rattle.token_scan.proofs.QuotedItemLemmas.{Gone}
use Rattle.token_scan.proofs.quotes.quoted_end.Given as goal

abbrev pub invariant-parts : goal.invariant-parts
invariant-parts l = IsPlaceFrom l.text l.at l.here × ((done : List ℕ) × Gone l.quote (chars_from l.text l.at) done (chars_from l.text l.here))

abbrev pub decreases-parts : goal.decreases-parts
decreases-parts l = length l.text - l.here
