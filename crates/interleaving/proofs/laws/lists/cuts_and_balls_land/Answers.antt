use Rattle.interleaving.proofs.ListChangeLemmas.{taken_in_front, records_given}
use Rattle.interleaving.proofs.FrontLawLemmas.{cut_in_place}
use Rattle.interleaving.proofs.laws.lists.cuts_and_balls_land.Goals as goal

pub returns : goal.returns
returns c = record { cut = cut_in_place; front = taken_in_front; given = records_given }
