use Rattle.interleaving.proofs.ListChangeLemmas.{done_early, quiet_early, taken_early, woken_early, collected_early}
use Rattle.interleaving.proofs.EarlyLawLemmas.{same_alone}
use Rattle.interleaving.proofs.laws.lists.segments_run_early.Goals as goal

pub returns : goal.returns
returns c = record {
  early = done_early;
  same = same_alone;
  quiet = quiet_early;
  taken = taken_early;
  woken = woken_early;
  collected = collected_early;
}
