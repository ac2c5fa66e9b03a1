-- Each event keeps the marks, records and queries of a tree.
use Rattle.std.proofs.Common.{false, true}
use Rattle.tree_model.specs.Events.{Claim, Nodes, Empty, Collected, Lost, Suspend, Resume, Prune, Answer, Stop}
use Rattle.interleaving.specs.HistoryInvariants.{PreservesCaught, IsAny}
use Rattle.interleaving.proofs.GoingLemmas.{legal_parts}
use Rattle.interleaving.proofs.CaughtHoldLemmas.{claim_caught, resume_caught, suspend_caught, lost_caught, stop_caught}
use Rattle.interleaving.proofs.CaughtTakenLemmas.{prune_caught, answer_caught, empty_caught, collected_caught}
use Rattle.interleaving.proofs.CaughtPublishLemmas.{publish_caught}
use Rattle.au_term.proofs.LogicLemmas.{false_true}

pub caught_preserved : PreservesCaught IsAny
caught_preserved t (Claim w a) o i q l = claim_caught t q w a
caught_preserved t (Resume w a) o i q l = resume_caught t q w a
caught_preserved t (Suspend w a frozen) o i q l = suspend_caught t q w a frozen
caught_preserved t (Lost w a) o i q l = lost_caught t q w a
caught_preserved t (Stop w) o i q l = stop_caught t q w
caught_preserved t (Nodes w a k sizes) o i q l = publish_caught t w a k sizes i q l
caught_preserved t (Empty w a k) o i q l = empty_caught t i q w a k l
caught_preserved t (Collected w a k) o i q l = collected_caught t i q w a k l
caught_preserved t (Prune w a) o i q l = prune_caught t i q w a l
caught_preserved t (Answer w a false) o i q l = answer_caught t i q w a l
caught_preserved t (Answer w a true) o i q l = false_true (legal_parts t (Answer w a true) l).1
