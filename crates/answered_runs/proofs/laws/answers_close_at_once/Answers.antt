use Rattle.answered_runs.proofs.AnswerLemmas.{unhalted, closes_at_once}
use Rattle.answered_runs.proofs.FirstLemmas.{leftmost_first, nothing_spent}
use Rattle.answered_runs.proofs.laws.answers_close_at_once.Goals as goal

pub returns : goal.returns
returns c t w a k s f recoveries sound caught run =
    let first = leftmost_first t sound s run.first in
    closes_at_once t w a k s f recoveries run first.clear
    (nothing_spent t caught s first.inside (unhalted t w a k s f recoveries run first.clear))
