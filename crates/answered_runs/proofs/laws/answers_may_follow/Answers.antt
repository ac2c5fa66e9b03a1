use Rattle.answered_runs.proofs.AnswerLemmas.{are_all_legal}
use Rattle.answered_runs.proofs.FirstLemmas.{leftmost_first}
use Rattle.answered_runs.proofs.laws.answers_may_follow.Goals as goal

pub returns : goal.returns
returns c t w a k s f recoveries sound run = are_all_legal t w a k s f recoveries run (leftmost_first t sound s run.first).clear
