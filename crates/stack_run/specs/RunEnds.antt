-- How a run ends.
use Rattle.std.specs.Prelude.{◌≡◌, ℕ, List, Option}
use Rattle.run_model.specs.Programs.Jobs.{Job}
use Rattle.run_model.specs.Machine.Runs.{text_of, ending_of, answers_of, inferences_of}
use Rattle.run_model.specs.declared.ending.RunEnding.{RunEnding}
use Rattle.run_model.specs.declared.ending.RunEnding.TheVariants.{Finished, Halted, Budget, WriteFault, NoMemory}
use Rattle.run_model.specs.declared.ending.RunEnd.{RunEnd}
use Rattle.au_io.specs.FaultCounts.{Appended, AppendedPrefix}

-- the ending, the bytes and the numbers of the run within the budget
pub record IsWholeRun (job : Job) (budget : ℕ) (before after : Option (List ℕ)) (r : RunEnd) : Type 0 where
  pub ended : r.end ≡ ending_of job budget
  pub bytes : Appended before after (text_of job budget)
  pub answers : r.answers ≡ answers_of job budget
  pub inferences : r.inferences ≡ inferences_of job budget

-- a front of the bytes, and no numbers
pub record IsCutShort (job : Job) (budget : ℕ) (before after : Option (List ℕ)) (r : RunEnd) : Type 0 where
  pub bytes : AppendedPrefix before after (text_of job budget)
  pub answers : r.answers ≡ 0
  pub inferences : r.inferences ≡ 0

-- a run ends as the definition says, but where the outside or memory cuts it short
abbrev pub IsRunBy : RunEnding → Job → ℕ → Option (List ℕ) → Option (List ℕ) → RunEnd → Type 0
IsRunBy Finished job budget before after r = IsWholeRun job budget before after r
IsRunBy (Halted k) job budget before after r = IsWholeRun job budget before after r
IsRunBy Budget job budget before after r = IsWholeRun job budget before after r
IsRunBy WriteFault job budget before after r = IsCutShort job budget before after r
IsRunBy NoMemory job budget before after r = IsCutShort job budget before after r

abbrev pub IsRun : Job → ℕ → Option (List ℕ) → Option (List ℕ) → RunEnd → Type 0
IsRun job budget before after r = IsRunBy r.end job budget before after r
