-- What is said of every run.
use Rattle.std.specs.Prelude.{◌≡◌, ◌≢◌, ℕ, ◌+◌, ◌≤◌, List, [], ◌++◌, Some}
use Rattle.run_model.specs.declared.ending.RunEnding.TheVariants.{Budget}
use Rattle.run_model.specs.Programs.Jobs.{Job}
use Rattle.run_model.specs.Machine.Runs.{seq, text_of, ending_of, answers_of, inferences_of}

-- these bytes begin those
pub record IsPrefixOf (front whole : List ℕ) : Type 0 where
  pub rest : List ℕ
  pub joined : whole ≡ front ++ rest

-- a run that has ended stays as it ended
abbrev pub EndedRunStays : Job → Type 0
EndedRunStays job = (n k : ℕ) → (seq job n).entries ≡ [] → seq job (n + k) ≡ seq job n

-- what was written stays written
abbrev pub TextGrows : Job → Type 0
TextGrows job = (n k : ℕ) → IsPrefixOf (text_of job n) (text_of job (n + k))

-- the budget stops a run exactly where it has not ended by then; until then each inference counts once
pub record IsStopped (job : Job) (n : ℕ) : Type 0 where
  pub stopped : (seq job n).entries ≢ [] → ending_of job n ≡ Budget
  pub ended : (seq job n).entries ≡ [] → ending_of job n ≢ Budget
  pub counted : (seq job n).entries ≢ [] → inferences_of job n ≡ n
  pub within : inferences_of job n ≤ n
  pub answered : answers_of job n ≤ inferences_of job n
  -- only a run that has ended was halted
  pub halted : (k : ℕ) → (seq job n).halted ≡ Some k → (seq job n).entries ≡ []
