-- The sequential run of a job (ISO/IEC 13211-1, 7.7): its text and its ending within a budget.
use Rattle.std.specs.Prelude.{ℕ, zero, suc, List, [], ◌∷◌, Option, Some, None}
use Rattle.run_model.specs.declared.ending.RunEnding.{RunEnding}
use Rattle.run_model.specs.declared.ending.RunEnding.TheVariants.{Finished, Halted, Budget}
use Rattle.run_model.specs.Machine.Entries.{Entry}
use Rattle.run_model.specs.Programs.Jobs.{Job}
use Rattle.run_model.specs.Machine.States.{State, step, with_free_steps, opening}

-- the state after so many inferences and all free steps after them, or the ended state if that came earlier
unfoldable pub seq : Job → ℕ → State
seq job zero = with_free_steps (opening job)
seq job (suc n) = with_free_steps (step job.clauses (seq job n))

abbrev pub text_of : Job → ℕ → List ℕ
text_of job budget = (seq job budget).world.written

-- how a run has ended that has these entries left and was halted by this number
abbrev pub ending_by : List Entry → Option ℕ → RunEnding
ending_by [] None = Finished
ending_by [] (Some k) = Halted k
ending_by (e ∷ es) halted = Budget

abbrev pub ending_of : Job → ℕ → RunEnding
ending_of job budget = ending_by (seq job budget).entries (seq job budget).halted

abbrev pub answers_of : Job → ℕ → ℕ
answers_of job budget = (seq job budget).answers

abbrev pub inferences_of : Job → ℕ → ℕ
inferences_of job budget = (seq job budget).inferences
