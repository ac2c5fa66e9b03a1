-- How the program ends.
use Rattle.std.specs.Prelude.{◌≡◌, ◌⊎◌, ℕ, ◌<◌, ◌≤◌, List, length, Option, IfSome}
use Rattle.run_model.specs.declared.ending.Ending.{Ending}
use Rattle.run_model.specs.declared.ending.Ending.TheVariants.{Finished, Halted, Budget, Refused, TooLong, Usage, ReadFault, WriteFault, NoMemory}
use Rattle.run_model.specs.declared.ending.RunEnding.{RunEnding}
use Rattle.run_model.specs.declared.ending.RunEnding.TheVariants.{Finished as RanOut, Halted as RanToHalt, Budget as RanToBudget, WriteFault as RanToFault, NoMemory as RanFull}
use Rattle.au_model.specs.declared.types.FaultKind.{FaultKind}
use Rattle.run_model.specs.Machine.Runs.{text_of, ending_of}
use Rattle.au_io.specs.FaultCounts.{Appended, AppendedPrefix, Increased}
use Rattle.run_model.specs.Programs.Jobs.{Job}
use Rattle.aurora_cli.specs.ProgramTexts.{StandsFor, IsRefusedText}
use Rattle.aurora_cli.specs.CommandWords.{Asked}

-- the ending of a run is the program's
abbrev pub ending_after : RunEnding → Ending
ending_after RanOut = Finished
ending_after (RanToHalt k) = Halted k
ending_after RanToBudget = Budget
ending_after RanToFault = WriteFault
ending_after RanFull = NoMemory

-- a text was read: the one that the shelf held, where it tells
abbrev pub IsTextRead : Option (List ℕ) → List ℕ → Type 0
IsTextRead held text = IfSome held (λ told. text ≡ told)

-- a text was read, and stands for a job
pub record IsJobLoaded (held : Option (List ℕ)) (job : Job) : Type 0 where
  pub text : List ℕ
  pub read : IsTextRead held text
  pub stands : StandsFor text job

-- a text was read, and is refused so
pub record IsTextReadRefused (held : Option (List ℕ)) (line column : ℕ) (kind : FaultKind) : Type 0 where
  pub text : List ℕ
  pub read : IsTextRead held text
  pub refused : IsRefusedText text line column kind

-- the ending is that of the run of the text's job within the budget, and the bytes are that run's
pub record IsRunOf (held : Option (List ℕ)) (budget : ℕ) (before ending_of_run : Option (List ℕ)) (e : Ending) : Type 0 where
  pub job : Job
  pub loaded : IsJobLoaded held job
  pub ends : e ≡ ending_after (ending_of job budget)
  pub bytes : Appended before ending_of_run (text_of job budget)

-- the bytes are a front of those of that run
pub record IsPrefixOfRun (held : Option (List ℕ)) (budget : ℕ) (before ending_of_run : Option (List ℕ)) : Type 0 where
  pub job : Job
  pub loaded : IsJobLoaded held job
  pub bytes : AppendedPrefix before ending_of_run (text_of job budget)

-- what each ending says of the text that was asked for, the budget, and the bytes that the sink took
abbrev pub EndsBy : Ending → Option (List ℕ) → ℕ → Option (List ℕ) → Option (List ℕ) → Type 0
EndsBy Finished held budget before ending_of_run = IsRunOf held budget before ending_of_run Finished
EndsBy (Halted k) held budget before ending_of_run = IsRunOf held budget before ending_of_run (Halted k)
EndsBy Budget held budget before ending_of_run = IsRunOf held budget before ending_of_run Budget
EndsBy WriteFault held budget before ending_of_run = IsPrefixOfRun held budget before ending_of_run
EndsBy NoMemory held budget before ending_of_run = (before ≡ ending_of_run) ⊎ IsPrefixOfRun held budget before ending_of_run
EndsBy (Refused line column kind) held budget before ending_of_run = IsTextReadRefused held line column kind × (before ≡ ending_of_run)
EndsBy TooLong held budget before ending_of_run = before ≡ ending_of_run
EndsBy (Usage kind) held budget before ending_of_run = before ≡ ending_of_run
EndsBy ReadFault held budget before ending_of_run = before ≡ ending_of_run

-- a text that stands for a job and is not too long is run, unless memory runs out
abbrev pub IsComplete : Ending → ℕ → List ℕ → Type 0
IsComplete e budget text = (job : Job) → length text ≤ 16777216 → StandsFor text job → (e ≡ ending_after (ending_of job budget)) ⊎ (e ≡ NoMemory)

-- the same of a command, by what the shelf held
abbrev pub IsCompleteFor : (List ℕ → Option (List ℕ)) → Ending → Asked → Type 0
IsCompleteFor held e asked = IfSome (held asked.file) (IsComplete e asked.budget)

-- a text that is refused or too long is answered so, unless memory runs out
pub record IsRefusedAs (e : Ending) (text : List ℕ) : Type 0 where
  pub refused : (line column : ℕ) (kind : FaultKind) → length text ≤ 16777216 → IsRefusedText text line column kind → (e ≡ Refused line column kind) ⊎ (e ≡ NoMemory)
  pub too_long : 16777216 < length text → (e ≡ TooLong) ⊎ (e ≡ NoMemory)

-- the same of a command, by what the shelf held
abbrev pub IsRefusedFor : (List ℕ → Option (List ℕ)) → Ending → Asked → Type 0
IsRefusedFor held e asked = IfSome (held asked.file) (IsRefusedAs e)

-- a count of faults did not rise
abbrev pub IsNotIncreased : ℕ → ℕ → Type 0
IsNotIncreased before now = Increased before now → ⊥

-- the endings that come of a text that was read whole
abbrev pub ComesOfText : Ending → Type 0
ComesOfText Finished = Unit {0}
ComesOfText (Halted k) = Unit {0}
ComesOfText Budget = Unit {0}
ComesOfText WriteFault = Unit {0}
ComesOfText (Refused line column kind) = Unit {0}
ComesOfText NoMemory = ⊥
ComesOfText TooLong = ⊥
ComesOfText (Usage kind) = ⊥
ComesOfText ReadFault = ⊥
