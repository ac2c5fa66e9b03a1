-- Why there is nothing to run, as the call that loads a text tells the call that runs it. What an ending says is in
-- Endings.
use Rattle.std.specs.Prelude.{ℕ, List, Option, Result, Ok, Err}
use Rattle.run_model.specs.declared.ending.Ending.{Ending}
use Rattle.run_model.specs.declared.ending.Ending.TheVariants.{Refused, TooLong, ReadFault, NoMemory}
use Rattle.run_model.specs.Programs.Jobs.{Job}
use Rattle.text_load.specs.declared.reading.LoadRefusal.{LoadRefusal}
use Rattle.text_load.specs.declared.reading.LoadRefusal.TheVariants.{Refused as RefusedText, NoMemory as Full}
use Rattle.aurora_cli.specs.Endings.{ComesOfText, IsTextReadRefused}
use Rattle.aurora_cli.specs.ProgramTexts.{IsRefusedText}

abbrev pub IsLoadFault : Option (List ℕ) → Ending → Type 0
IsLoadFault held (Refused line column kind) = IsTextReadRefused held line column kind
IsLoadFault held TooLong = Unit {0}
IsLoadFault held ReadFault = Unit {0}
IsLoadFault held NoMemory = Unit {0}
IsLoadFault held _ = ⊥

-- the text was read whole
abbrev pub IsReadWhole : Result Job Ending → Type 0
IsReadWhole (Ok job) = Unit {0}
IsReadWhole (Err e) = ComesOfText e

-- bytes are refused, or memory runs out
abbrev pub IsTextFault : List ℕ → Ending → Type 0
IsTextFault bytes (Refused line column kind) = IsRefusedText bytes line column kind
IsTextFault bytes NoMemory = Unit {0}
IsTextFault bytes _ = ⊥

abbrev pub refused_as : LoadRefusal → Ending
refused_as (RefusedText line column kind) = Refused line column kind
refused_as Full = NoMemory
