-- The job for which bytes stand, and what refuses them. This file is the one place that says it.
use Rattle.std.specs.Prelude.{ℕ, List, take}
use Rattle.std.specs.Str.{chars, IsUtf8, IsValidUpTo}
use Rattle.run_model.specs.Programs.Jobs.{Job}
use Rattle.au_model.specs.declared.types.FaultKind.{FaultKind}
use Rattle.au_model.specs.declared.types.FaultKind.TheVariants.{NotUtf8}
use Rattle.au_model.specs.Syntax.TextFaults.{line_after, column_after}
use Rattle.text_load.specs.LoadedTexts.{LoadsTo, IsRefused}
use Rattle.toplevel.specs.Library.{library_text}

-- bytes stand for the job to which their characters load, with the library before them
pub record StandsFor (bytes : List ℕ) (job : Job) : Type 0 where
  pub utf8 : IsUtf8 bytes
  pub loads : LoadsTo library_text (chars bytes) job

-- Bytes are refused where they first are no text, before any fault of it, or else at the text's first fault.
pub data IsRefusedText (bytes : List ℕ) : ℕ → ℕ → FaultKind → Type 0 where
  no_text : {n : ℕ} → IsValidUpTo bytes n → IsRefusedText bytes (line_after (chars (take n bytes))) (column_after (chars (take n bytes))) NotUtf8
  text_fault : {line column : ℕ} {kind : FaultKind} → IsUtf8 bytes → IsRefused (chars bytes) line column kind → IsRefusedText bytes line column kind
