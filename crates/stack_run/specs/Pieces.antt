-- Output put out in pieces.
use Rattle.std.specs.Prelude.{◌≡◌, ℕ, List, ◌++◌, Option, ◌⊎◌}
use Rattle.run_model.specs.declared.ending.RunEnding.TheVariants.{WriteFault}
use Rattle.run_model.specs.declared.ending.RunEnd.{RunEnd}
use Rattle.au_io.specs.FaultCounts.{Appended, AppendedPrefix}

-- a front of the bytes was put out, and the others wait
pub record PutsOut (before after : Option (List ℕ)) (bytes waiting : List ℕ) : Type 0 where
  pub front : List ℕ
  pub appended : Appended before after front
  pub joined : bytes ≡ front ++ waiting

-- the end of a run that a failed write cuts short
abbrev pub write_failed : RunEnd
write_failed = record { end = WriteFault; answers = 0; inferences = 0 }

-- all that waited is out and the run ends as it was to end, or a write failed and a front of it is out
abbrev pub IsClosedWith : List ℕ → Option (List ℕ) → Option (List ℕ) → RunEnd → RunEnd → Type 0
IsClosedWith waiting before after end r = ((r ≡ end) × Appended before after waiting) ⊎ ((r ≡ write_failed) × AppendedPrefix before after waiting)
