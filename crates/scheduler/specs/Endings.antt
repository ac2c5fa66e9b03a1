-- How a run on a tree ends.
use Rattle.std.specs.Prelude.{◌≡◌, ◌⊎◌, ◌≤◌, ℕ, List, length, drop, Option}
use Rattle.au_io.specs.FaultCounts.{AppendedPrefix}
use Rattle.run_model.specs.declared.ending.RunEnd.{RunEnd}
use Rattle.run_model.specs.declared.ending.RunEnding.{RunEnding}
use Rattle.run_model.specs.declared.ending.RunEnding.TheVariants.{WriteFault}
use Rattle.run_model.specs.Machine.Runs.{text_of, ending_of, answers_of, inferences_of}
use Rattle.tree_core.specs.Histories.{History, state_of}
use Rattle.scheduler.specs.Pieces.{PutsOn}

-- with the ending and the numbers of the sequential run, whose text the tree has written
pub record IsEndOf (h : History) (r : RunEnd) : Type 0 where
  pub ending : r.end ≡ ending_of h.job h.budget
  pub answers : r.answers ≡ answers_of h.job h.budget
  pub inferences : r.inferences ≡ inferences_of h.job h.budget
  pub text : (state_of h).world.written ≡ text_of h.job h.budget

abbrev pub cut_short_by : RunEnding → RunEnd
cut_short_by end = record { end = end; answers = 0; inferences = 0 }

-- all that waited is out and the run ends as it was to end, or a write failed and a front of that is out
abbrev pub ClosesFrom : List ℕ → ℕ → Option (List ℕ) → Option (List ℕ) → RunEnd → RunEnd → Type 0
ClosesFrom written put before after end r =
    ((r ≡ end) × ((next : ℕ) × PutsOn written put 1 next before after))
    ⊎ ((r ≡ cut_short_by WriteFault) × (put ≤ length written) × AppendedPrefix before after (drop put written))
