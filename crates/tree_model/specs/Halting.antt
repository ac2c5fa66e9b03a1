-- Goals that halt.
use Rattle.std.specs.Prelude.{◌≡◌, ℕ, List}
use Rattle.run_model.specs.Programs.Clauses.{Clause}
use Rattle.run_model.specs.Goals.Worlds.{World, world_step}
use Rattle.run_model.specs.Goals.Outcomes.{HaltNumber, Outcome, Replies, Controls, AskWorld}

-- a goal that halts by this number, and the world after it
abbrev pub HaltsBy : List Clause → Outcome → ℕ → World → ℕ → World → Type 0
HaltsBy clauses (Replies r) next w k after = (r ≡ HaltNumber k) × (w ≡ after)
HaltsBy clauses (AskWorld goal) next w k after = world_step clauses goal next w ≡ (after, HaltNumber k)
HaltsBy clauses (Controls form) next w k after = ⊥
