-- The events of a tree as they are noted.
use Rattle.std.specs.Prelude.{◌≡◌, ℕ, ◌<◌, Bool, false, List}
use Rattle.tree_model.specs.Events.{Event}

pub record LogView : Type 0 where
  pub events : List Event
  -- whether nothing follows
  pub stopped : Bool
  -- so many events can be noted without memory
  pub room : ℕ
  -- so many of them are those by which tasks that are out come back
  pub promised : ℕ

-- a stop can be noted at any time
abbrev pub HasRoom : Bool → ℕ → ℕ → Type 0
HasRoom stopped promised room = stopped ≡ false → promised < room
