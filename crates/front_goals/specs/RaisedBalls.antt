-- A ball that the world raises at the front (ISO/IEC 13211-1, 7.8.9 and 7.8.10).
use Rattle.std.specs.Prelude.{◌≡◌, ℕ, List, ◌∷◌, Some}
use Rattle.au_term.specs.Term.{Term}
use Rattle.run_model.specs.Machine.Balls.{unwound}
use Rattle.run_model.specs.Machine.Items.{Item, first_mark}
use Rattle.tree_model.specs.Floors.{floor_of}
use Rattle.tree_model.specs.FrontGates.{Raises}
use Rattle.tree_model.specs.Legality.{gate_of, taken_at}
use Rattle.tree_model.specs.Levels.{Place, Spot, levels_of}
use Rattle.tree_model.specs.Nodes.{WorldGate}
use Rattle.tree_model.specs.TreeStates.{TreeState}
use Rattle.public_tree.specs.Answering.{taken_as}
use Rattle.task_world.specs.FrontItems.{HasLeft}

-- an alternative is at a gate of the world, and what is taken there raises a ball, from what follows its first item
pub record RaisesNext (ball : Term) (t : TreeState) (s : Spot) : Type 0 where
  pub item : Item ℕ
  pub behind : List (Item ℕ)
  pub has : HasLeft s (item ∷ behind)
  pub gate : gate_of t s ≡ Some WorldGate
  pub raises : taken_as t s ≡ Raises (unwound ball (first_mark behind) (floor_of (levels_of s)))

-- of what is out
abbrev pub RaisesThere : Term → ℕ → Place → TreeState → Type 0
RaisesThere ball w a t = (s : Spot) → taken_at w a t ≡ Some s → RaisesNext ball t s
