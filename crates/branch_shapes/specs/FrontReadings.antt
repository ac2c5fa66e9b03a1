-- What an item at the front leaves that binds nothing and holds once, as a node of one branch: a goal of output or of the database, or the
-- removal of a clause.
use Rattle.std.specs.Prelude.{◌≡◌, ℕ, true, List, [], ◌∷◌, drop, Some}
use Rattle.au_model.specs.Terms.Each.{Each}
use Rattle.run_model.specs.Goals.WorldConstructs.{holds_once}
use Rattle.run_model.specs.Machine.Entries.{Entry, PlainEntry}
use Rattle.run_model.specs.Machine.Items.{Continuation, with_items, without_marks}
use Rattle.run_model.specs.Programs.Jobs.{Job}
use Rattle.tree_model.specs.Effects.{spot_stack}
use Rattle.tree_model.specs.Floors.{floor_of}
use Rattle.tree_model.specs.FrontGates.{Continues, reply_taken}
use Rattle.tree_model.specs.Legality.{gate_of, taken_at}
use Rattle.tree_model.specs.Levels.{Place, Spot, levels_of}
use Rattle.tree_model.specs.Nodes.{WorldGate}
use Rattle.tree_model.specs.TreeStates.{TreeState}
use Rattle.tree_nodes.specs.Bodies.{Body, Branching}
use Rattle.tree_nodes.specs.Rows.{Rows}
use Rattle.tree_nodes.specs.TreeTables.{IsWayTo}
use Rattle.branch_reading.specs.BranchSegments.{next_number, segments_on}
use Rattle.branch_reading.specs.Readings.{reading}
use Rattle.branch_reading.specs.SettledWays.{items_on}
use Rattle.public_tree.specs.Answering.{GoesOnAs, taken_as}
use Rattle.branch_shapes.specs.CutReadings.{IsPlainOn}
use Rattle.branch_shapes.specs.RestBodies.{IsRestBody, items_behind}

-- what follows the first item past the ends of catches
abbrev pub behind_first : Continuation ℕ → Continuation ℕ
behind_first f = with_items (drop 1 (without_marks f.items)) f

-- a plain alternative is at a gate of the world, and what is taken there leaves what follows
pub record HoldsAtFront (job : Job) (t : TreeState) (s : Spot) (way : Branching) : Type 0 where
  pub on : IsPlainOn job s way
  pub gate : gate_of t s ≡ Some WorldGate
  pub leaves : (f : Continuation ℕ) → spot_stack s ≡ PlainEntry f ∷ floor_of (levels_of s) → taken_as t s ≡ Continues (PlainEntry (behind_first f) ∷ [])

-- a goal that holds once does so
abbrev pub OnceLeaves : Type 0
OnceLeaves = (f : Continuation ℕ) (es : List Entry) → reply_taken holds_once f es ≡ Continues (PlainEntry f ∷ [])

-- a body of what is left behind the first item reads as what is left
abbrev pub FrontsAreRead : Type 0
FrontsAreRead = (job : Job) (rows : Rows) (body : Body) (w : ℕ) (a : Place) (t : TreeState)
    → ((s : Spot) (way : Branching) → taken_at w a t ≡ Some s → IsWayTo rows (levels_of s) way
    → HoldsAtFront job t s way × IsRestBody (items_behind (items_on way)) (next_number (segments_on way)) body)
    → ((s : Spot) → taken_at w a t ≡ Some s → (way : Branching) × IsWayTo rows (levels_of s) way)
    → GoesOnAs rows body w a (reading job) t
