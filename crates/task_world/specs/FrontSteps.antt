-- What comes of an alternative at the front.
use Rattle.std.specs.Prelude.{◌≡◌, ℕ, ◌+◌, true, false, List, [], ◌∷◌, Option, None, Some, IsSome, slice_get}
use Rattle.clause_compile.specs.declared.event.Branch.{Branch}
use Rattle.run_model.specs.Goals.Worlds.{World}
use Rattle.run_model.specs.Machine.Entries.{PlainEntry}
use Rattle.run_model.specs.Machine.Items.{Item, with_items}
use Rattle.tree_model.specs.EventViews.{place_view}
use Rattle.tree_model.specs.Events.{Event, Answer}
use Rattle.tree_model.specs.FrontGates.{Continues}
use Rattle.tree_model.specs.Legality.{gate_of, taken_at}
use Rattle.tree_model.specs.Levels.{Place, Spot}
use Rattle.tree_model.specs.Nodes.{WorldGate}
use Rattle.tree_model.specs.TreeStates.{TreeState}
use Rattle.tree_nodes.specs.Bodies.{Body}
use Rattle.tree_nodes.specs.Rows.{StoredNode, Rows, cell_at, row_of_node}
use Rattle.tree_closing.specs.Closings.{HasSleeper}
use Rattle.tree_closing.specs.declared.way_up.Closing.{Closing}
use Rattle.public_tree.specs.Answering.{AtFront, ClosesAs, front_credit, is_first_at, taken_as}
use Rattle.public_tree.specs.PublicTrees.{is_going}
use Rattle.public_tree.specs.declared.answering.Answering.{Answering}
use Rattle.tree_core.specs.Histories.{History, TreeView, state_of}
use Rattle.tree_core.specs.Turns.{where_legal, answering_of}
use Rattle.branch_shapes.specs.RestBodies.{IsRestBody, items_behind}
use Rattle.task_world.specs.FrontItems.{HasLeft}
use Rattle.task_world.specs.declared.step.FrontStep.{FrontStep}
use Rattle.task_world.specs.declared.step.FrontStep.TheVariants.{Done, Closes}

-- the event by which a worker takes what is out to it there
abbrev pub front_event : ℕ → Place → Event
front_event w a = Answer w a false

-- with this answer it is not legal to whichever worker, and nothing is noted; with none, it is up to the gate
abbrev pub IsBarredBy : History → Place → Option Answering → Type 0
IsBarredBy h a None = (is_going (state_of h) ≡ true) × (is_first_at a (state_of h) ≡ true)
IsBarredBy h a (Some answering) = (w : ℕ) → (answering ≡ answering_of (front_event w a) (state_of h)) × (where_legal (front_event w a) h ≡ h)

-- this is the world of the tree after it, or still that of the tree where it may not be
abbrev pub IsWorldAfter : History → ℕ → Place → World → Type 0
IsWorldAfter old w a world = world ≡ (state_of (where_legal (front_event w a) old)).world

-- what is out is the leftmost entry of a tree that goes on and may close so, with the body of what wakes by that
pub record MayClose (v : TreeView) (w : ℕ) (a : Place) (closing : Closing) : Type 0 where
  pub may : IsBarredBy v.history a None
  pub there : IsSome (cell_at v.nodes.rows (place_view closing.end))
  pub sleeper : HasSleeper closing.beside v.nodes.rows (place_view closing.end)
  pub rests : AtFront w a (λ s front. ClosesAs v.nodes a closing (front_credit front (state_of v.history).queries)) (state_of v.history)

-- the tree has noted the event, where it is legal; or what is out has yet to close
abbrev pub ComesAbout : TreeView → TreeView → ℕ → Place → FrontStep → Type 0
ComesAbout old new w a (Done answering) =
    (answering ≡ answering_of (front_event w a) (state_of old.history)) × (new.history ≡ where_legal (front_event w a) old.history)
ComesAbout old new w a (Closes closing) = (new ≡ old) × MayClose old w a closing

-- a body has what an alternative has left behind its first item
pub record LeavesBehind (rows : Rows) (a : Place) (body : Body) : Type 0 where
  pub row : StoredNode
  pub is : row_of_node rows a.node ≡ Some row
  pub branch : Branch
  pub there : slice_get row.body.branches a.index ≡ Some branch
  pub rest : IsRestBody (items_behind branch.goals) (branch.segment.base + branch.segment.vars) body

-- at a gate of the world, what is behind the first item goes on
pub record GoesOnBehind (t : TreeState) (s : Spot) : Type 0 where
  pub item : Item ℕ
  pub behind : List (Item ℕ)
  pub has : HasLeft s (item ∷ behind)
  pub gate : gate_of t s ≡ Some WorldGate
  pub leaves : taken_as t s ≡ Continues (PlainEntry (with_items behind has.front) ∷ [])

-- what is out does
abbrev pub LeavesRest : ℕ → Place → TreeState → Type 0
LeavesRest w a t = (s : Spot) → taken_at w a t ≡ Some s → GoesOnBehind t s
