-- What the world replies to the goal that is next of an alternative: that it holds, fails, raises an error or ends the run, or the
-- solutions that it has (ISO/IEC 13211-1, 7.7.7 and 8.8, 8.9, 8.12, 8.14, 8.17).
use Rattle.std.specs.Prelude.{◌≡◌, ℕ, List, ◌∷◌, length, map, Some}
use Rattle.au_term.specs.Term.{Term}
use Rattle.cell_store.specs.StoreView.{Moment}
use Rattle.run_model.specs.Goals.GoalOutcomes.{outcome_of}
use Rattle.run_model.specs.Goals.Outcomes.{Reply, AskWorld}
use Rattle.run_model.specs.Machine.Entries.{solution_entries}
use Rattle.run_model.specs.Machine.Items.{Item, GoalItem, Continuation, resolve_continuation, with_items}
use Rattle.run_model.specs.Programs.Clauses.{Clause}
use Rattle.tree_model.specs.Floors.{floor_of}
use Rattle.tree_model.specs.FrontGates.{Continues, reply_taken}
use Rattle.tree_model.specs.Legality.{gate_of, taken_at}
use Rattle.tree_model.specs.Levels.{Place, Spot, levels_of}
use Rattle.tree_model.specs.Nodes.{WorldGate}
use Rattle.tree_model.specs.TreeStates.{TreeState}
use Rattle.tree_nodes.specs.Bodies.{Branching}
use Rattle.tree_nodes.specs.TreeTables.{NodesView, IsWayTo}
use Rattle.task_region.specs.TaskLoads.{IsBoundOnBranch}
use Rattle.public_tree.specs.Answering.{taken_as}
use Rattle.region_split.specs.Regions.{RegionView}
use Rattle.region_split.specs.Solutions.{SolutionView}
use Rattle.region_split.specs.StackOperations.{solution_here}
use Rattle.region_world.specs.WorldAnswers.{TellsReply}
use Rattle.region_world.specs.declared.asking.WorldAnswer.{WorldAnswer}
use Rattle.task_world.specs.FrontItems.{HasLeft}

-- an alternative has an item left before what follows, all of which is as it is bound at a moment
pub record HasNext (item : Item ℕ) (m : Moment) (s : Spot) : Type 0 where
  pub behind : List (Item ℕ)
  pub has : HasLeft s (item ∷ behind)
  pub number : has.front.next ≡ m.next
  pub bound : resolve_continuation m.bound (with_items behind has.front) ≡ with_items behind has.front

-- what follows it
abbrev pub follows_next : (item : Item ℕ) (m : Moment) (s : Spot) → HasNext item m s → Continuation ℕ
follows_next item m s h = with_items h.behind h.has.front

-- a goal is next that asks the world
pub record AsksNext (clauses : List Clause) (goal : Term) (m : Moment) (s : Spot) : Type 0 where
  pub height : ℕ
  pub next : HasNext (GoalItem goal height) m s
  pub asks : outcome_of clauses goal m.next ≡ AskWorld goal

-- of what is out in a tree
abbrev pub IsAskedNext : Term → Moment → ℕ → Place → TreeState → Type 0
IsAskedNext goal m w a t = (s : Spot) → taken_at w a t ≡ Some s → AsksNext t.job.clauses goal m s

-- an alternative is at a gate of the world, and what is taken there is this reply
pub record RepliesNext (reply : Reply) (m : Moment) (t : TreeState) (s : Spot) : Type 0 where
  pub item : Item ℕ
  pub next : HasNext item m s
  pub gate : gate_of t s ≡ Some WorldGate
  pub taken : taken_as t s ≡ reply_taken reply (follows_next item m s next) (floor_of (levels_of s))

-- an answer tells, in a region, the reply to what is out
pub record TellsNext (r : RegionView) (told : WorldAnswer) (w : ℕ) (a : Place) (t : TreeState) : Type 0 where
  pub reply : Reply
  pub tells : TellsReply r reply told
  pub next : (s : Spot) → taken_at w a t ≡ Some s → RepliesNext reply r.store.now t s

-- what was bound at a moment is what is bound on the branch of what is out
abbrev pub IsBoundThere : NodesView → Moment → ℕ → Place → TreeState → Type 0
IsBoundThere nodes m w a t = (s : Spot) (way : Branching) → taken_at w a t ≡ Some s → IsWayTo nodes.rows (levels_of s) way → IsBoundOnBranch way m

-- what is out is at a gate of the world, and solutions leave what is taken there
pub record SolutionsLeave (r : RegionView) (solutions : List SolutionView) (t : TreeState) (s : Spot) : Type 0 where
  pub item : Item ℕ
  pub next : HasNext item r.store.now s
  pub gate : gate_of t s ≡ Some WorldGate
  pub taken : taken_as t s ≡ Continues (solution_entries (length (floor_of (levels_of s))) (follows_next item r.store.now s next) (map (solution_here r) solutions))

abbrev pub SolutionsAreNext : RegionView → List SolutionView → ℕ → Place → TreeState → Type 0
SolutionsAreNext r solutions w a t = (s : Spot) → taken_at w a t ≡ Some s → SolutionsLeave r solutions t s
