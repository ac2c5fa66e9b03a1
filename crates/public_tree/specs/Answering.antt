-- How the world goal, the answer or the end of a query of the leftmost entry is taken in the public tree.
use Rattle.std.specs.Prelude.{◌≡◌, ℕ, ◌-◌, Bool, true, false, List, [], ◌∷◌, length, map, Option, Some, None}
use Rattle.run_model.specs.Machine.Entries.{Entry}
use Rattle.run_model.specs.Programs.Jobs.{Query}
use Rattle.tree_model.specs.Credits.{Credit, credit_of}
use Rattle.tree_model.specs.Effects.{spending, spot_stack}
use Rattle.tree_model.specs.Events.{Answer}
use Rattle.tree_model.specs.EventViews.{place_view}
use Rattle.tree_model.specs.Floors.{node_of, with_nodes}
use Rattle.tree_model.specs.FrontGates.{Taken, Continues, Answered, Raises, Halts, QueryEnds, taken_at_front}
use Rattle.tree_model.specs.Gates.{ball_scope}
use Rattle.tree_model.specs.Legality.{taken_at, gate_of, is_allowed, is_spot_at}
use Rattle.tree_model.specs.Levels.{Level, plug, Place, place_at, Spot, levels_of}
use Rattle.tree_model.specs.Nodes.{WorldGate, ChoiceNode, Hold, Ready, TakenBy, Numbered, Status, Pending, Inner, entry_alternatives}
use Rattle.tree_model.specs.TreeStates.{TreeState, leftmost, opened_node}
use Rattle.tree_nodes.specs.Bodies.{Body, Branching, Reading, new_node}
use Rattle.tree_nodes.specs.Rows.{Rows, credit_view}
use Rattle.tree_nodes.specs.TreeTables.{NodesView, IsTableOf, IsWayTo}
use Rattle.tree_closing.specs.Closings.{ComesToRest, is_waking}
use Rattle.tree_closing.specs.declared.way_up.Closing.{Closing}
use Rattle.prune_ops.specs.Falls.{ReadsBeside}
use Rattle.public_tree.specs.declared.answering.Answering.{Answering}
use Rattle.public_tree.specs.declared.answering.Answering.TheVariants as answering
use Rattle.public_tree.specs.PublicTrees.{PublicView, IsPublicOf, Answers, NotesIn, IsSameTree, is_going}
use Rattle.public_tree.specs.PublicClosing.{ReadsAs}

-- what an alternative is taken as at the front
abbrev pub taken_as : TreeState → Spot → Taken
taken_as t s = (taken_at_front t.job.clauses (spot_stack s) t.world).1

-- whether the leftmost entry is here
abbrev pub is_first_at : Place → TreeState → Bool
is_first_at a t = is_spot_at a (leftmost t)

-- why an alternative may not be taken at the front, if something keeps it from that
abbrev pub IsBarred : PublicView → Place → Option Answering → Type 0
IsBarred p a None = Answers p is_going true × Answers p (is_first_at a) true
IsBarred p a (Some answering.Taken) = ⊥
IsBarred p a (Some answering.NotLeftmost) = Answers p is_going true × Answers p (is_first_at a) false
IsBarred p a (Some answering.HasEnded) = Answers p is_going false

-- in this tree, what is out to a worker has come to a gate of the world, and is taken there as something
abbrev pub AtFront : ℕ → Place → (Spot → Taken → Type 0) → TreeState → Type 0
AtFront w a As t = (s : Spot) → taken_at w a t ≡ Some s → (gate_of t s ≡ Some WorldGate) × As s (taken_as t s)

-- in each tree for which it stands and of which this holds it is taken; or it is not the leftmost entry, or the tree had
-- ended or been stopped
abbrev pub TakesFront : PublicView → PublicView → ℕ → Place → (ℕ → Place → Reading → TreeState → Type 0) → Answering → Type 0
TakesFront old new w a Known answering.Taken =
    (read : Reading) (t : TreeState) → IsPublicOf old read t → Known w a read t → NotesIn old new (Answer w a false) read t
TakesFront old new w a Known answering.NotLeftmost = IsSameTree old new
    × ((read : Reading) (t : TreeState) → IsPublicOf old read t → Known w a read t → (is_going t ≡ true) × (is_allowed t (Answer w a false) ≡ false))
TakesFront old new w a Known answering.HasEnded =
    IsSameTree old new × ((read : Reading) (t : TreeState) → IsPublicOf old read t → is_going t ≡ false)

-- so many tasks are promised to come back
abbrev pub promised_by : Answering → ℕ → ℕ
promised_by answering.Taken n = n - 1
promised_by answering.NotLeftmost n = n
promised_by answering.HasEnded n = n

-- below a place, a new node of a body has the entries with which the front goes on
pub record ReadsAsLeft (read : Reading) (way : Branching) (body : Body) (levels : List Level) (front : Taken) : Type 0 where
  pub entry : Entry
  pub under : List Entry
  pub goes_on : front ≡ Continues (entry ∷ under)
  pub node : (n : ℕ) → new_node read way n body ≡ Numbered n ChoiceNode (entry_alternatives Ready (map (with_nodes (node_of levels)) (entry ∷ under)))

-- what is out to a worker goes on below a node of the body
abbrev pub GoesOnAs : Rows → Body → ℕ → Place → Reading → TreeState → Type 0
GoesOnAs rows body w a read t =
    AtFront w a (λ s front. (way : Branching) → IsWayTo rows (levels_of s) way → ReadsAsLeft read way body (levels_of s) front) t

-- below a place, the node of a body that gets this number is that of the next query
pub record ReadsAsNext (read : Reading) (way : Branching) (body : Body) (n : ℕ) (front : Taken) (queries : List Query) : Type 0 where
  pub query : Query
  pub further : List Query
  pub ends : front ≡ QueryEnds
  pub next : queries ≡ query ∷ further
  pub node : new_node read way n body ≡ opened_node n query

-- what is out ends a query, and the next one opens there
abbrev pub OpensAs : Rows → Body → ℕ → Place → Reading → TreeState → Type 0
OpensAs rows body w a read t =
    AtFront w a (λ s front. (way : Branching) → IsWayTo rows (levels_of s) way → ReadsAsNext read way body t.next front t.queries) t

-- below what sleeps at the scope of a ball, a body reads as what the ball leaves
pub record ReadsAsRaised (read : Reading) (rows : Rows) (n : ℕ) (body : Body) (levels : List Level) (front : Taken) : Type 0 where
  pub entry : Entry
  pub under : List Entry
  pub raises : front ≡ Raises (entry ∷ under)
  pub scope : ball_scope levels (entry ∷ under) ≡ n
  pub beside : ReadsBeside read rows (record { node = n; index = 0 }) body (with_nodes (node_of levels) entry)

-- what is out lets a ball fall
abbrev pub FallsAs : Rows → ℕ → Body → ℕ → Place → Reading → TreeState → Type 0
FallsAs rows n body w a read t = AtFront w a (λ s front. ReadsAsRaised read rows n body (levels_of s) front) t

-- what is out halts with this status
abbrev pub HaltsAs : ℕ → ℕ → Place → Reading → TreeState → Type 0
HaltsAs k w a read t = AtFront w a (λ s front. front ≡ Halts k) t

-- the credit with which an answer closes
abbrev pub answer_credit : Credit
answer_credit = record { inferences = 1; answers = 1; records = [] }

-- the credit with which the front closes, where it does
abbrev pub front_credit : Taken → List Query → Option Credit
front_credit (Continues []) qs = Some (credit_of 1)
front_credit (Continues (e ∷ es)) qs = None
front_credit Answered qs = Some answer_credit
front_credit (Raises es) qs = None
front_credit (Halts k) qs = None
front_credit QueryEnds [] = Some (credit_of 1)
front_credit QueryEnds (q ∷ qs) = None

-- what closes at a place comes to rest there
pub record ClosesAs (nodes : NodesView) (a : Place) (closing : Closing) (closed : Option Credit) : Type 0 where
  pub credit : Credit
  pub closes : closed ≡ Some credit
  pub rests : ComesToRest nodes a credit (place_view closing.end) (credit_view closing.credit) closing.beside

-- what is out closes, and what wakes by that reads as the body that is given
pub record EndsAs (nodes : NodesView) (closing : Closing) (body : Option Body) (w : ℕ) (a : Place) (read : Reading) (t : TreeState) : Type 0 where
  pub rests : AtFront w a (λ s front. ClosesAs nodes a closing (front_credit front t.queries)) t
  pub given : ReadsAs read nodes.rows (place_view closing.end) (credit_view closing.credit).records (is_waking closing.beside) body

-- a node is below a place, with one inference more
abbrev pub GrowsAt : NodesView → NodesView → Place → Body → Type 0
GrowsAt old new a body =
    (read : Reading) (v : Level) (up : List Level) (was : Status) (way : Branching) → place_at v ≡ a → IsTableOf old read (plug (v ∷ up) was)
    → IsWayTo old.rows (v ∷ up) way → IsTableOf new read (plug (spending 1 (v ∷ up)) (Inner (new_node read way (length old.rows) body)))

-- what is out to a worker has one inference more
abbrev pub SpendsAt : NodesView → NodesView → ℕ → Place → Type 0
SpendsAt old new w a =
    (read : Reading) (v : Level) (up : List Level) (was : Hold) (entry : Entry) → place_at v ≡ a → IsTableOf old read (plug (v ∷ up) (Pending was entry))
    → IsTableOf new read (plug (spending 1 (v ∷ up)) (Pending (TakenBy w) entry))
