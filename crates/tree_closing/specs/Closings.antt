-- Where a closing comes to rest, and what it changes there.
use Rattle.std.specs.Prelude.{◌≡◌, ℕ, Bool, true, false, List, [], ◌∷◌, Some, length}
use Rattle.au_term.specs.Term.{Term}
use Rattle.run_model.specs.Machine.Entries.{Entry, PlainEntry, CatchEntry, FindallEntry, EndEntry}
use Rattle.tree_model.specs.Credits.{Credit, no_credit, without_records}
use Rattle.tree_model.specs.Nodes.{Status, Closed}
use Rattle.tree_model.specs.Levels.{Level, plug, Place, place_at}
use Rattle.tree_model.specs.Closing.{Grown, guarded, with_right, with_results, findall_goes_on, wakes, closes}
use Rattle.tree_model.specs.SoundTrees.{IsSound}
use Rattle.tree_nodes.specs.Bodies.{Body, ChoiceBody, Branching, Reading}
use Rattle.tree_nodes.specs.Rows.{StoredNode, Rows, row_of_node, node_parent}
use Rattle.tree_nodes.specs.TreeTables.{NodesView, IsTableOf, IsWayTo, above_of}
use Rattle.tree_closing.specs.Sleeping.{IsBesideSleeper}
use Rattle.tree_closing.specs.declared.way_up.Beside.{Beside}
use Rattle.tree_closing.specs.declared.way_up.Beside.TheVariants.{Same, Closes, Gathers, Ends}

-- what wakes below a node of its own: a findall's list is unified with what was collected
abbrev pub woken_entry : ℕ → List Term → Entry → Entry
woken_entry n records (FindallEntry results l f) = findall_goes_on n (with_results records (FindallEntry results l f))
woken_entry n records (PlainEntry f) = PlainEntry f
woken_entry n records (CatchEntry c r f) = CatchEntry c r f
woken_entry n records (EndEntry b) = EndEntry b

-- what is left of the credit where the records have been used
abbrev pub credit_after : Beside → Credit → Credit
credit_after Same c = c
credit_after Closes c = c
credit_after Gathers c = without_records c
credit_after Ends c = c

-- what sleeps at a level wakes
abbrev pub Wakes : Beside → ℕ → Level → List Level → Credit → Grown → Type 0
Wakes beside next v up c g = (e : Entry) × ((guarded v ≡ Some e) × (g ≡ wakes next v up (credit_after beside c) (woken_entry v.number c.records e)))

-- an alternative has closed, and no node folds: what comes of what sleeps beside it
abbrev pub RestsAs : Beside → ℕ → Level → List Level → Credit → Grown → Type 0
RestsAs Same next v up c g = g ≡ record { root = plug (v ∷ up) (Closed c); next = next }
RestsAs Closes next v up c g = g ≡ record { root = plug (with_right (Closed no_credit) v ∷ up) (Closed c); next = next }
RestsAs Gathers next v up c g = Wakes Gathers next v up c g
RestsAs Ends next v up c g = Wakes Ends next v up c g

-- on its way up a closing has come to this place with this credit
pub record IsReached (next : ℕ) (v : Level) (up : List Level) (was : Status) (c : Credit) (b : Place) (now : Credit) : Type 0 where
  pub level : Level
  pub above : List Level
  pub status : Status
  pub same : plug (v ∷ up) was ≡ plug (level ∷ above) status
  pub at : place_at level ≡ b
  pub closes : closes next (v ∷ up) c ≡ closes next (level ∷ above) now

-- and there it rests
pub record IsRest (next : ℕ) (v : Level) (up : List Level) (was : Status) (c : Credit) (b : Place) (total : Credit) (beside : Beside) : Type 0 where
  pub reached : IsReached next v up was c b total
  pub rests : RestsAs beside next reached.level reached.above total (closes next (v ∷ up) c)

abbrev pub ClosesUpTo : NodesView → Place → Credit → Place → Credit → Type 0
ClosesUpTo nodes a c b now =
    (read : Reading) (v : Level) (up : List Level) (was : Status) (next : ℕ) → place_at v ≡ a → IsTableOf nodes read (plug (v ∷ up) was)
    → IsSound [] (plug (v ∷ up) was) → IsReached next v up was c b now

abbrev pub ComesToRest : NodesView → Place → Credit → Place → Credit → Beside → Type 0
ComesToRest nodes a c b total beside =
    (read : Reading) (v : Level) (up : List Level) (was : Status) (next : ℕ) → place_at v ≡ a → IsTableOf nodes read (plug (v ∷ up) was)
    → IsSound [] (plug (v ∷ up) was) → IsRest next v up was c b total beside

abbrev pub HasSleeper : Beside → Rows → Place → Type 0
HasSleeper Same rows a = Unit {0}
HasSleeper Closes rows a = IsBesideSleeper rows a
HasSleeper Gathers rows a = IsBesideSleeper rows a
HasSleeper Ends rows a = IsBesideSleeper rows a

-- whether something wakes
abbrev pub is_waking : Beside → Bool
is_waking Same = false
is_waking Closes = false
is_waking Gathers = true
is_waking Ends = true

-- a place closes with a credit
abbrev pub ClosesPlace : NodesView → NodesView → Place → Credit → Type 0
ClosesPlace old new a c =
    (read : Reading) (v : Level) (up : List Level) (was : Status) (next : ℕ) → place_at v ≡ a → IsTableOf old read (plug (v ∷ up) was)
    → IsSound [] (plug (v ∷ up) was) → IsTableOf new read (closes next (v ∷ up) c).root

-- an alternative is closed with a credit, and nothing else is different
abbrev pub ClosesHere : NodesView → NodesView → Place → Credit → Type 0
ClosesHere old new a c =
    (read : Reading) (v : Level) (up : List Level) (was : Status) → place_at v ≡ a → IsTableOf old read (plug (v ∷ up) was) → IsTableOf new read (plug (v ∷ up) (Closed c))

-- one branch, which is ready
pub record IsSingle (body : Body) : Type 0 where
  pub kind : body.kind ≡ ChoiceBody
  pub one : length body.branches ≡ 1

-- levels that hang together: each node is below the place on the level above it
abbrev pub HangTogether : Rows → List Level → Type 0
HangTogether rows [] = Unit {0}
HangTogether rows (v ∷ up) = (node_parent rows v.number ≡ Some (above_of up)) × HangTogether rows up

-- below what sleeps beside a place, a body reads as what wakes there with these records
abbrev pub ReadsWoken : Reading → Rows → Place → List Term → Body → Type 0
ReadsWoken read rows a records body =
    (r : StoredNode) (up : List Level) (above : Branching) → row_of_node rows a.node ≡ Some r → above_of up ≡ r.parent → IsWayTo rows up above
    → HangTogether rows up → read ((body, 0) ∷ (r.body, 1) ∷ above) ≡ woken_entry a.node records (read ((r.body, 1) ∷ above))

-- the same where the number n is drawn for a node of what wakes
abbrev pub WakesAt : NodesView → NodesView → Place → Credit → Place → Credit → Body → ℕ → Type 0
WakesAt old new a c b total body n =
    (read : Reading) (v : Level) (up : List Level) (was : Status) → place_at v ≡ a → IsTableOf old read (plug (v ∷ up) was)
    → IsSound [] (plug (v ∷ up) was) → ReadsWoken read old.rows b total.records body
    → IsTableOf new read (closes n (v ∷ up) c).root

-- what rests at a place is closed, whatever began to close and came to rest there
abbrev pub Rests : NodesView → NodesView → Place → Credit → Beside → Type 0
Rests old new b total beside = (a : Place) (c : Credit) → ComesToRest old a c b total beside → ClosesPlace old new a c

abbrev pub RestsWoken : NodesView → NodesView → Place → Credit → Beside → Body → ℕ → Type 0
RestsWoken old new b total beside body n = (a : Place) (c : Credit) → ComesToRest old a c b total beside → WakesAt old new a c b total body n
