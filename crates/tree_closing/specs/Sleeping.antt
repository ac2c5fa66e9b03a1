-- What sleeps to the right of a first alternative: the recovery of a catch, what follows a findall, or the end of a query.
use Rattle.std.specs.Prelude.{◌≡◌, ℕ, Bool, true, false, List, [], ◌∷◌, Option, Some, None}
use Rattle.au_term.specs.Term.{Term}
use Rattle.run_model.specs.Machine.Items.{Continuation}
use Rattle.run_model.specs.Machine.Entries.{Entry, CatchEntry, FindallEntry, EndEntry}
use Rattle.tree_model.specs.Nodes.{Hold, Ready, TakenBy, Waiting, Dormant, Status}
use Rattle.tree_model.specs.Levels.{Level, plug, Place, place_at}
use Rattle.tree_model.specs.Closing.{guarded}
use Rattle.tree_model.specs.SoundTrees.{IsSound}
use Rattle.tree_nodes.specs.Bodies.{Reading}
use Rattle.tree_nodes.specs.Rows.{AlternativeCell, PendingCell, InnerCell, ClosedCell, Rows, cell_at}
use Rattle.tree_nodes.specs.TreeTables.{NodesView, IsTableOf}
use Rattle.tree_closing.specs.declared.sleeping.Sleeping.{Sleeping}
use Rattle.tree_closing.specs.declared.sleeping.Sleeping.TheVariants.{Nothing, Recovery, Following, QueryEnd}

-- the second alternative of a node
abbrev pub right_of : Place → Place
right_of a = record { node = a.node; index = 1 }

abbrev pub is_dormant : Hold → Bool
is_dormant Ready = false
is_dormant (TakenBy w) = false
is_dormant (Waiting g) = false
is_dormant Dormant = true

abbrev pub is_asleep : AlternativeCell → Bool
is_asleep (PendingCell hold) = is_dormant hold
is_asleep (InnerCell n) = false
is_asleep (ClosedCell credit) = false

abbrev pub is_asleep_at : Option (ℕ × AlternativeCell) → Bool
is_asleep_at None = false
is_asleep_at (Some c) = is_asleep c.1

-- the entry of what sleeps
abbrev pub IsSleeping : Sleeping → Option Entry → Type 0
IsSleeping Nothing o = o ≡ None
IsSleeping Recovery o = (c : Term) × ((r : Term) × ((f : Continuation ℕ) × (o ≡ Some (CatchEntry c r f))))
IsSleeping Following o = (results : List Term) × ((l : Term) × ((f : Continuation ℕ) × (o ≡ Some (FindallEntry results l f))))
IsSleeping QueryEnd o = (b : Option Term) × (o ≡ Some (EndEntry b))

-- of each sound tree
abbrev pub Sleeps : NodesView → Place → Sleeping → Type 0
Sleeps nodes a sleeping =
    (read : Reading) (v : Level) (up : List Level) (was : Status) → place_at v ≡ a → IsTableOf nodes read (plug (v ∷ up) was)
    → IsSound [] (plug (v ∷ up) was) → IsSleeping sleeping (guarded v)

-- something sleeps beside a first alternative
pub record IsBesideSleeper (rows : Rows) (a : Place) : Type 0 where
  pub first : a.index ≡ 0
  pub asleep : is_asleep_at (cell_at rows (right_of a)) ≡ true

abbrev pub IsThereWhere : Sleeping → Rows → Place → Type 0
IsThereWhere Nothing rows a = Unit {0}
IsThereWhere Recovery rows a = IsBesideSleeper rows a
IsThereWhere Following rows a = IsBesideSleeper rows a
IsThereWhere QueryEnd rows a = IsBesideSleeper rows a
