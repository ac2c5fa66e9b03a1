-- How a ball falls to the node at which it lands.
use Rattle.std.specs.Prelude.{◌≡◌, ℕ, ◌==◌, Bool, true, false, cond, List, [], ◌∷◌, length, Option, Some, None, IsSome}
use Rattle.run_model.specs.Machine.Entries.{Entry}
use Rattle.tree_model.specs.Credits.{Credit, credit_of}
use Rattle.tree_model.specs.Nodes.{Status, single}
use Rattle.tree_model.specs.Levels.{Level, plug, Place, place_at}
use Rattle.tree_model.specs.EventViews.{place_view}
use Rattle.tree_model.specs.Orders.{first_open_left, is_cleared}
use Rattle.tree_model.specs.Closing.{guarded, wakes}
use Rattle.tree_model.specs.SoundTrees.{IsSound}
use Rattle.tree_model.specs.Pruning.{is_findall, remaining_records, left_after, ball_closes}
use Rattle.tree_nodes.specs.Bodies.{Body, Branching, Reading, new_node}
use Rattle.tree_nodes.specs.Gathering.{closed_in}
use Rattle.tree_nodes.specs.Rows.{AlternativeCell, StoredNode, Rows, row_of_node, cell_at, credit_view}
use Rattle.tree_nodes.specs.TreeTables.{NodesView, IsTableOf, IsWayTo, above_of}
use Rattle.tree_closing.specs.Sleeping.{IsBesideSleeper}
use Rattle.tree_closing.specs.Closings.{HangTogether}
use Rattle.prune_ops.specs.declared.landing.Landing.{Landing}

-- the level of a node, and those above it
abbrev pub down_to : ℕ → List Level → List Level
down_to n [] = []
down_to n (v ∷ up) = cond (v.number == n) (v ∷ up) (down_to n up)

-- what sleeps beside the first alternative of the innermost level
abbrev pub sleeper_on : List Level → Option Entry
sleeper_on [] = None
sleeper_on (v ∷ up) = guarded v

-- a ball lands beside a place, which closes with this credit
pub record IsLanding (scope : ℕ) (v : Level) (up : List Level) (was : Status) (b : Place) (total : Credit) : Type 0 where
  pub level : Level
  pub above : List Level
  pub status : Status
  pub same : plug (v ∷ up) was ≡ plug (level ∷ above) status
  pub at : place_at level ≡ b
  pub on : b.node ≡ scope
  pub down : down_to scope (v ∷ up) ≡ level ∷ above
  pub lands : (next : ℕ) (e : Entry) → ball_closes next scope (v ∷ up) (credit_of 1) e ≡ wakes next level above total e

-- on its way up from a place that is cleared to the scope a ball has come to another, with what is left of the levels below
pub record IsRisen (scope : ℕ) (v : Level) (up : List Level) (was : Status) (b : Place) (now : Credit) : Type 0 where
  pub level : Level
  pub above : List Level
  pub status : Status
  pub same : plug (v ∷ up) was ≡ plug (level ∷ above) status
  pub at : place_at level ≡ b
  pub down : down_to scope (v ∷ up) ≡ down_to scope (level ∷ above)
  pub cleared : is_cleared (Some scope) (level ∷ above) ≡ true
  pub falls : (next : ℕ) (e : Entry) → ball_closes next scope (v ∷ up) (credit_of 1) e ≡ ball_closes next scope (level ∷ above) now e

abbrev pub RisesTo : NodesView → Place → ℕ → Place → Credit → Type 0
RisesTo nodes a scope b now =
    (read : Reading) (v : Level) (up : List Level) (was : Status) → place_at v ≡ a → IsTableOf nodes read (plug (v ∷ up) was)
    → is_cleared (Some scope) (v ∷ up) ≡ true → IsRisen scope v up was b now

abbrev pub LandsBelow : NodesView → Place → ℕ → Place → Credit → Type 0
LandsBelow nodes a scope b total =
    (read : Reading) (v : Level) (up : List Level) (was : Status) → place_at v ≡ a → IsTableOf nodes read (plug (v ∷ up) was)
    → is_cleared (Some scope) (v ∷ up) ≡ true → IsLanding scope v up was b total

-- on the way from a place there is no node of this number, or nothing sleeps there
abbrev pub LandsNowhere : NodesView → Place → ℕ → Type 0
LandsNowhere nodes a scope =
    (read : Reading) (v : Level) (up : List Level) (was : Status) → place_at v ≡ a → IsTableOf nodes read (plug (v ∷ up) was)
    → is_cleared (Some scope) (v ∷ up) ≡ true → sleeper_on (down_to scope (v ∷ up)) ≡ None

abbrev pub FindsLanding : NodesView → Place → ℕ → Option Landing → Type 0
FindsLanding nodes a scope (Some l) = LandsBelow nodes a scope (place_view l.end) (credit_view l.credit)
FindsLanding nodes a scope None = LandsNowhere nodes a scope

abbrev pub IsLandingIn : Rows → Option Landing → Type 0
IsLandingIn rows None = Unit {0}
IsLandingIn rows (Some l) = IsSome (cell_at rows (place_view l.end)) × IsBesideSleeper rows (place_view l.end)

-- what a ball leaves of a level on which all to the left has closed
abbrev pub LeavesAfter : NodesView → Place → Credit → Credit → Type 0
LeavesAfter nodes b old new =
    (read : Reading) (v : Level) (up : List Level) (was : Status) → place_at v ≡ b → IsTableOf nodes read (plug (v ∷ up) was)
    → first_open_left v.number v.left ≡ None → new ≡ left_after v old

abbrev pub LeavesRecords : NodesView → Place → Credit → Credit → Type 0
LeavesRecords nodes b old new =
    (read : Reading) (v : Level) (up : List Level) (was : Status) → place_at v ≡ b → IsTableOf nodes read (plug (v ∷ up) was)
    → new ≡ remaining_records v old

-- the credit of what has closed
abbrev pub closed_at : Option (ℕ × AlternativeCell) → Option Credit
closed_at None = None
closed_at (Some c) = closed_in c.1

-- whether a level is the goal side of a findall
abbrev pub is_goal_side : Level → Bool
is_goal_side v = elim v.left [ [] ↦ is_findall v.kind | a ∷ left ↦ false ]

abbrev pub IsGoalSide : NodesView → Place → Bool → Type 0
IsGoalSide nodes b result =
    (read : Reading) (v : Level) (up : List Level) (was : Status) → place_at v ≡ b → IsTableOf nodes read (plug (v ∷ up) was)
    → result ≡ is_goal_side v

abbrev pub HasNoSleeper : NodesView → Place → Type 0
HasNoSleeper nodes b =
    (read : Reading) (v : Level) (up : List Level) (was : Status) → place_at v ≡ b → IsTableOf nodes read (plug (v ∷ up) was) → guarded v ≡ None

-- below what sleeps beside a place a body has one branch, which is ready and reads as this entry
abbrev pub ReadsBeside : Reading → Rows → Place → Body → Entry → Type 0
ReadsBeside read rows a body e =
    (r : StoredNode) (up : List Level) (above : Branching) → row_of_node rows a.node ≡ Some r → above_of up ≡ r.parent → IsWayTo rows up above
    → HangTogether rows up → (n : ℕ) → new_node read ((r.body, 1) ∷ above) n body ≡ single n e

-- a place closes with a credit, and what slept beside it wakes as an entry
abbrev pub LandsBeside : NodesView → NodesView → Place → Credit → Body → Type 0
LandsBeside old new b total body =
    (read : Reading) (v : Level) (up : List Level) (was : Status) (e : Entry) → place_at v ≡ b → IsTableOf old read (plug (v ∷ up) was)
    → IsSound [] (plug (v ∷ up) was) → ReadsBeside read old.rows b body e → IsTableOf new read (wakes (length old.rows) v up total e).root
