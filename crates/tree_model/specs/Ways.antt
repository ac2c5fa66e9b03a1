-- What the items of an entry name: nodes on the way down to it.
use Rattle.std.specs.Prelude.{◌≡◌, ℕ, ◌==◌, ◌&&◌, Bool, true, false, cond, List, [], ◌∷◌}
use Rattle.run_model.specs.Machine.Items.{Item, GoalItem, CatchMark, CollectMark, RemovalItem}
use Rattle.run_model.specs.Machine.Entries.{Entry, PlainEntry, CatchEntry, FindallEntry, EndEntry}
use Rattle.tree_model.specs.Nodes.{Kind, ChoiceNode, CatchNode, FindallNode, QueryNode, Hold, Ready, TakenBy, Waiting, Dormant}
use Rattle.tree_model.specs.PendingLists.{Step, Way}

abbrev pub is_on : Way → ℕ → Bool
is_on [] s = false
is_on (a ∷ way) s = cond (a.node == s) true (is_on way s)

abbrev pub same_kind : Kind → Kind → Bool
same_kind ChoiceNode ChoiceNode = true
same_kind CatchNode CatchNode = true
same_kind FindallNode FindallNode = true
same_kind QueryNode QueryNode = true
same_kind j k = false

-- no cut leaves the goal side of a findall, or the goals of a query
abbrev pub stops_cuts : Kind → Bool
stops_cuts FindallNode = true
stops_cuts QueryNode = true
stops_cuts ChoiceNode = false
stops_cuts CatchNode = false

abbrev pub is_barrier : Step → Bool
is_barrier a = (a.index == 0) && stops_cuts a.kind

-- whether a node is a scope on a way: it is there, and no barrier below it
abbrev pub in_reach : Way → ℕ → Bool
in_reach [] s = false
in_reach (a ∷ way) s = cond (a.node == s) true (cond (is_barrier a) false (in_reach way s))

-- whether a way leads through the goal side of a node of this kind, in reach
abbrev pub through : Kind → Way → ℕ → Bool
through kind [] s = false
through kind (a ∷ way) s = cond (a.node == s) ((a.index == 0) && same_kind a.kind kind) (cond (is_barrier a) false (through kind way s))

-- the part of a way from a node up, and the part above it
abbrev pub way_from : Way → ℕ → Way
way_from [] s = []
way_from (a ∷ way) s = cond (a.node == s) (a ∷ way) (way_from way s)

abbrev pub way_above : Way → ℕ → Way
way_above [] s = []
way_above (a ∷ way) s = cond (a.node == s) way (way_above way s)

-- each scope is in reach, each mark names a node through whose goal side the way leads, and what follows looks no lower
abbrev pub AreScoped : Way → List (Item ℕ) → Type 0
AreScoped way [] = Unit {0}
AreScoped way (GoalItem t s ∷ items) = (in_reach way s ≡ true) × AreScoped (way_from way s) items
AreScoped way (CatchMark s ∷ items) = (through CatchNode way s ≡ true) × AreScoped (way_above way s) items
AreScoped way (CollectMark t s ∷ items) = (through FindallNode way s ≡ true) × AreScoped (way_above way s) items
AreScoped way (RemovalItem number ∷ items) = AreScoped way items

abbrev pub above_last : Way → Way
above_last [] = []
above_last (a ∷ way) = way

-- whether a way leads through the goals of a query, and not its end
abbrev pub is_query : Kind → Bool
is_query QueryNode = true
is_query ChoiceNode = false
is_query CatchNode = false
is_query FindallNode = false

abbrev pub under_query : Way → Bool
under_query [] = false
under_query (a ∷ way) = cond (is_query a.kind) (a.index == 0) (under_query way)

pub record IsAsked (way : Way) (items : List (Item ℕ)) : Type 0 where
  pub asked : under_query way ≡ true
  pub scoped : AreScoped way items

-- no entry is above all nodes
abbrev pub is_below : Way → Bool
is_below [] = false
is_below (a ∷ way) = true

-- an entry at the alternative at which a way ends; what follows a catch or a findall looks above its node
abbrev pub IsOnWay : Way → Entry → Type 0
IsOnWay way (PlainEntry f) = IsAsked way f.items
IsOnWay way (CatchEntry c r f) = IsAsked (above_last way) f.items
IsOnWay way (FindallEntry results l f) = IsAsked (above_last way) f.items
IsOnWay way (EndEntry b) = is_below way ≡ true

-- catch and findall entries are held by nobody
abbrev pub IsAwake : Entry → Type 0
IsAwake (PlainEntry f) = Unit {0}
IsAwake (EndEntry b) = Unit {0}
IsAwake (CatchEntry c r f) = ⊥
IsAwake (FindallEntry results l f) = ⊥

abbrev pub IsHeldBy : Hold → Entry → Type 0
IsHeldBy Dormant e = Unit {0}
IsHeldBy Ready e = IsAwake e
IsHeldBy (TakenBy w) e = IsAwake e
IsHeldBy (Waiting g) e = IsAwake e
