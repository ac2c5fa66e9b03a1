-- A branch read as the lower part of a sequential stack, its floor: one entry for each node on it, innermost first. So
-- the table of the sequential machine says what an alternative does, and what a cut or a ball leaves of its branch.
use Rattle.std.specs.Prelude.{ℕ, suc, ◌-◌, ◌==◌, cond, List, [], ◌∷◌, None, length, map}
use Rattle.run_model.specs.Machine.Items.{Item, GoalItem, CatchMark, CollectMark, RemovalItem, Continuation}
use Rattle.run_model.specs.Machine.Entries.{Entry, PlainEntry, CatchEntry, FindallEntry, EndEntry}
use Rattle.tree_model.specs.Nodes.{Kind, QueryNode, ChoiceNode, CatchNode, FindallNode, Hold, Ready, TakenBy, Waiting, Dormant}
use Rattle.tree_model.specs.Nodes.{Alternatives, none, alternative, Pending, Inner, Closed}
use Rattle.tree_model.specs.Levels.{Level}

-- scopes and marks under other names
abbrev pub renamed_item : {N M : Type 0} → (N → M) → (N → M) → Item N → Item M
renamed_item scope mark (GoalItem t s) = GoalItem t (scope s)
renamed_item scope mark (CatchMark s) = CatchMark (mark s)
renamed_item scope mark (CollectMark t s) = CollectMark t (mark s)
renamed_item scope mark (RemovalItem number) = RemovalItem number

abbrev pub renamed_continuation : {N M : Type 0} → (N → M) → (N → M) → Continuation N → Continuation M
renamed_continuation scope mark f = record { items = map (renamed_item scope mark) f.items; named = f.named; next = f.next }

abbrev pub renamed_entry : (ℕ → ℕ) → (ℕ → ℕ) → Entry → Entry
renamed_entry scope mark (PlainEntry f) = PlainEntry (renamed_continuation scope mark f)
renamed_entry scope mark (CatchEntry c r f) = CatchEntry c r (renamed_continuation scope mark f)
renamed_entry scope mark (FindallEntry results l f) = FindallEntry results l (renamed_continuation scope mark f)
renamed_entry scope mark (EndEntry b) = EndEntry b

-- a cut to a node keeps its entry of the floor and all under it
abbrev pub height_of : List Level → ℕ → ℕ
height_of [] s = 0
height_of (v ∷ up) s = cond (v.number == s) (suc (length up)) (height_of up s)

-- the node to which a cut to this height is one
abbrev pub node_of : List Level → ℕ → ℕ
node_of [] h = 0
node_of (v ∷ up) h = cond (h == suc (length up)) v.number (node_of up h)

-- the entry of a mark's node is one lower than a cut to it leaves
abbrev pub with_heights : List Level → Entry → Entry
with_heights levels e = renamed_entry (height_of levels) (λ s. height_of levels s - 1) e

abbrev pub with_nodes : (ℕ → ℕ) → Entry → Entry
with_nodes node e = renamed_entry node (λ h. node (suc h)) e

-- what stands for a node: the entry that is Dormant to the right; in its place, where there is none, one at which no
-- ball lands
abbrev pub hold_entry : Hold → Entry → Entry
hold_entry Dormant e = e
hold_entry Ready e = EndEntry None
hold_entry (TakenBy w) e = EndEntry None
hold_entry (Waiting g) e = EndEntry None

abbrev pub right_entry : Alternatives → Entry
right_entry (alternative spent (Pending hold e) others) = hold_entry hold e
right_entry (alternative spent (Inner node) others) = EndEntry None
right_entry (alternative spent (Closed credit) others) = EndEntry None
right_entry none = EndEntry None

abbrev pub floor_of : List Level → List Entry
floor_of [] = []
floor_of (v ∷ up) = with_heights up (right_entry v.right) ∷ floor_of up

-- the innermost query's node
abbrev pub query_kind : Kind → ℕ → ℕ → ℕ
query_kind QueryNode n other = n
query_kind ChoiceNode n other = other
query_kind CatchNode n other = other
query_kind FindallNode n other = other

abbrev pub query_node : List Level → ℕ
query_node [] = 0
query_node (v ∷ up) = query_kind v.kind v.number (query_node up)
