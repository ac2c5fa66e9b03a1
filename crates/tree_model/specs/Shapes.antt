-- How the entries of a private run become nodes: the oldest entries are the further alternatives of the outermost node.
use Rattle.std.specs.Prelude.{ℕ, suc, ◌+◌, ◌-◌, ◌==◌, ◌&&◌, ◌||◌, Bool, true, false, not, cond, List, [], ◌∷◌, ◌++◌, map, length, take}
use Rattle.std.specs.Prelude.{drop, nat_lt, nat_le}
use Rattle.std.specs.List.{list_any}
use Rattle.run_model.specs.Machine.Items.{Item, GoalItem, CatchMark, CollectMark, RemovalItem}
use Rattle.run_model.specs.Machine.Entries.{Entry, PlainEntry, CatchEntry, FindallEntry, EndEntry}
use Rattle.tree_model.specs.Nodes.{Kind, ChoiceNode, CatchNode, FindallNode, Hold, Ready, Dormant, Numbered, Alternatives, alternative}
use Rattle.tree_model.specs.Nodes.{Status, Pending, Inner, Closed, entry_alternatives}
use Rattle.tree_model.specs.Credits.{no_credit}
use Rattle.tree_model.specs.Levels.{Level}
use Rattle.tree_model.specs.Floors.{node_of, with_nodes}

-- so many alternatives of a node are entries older than its first
abbrev pub further : ℕ → ℕ
further size = size - 1

abbrev pub is_guard : Entry → Bool
is_guard (CatchEntry c r f) = true
is_guard (FindallEntry results l f) = true
is_guard (PlainEntry f) = false
is_guard (EndEntry b) = false

-- the heights to which items cut
abbrev pub cuts_of_items : List (Item ℕ) → List ℕ
cuts_of_items [] = []
cuts_of_items (GoalItem t h ∷ items) = h ∷ cuts_of_items items
cuts_of_items (CatchMark h ∷ items) = cuts_of_items items
cuts_of_items (CollectMark t h ∷ items) = cuts_of_items items
cuts_of_items (RemovalItem number ∷ items) = cuts_of_items items

abbrev pub cuts_of_entry : Entry → List ℕ
cuts_of_entry (PlainEntry f) = cuts_of_items f.items
cuts_of_entry (CatchEntry c r f) = cuts_of_items f.items
cuts_of_entry (FindallEntry results l f) = cuts_of_items f.items
cuts_of_entry (EndEntry b) = []

abbrev pub cuts_of : List Entry → List ℕ
cuts_of [] = []
cuts_of (e ∷ es) = cuts_of_entry e ++ cuts_of es

-- no cut height falls inside a node whose entries begin at this height
abbrev pub is_unsplit : ℕ → ℕ → List ℕ → Bool
is_unsplit low size cuts = not (list_any (λ h. nat_lt low h && nat_lt h (low + further size)) cuts)

-- a catch or findall entry is the one further alternative of its node
abbrev pub is_alone : List Entry → Bool
is_alone es = not (list_any is_guard es) || length es == 1

-- of entries over so many others, for nodes from the outermost on
abbrev pub fits_nodes : ℕ → List ℕ → List ℕ → List Entry → Bool
fits_nodes low cuts [] es = length es == 1
fits_nodes low cuts (size ∷ sizes) es =
    let rest = length es - further size in
    nat_le 2 size && (nat_lt (further size) (length es) &&
    (is_alone (drop rest es) && (is_unsplit low size cuts && fits_nodes (low + further size) cuts sizes (take rest es))))

abbrev pub same_sizes : List ℕ → List ℕ → Bool
same_sizes [] [] = true
same_sizes [] (b ∷ bs) = false
same_sizes (a ∷ sizes) [] = false
same_sizes (a ∷ sizes) (b ∷ bs) = (a == b) && same_sizes sizes bs

-- one entry becomes a node of its own
abbrev pub fits_shape : ℕ → List ℕ → List Entry → Bool
fits_shape low sizes (e ∷ []) = same_sizes sizes (1 ∷ [])
fits_shape low sizes es = fits_nodes low (cuts_of es) sizes es

-- the node that holds the entry at this height over the floor, of nodes numbered from here on
abbrev pub holder : ℕ → List ℕ → ℕ → ℕ
holder next [] p = next
holder next (size ∷ sizes) p = cond (nat_lt p (further size)) next (holder (suc next) sizes (p - further size))

-- the scope that a height becomes: of the branch, or of the new node whose further alternative is the entry right below
abbrev pub placed_scope : ℕ → List ℕ → List Level → ℕ → ℕ
placed_scope next sizes levels h = cond (nat_le h (length levels)) (node_of levels h) (holder next sizes (h - suc (length levels)))

abbrev pub guard_kind : List Entry → Kind
guard_kind (CatchEntry c r f ∷ es) = CatchNode
guard_kind (FindallEntry results l f ∷ es) = FindallNode
guard_kind (PlainEntry f ∷ es) = ChoiceNode
guard_kind (EndEntry b ∷ es) = ChoiceNode
guard_kind [] = ChoiceNode

abbrev pub guard_hold : Kind → Hold
guard_hold CatchNode = Dormant
guard_hold FindallNode = Dormant
guard_hold k = Ready

abbrev pub further_alternatives : List Entry → Alternatives
further_alternatives es = entry_alternatives (guard_hold (guard_kind es)) es

-- the nodes of entries, the newest first
abbrev pub placed_status : ℕ → List ℕ → List Entry → Status
placed_status next [] [] = Closed no_credit
placed_status next [] (e ∷ es) = Pending Ready e
placed_status next (size ∷ sizes) es =
    let rest = length es - further size in
    Inner (Numbered next (guard_kind (drop rest es))
    (alternative 0 (placed_status (suc next) sizes (take rest es)) (further_alternatives (drop rest es))))

abbrev pub placed : ℕ → List ℕ → List Level → List Entry → Status
placed next sizes levels es = placed_status next sizes (map (with_nodes (placed_scope next sizes levels)) es)
