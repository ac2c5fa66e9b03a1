-- How an alternative closes: nodes whose alternatives are all closed fold into the alternative above, and what was
-- dormant after a first alternative wakes or goes.
use Rattle.std.specs.Prelude.{ℕ, suc, List, [], ◌∷◌, Option, Some, None, codes}
use Rattle.au_term.specs.Term.{Term}
use Rattle.au_model.specs.Terms.Forms.{binary, list_term}
use Rattle.run_model.specs.Machine.Items.{GoalItem, before}
use Rattle.run_model.specs.Machine.Entries.{Entry, PlainEntry, CatchEntry, FindallEntry, EndEntry, with_result}
use Rattle.tree_model.specs.Credits.{Credit, no_credit, added, credit_of, without_records}
use Rattle.tree_model.specs.Nodes.{Hold, Ready, TakenBy, Waiting, Dormant, Alternatives, none, alternative, Status, Pending, Inner}
use Rattle.tree_model.specs.Nodes.{Closed, single}
use Rattle.tree_model.specs.Levels.{Level, plug}

-- a tree, and the number that the next node gets
pub record Grown : Type 0 where
  pub root : Status
  pub next : ℕ

-- the entry that is dormant to the right of a first alternative
abbrev pub dormant_entry : Hold → Entry → Option Entry
dormant_entry Dormant e = Some e
dormant_entry Ready e = None
dormant_entry (TakenBy w) e = None
dormant_entry (Waiting g) e = None

abbrev pub dormant_right : Alternatives → Option Entry
dormant_right (alternative spent (Pending hold e) others) = dormant_entry hold e
dormant_right (alternative spent (Inner node) others) = None
dormant_right (alternative spent (Closed credit) others) = None
dormant_right none = None

abbrev pub guarded : Level → Option Entry
guarded v = elim v.left [ [] ↦ dormant_right v.right | a ∷ left ↦ None ]

-- the level with this status in place of what is dormant
abbrev pub with_right : Status → Level → Level
with_right status v = record v { right = alternative 0 status none }

-- results added one by one
abbrev pub with_results : List Term → Entry → Entry
with_results [] e = e
with_results (t ∷ ts) e = with_results ts (with_result t e)

-- a findall whose goal side has closed: its list is unified with the results
abbrev pub findall_goes_on : ℕ → Entry → Entry
findall_goes_on n (FindallEntry results l f) = PlainEntry (before (GoalItem (binary (codes "=") l (list_term results)) n ∷ []) f)
findall_goes_on n e = e

-- the credits of alternatives, where all are closed
abbrev pub and_then : Option Credit → Option Credit → Option Credit
and_then None b = None
and_then (Some a) None = None
and_then (Some a) (Some b) = Some (added a b)

abbrev pub closed_credit : Status → Option Credit
closed_credit (Pending hold entry) = None
closed_credit (Inner node) = None
closed_credit (Closed credit) = Some credit

abbrev pub all_right : Alternatives → Option Credit
all_right none = Some no_credit
all_right (alternative spent status others) = and_then (closed_credit status) (all_right others)

abbrev pub all_left : List (ℕ × Status) → Option Credit
all_left [] = Some no_credit
all_left (a ∷ left) = and_then (all_left left) (closed_credit a.1)

-- the credits of a node where this alternative closes with this one
abbrev pub all_closed : Level → Credit → Option Credit
all_closed v c = and_then (and_then (all_left v.left) (Some c)) (all_right v.right)

-- the node folds into the alternative above, one without an alternative above excepted
abbrev pub folds : ℕ → Level → List Level → Credit → Option Credit → (Credit → Grown) → Grown
folds next v up c None go = record { root = plug (v ∷ up) (Closed c); next = next }
folds next v [] c (Some total) go = record { root = plug (v ∷ []) (Closed c); next = next }
folds next v (u ∷ up) c (Some total) go = go (added (credit_of u.spent) total)

-- what is dormant wakes: it becomes the one alternative of a new node
abbrev pub wakes : ℕ → Level → List Level → Credit → Entry → Grown
wakes next v up c e = record { root = plug (with_right (Inner (single next e)) v ∷ up) (Closed c); next = suc next }

abbrev pub goal_side_closes : ℕ → Level → List Level → Credit → Option Entry → (Credit → Grown) → Grown
goal_side_closes next v up c (Some (CatchEntry catcher recovery f)) go =
    let gone = with_right (Closed no_credit) v in folds next gone up c (all_closed gone c) go
goal_side_closes next v up c (Some (FindallEntry results l f)) go =
    wakes next v up (without_records c) (findall_goes_on v.number (with_results c.records (FindallEntry results l f)))
goal_side_closes next v up c (Some (EndEntry b)) go = wakes next v up c (EndEntry b)
goal_side_closes next v up c (Some (PlainEntry f)) go = folds next v up c (all_closed v c) go
goal_side_closes next v up c None go = folds next v up c (all_closed v c) go

-- the alternative of the innermost level closes with this credit
abbrev pub closes : ℕ → List Level → Credit → Grown
closes next [] c = record { root = Closed c; next = next }
closes next (v ∷ up) c = goal_side_closes next v up c (guarded v) (closes next up)
