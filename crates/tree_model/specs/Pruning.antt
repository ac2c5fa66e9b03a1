-- What a cut or a ball takes away.
use Rattle.std.specs.Prelude.{ℕ, suc, ◌==◌, Bool, true, false, cond, List, [], ◌∷◌, ◌++◌, length}
use Rattle.run_model.specs.Machine.Entries.{Entry}
use Rattle.tree_model.specs.Credits.{Credit, no_credit, added, credit_of, without_records}
use Rattle.tree_model.specs.Nodes.{Kind, ChoiceNode, CatchNode, FindallNode, QueryNode, Hold, Ready, TakenBy, Waiting, Dormant, Node}
use Rattle.tree_model.specs.Nodes.{Numbered, Alternatives, none, alternative, Status, Pending, Inner, Closed}
use Rattle.tree_model.specs.Levels.{Level, Place}
use Rattle.tree_model.specs.Orders.{credits_left}
use Rattle.tree_model.specs.Closing.{Grown, wakes}

-- a worker, and the alternative that was handed out to it
pub record Task : Type 0 where
  pub worker : ℕ
  pub at : Place

-- the tasks that are out at and below an alternative
abbrev pub task_at : Hold → ℕ → ℕ → List Task
task_at (TakenBy w) n i = record { worker = w; at = record { node = n; index = i } } ∷ []
task_at Ready n i = []
task_at (Waiting g) n i = []
task_at Dormant n i = []

abbrev mutual
  pub tasks_in : Node → List Task
  tasks_in (Numbered n kind alternatives) = tasks_among n 0 alternatives

  pub tasks_among : ℕ → ℕ → Alternatives → List Task
  tasks_among n i none = []
  tasks_among n i (alternative spent status others) = tasks_below n i status ++ tasks_among n (suc i) others

  pub tasks_below : ℕ → ℕ → Status → List Task
  tasks_below n i (Pending hold entry) = task_at hold n i
  tasks_below n i (Inner node) = tasks_in node
  tasks_below n i (Closed credit) = []

-- each alternative closes with the empty credit, and what was below it is gone
abbrev pub emptied : Alternatives → Alternatives
emptied none = none
emptied (alternative spent status others) = alternative spent (Closed no_credit) (emptied others)

-- on the levels strictly below the scope all to the right is closed
abbrev pub pruned : ℕ → List Level → List Level
pruned scope [] = []
pruned scope (v ∷ up) = cond (v.number == scope) (v ∷ up) (record v { right = emptied v.right } ∷ pruned scope up)

-- the tasks that are out there
abbrev pub tasks_pruned : ℕ → List Level → List Task
tasks_pruned scope [] = []
tasks_pruned scope (v ∷ up) = cond (v.number == scope) [] (tasks_among v.number (suc (length v.left)) v.right ++ tasks_pruned scope up)

-- the goal side of a findall
abbrev pub is_findall : Kind → Bool
is_findall FindallNode = true
is_findall ChoiceNode = false
is_findall CatchNode = false
is_findall QueryNode = false

-- records that are in the goal side of a findall go with it
abbrev pub remaining_records : Level → Credit → Credit
remaining_records v c = elim v.left [ [] ↦ cond (is_findall v.kind) (without_records c) c | a ∷ left ↦ c ]

-- what a ball leaves of a level: what closed to the left, what was spent, and what is left of the levels below
abbrev pub left_after : Level → Credit → Credit
left_after v c = added (credits_left v.left) (added (credit_of v.spent) (remaining_records v c))

-- a ball lands at the node that is its scope: the goal side closes, and what is dormant wakes as this entry
abbrev pub ball_closes : ℕ → ℕ → List Level → Credit → Entry → Grown
ball_closes next scope [] c e = record { root = Closed c; next = next }
ball_closes next scope (v ∷ up) c e = cond (v.number == scope) (wakes next v up (left_after v c) e)
    (ball_closes next scope up (left_after v c) e)
