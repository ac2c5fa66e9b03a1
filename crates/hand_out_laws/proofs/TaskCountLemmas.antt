-- How many tasks are out at a place, below an alternative and round one.
use Rattle.std.proofs.Common.{◌≡◌, ℕ, suc, ◌+◌, List, [], ◌∷◌, ◌++◌, length, arith}
use Rattle.tree_model.specs.Nodes.{Alternatives, alternative, Status, Inner}
use Rattle.tree_model.specs.Levels.{Level, put_left, level_node, plug, Place, same_place}
use Rattle.tree_model.specs.Pruning.{Task, tasks_among, tasks_below}
use Rattle.tree_model.specs.SoundTrees.{one_if}

abbrev pub tasks_at : Place → List Task → ℕ
tasks_at a [] = 0
tasks_at a (task ∷ tasks) = one_if (same_place a task.at) + tasks_at a tasks

pub tasks_append : (a : Place) (xs ys : List Task) → tasks_at a (xs ++ ys) ≡ tasks_at a xs + tasks_at a ys
tasks_append a [] ys = omega arith
tasks_append a (x ∷ xs) ys = let h = tasks_append a xs ys in omega (arith, h)

-- of the alternatives to the left of one, and of all round one
abbrev pub left_tasks : Place → ℕ → List (ℕ × Status) → ℕ
left_tasks a n [] = 0
left_tasks a n (x ∷ left) = tasks_at a (tasks_below n (length left) x.1) + left_tasks a n left

abbrev pub round_tasks : Place → List Level → ℕ
round_tasks a [] = 0
round_tasks a (v ∷ up) =
    (left_tasks a v.number v.left + tasks_at a (tasks_among v.number (suc (length v.left)) v.right)) + round_tasks a up

-- the node and index of the place
abbrev pub node_here : List Level → ℕ
node_here [] = 0
node_here (v ∷ up) = v.number

abbrev pub index_here : List Level → ℕ
index_here [] = 0
index_here (v ∷ up) = length v.left

put_tasks : (a : Place) (n : ℕ) (left : List (ℕ × Status)) (others : Alternatives) → tasks_at a (tasks_among n 0 (put_left left others))
    ≡ left_tasks a n left + tasks_at a (tasks_among n (length left) others)
put_tasks a n [] others = omega arith
put_tasks a n (x ∷ left) others =
    let h : tasks_at a (tasks_among n 0 (put_left left (alternative x.0 x.1 others)))
    ≡ left_tasks a n left + tasks_at a (tasks_below n (length left) x.1 ++ tasks_among n (suc (length left)) others)
    = put_tasks a n left (alternative x.0 x.1 others) in
    let k = tasks_append a (tasks_below n (length left) x.1) (tasks_among n (suc (length left)) others) in
    omega (arith, h, k)

pub plug_tasks : (a : Place) (levels : List Level) (status : Status) → tasks_at a (tasks_below 0 0 (plug levels status))
    ≡ round_tasks a levels + tasks_at a (tasks_below (node_here levels) (index_here levels) status)
plug_tasks a [] status = omega arith
plug_tasks a (v ∷ up) status =
    let h : tasks_at a (tasks_below 0 0 (plug up (Inner (level_node v status))))
    ≡ round_tasks a up + tasks_at a (tasks_among v.number 0 (put_left v.left (alternative v.spent status v.right)))
    = plug_tasks a up (Inner (level_node v status)) in
    let k : tasks_at a (tasks_among v.number 0 (put_left v.left (alternative v.spent status v.right)))
    ≡ left_tasks a v.number v.left
    + tasks_at a (tasks_below v.number (length v.left) status ++ tasks_among v.number (suc (length v.left)) v.right)
    = put_tasks a v.number v.left (alternative v.spent status v.right) in
    let l = tasks_append a (tasks_below v.number (length v.left) status) (tasks_among v.number (suc (length v.left)) v.right) in
    omega (arith, h, k, l)
