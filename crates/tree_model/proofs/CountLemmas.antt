-- How often a number is round a place of a tree.
use Rattle.std.proofs.Common.{◌≡◌, ◌≢◌, ℕ, ◌+◌, ◌==◌, List, [], ◌∷◌, arith}
use Rattle.tree_model.specs.Nodes.{Alternatives, alternative, Status, Inner}
use Rattle.tree_model.specs.Levels.{Level, put_left, level_node, plug}
use Rattle.tree_model.specs.SoundTrees.{one_if, count_among, count_below}

abbrev pub count_left : ℕ → List (ℕ × Status) → ℕ
count_left m [] = 0
count_left m (a ∷ left) = count_below m a.1 + count_left m left

abbrev pub count_around : ℕ → List Level → ℕ
count_around m [] = 0
count_around m (v ∷ up) = count_around m up + (one_if (v.number == m) + (count_left m v.left + count_among m v.right))

pub count-put : (m : ℕ) (left : List (ℕ × Status)) (others : Alternatives) → count_among m (put_left left others)
    ≡ count_left m left + count_among m others
count-put m [] others = omega arith
count-put m (a ∷ left) others =
    let h : count_among m (put_left left (alternative a.0 a.1 others)) ≡ count_left m left + (count_below m a.1 + count_among m others)
    = count-put m left (alternative a.0 a.1 others) in
    omega (arith, h)

pub count_plug : (m : ℕ) (levels : List Level) (status : Status) → count_below m (plug levels status) ≡ count_around m levels + count_below m status
count_plug m [] status = omega arith
count_plug m (v ∷ up) status =
    let h : count_below m (plug up (Inner (level_node v status)))
    ≡ count_around m up + (one_if (v.number == m) + count_among m (put_left v.left (alternative v.spent status v.right))) =
    count_plug m up (Inner (level_node v status)) in
    let k : count_among m (put_left v.left (alternative v.spent status v.right))
    ≡ count_left m v.left + (count_below m status + count_among m v.right) = count-put m v.left (alternative v.spent status v.right) in
    omega (arith, h, k)

pub one_if-same : (n : ℕ) → one_if (n == n) ≡ 1
one_if-same n = grind arith

pub one_if-other : (m n : ℕ) → m ≢ n → one_if (m == n) ≡ 0
one_if-other m n h = grind arith
