-- What is left of a node while it goes, from the right.
use Rattle.std.proofs.Common.{◌≡◌, ℕ, ◌+◌, ◌<◌, ◌≤◌, ◌==◌, List, [], ◌∷◌, ◌++◌, length, Option, Some}
use Rattle.std.proofs.Common.{refl, sym, ap, arith, subst}
use Rattle.tree_model.specs.Nodes.{Node, Numbered, Alternatives, none, alternative, Status, Pending, Inner, Closed}
use Rattle.tree_model.specs.Nodes.{nodes_among}
use Rattle.tree_model.specs.Levels.{Level, put_left, level_node, plug, Place, place_at}
use Rattle.tree_model.specs.SoundTrees.{one_if, count_among}
use Rattle.tree_model.proofs.CountLemmas.{count_around, one_if-same}
use Rattle.tree_nodes.specs.Bodies.{Branching, Reading}
use Rattle.tree_nodes.specs.Rows.{AlternativeCell, Rows}
use Rattle.tree_nodes.specs.TreeTables.{node_number, IsIn}
use Rattle.tree_nodes.proofs.PlaceLemmas.{are_in-split}

pub snoc_same : (xs ys : List (ℕ × AlternativeCell)) (x y : ℕ × AlternativeCell) → xs ++ x ∷ [] ≡ ys ++ y ∷ [] → (xs ≡ ys) × (x ≡ y)
snoc_same [] [] x y e = (refl, cc e)
snoc_same [] (b ∷ []) x y e = absurd (cc e)
snoc_same [] (b ∷ c ∷ ys) x y e = absurd (cc e)
snoc_same (a ∷ []) [] x y e = absurd (cc e)
snoc_same (a ∷ c ∷ xs) [] x y e = absurd (cc e)
snoc_same (a ∷ xs) (b ∷ ys) x y e =
    let tails : xs ++ x ∷ [] ≡ ys ++ y ∷ [] = cc e in
    let heads : a ≡ b = cc e in
    let k = snoc_same xs ys x y tails in
    (cc (heads, k.0), k.1)

pub snoc_some : (xs : List (ℕ × AlternativeCell)) (x : ℕ × AlternativeCell) → xs ++ x ∷ [] ≡ [] → ⊥
snoc_some [] x e = cc e
snoc_some (a ∷ xs) x e = cc e

-- alternatives as those to the left of none
pub record IsAllLeft (others : Alternatives) (left : List (ℕ × Status)) : Type 0 where
  pub all : List (ℕ × Status)
  pub is : put_left left others ≡ put_left all none

pub all_left : (others : Alternatives) (left : List (ℕ × Status)) → IsAllLeft others left
all_left none left = record { all = left; is = refl }
all_left (alternative spent status others) left = let r = all_left others ((spent, status) ∷ left) in record { all = r.all; is = r.is }

-- what a table has at a place below a node
abbrev pub above_from : Option Place → List Level → Option Place
above_from parent [] = parent
above_from parent (v ∷ path) = Some (place_at v)

pub record IsInside (rows : Rows) (read : Reading) (parent : Option Place) (path : List Level) (status : Status) : Type 0 where
  pub way : Branching
  pub inside : IsIn rows read way (above_from parent path) status

pub inside : (rows : Rows) (read : Reading) (way : Branching) (parent : Option Place) (path : List Level) (status : Status)
    → IsIn rows read way parent (plug path status) → IsInside rows read parent path status
inside rows read way parent [] status h = record { way = way; inside = h }
inside rows read way parent (v ∷ path) status h =
    let k = inside rows read way parent path (Inner (level_node v status)) h in
    let parts = are_in-split rows read k.way k.inside.0 v.number v.left (alternative v.spent status v.right) k.inside.1.3 in
    record { way = (k.inside.0, length v.left) ∷ k.way; inside = parts.1.0 }

-- what is done to the right of a path, and the numbers on it
abbrev pub done : ℕ → List Level → ℕ
done m [] = 0
done m (v ∷ path) = count_among m v.right + done m path

abbrev pub on_path : ℕ → List Level → ℕ
on_path m [] = 0
on_path m (v ∷ path) = one_if (v.number == m) + on_path m path

abbrev pub nodes_done : List Level → ℕ
nodes_done [] = 0
nodes_done (v ∷ path) = nodes_among v.right + nodes_done path

pub done_within : (m : ℕ) (path : List Level) → done m path + on_path m path ≤ count_around m path
done_within m [] = omega arith
done_within m (v ∷ path) = let h = done_within m path in omega (arith, h)

-- the number of the outermost node
pub outermost : (v : Level) (path : List Level) (status : Status) (node : Node) → Inner node ≡ plug (v ∷ path) status → 0 < on_path (node_number node) (v ∷ path)
outermost v [] status node e =
    let same : node_number node ≡ v.number = ap number e in
    subst (λ (k : ℕ). 0 < one_if (v.number == k) + 0) (sym same) (let z = one_if-same v.number in omega (arith, z))
  where
    number : Status → ℕ
    number (Inner (Numbered n kind others)) = n
    number (Pending hold entry) = 0
    number (Closed credit) = 0
outermost v (u ∷ path) status node e = let h = outermost u path (Inner (level_node v status)) node e in omega (arith, h)
