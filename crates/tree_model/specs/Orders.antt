-- Left and right in the tree: order, cleared, clock.
use Rattle.std.specs.Prelude.{ℕ, ◌==◌, Bool, true, false, cond, List, [], ◌∷◌, ◌++◌, Option, Some, None, is_none, length, nat_lt}
use Rattle.tree_model.specs.Credits.{Credit, no_credit, counted, added}
use Rattle.tree_model.specs.Nodes.{Status, Pending, Inner, Closed, credits_below}
use Rattle.tree_model.specs.Levels.{Level, Place, Spot, levels_of}

-- a path from the top down
abbrev pub path_of : List Level → List Place
path_of [] = []
path_of (v ∷ up) = path_of up ++ record { node = v.number; index = length v.left } ∷ []

-- where two paths part, the first takes an alternative further left
abbrev pub parts_left : List Place → List Place → Bool
parts_left [] ps = false
parts_left (a ∷ as_far) [] = false
parts_left (a ∷ as_far) (b ∷ ps) = cond (a.index == b.index) (parts_left as_far ps) (nat_lt a.index b.index)

abbrev pub is_before : Spot → Spot → Bool
is_before a b = parts_left (path_of (levels_of a)) (path_of (levels_of b))

-- the levels strictly below a node, innermost first; all where none is named
abbrev pub is_node : Option ℕ → ℕ → Bool
is_node None n = false
is_node (Some s) n = s == n

abbrev pub levels_below : Option ℕ → List Level → List Level
levels_below scope [] = []
levels_below scope (v ∷ up) = cond (is_node scope v.number) [] (v ∷ levels_below scope up)

abbrev pub is_closed : Status → Bool
is_closed (Pending hold entry) = false
is_closed (Inner node) = false
is_closed (Closed credit) = true

-- the leftmost alternative that isn't closed, of those to the left at a node
abbrev pub first_open_left : ℕ → List (ℕ × Status) → Option Place
first_open_left n [] = None
first_open_left n (a ∷ left) = elim (first_open_left n left)
    [ Some p ↦ Some p | None ↦ cond (is_closed a.1) None (Some (record { node = n; index = length left })) ]

-- the leftmost one to the left on these levels: the outermost level counts first
abbrev pub first_open : List Level → Option Place
first_open [] = None
first_open (v ∷ up) = elim (first_open up) [ Some p ↦ Some p | None ↦ first_open_left v.number v.left ]

-- at each node strictly below the scope all alternatives to the left are closed
abbrev pub is_cleared : Option ℕ → List Level → Bool
is_cleared scope levels = is_none (first_open (levels_below scope levels))

-- the credits to the left at one node, in order
abbrev pub credits_left : List (ℕ × Status) → Credit
credits_left [] = no_credit
credits_left (a ∷ left) = added (credits_left left) (credits_below a.1)

-- the inferences taken on the way down, and those of all credits to the left
abbrev pub clock_of : List Level → ℕ
clock_of [] = 0
clock_of (v ∷ up) = counted (clock_of up) (counted (credits_left v.left).inferences v.spent)

abbrev pub answers_left : List Level → ℕ
answers_left [] = 0
answers_left (v ∷ up) = counted (answers_left up) (credits_left v.left).answers

-- the inferences taken on the levels alone
abbrev pub spent_on : List Level → ℕ
spent_on [] = 0
spent_on (v ∷ up) = counted (spent_on up) v.spent
