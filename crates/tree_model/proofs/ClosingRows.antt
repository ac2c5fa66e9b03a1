-- Worked rows: folding, distances.
use Rattle.std.specs.Prelude.{◌≡◌, ℕ, List, [], ◌∷◌, refl}
use Rattle.tree_model.specs.Credits.{credit_of}
use Rattle.tree_model.specs.Nodes.{ChoiceNode, Numbered, none, alternative, Inner, Closed}
use Rattle.tree_model.specs.Levels.{Level}
use Rattle.tree_model.specs.Closing.{closes}
use Rattle.tree_model.specs.Branches.{Leg, distance}

-- a node of one alternative, and below it one of two, the first closed with 2 inferences
abbrev upper : Level
upper = record { number = 0; kind = ChoiceNode; left = []; spent = 0; right = none }

abbrev lower : Level
lower = record { number = 1; kind = ChoiceNode; left = (0, Closed (credit_of 2)) ∷ []; spent = 0; right = none }

-- the second closes with 3: both fold into the upper node, which stays
folded_up : closes 2 (lower ∷ upper ∷ []) (credit_of 3)
    ≡ record { root = Inner (Numbered 0 ChoiceNode (alternative 0 (Closed (credit_of 5)) none)); next = 2 }
folded_up = refl

abbrev leg : List ℕ → ℕ → Leg
leg name bindings = record { name = name; bindings = bindings }

-- two branches that part at the second alternative
apart_by : distance (leg (0 ∷ []) 1 ∷ leg (0 ∷ 0 ∷ []) 2 ∷ leg (1 ∷ []) 0 ∷ []) (leg (0 ∷ []) 1 ∷ leg (1 ∷ 0 ∷ []) 4 ∷ []) ≡ 9
apart_by = refl
