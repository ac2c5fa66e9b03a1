-- Histories of a tree.
use Rattle.std.specs.Prelude.{◌≡◌, ℕ, ◌&&◌, Bool, true, List, [], ◌∷◌}
use Rattle.run_model.specs.Programs.Jobs.{Job}
use Rattle.tree_model.specs.Events.{Event}
use Rattle.tree_model.specs.TreeStates.{TreeState, opening_tree}
use Rattle.tree_model.specs.Legality.{is_legal}
use Rattle.tree_model.specs.Effects.{after_event}

abbrev pub after_events : TreeState → List Event → TreeState
after_events t [] = t
after_events t (e ∷ es) = after_events (after_event t e) es

-- each event is legal in the tree after those before it
abbrev pub are_legal : TreeState → List Event → Bool
are_legal t [] = true
are_legal t (e ∷ es) = is_legal t e && are_legal (after_event t e) es

-- the tree of a job after a history
abbrev pub tree_after : Job → ℕ → ℕ → List Event → TreeState
tree_after job budget window es = after_events (opening_tree job budget window) es

abbrev pub IsLegalHistory : Job → ℕ → ℕ → List Event → Type 0
IsLegalHistory job budget window es = are_legal (opening_tree job budget window) es ≡ true
