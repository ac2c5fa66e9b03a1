-- Scopes by the heights of nodes over a branch.
use Rattle.std.specs.Prelude.{ℕ, suc, ◌-◌, ◌==◌, cond, List, [], ◌∷◌, length, map}
use Rattle.clause_compile.specs.declared.item.Item.{Item as BranchItem}
use Rattle.run_model.specs.Machine.Items.{Item}
use Rattle.tree_model.specs.Floors.{renamed_item}
use Rattle.tree_model.specs.Levels.{Place}
use Rattle.branch_reading.specs.Readings.{items_meant}

-- how many of the places up a branch are at a node and above it
abbrev pub height_among : List Place → ℕ → ℕ
height_among [] s = 0
height_among (p ∷ places) s = cond (p.node == s) (suc (length places)) (height_among places s)

-- items by these heights, as a region defers them
abbrev pub items_over : List Place → List BranchItem → List (Item ℕ)
items_over places items = map (renamed_item (height_among places) (λ s. height_among places s - 1)) (items_meant items)
