-- What is open to the left, on fewer levels.
use Rattle.std.specs.Prelude.{◌≡◌, ℕ, Bool, true, false, cond, List, [], ◌∷◌, Option, Some, None, refl}
use Rattle.tree_model.specs.Levels.{Level, Place}
use Rattle.tree_model.specs.Orders.{is_node, levels_below, first_open_left, first_open}

-- of a level and those above it
abbrev and_further : Option Place → Option Place → Option Place
and_further outer inner = elim outer as (λ q. Option Place) [ Some p ↦ Some p | None ↦ inner ]

neither : (outer inner : Option Place) → and_further outer inner ≡ None → (outer ≡ None) × (inner ≡ None)
neither None inner e = (refl, e)
neither (Some p) inner e = absurd (cc e)

both : (outer inner : Option Place) → outer ≡ None → inner ≡ None → and_further outer inner ≡ None
both None inner e f = f
both (Some p) inner e f = absurd (cc e)

-- if nothing is open on some levels, nothing is on those below a scope
pub none_below : (scope : Option ℕ) (levels : List Level) → first_open levels ≡ None → first_open (levels_below scope levels) ≡ None
none_below scope [] e = refl
none_below scope (v ∷ up) e =
    let parts = neither (first_open up) (first_open_left v.number v.left) e in
    by_test (is_node scope v.number) parts.1 (none_below scope up parts.0)
  where
    by_test : (b : Bool) → first_open_left v.number v.left ≡ None → first_open (levels_below scope up) ≡ None
        → first_open (cond b [] (v ∷ levels_below scope up)) ≡ None
    by_test true l h = refl
    by_test false l h = both (first_open (levels_below scope up)) (first_open_left v.number v.left) h l
