-- Where a place is cleared to a scope, all in front of it below the scope is credits and ends of scopes.
use Rattle.std.proofs.Common.{◌≡◌, ℕ, Bool, true, false, cond, List, [], ◌∷◌, ◌++◌, length, Option, Some, None, refl, sym, ap, ◌∙◌}
use Rattle.std.specs.Prelude.{is_none}
use Rattle.au_model.specs.Terms.Each.{Each}
use Rattle.tree_model.specs.Nodes.{Kind, Status, Pending, Inner, Closed}
use Rattle.tree_model.specs.Levels.{Level, Place}
use Rattle.tree_model.specs.Orders.{is_node, levels_below, is_closed, first_open_left, first_open, is_cleared}
use Rattle.tree_model.specs.PendingLists.{Way, way_of, list_below, list_left, level_front, front_of, levels_from, front_below}
use Rattle.tree_model.specs.PendingLists.{IsCreditOrEnd}
use Rattle.tree_model.specs.PendingLists.{FrontIsQuiet}
use Rattle.interleaving.proofs.AppendLemmas.{each-append, append-assoc, append-nil}

pub front_split : (scope : Option ℕ) (levels : List Level) → front_of levels ≡ front_of (levels_from scope levels) ++ front_below scope
    levels
front_split scope [] = refl
front_split scope (v ∷ up) = go (is_node scope v.number) (front_split scope up)
  where
    go : (b : Bool) → front_of up ≡ front_of (levels_from scope up) ++ front_below scope up → front_of (v ∷ up)
        ≡ front_of (cond b (v ∷ up) (levels_from scope up)) ++ cond b [] (front_below scope up ++ level_front up v)
    go true h = sym (append-nil (front_of (v ∷ up)))
    go false h = ap (λ l. l ++ level_front up v) h ∙ append-assoc (front_of (levels_from scope up)) (front_below scope up)
        (level_front up v)

quiet-status : (way : Way) (spent : ℕ) (status : Status) → is_closed status ≡ true → Each IsCreditOrEnd (list_below way spent status)
quiet-status way spent (Closed credit) h = (tt, tt)
quiet-status way spent (Pending hold entry) h = absurd no_way
  where
    no_way : ⊥
    no_way = cc
quiet-status way spent (Inner node) h = absurd no_way
  where
    no_way : ⊥
    no_way = cc

quiet-left : (way : Way) (n : ℕ) (kind : Kind) (left : List (ℕ × Status)) → first_open_left n left ≡ None
    → Each IsCreditOrEnd (list_left way n kind left)
quiet-left way n kind [] h = tt
quiet-left way n kind (a ∷ left) h = go (first_open_left n left) refl (is_closed a.1) refl (quiet-left way n kind left) h
  where
    go : (o : Option Place) → first_open_left n left ≡ o → (b : Bool) → is_closed a.1 ≡ b
        → (first_open_left n left ≡ None → Each IsCreditOrEnd (list_left way n kind left)) →
        elim o as (λ q. Option Place) [ Some p ↦ Some p | None ↦ cond b None (Some (record { node = n; index = length left })) ] ≡ None
        → Each IsCreditOrEnd (list_left way n kind (a ∷ left))
    go None e true c rest k = each-append IsCreditOrEnd (list_left way n kind left) _ (rest e)
        (each-append IsCreditOrEnd (list_below _ a.0 a.1) _ (quiet-status _ a.0 a.1 c) (tt, tt))
    go None e false c rest k = let no_way : ⊥ = cc in absurd no_way
    go (Some p) e b c rest k = let no_way : ⊥ = cc in absurd no_way

-- the front of levels on which nothing is open to the left
pub quiet_front : (scope : Option ℕ) (levels : List Level) → first_open (levels_below scope levels) ≡ None
    → Each IsCreditOrEnd (front_below scope levels)
quiet_front scope [] h = tt
quiet_front scope (v ∷ up) h = go (is_node scope v.number) (quiet_front scope up) h
  where
    part : (o : Option Place) → first_open (levels_below scope up) ≡ o
        → (first_open (levels_below scope up) ≡ None → Each IsCreditOrEnd (front_below scope up)) →
        elim o as (λ q. Option Place) [ Some p ↦ Some p | None ↦ first_open_left v.number v.left ] ≡ None
        → Each IsCreditOrEnd (front_below scope up ++ level_front up v)
    part None e rest k = each-append IsCreditOrEnd (front_below scope up) (level_front up v) (rest e)
        (tt, quiet-left (way_of up) v.number v.kind v.left k)
    part (Some p) e rest k = let no_way : ⊥ = cc in absurd no_way

    go : (b : Bool) → (first_open (levels_below scope up) ≡ None → Each IsCreditOrEnd (front_below scope up))
        → first_open (cond b [] (v ∷ levels_below scope up)) ≡ None
        → Each IsCreditOrEnd (cond b [] (front_below scope up ++ level_front up v))
    go true rest k = tt
    go false rest k = part (first_open (levels_below scope up)) refl rest k

pub no_place : (o : Option Place) → is_none o ≡ true → o ≡ None
no_place None h = refl
no_place (Some p) h = let no_way : ⊥ = cc in absurd no_way

pub cleared_is_quiet : (scope : Option ℕ) (levels : List Level) → is_cleared scope levels ≡ true
    → Each IsCreditOrEnd (front_below scope levels)
cleared_is_quiet scope levels h = quiet_front scope levels (no_place (first_open (levels_below scope levels)) h)

pub front_is_quiet : (scope : Option ℕ) (levels : List Level) → is_cleared scope levels ≡ true → FrontIsQuiet scope levels
front_is_quiet scope levels h = record { joined = front_split scope levels; quiet = cleared_is_quiet scope levels h }
