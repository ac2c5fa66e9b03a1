-- What is pending first.
use Rattle.std.proofs.Common.{◌≡◌, ℕ, ◌+◌, ◌<◌, Bool, true, false, cond, List, [], ◌∷◌, ◌++◌, Option, Some, None, refl, sym, ap, ◌∙◌, subst, arith}
use Rattle.std.specs.Prelude.{find, ◌&&◌, ◌||◌, nat_le, nat_lt}
use Rattle.std.proofs.lemmas.Bool.Decides.{nat_tests}
use Rattle.std.proofs.lemmas.List.{append-nil}
use Rattle.au_term.proofs.LogicLemmas.{and-both}
use Rattle.interleaving.proofs.UnchangedPlaceLemmas.{place_self}
use Rattle.interleaving.proofs.WayLemmas.{cond-true, cond-false}
use Rattle.run_model.specs.Machine.Entries.{Entry}
use Rattle.run_model.specs.declared.ending.RunEnding.TheVariants.{Budget}
use Rattle.tree_model.specs.Nodes.{Kind, Hold, Ready, TakenBy, Node, Numbered, Alternatives, none, alternative, Status, Pending, Inner, Closed}
use Rattle.tree_model.specs.Levels.{Level, put_left, level_node, plug, Place, same_place, Spot, levels_of, place_of_spot, pending_in}
use Rattle.tree_model.specs.Levels.{pending_among, pending_below, pending_of}
use Rattle.tree_model.specs.Orders.{is_closed, first_open_left, first_open, clock_of}
use Rattle.tree_model.specs.TreeStates.{TreeState, pending_spots, first_spot, leftmost, live, end_by, ended}
use Rattle.tree_model.specs.Legality.{is_ready, is_taken_by, is_spot_at, if_room, claimable, taken_at}

-- what is closed to the left
abbrev and_further : Option Place → Option Place → Option Place
and_further outer inner = elim outer as (λ q. Option Place) [ Some p ↦ Some p | None ↦ inner ]

neither : (outer inner : Option Place) → and_further outer inner ≡ None → (outer ≡ None) × (inner ≡ None)
neither None inner e = (refl, e)
neither (Some p) inner e = let no_way : ⊥ = cc in absurd no_way

shut_here : (b : Bool) (p : Place) → cond b None (Some p) ≡ None → b ≡ true
shut_here true p e = refl
shut_here false p e = let no_way : ⊥ = cc in absurd no_way

-- past alternatives that are closed
past : (up : List Level) (n : ℕ) (kind : Kind) (left seen : List (ℕ × Status)) (others : Alternatives) → first_open_left n left ≡ None
    → pending_among up n kind seen (put_left left others) ≡ pending_among up n kind (left ++ seen) others
past up n kind [] seen others h = refl
past up n kind ((spent, Closed c) ∷ left) seen others h =
    past up n kind left seen (alternative spent (Closed c) others) (neither (first_open_left n left) None h).0
past up n kind ((spent, Pending hold e) ∷ left) seen others h =
    let k = (neither (first_open_left n left) _ h).1 in let no_way : ⊥ = cc in absurd no_way
past up n kind ((spent, Inner node) ∷ left) seen others h =
    let k = (neither (first_open_left n left) _ h).1 in let no_way : ⊥ = cc in absurd no_way

-- what is pending begins with this spot
abbrev pub Begins : List Spot → Spot → Type 0
Begins spots s = (more : List Spot) × (spots ≡ s ∷ more)

begins_more : (xs ys : List Spot) (s : Spot) → Begins xs s → Begins (xs ++ ys) s
begins_more xs ys s b = (b.0 ++ ys, ap (λ (l : List Spot). l ++ ys) b.1)

-- at a level whose alternatives to the left are closed
at_level : (v : Level) (up : List Level) (status : Status) (s : Spot) → first_open_left v.number v.left ≡ None
    → Begins (pending_below v up status) s → Begins (pending_in up (level_node v status)) s
at_level v up status s h b = subst (λ l. Begins l s) (sym (past up v.number v.kind v.left [] (alternative v.spent status v.right) h
    ∙ ap (λ (l : List (ℕ × Status)). pending_among up v.number v.kind l (alternative v.spent status v.right)) (append-nil v.left)))
    (begins_more (pending_below v up status) (pending_among up v.number v.kind ((v.spent, status) ∷ v.left) v.right) s b)

in_tree : (up : List Level) (node : Node) (s : Spot) → first_open up ≡ None → Begins (pending_in up node) s
    → Begins (pending_of (plug up (Inner node))) s
in_tree [] node s h b = b
in_tree (v ∷ up) node s h b =
    let k = neither (first_open up) (first_open_left v.number v.left) h in
    in_tree up (level_node v (Inner node)) s k.0 (at_level v up (Inner node) s k.1 b)

pub first_at : (v : Level) (up : List Level) (h : Hold) (e : Entry) → first_open (v ∷ up) ≡ None
    → Begins (pending_of (plug (v ∷ up) (Pending h e))) (record { level = v; above = up; hold = h; entry = e })
first_at v up h e c =
    let k = neither (first_open up) (first_open_left v.number v.left) c in
    in_tree up (level_node v (Pending h e)) (record { level = v; above = up; hold = h; entry = e }) k.0
    (at_level v up (Pending h e) (record { level = v; above = up; hold = h; entry = e }) k.1 ([], refl))

-- a tree in which this spot is the first that is pending
module _ (t : TreeState) (s : Spot) (b : Begins (pending_spots t) s) where
  pub is_first : leftmost t ≡ Some s
  is_first = ap first_spot b.1

  pub first_place : is_spot_at (place_of_spot s) (leftmost t) ≡ true
  first_place = ap (is_spot_at (place_of_spot s)) is_first ∙ place_self (place_of_spot s)

  found_first : (test : Spot → Bool) → test s ≡ true → find test (pending_spots t) ≡ Some s
  found_first test h = ap (find test) b.1 ∙ cond-true (test s) (Some s) (find test b.0) h

  pub may_be_claimed : is_ready s.hold ≡ true → claimable t ≡ Some s
  may_be_claimed h = ap (if_room t) (found_first (λ r. is_ready r.hold) h)
      ∙ cond-true _ (Some s) None (ap (λ b. b || nat_lt (live t) t.window) first_place)

  pub is_taken : (w : ℕ) → is_taken_by w s.hold ≡ true → taken_at w (place_of_spot s) t ≡ Some s
  is_taken w h = found_first (λ r. is_taken_by w r.hold && same_place (place_of_spot s) (place_of_spot r))
      (and-both _ _ h (place_self (place_of_spot s)))

  pub goes_on : t.halted ≡ None → clock_of (levels_of s) < t.budget → ended t ≡ None
  goes_on h l = ap (λ o. end_by o (leftmost t) t.budget) h ∙ (ap (λ o. end_by None o t.budget) is_first
      ∙ cond-false (nat_le t.budget (clock_of (levels_of s))) (Some Budget) None early)
    where
      early : nat_le t.budget (clock_of (levels_of s)) ≡ false
      early = grind (arith, nat_tests)
