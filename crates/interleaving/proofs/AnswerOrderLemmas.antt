-- Answers are from left to right, and what changes at an open place keeps that.
use Rattle.std.proofs.Common.{◌≡◌, ◌⊎◌, inl, inr, ℕ, ◌+◌, ◌≤◌, true, false, List, [], ◌∷◌, refl, sym, ap, ◌∙◌, subst, arith}
use Rattle.tree_model.specs.Nodes.{Numbered, Alternatives, none, alternative, Status, Pending, Inner, Closed}
use Rattle.tree_model.specs.Levels.{Level, put_left, level_node, plug}
use Rattle.tree_model.specs.Orders.{is_closed}
use Rattle.tree_model.specs.GivenAnswers.{answers_in, answers_among, AreInOrder, AmongInOrder}
use Rattle.interleaving.proofs.ClockLemmas.{AreShut, AreClear}
use Rattle.au_term.proofs.LogicLemmas.{false_true}

-- the answers round a place
abbrev pub answers_before : List (ℕ × Status) → ℕ
answers_before [] = 0
answers_before (x ∷ left) = answers_before left + answers_in x.1

abbrev pub answers_round : List Level → ℕ
answers_round [] = 0
answers_round (v ∷ up) = answers_round up + (answers_before v.left + answers_among v.right)

pub put_answers : (left : List (ℕ × Status)) (others : Alternatives) → answers_among (put_left left others)
    ≡ answers_before left + answers_among others
put_answers [] others = omega arith
put_answers (x ∷ left) others = let h = put_answers left (alternative x.0 x.1 others) in omega (arith, h)

pub plug_answers : (levels : List Level) (status : Status) → answers_in (plug levels status) ≡ answers_round levels + answers_in status
plug_answers [] status = omega arith
plug_answers (v ∷ up) status =
    let h = plug_answers up (Inner (level_node v status)) in
    let here = put_answers v.left (alternative v.spent status v.right) in
    omega (arith, h, here)

-- where no answer is they are in order
mutual
  pub none_ordered : (status : Status) → answers_in status ≡ 0 → AreInOrder status
  none_ordered (Pending hold e) h = tt
  none_ordered (Closed c) h = tt
  none_ordered (Inner (Numbered n kind alternatives)) h = none_among alternatives h

  none_among : (others : Alternatives) → answers_among others ≡ 0 → AmongInOrder others
  none_among none h = tt
  none_among (alternative sp status others) h =
      let here : answers_in status ≡ 0 = omega (arith, h) in
      let rest : answers_among others ≡ 0 = omega (arith, h) in
      (none_ordered status here, inr rest, none_among others rest)

-- after what stands to the left
after_left : (left : List (ℕ × Status)) (others : Alternatives) → AmongInOrder (put_left left others) → AmongInOrder others
after_left [] others h = h
after_left (x ∷ left) others h = (after_left left (alternative x.0 x.1 others) h).2

-- the node of a level
pub node_order : (up : List Level) (v : Level) (status : Status) → AreInOrder (plug (v ∷ up) status)
    → AmongInOrder (put_left v.left (alternative v.spent status v.right))
node_order [] v status h = h
node_order (u ∷ up) v status h =
    (after_left u.left (alternative u.spent (Inner (level_node v status)) u.right) (node_order up u (Inner (level_node v status)) h)).0

pub at_order : (v : Level) (up : List Level) (status : Status) → AreInOrder (plug (v ∷ up) status)
    → AreInOrder status × ((is_closed status ≡ true) ⊎ (answers_among v.right ≡ 0)) × AmongInOrder v.right
at_order v up status h = after_left v.left (alternative v.spent status v.right) (node_order up v status h)

-- to the right of an open place no answers were given
abbrev pub RightsEmpty : List Level → Type 0
RightsEmpty [] = Unit {0}
RightsEmpty (v ∷ up) = (answers_among v.right ≡ 0) × RightsEmpty up

open_right : (status : Status) (n : ℕ) → is_closed status ≡ false → (is_closed status ≡ true) ⊎ (n ≡ 0) → n ≡ 0
open_right status n o (inl h) = false_true (sym o ∙ h)
open_right status n o (inr h) = h

pub rights_empty : (levels : List Level) (status : Status) → is_closed status ≡ false → AreInOrder (plug levels status) → RightsEmpty levels
rights_empty [] status o h = tt
rights_empty (v ∷ up) status o h =
    (open_right status (answers_among v.right) o (at_order v up status h).1, rights_empty up (Inner (level_node v status)) refl h)

-- levels with other alternatives to the right, without answers too
abbrev pub SameLeft : List Level → List Level → Type 0
SameLeft [] [] = Unit {0}
SameLeft [] (u ∷ new) = ⊥
SameLeft (v ∷ up) [] = ⊥
SameLeft (v ∷ up) (u ∷ new) = (u.left ≡ v.left) × (answers_among u.right ≡ 0) × SameLeft up new

pub same_left : (levels : List Level) → RightsEmpty levels → SameLeft levels levels
same_left [] h = tt
same_left (v ∷ up) h = (refl, h.0, same_left up h.1)

-- more answers are given only where all to the left is closed
abbrev NoMore : ℕ → ℕ → Type 0 → Type 0
NoMore new old clear = (new ≤ old) ⊎ clear

left_preserved : (left : List (ℕ × Status)) (old new : Alternatives) → NoMore (answers_among new) (answers_among old) (AreShut left)
    → AmongInOrder new → AmongInOrder (put_left left old) → AmongInOrder (put_left left new)
left_preserved [] old new m k h = k
left_preserved (x ∷ left) old new m k h =
    let here = after_left left (alternative x.0 x.1 old) h in
    left_preserved left (alternative x.0 x.1 old) (alternative x.0 x.1 new) (more m) (here.0, beside m here.1, k) h
  where
    more : NoMore (answers_among new) (answers_among old) (AreShut (x ∷ left)) → NoMore (answers_in x.1 + answers_among new)
        (answers_in x.1 + answers_among old) (AreShut left)
    more (inl l) = inl (omega (arith, l))
    more (inr c) = inr (shut_rest x.1 c)
      where
        shut_rest : (status : Status) → AreShut ((x.0, status) ∷ left) → AreShut left
        shut_rest (Closed c) z = z.1
        shut_rest (Pending hold e) z = false_true z.0
        shut_rest (Inner node) z = false_true z.0

    beside : NoMore (answers_among new) (answers_among old) (AreShut (x ∷ left)) → (is_closed x.1 ≡ true) ⊎ (answers_among old ≡ 0)
        → (is_closed x.1 ≡ true) ⊎ (answers_among new ≡ 0)
    beside m (inl c) = inl c
    beside (inl l) (inr z) = inr (omega (arith, l, z))
    beside (inr c) (inr z) = inl c.0

-- another status at a place
pub put_order : (levels new : List Level) (old status : Status) → SameLeft levels new → RightsEmpty levels → AreInOrder status
    → NoMore (answers_in status) (answers_in old) (AreClear levels) → AreInOrder (plug levels old) → AreInOrder (plug new status)
put_order [] [] old status s r k m h = k
put_order [] (u ∷ new) old status s r k m h = absurd s
put_order (v ∷ up) [] old status s r k m h = absurd s
put_order (v ∷ up) (u ∷ new) old status s r k m h =
    let among : AmongInOrder (put_left v.left (alternative u.spent status u.right)) = left_preserved v.left
    (alternative v.spent old v.right)
    (alternative u.spent status u.right) (at_node m) (k, inr s.1, none_among u.right s.1) (node_order up v old h) in
    let here : AmongInOrder (put_left u.left (alternative u.spent status u.right)) = subst
    (λ l. AmongInOrder (put_left l (alternative u.spent status u.right))) (sym s.0) among in
    put_order up new (Inner (level_node v old)) (Inner (level_node u status)) s.2 r.1 here (at_up m) h
  where
    at_node : NoMore (answers_in status) (answers_in old) (AreClear (v ∷ up)) → NoMore (answers_in status + answers_among u.right)
        (answers_in old + answers_among v.right) (AreShut v.left)
    at_node (inl l) = let a = s.1 in inl (omega (arith, l, a))
    at_node (inr c) = inr c.0

    at_up : NoMore (answers_in status) (answers_in old) (AreClear (v ∷ up)) → NoMore (answers_in (Inner (level_node u status)))
        (answers_in (Inner (level_node v old))) (AreClear up)
    at_up (inl l) =
        let a = s.1 in
        let one = put_answers v.left (alternative v.spent old v.right) in
        let two = put_answers u.left (alternative u.spent status u.right) in
        let same : answers_before u.left ≡ answers_before v.left = ap answers_before s.0 in
        inl (omega (arith, l, a, one, two, same))
    at_up (inr c) = inr c.1

pub round_same : (levels new : List Level) → SameLeft levels new → RightsEmpty levels → answers_round new ≡ answers_round levels
round_same [] [] s r = refl
round_same [] (u ∷ new) s r = absurd s
round_same (v ∷ up) [] s r = absurd s
round_same (v ∷ up) (u ∷ new) s r =
    let h = round_same up new s.2 r.1 in
    let a = s.1 in
    let b = r.0 in
    let same : answers_before u.left ≡ answers_before v.left = ap answers_before s.0 in
    omega (arith, h, a, b, same)
