-- What closes, lands or is cut away keeps the answers, and their order.
use Rattle.std.proofs.Common.{◌≡◌, inl, inr, ℕ, ◌+◌, ◌≤◌, ◌==◌, Bool, true, false, cond, List, [], ◌∷◌, Option, Some, None, refl, sym, ap}
use Rattle.std.proofs.Common.{◌∙◌, subst, arith}
use Rattle.std.specs.Prelude.{min}
use Rattle.run_model.specs.Machine.Entries.{Entry, PlainEntry, CatchEntry, FindallEntry, EndEntry}
use Rattle.tree_model.specs.Credits.{Credit, greatest, no_credit, added, credit_of, without_records}
use Rattle.tree_model.specs.Nodes.{Numbered, Alternatives, none, alternative, Status, Pending, Inner, Closed, credits_among}
use Rattle.tree_model.specs.Nodes.{credits_below, single}
use Rattle.tree_model.specs.Levels.{Level, put_left, level_node, plug}
use Rattle.tree_model.specs.Orders.{is_closed, credits_left}
use Rattle.tree_model.specs.Closing.{guarded, with_right, and_then, closed_credit, all_right, all_left, all_closed, folds, wakes}
use Rattle.tree_model.specs.Closing.{findall_goes_on, with_results, goal_side_closes, closes}
use Rattle.tree_model.specs.Pruning.{is_findall, emptied, pruned, remaining_records, left_after, ball_closes}
use Rattle.tree_model.specs.Effects.{spending}
use Rattle.tree_model.specs.SoundTrees.{IsOpen}
use Rattle.tree_model.specs.GivenAnswers.{answers_in, answers_among, AreInOrder, AmongInOrder}
use Rattle.interleaving.proofs.ContextLemmas.{IsAround}
use Rattle.interleaving.proofs.ClosingListLemmas.{Guards, guards_of}
use Rattle.interleaving.proofs.ListEndLemmas.{levels_down}
use Rattle.interleaving.proofs.AnswerOrderLemmas.{answers_before, put_answers, plug_answers, none_ordered, RightsEmpty, rights_empty}
use Rattle.interleaving.proofs.AnswerOrderLemmas.{SameLeft, same_left, put_order}

-- credits show the answers, as long as a count keeps them
mutual
  pub shown_below : (status : Status) → answers_in status ≤ greatest → (credits_below status).answers ≡ answers_in status
  shown_below (Pending hold e) l = refl
  shown_below (Closed c) l = refl
  shown_below (Inner (Numbered n kind alternatives)) l = shown_among alternatives l

  shown_among : (others : Alternatives) → answers_among others ≤ greatest → (credits_among others).answers ≡ answers_among others
  shown_among none l = refl
  shown_among (alternative sp status others) l =
      let one = shown_below status (omega (arith, l)) in
      let two = shown_among others (omega (arith, l)) in
      let here : (credits_among (alternative sp status others)).answers
      ≡ min greatest ((credits_below status).answers + (credits_among others).answers) = refl in
      omega (arith, one, two, here, l)

pub shown_left : (left : List (ℕ × Status)) → answers_before left ≤ greatest → (credits_left left).answers ≡ answers_before left
shown_left [] l = refl
shown_left (x ∷ left) l =
    let one = shown_left left (omega (arith, l)) in
    let two = shown_below x.1 (omega (arith, l)) in
    let here : (credits_left (x ∷ left)).answers ≡ min greatest ((credits_left left).answers + (credits_below x.1).answers) = refl in
    omega (arith, one, two, here, l)

-- the credit of a node that closes
joined_answers : (a b : Option Credit) (d : Credit) → and_then a b ≡ Some d → (x : Credit) × (y : Credit) × (a ≡ Some x) × (b ≡ Some y)
    × (d.answers ≡ min greatest (x.answers + y.answers))
joined_answers None b d e = let no_way : ⊥ = cc in absurd no_way
joined_answers (Some x) None d e = let no_way : ⊥ = cc in absurd no_way
joined_answers (Some x) (Some y) d e = let same : added x y ≡ d = some_is e in (x, y, refl, refl, sym (ap (λ c. c.answers) same))
  where
    some_is : {p q : Credit} → Some p ≡ Some q → p ≡ q
    some_is z = cc

closed_answers : (status : Status) (c : Credit) → closed_credit status ≡ Some c → c.answers ≡ answers_in status
closed_answers (Pending hold e) c h = let no_way : ⊥ = cc in absurd no_way
closed_answers (Inner node) c h = let no_way : ⊥ = cc in absurd no_way
closed_answers (Closed d) c h = let same : d ≡ c = some_is h in ap (λ x. x.answers) (sym same)
  where
    some_is : {p q : Credit} → Some p ≡ Some q → p ≡ q
    some_is z = cc

right_answers : (others : Alternatives) (d : Credit) → all_right others ≡ Some d → answers_among others ≤ greatest → d.answers
    ≡ answers_among others
right_answers none d e l = let same : no_credit ≡ d = some_is e in ap (λ c. c.answers) (sym same)
  where
    some_is : {p q : Credit} → Some p ≡ Some q → p ≡ q
    some_is z = cc
right_answers (alternative sp status others) d e l =
    let j = joined_answers (closed_credit status) (all_right others) d e in
    let one = closed_answers status j.0 j.2 in
    let two = right_answers others j.1 j.3 (omega (arith, l)) in
    let sum = j.4 in
    omega (arith, one, two, sum, l)

left_answers : (left : List (ℕ × Status)) (d : Credit) → all_left left ≡ Some d → answers_before left ≤ greatest → d.answers
    ≡ answers_before left
left_answers [] d e l = let same : no_credit ≡ d = some_is e in ap (λ c. c.answers) (sym same)
  where
    some_is : {p q : Credit} → Some p ≡ Some q → p ≡ q
    some_is z = cc
left_answers (x ∷ left) d e l =
    let j = joined_answers (all_left left) (closed_credit x.1) d e in
    let one = left_answers left j.0 j.2 (omega (arith, l)) in
    let two = closed_answers x.1 j.1 j.3 in
    let sum = j.4 in
    omega (arith, one, two, sum, l)

node_answers : (v : Level) (c d : Credit) → all_closed v c ≡ Some d → answers_before v.left + (c.answers + answers_among v.right) ≤
    greatest → d.answers ≡ answers_before v.left + (c.answers + answers_among v.right)
node_answers v c d e l =
    let j = joined_answers (and_then (all_left v.left) (Some c)) (all_right v.right) d e in
    let k = joined_answers (all_left v.left) (Some c) j.0 j.2 in
    let one = left_answers v.left k.0 k.2 (omega (arith, l)) in
    let own : c.answers ≡ k.1.answers = ap (λ x. x.answers) (some_is k.3) in
    let two = right_answers v.right j.1 j.3 (omega (arith, l)) in
    let sum = j.4 in
    let low = k.4 in
    omega (arith, one, own, two, sum, low, l)
  where
    some_is : {p q : Credit} → Some p ≡ Some q → p ≡ q
    some_is z = cc

-- a status in order with so many answers
abbrev pub IsOrdered : Status → ℕ → Type 0
IsOrdered status n = AreInOrder status × (answers_in status ≡ n)

-- what sleeps at a level wakes, or goes
pub with_order : (v : Level) (up : List Level) (old new : Status) (d : Credit) (x : Entry) → Guards v x → answers_in new ≡ 0 → d.answers
    ≡ answers_in old → AreInOrder (plug (v ∷ up) old) → IsOrdered (plug (with_right new v ∷ up) (Closed d))
    (answers_in (plug (v ∷ up) old))
with_order v up old new d x g z e h =
    let w = with_right new v in
    let before = Inner (level_node v old) in
    let after = Inner (level_node w (Closed d)) in
    let rights = rights_empty up before refl h in
    let one = put_answers v.left (alternative v.spent old v.right) in
    let two = put_answers v.left (alternative v.spent (Closed d) (alternative 0 new none)) in
    let none_right : answers_among v.right ≡ 0 = ap answers_among g.right in
    let same : answers_in after ≡ answers_in before = omega (arith, one, two, none_right, z, e) in
    let among : AmongInOrder (put_left v.left (alternative v.spent (Closed d) (alternative 0 new none))) = subst
    (λ l. AmongInOrder (put_left l (alternative v.spent (Closed d) (alternative 0 new none)))) (sym g.left)
    (tt, inl refl, (none_ordered new z, inr refl, tt)) in
    let a = plug_answers up before in
    let b = plug_answers up after in
    (put_order up up before after (same_left up rights) rights among (inl (omega (arith, same))) h, omega (arith, a, b, same))

-- an alternative closes
pub closes_order : (next : ℕ) (levels : List Level) (c : Credit) → IsAround levels IsOpen → AreInOrder (plug levels (Closed c))
    → answers_in (plug levels (Closed c)) ≤ greatest → IsOrdered (closes next levels c).root (answers_in (plug levels (Closed c)))
closes_order next [] c a h l = (h, refl)
closes_order next (v ∷ up) c a h l = pick (guarded v) refl (λ d. closes_order next up d a.1)
  where
    Further : Type 0
    Further = (d : Credit) → AreInOrder (plug up (Closed d)) → answers_in (plug up (Closed d)) ≤ greatest
        → IsOrdered (closes next up d).root (answers_in (plug up (Closed d)))

    fold : (above : List Level) (u : Level) (o : Option Credit) → all_closed u c ≡ o → AreInOrder (plug (u ∷ above) (Closed c))
        → answers_in (plug (u ∷ above) (Closed c)) ≤ greatest
        → ((d : Credit) → AreInOrder (plug above (Closed d)) → answers_in (plug above (Closed d)) ≤ greatest
        → IsOrdered (closes next above d).root (answers_in (plug above (Closed d))))
        → IsOrdered (folds next u above c o (closes next above)).root (answers_in (plug (u ∷ above) (Closed c)))
    fold above u None e k m f = (k, refl)
    fold [] u (Some total) e k m f = (k, refl)
    fold (t ∷ above) u (Some total) e k m f =
        let d = added (credit_of t.spent) total in
        let before = Inner (level_node u (Closed c)) in
        let rights = rights_empty (t ∷ above) before refl k in
        let round = plug_answers (t ∷ above) before in
        let inner = put_answers u.left (alternative u.spent (Closed c) u.right) in
        let sum = node_answers u c total e (omega (arith, round, inner, m)) in
        let here : d.answers ≡ min greatest (0 + total.answers) = refl in
        let same : d.answers ≡ answers_in before = omega (arith, sum, here, round, inner, m) in
        let now = plug_answers (t ∷ above) (Closed d) in
        let all : answers_in (plug (t ∷ above) (Closed d)) ≡ answers_in (plug (t ∷ above) before) = omega (arith, now, round, same) in
        let r = f d (put_order (t ∷ above) (t ∷ above) before (Closed d) (same_left (t ∷ above) rights) rights tt
        (inl (omega (arith, same))) k) (omega (arith, all, m)) in
        (r.0, r.1 ∙ all)

    pick : (o : Option Entry) → guarded v ≡ o → Further → IsOrdered (goal_side_closes next v up c o (closes next up)).root
        (answers_in (plug (v ∷ up) (Closed c)))
    pick None q f = fold up v (all_closed v c) refl h l f
    pick (Some (PlainEntry x)) q f = fold up v (all_closed v c) refl h l f
    pick (Some (CatchEntry y r x)) q f =
        let g = guards_of v up (CatchEntry y r x) a.0 q in
        let gone = with_right (Closed no_credit) v in
        let w = with_order v up (Closed c) (Closed no_credit) c (CatchEntry y r x) g refl refl h in
        let same = w.1 in
        let r = fold up gone (all_closed gone c) refl w.0 (omega (arith, same, l)) f in
        (r.0, r.1 ∙ same)
    pick (Some (FindallEntry results list x)) q f =
        let g = guards_of v up (FindallEntry results list x) a.0 q in
        with_order v up (Closed c) (Inner
        (single next (findall_goes_on v.number (with_results c.records (FindallEntry results list x))))) (without_records c)
        (FindallEntry results list x) g refl refl h
    pick (Some (EndEntry b)) q f =
        let g = guards_of v up (EndEntry b) a.0 q in
        with_order v up (Closed c) (Inner (single next (EndEntry b))) c (EndEntry b) g refl refl h

-- what a ball leaves of a level
left_answers_of : (v : Level) (c : Credit) → answers_before v.left + c.answers ≤ greatest → (left_after v c).answers
    ≡ answers_before v.left + c.answers
left_answers_of v c l =
    let one = shown_left v.left (omega (arith, l)) in
    let kept = remaining_answers v.left (is_findall v.kind) in
    let here : (left_after v c).answers ≡ min greatest ((credits_left v.left).answers + min greatest (0 + (remaining_records v c).answers))
    = refl in
    omega (arith, one, kept, here, l)
  where
    remaining_answers : (left : List (ℕ × Status)) (b : Bool)
        → (elim left as (λ l. Credit) [ [] ↦ cond b (without_records c) c | x ∷ rest ↦ c ]).answers ≡ c.answers
    remaining_answers [] true = refl
    remaining_answers [] false = refl
    remaining_answers (x ∷ rest) b = refl

-- a ball lands
pub ball_closes_order : (next s : ℕ) (levels : List Level) (status : Status) (c : Credit) (e : Entry) (w : Level) (above : List Level)
    (x : Entry) → levels_down levels s ≡ w ∷ above → Guards w x → is_closed status ≡ false → AreInOrder (plug levels status) → c.answers
    ≡ answers_in status → answers_in (plug levels status) ≤ greatest
    → IsOrdered (ball_closes next s levels c e).root (answers_in (plug levels status))
ball_closes_order next s [] status c e w above x down g o h a l = let no_way : ⊥ = cc in absurd no_way
ball_closes_order next s (v ∷ up) status c e w above x down g o h a l = go (v.number == s) down
    (λ k d m. ball_closes_order next s up (Inner (level_node v status)) (left_after v c) e w above x d g refl h k m)
  where
    total : answers_in (plug (v ∷ up) status) ≡ answers_in (plug up (Inner (level_node v status)))
    total = refl

    parts : (left_after v c).answers ≡ answers_in (Inner (level_node v status))
    parts =
        let rights = rights_empty (v ∷ up) status o h in
        let zero_right = rights.0 in
        let round = plug_answers up (Inner (level_node v status)) in
        let inner = put_answers v.left (alternative v.spent status v.right) in
        let mine = left_answers_of v c (omega (arith, round, inner, l, a)) in
        omega (arith, mine, inner, zero_right, a)

    first_same : {p q : Level} {ps qs : List Level} → p ∷ ps ≡ q ∷ qs → p ≡ q
    first_same z = cc

    go : (b : Bool) → cond b (v ∷ up) (levels_down up s) ≡ w ∷ above
        → ((left_after v c).answers ≡ answers_in (Inner (level_node v status)) → levels_down up s ≡ w ∷ above
        → answers_in (plug up (Inner (level_node v status))) ≤ greatest → IsOrdered (ball_closes next s up (left_after v c) e).root
        (answers_in (plug up (Inner (level_node v status)))))
        → IsOrdered (cond b (wakes next v up (left_after v c) e) (ball_closes next s up (left_after v c) e)).root
        (answers_in (plug (v ∷ up) status))
    go false d f = f parts d l
    go true d f =
        let g2 : Guards v x = subst (λ u. Guards u x) (sym (first_same d)) g in
        let empty : answers_before v.left ≡ 0 = ap answers_before g2.left in
        let zero_right : answers_among v.right ≡ 0 = ap answers_among g2.right in
        let inner = put_answers v.left (alternative v.spent status v.right) in
        let p = parts in
        with_order v up status (Inner (single next e)) (left_after v c) x g2 refl (omega (arith, p, inner, empty, zero_right)) h

-- levels with something spent, or cut to the right
pub spent_left : (k : ℕ) (levels : List Level) → RightsEmpty levels → SameLeft levels (spending k levels)
spent_left k [] h = tt
spent_left k (v ∷ up) h = (refl, h.0, same_left up h.1)

emptied_none : (others : Alternatives) → answers_among (emptied others) ≡ 0
emptied_none none = refl
emptied_none (alternative sp status others) = let h = emptied_none others in omega (arith, h)

cut_left : (n : ℕ) (levels new : List Level) → SameLeft levels new → SameLeft levels (pruned n new)
cut_left n [] [] h = tt
cut_left n [] (u ∷ new) h = absurd h
cut_left n (v ∷ up) [] h = absurd h
cut_left n (v ∷ up) (u ∷ new) h = go (u.number == n) (cut_left n up new h.2)
  where
    go : (b : Bool) → SameLeft up (pruned n new)
        → SameLeft (v ∷ up) (cond b (u ∷ new) (record u { right = emptied u.right } ∷ pruned n new))
    go true k = h
    go false k = (h.0, emptied_none u.right, k)

pub pruned_left : (n k : ℕ) (levels : List Level) → RightsEmpty levels → SameLeft levels (pruned n (spending k levels))
pruned_left n k levels h = cut_left n levels (spending k levels) (spent_left k levels h)
