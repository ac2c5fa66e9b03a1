-- What a place that closes, or becomes a node, does to what is out.
use Rattle.std.proofs.Common.{◌≡◌, ◌≢◌, ℕ, suc, ◌-◌, ◌≤◌, ◌==◌, Bool, true, false, cond, List, [], ◌∷◌, ◌++◌, length, take, drop}
use Rattle.std.proofs.Common.{Option, Some, None, refl, sym, ap, ◌∙◌, arith}
use Rattle.run_model.specs.Machine.Entries.{Entry, PlainEntry, CatchEntry, FindallEntry, EndEntry}
use Rattle.tree_model.specs.Credits.{Credit, no_credit}
use Rattle.tree_model.specs.Nodes.{Kind, ChoiceNode, CatchNode, FindallNode, QueryNode, Hold, Pending, Closed, entry_alternatives}
use Rattle.tree_model.specs.Levels.{Level, plug, Place, same_place, Spot, levels_of, place_of_spot}
use Rattle.tree_model.specs.Closing.{Grown, guarded, with_right, all_closed, folds, wakes, goal_side_closes, closes}
use Rattle.tree_model.specs.Pruning.{Task, left_after, ball_closes}
use Rattle.tree_model.specs.Shapes.{guard_kind, guard_hold, further, placed_status}
use Rattle.tree_model.specs.TreeStates.{TreeState}
use Rattle.tree_model.specs.Effects.{with_status}
use Rattle.tree_model.specs.HandOuts.{Handed, Never}
use Rattle.interleaving.proofs.HandOutCountLemmas.{handed, at, Agrees, AgreesAll, AgreesAround, occurrences, occurrences_all}
use Rattle.interleaving.proofs.HandOutCountLemmas.{occurrences_plug, agrees_in, preserved_around, NewIn, one_place}
use Rattle.interleaving.proofs.UnchangedPlaceLemmas.{same_place-is}
use Rattle.interleaving.proofs.OnceLemmas.{IsGoing, moved_at, elsewhere, here, lost_elsewhere, IsThere}

-- round the place nothing changes
pub around_here : (G : Place → Option Handed) (t : TreeState) (s : Spot) (tr : Handed → Option Handed) → ((a : Place) → G a ≢ None)
    → IsThere G t s → AgreesAround (moved_at G (place_of_spot s) tr) (levels_of s)
around_here G t s tr d th = preserved_around G (moved_at G (place_of_spot s) tr) (place_of_spot s) (elsewhere G (place_of_spot s) tr d)
    (levels_of s) th.alone th.around

pub new_here : (G : Place → Option Handed) (t : TreeState) (s : Spot) (tr : Handed → Option Handed) → ((a : Place) → G a ≢ None)
    → IsGoing G t → IsThere G t s → NewIn (moved_at G (place_of_spot s) tr) t.next
new_here G t s tr d g th a l = go (same_place (place_of_spot s) a) refl
  where
    go : (c : Bool) → same_place (place_of_spot s) a ≡ c → moved_at G (place_of_spot s) tr a ≡ Some Never
    go true e = let same : place_of_spot s ≡ a = same_place-is (place_of_spot s) a e in let node : (place_of_spot s).node
        ≡ a.node = ap (λ p. p.node) same in let no_way : ⊥ = omega (arith, th.low, node, l) in absurd no_way
    go false e = elsewhere G (place_of_spot s) tr d a e ∙ g.new a l

-- another hold of the same entry
pub hold_going : (G : Place → Option Handed) (t : TreeState) (s : Spot) (tr : Handed → Option Handed) (hold : Hold)
    → ((a : Place) → G a ≢ None) → IsGoing G t → IsThere G t s → tr (handed s.hold) ≡ Some (handed hold)
    → IsGoing (moved_at G (place_of_spot s) tr) (with_status s (Pending hold s.entry) t)
hold_going G t s tr hold d g th q =
    let b = place_of_spot s in
    let F = moved_at G b tr in
    let same : (a : Place) → occurrences a 0 0 (plug (levels_of s) (Pending hold s.entry))
    ≡ occurrences a 0 0 t.root = λ a. occurrences_plug a (levels_of s) (Pending hold s.entry)
    ∙ (sym (occurrences_plug a (levels_of s) (Pending s.hold s.entry)) ∙ ap (occurrences a 0 0) th.inside) in
    record {
      agrees = agrees_in F (levels_of s) (Pending hold s.entry) (around_here G t s tr d th)
          (here G b tr (handed s.hold) (handed hold) th.mine q);
      new = new_here G t s tr d g th;
      lost = lost_elsewhere G F b (elsewhere G b tr d) t.lost th.no_task g.lost;
      once = λ a. omega (arith, same a, g.once a);
      old = g.old;
    }

-- numbers only grow
folds_next : (next : ℕ) (v : Level) (up : List Level) (c : Credit) (o : Option Credit) (go : Credit → Grown)
    → ((k : Credit) → next ≤ (go k).next) → next ≤ (folds next v up c o go).next
folds_next next v up c None go f = omega arith
folds_next next v [] c (Some total) go f = omega arith
folds_next next v (u ∷ up) c (Some total) go f = f _

side_next : (next : ℕ) (v : Level) (up : List Level) (c : Credit) (o : Option Entry) (go : Credit → Grown)
    → ((k : Credit) → next ≤ (go k).next) → next ≤ (goal_side_closes next v up c o go).next
side_next next v up c None go f = folds_next next v up c (all_closed v c) go f
side_next next v up c (Some (PlainEntry g)) go f = folds_next next v up c (all_closed v c) go f
side_next next v up c (Some (CatchEntry x r g)) go f = let gone = with_right (Closed no_credit) v in folds_next next gone up c
    (all_closed gone c) go f
side_next next v up c (Some (FindallEntry results x g)) go f = omega arith
side_next next v up c (Some (EndEntry b)) go f = omega arith

pub closes_next : (next : ℕ) (levels : List Level) (c : Credit) → next ≤ (closes next levels c).next
closes_next next [] c = omega arith
closes_next next (v ∷ up) c = side_next next v up c (guarded v) (closes next up) (λ k. closes_next next up k)

pub ball_closes_next : (next scope : ℕ) (levels : List Level) (c : Credit) (e : Entry) → next ≤ (ball_closes next scope levels c e).next
ball_closes_next next scope [] c e = omega arith
ball_closes_next next scope (v ∷ up) c e = go (v.number == scope) (λ d. ball_closes_next next scope up d e)
  where
    go : (b : Bool) → ((d : Credit) → next ≤ (ball_closes next scope up d e).next)
        → next ≤ (cond b (wakes next v up (left_after v c) e) (ball_closes next scope up (left_after v c) e)).next
    go true f = omega arith
    go false f = f (left_after v c)

pub append-none : (tasks : List Task) → tasks ≡ tasks ++ []
append-none [] = refl
append-none (x ∷ xs) = ap (λ l. x ∷ l) (append-none xs)

-- entries that are new
pub new_agrees : (F : Place → Option Handed) (next : ℕ) → NewIn F next → (hold : Hold) → handed hold ≡ Never → (n i : ℕ) (es : List Entry)
    → next ≤ n → AgreesAll F n i (entry_alternatives hold es)
new_agrees F next w hold q n i [] l = tt
new_agrees F next w hold q n i (e ∷ es) l = (w (at n i) l ∙ ap (λ h. Some h) (sym q), new_agrees F next w hold q n (suc i) es l)

pub new_occurs : (a : Place) (hold : Hold) (n i : ℕ) (es : List Entry) → suc a.node ≤ n
    → occurrences_all a n i (entry_alternatives hold es) ≡ 0
new_occurs a hold n i [] l = refl
new_occurs a hold n i (e ∷ es) l = omega (arith, one_place a n i l, new_occurs a hold n (suc i) es l)

guard_never : (k : Kind) → handed (guard_hold k) ≡ Never
guard_never ChoiceNode = refl
guard_never CatchNode = refl
guard_never FindallNode = refl
guard_never QueryNode = refl

placed_agrees : (F : Place → Option Handed) (first : ℕ) → NewIn F first → (next : ℕ) (sizes : List ℕ) (es : List Entry) (n i : ℕ)
    → first ≤ next → first ≤ n → Agrees F n i (placed_status next sizes es)
placed_agrees F first w next [] [] n i l m = tt
placed_agrees F first w next [] (e ∷ es) n i l m = w (at n i) m
placed_agrees F first w next (size ∷ sizes) es n i l m =
    let rest = length es - further size in (
      placed_agrees F first w (suc next) sizes (take rest es) next 0 (omega arith) l,
      new_agrees F first w
          (guard_hold (guard_kind (drop rest es))) (guard_never (guard_kind (drop rest es))) next 1 (drop rest es) l,
    )

placed_occurs : (a : Place) (next : ℕ) (sizes : List ℕ) (es : List Entry) (n i : ℕ) → suc a.node ≤ next → suc a.node ≤ n
    → occurrences a n i (placed_status next sizes es) ≡ 0
placed_occurs a next [] [] n i l m = refl
placed_occurs a next [] (e ∷ es) n i l m = one_place a n i m
placed_occurs a next (size ∷ sizes) es n i l m =
    let rest = length es - further size in
    omega (
      arith,
      placed_occurs a (suc next) sizes (take rest es) next 0 (omega arith) l,
      new_occurs a
          (guard_hold (guard_kind (drop rest es))) next 1 (drop rest es) l,
    )

pub first_node : (next size : ℕ) (sizes : List ℕ) (es : List Entry) (F : Place → Option Handed) → NewIn F next → (n i : ℕ)
    → Agrees F n i (placed_status next (size ∷ sizes) es)
first_node next size sizes es F w n i =
    let rest = length es - further size in (
      placed_agrees F next w (suc next) sizes (take rest es) next 0 (omega arith) (omega arith),
      new_agrees F next w
          (guard_hold (guard_kind (drop rest es))) (guard_never (guard_kind (drop rest es))) next 1 (drop rest es) (omega arith),
    )

pub first_occurs : (a : Place) (next size : ℕ) (sizes : List ℕ) (es : List Entry) (n i : ℕ) → suc a.node ≤ next
    → occurrences a n i (placed_status next (size ∷ sizes) es) ≡ 0
first_occurs a next size sizes es n i l =
    let rest = length es - further size in
    omega (
      arith,
      placed_occurs a (suc next) sizes (take rest es) next 0 (omega arith) l,
      new_occurs a
          (guard_hold (guard_kind (drop rest es))) next 1 (drop rest es) l,
    )
