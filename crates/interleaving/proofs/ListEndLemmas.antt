-- Which scopes end in the list of a part of the tree.
use Rattle.std.proofs.Common.{◌≡◌, ℕ, suc, ◌≤◌, ◌<◌, ◌==◌, Bool, true, false, ◌&&◌, cond, List, [], ◌∷◌, ◌++◌, length, refl, sym, ap, ◌∙◌}
use Rattle.std.proofs.Common.{subst, arith}
use Rattle.std.specs.Prelude.{◌||◌}
use Rattle.run_model.specs.Machine.Entries.{Entry, PlainEntry, CatchEntry, FindallEntry, EndEntry}
use Rattle.tree_model.specs.Nodes.{Kind, Hold, Ready, TakenBy, Waiting, Dormant, Node, Numbered, Alternatives, none, alternative, Status}
use Rattle.tree_model.specs.Nodes.{Pending, Inner, Closed}
use Rattle.tree_model.specs.Levels.{Level}
use Rattle.tree_model.specs.Elements.{Name, same, Element, Credit, Plain, EndOf, Catch, Findall, End}
use Rattle.tree_model.specs.PendingLists.{Way, way_of, step_name, scope_on, element_on, list_in, list_among, list_below, list_right}
use Rattle.tree_model.specs.PendingLists.{back_of}
use Rattle.tree_model.specs.Ways.{is_on}
use Rattle.tree_model.specs.SoundTrees.{one_if, count_in, count_among, count_below}
use Rattle.tree_model.proofs.CountLemmas.{count_around}
use Rattle.interleaving.specs.Erased.{from}
use Rattle.interleaving.proofs.NamingLemmas.{from_own}
use Rattle.interleaving.proofs.WayLemmas.{one_if-zero}
use Rattle.au_term.proofs.LogicLemmas.{numbers_turned, or-left, or-right, none_true, not_equal}

abbrev pub ends_in : Name → List Element → Bool
ends_in h [] = false
ends_in h (EndOf s ∷ xs) = same h s || ends_in h xs
ends_in h (Credit k rs ∷ xs) = ends_in h xs
ends_in h (Plain p f ∷ xs) = ends_in h xs
ends_in h (Catch s u c r p f ∷ xs) = ends_in h xs
ends_in h (Findall s u results list p f ∷ xs) = ends_in h xs
ends_in h (End p b ∷ xs) = ends_in h xs

pub ends-append : (h : Name) (xs ys : List Element) → ends_in h xs ≡ false → ends_in h ys ≡ false → ends_in h (xs ++ ys) ≡ false
ends-append h [] ys e f = f
ends-append h (EndOf s ∷ xs) ys e f = none_true (same h s) (ends_in h (xs ++ ys)) (or-left (same h s) (ends_in h xs) e)
    (ends-append h xs ys (or-right (same h s) (ends_in h xs) e) f)
ends-append h (Credit k rs ∷ xs) ys e f = ends-append h xs ys e f
ends-append h (Plain p g ∷ xs) ys e f = ends-append h xs ys e f
ends-append h (Catch s u c r p g ∷ xs) ys e f = ends-append h xs ys e f
ends-append h (Findall s u results list p g ∷ xs) ys e f = ends-append h xs ys e f
ends-append h (End p b ∷ xs) ys e f = ends-append h xs ys e f

pub from-skip : (h : Name) (xs ys : List Element) → ends_in h xs ≡ false → from (xs ++ ys) h ≡ from ys h
from-skip h [] ys e = refl
from-skip h (EndOf s ∷ xs) ys e = ap (λ b. cond b (EndOf s ∷ (xs ++ ys)) (from (xs ++ ys) h)) (or-left (same h s) (ends_in h xs) e)
    ∙ from-skip h xs ys (or-right (same h s) (ends_in h xs) e)
from-skip h (Credit k rs ∷ xs) ys e = from-skip h xs ys e
from-skip h (Plain p g ∷ xs) ys e = from-skip h xs ys e
from-skip h (Catch s u c r p g ∷ xs) ys e = from-skip h xs ys e
from-skip h (Findall s u results list p g ∷ xs) ys e = from-skip h xs ys e
from-skip h (End p b ∷ xs) ys e = from-skip h xs ys e

-- names of alternatives
pub other_node : (i n j m : ℕ) → (n == m) ≡ false → same (i ∷ n ∷ []) (j ∷ m ∷ []) ≡ false
other_node i n j m e = ap (λ b. (i == j) && (b && true)) e ∙ off (i == j)
  where
    off : (b : Bool) → (b && false) ≡ false
    off true = refl
    off false = refl

pub other_index : (i n j m : ℕ) → (i == j) ≡ false → same (i ∷ n ∷ []) (j ∷ m ∷ []) ≡ false
other_index i n j m e = ap (λ b. b && ((n == m) && true)) e

-- no element of an entry is an end
no_end_element : (h : Name) (way : Way) (e : Entry) → ends_in h (element_on way e ∷ []) ≡ false
no_end_element h [] (PlainEntry f) = refl
no_end_element h [] (CatchEntry c r f) = refl
no_end_element h [] (FindallEntry results l f) = refl
no_end_element h [] (EndEntry b) = refl
no_end_element h (a ∷ way) (PlainEntry f) = refl
no_end_element h (a ∷ way) (CatchEntry c r f) = refl
no_end_element h (a ∷ way) (FindallEntry results l f) = refl
no_end_element h (a ∷ way) (EndEntry b) = refl

pub no_end_status : (h : Name) (way : Way) (spent : ℕ) (hold : Hold) (e : Entry) → ends_in h (list_below way spent (Pending hold e)) ≡ false
no_end_status h way spent Dormant e = no_end_element h way e
no_end_status h way spent Ready e = no_end_element h way e
no_end_status h way spent (TakenBy w) e = no_end_element h way e
no_end_status h way spent (Waiting g) e = no_end_element h way e

mutual
  no_end_node : (i m : ℕ) (way : Way) (node : Node) → count_in m node ≡ 0 → ends_in (i ∷ m ∷ []) (list_in way node) ≡ false
  no_end_node i m way (Numbered n kind alternatives) c =
      let here : one_if (n == m) ≡ 0 = omega (arith, c) in
      let rest : count_among m alternatives ≡ 0 = omega (arith, c) in
      no_end_among i m way n kind 0 alternatives (numbers_turned n m (one_if-zero (n == m) here)) rest

  pub no_end_among : (i m : ℕ) (way : Way) (n : ℕ) (kind : Kind) (j : ℕ) (others : Alternatives) → (m == n) ≡ false
      → count_among m others ≡ 0 → ends_in (i ∷ m ∷ []) (list_among way n kind j others) ≡ false
  no_end_among i m way n kind j none e c = refl
  no_end_among i m way n kind j (alternative spent status others) e c =
      let here : count_below m status ≡ 0 = omega (arith, c) in
      let rest : count_among m others ≡ 0 = omega (arith, c) in
      ends-append (i ∷ m ∷ []) (list_below (record { node = n; index = j; kind = kind } ∷ way) spent status) _
      (no_end_below i m (record { node = n; index = j; kind = kind } ∷ way) spent status here)
      (none_true (same (i ∷ m ∷ []) (j ∷ n ∷ [])) _ (other_node i m j n e) (no_end_among i m way n kind (suc j) others e rest))

  pub no_end_below : (i m : ℕ) (way : Way) (spent : ℕ) (status : Status) → count_below m status ≡ 0
      → ends_in (i ∷ m ∷ []) (list_below way spent status) ≡ false
  no_end_below i m way spent (Pending hold e) c = no_end_status (i ∷ m ∷ []) way spent hold e
  no_end_below i m way spent (Inner node) c = no_end_node i m way node c
  no_end_below i m way spent (Closed credit) c = refl

-- after an alternative no earlier one of the node ends
pub no_end_later : (i n : ℕ) (way : Way) (kind : Kind) (j : ℕ) (others : Alternatives) → i < j → count_among n others ≡ 0
    → ends_in (i ∷ n ∷ []) (list_among way n kind j others) ≡ false
no_end_later i n way kind j none l c = refl
no_end_later i n way kind j (alternative spent status others) l c =
    let here : count_below n status ≡ 0 = omega (arith, c) in
    let rest : count_among n others ≡ 0 = omega (arith, c) in
    ends-append (i ∷ n ∷ []) (list_below (record { node = n; index = j; kind = kind } ∷ way) spent status) _
    (no_end_below i n (record { node = n; index = j; kind = kind } ∷ way) spent status here)
    (none_true (same (i ∷ n ∷ []) (j ∷ n ∷ [])) _ (other_index i n j n (not_equal i j l))
    (no_end_later i n way kind (suc j) others (omega (arith, l)) rest))

-- numbers on a way
pub on-counts : (m : ℕ) (levels : List Level) → is_on (way_of levels) m ≡ true → 1 ≤ count_around m levels
on-counts m [] h = let no_way : ⊥ = cc in absurd no_way
on-counts m (v ∷ up) h = go (v.number == m) refl (on-counts m up) h
  where
    go : (b : Bool) → (v.number == m) ≡ b → (is_on (way_of up) m ≡ true → 1 ≤ count_around m up) → cond b true (is_on (way_of up) m)
        ≡ true → 1 ≤ count_around m (v ∷ up)
    go true e f k = let one : one_if (v.number == m) ≡ 1 = ap one_if e in omega (arith, one)
    go false e f k = let z = f k in omega (arith, z)

abbrev pub levels_down : List Level → ℕ → List Level
levels_down [] s = []
levels_down (v ∷ up) s = cond (v.number == s) (v ∷ up) (levels_down up s)

-- a scope of a way is an alternative of its node
pub scope_at : (s : ℕ) (way : Way) → is_on way s ≡ true → (i : ℕ) × scope_on way s ≡ i ∷ s ∷ []
scope_at s [] k = let no_way : ⊥ = cc in absurd no_way
scope_at s (a ∷ way) k = pick (a.node == s) refl (scope_at s way) k
  where
    pick : (b : Bool) → (a.node == s) ≡ b → (is_on way s ≡ true → (i : ℕ) × scope_on way s ≡ i ∷ s ∷ []) → cond b true (is_on way s)
        ≡ true → (i : ℕ) × cond b (step_name a) (scope_on way s) ≡ i ∷ s ∷ []
    pick true e f k = let same_number : a.node ≡ s = grind arith in (a.index, ap (λ n. a.index ∷ n ∷ []) same_number)
    pick false e f k = f k

-- the list after a place, from the end of a scope of the way on
pub from_back : (levels : List Level) (s : ℕ) → ((m : ℕ) → count_around m levels ≤ 1) → is_on (way_of levels) s ≡ true
    → from (back_of levels) (scope_on (way_of levels) s) ≡ back_of (levels_down levels s)
from_back [] s d h = let no_way : ⊥ = cc in absurd no_way
from_back (v ∷ up) s d h = go (v.number == s) refl (λ k. from_back up s (λ m. let z = d m in omega (arith, z)) k) h
  where
    go : (b : Bool) → (v.number == s) ≡ b
        → (is_on (way_of up) s ≡ true → from (back_of up) (scope_on (way_of up) s) ≡ back_of (levels_down up s))
        → cond b true (is_on (way_of up) s) ≡ true
        → from (back_of (v ∷ up)) (cond b (length v.left ∷ v.number ∷ []) (scope_on (way_of up) s))
        ≡ back_of (cond b (v ∷ up) (levels_down up s))
    go true e f k = from_own (length v.left ∷ v.number ∷ [])
        (list_among (way_of up) v.number v.kind (suc (length v.left)) v.right ++ back_of up)
    go false e f k =
        let at_scope = scope_at s (way_of up) k in
        let many = d s in
        let few = on-counts s up k in
        let none_right : count_among s v.right ≡ 0 = omega (arith, many, few) in
        let unlike_here : (s == v.number) ≡ false = numbers_turned v.number s e in
        let clear : ends_in (at_scope.0 ∷ s ∷ []) (list_right (way_of up) v)
        ≡ false = none_true (same (at_scope.0 ∷ s ∷ []) (length v.left ∷ v.number ∷ [])) _
        (other_node at_scope.0 s (length v.left) v.number unlike_here)
        (no_end_among at_scope.0 s (way_of up) v.number v.kind (suc (length v.left)) v.right unlike_here none_right) in
        from-skip (scope_on (way_of up) s) (list_right (way_of up) v) (back_of up)
        (subst (λ h. ends_in h (list_right (way_of up) v) ≡ false) (sym at_scope.1) clear) ∙ f k
