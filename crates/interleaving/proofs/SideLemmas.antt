-- The list of a tree left and right of an alternative.
use Rattle.std.proofs.Common.{◌≡◌, ℕ, suc, ◌+◌, ◌≤◌, ◌==◌, Bool, true, false, List, [], ◌∷◌, length, refl, sym, ap, ◌∙◌, subst, arith}
use Rattle.std.specs.Prelude.{◌&&◌, nat_le}
use Rattle.au_model.specs.Terms.Each.{Each}
use Rattle.run_model.specs.Machine.Entries.{Entry, PlainEntry, CatchEntry, FindallEntry, EndEntry}
use Rattle.tree_model.specs.Elements.{Name, Element, Credit, Plain, EndOf, Catch, Findall, End}
use Rattle.interleaving.specs.Views.{IsBlind, IsUnder}
use Rattle.tree_model.specs.Nodes.{Ready, TakenBy, Waiting, Dormant, Alternatives, none, alternative, Pending, Inner, Closed}
use Rattle.tree_model.specs.Levels.{Level}
use Rattle.tree_model.specs.PendingLists.{Way, way_of, element_at, front_of, back_of}
use Rattle.tree_model.specs.SoundTrees.{one_if, count_among, Profile, IsOpen}
use Rattle.tree_model.proofs.CountLemmas.{count_left, count_around}
use Rattle.interleaving.proofs.ContextLemmas.{IsAround}
use Rattle.interleaving.proofs.ClosingSoundLemmas.{IsFree}
use Rattle.interleaving.proofs.AppendLemmas.{each-append}
use Rattle.interleaving.proofs.BaredLemmas.{made_at}
use Rattle.interleaving.proofs.NamedFloorLemmas.{right_named, below_named}
use Rattle.interleaving.proofs.BesideLemmas.{Out, OutNode, WayOut, out_more, blind_among, blind_left}
use Rattle.au_term.proofs.LogicLemmas.{and-false, number_same}

pub apart_number : (a b : ℕ) → (a ≡ b → ⊥) → (a == b) ≡ false
apart_number a b h = go (a == b) refl
  where
    go : (c : Bool) → (a == b) ≡ c → c ≡ false
    go false e = refl
    go true e = let same : a ≡ b = grind arith in absurd (h same)

pub not_new : (next m : ℕ) → suc m ≤ next → nat_le next m ≡ false
not_new next m h = go (nat_le next m) refl
  where
    go : (c : Bool) → nat_le next m ≡ c → c ≡ false
    go false e = refl
    go true e = let l : next ≤ m = grind arith in absurd (omega (arith, l, h))

pub out_other : (i n next m : ℕ) → (n ≡ m → ⊥) → suc m ≤ next → OutNode i n next m
out_other i n next m h l j = (ap (λ b. (i == j) && (b && true)) (apart_number n m h) ∙ and-false (i == j), not_new next m l)

pub out_index : (i n next j : ℕ) → (i ≡ j → ⊥) → suc n ≤ next → Out i n next j n
out_index i n next j h l = (ap (λ b. b && ((n == n) && true)) (apart_number i j h), not_new next n l)

-- numbers round a place
pub at_least : (v : Level) (up : List Level) → 1 ≤ count_around v.number (v ∷ up)
at_least v up = let one : one_if (v.number == v.number) ≡ 1 = ap one_if (number_same v.number) in omega (arith, one)

pub is_old : (next : ℕ) (levels : List Level) → IsFree next levels → (m : ℕ) → 1 ≤ count_around m levels → suc m ≤ next
is_old next levels f m l = go (nat_le next m) refl
  where
    go : (c : Bool) → nat_le next m ≡ c → suc m ≤ next
    go true e = let k : next ≤ m = grind arith in absurd (omega (arith, f.fresh m k, l))
    go false e = let k : suc m ≤ next = grind arith in k

pub above_own : (next : ℕ) (v : Level) (up : List Level) → IsFree next (v ∷ up) → (m : ℕ) → 1 ≤ count_around m up → v.number ≡ m → ⊥
above_own next v up f m l e =
    let one : one_if (v.number == v.number) ≡ 1 = ap one_if (number_same v.number) in
    absurd (omega (arith, one, f.distinct v.number, subst (λ k. 1 ≤ count_around k up) (sym e) l))

pub beside_own : (next : ℕ) (v : Level) (up : List Level) → IsFree next (v ∷ up) → (m : ℕ)
    → 1 ≤ count_left m v.left + count_among m v.right → v.number ≡ m → ⊥
beside_own next v up f m l e =
    let one : one_if (v.number == v.number) ≡ 1 = ap one_if (number_same v.number) in
    absurd (omega (arith, one, f.distinct v.number, subst (λ k. 1 ≤ count_left k v.left + count_among k v.right) (sym e) l))

-- the front
module _ (i n next : ℕ) where
  pub way_out : (levels : List Level) → ((r : ℕ) → 1 ≤ count_around r levels → OutNode i n next r) → WayOut i n next (way_of levels)
  way_out [] h = tt
  way_out (v ∷ up) h = let here = h v.number (at_least v up) in ((here (length v.left), here 0), way_out up (λ r l. h r (omega (arith, l))))

  pub blind_front : (levels : List Level) (p : Profile) → IsAround levels p → ((r : ℕ) → 1 ≤ count_around r levels → OutNode i n next r)
      → Each (IsBlind (made_at (i ∷ n ∷ []) next)) (front_of levels)
  blind_front [] p a h = tt
  blind_front (v ∷ up) p a h =
      let here = h v.number (at_least v up) in
      each-append (IsBlind (made_at (i ∷ n ∷ []) next)) (front_of up) _ (blind_front up IsOpen a.1 (λ r l. h r (omega (arith, l)))) (
        tt,
        blind_left i n next (way_of up) v.number v.kind v.left (way_out up (λ r l. h r (omega (arith, l)))) (λ j l. (here j, here 0))
            a.0.left (λ r l. h r (omega (arith, l))),
      )

  -- the back
  pub blind_back : (levels : List Level) (p : Profile) → IsAround levels p → ((r : ℕ) → 1 ≤ count_around r levels → OutNode i n next r)
      → Each (IsBlind (made_at (i ∷ n ∷ []) next)) (back_of levels)
  blind_back [] p a h = tt
  blind_back (v ∷ up) p a h =
      let here = h v.number (at_least v up) in (
        tt,
        each-append (IsBlind (made_at (i ∷ n ∷ []) next)) _ (back_of up)
            (blind_among i n next (way_of up) v.number v.kind (suc (length v.left)) v.right
            (way_out up (λ r l. h r (omega (arith, l)))) here
            a.0.right (λ r l. h r (omega (arith, l))))
            (blind_back up IsOpen a.1 (λ r l. h r (omega (arith, l)))),
      )

  pub under_of_blind : (xs : List Element) → Each (IsBlind (made_at (i ∷ n ∷ []) next)) xs → Each (IsUnder (made_at (i ∷ n ∷ []) next)) xs
  under_of_blind [] h = tt
  under_of_blind (Credit k rs ∷ xs) h = (tt, under_of_blind xs h.1)
  under_of_blind (Plain p f ∷ xs) h = (tt, under_of_blind xs h.1)
  under_of_blind (EndOf s ∷ xs) h = (tt, under_of_blind xs h.1)
  under_of_blind (Catch s u c r p f ∷ xs) h = (tt, under_of_blind xs h.1)
  under_of_blind (Findall s u results list p f ∷ xs) h = (h.0.0, under_of_blind xs h.1)
  under_of_blind (End p b ∷ xs) h = (tt, under_of_blind xs h.1)

  under_element : (m j : ℕ) (way : Way) (e : Entry) → Out i n next 0 m → IsUnder (made_at (i ∷ n ∷ []) next) (element_at m j way e)
  under_element m j way (PlainEntry f) o = tt
  under_element m j way (CatchEntry c r f) o = tt
  under_element m j way (FindallEntry results l f) o = out_more i n next 0 m o []
  under_element m j way (EndEntry b) o = tt

  -- what sleeps on a branch
  under_right : (m j : ℕ) (way : Way) (right : Alternatives) → Out i n next 0 m
      → Each (IsUnder (made_at (i ∷ n ∷ []) next)) (right_named m j way right)
  under_right m j way none o = (tt, tt)
  under_right m j way (alternative spent (Inner node) others) o = (tt, tt)
  under_right m j way (alternative spent (Closed c) others) o = (tt, tt)
  under_right m j way (alternative spent (Pending Ready e) others) o = (tt, tt)
  under_right m j way (alternative spent (Pending (TakenBy w) e) others) o = (tt, tt)
  under_right m j way (alternative spent (Pending (Waiting g) e) others) o = (tt, tt)
  under_right m j way (alternative spent (Pending Dormant e) others) o = (under_element m j way e o, (tt, tt))

  pub under_low : (levels : List Level) → ((r : ℕ) → 1 ≤ count_around r levels → OutNode i n next r)
      → Each (IsUnder (made_at (i ∷ n ∷ []) next)) (below_named levels)
  under_low [] h = tt
  under_low (v ∷ up) h = (
    tt,
    each-append (IsUnder (made_at (i ∷ n ∷ []) next)) (right_named v.number (suc (length v.left)) (way_of up) v.right)
        (below_named up) (under_right v.number (suc (length v.left)) (way_of up) v.right (h v.number (at_least v up) 0))
        (under_low up (λ r l. h r (omega (arith, l)))),
  )

-- round an alternative
module _ (next : ℕ) (v : Level) (up : List Level) (f : IsFree next (v ∷ up)) (a : IsAround (v ∷ up) IsOpen) where
  abbrev made_here : Name → Bool
  made_here = made_at (length v.left ∷ v.number ∷ []) next

  above : (r : ℕ) → 1 ≤ count_around r up → OutNode (length v.left) v.number next r
  above r l = out_other (length v.left) v.number next r (above_own next v up f r l) (is_old next (v ∷ up) f r (omega (arith, l)))

  own_old : suc v.number ≤ next
  own_old = is_old next (v ∷ up) f v.number (at_least v up)

  pub front_blind : Each (IsBlind (made_at (length v.left ∷ v.number ∷ []) next)) (front_of (v ∷ up))
  front_blind =
      each-append (IsBlind (made_at (length v.left ∷ v.number ∷ []) next)) (front_of up) _
      (blind_front (length v.left) v.number next up IsOpen a.1 above) (
        tt,
        blind_left (length v.left) v.number next (way_of up) v.number v.kind v.left (way_out (length v.left) v.number next up above)
            (λ j l. (
              out_index (length v.left) v.number next j (λ e. absurd (omega (arith, e, l))) own_old,
              out_index (length v.left) v.number
                  next 0 (λ e. absurd (omega (arith, e, l))) own_old,
            )) a.0.left
            (λ r l. out_other (length v.left) v.number next r (beside_own next v up f r (omega (arith, l)))
            (is_old next (v ∷ up) f r (omega (arith, l)))),
      )
