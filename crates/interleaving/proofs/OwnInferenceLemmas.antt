-- An inference of own entries with heights that is no gate is one by names that stays in the segment.
use Rattle.std.proofs.Common.{◌≡◌, ◌⊎◌, inl, inr, ℕ, suc, ◌-◌, ◌+◌, ◌≤◌, Bool, true, false, cond, List, [], ◌∷◌, ◌++◌, map, length}
use Rattle.std.proofs.Common.{length-append, take, Option, Some, None, refl, sym, ap, ◌∙◌, arith}
use Rattle.au_term.specs.Term.{Term}
use Rattle.au_model.specs.Terms.Substitutions.{Substitution}
use Rattle.au_model.specs.Terms.Unifier.{unifier}
use Rattle.au_model.specs.Terms.Copies.{copied}
use Rattle.run_model.specs.Programs.Clauses.{Clause}
use Rattle.run_model.specs.Machine.Items.{Continuation, first_mark}
use Rattle.run_model.specs.Machine.Entries.{Entry, PlainEntry, CatchEntry, FindallEntry, EndEntry}
use Rattle.interleaving.specs.Machine.{Machine, Look, On, Here, looked, search_for}
use Rattle.tree_model.specs.Elements.{Name, same, Record, Element, Credit, Plain, EndOf, Catch, Findall, End}
use Rattle.interleaving.specs.Scopes.{Shared, Sought, Scope, Thrown, Caught, recovery_look, look, scoped}
use Rattle.interleaving.specs.Segments.{found_in, search_in}
use Rattle.interleaving.specs.Erased.{from, element_count, height, continuation_heights, record_height, erased}
use Rattle.interleaving.specs.HeightMachine.{HeightElement, HeightCredit, HeightEntry, height_entries}
use Rattle.interleaving.specs.OwnRuns.{IsFloor}
use Rattle.interleaving.proofs.NamingLemmas.{height-le}
use Rattle.interleaving.proofs.PreservedLemmas.{IsBall}
use Rattle.interleaving.proofs.SequentialHeightLemmas.{length-height}

-- lists of entries as such
injected : (xs ys : List Entry) → height_entries xs ≡ height_entries ys → xs ≡ ys
injected [] [] e = refl
injected [] (y ∷ ys) e = absurd cc
injected (x ∷ xs) [] e = absurd cc
injected (x ∷ xs) (y ∷ ys) e = let tail : height_entries xs ≡ height_entries ys = cc in let rest = injected xs ys tail in cc

pub part-joined : (st floor : List Entry) (xs : List HeightElement) → height_entries st ≡ xs ++ height_entries floor
    → take (length st - length floor) st ++ floor ≡ st
part-joined st floor [] e =
    let same : st ≡ floor = injected st floor e in
    let none : length st - length floor ≡ 0 = omega (arith, ap length same) in
    ap (λ n. take n st ++ floor) none ∙ sym same
part-joined [] floor (x ∷ xs) e = absurd cc
part-joined (d ∷ st) floor (x ∷ xs) e =
    let tail : height_entries st ≡ xs ++ height_entries floor = cc in
    let size : length st ≡ length xs + length floor = sym (length-height st) ∙ ap length tail ∙ length-append xs (height_entries floor)
    ∙ ap (λ n. length xs + n) (length-height floor) in
    let one : suc (length st) - length floor ≡ suc (length st - length floor) = omega (arith, size) in
    ap (λ n. take n (d ∷ st) ++ floor) one ∙ ap (λ l. d ∷ l) (part-joined st floor xs tail)

pub over-floor : (b zs : List Element) → (xs : List HeightElement) × erased (b ++ zs) ≡ xs ++ erased zs
over-floor [] zs = ([], refl)
over-floor (EndOf e ∷ b) zs = over-floor b zs
over-floor (Credit k rs ∷ b) zs = let r = over-floor b zs in (_ ∷ r.0, ap (λ l. HeightCredit k (map (record_height (b ++ zs)) rs) ∷ l) r.1)
over-floor (Plain p f ∷ b) zs = let r = over-floor b zs in
    (_ ∷ r.0, ap (λ l. HeightEntry (PlainEntry (continuation_heights (height (b ++ zs)) f)) ∷ l) r.1)
over-floor (Catch s u c t p f ∷ b) zs = let r = over-floor b zs in
    (_ ∷ r.0, ap (λ l. HeightEntry (CatchEntry c t (continuation_heights (height (b ++ zs)) f)) ∷ l) r.1)
over-floor (Findall s u results list p f ∷ b) zs = let r = over-floor b zs in
    (_ ∷ r.0, ap (λ l. HeightEntry (FindallEntry results list (continuation_heights (height (b ++ zs)) f)) ∷ l) r.1)
over-floor (End p t ∷ b) zs = let r = over-floor b zs in (_ ∷ r.0, ap (λ l. HeightEntry (EndEntry t) ∷ l) r.1)

-- a scope of the floor is lower than the floor
pub floor-low : (zs : List Element) (s : Name) (t : List Element) → IsFloor zs → from zs s ≡ EndOf s ∷ t
    → suc (height zs s) ≤ element_count zs
floor-low [] s t f e = absurd cc
floor-low (EndOf o ∷ zs) s t f e = absurd f
floor-low (Credit k rs ∷ zs) s t f e = omega (arith, height-le zs s)
floor-low (Plain p g ∷ zs) s t f e = omega (arith, height-le zs s)
floor-low (Catch o u c r p g ∷ zs) s t f e = omega (arith, height-le zs s)
floor-low (Findall o u results list p g ∷ zs) s t f e = omega (arith, height-le zs s)
floor-low (End p b ∷ zs) s t f e = omega (arith, height-le zs s)

module _ (clauses : List Clause) where
  abbrev m : Machine Shared Element Sought Record
  m = scoped clauses

  pub search-in-from : (y : Element) (xs : List Element) (s : Name) (t : List Element) → from xs s ≡ EndOf s ∷ t
      → search_in m (Scope s y) xs ≡ Some (y ∷ from xs s)
  search-in-from y [] s t e = absurd cc
  search-in-from y (EndOf o ∷ xs) s t e = go (same s o) e (λ k. search-in-from y xs s t k)
    where
      go : (b : Bool) → cond b (EndOf o ∷ xs) (from xs s) ≡ EndOf s ∷ t
          → (from xs s ≡ EndOf s ∷ t → search_in m (Scope s y) xs ≡ Some (y ∷ from xs s))
          → found_in m (cond b (Here (y ∷ EndOf o ∷ [])) (On (Scope s y))) (λ p. search_in m p xs) xs
          ≡ Some (y ∷ cond b (EndOf o ∷ xs) (from xs s))
      go true k next = refl
      go false k next = next k
  search-in-from y (Credit k rs ∷ xs) s t e = search-in-from y xs s t e
  search-in-from y (Plain p f ∷ xs) s t e = search-in-from y xs s t e
  search-in-from y (Catch c u o r p f ∷ xs) s t e = search-in-from y xs s t e
  search-in-from y (Findall c u results list p f ∷ xs) s t e = search-in-from y xs s t e
  search-in-from y (End p b ∷ xs) s t e = search-in-from y xs s t e

  -- a ball lands among the first elements, or passes them
  abbrev LookBall : Look Element Sought → Type 0
  LookBall (On q) = IsBall q
  LookBall (Here ys) = Unit {0}

  either_ball : (t : Bool) (a b : Look Element Sought) → LookBall a → LookBall b → LookBall (cond t a b)
  either_ball true a b h k = h
  either_ball false a b h k = k

  recovered-ball : (o : Option Substitution) (b r : Term) (u p : Name) (f : Continuation Name) (q : Sought) → IsBall q
      → LookBall (recovery_look o b r u p f q)
  recovered-ball None b r u p f q h = h
  recovered-ball (Some s) b r u p f q h = tt

  look-ball : (q : Sought) (x : Element) → IsBall q → LookBall (look q x)
  look-ball (Scope h y) x i = absurd i
  look-ball (Thrown b None o) (EndOf s) i = tt
  look-ball (Thrown b None o) (Credit j rs) i = tt
  look-ball (Thrown b None o) (Plain p f) i = tt
  look-ball (Thrown b None o) (Catch s u c r p f) i = tt
  look-ball (Thrown b None o) (Findall s u results list p f) i = tt
  look-ball (Thrown b None o) (End p e) i = tt
  look-ball (Thrown b (Some h) o) (EndOf s) i = either_ball (same h s) (On (Caught b h o)) (On (Thrown b (Some h) o)) tt tt
  look-ball (Thrown b (Some h) o) (Credit j rs) i = tt
  look-ball (Thrown b (Some h) o) (Plain p f) i = tt
  look-ball (Thrown b (Some h) o) (Catch s u c r p f) i = tt
  look-ball (Thrown b (Some h) o) (Findall s u results list p f) i = tt
  look-ball (Thrown b (Some h) o) (End p e) i = tt
  look-ball (Caught b h o) (Catch s u c r p f) i =
      let next : Sought = Thrown b (first_mark f.items) o in
      let take : Option Substitution = unifier ((c, copied b f.next) ∷ []) in
      either_ball (same h s) (recovery_look take b r u p f next) (On (Caught b h o)) (recovered-ball take b r u p f next tt) tt
  look-ball (Caught b h o) (EndOf s) i = tt
  look-ball (Caught b h o) (Credit j rs) i = tt
  look-ball (Caught b h o) (Plain p f) i = tt
  look-ball (Caught b h o) (Findall s u results list p f) i = tt
  look-ball (Caught b h o) (End p e) i = tt

  abbrev pub Split : Sought → List Element → Type 0
  Split q xs = ((s : List Element) × search_in m q xs ≡ Some s) ⊎
      ((p : Sought) × IsBall p × ((ys : List Element) → search_for m q (xs ++ ys) ≡ search_for m p ys))

  pub split : (q : Sought) (xs : List Element) → IsBall q → Split q xs
  split q [] i = inr (q, i, λ ys. refl)
  split q (x ∷ xs) i = go (look q x) refl (look-ball q x i) (λ p j. split p xs j)
    where
      go : (l : Look Element Sought) → look q x ≡ l → LookBall l → ((p : Sought) → IsBall p → Split p xs) → Split q (x ∷ xs)
      go (Here ys) e j next = inl (ys ++ xs, ap (λ l. found_in m l (λ p. search_in m p xs) xs) e)
      go (On p) e j next = elim (next p j) [
        | inl r ↦ inl (r.0, ap (λ l. found_in m l (λ p. search_in m p xs) xs) e ∙ r.1)
        | inr r ↦ inr (r.0, r.1, λ ys. ap (λ l. looked m l (λ p. search_for m p (xs ++ ys)) (xs ++ ys)) e ∙ r.2 ys)
      ]

  -- where a ball lands in a list: lower than the list, or nowhere
  abbrev pub Low : List Element → ℕ → Type 0
  Low l n = ((p : Name) × (f : Continuation Name) × (t : List Element) × l ≡ Plain p f ∷ t × suc (element_count t) ≤ n) ⊎
      ((p : Name) × (b : Option Term) × l ≡ End p b ∷ [])

  lower : (l : List Element) (n k : ℕ) → n ≤ k → Low l n → Low l k
  lower l n k h (inl r) = inl (r.0, r.1, r.2, r.3, omega (arith, h, r.4))
  lower l n k h (inr r) = inr r

  pub low : (q : Sought) (zs : List Element) → IsBall q → Low (search_for m q zs) (element_count zs)
  low (Scope h y) zs i = absurd i
  low (Thrown b mark o) [] i = inr (o, Some (copied b 0), refl)
  low (Caught b h o) [] i = inr (o, Some (copied b 0), refl)
  low (Thrown b None o) (EndOf e ∷ zs) i = low (Thrown b None o) zs tt
  low (Thrown b None o) (Credit k rs ∷ zs) i = lower _ (element_count zs) (suc (element_count zs)) (omega arith)
      (low (Thrown b None o) zs tt)
  low (Thrown b None o) (Plain p f ∷ zs) i = lower _ (element_count zs) (suc (element_count zs)) (omega arith) (low (Thrown b None o) zs tt)
  low (Thrown b None o) (Catch s u c r p f ∷ zs) i = lower _ (element_count zs) (suc (element_count zs)) (omega arith)
      (low (Thrown b None o) zs tt)
  low (Thrown b None o) (Findall s u results list p f ∷ zs) i = lower _ (element_count zs) (suc (element_count zs)) (omega arith)
      (low (Thrown b None o) zs tt)
  low (Thrown b None o) (End p e ∷ zs) i = lower _ (element_count zs) (suc (element_count zs)) (omega arith) (low (Thrown b None o) zs tt)
  low (Thrown b (Some h) o) (EndOf e ∷ zs) i = go (same h e) (low (Caught b h o) zs tt) (low (Thrown b (Some h) o) zs tt)
    where
      go : (t : Bool) → Low (search_for m (Caught b h o) zs) (element_count zs)
          → Low (search_for m (Thrown b (Some h) o) zs) (element_count zs)
          → Low (looked m (cond t (On (Caught b h o)) (On (Thrown b (Some h) o))) (λ p. search_for m p zs) zs) (element_count zs)
      go true x y = x
      go false x y = y
  low (Thrown b (Some h) o) (Credit k rs ∷ zs) i = lower _ (element_count zs) (suc (element_count zs)) (omega arith)
      (low (Thrown b (Some h) o) zs tt)
  low (Thrown b (Some h) o) (Plain p f ∷ zs) i = lower _ (element_count zs) (suc (element_count zs)) (omega arith)
      (low (Thrown b (Some h) o) zs tt)
  low (Thrown b (Some h) o) (Catch s u c r p f ∷ zs) i = lower _ (element_count zs) (suc (element_count zs)) (omega arith)
      (low (Thrown b (Some h) o) zs tt)
  low (Thrown b (Some h) o) (Findall s u results list p f ∷ zs) i = lower _ (element_count zs) (suc (element_count zs)) (omega arith)
      (low (Thrown b (Some h) o) zs tt)
  low (Thrown b (Some h) o) (End p e ∷ zs) i = lower _ (element_count zs) (suc (element_count zs)) (omega arith)
      (low (Thrown b (Some h) o) zs tt)
  low (Caught b h o) (EndOf e ∷ zs) i = low (Caught b h o) zs tt
  low (Caught b h o) (Credit k rs ∷ zs) i = lower _ (element_count zs) (suc (element_count zs)) (omega arith) (low (Caught b h o) zs tt)
  low (Caught b h o) (Plain p f ∷ zs) i = lower _ (element_count zs) (suc (element_count zs)) (omega arith) (low (Caught b h o) zs tt)
  low (Caught b h o) (Findall s u results list p f ∷ zs) i = lower _ (element_count zs) (suc (element_count zs)) (omega arith)
      (low (Caught b h o) zs tt)
  low (Caught b h o) (End p e ∷ zs) i = lower _ (element_count zs) (suc (element_count zs)) (omega arith) (low (Caught b h o) zs tt)
  low (Caught b h o) (Catch s u c r p f ∷ zs) i =
      let next : Sought = Thrown b (first_mark f.items) o in
      go (same h s) (unifier ((c, copied b f.next) ∷ [])) (low next zs tt) (low (Caught b h o) zs tt)
    where
      go : (t : Bool) (k : Option Substitution) → Low (search_for m (Thrown b (first_mark f.items) o) zs) (element_count zs)
          → Low (search_for m (Caught b h o) zs) (element_count zs)
          → Low (looked m (cond t (recovery_look k b r u p f (Thrown b (first_mark f.items) o)) (On (Caught b h o)))
          (λ p. search_for m p zs) zs) (suc (element_count zs))
      go true None x y = lower _ (element_count zs) (suc (element_count zs)) (omega arith) x
      go true (Some k) x y = inl (p, _, zs, refl, omega arith)
      go false k x y = lower _ (element_count zs) (suc (element_count zs)) (omega arith) y
