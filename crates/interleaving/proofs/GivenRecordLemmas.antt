-- Records given by names and by heights.
use Rattle.std.proofs.Common.{◌≡◌, ◌⊎◌, inl, inr, ℕ, suc, ◌-◌, ◌+◌, ◌≤◌, Bool, true, false, cond, List, [], ◌∷◌, map, refl, sym, ap, ◌∙◌}
use Rattle.std.proofs.Common.{subst, arith}
use Rattle.au_term.specs.Term.{Term}
use Rattle.au_model.specs.Terms.Each.{Each}
use Rattle.au_model.specs.Terms.Copies.{copy_takes}
use Rattle.run_model.specs.Machine.Items.{Item, GoalItem, CatchMark, CollectMark, RemovalItem, Continuation, with_next}
use Rattle.tree_model.specs.Elements.{Name, same, Record, Element, Credit, Plain, EndOf, Catch, Findall, End}
use Rattle.interleaving.specs.Scopes.{findall_with_result, give}
use Rattle.interleaving.specs.Erased.{from, element_count, height}
use Rattle.interleaving.specs.Sound.{names, IsMadeElsewhere, IsPresent, IsChain, IsGuarded, IsGathered, IsMarkSound, EachFindall}
use Rattle.interleaving.specs.Sound.{IsEntrySound}
use Rattle.interleaving.specs.Sound.{IsRightUnder, IsSound}
use Rattle.interleaving.proofs.CarriedLemmas.{findalls-from}

module _ (r : Record) where
  abbrev pub given : List Element → List Element
  given xs = map (give r) xs

  -- a record changes nothing but results
  pub count-given : (xs : List Element) → element_count (given xs) ≡ element_count xs
  count-given [] = refl
  count-given (EndOf e ∷ xs) = count-given xs
  count-given (Credit k rs ∷ xs) = ap suc (count-given xs)
  count-given (Plain p f ∷ xs) = ap suc (count-given xs)
  count-given (Catch s u c t p f ∷ xs) = ap suc (count-given xs)
  count-given (End p b ∷ xs) = ap suc (count-given xs)
  count-given (Findall s u results list p f ∷ xs) = go (same r.0 s) (count-given xs)
    where
      go : (t : Bool) → element_count (given xs) ≡ element_count xs
          → element_count (cond t (findall_with_result r.1 s u results list p f) (Findall s u results list p f) ∷ given xs)
          ≡ suc (element_count xs)
      go true e = ap suc e
      go false e = ap suc e

  from-given : (xs : List Element) (s : Name) → from (given xs) s ≡ given (from xs s)
  from-given [] s = refl
  from-given (EndOf e ∷ xs) s = go (same s e) (from-given xs s)
    where
      go : (t : Bool) → from (given xs) s ≡ given (from xs s) → cond t (EndOf e ∷ given xs) (from (given xs) s)
          ≡ given (cond t (EndOf e ∷ xs) (from xs s))
      go true k = refl
      go false k = k
  from-given (Credit k rs ∷ xs) s = from-given xs s
  from-given (Plain p f ∷ xs) s = from-given xs s
  from-given (Catch e u c t p f ∷ xs) s = from-given xs s
  from-given (End p b ∷ xs) s = from-given xs s
  from-given (Findall e u results list p f ∷ xs) s = go (same r.0 e) (from-given xs s)
    where
      go : (t : Bool) → from (given xs) s ≡ given (from xs s)
          → from (cond t (findall_with_result r.1 e u results list p f) (Findall e u results list p f) ∷ given xs) s ≡ given (from xs s)
      go true k = k
      go false k = k

  pub height-given : (xs : List Element) (s : Name) → height (given xs) s ≡ height xs s
  height-given xs s = ap element_count (from-given xs s) ∙ count-given (from xs s)

  pub findalls-given : (P : Name → Type 0) (xs : List Element) → EachFindall P xs → EachFindall P (given xs)
  findalls-given P [] h = tt
  findalls-given P (EndOf e ∷ xs) h = findalls-given P xs h
  findalls-given P (Credit k rs ∷ xs) h = findalls-given P xs h
  findalls-given P (Plain p f ∷ xs) h = findalls-given P xs h
  findalls-given P (Catch s u c t p f ∷ xs) h = findalls-given P xs h
  findalls-given P (End p b ∷ xs) h = findalls-given P xs h
  findalls-given P (Findall s u results list p f ∷ xs) h = go (same r.0 s) (findalls-given P xs h.1)
    where
      go : (t : Bool) → EachFindall P (given xs)
          → EachFindall P (cond t (findall_with_result r.1 s u results list p f) (Findall s u results list p f) ∷ given xs)
      go true k = (h.0, k)
      go false k = (h.0, k)

  -- what is carried
  present-given : (xs : List Element) (hs : List Name) → Each (IsPresent xs) hs → Each (IsPresent (given xs)) hs
  present-given xs [] h = tt
  present-given xs (s ∷ hs) h = ((given h.0.0, from-given xs s ∙ ap given h.0.1), present-given xs hs h.1)

  later-given : (xs : List Element) (k : Name) (hs : List Name) → Each (λ s. from (from xs k) s ≡ from xs s) hs
      → Each (λ s. from (from (given xs) k) s ≡ from (given xs) s) hs
  later-given xs k [] h = tt
  later-given xs k (s ∷ hs) h = (
    ap (λ l. from l s) (from-given xs k) ∙ from-given (from xs k) s ∙ ap given h.0
        ∙ sym (from-given xs s),
    later-given xs k hs h.1,
  )

  chain-given : (xs : List Element) (hs : List Name) → IsChain xs hs → IsChain (given xs) hs
  chain-given xs [] h = tt
  chain-given xs (k ∷ hs) h = (later-given xs k hs h.0, chain-given xs hs h.1)

  gathered-given : (xs : List Element) (s : Name) → IsGathered xs s → IsGathered (given xs) s
  gathered-given xs s m = go (same r.0 s) (from-given xs s ∙ ap given m.found)
    where
      go : (t : Bool) → from (given xs) s ≡ EndOf s ∷ cond t (findall_with_result r.1 s m.scope m.results m.list m.name m.after)
          (Findall s m.scope m.results m.list m.name m.after) ∷ given m.under → IsGathered (given xs) s
      go true e = record {
        scope = m.scope;
        results = _;
        list = m.list;
        name = m.name;
        after = with_next (m.after.next + copy_takes r.1)
            m.after;
        under = given m.under;
        found = e;
      }
      go false e = record {
        scope = m.scope;
        results = m.results;
        list = m.list;
        name = m.name;
        after = m.after;
        under = given m.under;
        found = e;
      }

  guarded-given : (xs : List Element) (s : Name) → IsGuarded xs s → IsGuarded (given xs) s
  guarded-given xs s m = record {
    scope = m.scope;
    catcher = m.catcher;
    recovery = m.recovery;
    name = m.name;
    after = m.after;
    under =
        given m.under;
    found = from-given xs s ∙ ap given m.found;
  }

  marks-given : (xs : List Element) (items : List (Item Name)) → Each (IsMarkSound xs) items → Each (IsMarkSound (given xs)) items
  marks-given xs [] h = tt
  marks-given xs (GoalItem t s ∷ items) h = (tt, marks-given xs items h.1)
  marks-given xs (CatchMark s ∷ items) h = (guarded-given xs s h.0, marks-given xs items h.1)
  marks-given xs (CollectMark t s ∷ items) h = (gathered-given xs s h.0, marks-given xs items h.1)
  marks-given xs (RemovalItem n ∷ items) h = (tt, marks-given xs items h.1)

  entry-given : (p : Name) (xs : List Element) (hs : List Name) (items : List (Item Name)) → IsEntrySound p xs hs items
      → IsEntrySound p (given xs) hs items
  entry-given p xs hs items s = record {
    carried = record {
      older = s.carried.older;
      present = present-given xs hs s.carried.present;
      chain = chain-given xs hs
          s.carried.chain;
    };
    marks = marks-given xs items s.marks;
    findalls = findalls-given (IsMadeElsewhere p) xs s.findalls;
  }

  records-given : (xs : List Element) (rs : List Record) → Each (λ o. IsGathered xs o.0) rs → Each (λ o. IsGathered (given xs) o.0) rs
  records-given xs [] h = tt
  records-given xs (o ∷ rs) h = (gathered-given xs o.0 h.0, records-given xs rs h.1)

  under-given : (xs : List Element) (u : Name) → IsRightUnder xs u → IsRightUnder (given xs) u
  under-given xs u h = height-given xs u ∙ h ∙ sym (count-given xs)

  pub sound-given : (xs : List Element) → IsSound xs → IsSound (given xs)
  sound-given [] h = tt
  sound-given (EndOf e ∷ xs) h = sound-given xs h
  sound-given (Credit k rs ∷ xs) h = (records-given xs rs h.0, sound-given xs h.1)
  sound-given (Plain p f ∷ xs) h = (entry-given p xs (names f.items) f.items h.0, sound-given xs h.1)
  sound-given (Catch s u c t p f ∷ xs) h = (entry-given p xs (u ∷ names f.items) f.items h.0, under-given xs u h.1, sound-given xs h.2)
  sound-given (End p b ∷ xs) h = sound-given xs h
  sound-given (Findall s u results list p f ∷ xs) h = go (same r.0 s) (entry-given p xs (u ∷ names f.items) f.items h.0)
      (under-given xs u h.1) (findalls-given (λ e. e ≡ s → ⊥) xs h.2) (sound-given xs h.3)
    where
      go : (t : Bool) → IsEntrySound p (given xs) (u ∷ names f.items) f.items → IsRightUnder (given xs) u
          → EachFindall (λ e. e ≡ s → ⊥) (given xs) → IsSound (given xs)
          → IsSound (cond t (findall_with_result r.1 s u results list p f) (Findall s u results list p f) ∷ given xs)
      go true a b c d = (a, b, c, d)
      go false a b c d = (a, b, c, d)

-- one Findall entry of this scope alone is in the list, at this height
abbrev pub IsFindallAt : List Element → Name → ℕ → Type 0
IsFindallAt [] s h = ⊥
IsFindallAt (EndOf e ∷ xs) s h = IsFindallAt xs s h
IsFindallAt (Credit k rs ∷ xs) s h = IsFindallAt xs s h
IsFindallAt (Plain p f ∷ xs) s h = IsFindallAt xs s h
IsFindallAt (Catch e u c t p f ∷ xs) s h = IsFindallAt xs s h
IsFindallAt (End p b ∷ xs) s h = IsFindallAt xs s h
IsFindallAt (Findall e u results list p f ∷ xs) s h = ((e ≡ s) × (h ≡ element_count xs) × EachFindall (λ o. o ≡ s → ⊥) xs) ⊎
    ((e ≡ s → ⊥) × IsFindallAt xs s h)

pub findall_at-low : (xs : List Element) (s : Name) (h : ℕ) → IsFindallAt xs s h → suc h ≤ element_count xs
findall_at-low [] s h k = absurd k
findall_at-low (EndOf e ∷ xs) s h k = findall_at-low xs s h k
findall_at-low (Credit j rs ∷ xs) s h k = omega (arith, findall_at-low xs s h k)
findall_at-low (Plain p f ∷ xs) s h k = omega (arith, findall_at-low xs s h k)
findall_at-low (Catch e u c t p f ∷ xs) s h k = omega (arith, findall_at-low xs s h k)
findall_at-low (End p b ∷ xs) s h k = omega (arith, findall_at-low xs s h k)
findall_at-low (Findall e u results list p f ∷ xs) s h (inl k) = omega (arith, k.1)
findall_at-low (Findall e u results list p f ∷ xs) s h (inr k) = omega (arith, findall_at-low xs s h k.1)

-- a gathered scope's Findall entry is so in a sound list
stands : (xs : List Element) (s u : Name) (results : List Term) (list : Term) (p : Name) (f : Continuation Name) (t : List Element)
    → IsSound xs → from xs s ≡ EndOf s ∷ Findall s u results list p f ∷ t → IsFindallAt xs s (element_count t)
stands [] s u results list p f t i e = absurd cc
stands (EndOf o ∷ xs) s u results list p f t i e = go (same s o) e (λ k. stands xs s u results list p f t i k)
  where
    top : (zs : List Element) → zs ≡ Findall s u results list p f ∷ t → IsSound zs → IsFindallAt zs s (element_count t)
    top zs k j = subst (λ l. IsFindallAt l s (element_count t)) (sym k) (inl (refl, refl, (subst IsSound k j).2))

    go : (b : Bool) → cond b (EndOf o ∷ xs) (from xs s) ≡ EndOf s ∷ Findall s u results list p f ∷ t
        → (from xs s ≡ EndOf s ∷ Findall s u results list p f ∷ t → IsFindallAt xs s (element_count t)) → IsFindallAt xs s (element_count t)
    go true k next = let tail : xs ≡ Findall s u results list p f ∷ t = cc in top xs tail i
    go false k next = next k
stands (Credit k rs ∷ xs) s u results list p f t i e = stands xs s u results list p f t i.1 e
stands (Plain o g ∷ xs) s u results list p f t i e = stands xs s u results list p f t i.1 e
stands (Catch o v c q a g ∷ xs) s u results list p f t i e = stands xs s u results list p f t i.2 e
stands (End o b ∷ xs) s u results list p f t i e = stands xs s u results list p f t i e
stands (Findall o v rs l a g ∷ xs) s u results list p f t i e =
    let inside : EachFindall (λ q. q ≡ o → ⊥) (EndOf s ∷ Findall s u results list p f ∷ t) = subst (EachFindall (λ q. q ≡ o → ⊥)) e
    (findalls-from (λ q. q ≡ o → ⊥) xs s i.2) in
    inr ((λ k. inside.0 (sym k)), stands xs s u results list p f t i.3 e)

pub gathered_findall_at : (xs : List Element) (s : Name) → IsSound xs → IsGathered xs s → IsFindallAt xs s (height xs s - 1)
gathered_findall_at xs s i m =
    let n : height xs s ≡ suc (element_count m.under) = ap element_count m.found in
    let same_height : element_count m.under ≡ height xs s - 1 = omega (arith, n) in
    subst (IsFindallAt xs s) same_height (stands xs s m.scope m.results m.list m.name m.after m.under i m.found)
