-- The free steps of own entries with heights are free steps by names.
use Rattle.std.proofs.Common.{◌≡◌, inl, inr, ℕ, suc, ◌-◌, ◌+◌, ◌≤◌, ◌==◌, Bool, true, false, cond, List, [], ◌∷◌, ◌++◌, length}
use Rattle.std.proofs.Common.{length-append, refl, sym, ap, ◌∙◌, arith}
use Rattle.std.proofs.lemmas.Bool.{eq-eqb, eqb-true, false≢true}
use Rattle.au_term.specs.Term.{Term}
use Rattle.au_model.specs.Terms.Each.{Each}
use Rattle.run_model.specs.Machine.Entries.{Entry, with_result, collected}
use Rattle.tree_model.specs.Elements.{Name, Element, Credit, Plain, EndOf, Catch, Findall, End}
use Rattle.interleaving.specs.Erased.{element_count}
use Rattle.interleaving.specs.Views.{IsInner, IsUnder}
use Rattle.interleaving.proofs.GivenRecordLemmas.{IsFindallAt, findall_at-low}

-- where a findall entry is, by whether it is inside
findall_at-none : (inside : Name → Bool) (zs : List Element) (s : Name) (h : ℕ) → Each (IsUnder inside) zs → inside s ≡ true
    → IsFindallAt zs s h → ⊥
findall_at-none inside [] s h u i k = k
findall_at-none inside (EndOf e ∷ zs) s h u i k = findall_at-none inside zs s h u.1 i k
findall_at-none inside (Credit j rs ∷ zs) s h u i k = findall_at-none inside zs s h u.1 i k
findall_at-none inside (Plain p f ∷ zs) s h u i k = findall_at-none inside zs s h u.1 i k
findall_at-none inside (Catch e v c r p f ∷ zs) s h u i k = findall_at-none inside zs s h u.1 i k
findall_at-none inside (End p b ∷ zs) s h u i k = findall_at-none inside zs s h u.1 i k
findall_at-none inside (Findall e v results list p f ∷ zs) s h u i (inl k) = false≢true (sym u.0 ∙ ap inside k.0 ∙ i)
findall_at-none inside (Findall e v results list p f ∷ zs) s h u i (inr k) = findall_at-none inside zs s h u.1 i k.1

pub count-after : (xs ls : List Element) → element_count ls ≤ element_count (xs ++ ls)
count-after [] ls = omega arith
count-after (EndOf e ∷ xs) ls = count-after xs ls
count-after (Credit k rs ∷ xs) ls = omega (arith, count-after xs ls)
count-after (Plain p f ∷ xs) ls = omega (arith, count-after xs ls)
count-after (Catch e u c r p f ∷ xs) ls = omega (arith, count-after xs ls)
count-after (Findall e u results list p f ∷ xs) ls = omega (arith, count-after xs ls)
count-after (End p b ∷ xs) ls = omega (arith, count-after xs ls)

pub findall_at-high : (inside : Name → Bool) (xs zs : List Element) (s : Name) (h : ℕ) → Each (IsUnder inside) zs → inside s ≡ true
    → IsFindallAt (xs ++ zs) s h → element_count zs ≤ h
findall_at-high inside [] zs s h u i k = absurd (findall_at-none inside zs s h u i k)
findall_at-high inside (EndOf e ∷ xs) zs s h u i k = findall_at-high inside xs zs s h u i k
findall_at-high inside (Credit j rs ∷ xs) zs s h u i k = findall_at-high inside xs zs s h u i k
findall_at-high inside (Plain p f ∷ xs) zs s h u i k = findall_at-high inside xs zs s h u i k
findall_at-high inside (Catch e v c r p f ∷ xs) zs s h u i k = findall_at-high inside xs zs s h u i k
findall_at-high inside (End p b ∷ xs) zs s h u i k = findall_at-high inside xs zs s h u i k
findall_at-high inside (Findall e v results list p f ∷ xs) zs s h u i (inl k) = omega (arith, k.1, count-after xs zs)
findall_at-high inside (Findall e v results list p f ∷ xs) zs s h u i (inr k) = findall_at-high inside xs zs s h u i k.1

pub findall_at-deep : (inside : Name → Bool) (xs zs : List Element) (s : Name) (h : ℕ) → Each (IsInner inside) xs → inside s ≡ false
    → IsFindallAt (xs ++ zs) s h → suc h ≤ element_count zs
findall_at-deep inside [] zs s h u i k = findall_at-low zs s h k
findall_at-deep inside (EndOf e ∷ xs) zs s h u i k = findall_at-deep inside xs zs s h u.1 i k
findall_at-deep inside (Credit j rs ∷ xs) zs s h u i k = findall_at-deep inside xs zs s h u.1 i k
findall_at-deep inside (Plain p f ∷ xs) zs s h u i k = findall_at-deep inside xs zs s h u.1 i k
findall_at-deep inside (Catch e v c r p f ∷ xs) zs s h u i k = findall_at-deep inside xs zs s h u.1 i k
findall_at-deep inside (End p b ∷ xs) zs s h u i k = findall_at-deep inside xs zs s h u.1 i k
findall_at-deep inside (Findall e v results list p f ∷ xs) zs s h u i (inl k) = absurd (false≢true (sym i ∙ ap inside (sym k.0) ∙ u.0.0))
findall_at-deep inside (Findall e v results list p f ∷ xs) zs s h u i (inr k) = findall_at-deep inside xs zs s h u.1 i k.1

-- a result given over a floor
collected-none : (h : ℕ) (t : Term) (floor : List Entry) → length floor ≤ h → collected h t floor ≡ floor
collected-none h t [] k = refl
collected-none h t (e ∷ es) k = ap (λ b. cond b (with_result t e ∷ es) (e ∷ collected h t es)) (other (length es) (omega arith))
    ∙ ap (λ l. e ∷ l) (collected-none h t es (omega arith))
  where
    other : (a : ℕ) → suc a ≤ h → (a == h) ≡ false
    other a low = go (a == h) refl
      where
        go : (b : Bool) → (a == h) ≡ b → b ≡ false
        go true e = let equal = eqb-true a h e in absurd (omega (arith, low, equal))
        go false e = refl

shifted : (a b h low : ℕ) → b ≡ a + low → low ≤ h → (b == h) ≡ (a == (h - low))
shifted a b h low e k = go (b == h) refl (a == (h - low)) refl
  where
    go : (s : Bool) → (b == h) ≡ s → (t : Bool) → (a == (h - low)) ≡ t → s ≡ t
    go true p true q = refl
    go false p false q = refl
    go true p false q = let equal = eqb-true b h p in sym (eq-eqb a (h - low) (omega (arith, equal, e, k))) ∙ q
    go false p true q = let equal = eqb-true a (h - low) q in sym p ∙ eq-eqb b h (omega (arith, equal, e, k))

pub collected-over : (h : ℕ) (t : Term) (es floor : List Entry) → length floor ≤ h → collected h t (es ++ floor)
    ≡ collected (h - length floor) t es ++ floor
collected-over h t [] floor k = collected-none h t floor k
collected-over h t (e ∷ es) floor k =
    ap (λ b. cond b (with_result t e ∷ (es ++ floor)) (e ∷ collected h t (es ++ floor)))
    (shifted (length es) (length (es ++ floor)) h (length floor) (length-append es floor) k)
    ∙ go (length es == (h - length floor)) (collected-over h t es floor k)
  where
    go : (b : Bool) → collected h t (es ++ floor) ≡ collected (h - length floor) t es ++ floor
        → cond b (with_result t e ∷ (es ++ floor)) (e ∷ collected h t (es ++ floor))
        ≡ cond b (with_result t e ∷ es) (e ∷ collected (h - length floor) t es) ++ floor
    go true n = refl
    go false n = ap (λ l. e ∷ l) n
