-- Records reach by names the Findall entries that they reach by heights.
use Rattle.std.proofs.Common.{◌≡◌, ◌⊎◌, inl, inr, ℕ, suc, ◌-◌, ◌≤◌, ◌==◌, Bool, true, false, cond, List, [], ◌∷◌, map, length, refl, sym}
use Rattle.std.proofs.Common.{ap, ◌∙◌, subst, arith}
use Rattle.std.proofs.lemmas.Bool.{eq-eqb, eqb-true}
use Rattle.au_term.specs.Term.{Term}
use Rattle.au_model.specs.Terms.Each.{Each}
use Rattle.run_model.specs.Programs.Clauses.{Clause}
use Rattle.run_model.specs.Machine.Items.{Continuation}
use Rattle.run_model.specs.Machine.Entries.{PlainEntry, CatchEntry, FindallEntry, EndEntry}
use Rattle.interleaving.specs.Machine.{gives}
use Rattle.tree_model.specs.Elements.{Name, same, Record, Element, Credit, Plain, EndOf, Catch, Findall, End}
use Rattle.interleaving.specs.Scopes.{findall_with_result, give, scoped}
use Rattle.interleaving.specs.HeightMachine.{HeightElement, HeightCredit, HeightEntry, height_with_result, height_collected}
use Rattle.interleaving.specs.HeightMachine.{height_collected_all}
use Rattle.interleaving.specs.Erased.{element_count, height, continuation_heights, record_height, erased}
use Rattle.interleaving.specs.Sound.{names, IsGathered, EachFindall, IsSound}
use Rattle.interleaving.proofs.NamingLemmas.{same-itself, not-same, same-heights, length-erased}
use Rattle.interleaving.proofs.GivenRecordLemmas.{given, count-given, height-given, findalls-given, sound-given, IsFindallAt}
use Rattle.interleaving.proofs.GivenRecordLemmas.{findall_at-low}
use Rattle.interleaving.proofs.GivenRecordLemmas.{gathered_findall_at}

all-same : (r : Record) (xs : List Element) (hs : List Name) → Each (λ s. height (given r xs) s ≡ height xs s) hs
all-same r xs [] = tt
all-same r xs (s ∷ hs) = (height-given r xs s, all-same r xs hs)

pub heights-given : (r : Record) (xs : List Element) (f : Continuation Name) → continuation_heights (height (given r xs)) f
    ≡ continuation_heights (height xs) f
heights-given r xs f = same-heights (height (given r xs)) (height xs) f (all-same r xs (names f.items))

records-given : (r : Record) (xs : List Element) (rs : List Record) → map (record_height (given r xs)) rs ≡ map (record_height xs) rs
records-given r xs [] = refl
records-given r xs (o ∷ rs) = let head = height-given r xs o.0 in let tail = records-given r xs rs in ap
    (λ n. (n - 1, o.1) ∷ map (record_height (given r xs)) rs) head ∙ ap (λ l. record_height xs o ∷ l) tail

-- records of other scopes
none-given : (r : Record) (xs : List Element) → EachFindall (λ e. e ≡ r.0 → ⊥) xs → given r xs ≡ xs
none-given r [] h = refl
none-given r (EndOf e ∷ xs) h = ap (λ l. EndOf e ∷ l) (none-given r xs h)
none-given r (Credit k rs ∷ xs) h = ap (λ l. Credit k rs ∷ l) (none-given r xs h)
none-given r (Plain p f ∷ xs) h = ap (λ l. Plain p f ∷ l) (none-given r xs h)
none-given r (Catch s u c t p f ∷ xs) h = ap (λ l. Catch s u c t p f ∷ l) (none-given r xs h)
none-given r (End p b ∷ xs) h = ap (λ l. End p b ∷ l) (none-given r xs h)
none-given r (Findall s u results list p f ∷ xs) h =
    ap (λ t. cond t (findall_with_result r.1 s u results list p f) (Findall s u results list p f) ∷ given r xs)
    (not-same r.0 s (λ e. h.0 (sym e))) ∙ ap (λ l. Findall s u results list p f ∷ l) (none-given r xs h.1)

-- an element that is not at this height is passed
passed : (h : ℕ) (t : Term) (x : HeightElement) (xs : List Element) → suc h ≤ element_count xs → height_collected h t (x ∷ erased xs)
    ≡ x ∷ height_collected h t (erased xs)
passed h t x xs k = ap (λ b. cond b (height_with_result t x ∷ erased xs) (x ∷ height_collected h t (erased xs)))
    (other (length (erased xs)) (omega (arith, length-erased xs)))
  where
    other : (a : ℕ) → suc h ≤ a → (a == h) ≡ false
    other a low = go (a == h) refl
      where
        go : (b : Bool) → (a == h) ≡ b → b ≡ false
        go true e = let equal = eqb-true a h e in absurd (omega (arith, low, equal))
        go false e = refl

pub erased-given : (r : Record) (xs : List Element) (h : ℕ) → IsFindallAt xs r.0 h → erased (given r xs)
    ≡ height_collected h r.1 (erased xs)
erased-given r [] h k = absurd k
erased-given r (EndOf e ∷ xs) h k = erased-given r xs h k
erased-given r (Credit j rs ∷ xs) h k =
    ap (λ l. HeightCredit j l ∷ erased (given r xs)) (records-given r xs rs) ∙ ap (λ l. HeightCredit j (map (record_height xs) rs) ∷ l)
    (erased-given r xs h k) ∙ sym (passed h r.1 (HeightCredit j (map (record_height xs) rs)) xs (findall_at-low xs r.0 h k))
erased-given r (Plain p f ∷ xs) h k =
    ap (λ g. HeightEntry (PlainEntry g) ∷ erased (given r xs)) (heights-given r xs f)
    ∙ ap (λ l. HeightEntry (PlainEntry (continuation_heights (height xs) f)) ∷ l) (erased-given r xs h k)
    ∙ sym (passed h r.1 (HeightEntry (PlainEntry (continuation_heights (height xs) f))) xs (findall_at-low xs r.0 h k))
erased-given r (Catch s u c t p f ∷ xs) h k =
    ap (λ g. HeightEntry (CatchEntry c t g) ∷ erased (given r xs)) (heights-given r xs f)
    ∙ ap (λ l. HeightEntry (CatchEntry c t (continuation_heights (height xs) f)) ∷ l) (erased-given r xs h k)
    ∙ sym (passed h r.1 (HeightEntry (CatchEntry c t (continuation_heights (height xs) f))) xs (findall_at-low xs r.0 h k))
erased-given r (End p b ∷ xs) h k = ap (λ l. HeightEntry (EndEntry b) ∷ l) (erased-given r xs h k)
    ∙ sym (passed h r.1 (HeightEntry (EndEntry b)) xs (findall_at-low xs r.0 h k))
erased-given r (Findall s u results list p f ∷ xs) h (inl k) =
    let itself : same r.0 s ≡ true = subst (λ o. same r.0 o ≡ true) (sym k.0) (same-itself r.0) in
    let here : (length (erased xs) == h) ≡ true = eq-eqb (length (erased xs)) h (length-erased xs ∙ sym k.1) in
    ap (λ t. erased (cond t (findall_with_result r.1 s u results list p f) (Findall s u results list p f) ∷ given r xs)) itself
    ∙ ap (λ l. erased (findall_with_result r.1 s u results list p f ∷ l)) (none-given r xs k.2)
    ∙ sym (ap (λ b. cond b (height_with_result r.1 (HeightEntry
    (FindallEntry results list (continuation_heights (height xs) f))) ∷ erased xs)
    (HeightEntry (FindallEntry results list (continuation_heights (height xs) f)) ∷ height_collected h r.1 (erased xs))) here)
erased-given r (Findall s u results list p f ∷ xs) h (inr k) =
    let other : same r.0 s ≡ false = not-same r.0 s (λ e. k.0 (sym e)) in
    ap (λ t. erased (cond t (findall_with_result r.1 s u results list p f) (Findall s u results list p f) ∷ given r xs)) other
    ∙ ap (λ g. HeightEntry (FindallEntry results list g) ∷ erased (given r xs)) (heights-given r xs f)
    ∙ ap (λ l. HeightEntry (FindallEntry results list (continuation_heights (height xs) f)) ∷ l) (erased-given r xs h k.1)
    ∙ sym (passed h r.1 (HeightEntry (FindallEntry results list (continuation_heights (height xs) f))) xs (findall_at-low xs r.0 h k.1))

pub findall_at-given : (r : Record) (xs : List Element) (s : Name) (h : ℕ) → IsFindallAt xs s h → IsFindallAt (given r xs) s h
findall_at-given r [] s h k = absurd k
findall_at-given r (EndOf e ∷ xs) s h k = findall_at-given r xs s h k
findall_at-given r (Credit j rs ∷ xs) s h k = findall_at-given r xs s h k
findall_at-given r (Plain p f ∷ xs) s h k = findall_at-given r xs s h k
findall_at-given r (Catch e u c t p f ∷ xs) s h k = findall_at-given r xs s h k
findall_at-given r (End p b ∷ xs) s h k = findall_at-given r xs s h k
findall_at-given r (Findall e u results list p f ∷ xs) s h k = go (same r.0 e) (moved k (λ j. findall_at-given r xs s h j))
  where
    Here : Type 0
    Here = ((e ≡ s) × (h ≡ element_count (given r xs)) × EachFindall (λ o. o ≡ s → ⊥) (given r xs)) ⊎
        ((e ≡ s → ⊥) × IsFindallAt (given r xs) s h)

    moved : IsFindallAt (Findall e u results list p f ∷ xs) s h → (IsFindallAt xs s h → IsFindallAt (given r xs) s h) → Here
    moved (inl j) next = inl (j.0, j.1 ∙ sym (count-given r xs), findalls-given r (λ o. o ≡ s → ⊥) xs j.2)
    moved (inr j) next = inr (j.0, next j.1)

    go : (t : Bool) → Here → IsFindallAt (cond t (findall_with_result r.1 e u results list p f)
        (Findall e u results list p f) ∷ given r xs) s h
    go true j = j
    go false j = j

module _ (clauses : List Clause) where
  pub gives-next : (r : Record) (rs : List Record) (xs : List Element) → map (gives (scoped clauses) (r ∷ rs)) xs
      ≡ map (gives (scoped clauses) rs) (given r xs)
  gives-next r rs [] = refl
  gives-next r rs (x ∷ xs) = ap (λ l. gives (scoped clauses) rs (give r x) ∷ l) (gives-next r rs xs)

  stay : (r : Record) (k : Record → ℕ) (rs : List Record) (xs : List Element) → Each (λ o. IsFindallAt xs o.0 (k o)) rs
      → Each (λ o. IsFindallAt (given r xs) o.0 (k o)) rs
  stay r k [] xs h = tt
  stay r k (o ∷ rs) xs h = (findall_at-given r xs o.0 (k o) h.0, stay r k rs xs h.1)

  erased-gives : (k : Record → ℕ) (rs : List Record) (xs : List Element) → Each (λ o. IsFindallAt xs o.0 (k o)) rs
      → erased (map (gives (scoped clauses) rs) xs) ≡ height_collected_all (map (λ o. (k o, o.1)) rs) (erased xs)
  erased-gives k [] xs h = ap erased (none xs)
    where
      none : (xs : List Element) → map (gives (scoped clauses) []) xs ≡ xs
      none [] = refl
      none (x ∷ xs) = ap (λ l. x ∷ l) (none xs)
  erased-gives k (r ∷ rs) xs h = ap erased (gives-next r rs xs) ∙ erased-gives k rs (given r xs) (stay r k rs xs h.1)
      ∙ ap (height_collected_all (map (λ o. (k o, o.1)) rs)) (erased-given r xs (k r) h.0)

  each-findall_at : (xs : List Element) (rs : List Record) → IsSound xs → Each (λ o. IsGathered xs o.0) rs
      → Each (λ o. IsFindallAt xs o.0 (height xs o.0 - 1)) rs
  each-findall_at xs [] i h = tt
  each-findall_at xs (o ∷ rs) i h = (gathered_findall_at xs o.0 i h.0, each-findall_at xs rs i h.1)

  -- records given to a sound list
  pub gathered-gives : (rs : List Record) (xs : List Element) → IsSound xs → Each (λ o. IsGathered xs o.0) rs
      → erased (map (gives (scoped clauses) rs) xs) ≡ height_collected_all (map (record_height xs) rs) (erased xs)
  gathered-gives rs xs i h = erased-gives (λ o. height xs o.0 - 1) rs xs (each-findall_at xs rs i h)

  pub sound-gives : (rs : List Record) (xs : List Element) → IsSound xs → IsSound (map (gives (scoped clauses) rs) xs)
  sound-gives [] xs h = subst IsSound (none xs) h
    where
      none : (xs : List Element) → xs ≡ map (gives (scoped clauses) []) xs
      none [] = refl
      none (x ∷ xs) = ap (λ l. x ∷ l) (none xs)
  sound-gives (r ∷ rs) xs h = subst IsSound (sym (gives-next r rs xs)) (sound-gives rs (given r xs) (sound-given r xs h))

  pub count-gives : (rs : List Record) (xs : List Element) → element_count (map (gives (scoped clauses) rs) xs) ≡ element_count xs
  count-gives [] xs = ap element_count (none xs)
    where
      none : (xs : List Element) → map (gives (scoped clauses) []) xs ≡ xs
      none [] = refl
      none (x ∷ xs) = ap (λ l. x ∷ l) (none xs)
  count-gives (r ∷ rs) xs = ap element_count (gives-next r rs xs) ∙ count-gives rs (given r xs) ∙ count-given r xs
