-- Readable segments that stand for the same entries over a floor do so over any list whose scopes the floor tells apart.
use Rattle.std.proofs.Common.{◌≡◌, inl, inr, ℕ, zero, suc, ◌-◌, ◌+◌, ◌≤◌, List, [], ◌∷◌, ◌++◌, map, length, Option, refl, sym, ap, ◌∙◌}
use Rattle.std.proofs.Common.{arith}
use Rattle.au_term.specs.Term.{Term}
use Rattle.au_model.specs.Terms.Each.{Each}
use Rattle.au_model.specs.Terms.Named.{NamedTerm}
use Rattle.run_model.specs.Machine.Items.{Item, GoalItem, CatchMark, CollectMark, RemovalItem, Continuation}
use Rattle.run_model.specs.Machine.Entries.{PlainEntry, CatchEntry, FindallEntry, EndEntry}
use Rattle.tree_model.specs.Elements.{Name, Record, Element, Credit, Plain, EndOf, Catch, Findall, End}
use Rattle.interleaving.specs.HeightMachine.{HeightElement, HeightCredit, HeightEntry}
use Rattle.interleaving.specs.Erased.{element_count, height, with_height, continuation_heights, record_height, erased}
use Rattle.interleaving.specs.Sound.{names, IsPresent}
use Rattle.interleaving.proofs.ReadableLemmas.{IsMarkHigh, IsRecordRead, IsReadable}
use Rattle.interleaving.specs.OwnRuns.{IsFloor}
use Rattle.interleaving.specs.FloorLaws.{RespectsHeights}
use Rattle.interleaving.proofs.NamingLemmas.{length-erased}
use Rattle.interleaving.proofs.SeamLemmas.{Seam, seam}
use Rattle.interleaving.proofs.OwnInferenceLemmas.{floor-low}

pub count-append : (xs ls : List Element) → element_count (xs ++ ls) ≡ element_count xs + element_count ls
count-append [] ls = omega arith
count-append (EndOf e ∷ xs) ls = count-append xs ls
count-append (Credit k rs ∷ xs) ls = omega (arith, count-append xs ls)
count-append (Plain p f ∷ xs) ls = omega (arith, count-append xs ls)
count-append (Catch e u c r p f ∷ xs) ls = omega (arith, count-append xs ls)
count-append (Findall e u results list p f ∷ xs) ls = omega (arith, count-append xs ls)
count-append (End p b ∷ xs) ls = omega (arith, count-append xs ls)

abbrev cont_of : List NamedTerm → ℕ → List (Item ℕ) → Continuation ℕ
cont_of named next items = record { items = items; named = named; next = next }

module _ (floor zs : List Element) (first : IsFloor floor) (tells : RespectsHeights floor zs) where
  -- one scope
  told : (b c : List Element) (s t : Name) → IsPresent (b ++ floor) s → IsPresent (c ++ floor) t → height (b ++ floor) s
      ≡ height (c ++ floor) t → height (b ++ zs) s ≡ height (c ++ zs) t
  told b c s t p q e = go (seam b s) (seam c t)
    where
      go : Seam b s → Seam c t → height (b ++ zs) s ≡ height (c ++ zs) t
      go (inl k) (inl j) =
          let same : element_count (k.0 ++ floor) ≡ element_count (j.0 ++ floor) = sym (ap element_count (k.2 floor)) ∙ e
          ∙ ap element_count (j.2 floor) in
          let sizes : element_count (k.0 ++ zs) ≡ element_count (j.0 ++ zs) = omega
          (arith, same, count-append k.0 floor, count-append j.0 floor, count-append k.0 zs, count-append j.0 zs) in
          ap element_count (k.2 zs) ∙ sizes ∙ sym (ap element_count (j.2 zs))
      go (inr k) (inr j) =
          let old : height floor s ≡ height floor t = sym (ap element_count (k floor)) ∙ e ∙ ap element_count (j floor) in
          ap element_count (k zs) ∙ tells s t (p.0, sym (k floor) ∙ p.1) (q.0, sym (j floor) ∙ q.1) old ∙ sym (ap element_count (j zs))
      go (inl k) (inr j) =
          let low : suc (height floor t) ≤ element_count floor = floor-low floor t q.0 first (sym (j floor) ∙ q.1) in
          let same : element_count (k.0 ++ floor) ≡ height floor t = sym (ap element_count (k.2 floor)) ∙ e ∙ ap element_count (j floor) in
          absurd (omega (arith, low, same, count-append k.0 floor))
      go (inr k) (inl j) =
          let low : suc (height floor s) ≤ element_count floor = floor-low floor s p.0 first (sym (k floor) ∙ p.1) in
          let same : height floor s ≡ element_count (j.0 ++ floor) = sym (ap element_count (k floor)) ∙ e ∙ ap element_count (j.2 floor) in
          absurd (omega (arith, low, same, count-append j.0 floor))

  less_one : (a b : ℕ) → 1 ≤ a → 1 ≤ b → a - 1 ≡ b - 1 → a ≡ b
  less_one a b e f h = omega (arith, e, f, h)

  goal_eq : (t u : Term) (n k : ℕ) (xs ys : List (Item ℕ)) → ◌≡◌ {A = List (Item ℕ)} (GoalItem t n ∷ xs) (GoalItem u k ∷ ys)
      → (t ≡ u) × (n ≡ k) × (xs ≡ ys)
  goal_eq t u n k xs ys e = (cc, cc, cc)

  catch_eq : (n k : ℕ) (xs ys : List (Item ℕ)) → ◌≡◌ {A = List (Item ℕ)} (CatchMark n ∷ xs) (CatchMark k ∷ ys) → (n ≡ k) × (xs ≡ ys)
  catch_eq n k xs ys e = (cc, cc)

  collect_eq : (t u : Term) (n k : ℕ) (xs ys : List (Item ℕ)) → ◌≡◌ {A = List (Item ℕ)} (CollectMark t n ∷ xs) (CollectMark u k ∷ ys)
      → (t ≡ u) × (n ≡ k) × (xs ≡ ys)
  collect_eq t u n k xs ys e = (cc, cc, cc)

  removal_eq : (n k : ℕ) (xs ys : List (Item ℕ)) → ◌≡◌ {A = List (Item ℕ)} (RemovalItem n ∷ xs) (RemovalItem k ∷ ys) → (n ≡ k) × (xs ≡ ys)
  removal_eq n k xs ys e = (cc, cc)

  items-told : (b c : List Element) (is js : List (Item Name)) → Each (IsPresent (b ++ floor)) (names is)
      → Each (IsPresent (c ++ floor)) (names js) → Each (IsMarkHigh (b ++ floor)) is → Each (IsMarkHigh (c ++ floor)) js
      → map (with_height (height (b ++ floor))) is ≡ map (with_height (height (c ++ floor))) js
      → map (with_height (height (b ++ zs))) is ≡ map (with_height (height (c ++ zs))) js
  items-told b c [] [] p q g h e = refl
  items-told b c (GoalItem t s ∷ is) [] p q g h e = absurd cc
  items-told b c [] (GoalItem t s ∷ js) p q g h e = absurd cc
  items-told b c (CatchMark s ∷ is) [] p q g h e = absurd cc
  items-told b c [] (CatchMark s ∷ js) p q g h e = absurd cc
  items-told b c (CollectMark t s ∷ is) [] p q g h e = absurd cc
  items-told b c [] (CollectMark t s ∷ js) p q g h e = absurd cc
  items-told b c (RemovalItem n ∷ is) [] p q g h e = absurd cc
  items-told b c [] (RemovalItem n ∷ js) p q g h e = absurd cc
  items-told b c (GoalItem t s ∷ is) (CatchMark r ∷ js) p q g h e = absurd cc
  items-told b c (GoalItem t s ∷ is) (CollectMark u r ∷ js) p q g h e = absurd cc
  items-told b c (GoalItem t s ∷ is) (RemovalItem k ∷ js) p q g h e = absurd cc
  items-told b c (CatchMark s ∷ is) (GoalItem u r ∷ js) p q g h e = absurd cc
  items-told b c (CatchMark s ∷ is) (CollectMark u r ∷ js) p q g h e = absurd cc
  items-told b c (CatchMark s ∷ is) (RemovalItem k ∷ js) p q g h e = absurd cc
  items-told b c (CollectMark t s ∷ is) (GoalItem u r ∷ js) p q g h e = absurd cc
  items-told b c (CollectMark t s ∷ is) (CatchMark r ∷ js) p q g h e = absurd cc
  items-told b c (CollectMark t s ∷ is) (RemovalItem k ∷ js) p q g h e = absurd cc
  items-told b c (RemovalItem n ∷ is) (GoalItem u r ∷ js) p q g h e = absurd cc
  items-told b c (RemovalItem n ∷ is) (CatchMark r ∷ js) p q g h e = absurd cc
  items-told b c (RemovalItem n ∷ is) (CollectMark u r ∷ js) p q g h e = absurd cc
  items-told b c (GoalItem t s ∷ is) (GoalItem u r ∷ js) p q g h e =
      let parts = goal_eq t u (height (b ++ floor) s) (height (c ++ floor) r) (map (with_height (height (b ++ floor))) is)
      (map (with_height (height (c ++ floor))) js) e in
      let here = told b c s r p.0 q.0 parts.1 in
      let rest = items-told b c is js p.1 q.1 g.1 h.1 parts.2 in
      ap (λ x. GoalItem x (height (b ++ zs) s) ∷ map (with_height (height (b ++ zs))) is) parts.0
      ∙ ap (λ n. GoalItem u n ∷ map (with_height (height (b ++ zs))) is) here ∙ ap (λ l. GoalItem u (height (c ++ zs) r) ∷ l) rest
  items-told b c (CatchMark s ∷ is) (CatchMark r ∷ js) p q g h e =
      let parts = catch_eq (height (b ++ floor) s - 1) (height (c ++ floor) r - 1) (map (with_height (height (b ++ floor))) is)
      (map (with_height (height (c ++ floor))) js) e in
      let same = less_one (height (b ++ floor) s) (height (c ++ floor) r) g.0 h.0 parts.0 in
      let here = told b c s r p.0 q.0 same in
      let rest = items-told b c is js p.1 q.1 g.1 h.1 parts.1 in
      ap (λ n. CatchMark (n - 1) ∷ map (with_height (height (b ++ zs))) is) here ∙ ap (λ l. CatchMark (height (c ++ zs) r - 1) ∷ l) rest
  items-told b c (CollectMark t s ∷ is) (CollectMark u r ∷ js) p q g h e =
      let parts = collect_eq t u (height (b ++ floor) s - 1) (height (c ++ floor) r - 1) (map (with_height (height (b ++ floor))) is)
      (map (with_height (height (c ++ floor))) js) e in
      let same = less_one (height (b ++ floor) s) (height (c ++ floor) r) g.0 h.0 parts.1 in
      let here = told b c s r p.0 q.0 same in
      let rest = items-told b c is js p.1 q.1 g.1 h.1 parts.2 in
      ap (λ x. CollectMark x (height (b ++ zs) s - 1) ∷ map (with_height (height (b ++ zs))) is) parts.0
      ∙ ap (λ n. CollectMark u (n - 1) ∷ map (with_height (height (b ++ zs))) is) here
      ∙ ap (λ l. CollectMark u (height (c ++ zs) r - 1) ∷ l) rest
  items-told b c (RemovalItem n ∷ is) (RemovalItem k ∷ js) p q g h e =
      let parts = removal_eq n k (map (with_height (height (b ++ floor))) is) (map (with_height (height (c ++ floor))) js) e in
      let rest = items-told b c is js p q g.1 h.1 parts.1 in
      ap (λ x. RemovalItem x ∷ map (with_height (height (b ++ zs))) is) parts.0 ∙ ap (λ l. RemovalItem k ∷ l) rest

  cont-told : (b c : List Element) (f g : Continuation Name) → Each (IsPresent (b ++ floor)) (names f.items)
      → Each (IsPresent (c ++ floor)) (names g.items) → Each (IsMarkHigh (b ++ floor)) f.items → Each (IsMarkHigh (c ++ floor)) g.items
      → continuation_heights (height (b ++ floor)) f ≡ continuation_heights (height (c ++ floor)) g
      → continuation_heights (height (b ++ zs)) f
      ≡ continuation_heights (height (c ++ zs)) g
  cont-told b c f g p q k h e =
      let items = items-told b c f.items g.items p q k h (ap (λ x. x.items) e) in
      let named : f.named ≡ g.named = ap (λ x. x.named) e in
      let next : f.next ≡ g.next = ap (λ x. x.next) e in
      ap (cont_of f.named f.next) items ∙ ap (λ n. cont_of n f.next (map (with_height (height (c ++ zs))) g.items)) named
      ∙ ap (λ n. cont_of g.named n (map (with_height (height (c ++ zs))) g.items)) next

  record_eq : (n k : ℕ) (t u : Term) (xs ys : List (ℕ × Term)) → ◌≡◌ {A = List (ℕ × Term)} ((n, t) ∷ xs) ((k, u) ∷ ys)
      → (n ≡ k) × (t ≡ u) × (xs ≡ ys)
  record_eq n k t u xs ys e = let pair : ◌≡◌ {A = ℕ × Term} (n, t) (k, u) = cc in (ap (λ o. o.0) pair, ap (λ o. o.1) pair, cc)

  records-told : (b c : List Element) (rs qs : List Record) → Each (IsRecordRead (b ++ floor)) rs → Each (IsRecordRead (c ++ floor)) qs
      → map (record_height (b ++ floor)) rs ≡ map (record_height (c ++ floor)) qs → map (record_height (b ++ zs)) rs
      ≡ map (record_height (c ++ zs)) qs
  records-told b c [] [] g h e = refl
  records-told b c (r ∷ rs) [] g h e = absurd cc
  records-told b c [] (q ∷ qs) g h e = absurd cc
  records-told b c (r ∷ rs) (q ∷ qs) g h e =
      let parts = record_eq (height (b ++ floor) r.0 - 1) (height (c ++ floor) q.0 - 1) r.1 q.1 (map (record_height (b ++ floor)) rs)
      (map (record_height (c ++ floor)) qs) e in
      let same = less_one (height (b ++ floor) r.0) (height (c ++ floor) q.0) g.0.1 h.0.1 parts.0 in
      let here = told b c r.0 q.0 g.0.0 h.0.0 same in
      let rest = records-told b c rs qs g.1 h.1 parts.2 in
      ap (λ n. (n - 1, r.1) ∷ map (record_height (b ++ zs)) rs) here
      ∙ ap (λ x. (height (c ++ zs) q.0 - 1, x) ∷ map (record_height (b ++ zs)) rs) parts.1
      ∙ ap (λ l. record_height (c ++ zs) q ∷ l) rest

  -- ends of scopes alone
  ends-only : (c ls : List Element) → element_count c ≡ 0 → erased (c ++ ls) ≡ erased ls
  ends-only [] ls h = refl
  ends-only (EndOf e ∷ c) ls h = ends-only c ls h
  ends-only (Credit k rs ∷ c) ls h = absurd (omega (arith, h))
  ends-only (Plain p f ∷ c) ls h = absurd (omega (arith, h))
  ends-only (Catch s u x r p f ∷ c) ls h = absurd (omega (arith, h))
  ends-only (Findall s u results list p f ∷ c) ls h = absurd (omega (arith, h))
  ends-only (End p b ∷ c) ls h = absurd (omega (arith, h))

  same-count : (b c : List Element) → erased (b ++ floor) ≡ erased (c ++ floor) → element_count b ≡ element_count c
  same-count b c e = omega (
    arith,
    sym (length-erased (b ++ floor)) ∙ ap length e ∙ length-erased (c ++ floor),
    count-append b floor,
    count-append c floor,
  )

  credit_eq : (k n : ℕ) (rs qs : List (ℕ × Term)) (xs ys : List HeightElement) → ◌≡◌ {A = List HeightElement} (HeightCredit k rs ∷ xs)
      (HeightCredit n qs ∷ ys) → (k ≡ n) × (rs ≡ qs) × (xs ≡ ys)
  credit_eq k n rs qs xs ys e = (cc, cc, cc)

  plain_eq : (f g : Continuation ℕ) (xs ys : List HeightElement) → ◌≡◌ {A = List HeightElement} (HeightEntry (PlainEntry f) ∷ xs)
      (HeightEntry (PlainEntry g) ∷ ys) → (f ≡ g) × (xs ≡ ys)
  plain_eq f g xs ys e = (cc, cc)

  catch_entry_eq : (a b r q : Term) (f g : Continuation ℕ) (xs ys : List HeightElement)
      → ◌≡◌ {A = List HeightElement} (HeightEntry (CatchEntry a r f) ∷ xs) (HeightEntry (CatchEntry b q g) ∷ ys)
      → (a ≡ b) × (r ≡ q) × (f ≡ g) × (xs ≡ ys)
  catch_entry_eq a b r q f g xs ys e = (cc, cc, cc, cc)

  findall_eq : (a b : List Term) (r q : Term) (f g : Continuation ℕ) (xs ys : List HeightElement)
      → ◌≡◌ {A = List HeightElement} (HeightEntry (FindallEntry a r f) ∷ xs) (HeightEntry (FindallEntry b q g) ∷ ys)
      → (a ≡ b) × (r ≡ q) × (f ≡ g) × (xs ≡ ys)
  findall_eq a b r q f g xs ys e = (cc, cc, cc, cc)

  end_eq : (a b : Option Term) (xs ys : List HeightElement) → ◌≡◌ {A = List HeightElement} (HeightEntry (EndEntry a) ∷ xs)
      (HeightEntry (EndEntry b) ∷ ys) → (a ≡ b) × (xs ≡ ys)
  end_eq a b xs ys e = (cc, cc)

  lists-told : (n : ℕ) (b c : List Element) → length b + length c ≤ n → IsReadable (b ++ floor) → IsReadable (c ++ floor)
      → erased (b ++ floor) ≡ erased (c ++ floor) → erased (b ++ zs) ≡ erased (c ++ zs)
  lists-told n [] c l i j e = sym (ends-only c zs (sym (same-count [] c e)))
  lists-told n (x ∷ b) [] l i j e = ends-only (x ∷ b) zs (same-count (x ∷ b) [] e)
  lists-told zero (x ∷ b) (y ∷ c) l i j e = absurd (omega arith)
  lists-told (suc n) (EndOf s ∷ b) (y ∷ c) l i j e = lists-told n b (y ∷ c) (omega arith) i j e
  lists-told (suc n) (Credit k rs ∷ b) (EndOf t ∷ c) l i j e = lists-told n (Credit k rs ∷ b) c (omega arith) i j e
  lists-told (suc n) (Plain p f ∷ b) (EndOf t ∷ c) l i j e = lists-told n (Plain p f ∷ b) c (omega arith) i j e
  lists-told (suc n) (Catch s u a r p f ∷ b) (EndOf t ∷ c) l i j e = lists-told n (Catch s u a r p f ∷ b) c (omega arith) i j e
  lists-told (suc n) (Findall s u a r p f ∷ b) (EndOf t ∷ c) l i j e = lists-told n (Findall s u a r p f ∷ b) c (omega arith) i j e
  lists-told (suc n) (End p a ∷ b) (EndOf t ∷ c) l i j e = lists-told n (End p a ∷ b) c (omega arith) i j e
  lists-told (suc n) (Credit k rs ∷ b) (Plain q g ∷ c) l i j e = absurd cc
  lists-told (suc n) (Credit k rs ∷ b) (Catch t v d w q g ∷ c) l i j e = absurd cc
  lists-told (suc n) (Credit k rs ∷ b) (Findall t v d w q g ∷ c) l i j e = absurd cc
  lists-told (suc n) (Credit k rs ∷ b) (End q d ∷ c) l i j e = absurd cc
  lists-told (suc n) (Plain p f ∷ b) (Credit n2 qs ∷ c) l i j e = absurd cc
  lists-told (suc n) (Plain p f ∷ b) (Catch t v d w q g ∷ c) l i j e = absurd cc
  lists-told (suc n) (Plain p f ∷ b) (Findall t v d w q g ∷ c) l i j e = absurd cc
  lists-told (suc n) (Plain p f ∷ b) (End q d ∷ c) l i j e = absurd cc
  lists-told (suc n) (Catch s u a r p f ∷ b) (Credit n2 qs ∷ c) l i j e = absurd cc
  lists-told (suc n) (Catch s u a r p f ∷ b) (Plain q g ∷ c) l i j e = absurd cc
  lists-told (suc n) (Catch s u a r p f ∷ b) (Findall t v d w q g ∷ c) l i j e = absurd cc
  lists-told (suc n) (Catch s u a r p f ∷ b) (End q d ∷ c) l i j e = absurd cc
  lists-told (suc n) (Findall s u a r p f ∷ b) (Credit n2 qs ∷ c) l i j e = absurd cc
  lists-told (suc n) (Findall s u a r p f ∷ b) (Plain q g ∷ c) l i j e = absurd cc
  lists-told (suc n) (Findall s u a r p f ∷ b) (Catch t v d w q g ∷ c) l i j e = absurd cc
  lists-told (suc n) (Findall s u a r p f ∷ b) (End q d ∷ c) l i j e = absurd cc
  lists-told (suc n) (End p a ∷ b) (Credit n2 qs ∷ c) l i j e = absurd cc
  lists-told (suc n) (End p a ∷ b) (Plain q g ∷ c) l i j e = absurd cc
  lists-told (suc n) (End p a ∷ b) (Catch t v d w q g ∷ c) l i j e = absurd cc
  lists-told (suc n) (End p a ∷ b) (Findall t v d w q g ∷ c) l i j e = absurd cc
  lists-told (suc n) (Credit k rs ∷ b) (Credit n2 qs ∷ c) l i j e =
      let parts = credit_eq k n2 (map (record_height (b ++ floor)) rs) (map (record_height (c ++ floor)) qs) (erased (b ++ floor))
      (erased (c ++ floor)) e in
      let here = records-told b c rs qs i.0 j.0 parts.1 in
      let rest = lists-told n b c (omega arith) i.1 j.1 parts.2 in
      ap (λ x. HeightCredit x (map (record_height (b ++ zs)) rs) ∷ erased (b ++ zs)) parts.0
      ∙ ap (λ x. HeightCredit n2 x ∷ erased (b ++ zs)) here ∙ ap (λ x. HeightCredit n2 (map (record_height (c ++ zs)) qs) ∷ x) rest
  lists-told (suc n) (Plain p f ∷ b) (Plain q g ∷ c) l i j e =
      let parts = plain_eq (continuation_heights (height (b ++ floor)) f) (continuation_heights (height (c ++ floor)) g)
      (erased (b ++ floor))
      (erased (c ++ floor)) e in
      let here = cont-told b c f g i.0.0 j.0.0 i.0.1 j.0.1 parts.0 in
      let rest = lists-told n b c (omega arith) i.1 j.1 parts.1 in
      ap (λ x. HeightEntry (PlainEntry x) ∷ erased (b ++ zs)) here
      ∙ ap (λ x. HeightEntry (PlainEntry (continuation_heights (height (c ++ zs)) g)) ∷ x) rest
  lists-told (suc n) (Catch s u a r p f ∷ b) (Catch t v d w q g ∷ c) l i j e =
      let parts = catch_entry_eq a d r w (continuation_heights (height (b ++ floor)) f) (continuation_heights (height (c ++ floor)) g)
      (erased (b ++ floor)) (erased (c ++ floor)) e in
      let here = cont-told b c f g i.0.0 j.0.0 i.0.1 j.0.1 parts.2 in
      let rest = lists-told n b c (omega arith) i.1 j.1 parts.3 in
      ap (λ x. HeightEntry (CatchEntry x r (continuation_heights (height (b ++ zs)) f)) ∷ erased (b ++ zs)) parts.0
      ∙ ap (λ x. HeightEntry (CatchEntry d x (continuation_heights (height (b ++ zs)) f)) ∷ erased (b ++ zs)) parts.1
      ∙ ap (λ x. HeightEntry (CatchEntry d w x) ∷ erased (b ++ zs)) here
      ∙ ap (λ x. HeightEntry (CatchEntry d w (continuation_heights (height (c ++ zs)) g)) ∷ x) rest
  lists-told (suc n) (Findall s u a r p f ∷ b) (Findall t v d w q g ∷ c) l i j e =
      let parts = findall_eq a d r w (continuation_heights (height (b ++ floor)) f) (continuation_heights (height (c ++ floor)) g)
      (erased (b ++ floor))
      (erased (c ++ floor)) e in
      let here = cont-told b c f g i.0.0 j.0.0 i.0.1 j.0.1 parts.2 in
      let rest = lists-told n b c (omega arith) i.1 j.1 parts.3 in
      ap (λ x. HeightEntry (FindallEntry x r (continuation_heights (height (b ++ zs)) f)) ∷ erased (b ++ zs)) parts.0
      ∙ ap (λ x. HeightEntry (FindallEntry d x (continuation_heights (height (b ++ zs)) f)) ∷ erased (b ++ zs)) parts.1
      ∙ ap (λ x. HeightEntry (FindallEntry d w x) ∷ erased (b ++ zs)) here
      ∙ ap (λ x. HeightEntry (FindallEntry d w (continuation_heights (height (c ++ zs)) g)) ∷ x) rest
  lists-told (suc n) (End p a ∷ b) (End q d ∷ c) l i j e =
      let parts = end_eq a d (erased (b ++ floor)) (erased (c ++ floor)) e in
      ap (λ x. HeightEntry (EndEntry x) ∷ erased (b ++ zs)) parts.0
      ∙ ap (λ x. HeightEntry (EndEntry d) ∷ x) (lists-told n b c (omega arith) i j parts.1)

pub readable_enough : (floor zs b c : List Element) → IsFloor floor → RespectsHeights floor zs → IsReadable (b ++ floor)
    → IsReadable (c ++ floor)
    → erased (b ++ floor) ≡ erased (c ++ floor) → erased (b ++ zs) ≡ erased (c ++ zs)
readable_enough floor zs b c first tells i j e = lists-told floor zs first tells (length b + length c) b c (omega arith) i j e
