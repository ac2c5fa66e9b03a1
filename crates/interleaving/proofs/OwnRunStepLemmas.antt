-- The free steps of own entries, and those of the list by names.
use Rattle.std.proofs.Common.{◌≡◌, ℕ, zero, suc, ◌-◌, ◌+◌, ◌≤◌, Bool, true, false, cond, List, [], ◌∷◌, ◌++◌, map, length, length-append}
use Rattle.std.proofs.Common.{nat_lt, refl, sym, ap, ◌∙◌, subst, arith}
use Rattle.std.specs.Prelude.{codes}
use Rattle.au_term.specs.Term.{Term}
use Rattle.au_model.specs.Terms.Forms.{binary, list_term}
use Rattle.run_model.specs.Programs.Clauses.{Clause}
use Rattle.run_model.specs.Machine.Items.{Item, GoalItem, CatchMark, CollectMark, RemovalItem, Continuation, with_items, before}
use Rattle.run_model.specs.Machine.Items.{without_marks}
use Rattle.run_model.specs.Machine.Entries.{Entry, PlainEntry, CatchEntry, FindallEntry, EndEntry, collected}
use Rattle.interleaving.specs.Machine.{Machine, Drops, Becomes, gives}
use Rattle.tree_model.specs.Elements.{Name, Record, Element, Credit, Plain, EndOf, Catch, Findall, End}
use Rattle.interleaving.specs.Scopes.{without_catch_marks, Shared, Sought, give, unmarked, results_first, act, scoped}
use Rattle.interleaving.specs.Segments.{outer, Private, private_none, private_drops, private_remains, private_changes}
use Rattle.interleaving.specs.Erased.{element_count, height, with_height, continuation_heights, erased}
use Rattle.interleaving.specs.HeightMachine.{HeightElement, HeightCredit, HeightEntry, height_entries, height_collected}
use Rattle.interleaving.specs.Views.{IsGrown, IsInner}
use Rattle.interleaving.specs.Laws.{is_inner_record}
use Rattle.interleaving.specs.Sound.{names, IsGathered, IsEntrySound, IsSound}
use Rattle.tree_model.specs.PrivateRuns.{own_free_step, own_free_steps, own_at_rest}
use Rattle.interleaving.specs.OwnRuns.{NamesEntries, IsFloorUnder}
use Rattle.interleaving.proofs.RunFrontLemmas.{map-none}
use Rattle.interleaving.proofs.InsideStepLemmas.{still_drops}
use Rattle.interleaving.proofs.NamingLemmas.{goals-heights, length-erased, sames, carried_rest}
use Rattle.run_model.proofs.FreeStepLemmas.{length-collected}
use Rattle.interleaving.proofs.CarriedLemmas.{entry_unmarked}
use Rattle.interleaving.proofs.GivenRecordLemmas.{IsFindallAt, gathered_findall_at}
use Rattle.interleaving.proofs.GivenHeightLemmas.{erased-given, gives-next}
use Rattle.interleaving.proofs.FreeStepHeightLemmas.{length-map, marks-heights}
use Rattle.interleaving.proofs.SequentialHeightLemmas.{length-height, height-collected}
use Rattle.interleaving.proofs.SoundEarlyLemmas.{preserved-zs, part-given, inner-given, map-append}
use Rattle.interleaving.proofs.OwnFreeStepLemmas.{count-after, findall_at-high, findall_at-deep, collected-over}
use Rattle.au_term.proofs.LogicLemmas.{not_less, less}

module _ (clauses : List Clause) (inside : Name → Bool) (grown : IsGrown inside) (zs : List Element) (floor : List Entry)
    (fl : IsFloorUnder inside zs floor) where
  abbrev m : Machine Shared Element Sought Record
  m = scoped clauses

  abbrev Own : List Element → List Entry → Type 0
  Own a es = NamesEntries inside a zs es floor

  abbrev pub IsSettledOwn : List Element → List Entry → Type 0
  IsSettledOwn a es = (b : List Element) × Private (scoped clauses) (is_inner_record inside) 0 [] a b × NamesEntries inside b zs es floor

  pub floor_size : element_count zs ≡ length floor
  floor_size = sym (length-erased zs) ∙ ap length fl.entries ∙ length-height floor

  pub own_size : (a : List Element) (es : List Entry) → Own a es → element_count (a ++ zs) ≡ length es + length floor
  own_size a es o = sym (length-erased (a ++ zs)) ∙ ap length o.entries ∙ length-height (es ++ floor) ∙ length-append es floor

  -- a collect mark in front
  collects : (x : Element) (k st : Entry) (s : Name) (t : Term) (a : List Element) (es : List Entry) (j : ℕ) → act clauses x
      ≡ Drops ((s, t) ∷ []) → IsGathered (a ++ zs) s → Own (without_catch_marks x ∷ a) (st ∷ es) → Own (x ∷ a) (k ∷ es) → Own a es
      → (Own (map (give (s, t)) a) (collected (height (a ++ zs) s - 1 - length floor) t es)
      → IsSettledOwn (map (give (s, t)) a) (own_free_steps floor j (collected (height (a ++ zs) s - 1 - length floor) t es)))
      → IsSettledOwn (x ∷ a) (cond (nat_lt (height (a ++ zs) s - 1) (length floor)) (st ∷ es)
      (own_free_steps floor j (collected (height (a ++ zs) s - 1 - length floor) t es)))
  collects x k st s t a es j e g stood whole o next = go (inside s) refl
    where
      h : ℕ
      h = height (a ++ zs) s - 1

      at : IsFindallAt (a ++ zs) s (height (a ++ zs) s - 1)
      at = gathered_findall_at (a ++ zs) s o.sound g

      test : (b : Bool) → nat_lt (height (a ++ zs) s - 1) (length floor) ≡ b
          → IsSettledOwn (x ∷ a) (cond b (st ∷ es) (own_free_steps floor j (collected (height (a ++ zs) s - 1 - length floor) t es)))
          → IsSettledOwn (x ∷ a) (cond (nat_lt (height (a ++ zs) s - 1) (length floor)) (st ∷ es)
          (own_free_steps floor j (collected (height (a ++ zs) s - 1 - length floor) t es)))
      test b f r = subst (λ c. IsSettledOwn (x ∷ a)
          (cond c (st ∷ es) (own_free_steps floor j (collected (height (a ++ zs) s - 1 - length floor) t es)))) (sym f) r

      given_own : inside s ≡ true → length floor ≤ height (a ++ zs) s - 1
          → Own (map (give (s, t)) a) (collected (height (a ++ zs) s - 1 - length floor) t es)
      given_own i low = record {
        sound = part-given clauses inside grown zs fl.under (s, t) a o.inner o.sound;
        inner = inner-given clauses inside grown zs fl.under (s, t) a o.inner;
        entries =
            ap erased (sym (map-append clauses inside grown zs fl.under (s, t) a zs
            ∙ ap (λ l. map (give (s, t)) a ++ l) (preserved-zs clauses inside grown zs fl.under (s, t) i zs fl.under)))
            ∙ erased-given (s, t) (a ++ zs) (height (a ++ zs) s - 1) at ∙ ap (height_collected (height (a ++ zs) s - 1) t) o.entries
            ∙ height-collected (height (a ++ zs) s - 1) t (es ++ floor)
            ∙ ap height_entries (collected-over (height (a ++ zs) s - 1) t es floor low);
      }

      none_out : inside s ≡ true → outer (is_inner_record inside) ((s, t) ∷ []) ++ [] ≡ []
      none_out i = ap (λ b. cond b [] ((s, t) ∷ []) ++ []) i

      go : (b : Bool) → inside s ≡ b → IsSettledOwn (x ∷ a)
          (cond (nat_lt (height (a ++ zs) s - 1) (length floor)) (st ∷ es)
          (own_free_steps floor j (collected (height (a ++ zs) s - 1 - length floor) t es)))
      go true i =
          let low : length floor ≤ height (a ++ zs) s - 1 = omega
          (arith, floor_size, findall_at-high inside a zs s (height (a ++ zs) s - 1) fl.under i at) in
          let later = next (given_own i low) in
          let same : map (gives m ((s, t) ∷ [])) a ≡ map (give (s, t)) a = gives-next clauses (s, t) [] a
          ∙ map-none m (map (give (s, t)) a) in
          let run : Private m (is_inner_record inside) 0 [] (x ∷ a) later.0 = subst
          (λ l. Private m (is_inner_record inside) 0 l (x ∷ a) later.0) (none_out i)
          (private_drops 0 x ((s, t) ∷ []) [] a later.0 e
          (subst (λ l. Private m (is_inner_record inside) 0 [] l later.0) (sym same) later.1)) in
          test false (not_less (height (a ++ zs) s - 1) (length floor) low) (later.0, run, later.2)
      go false i =
          let deep : suc (height (a ++ zs) s - 1) ≤ length floor = omega
          (arith, floor_size, findall_at-deep inside a zs s (height (a ++ zs) s - 1) o.inner i at) in
          test true (less (height (a ++ zs) s - 1) (length floor) deep) (
            without_catch_marks x ∷ a,
            private_remains 0 x ((s, t) ∷ []) [] a (without_catch_marks x ∷ a) e (still_drops clauses x ((s, t) ∷ []) e)
                (private_none (without_catch_marks x ∷ a)),
            stood,
          )

  -- an entry that stays
  stays : (a : List Element) (es : List Entry) → Own a es → IsSettledOwn a es
  stays a es o = (a, private_none a, o)

  wakes : (x y : Element) (a : List Element) (es ds : List Entry) → act clauses x ≡ Becomes y → Own (x ∷ a) es → IsSound (y ∷ (a ++ zs))
      → IsInner inside y → erased (y ∷ (a ++ zs)) ≡ height_entries (ds ++ floor) → IsSettledOwn (x ∷ a) ds
  wakes x y a es ds e o i own k =
      (y ∷ a, private_changes 0 x y [] a (y ∷ a) e (private_none (y ∷ a)), record { sound = i; inner = (own, o.inner.1); entries = k })

  abbrev Next : List Element → List Entry → ℕ → Type 0
  Next a es j = (s : Name) (t : Term)
      → NamesEntries inside (map (give (s, t)) a) zs (collected (height (a ++ zs) s - 1 - length floor) t es) floor
      → IsSettledOwn (map (give (s, t)) a) (own_free_steps floor j (collected (height (a ++ zs) s - 1 - length floor) t es))

  abbrev height_cont : List Element → Continuation Name → Continuation ℕ
  height_cont a f = continuation_heights (height (a ++ zs)) f

  -- after the catch marks in front
  after_marks : (c : Name) (items us : List (Item Name)) (p : Name) (f : Continuation Name) (a : List Element) (es : List Entry)
      (j : ℕ) → without_marks items ≡ us → Own (Plain p (with_items (CatchMark c ∷ items) f) ∷ a)
      (PlainEntry (height_cont a (with_items (CatchMark c ∷ items) f)) ∷ es) → Own a es → Next a es j
      → IsSettledOwn (Plain p (with_items (CatchMark c ∷ items) f) ∷ a)
      (own_free_step (map (with_height (height (a ++ zs))) us) (height_cont a (with_items (CatchMark c ∷ items) f)) es floor
      (own_free_steps floor j))
  after_marks c items us p f a es j e whole o next = go us e entry
    where
      x : Element
      x = Plain p (with_items (CatchMark c ∷ items) f)

      first : IsEntrySound p (a ++ zs) (c ∷ names items) (CatchMark c ∷ items)
      first = whole.sound.0

      entry : IsEntrySound p (a ++ zs) (names us) us
      entry = subst (λ l. IsEntrySound p (a ++ zs) (names l) l) e
          (entry_unmarked p (a ++ zs) items
          (record {
            carried = carried_rest p (a ++ zs) c (names items) first.carried;
            marks = first.marks.1;
            findalls = first.findalls;
          }))

      woken : (us : List (Item Name)) → unmarked us p (with_items (CatchMark c ∷ items) f) ≡ Becomes (Plain p (with_items us f))
          → without_marks items ≡ us → IsEntrySound p (a ++ zs) (names us) us
          → IsSettledOwn (Plain p (with_items (CatchMark c ∷ items) f) ∷ a)
          (PlainEntry (with_items (map (with_height (height (a ++ zs))) us) (height_cont a (with_items (CatchMark c ∷ items) f))) ∷ es)
      woken us w k s =
          wakes (Plain p (with_items (CatchMark c ∷ items) f)) (Plain p (with_items us f)) a
          (PlainEntry (height_cont a (with_items (CatchMark c ∷ items) f)) ∷ es)
          (PlainEntry (with_items (map (with_height (height (a ++ zs))) us) (height_cont a (with_items (CatchMark c ∷ items) f)))
          ∷ es) (ap (λ l. unmarked l p (with_items (CatchMark c ∷ items) f)) k ∙ w) whole (s, o.sound) whole.inner.0
          (ap (λ l. HeightEntry (PlainEntry
          (with_items (map (with_height (height (a ++ zs))) us) (height_cont a (with_items (CatchMark c ∷ items) f)))) ∷ l) o.entries)

      go : (us : List (Item Name)) → without_marks items ≡ us → IsEntrySound p (a ++ zs) (names us) us
          → IsSettledOwn (Plain p (with_items (CatchMark c ∷ items) f) ∷ a)
          (own_free_step (map (with_height (height (a ++ zs))) us) (height_cont a (with_items (CatchMark c ∷ items) f)) es floor
          (own_free_steps floor j))
      go [] k s = woken [] refl k s
      go (GoalItem g h ∷ us) k s = woken (GoalItem g h ∷ us) refl k s
      go (CatchMark h ∷ us) k s = woken (CatchMark h ∷ us) refl k s
      go (RemovalItem h ∷ us) k s = woken (RemovalItem h ∷ us) refl k s
      go (CollectMark t s ∷ us) k i =
          let d : Entry = PlainEntry (with_items (map (with_height (height (a ++ zs))) (CollectMark t s ∷ us))
          (height_cont a (with_items (CatchMark c ∷ items) f))) in
          let stood : Own (Plain p (with_items (CollectMark t s ∷ us) f) ∷ a) (d ∷ es) = record
          { sound = (i, o.sound); inner = whole.inner; entries = ap (λ l. HeightEntry d ∷ l) o.entries } in
          let moved : Own (Plain p (with_items (without_marks items) f) ∷ a) (d ∷ es) = subst
          (λ l. Own (Plain p (with_items l f) ∷ a) (d ∷ es)) (sym k) stood in
          collects (Plain p (with_items (CatchMark c ∷ items) f)) (PlainEntry (height_cont a (with_items (CatchMark c ∷ items) f))) d s t
          a es j (ap (λ l. unmarked l p (with_items (CatchMark c ∷ items) f)) k) i.marks.0 moved whole o (next s t)

  plain-own : (items : List (Item Name)) (p : Name) (f : Continuation Name) (a : List Element) (es : List Entry) (j : ℕ)
      → Own (Plain p (with_items items f) ∷ a) (PlainEntry (height_cont a (with_items items f)) ∷ es) → Own a es → Next a es j
      → IsSettledOwn (Plain p (with_items items f) ∷ a)
      (own_free_step (map (with_height (height (a ++ zs))) (without_marks items)) (height_cont a (with_items items f)) es floor
      (own_free_steps floor j))
  plain-own [] p f a es j whole o next = stays (Plain p (with_items [] f) ∷ a) _ whole
  plain-own (GoalItem g h ∷ items) p f a es j whole o next = stays (Plain p (with_items (GoalItem g h ∷ items) f) ∷ a) _ whole
  plain-own (RemovalItem n ∷ items) p f a es j whole o next = stays (Plain p (with_items (RemovalItem n ∷ items) f) ∷ a) _ whole
  plain-own (CollectMark t s ∷ items) p f a es j whole o next = collects (Plain p (with_items (CollectMark t s ∷ items) f))
      (PlainEntry (height_cont a (with_items (CollectMark t s ∷ items) f)))
      (PlainEntry (height_cont a (with_items (CollectMark t s ∷ items) f))) s t a es j refl whole.sound.0.marks.0 whole whole o (next s t)
  plain-own (CatchMark c ∷ items) p f a es j whole o next = after_marks c items (without_marks items) p f a es j refl whole o next

  -- the first entry of each
  pub no_first : {A : Type 0} → (x : Element) (a : List Element) → suc (element_count (a ++ zs)) ≡ element_count (x ∷ (a ++ zs))
      → Own (x ∷ a) [] → A
  no_first x a s o = absurd (omega (arith, own_size (x ∷ a) [] o, s, floor_size, count-after a zs))

  pub head-is : (e d : Entry) (xs ys : List HeightElement) → ◌≡◌ {A = List HeightElement} (HeightEntry e ∷ xs) (HeightEntry d ∷ ys) → d ≡ e
  head-is e d xs ys k = cc

  pub tail-is : (x y : HeightElement) (xs ys : List HeightElement) → ◌≡◌ {A = List HeightElement} (x ∷ xs) (y ∷ ys) → xs ≡ ys
  tail-is x y xs ys k = cc

  pub no_credit : {A : Type 0} → (k : ℕ) (rs : List (ℕ × Term)) (xs : List HeightElement) (es : List Entry) → HeightCredit k rs ∷ xs
      ≡ height_entries es → A
  no_credit k rs xs [] e = absurd cc
  no_credit k rs xs (d ∷ es) e = absurd cc

  length-collected-own : (h : ℕ) (t : Term) (es : List Entry) → length (collected h t es) ≡ length es
  length-collected-own h t es = length-collected h t es

  pub later : (x : Element) (a : List Element) (e d : Entry) (es : List Entry) → IsSound (a ++ zs) → Own (x ∷ a) (e ∷ es)
      → erased (x ∷ (a ++ zs)) ≡ HeightEntry d ∷ erased (a ++ zs) → Own a es
  later x a e d es i o k = record {
    sound = i;
    inner = o.inner.1;
    entries = tail-is (HeightEntry d) (HeightEntry e) (erased (a ++ zs)) (height_entries (es ++ floor))
        (sym k ∙ o.entries);
  }

  takes_free : (n j : ℕ) (a : List Element) (es : List Entry) → length a ≤ n → length es ≤ j → Own a es
      → IsSettledOwn a (own_free_steps floor j es)
  takes_free n zero a es l c o = stays a es o
  takes_free n (suc j) [] es l c o = none es (own_size [] es o) o
    where
      none : (es : List Entry) → element_count zs ≡ length es + length floor → Own [] es → IsSettledOwn [] (own_free_steps floor (suc j) es)
      none [] s o = stays [] [] o
      none (e ∷ es) s o = absurd (omega (arith, s, floor_size))
  takes_free zero (suc j) (x ∷ a) es l c o = absurd (omega arith)
  takes_free (suc n) (suc j) (EndOf e ∷ a) es l c o =
      let rest : Own a es = record { sound = o.sound; inner = o.inner.1; entries = o.entries } in
      let r = takes_free n (suc j) a es (omega arith) c rest in (
        r.0,
        private_drops 0 (EndOf e) [] [] a r.0 refl
            (subst (λ l. Private m (is_inner_record inside) 0 [] l r.0) (sym (map-none m a)) r.1),
        r.2,
      )
  takes_free (suc n) (suc j) (Credit k rs ∷ a) es l c o = no_credit k _ (erased (a ++ zs)) (es ++ floor) o.entries
  takes_free (suc n) (suc j) (Plain p f ∷ a) [] l c o = no_first (Plain p f) a refl o
  takes_free (suc n) (suc j) (Plain p f ∷ a) (e ∷ es) l c o =
      let d : Entry = PlainEntry (height_cont a f) in
      let same : e ≡ d = head-is d e (erased (a ++ zs)) (height_entries (es ++ floor)) o.entries in
      let rest : Own a es = later (Plain p f) a e d es o.sound.1 o refl in
      let whole : Own (Plain p f ∷ a) (d ∷ es) = subst (λ x. Own (Plain p f ∷ a) (x ∷ es)) same o in
      let next : Next a es j = λ s t g. takes_free n j (map (give (s, t)) a) (collected (height (a ++ zs) s - 1 - length floor) t es)
      (omega (arith, length-map (give (s, t)) a)) (omega (arith, length-collected (height (a ++ zs) s - 1 - length floor) t es))
      g in
      subst (λ x. IsSettledOwn (Plain p f ∷ a) (own_free_steps floor (suc j) (x ∷ es))) (sym same)
      (subst (λ is. IsSettledOwn (Plain p f ∷ a) (own_free_step is (height_cont a f) es floor (own_free_steps floor j)))
      (sym (marks-heights (height (a ++ zs)) f.items)) (plain-own f.items p f a es j whole rest next))
  takes_free (suc n) (suc j) (Catch s u t r p f ∷ a) [] l c o = no_first (Catch s u t r p f) a refl o
  takes_free (suc n) (suc j) (Catch s u t r p f ∷ a) (e ∷ es) l c o =
      let d : Entry = CatchEntry t r (height_cont a f) in
      let same : e ≡ d = head-is d e (erased (a ++ zs)) (height_entries (es ++ floor)) o.entries in
      let rest : Own a es = later (Catch s u t r p f) a e d es o.sound.2 o refl in
      let q = takes_free n j a es (omega arith) (omega arith) rest in
      subst (λ x. IsSettledOwn (Catch s u t r p f ∷ a) (own_free_steps floor (suc j) (x ∷ es))) (sym same) (
        q.0,
        private_drops 0 (Catch s u t r p f) [] [] a q.0 refl
            (subst (λ l. Private m (is_inner_record inside) 0 [] l q.0) (sym (map-none m a)) q.1),
        q.2,
      )
  takes_free (suc n) (suc j) (Findall s u results list p f ∷ a) [] l c o = no_first (Findall s u results list p f) a refl o
  takes_free (suc n) (suc j) (Findall s u results list p f ∷ a) (e ∷ es) l c o =
      let d : Entry = FindallEntry results list (height_cont a f) in
      let same : e ≡ d = head-is d e (erased (a ++ zs)) (height_entries (es ++ floor)) o.entries in
      let rest : Own a es = later (Findall s u results list p f) a e d es o.sound.3 o refl in
      let eq : Term = binary (codes "=") list (list_term results) in
      let size : height (a ++ zs) u ≡ length (es ++ floor) = o.sound.1 ∙ sym (length-erased (a ++ zs)) ∙ ap length rest.entries
      ∙ length-height (es ++ floor) in
      let woken : continuation_heights (height (a ++ zs)) (results_first results list u f)
      ≡ before (GoalItem eq (length (es ++ floor)) ∷ [])
      (height_cont a f) = goals-heights (height (a ++ zs)) (height (a ++ zs)) u (length (es ++ floor)) (eq ∷ []) f size
      (sames (height (a ++ zs)) (names f.items)) in
      let entry : IsEntrySound p (a ++ zs) (u ∷ names f.items) (GoalItem eq u ∷ f.items) = record
      { carried = o.sound.0.carried; marks = (tt, o.sound.0.marks); findalls = o.sound.0.findalls } in
      let left : erased (Plain p (results_first results list u f) ∷ (a ++ zs))
      ≡ height_entries (PlainEntry (before (GoalItem eq (length (es ++ floor)) ∷ []) (height_cont a f)) ∷ (es ++ floor)) = ap
      (λ k. HeightEntry (PlainEntry k) ∷ erased (a ++ zs)) woken
      ∙ ap (λ l. HeightEntry (PlainEntry (before (GoalItem eq (length (es ++ floor)) ∷ []) (height_cont a f))) ∷ l) rest.entries in
      subst (λ x. IsSettledOwn (Findall s u results list p f ∷ a) (own_free_steps floor (suc j) (x ∷ es))) (sym same)
      (wakes (Findall s u results list p f) (Plain p (results_first results list u f)) a (e ∷ es)
      (PlainEntry (before (GoalItem eq (length (es ++ floor)) ∷ []) (height_cont a f)) ∷ es) refl o (entry, o.sound.3) o.inner.0.1
      left)
  takes_free (suc n) (suc j) (End p b ∷ a) [] l c o = no_first (End p b) a refl o
  takes_free (suc n) (suc j) (End p b ∷ a) (e ∷ es) l c o =
      let d : Entry = EndEntry b in
      let same : e ≡ d = head-is d e (erased (a ++ zs)) (height_entries (es ++ floor)) o.entries in
      subst (λ x. IsSettledOwn (End p b ∷ a) (own_free_steps floor (suc j) (x ∷ es))) (sym same)
      (stays (End p b ∷ a) (d ∷ es) (subst (λ x. Own (End p b ∷ a) (x ∷ es)) same o))

  pub own-free_taken : (a : List Element) (es : List Entry) → NamesEntries inside a zs es floor → IsSettledOwn a (own_at_rest floor es)
  own-free_taken a es o = takes_free (length a) (length es) a es (omega arith) (omega arith) o
