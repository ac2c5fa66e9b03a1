-- What is taken after credits alone.
use Rattle.std.proofs.Common.{◌≡◌, ℕ, zero, suc, ◌+◌, Bool, true, false, cond, List, [], ◌∷◌, ◌++◌, map, Some, refl, sym, ap, ◌∙◌, subst}
use Rattle.std.proofs.Common.{arith}
use Rattle.au_model.specs.Terms.Each.{Each}
use Rattle.run_model.specs.Programs.Clauses.{Clause}
use Rattle.interleaving.specs.Machine.{Machine, Infers, AsksWorld, On, Here, Put, Seek, gives, acted, placed, free_steps, step, run}
use Rattle.interleaving.specs.Machine.{is_finished}
use Rattle.interleaving.specs.Machine.{seen, Alike}
use Rattle.tree_model.specs.Elements.{Name, same, Record, Element, Credit, Plain, EndOf, Catch, Findall, End}
use Rattle.interleaving.specs.Scopes.{Shared, Sought, Scope, ElementReplacement, act, look, findall_with_result, give, scoped}
use Rattle.interleaving.specs.Segments.{IsActive, outer, found_in, search_in, Private, private_none, private_drops, private_infers}
use Rattle.interleaving.specs.Views.{IsInner}
use Rattle.interleaving.specs.Quiet.{IsQuiet, inferences, records, IsFixed, IsStill}
use Rattle.interleaving.specs.Laws.{is_inner_record, FrontGate, FrontGateInPlace, CutInPlace}
use Rattle.interleaving.proofs.RunFrontLemmas.{each-append, map-none, map-seam, some-same, none-some, ActOk, Closed, Unseen}
use Rattle.interleaving.proofs.EarlyLemmas.{Runs, early}
use Rattle.interleaving.proofs.JoinedLemmas.{runs-then, runs_step, reached, resting, credit_runs, plus}
use Rattle.interleaving.proofs.InsideStepLemmas.{any_ground, no_ground}
use Rattle.interleaving.proofs.QuietCreditLemmas.{quiet-private, map-fixed, gives-fixed, private-then}
use Rattle.interleaving.proofs.EarlyLawLemmas.{segment_pending, private_early}
use Rattle.interleaving.proofs.CreditLawLemmas.{any-all, quiet_any, quiet_alone, further}
use Rattle.interleaving.proofs.AppendLemmas.{append-nil}

module _ (clauses : List Clause) where
  abbrev m : Machine Shared Element Sought Record
  m = scoped clauses

  pub asks-fixed : (x : Element) (g : Shared → Shared × ElementReplacement) → act clauses x ≡ AsksWorld g → IsFixed x
  asks-fixed (Credit k rs) g e = tt
  asks-fixed (Plain p f) g e = tt
  asks-fixed (EndOf s) g e = tt
  asks-fixed (Catch s u c r p f) g e = tt
  asks-fixed (End p b) g e = tt
  asks-fixed (Findall s u results list p f) g e = absurd cc

  pub infers-fixed : (x : Element) (p : ElementReplacement) → act clauses x ≡ Infers p → IsFixed x
  infers-fixed (Credit k rs) g e = tt
  infers-fixed (Plain p f) g e = tt
  infers-fixed (EndOf s) g e = tt
  infers-fixed (Catch s u c r p f) g e = tt
  infers-fixed (End p b) g e = tt
  infers-fixed (Findall s u results list p f) g e = absurd cc

  -- the state where the credits are used up
  at_gate : (xs : List Element) (x : Element) (zs : List Element) (w : Shared) → IsQuiet xs → IsFixed x → IsActive (act clauses x)
      → run m (inferences xs) w (free_steps m [] (xs ++ (x ∷ zs))) ≡ (w, x ∷ map (gives m (records xs)) zs)
  at_gate xs x zs w h f a =
      let rs = records xs in
      let rest = map (gives m rs) zs in
      reached m (any_ground clauses) (inferences xs) rs xs [] (quiet_alone clauses xs h) w (x ∷ zs) (any-all (x ∷ zs))
      ∙ ap (λ y. (w, free_steps m [] (y ∷ rest))) (gives-fixed clauses rs x f)
      ∙ ap (λ l. (w, l)) (resting m (any_ground clauses) x a rest)

  pub gate_taken : (xs : List Element) (x : Element) (g : Shared → Shared × ElementReplacement) (zs : List Element) (w : Shared)
      (n : ℕ) → IsQuiet xs
      → act clauses x ≡ AsksWorld g → run m (inferences xs + suc n) w (free_steps m [] (xs ++ (x ∷ zs)))
      ≡ run m n (g w).0 (free_steps m [] (placed m (g w).1 (map (gives m (records xs)) zs)))
  gate_taken xs x g zs w n h e =
      let rest = map (gives m (records xs)) zs in
      let up : IsActive (act clauses x) = subst IsActive (sym e) tt in
      further clauses (inferences xs) (suc n) w (free_steps m [] (xs ++ (x ∷ zs)))
      ∙ ap (λ s. run m (suc n) s.0 s.1) (at_gate xs x zs w h (asks-fixed x g e) up)
      ∙ ap (λ a. run m n (acted m a w x rest).0 (acted m a w x rest).1) e

  pub front_gate : FrontGate clauses
  front_gate xs x g zs w n h e =
      let k = inferences xs in
      let v = (g w).0 in
      let p = placed m (g w).1 (map (gives m (records xs)) zs) in
      let counts : k + suc n ≡ suc k + n = omega arith in
      let one : k + 1 ≡ suc k = omega arith in
      let spent : run m (suc k) v (free_steps m [] (Credit (suc k) [] ∷ p)) ≡ (v, free_steps m [] p) = reached m (any_ground clauses)
      (suc k) [] (Credit (suc k) [] ∷ []) [] (credit_runs m (any_ground clauses) (suc k) []) v p (any-all p)
      ∙ ap (λ l. (v, free_steps m [] l)) (map-none m p) in
      let right : run m (k + suc n) v (free_steps m [] (Credit (k + 1) [] ∷ p))
      ≡ run m n v (free_steps m [] p) = ap (λ i. run m (k + suc n) v (free_steps m [] (Credit i [] ∷ p))) one
      ∙ ap (λ i. run m i v (free_steps m [] (Credit (suc k) [] ∷ p))) counts
      ∙ further clauses (suc k) n v (free_steps m [] (Credit (suc k) [] ∷ p)) ∙ ap (λ s. run m n s.0 s.1) spent in
      gate_taken xs x g zs w n h e ∙ sym right

  pub front_gate_in_place : FrontGateInPlace clauses
  front_gate_in_place xs x g ys zs w n h e put fixed =
      let k = inferences xs in
      let rs = records xs in
      let v = (g w).0 in
      let rest = map (gives m rs) zs in
      let given : map (gives m rs) (ys ++ zs) ≡ ys ++ rest = map-seam m rs ys zs ∙ ap (λ l. l ++ rest) (map-fixed clauses rs ys fixed) in
      let now : placed m (g w).1 rest ≡ ys ++ rest = ap (λ p. placed m p rest) put in
      let right : run m (k + suc n) v (free_steps m [] (xs ++ (Credit 1 [] ∷ (ys ++ zs))))
      ≡ run m n v (free_steps m [] (ys ++ rest)) = further clauses k (suc n) v (free_steps m [] (xs ++ (Credit 1 [] ∷ (ys ++ zs))))
      ∙ ap (λ s. run m (suc n) s.0 s.1) (at_gate xs (Credit 1 []) (ys ++ zs) v h tt tt)
      ∙ ap (λ l. run m n v (free_steps m [] l)) given in
      gate_taken xs x g zs w n h e ∙ ap (λ l. run m n v (free_steps m [] l)) now ∙ sym right

  -- a cut finds its scope whatever records were given
  scope_given : (h : Name) (y : Element) (r : Record) (x : Element) → look (Scope h y) (give r x) ≡ look (Scope h y) x
  scope_given h y r (Credit k rs) = refl
  scope_given h y r (Plain p f) = refl
  scope_given h y r (EndOf s) = refl
  scope_given h y r (Catch s u c t p f) = refl
  scope_given h y r (End p b) = refl
  scope_given h y r (Findall s u results list p f) = go (same r.0 s)
    where
      go : (t : Bool) → look (Scope h y) (cond t (findall_with_result r.1 s u results list p f) (Findall s u results list p f))
          ≡ On (Scope h y)
      go true = refl
      go false = refl

  scope_gives : (h : Name) (y : Element) (rs : List Record) (x : Element) → look (Scope h y) (gives m rs x) ≡ look (Scope h y) x
  scope_gives h y [] x = refl
  scope_gives h y (r ∷ rs) x = scope_gives h y rs (give r x) ∙ scope_given h y r x

  nil_tail : (a b : Element) (s : Name) (xs : List Element) (h : Name) → ◌≡◌ {A = List Element} (a ∷ EndOf s ∷ xs) (b ∷ EndOf h ∷ [])
      → xs ≡ []
  nil_tail a b s xs h e = cc

  mine : (a b : Element) (s : Name) (xs : List Element) (h : Name) → ◌≡◌ {A = List Element} (a ∷ EndOf s ∷ xs) (b ∷ EndOf h ∷ [])
      → a ∷ EndOf s ∷ [] ≡ b ∷ EndOf h ∷ []
  mine a b s xs h e = cc

  cut_given : (h : Name) (y : Element) (rs : List Record) (mid : List Element) → search_in m (Scope h y) mid ≡ Some (y ∷ EndOf h ∷ [])
      → search_in m (Scope h y) (map (gives m rs) mid) ≡ Some (y ∷ EndOf h ∷ [])
  cut_given h y rs [] e = none-some (y ∷ EndOf h ∷ []) e
  cut_given h y rs (x ∷ xs) e = ap (λ l. found_in m l (λ q. search_in m q (map (gives m rs) xs)) (map (gives m rs) xs))
      (scope_gives h y rs x) ∙ at x e (λ f. cut_given h y rs xs f)
    where
      at_end : (s : Name) (t : Bool) → found_in m (cond t (Here (y ∷ EndOf s ∷ [])) (On (Scope h y))) (λ q. search_in m q xs) xs
          ≡ Some (y ∷ EndOf h ∷ []) → (search_in m (Scope h y) xs ≡ Some (y ∷ EndOf h ∷ [])
          → search_in m (Scope h y) (map (gives m rs) xs) ≡ Some (y ∷ EndOf h ∷ []))
          → found_in m (cond t (Here (y ∷ EndOf s ∷ [])) (On (Scope h y))) (λ q. search_in m q (map (gives m rs) xs))
          (map (gives m rs) xs) ≡ Some (y ∷ EndOf h ∷ [])
      at_end s true e next =
          let whole = some-same (y ∷ EndOf s ∷ xs) (y ∷ EndOf h ∷ []) e in
          let none : map (gives m rs) xs ≡ [] = ap (map (gives m rs)) (nil_tail y y s xs h whole) in
          ap (λ l. Some (y ∷ EndOf s ∷ l)) none ∙ ap Some (mine y y s xs h whole)
      at_end s false e next = next e

      at : (x : Element) → found_in m (look (Scope h y) x) (λ q. search_in m q xs) xs ≡ Some (y ∷ EndOf h ∷ [])
          → (search_in m (Scope h y) xs ≡ Some (y ∷ EndOf h ∷ []) → search_in m (Scope h y) (map (gives m rs) xs)
          ≡ Some (y ∷ EndOf h ∷ [])) → found_in m (look (Scope h y) x) (λ q. search_in m q (map (gives m rs) xs)) (map (gives m rs) xs)
          ≡ Some (y ∷ EndOf h ∷ [])
      at (EndOf s) e next = at_end s (same h s) e next
      at (Credit k os) e next = next e
      at (Plain p f) e next = next e
      at (Catch s u c t p f) e next = next e
      at (Findall s u results list p f) e next = next e
      at (End p b) e next = next e

  each-first : (P : Element → Type 0) (xs ys : List Element) → Each P (xs ++ ys) → Each P xs
  each-first P [] ys h = tt
  each-first P (x ∷ xs) ys h = (h.0, each-first P xs ys h.1)

  each-last : (P : Element → Type 0) (xs ys : List Element) → Each P (xs ++ ys) → Each P ys
  each-last P [] ys h = h
  each-last P (x ∷ xs) ys h = each-last P xs ys h.1

  same_end : (a b : Element) (s : Name) (xs : List Element) (h : Name) → ◌≡◌ {A = List Element} (a ∷ EndOf s ∷ xs) (b ∷ EndOf h ∷ [])
      → s ≡ h
  same_end a b s xs h e = cc

  pub end_inside : (inside : Name → Bool) (h : Name) (y : Element) (mid : List Element) → search_in m (Scope h y) mid
      ≡ Some (y ∷ EndOf h ∷ []) → Each (IsInner inside) mid → inside h ≡ true
  end_inside inside h y [] e i = none-some (y ∷ EndOf h ∷ []) e
  end_inside inside h y (EndOf s ∷ xs) e i = go (same h s) e (λ f. end_inside inside h y xs f i.1)
    where
      go : (t : Bool) → found_in m (cond t (Here (y ∷ EndOf s ∷ [])) (On (Scope h y))) (λ q. search_in m q xs) xs
          ≡ Some (y ∷ EndOf h ∷ []) → (search_in m (Scope h y) xs ≡ Some (y ∷ EndOf h ∷ []) → inside h ≡ true) → inside h ≡ true
      go true e next = ap inside (sym (same_end y y s xs h (some-same (y ∷ EndOf s ∷ xs) (y ∷ EndOf h ∷ []) e))) ∙ i.0
      go false e next = next e
  end_inside inside h y (Credit k os ∷ xs) e i = end_inside inside h y xs e i.1
  end_inside inside h y (Plain p f ∷ xs) e i = end_inside inside h y xs e i.1
  end_inside inside h y (Catch s u c t p f ∷ xs) e i = end_inside inside h y xs e i.1
  end_inside inside h y (Findall s u results list p f ∷ xs) e i = end_inside inside h y xs e i.1
  end_inside inside h y (End p b ∷ xs) e i = end_inside inside h y xs e i.1

  pub cut_in_place : CutInPlace clauses
  cut_in_place inside xs p f after h pre mid zs q e found s n w =
      let k = inferences xs in
      let rs = records xs in
      let inner = is_inner_record inside in
      let y : Element = Plain p after in
      let b : List Element = y ∷ EndOf h ∷ [] in
      let first = quiet-private clauses inner xs (Plain p f ∷ mid) q in
      let first_at : map (gives m rs) (Plain p f ∷ mid) ≡ Plain p f ∷ map (gives m rs) mid = ap (λ x. x ∷ map (gives m rs) mid)
      (gives-fixed clauses rs (Plain p f) tt) in
      let step_one : Private m inner 1 [] (Plain p f ∷ map (gives m rs) mid) b = private_infers 0 (Plain p f) (Seek (Scope h y)) []
      (map (gives m rs) mid) b b e (cut_given h y rs mid found) (private_none b) in
      let old = private-then m inner 1 k (outer inner rs) [] (xs ++ (Plain p f ∷ mid)) (Plain p f ∷ map (gives m rs) mid) b
      (subst (Private m inner k (outer inner rs) (xs ++ (Plain p f ∷ mid))) first_at first) step_one in
      let second = quiet-private clauses inner xs (Credit 1 [] ∷ b) q in
      let second_at : map (gives m rs) (Credit 1 [] ∷ b) ≡ Credit 1 [] ∷ b = map-fixed clauses rs (Credit 1 [] ∷ b) (tt, (tt, (tt, tt))) in
      let spent : Private m inner 1 [] (Credit 1 [] ∷ b) b = private_infers 0 (Credit 1 []) (Put (Credit 0 [] ∷ [])) [] b
      (Credit 0 [] ∷ b) b refl refl (private_drops 0 (Credit 0 []) [] [] b b refl
      (subst (λ l. Private m inner 0 [] l b) (sym (map-none m b)) (private_none b))) in
      let new = private-then m inner 1 k (outer inner rs) [] (xs ++ (Credit 1 [] ∷ b)) (Credit 1 [] ∷ b) b
      (subst (Private m inner k (outer inner rs) (xs ++ (Credit 1 [] ∷ b))) second_at second) spent in
      let own_xs = each-first (IsInner inside) xs (Plain p f ∷ mid) s.own in
      let own_x = each-last (IsInner inside) xs (Plain p f ∷ mid) s.own in
      let own_end : inside h ≡ true = end_inside inside h y mid found own_x.1 in
      private_early clauses inside (k + 1) (outer inner rs ++ []) pre (xs ++ (Plain p f ∷ mid)) b zs
      (segment_pending clauses inside pre (xs ++ (Plain p f ∷ mid)) zs s) old n w
      ∙ sym (private_early clauses inside (k + 1) (outer inner rs ++ []) pre (xs ++ (Credit 1 [] ∷ b)) b zs
      (record {
        grown = s.grown;
        front = s.front;
        own = each-append (IsInner inside) xs (Credit 1 [] ∷ b) own_xs
            (tt, (own_x.0, (own_end, tt)));
        under = s.under;
      }) new n w)

  -- what is in front sees nothing
  abbrev NoSearch : Sought → Type 0
  NoSearch q = ⊥

  abbrev NoRecord : Record → Type 0
  NoRecord r = ⊥

  still-acts : (x : Element) → IsStill x → ActOk m IsStill NoSearch NoRecord (act clauses x)
  still-acts (Credit zero []) h = tt
  still-acts (Credit (suc k) []) h = (tt, tt)
  still-acts (Credit k (r ∷ rs)) h = absurd h
  still-acts (EndOf s) h = tt
  still-acts (Catch s u c r p f) h = absurd h
  still-acts (Plain p f) h = absurd h
  still-acts (Findall s u results list p f) h = absurd h
  still-acts (End p b) h = absurd h

  still_closed : Closed m IsStill NoSearch NoRecord
  still_closed = record { acts = still-acts; looks = λ q x h k. absurd h; given = λ r x h k. absurd h }

  all-unseen : (xs : List Element) → Each (Unseen m IsStill NoSearch NoRecord) xs
  all-unseen [] = tt
  all-unseen (x ∷ xs) = (record { passed = λ q h. absurd h; kept = λ r h. absurd h }, all-unseen xs)

  -- with nothing under a segment no record matters
  runs_only : (k : ℕ) (rs : List Record) (a b : List Element) → Runs m (any_ground clauses) k rs a b → Runs m (no_ground clauses) k [] a b
  runs_only zero rs a b h = go
    where
      go : (zs : List Element) → Each (λ x. ⊥) zs → free_steps m [] (a ++ zs) ≡ free_steps m [] (b ++ map (gives m []) zs)
      go [] z = h [] tt
      go (x ∷ xs) z = absurd z.0
  runs_only (suc k) rs a b h = (h.0, [], [], refl, over, steps, runs_only k h.2 h.0 b h.6)
    where
      over : (zs : List Element) → Each (λ x. ⊥) zs → is_finished (free_steps m [] (a ++ zs)) ≡ false
      over [] z = h.4 [] tt
      over (x ∷ xs) z = absurd z.0

      steps : (w : Shared) (zs : List Element) → Each (λ x. ⊥) zs → step m w (free_steps m [] (a ++ zs))
          ≡ (w, free_steps m [] (h.0 ++ map (gives m []) zs))
      steps w [] z = h.5 w [] tt
      steps w (x ∷ xs) z = absurd z.0

  plus-is : (k j : ℕ) → plus m (no_ground clauses) k j ≡ k + j
  plus-is zero j = omega arith
  plus-is (suc k) j = (let e : suc (k + j) ≡ suc k + j = omega arith in ap suc (plus-is k j) ∙ e)

  pub front_alike : (xs : List Element) (x : Element) (p : ElementReplacement) (pre mid : List Element) → Each IsStill pre → IsQuiet xs
      → act clauses x ≡ Infers p → Alike m (pre ++ (xs ++ (x ∷ mid)))
      (pre ++ (Credit (inferences xs + 1) [] ∷ placed m p (map (gives m (records xs)) mid)))
  front_alike xs x p pre mid still q e n w =
      let k = inferences xs in
      let rs = records xs in
      let rest = map (gives m rs) mid in
      let left = placed m p rest in
      let fixed : map (gives m rs) (x ∷ mid) ≡ x ∷ rest = ap (λ y. y ∷ rest) (gives-fixed clauses rs x (infers-fixed x p e)) in
      let first : Runs m (no_ground clauses) k [] (xs ++ (x ∷ mid)) (x ∷ rest) = runs_only k rs (xs ++ (x ∷ mid)) (x ∷ rest)
      (subst (Runs m (any_ground clauses) k rs (xs ++ (x ∷ mid))) fixed (quiet_any clauses xs (x ∷ mid) q)) in
      let second : Runs m (no_ground clauses) 1 [] (x ∷ rest) left = runs_step m (no_ground clauses) x rest left p e
      (alone rest left p refl) in
      let both : Runs m (no_ground clauses) (k + 1) [] (xs ++ (x ∷ mid)) left = subst
      (λ i. Runs m (no_ground clauses) i [] (xs ++ (x ∷ mid)) left) (plus-is k 1)
      (runs-then m (no_ground clauses) k 1 [] [] (xs ++ (x ∷ mid)) (x ∷ rest) left first second) in
      let whole = early m (no_ground clauses) IsStill NoSearch NoRecord still_closed (k + 1) [] (xs ++ (x ∷ mid)) left
      (record { runs = both; own = map-none m left; old = all-unseen (xs ++ (x ∷ mid)); new = all-unseen left }) pre [] still tt n
      w in
      ap (λ l. seen (run m n w (free_steps m [] (pre ++ l)))) (sym (append-nil (xs ++ (x ∷ mid)))) ∙ whole
      ∙ ap (λ l. seen (run m n w (free_steps m [] (pre ++ (Credit (k + 1) [] ∷ l))))) (append-nil left)
    where
      alone : (rest left : List Element) (p : ElementReplacement) → placed m p rest ≡ left → (zs : List Element) → Each (λ z. ⊥) zs
          → placed m p (rest ++ zs) ≡ left ++ zs
      alone rest left p h [] z = ap (placed m p) (append-nil rest) ∙ h ∙ sym (append-nil left)
      alone rest left p h (y ∷ ys) z = absurd z.0

  pub given_alike : (xs pre zs : List Element) → Each IsStill pre → IsQuiet xs
      → Alike m (pre ++ (xs ++ zs)) (pre ++ (Credit (inferences xs) [] ∷ map (gives m (records xs)) zs))
  given_alike xs pre zs still q n w =
      let k = inferences xs in
      let rest = map (gives m (records xs)) zs in
      let first : Runs m (no_ground clauses) k [] (xs ++ zs) rest = runs_only k (records xs) (xs ++ zs) rest (quiet_any clauses xs zs q) in
      let whole = early m (no_ground clauses) IsStill NoSearch NoRecord still_closed k [] (xs ++ zs) rest
      (record { runs = first; own = map-none m rest; old = all-unseen (xs ++ zs); new = all-unseen rest }) pre [] still tt n w in
      ap (λ l. seen (run m n w (free_steps m [] (pre ++ l)))) (sym (append-nil (xs ++ zs))) ∙ whole
      ∙ ap (λ l. seen (run m n w (free_steps m [] (pre ++ (Credit k [] ∷ l))))) (append-nil rest)
