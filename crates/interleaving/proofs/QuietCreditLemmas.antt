-- Private runs put together, and those of credits.
use Rattle.std.proofs.Common.{◌≡◌, ℕ, zero, suc, ◌+◌, Bool, true, false, cond, List, [], ◌∷◌, ◌++◌, map, refl, sym, ap, ◌∙◌, subst, arith}
use Rattle.au_model.specs.Terms.Each.{Each}
use Rattle.run_model.specs.Programs.Clauses.{Clause}
use Rattle.interleaving.specs.Machine.{Machine, Put, gives}
use Rattle.tree_model.specs.Elements.{Record, Element, Credit, Plain, EndOf, Catch, Findall, End}
use Rattle.interleaving.specs.Scopes.{give, scoped}
use Rattle.interleaving.specs.Segments.{outer, Private, private_none, private_drops, private_remains, private_changes, private_infers}
use Rattle.interleaving.specs.Quiet.{IsQuiet, inferences, records, IsFixed}
use Rattle.interleaving.proofs.RunFrontLemmas.{each-append, maps-append, map-seam, map-none}
use Rattle.interleaving.proofs.AloneLemmas.{outer-append}
use Rattle.interleaving.proofs.AppendLemmas.{append-assoc}

-- one private run after another
pub private-then : {W X Q R : Type 0} → (m : Machine W X Q R) (inner : R → Bool) (j k : ℕ) (rs qs : List R) (a s b : List X)
    → Private m inner k rs a s → Private m inner j qs s b → Private m inner (k + j) (rs ++ qs) a b
private-then m inner j k rs qs a s b (private_none t) h = let same : j ≡ 0 + j = omega arith in subst (λ n. Private m inner n qs s b) same h
private-then m inner j k rs qs a s b (private_drops i x new os xs t e r) h =
    subst (λ l. Private m inner (i + j) l (x ∷ xs) b) (sym (append-assoc (outer inner new) os qs))
    (private_drops (i + j) x new (os ++ qs) xs b e (private-then m inner j i os qs (map (gives m new) xs) s b r h))
private-then m inner j k rs qs a s b (private_remains i x new os xs t e f r) h = private_remains (i + j) x new (os ++ qs) xs b e f
    (private-then m inner j i os qs (m.stands x ∷ xs) s b r h)
private-then m inner j k rs qs a s b (private_changes i x y os xs t e r) h = private_changes (i + j) x y (os ++ qs) xs b e
    (private-then m inner j i os qs (y ∷ xs) s b r h)
private-then m inner j k rs qs a s b (private_infers i x p os xs t u e f r) h =
    let same : suc (i + j) ≡ suc i + j = omega arith in
    subst (λ n. Private m inner n (os ++ qs) (x ∷ xs) b) same
    (private_infers (i + j) x p (os ++ qs) xs t b e f (private-then m inner j i os qs t s b r h))

-- records that leave a segment are not its own
outer-apart : {R : Type 0} → (inner : R → Bool) (new : List R) → Each (λ o. inner o ≡ false) (outer inner new)
outer-apart inner [] = tt
outer-apart {R = R} inner (o ∷ new) = go (inner o) refl (outer-apart inner new)
  where
    go : (t : Bool) → inner o ≡ t → Each (λ u. inner u ≡ false) (outer inner new)
        → Each (λ u. inner u ≡ false) (cond t (outer inner new) (o ∷ outer inner new))
    go true e h = h
    go false e h = (e, h)

pub private-outer : {W X Q R : Type 0} → (m : Machine W X Q R) (inner : R → Bool) (k : ℕ) (rs : List R) (a b : List X)
    → Private m inner k rs a b → Each (λ r. inner r ≡ false) rs
private-outer m inner k rs a b (private_none t) = tt
private-outer m inner k rs a b (private_drops i x new os xs t e r) = each-append (λ o. inner o ≡ false) (outer inner new) os
    (outer-apart inner new) (private-outer m inner i os (map (gives m new) xs) b r)
private-outer m inner k rs a b (private_remains i x new os xs t e f r) = private-outer m inner i os (m.stands x ∷ xs) b r
private-outer m inner k rs a b (private_changes i x y os xs t e r) = private-outer m inner i os (y ∷ xs) b r
private-outer m inner k rs a b (private_infers i x p os xs t u e f r) = private-outer m inner i os t b r

pub outer-all : {R : Type 0} → (rs : List R) → outer (λ r. false) rs ≡ rs
outer-all [] = refl
outer-all (r ∷ rs) = ap (λ l. r ∷ l) (outer-all rs)

-- what records don't change
pub give-fixed : (r : Record) (x : Element) → IsFixed x → give r x ≡ x
give-fixed r (Credit k rs) h = refl
give-fixed r (Plain p f) h = refl
give-fixed r (EndOf s) h = refl
give-fixed r (Catch s u c t p f) h = refl
give-fixed r (End p b) h = refl
give-fixed r (Findall s u results list p f) h = absurd h

module _ (clauses : List Clause) where
  pub gives-fixed : (rs : List Record) (x : Element) → IsFixed x → gives (scoped clauses) rs x ≡ x
  gives-fixed [] x h = refl
  gives-fixed (r ∷ rs) x h = ap (gives (scoped clauses) rs) (give-fixed r x h) ∙ gives-fixed rs x h

  pub map-fixed : (rs : List Record) (xs : List Element) → Each IsFixed xs → map (gives (scoped clauses) rs) xs ≡ xs
  map-fixed rs [] h = refl
  map-fixed rs (x ∷ xs) h = let head = gives-fixed rs x h.0 in let tail = map-fixed rs xs h.1 in cc

  pub quiet-fixed : (xs : List Element) → IsQuiet xs → Each IsFixed xs
  quiet-fixed [] h = tt
  quiet-fixed (Credit k rs ∷ xs) h = (tt, quiet-fixed xs h)
  quiet-fixed (EndOf s ∷ xs) h = (tt, quiet-fixed xs h)
  quiet-fixed (Catch s u c r p f ∷ xs) h = (tt, quiet-fixed xs h)
  quiet-fixed (Plain p f ∷ xs) h = absurd h
  quiet-fixed (Findall s u results list p f ∷ xs) h = absurd h
  quiet-fixed (End p b ∷ xs) h = absurd h

  -- credits in front of anything
  credit-private : (inner : Record → Bool) (k j : ℕ) (rs qs : List Record) (xs b : List Element)
      → Private (scoped clauses) inner j qs (map (gives (scoped clauses) rs) xs) b
      → Private (scoped clauses) inner (k + j) (outer inner rs ++ qs) (Credit k rs ∷ xs) b
  credit-private inner zero j rs qs xs b h = let same : j
      ≡ 0 + j = omega arith in subst (λ n. Private (scoped clauses) inner n (outer inner rs ++ qs) (Credit 0 rs ∷ xs) b) same
      (private_drops j (Credit 0 rs) rs qs xs b refl h)
  credit-private inner (suc k) j rs qs xs b h =
      let same : suc (k + j) ≡ suc k + j = omega arith in
      subst (λ n. Private (scoped clauses) inner n (outer inner rs ++ qs) (Credit (suc k) rs ∷ xs) b) same
      (private_infers (k + j) (Credit (suc k) rs) (Put (Credit k rs ∷ [])) (outer inner rs ++ qs) xs (Credit k rs ∷ xs) b refl refl
      (credit-private inner k j rs qs xs b h))

  pub quiet-private : (inner : Record → Bool) (xs c : List Element) → IsQuiet xs → Private (scoped clauses) inner (inferences xs)
      (outer inner (records xs)) (xs ++ c) (map (gives (scoped clauses) (records xs)) c)
  quiet-private inner [] c h = subst (Private (scoped clauses) inner zero [] c) (sym (map-none (scoped clauses) c)) (private_none c)
  quiet-private inner (EndOf s ∷ xs) c h =
      private_drops (inferences xs) (EndOf s) [] (outer inner (records xs)) (xs ++ c) (map (gives (scoped clauses) (records xs)) c) refl
      (subst (λ l. Private (scoped clauses) inner (inferences xs) (outer inner (records xs)) l
      (map (gives (scoped clauses) (records xs)) c)) (sym (map-none (scoped clauses) (xs ++ c))) (quiet-private inner xs c h))
  quiet-private inner (Catch s u t r p f ∷ xs) c h =
      private_drops (inferences xs) (Catch s u t r p f) [] (outer inner (records xs)) (xs ++ c)
      (map (gives (scoped clauses) (records xs)) c) refl
      (subst (λ l. Private (scoped clauses) inner (inferences xs) (outer inner (records xs)) l
      (map (gives (scoped clauses) (records xs)) c)) (sym (map-none (scoped clauses) (xs ++ c))) (quiet-private inner xs c h))
  quiet-private inner (Plain p f ∷ xs) c h = absurd h
  quiet-private inner (Findall s u results list p f ∷ xs) c h = absurd h
  quiet-private inner (End p b ∷ xs) c h = absurd h
  quiet-private inner (Credit k rs ∷ xs) c h =
      let m = scoped clauses in
      let given = map (gives m rs) c in
      let through : map (gives m rs) (xs ++ c) ≡ xs ++ given = map-seam m rs xs c
      ∙ ap (λ l. l ++ given) (map-fixed rs xs (quiet-fixed xs h)) in
      let later : Private m inner (inferences xs) (outer inner (records xs)) (map (gives m rs) (xs ++ c))
      (map (gives m (records xs)) given) = subst
      (λ l. Private m inner (inferences xs) (outer inner (records xs)) l (map (gives m (records xs)) given)) (sym through)
      (quiet-private inner xs given h) in
      let whole = credit-private inner k (inferences xs) rs (outer inner (records xs)) (xs ++ c) (map (gives m (records xs)) given) later in
      subst (λ l. Private m inner (k + inferences xs) l (Credit k rs ∷ (xs ++ c)) (map (gives m (rs ++ records xs)) c))
      (sym (outer-append inner rs (records xs)))
      (subst (Private m inner (k + inferences xs) (outer inner rs ++ outer inner (records xs)) (Credit k rs ∷ (xs ++ c)))
      (sym (maps-append m rs (records xs) c)) whole)
