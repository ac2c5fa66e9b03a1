-- What is done early leaves a list with sound names.
use Rattle.std.proofs.Common.{◌≡◌, ℕ, ◌+◌, ◌<◌, Bool, true, false, cond, List, [], ◌∷◌, ◌++◌, map, length-append, refl, sym, ap, ◌∙◌}
use Rattle.std.proofs.Common.{subst, arith}
use Rattle.std.proofs.lemmas.Bool.{false≢true}
use Rattle.au_term.specs.Term.{Term}
use Rattle.au_model.specs.Terms.Each.{Each}
use Rattle.run_model.specs.Programs.Clauses.{Clause}
use Rattle.run_model.specs.Machine.Items.{Continuation}
use Rattle.interleaving.specs.Machine.{Machine, AsksWorld, Seek, gives, placed}
use Rattle.tree_model.specs.Elements.{Name, Record, Element, Credit, Plain, EndOf, Catch, Findall, End}
use Rattle.interleaving.specs.Scopes.{Shared, Sought, Scope, Does, act, give, scoped}
use Rattle.interleaving.specs.Segments.{outer, Private, private_none, private_drops, private_remains, private_changes, private_infers}
use Rattle.interleaving.specs.Erased.{from, element_count}
use Rattle.interleaving.specs.Views.{IsGrown, IsApart, IsInner, IsUnder}
use Rattle.interleaving.specs.Laws.{is_inner_record, IsSegment}
use Rattle.interleaving.specs.Sound.{IsGathered, EachFindall, IsSound}
use Rattle.interleaving.specs.Quiet.{records}
use Rattle.interleaving.specs.Readings.{SoundExchange, SoundCut, SoundGate, SoundGateInPlace}
use Rattle.interleaving.proofs.RunFrontLemmas.{each-append, PlaceOk, ActOk}
use Rattle.interleaving.proofs.JoinedLemmas.{placed-within}
use Rattle.interleaving.proofs.ApartLemmas.{inner-preserves}
use Rattle.interleaving.proofs.InsideLemmas.{preserved_inside, inner_closed, under_ground, IsSoughtInner, IsAnyRecord}
use Rattle.interleaving.proofs.InsideStepLemmas.{inner_stands}
use Rattle.interleaving.proofs.NamingLemmas.{from_end}
use Rattle.interleaving.proofs.CarriedLemmas.{gathered-moved}
use Rattle.interleaving.proofs.PreservedLemmas.{sound-tail}
use Rattle.interleaving.proofs.GivenRecordLemmas.{sound-given}
use Rattle.interleaving.proofs.GivenHeightLemmas.{gives-next, sound-gives}
use Rattle.interleaving.proofs.QuietCreditLemmas.{private-outer, gives-fixed}
use Rattle.interleaving.proofs.CreditLawLemmas.{blind_none}
use Rattle.interleaving.proofs.FrontLawLemmas.{asks-fixed, end_inside}
use Rattle.interleaving.proofs.EarlyLawLemmas.{private_inner}
use Rattle.interleaving.proofs.SoundStepLemmas.{infers-sound, becomes-sound, drops-gathered, asks-sound, stands-sound, AllGathered}
use Rattle.interleaving.proofs.SeamLemmas.{AreAlike, front-sound}

-- ends of scopes inside are passed by a scope that is not
pub from-inner : (inside : Name → Bool) (xs zs : List Element) (s : Name) → Each (IsInner inside) xs → IsApart inside s
    → from (xs ++ zs) s ≡ from zs s
from-inner inside [] zs s h a = refl
from-inner inside (EndOf e ∷ xs) zs s h a = from_end e s (xs ++ zs) (λ k. false≢true (sym a ∙ ap inside k ∙ h.0))
    ∙ from-inner inside xs zs s h.1 a
from-inner inside (Credit k rs ∷ xs) zs s h a = from-inner inside xs zs s h.1 a
from-inner inside (Plain p f ∷ xs) zs s h a = from-inner inside xs zs s h.1 a
from-inner inside (Catch e u c r p f ∷ xs) zs s h a = from-inner inside xs zs s h.1 a
from-inner inside (Findall e u results list p f ∷ xs) zs s h a = from-inner inside xs zs s h.1 a
from-inner inside (End p b ∷ xs) zs s h a = from-inner inside xs zs s h.1 a

pub sound-after : (xs zs : List Element) → IsSound (xs ++ zs) → IsSound zs
sound-after [] zs h = h
sound-after (x ∷ xs) zs h = sound-after xs zs (sound-tail x (xs ++ zs) h)

module _ (clauses : List Clause) where
  abbrev m : Machine Shared Element Sought Record
  m = scoped clauses

  module _ (inside : Name → Bool) (grown : IsGrown inside) (zs : List Element) (under : Each (IsUnder inside) zs) where
    pub preserved-zs : (r : Record) → inside r.0 ≡ true → (zs : List Element) → Each (IsUnder inside) zs → map (give r) zs ≡ zs
    preserved-zs r i [] h = refl
    preserved-zs r i (z ∷ zs) h = let head = preserved_inside clauses inside r i z h.0 in let tail = preserved-zs r i zs h.1 in cc

    preserved-xs : (r : Record) → inside r.0 ≡ false → (xs : List Element) → Each (IsInner inside) xs → map (give r) xs ≡ xs
    preserved-xs r i [] h = refl
    preserved-xs r i (x ∷ xs) h = let head = inner-preserves clauses inside r x h.0 i in let tail = preserved-xs r i xs h.1 in cc

    pub map-append : (r : Record) (xs ys : List Element) → map (give r) (xs ++ ys) ≡ map (give r) xs ++ map (give r) ys
    map-append r [] ys = refl
    map-append r (x ∷ xs) ys = ap (λ l. give r x ∷ l) (map-append r xs ys)

    pub inner-given : (r : Record) (xs : List Element) → Each (IsInner inside) xs → Each (IsInner inside) (map (give r) xs)
    inner-given r [] h = tt
    inner-given r (x ∷ xs) h = ((inner_closed clauses inside grown).given r x tt h.0, inner-given r xs h.1)

    -- a record given to the segment alone
    pub part-given : (r : Record) (xs : List Element) → Each (IsInner inside) xs → IsSound (xs ++ zs) → IsSound (map (give r) xs ++ zs)
    part-given r xs h i = go (inside r.0) refl
      where
        go : (t : Bool) → inside r.0 ≡ t → IsSound (map (give r) xs ++ zs)
        go true e = subst IsSound (map-append r xs zs ∙ ap (λ l. map (give r) xs ++ l) (preserved-zs r e zs under))
            (sound-given r (xs ++ zs) i)
        go false e = subst (λ l. IsSound (l ++ zs)) (sym (preserved-xs r e xs h)) i

    parts-given : (rs : List Record) (xs : List Element) → Each (IsInner inside) xs → IsSound (xs ++ zs)
        → IsSound (map (gives m rs) xs ++ zs) × Each (IsInner inside) (map (gives m rs) xs)
    parts-given [] xs h i = let same : map (gives m []) xs
        ≡ xs = none xs in (subst (λ l. IsSound (l ++ zs)) (sym same) i, subst (Each (IsInner inside)) (sym same) h)
      where
        none : (xs : List Element) → map (gives m []) xs ≡ xs
        none [] = refl
        none (x ∷ xs) = ap (λ l. x ∷ l) (none xs)
    parts-given (r ∷ rs) xs h i =
        let next = parts-given rs (map (give r) xs) (inner-given r xs h) (part-given r xs h i) in (
          subst (λ l. IsSound (l ++ zs)) (sym (gives-next clauses r rs xs)) next.0,
          subst (Each (IsInner inside))
              (sym (gives-next clauses r rs xs)) next.1,
        )

    abbrev InnerAct : Does → Type 0
    InnerAct a = ActOk m (IsInner inside) (IsSoughtInner clauses inside) (IsAnyRecord clauses inside) a

    -- the records that leave are gathered under the segment
    gathered-under : (xs : List Element) (new : List Record) → Each (IsInner inside) xs → AllGathered clauses (xs ++ zs) new
        → AllGathered clauses zs (outer (is_inner_record inside) new)
    gathered-under xs [] h g = tt
    gathered-under xs (r ∷ new) h g = go (inside r.0) refl (gathered-under xs new h g.1)
      where
        go : (t : Bool) → inside r.0 ≡ t → AllGathered clauses zs (outer (is_inner_record inside) new)
            → AllGathered clauses zs (cond t (outer (is_inner_record inside) new) (r ∷ outer (is_inner_record inside) new))
        go true e k = k
        go false e k = (gathered-moved (xs ++ zs) zs r.0 (sym (from-inner inside xs zs r.0 h e)) g.0, k)

    pub private-sound : (k : ℕ) (rs : List Record) (a b : List Element) → Private m (is_inner_record inside) k rs a b
        → Each (IsInner inside) a → IsSound (a ++ zs) → IsSound (b ++ zs) × AllGathered clauses zs rs
    private-sound k rs a b (private_none t) h i = (i, tt)
    private-sound k rs a b (private_drops j x new os xs t e r) h i =
        let given = parts-given new xs h.1 (sound-tail x (xs ++ zs) i) in
        let next = private-sound j os (map (gives m new) xs) b r given.1 given.0 in (
          next.0,
          each-append (λ o. IsGathered zs o.0) (outer (is_inner_record inside) new) os
              (gathered-under xs new h.1 (drops-gathered clauses x (xs ++ zs) new e i)) next.1,
        )
    private-sound k rs a b (private_remains j x new os xs t e f r) h i = private-sound j os (m.stands x ∷ xs) b r
        (inner_stands inside x h.0, h.1) (stands-sound clauses x (xs ++ zs) i)
    private-sound k rs a b (private_changes j x y os xs t e r) h i =
        private-sound j os (y ∷ xs) b r (subst InnerAct e ((inner_closed clauses inside grown).acts x h.0), h.1)
        (becomes-sound clauses x y (xs ++ zs) e i)
    private-sound k rs a b (private_infers j x p os xs t u e f r) h i =
        private-sound j os t b r (private_inner clauses inside 1 [] (x ∷ xs) t grown h
        (private_infers 0 x p [] xs t t e f (private_none t)))
        (subst IsSound (placed-within m (under_ground clauses inside) p xs t zs f) (infers-sound clauses x p (xs ++ zs) e i))

  findalls-after : (P : Name → Type 0) (xs zs : List Element) → EachFindall P (xs ++ zs) → EachFindall P zs
  findalls-after P [] zs h = h
  findalls-after P (EndOf e ∷ xs) zs h = findalls-after P xs zs h
  findalls-after P (Credit k rs ∷ xs) zs h = findalls-after P xs zs h
  findalls-after P (Plain p g ∷ xs) zs h = findalls-after P xs zs h
  findalls-after P (Catch e u c r p g ∷ xs) zs h = findalls-after P xs zs h
  findalls-after P (Findall e u results list p g ∷ xs) zs h = findalls-after P xs zs h.1
  findalls-after P (End p b ∷ xs) zs h = findalls-after P xs zs h

  findalls-inner : (inside : Name → Bool) (P : Name → Type 0) → ((e : Name) → inside e ≡ true → P e) → (xs zs : List Element)
      → Each (IsInner inside) xs → EachFindall P zs → EachFindall P (xs ++ zs)
  findalls-inner inside P f [] zs h k = k
  findalls-inner inside P f (EndOf e ∷ xs) zs h k = findalls-inner inside P f xs zs h.1 k
  findalls-inner inside P f (Credit j rs ∷ xs) zs h k = findalls-inner inside P f xs zs h.1 k
  findalls-inner inside P f (Plain p g ∷ xs) zs h k = findalls-inner inside P f xs zs h.1 k
  findalls-inner inside P f (Catch e u c r p g ∷ xs) zs h k = findalls-inner inside P f xs zs h.1 k
  findalls-inner inside P f (Findall e u results list p g ∷ xs) zs h k = (f e h.0.0, findalls-inner inside P f xs zs h.1 k)
  findalls-inner inside P f (End p b ∷ xs) zs h k = findalls-inner inside P f xs zs h.1 k

  pub all-gathered : (inside : Name → Bool) (b zs : List Element) (rs : List Record) → Each (IsInner inside) b
      → Each (λ r. inside r.0 ≡ false) rs → AllGathered clauses zs rs → AllGathered clauses (b ++ zs) rs
  all-gathered inside b zs [] h o g = tt
  all-gathered inside b zs (r ∷ rs) h o g =
      (gathered-moved zs (b ++ zs) r.0 (from-inner inside b zs r.0 h o.0) g.0, all-gathered inside b zs rs h o.1 g.1)

  alike_lists : (inside : Name → Bool) (a b zs : List Element) → 0 < element_count a → Each (IsInner inside) a → Each (IsInner inside) b
      → IsSound (b ++ zs) → AreAlike inside (a ++ zs) (b ++ zs) zs
  alike_lists inside a b zs some own inner i = record {
    old = λ s h. from-inner inside a zs s own h;
    new = λ s h. from-inner inside b zs s inner h;
    short = omega (arith, length-append a zs);
    fewer = omega (arith, count-after a zs);
    no_catch = λ s u c r p f t h e. first_catch a own some s u c r p f t h e;
    no_findall = λ s u results list p f t h e. first_findall a own some s u results list p f t h e;
    findalls = λ P f h. findalls-inner inside P f b zs inner (findalls-after P a zs h);
    sound = i;
  }
    where
      count-after : (xs ls : List Element) → element_count (xs ++ ls) ≡ element_count xs + element_count ls
      count-after [] ls = omega arith
      count-after (EndOf e ∷ xs) ls = count-after xs ls
      count-after (Credit k rs ∷ xs) ls = omega (arith, count-after xs ls)
      count-after (Plain p f ∷ xs) ls = omega (arith, count-after xs ls)
      count-after (Catch e u c r p f ∷ xs) ls = omega (arith, count-after xs ls)
      count-after (Findall e u results list p f ∷ xs) ls = omega (arith, count-after xs ls)
      count-after (End p b ∷ xs) ls = omega (arith, count-after xs ls)

      first_catch : (a : List Element) → Each (IsInner inside) a → 0 < element_count a
          → (s u : Name) (c r : Term) (p : Name) (f : Continuation Name) (t : List Element) → IsApart inside s → a ++ zs
          ≡ Catch s u c r p f ∷ t → ⊥
      first_catch [] own some s u c r p f t h e = absurd (omega arith)
      first_catch (x ∷ xs) own some s u c r p f t h e =
          let here : x ≡ Catch s u c r p f = cc in
          false≢true (sym h ∙ (subst (IsInner inside) here own.0).0)

      first_findall : (a : List Element) → Each (IsInner inside) a → 0 < element_count a → (s u : Name) (results : List Term) (list : Term)
          (p : Name) (f : Continuation Name) (t : List Element) → IsApart inside s → a ++ zs ≡ Findall s u results list p f ∷ t → ⊥
      first_findall [] own some s u results list p f t h e = absurd (omega arith)
      first_findall (x ∷ xs) own some s u results list p f t h e =
          let here : x ≡ Findall s u results list p f = cc in
          false≢true (sym h ∙ (subst (IsInner inside) here own.0).0)

  pub sound_exchange : SoundExchange
  sound_exchange inside pre a b zs front own inner some i j = front-sound inside (a ++ zs) (b ++ zs) zs
      (alike_lists inside a b zs some own inner j) pre front i

  -- after a private run
  pub sound_private : (inside : Name → Bool) (k : ℕ) (rs : List Record) (pre a b zs : List Element) → IsSegment inside pre a zs
      → Private m (is_inner_record inside) k rs a b → IsSound (pre ++ (a ++ zs)) → IsSound (pre ++ (Credit k rs ∷ (b ++ zs)))
  sound_private inside k rs pre a b zs s r i =
      let behind = private-sound inside s.grown zs s.under k rs a b r s.own (sound-after pre (a ++ zs) i) in
      let inner = private_inner clauses inside k rs a b s.grown s.own r in
      let new : IsSound (Credit k rs ∷ (b ++ zs)) =
      (all-gathered inside b zs rs inner (private-outer m (is_inner_record inside) k rs a b r) behind.1, behind.0) in
      sound_exchange inside pre a (Credit k rs ∷ b) zs s.front s.own (tt, inner) s.some i new

  pub sound_cut : SoundCut clauses
  sound_cut inside p f after h pre mid zs s e found i =
      let y : Element = Plain p after in
      let left : IsSound ((y ∷ EndOf h ∷ []) ++ zs) = subst IsSound
      (placed-within m (under_ground clauses inside) (Seek (Scope h y)) mid (y ∷ EndOf h ∷ []) zs found)
      (infers-sound clauses (Plain p f) (Seek (Scope h y)) (mid ++ zs) e (sound-after pre ((Plain p f ∷ mid) ++ zs) i)) in
      sound_exchange inside pre (Plain p f ∷ mid) (Credit 1 [] ∷ y ∷ EndOf h ∷ []) zs s.front s.own
      (tt, (s.own.0, (end_inside clauses inside h y mid found s.own.1, tt))) (omega arith) i (tt, left)

  gathered-both : (zs : List Element) (rs qs : List Record) → AllGathered clauses zs rs → AllGathered clauses zs qs
      → AllGathered clauses zs (rs ++ qs)
  gathered-both zs rs qs h k = each-append (λ o. IsGathered zs o.0) rs qs h k

  gathered-past : (j k : ℕ) (qs : List Record) (zs : List Element) (rs : List Record) → AllGathered clauses (Credit k qs ∷ zs) rs
      → AllGathered clauses zs rs
  gathered-past j k qs zs [] h = tt
  gathered-past j k qs zs (o ∷ rs) h = (gathered-moved (Credit k qs ∷ zs) zs o.0 refl h.0, gathered-past j k qs zs rs h.1)

  pub sound_none : (k : ℕ) (qs : List Record) (pre zs : List Element) → IsSound (pre ++ (Credit k qs ∷ zs)) → IsSound (pre ++ zs)
  sound_none k qs pre zs i = sound_exchange (λ s. false) pre (Credit k qs ∷ []) [] zs (blind_none clauses pre) (tt, tt) tt (omega arith)
      i (sound-after pre (Credit k qs ∷ zs) i).1

  pub sound_sum : (j k : ℕ) (rs qs : List Record) (pre zs : List Element) → IsSound (pre ++ (Credit j rs ∷ Credit k qs ∷ zs))
      → IsSound (pre ++ (Credit (j + k) (rs ++ qs) ∷ zs))
  sound_sum j k rs qs pre zs i =
      let old : IsSound (Credit j rs ∷ Credit k qs ∷ zs) = sound-after pre (Credit j rs ∷ Credit k qs ∷ zs) i in
      sound_exchange (λ s. false) pre (Credit j rs ∷ Credit k qs ∷ []) (Credit (j + k) (rs ++ qs) ∷ []) zs (blind_none clauses pre)
      (tt, (tt, tt)) (tt, tt) (omega arith) i (gathered-both zs rs qs (gathered-past j k qs zs rs old.0) old.1.0, old.1.1)

  -- after a gate
  pub sound_gate : SoundGate clauses
  sound_gate xs x g zs w e i =
      let rs = records xs in
      let one : IsSound (x ∷ map (gives m rs) zs) = subst (λ y. IsSound (y ∷ map (gives m rs) zs))
      (gives-fixed clauses rs x (asks-fixed clauses x g e)) (sound-gives clauses rs (x ∷ zs) (sound-after xs (x ∷ zs) i)) in
      (tt, asks-sound clauses x g (map (gives m rs) zs) e one w)

  pub sound_gate_in_place : SoundGateInPlace clauses
  sound_gate_in_place inside xs x g ys zs w s e put i =
      let left : IsSound (ys ++ zs) = subst (λ p. IsSound (placed m p zs)) put
      (asks-sound clauses x g zs e (sound-after xs (x ∷ zs) i) w) in
      let act_inner = subst (InnerAct inside s.grown zs s.under) e ((inner_closed clauses inside s.grown).acts x s.own.0) in
      let inner : Each (IsInner inside) ys = subst
      (PlaceOk m (IsInner inside) (IsSoughtInner clauses inside) (IsAnyRecord clauses inside)) put (act_inner w) in
      sound_exchange inside xs (x ∷ []) (Credit 1 [] ∷ ys) zs s.front s.own (tt, inner) (counts x e) i (tt, left)
    where
      counts : (x : Element) → act clauses x ≡ AsksWorld g → 0 < element_count (x ∷ [])
      counts (EndOf s) f = absurd cc
      counts (Credit k rs) f = omega arith
      counts (Plain p k) f = omega arith
      counts (Catch s u c r p k) f = omega arith
      counts (Findall s u results list p k) f = omega arith
      counts (End p b) f = omega arith
