-- What a list may become.
use Rattle.std.proofs.Common.{◌≡◌, ℕ, ◌+◌, Bool, true, List, [], ◌∷◌, ◌++◌, map, refl, sym, ◌∙◌, subst, arith}
use Rattle.au_model.specs.Terms.Each.{Each}
use Rattle.run_model.specs.Programs.Clauses.{Clause}
use Rattle.interleaving.specs.Machine.{Machine, gives, placed}
use Rattle.tree_model.specs.Elements.{Name, Record, Element, Credit, Plain, EndOf, Catch, Findall, End}
use Rattle.interleaving.specs.Scopes.{Shared, Sought, scoped}
use Rattle.interleaving.specs.Segments.{outer, Private, private_none, private_changes, private_infers}
use Rattle.interleaving.specs.Views.{IsBlind}
use Rattle.interleaving.specs.Quiet.{IsQuiet, inferences, records, IsStill}
use Rattle.interleaving.specs.Sound.{IsSound}
use Rattle.interleaving.specs.Laws.{is_inner_record, PrivateEarly, Expansion, DoneEarly, QuietEarly, TakenEarly, WokenEarly}
use Rattle.interleaving.specs.Laws.{CollectedEarly, CreditsAdd, NoCredit, TakenInFront, RecordsGiven}
use Rattle.interleaving.specs.Readings.{NamedAnew}
use Rattle.interleaving.proofs.EarlyLemmas.{early}
use Rattle.interleaving.proofs.JoinedLemmas.{runs_gone}
use Rattle.interleaving.proofs.AloneLemmas.{private_of_alone}
use Rattle.interleaving.proofs.ApartLemmas.{IsSoughtApart, blind_closed, inner_unseen}
use Rattle.interleaving.proofs.InsideStepLemmas.{any_ground, still_drops}
use Rattle.interleaving.proofs.QuietCreditLemmas.{quiet-private, private-then, gives-fixed}
use Rattle.interleaving.proofs.EarlyLawLemmas.{segment_pending, private_early, private_alone}
use Rattle.interleaving.proofs.CreditLawLemmas.{any-all, credits_alike, none_alike}
use Rattle.interleaving.proofs.FrontLawLemmas.{infers-fixed, front_alike, given_alike}
use Rattle.interleaving.proofs.GivenHeightLemmas.{sound-gives}
use Rattle.interleaving.proofs.SoundStepLemmas.{infers-sound, drops-gathered}
use Rattle.interleaving.proofs.SoundEarlyLemmas.{sound-after, sound_exchange, sound_private, sound_none, sound_sum}
use Rattle.interleaving.proofs.RunHeightLemmas.{names_are_free}
use Rattle.interleaving.proofs.AppendLemmas.{append-nil}

module _ (clauses : List Clause) where
  abbrev m : Machine Shared Element Sought Record
  m = scoped clauses

  -- a private run
  pub becomes : PrivateEarly clauses
  becomes inside k rs pre a b zs s r = record {
    alike = private_early clauses inside k rs pre a b zs (segment_pending clauses inside pre a zs s) r;
    sound = sound_private clauses
        inside k rs pre a b zs s r;
  }

  pub expansion : Expansion clauses
  expansion inside k pre a b zs s e = becomes inside k [] pre a b zs s (private_alone clauses inside k a b e)

  pub done_early : DoneEarly clauses
  done_early inside k rs pre a b zs s e = becomes inside k rs pre a b zs s
      (private_of_alone m (is_inner_record inside) (λ new. true) (still_drops clauses) k a b rs e)

  pub quiet_early : QuietEarly clauses
  quiet_early inside pre xs zs q s =
      let inner = is_inner_record inside in
      becomes inside (inferences xs) (outer inner (records xs)) pre xs [] zs s
      (subst (λ l. Private m inner (inferences xs) (outer inner (records xs)) l []) (append-nil xs)
      (quiet-private clauses inner xs [] q))

  -- a step after credits
  behind : (inside : Name → Bool) (xs mid b : List Element) (k : ℕ) → IsQuiet xs
      → Private m (is_inner_record inside) k [] (map (gives m (records xs)) mid) b
      → Private m (is_inner_record inside) (inferences xs + k) (outer (is_inner_record inside) (records xs)) (xs ++ mid) b
  behind inside xs mid b k q r =
      let inner = is_inner_record inside in
      subst (λ l. Private m inner (inferences xs + k) l (xs ++ mid) b) (append-nil (outer inner (records xs)))
      (private-then m inner k (inferences xs) (outer inner (records xs)) [] (xs ++ mid) (map (gives m (records xs)) mid) b
      (quiet-private clauses inner xs mid q) r)

  pub taken_early : TakenEarly clauses
  taken_early inside xs x p pre mid b zs q e placed s =
      let inner = is_inner_record inside in
      let rest = map (gives m (records xs)) mid in
      let fixed : gives m (records xs) x ≡ x = gives-fixed clauses (records xs) x (infers-fixed clauses x p e) in
      let one : Private m inner 1 [] (x ∷ rest) b = private_infers 0 x p [] rest b b e placed (private_none b) in
      becomes inside (inferences xs + 1) (outer inner (records xs)) pre (xs ++ (x ∷ mid)) b zs s
      (behind inside xs (x ∷ mid) b 1 q (subst (λ y. Private m inner 1 [] (y ∷ rest) b) (sym fixed) one))

  pub woken_early : WokenEarly clauses
  woken_early inside xs x y pre zs q e s =
      let inner = is_inner_record inside in
      let same : inferences xs + 0 ≡ inferences xs = omega arith in
      let one : Private m inner 0 [] (gives m (records xs) x ∷ []) (y ∷ []) = private_changes 0 (gives m (records xs) x) y [] [] (y ∷ [])
      e (private_none (y ∷ [])) in
      becomes inside (inferences xs) (outer inner (records xs)) pre (xs ++ (x ∷ [])) (y ∷ []) zs s
      (subst (λ n. Private m inner n (outer inner (records xs)) (xs ++ (x ∷ [])) (y ∷ [])) same
      (behind inside xs (x ∷ []) (y ∷ []) 0 q one))

  pub collected_early : CollectedEarly clauses
  collected_early inside p f rs pre zs e front own = record {
    alike = early m (any_ground clauses) (IsBlind inside) (IsSoughtApart clauses inside) _ (blind_closed clauses inside) 0 rs
        (Plain p f ∷ []) [] (record {
          runs = runs_gone m (any_ground clauses) (Plain p f) rs e;
          own = refl;
          old = inner_unseen clauses
              inside (Plain p f ∷ []) (own, tt);
          new = tt;
        }) pre zs front (any-all zs);
    sound = λ i.
        let here = sound-after pre (Plain p f ∷ zs) i in
        sound_exchange clauses inside pre (Plain p f ∷ []) (Credit 0 rs ∷ []) zs front (own, tt) (tt, tt) (omega arith) i
        (drops-gathered clauses (Plain p f) zs rs e here, here.1);
  }

  pub credits_add : CreditsAdd clauses
  credits_add j k rs qs pre zs = record { alike = credits_alike clauses j k rs qs pre zs; sound = sound_sum clauses j k rs qs pre zs }

  pub no_credit : NoCredit clauses
  no_credit pre zs = record { alike = none_alike clauses pre zs; sound = sound_none clauses 0 [] pre zs }

  -- in front of the whole list
  still-sound : (pre ys ws : List Element) → Each IsStill pre → (IsSound ys → IsSound ws) → IsSound (pre ++ ys) → IsSound (pre ++ ws)
  still-sound [] ys ws h f i = f i
  still-sound (EndOf s ∷ pre) ys ws h f i = still-sound pre ys ws h.1 f i
  still-sound (Credit k [] ∷ pre) ys ws h f i = (tt, still-sound pre ys ws h.1 f i.1)
  still-sound (Credit k (r ∷ rs) ∷ pre) ys ws h f i = absurd h.0
  still-sound (Plain p f ∷ pre) ys ws h g i = absurd h.0
  still-sound (Catch s u c r p f ∷ pre) ys ws h g i = absurd h.0
  still-sound (Findall s u results list p f ∷ pre) ys ws h g i = absurd h.0
  still-sound (End p b ∷ pre) ys ws h g i = absurd h.0

  pub taken_in_front : TakenInFront clauses
  taken_in_front xs x p pre mid still q e = record {
    alike = front_alike clauses xs x p pre mid still q e;
    sound = still-sound pre (xs ++ (x ∷ mid)) (Credit (inferences xs + 1) [] ∷ placed m p (map (gives m (records xs)) mid)) still
        (λ i. (tt, infers-sound clauses x p (map (gives m (records xs)) mid) e (given i)));
  }
    where
      given : IsSound (xs ++ (x ∷ mid)) → IsSound (x ∷ map (gives m (records xs)) mid)
      given i = subst (λ y. IsSound (y ∷ map (gives m (records xs)) mid))
          (gives-fixed clauses (records xs) x (infers-fixed clauses x p e))
          (sound-gives clauses (records xs) (x ∷ mid) (sound-after xs (x ∷ mid) i))

  pub records_given : RecordsGiven clauses
  records_given xs pre zs still q = record {
    alike = given_alike clauses xs pre zs still q;
    sound = still-sound pre (xs ++ zs) (Credit (inferences xs) [] ∷ map (gives m (records xs)) zs) still
        (λ i. (tt, sound-gives clauses (records xs) zs (sound-after xs zs i)));
  }

  pub named_anew : NamedAnew clauses
  named_anew xs mid ys b i j e n w = b.alike n w ∙ names_are_free clauses mid ys (b.sound i) j (sym e) n w
