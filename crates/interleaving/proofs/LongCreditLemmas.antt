-- Credits of more inferences than are looked at are the same.
use Rattle.std.proofs.Common.{◌≡◌, inl, inr, ℕ, zero, suc, ◌≤◌, false, List, [], ◌∷◌, ◌++◌, map, refl, sym, ap, ◌∙◌, arith}
use Rattle.au_model.specs.Terms.Each.{Each}
use Rattle.interleaving.specs.Machine.{Machine, Act, Drops, Becomes, Infers, AsksWorld, Replacement, gives, looked, search_for, placed}
use Rattle.interleaving.specs.Machine.{free_steps}
use Rattle.interleaving.specs.Machine.{acted, step, run, is_finished, seen}
use Rattle.interleaving.proofs.RunFrontLemmas.{take_free-map, take_free-given, PlaceOk, ActOk, Closed, gives-unseen, Freed, freed-found}
use Rattle.interleaving.proofs.RunFrontLemmas.{placed-found}
use Rattle.interleaving.proofs.EarlyLemmas.{Ground, last, next_front, next_step, credit-unseen}

module _ {W X Q R : Type 0} (m : Machine W X Q R) (g : Ground m) (P : X → Type 0) (K : Q → Type 0) (G : R → Type 0) (c : Closed m P K G)
  where
    -- credits of more than the inferences that are looked at are the same
    module _ (j k : ℕ) (os rs : List R) where
      abbrev Agrees : ℕ → W → List X → List X → Type 0
      Agrees n w xs ys = seen (run m n w xs) ≡ seen (run m n w ys)

      one_credit : (n : ℕ) (w : W) (i : ℕ) (us : List R) (zs : List X) → suc n ≤ i
          → seen (run m n w (free_steps m [] (g.credit i us ∷ zs))) ≡ (w, false)
      one_credit n w zero us zs h = absurd (omega arith)
      one_credit zero w (suc i) us zs h = ap (λ l. seen (w, l)) (next_front m g i us zs)
      one_credit (suc n) w (suc i) us zs h = ap (λ l. seen (run m n (step m w l).0 (step m w l).1)) (next_front m g i us zs)
          ∙ ap (λ s. seen (run m n s.0 s.1)) (next_step m g i us w zs) ∙ one_credit n w i us zs (omega arith)

      given_credit : (qs : List R) (i : ℕ) (us : List R) (zs : List X) → Each G qs → map (gives m qs) (g.credit i us ∷ zs)
          ≡ g.credit i us ∷ map (gives m qs) zs
      given_credit qs i us zs ok = ap (λ x. x ∷ map (gives m qs) zs)
          (gives-unseen m P K G qs (g.credit i us) ok (credit-unseen m g P K G c i us))

      module _ (n : ℕ) (next : (w : W) (pre zs ys : List X) → Each P pre → Agrees n w (free_steps m [] (pre ++ (g.credit j os ∷ zs)))
          (free_steps m [] (pre ++ (g.credit k rs ∷ zs)))) where
        placing_before : (w : W) (p : Replacement X Q) (new zs : List X) → PlaceOk m P K G p → Each P new
            → Agrees n w (free_steps m [] (placed m p (new ++ (g.credit j os ∷ zs))))
            (free_steps m [] (placed m p (new ++ (g.credit k rs ∷ zs))))
        placing_before w p new zs ok h = elim (placed-found m P K G c p new ok h) [
          | inl f ↦ ap (λ l. seen (run m n w (free_steps m [] l))) (f.2 (g.credit j os ∷ zs)) ∙ next w f.0 zs [] f.1
              ∙ sym (ap (λ l. seen (run m n w (free_steps m [] l))) (f.2 (g.credit k rs ∷ zs)))
          | inr (inl f) ↦ ap (λ l. seen (run m n w (free_steps m [] l))) (f.1 (g.credit j os ∷ zs))
              ∙ sym (ap (λ l. seen (run m n w (free_steps m [] l))) (f.1 (g.credit k rs ∷ zs)))
          | inr (inr f) ↦
              ap (λ l. seen (run m n w (free_steps m [] l)))
              (f.2 (g.credit j os ∷ zs) ∙ ap (λ o. looked m o (λ q. search_for m q zs) zs) (g.passed f.0 j os)
              ∙ sym (ap (λ o. looked m o (λ q. search_for m q zs) zs) (g.passed f.0 k rs)) ∙ sym (f.2 (g.credit k rs ∷ zs)))
        ]

        acting_before : (w : W) (t : Act W X Q R) (x : X) (new zs : List X) → ActOk m P K G t → Each P new
            → seen (run m n (acted m t w x (new ++ (g.credit j os ∷ zs))).0 (acted m t w x (new ++ (g.credit j os ∷ zs))).1)
            ≡ seen (run m n (acted m t w x (new ++ (g.credit k rs ∷ zs))).0 (acted m t w x (new ++ (g.credit k rs ∷ zs))).1)
        acting_before w (Drops r) x new zs ok h = next w new zs [] h
        acting_before w (Becomes y) x new zs ok h = next w (y ∷ new) zs [] (ok, h)
        acting_before w (Infers p) x new zs ok h = placing_before w p new zs ok h
        acting_before w (AsksWorld g) x new zs ok h = placing_before (g w).0 (g w).1 new zs (ok w) h

      agree_before : (n : ℕ) → suc n ≤ j → suc n ≤ k
          → ((w : W) (x : X) (new zs : List X) → P x → Each P new → Agrees n w (x ∷ (new ++ (g.credit j os ∷ zs)))
          (x ∷ (new ++ (g.credit k rs ∷ zs)))) → (w : W) (pre zs ys : List X) → Each P pre
          → Agrees n w (free_steps m [] (pre ++ (g.credit j os ∷ zs))) (free_steps m [] (pre ++ (g.credit k rs ∷ zs)))
      agree_before n hj hk on w pre zs ys h = go (freed-found m P K G c [] pre tt h)
        where
          go : Freed m P K G [] pre → Agrees n w (free_steps m [] (pre ++ (g.credit j os ∷ zs)))
              (free_steps m [] (pre ++ (g.credit k rs ∷ zs)))
          go (qs, ok, inl f) =
              ap (λ l. seen (run m n w l)) (f (g.credit j os ∷ zs) ∙ take_free-map m qs (g.credit j os ∷ zs)
              ∙ ap (free_steps m []) (given_credit qs j os zs ok)) ∙ one_credit n w j os (map (gives m qs) zs) hj
              ∙ sym (one_credit n w k rs (map (gives m qs) zs) hk)
              ∙ sym (ap (λ l. seen (run m n w l))
              (f (g.credit k rs ∷ zs) ∙ take_free-map m qs (g.credit k rs ∷ zs) ∙ ap (free_steps m []) (given_credit qs k rs zs ok)))
          go (qs, ok, inr f) =
              ap (λ l. seen (run m n w l)) (f.4 (g.credit j os ∷ zs) ∙ ap (λ l. f.0 ∷ (f.1 ++ l)) (given_credit qs j os zs ok))
              ∙ on w f.0 f.1 (map (gives m qs) zs) f.2 f.3
              ∙ sym (ap (λ l. seen (run m n w l))
              (f.4 (g.credit k rs ∷ zs) ∙ ap (λ l. f.0 ∷ (f.1 ++ l)) (given_credit qs k rs zs ok)))

      stepping_before : (n : ℕ) → suc n ≤ j → suc n ≤ k → (w : W) (x : X) (new zs : List X) → P x → Each P new
          → Agrees n w (x ∷ (new ++ (g.credit j os ∷ zs))) (x ∷ (new ++ (g.credit k rs ∷ zs)))
      stepping_before zero hj hk w x new zs q h = refl
      stepping_before (suc n) hj hk w x new zs q h = acting_before n
          (agree_before n (omega arith) (omega arith) (stepping_before n (omega arith) (omega arith))) w (m.act x) x new zs (c.acts x q) h

      pub enough : (n : ℕ) → suc n ≤ j → suc n ≤ k → (w : W) (pre zs : List X) → Each P pre
          → seen (run m n w (free_steps m [] (pre ++ (g.credit j os ∷ zs))))
          ≡ seen (run m n w (free_steps m [] (pre ++ (g.credit k rs ∷ zs))))
      enough n hj hk w pre zs h = agree_before n hj hk (stepping_before n hj hk) w pre zs [] h

      -- as many inferences as a credit has, where what is under it does not go
      whole_credit : (n : ℕ) (w : W) (i : ℕ) (us : List R) (zs : List X) → n ≤ i → is_finished (free_steps m us zs) ≡ false
          → seen (run m n w (free_steps m [] (g.credit i us ∷ zs))) ≡ (w, false)
      whole_credit zero w zero us zs h e = ap (λ l. seen (w, l)) (last m g us zs ∙ sym (take_free-map m us zs)) ∙ ap (λ b. (w, b)) e
      whole_credit zero w (suc i) us zs h e = ap (λ l. seen (w, l)) (next_front m g i us zs)
      whole_credit (suc n) w zero us zs h e = absurd (omega arith)
      whole_credit (suc n) w (suc i) us zs h e = ap (λ l. seen (run m n (step m w l).0 (step m w l).1)) (next_front m g i us zs)
          ∙ ap (λ s. seen (run m n s.0 s.1)) (next_step m g i us w zs) ∙ whole_credit n w i us zs (omega arith) e

      -- a first step leaves fewer inferences than the credits have
      after_step : (n : ℕ) → n ≤ j → n ≤ k → (w : W) (x : X) (new zs : List X) → P x → Each P new
          → Agrees n w (x ∷ (new ++ (g.credit j os ∷ zs))) (x ∷ (new ++ (g.credit k rs ∷ zs)))
      after_step zero hj hk w x new zs q h = refl
      after_step (suc n) hj hk w x new zs q h = acting_before n (agree_before n hj hk (stepping_before n hj hk)) w (m.act x) x new zs
          (c.acts x q) h

      pub as_many : (n : ℕ) → n ≤ j → n ≤ k → (w : W) (pre zs : List X) → Each P pre
          → ((us : List R) → is_finished (free_steps m us zs) ≡ false)
          → seen (run m n w (free_steps m [] (pre ++ (g.credit j os ∷ zs))))
          ≡ seen (run m n w (free_steps m [] (pre ++ (g.credit k rs ∷ zs))))
      as_many n hj hk w pre zs h stays = go (freed-found m P K G c [] pre tt h)
        where
          given_stays : (qs us : List R) → is_finished (free_steps m us (map (gives m qs) zs)) ≡ false
          given_stays qs us = ap is_finished (sym (take_free-given m qs us zs)) ∙ stays (qs ++ us)

          go : Freed m P K G [] pre → Agrees n w (free_steps m [] (pre ++ (g.credit j os ∷ zs)))
              (free_steps m [] (pre ++ (g.credit k rs ∷ zs)))
          go (qs, ok, inl f) =
              ap (λ l. seen (run m n w l)) (f (g.credit j os ∷ zs) ∙ take_free-map m qs (g.credit j os ∷ zs)
              ∙ ap (free_steps m []) (given_credit qs j os zs ok)) ∙ whole_credit n w j os (map (gives m qs) zs) hj (given_stays qs os)
              ∙ sym (whole_credit n w k rs (map (gives m qs) zs) hk (given_stays qs rs))
              ∙ sym (ap (λ l. seen (run m n w l))
              (f (g.credit k rs ∷ zs) ∙ take_free-map m qs (g.credit k rs ∷ zs) ∙ ap (free_steps m []) (given_credit qs k rs zs ok)))
          go (qs, ok, inr f) =
              ap (λ l. seen (run m n w l)) (f.4 (g.credit j os ∷ zs) ∙ ap (λ l. f.0 ∷ (f.1 ++ l)) (given_credit qs j os zs ok))
              ∙ after_step n hj hk w f.0 f.1 (map (gives m qs) zs) f.2 f.3
              ∙ sym (ap (λ l. seen (run m n w l))
              (f.4 (g.credit k rs ∷ zs) ∙ ap (λ l. f.0 ∷ (f.1 ++ l)) (given_credit qs k rs zs ok)))
