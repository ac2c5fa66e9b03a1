-- Work that a segment does by itself may be done early.
use Rattle.std.proofs.Common.{◌≡◌, inl, inr, ℕ, zero, suc, false, List, [], ◌∷◌, ◌++◌, map, refl, sym, ap, ◌∙◌, subst}
use Rattle.au_model.specs.Terms.Each.{Each}
use Rattle.interleaving.specs.Machine.{Machine, Act, Drops, Becomes, Infers, AsksWorld, On, Replacement, Put, gives, looked, search_for}
use Rattle.interleaving.specs.Machine.{placed}
use Rattle.interleaving.specs.Machine.{freed, free_steps, acted, step, run, is_finished, seen, Alike}
use Rattle.interleaving.proofs.RunFrontLemmas.{maps-append, map-seam, map-none, take_free-map, PlaceOk, ActOk, Closed}
use Rattle.interleaving.proofs.RunFrontLemmas.{Unseen, gives-unseen, map-unseen, search-unseen, Freed, freed-found, placed-found}
use Rattle.interleaving.proofs.AppendLemmas.{append-assoc}

module _ {W X Q R : Type 0} (m : Machine W X Q R) where
  -- what may be under a segment, and credits: inferences that change nothing, and records
  pub record Ground : Type 1 where
    pub Under : X → Type 0
    pub given : (r : R) (x : X) → Under x → Under (m.give r x)
    pub credit : ℕ → List R → X
    pub spent : (rs : List R) → m.act (credit zero rs) ≡ Drops rs
    pub spends : (k : ℕ) (rs : List R) → m.act (credit (suc k) rs) ≡ Infers (Put (credit k rs ∷ []))
    pub fixed : (r : R) (k : ℕ) (rs : List R) → m.give r (credit k rs) ≡ credit k rs
    pub passed : (q : Q) (k : ℕ) (rs : List R) → m.look q (credit k rs) ≡ On q

  module _ (g : Ground) where
    pub z-gives : (rs : List R) (x : X) → g.Under x → g.Under (gives m rs x)
    z-gives [] x h = h
    z-gives (r ∷ rs) x h = z-gives rs (m.give r x) (g.given r x h)

    pub z-map : (rs : List R) (xs : List X) → Each g.Under xs → Each g.Under (map (gives m rs) xs)
    z-map rs [] h = tt
    z-map rs (x ∷ xs) h = (z-gives rs x h.0, z-map rs xs h.1)

    -- so many inferences of a segment, whatever is under it: they change no world, give these records to what is
    -- there, and leave that segment
    abbrev pub Runs : ℕ → List R → List X → List X → Type 0
    Runs zero rs a b = (zs : List X) → Each g.Under zs → free_steps m [] (a ++ zs) ≡ free_steps m [] (b ++ map (gives m rs) zs)
    Runs (suc k) rs a b = (s : List X) × (first : List R) × (rest : List R) × rs
        ≡ first ++ rest × ((zs : List X) → Each g.Under zs → is_finished (free_steps m [] (a ++ zs)) ≡ false)
        × ((w : W) (zs : List X) → Each g.Under zs → step m w (free_steps m [] (a ++ zs))
        ≡ (w, free_steps m [] (s ++ map (gives m first) zs))) × Runs k rest s b

    pub last : (rs : List R) (xs : List X) → free_steps m [] (g.credit zero rs ∷ xs) ≡ free_steps m [] (map (gives m rs) xs)
    last rs xs = ap (λ a. freed m a (g.credit zero rs) (λ new. free_steps m new xs) (map (gives m []) xs)) (g.spent rs) ∙ take_free-map m rs xs

    pub next_front : (k : ℕ) (rs : List R) (xs : List X) → free_steps m [] (g.credit (suc k) rs ∷ xs) ≡ g.credit (suc k) rs ∷ xs
    next_front k rs xs = ap (λ a. freed m a (g.credit (suc k) rs) (λ new. free_steps m new xs) (map (gives m []) xs)) (g.spends k rs)
        ∙ ap (λ ys. g.credit (suc k) rs ∷ ys) (map-none m xs)

    pub next_step : (k : ℕ) (rs : List R) (w : W) (xs : List X) → step m w (g.credit (suc k) rs ∷ xs)
        ≡ (w, free_steps m [] (g.credit k rs ∷ xs))
    next_step k rs w xs = ap (λ a. acted m a w (g.credit (suc k) rs) xs) (g.spends k rs)

    pub front : (k n : ℕ) (w : W) (before rs : List R) (a b zs : List X) → Runs k rs a b → Each g.Under zs
        → map (gives m (before ++ rs)) b ≡ b → seen (run m n w (free_steps m [] (a ++ map (gives m before) zs)))
        ≡ seen (run m n w (free_steps m [] (g.credit k (before ++ rs) ∷ (b ++ zs))))
    front zero n w before rs a b zs h z e =
        ap (λ l. seen (run m n w l)) (h (map (gives m before) zs) (z-map before zs z)
        ∙ ap (λ l. free_steps m [] (b ++ l)) (sym (maps-append m before rs zs))
        ∙ ap (λ l. free_steps m [] (l ++ map (gives m (before ++ rs)) zs)) (sym e)
        ∙ ap (free_steps m []) (sym (map-seam m (before ++ rs) b zs)) ∙ sym (last (before ++ rs) (b ++ zs)))
    front (suc k) zero w before rs a b zs h z e =
        ap (λ t. (w, t)) (h.4 (map (gives m before) zs) (z-map before zs z))
        ∙ sym (ap (λ l. seen (w, l)) (next_front k (before ++ rs) (b ++ zs)))
    front (suc k) (suc n) w before rs a b zs h z e =
        let same : before ++ rs ≡ (before ++ h.1) ++ h.2 = ap (λ l. before ++ l) h.3 ∙ sym (append-assoc before h.1 h.2) in
        let left = h.5 w (map (gives m before) zs) (z-map before zs z) in
        let right = ap (λ l. step m w l) (next_front k (before ++ rs) (b ++ zs)) ∙ next_step k (before ++ rs) w (b ++ zs) in
        ap (λ s. seen (run m n s.0 s.1)) left ∙ ap (λ l. seen (run m n w (free_steps m [] (h.0 ++ l))))
        (sym (maps-append m before h.1 zs)) ∙ front k n w (before ++ h.1) h.2 h.0 b zs h.6 z
        (subst (λ l. map (gives m l) b ≡ b) same e) ∙ ap (λ l. seen (run m n w (free_steps m [] (g.credit k l ∷ (b ++ zs)))))
        (sym same) ∙ sym (ap (λ s. seen (run m n s.0 s.1)) right)

    -- work done early after elements that see none of it
    module _ (P : X → Type 0) (K : Q → Type 0) (G : R → Type 0) (c : Closed m P K G) where
      pub record Early (k : ℕ) (rs : List R) (a b : List X) : Type 0 where
        pub runs : Runs k rs a b
        pub own : map (gives m rs) b ≡ b
        pub old : Each (Unseen m P K G) a
        pub new : Each (Unseen m P K G) b

      pub credit-unseen : (k : ℕ) (rs : List R) → Unseen m P K G (g.credit k rs)
      credit-unseen k rs = record { passed = λ q h. g.passed q k rs; kept = λ r h. g.fixed r k rs }

      module _ (k : ℕ) (rs : List R) (a b : List X) (e : Early k rs a b) where
        abbrev Same : ℕ → W → List X → List X → Type 0
        Same n w xs ys = seen (run m n w xs) ≡ seen (run m n w ys)

        abbrev later : List X → List X
        later zs = g.credit k rs ∷ (b ++ zs)

        -- records from in front
        through : (qs : List R) (zs : List X) → Each G qs → map (gives m qs) (a ++ zs) ≡ a ++ map (gives m qs) zs
        through qs zs ok = map-seam m qs a zs ∙ ap (λ l. l ++ map (gives m qs) zs) (map-unseen m P K G qs a ok e.old)

        past : (qs : List R) (zs : List X) → Each G qs → map (gives m qs) (later zs) ≡ later (map (gives m qs) zs)
        past qs zs ok =
            let head = gives-unseen m P K G qs (g.credit k rs) ok (credit-unseen k rs) in
            let tail = map-seam m qs b zs ∙ ap (λ l. l ++ map (gives m qs) zs) (map-unseen m P K G qs b ok e.new) in
            cc

        module _ (n : ℕ) (next : (w : W) (pre zs : List X) → Each P pre → Each g.Under zs
            → Same n w (free_steps m [] (pre ++ (a ++ zs))) (free_steps m [] (pre ++ later zs))) where
          placing : (w : W) (p : Replacement X Q) (new zs : List X) → PlaceOk m P K G p → Each P new → Each g.Under zs
              → Same n w (free_steps m [] (placed m p (new ++ (a ++ zs)))) (free_steps m [] (placed m p (new ++ later zs)))
          placing w p new zs ok h z = elim (placed-found m P K G c p new ok h) [
            | inl f ↦ ap (λ l. seen (run m n w (free_steps m [] l))) (f.2 (a ++ zs)) ∙ next w f.0 zs f.1 z
                ∙ sym (ap (λ l. seen (run m n w (free_steps m [] l))) (f.2 (later zs)))
            | inr (inl f) ↦ ap (λ l. seen (run m n w (free_steps m [] l))) (f.1 (a ++ zs))
                ∙ sym (ap (λ l. seen (run m n w (free_steps m [] l))) (f.1 (later zs)))
            | inr (inr f) ↦
                ap (λ l. seen (run m n w (free_steps m [] l)))
                (f.2 (a ++ zs) ∙ search-unseen m P K G f.0 a zs f.1 e.old ∙ sym (search-unseen m P K G f.0 b zs f.1 e.new)
                ∙ sym (ap (λ l. looked m l (λ q. search_for m q (b ++ zs)) (b ++ zs)) (g.passed f.0 k rs)) ∙ sym (f.2 (later zs)))
          ]

          acting : (w : W) (t : Act W X Q R) (x : X) (new zs : List X) → ActOk m P K G t → Each P new → Each g.Under zs
              → seen (run m n (acted m t w x (new ++ (a ++ zs))).0 (acted m t w x (new ++ (a ++ zs))).1)
              ≡ seen (run m n (acted m t w x (new ++ later zs)).0 (acted m t w x (new ++ later zs)).1)
          acting w (Drops r) x new zs ok h z = next w new zs h z
          acting w (Becomes y) x new zs ok h z = next w (y ∷ new) zs (ok, h) z
          acting w (Infers p) x new zs ok h z = placing w p new zs ok h z
          acting w (AsksWorld g) x new zs ok h z = placing (g w).0 (g w).1 new zs (ok w) h z

        agree : (n : ℕ) → ((w : W) (x : X) (new zs : List X) → P x → Each P new → Each g.Under zs
            → Same n w (x ∷ (new ++ (a ++ zs))) (x ∷ (new ++ later zs))) → (w : W) (pre zs : List X) → Each P pre → Each g.Under zs
            → Same n w (free_steps m [] (pre ++ (a ++ zs))) (free_steps m [] (pre ++ later zs))
        agree n on w pre zs h z = go (freed-found m P K G c [] pre tt h)
          where
            go : Freed m P K G [] pre → Same n w (free_steps m [] (pre ++ (a ++ zs))) (free_steps m [] (pre ++ later zs))
            go (qs, ok, inl f) =
                ap (λ l. seen (run m n w l)) (f (a ++ zs) ∙ take_free-map m qs (a ++ zs) ∙ ap (free_steps m []) (through qs zs ok))
                ∙ ap (λ l. seen (run m n w (free_steps m [] (a ++ l)))) (sym (map-none m (map (gives m qs) zs)))
                ∙ front k n w [] rs a b (map (gives m qs) zs) e.runs (z-map qs zs z) e.own
                ∙ sym (ap (λ l. seen (run m n w l))
                (f (later zs) ∙ take_free-map m qs (later zs) ∙ ap (free_steps m []) (past qs zs ok)))
            go (qs, ok, inr f) =
                ap (λ l. seen (run m n w l)) (f.4 (a ++ zs) ∙ ap (λ l. f.0 ∷ (f.1 ++ l)) (through qs zs ok))
                ∙ on w f.0 f.1 (map (gives m qs) zs) f.2 f.3 (z-map qs zs z)
                ∙ sym (ap (λ l. seen (run m n w l)) (f.4 (later zs) ∙ ap (λ l. f.0 ∷ (f.1 ++ l)) (past qs zs ok)))

        stepping : (n : ℕ) (w : W) (x : X) (new zs : List X) → P x → Each P new → Each g.Under zs
            → Same n w (x ∷ (new ++ (a ++ zs))) (x ∷ (new ++ later zs))
        stepping zero w x new zs k h z = refl
        stepping (suc n) w x new zs k h z = acting n (agree n (stepping n)) w (m.act x) x new zs (c.acts x k) h z

        -- what a segment does by itself may be done early, after elements that see none of it
        pub early : (pre zs : List X) → Each P pre → Each g.Under zs → Alike m (pre ++ (a ++ zs)) (pre ++ (g.credit k rs ∷ (b ++ zs)))
        early pre zs h z n w = agree n (stepping n) w pre zs h z

      -- two segments that do the same by themselves
      pub both_early : (k : ℕ) (rs : List R) (a s b : List X) → Early k rs a b → Early k rs s b → (pre zs : List X) → Each P pre
          → Each g.Under zs → Alike m (pre ++ (a ++ zs)) (pre ++ (s ++ zs))
      both_early k rs a s b e f pre zs h z n w = early k rs a b e pre zs h z n w ∙ sym (early k rs s b f pre zs h z n w)
