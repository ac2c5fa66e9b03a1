-- Runs of segments, put together, and private runs.
use Rattle.std.proofs.Common.{◌≡◌, ℕ, zero, suc, List, [], ◌∷◌, ◌++◌, map, Some, refl, sym, ap, ◌∙◌, subst}
use Rattle.au_model.specs.Terms.Each.{Each}
use Rattle.interleaving.specs.Machine.{Machine, Act, Drops, Becomes, Infers, AsksWorld, Look, On, Here, Replacement, Put, Only, Seek, gives}
use Rattle.interleaving.specs.Machine.{looked}
use Rattle.interleaving.specs.Machine.{search_for, placed, freed, free_steps, acted, step, run, is_finished}
use Rattle.interleaving.specs.Segments.{IsActive, found_in, search_in, placed_in}
use Rattle.interleaving.proofs.RunFrontLemmas.{each-append, some-same, none-some, maps-append, map-seam, map-none}
use Rattle.interleaving.proofs.RunFrontLemmas.{take_free-map}
use Rattle.interleaving.proofs.EarlyLemmas.{Ground, Runs, z-map, last, next_front, next_step}
use Rattle.interleaving.proofs.AppendLemmas.{append-assoc}

module _ {W X Q R : Type 0} (m : Machine W X Q R) (g : Ground m) where
  -- how runs of segments are put together
  abbrev pub plus : ℕ → ℕ → ℕ
  plus zero j = j
  plus (suc k) j = suc (plus k j)

  pub all-z : (xs ys : List X) → Each g.Under xs → Each g.Under ys → Each g.Under (xs ++ ys)
  all-z xs ys h k = each-append g.Under xs ys h k

  pub take_free-seam : (a c zs : List X) (qs : List R) (b : List X)
      → ((zs : List X) → Each g.Under zs → free_steps m [] (a ++ zs) ≡ free_steps m [] (b ++ map (gives m qs) zs)) → Each g.Under c
      → Each g.Under zs → free_steps m [] ((a ++ c) ++ zs) ≡ free_steps m [] ((b ++ map (gives m qs) c) ++ map (gives m qs) zs)
  take_free-seam a c zs qs b h y z = ap (free_steps m []) (append-assoc a c zs) ∙ h (c ++ zs) (all-z c zs y z)
      ∙ ap (λ l. free_steps m [] (b ++ l)) (map-seam m qs c zs)
      ∙ ap (free_steps m []) (sym (append-assoc b (map (gives m qs) c) (map (gives m qs) zs)))

  pub runs-frame : (k : ℕ) (rs : List R) (a b c : List X) → Runs m g k rs a b → Each g.Under c
      → Runs m g k rs (a ++ c) (b ++ map (gives m rs) c)
  runs-frame zero rs a b c h y = λ zs z. take_free-seam a c zs rs b h y z
  runs-frame (suc k) rs a b c h y = (
    h.0 ++ map (gives m h.1) c,
    h.1,
    h.2,
    h.3,
    (λ zs z. ap (λ l. is_finished (free_steps m [] l)) (append-assoc a c zs)
        ∙ h.4 (c ++ zs) (all-z c zs y z)),
    (λ w zs z. ap (λ l. step m w (free_steps m [] l)) (append-assoc a c zs)
        ∙ h.5 w (c ++ zs) (all-z c zs y z) ∙ ap (λ l. (w, free_steps m [] (h.0 ++ l))) (map-seam m h.1 c zs)
        ∙ ap (λ l. (w, free_steps m [] l)) (sym (append-assoc h.0 (map (gives m h.1) c) (map (gives m h.1) zs)))),
    subst
        (λ l. Runs m g k h.2 (h.0 ++ map (gives m h.1) c) (b ++ l)) (sym (ap (λ l. map (gives m l) c) h.3 ∙ maps-append m h.1 h.2 c))
        (runs-frame k h.2 h.0 b (map (gives m h.1) c) h.6 (z-map m g h.1 c y)),
  )

  pub runs-then : (k j : ℕ) (rs qs : List R) (a s b : List X) → Runs m g k rs a s → Runs m g j qs s b → Runs m g (plus k j) (rs ++ qs) a b
  runs-then zero zero rs qs a s b h l = λ zs z. h zs z ∙ l (map (gives m rs) zs) (z-map m g rs zs z)
      ∙ ap (λ y. free_steps m [] (b ++ y)) (sym (maps-append m rs qs zs))
  runs-then zero (suc j) rs qs a s b h l = (
    l.0,
    rs ++ l.1,
    l.2,
    ap (λ y. rs ++ y) l.3
        ∙ sym (append-assoc rs l.1 l.2),
    (λ zs z. ap is_finished (h zs z) ∙ l.4 (map (gives m rs) zs) (z-map m g rs zs z)),
    (λ w zs z. ap (step m w) (h zs z) ∙ l.5 w (map (gives m rs) zs) (z-map m g rs zs z)
        ∙ ap (λ y. (w, free_steps m [] (l.0 ++ y))) (sym (maps-append m rs l.1 zs))),
    l.6,
  )
  runs-then (suc k) j rs qs a s b h l =
      (h.0, h.1, h.2 ++ qs, ap (λ y. y ++ qs) h.3 ∙ append-assoc h.1 h.2 qs, h.4, h.5, runs-then k j h.2 qs h.0 s b h.6 l)

  -- where a segment gets by itself
  pub reached : (k : ℕ) (rs : List R) (a b : List X) → Runs m g k rs a b → (w : W) (zs : List X) → Each g.Under zs
      → run m k w (free_steps m [] (a ++ zs)) ≡ (w, free_steps m [] (b ++ map (gives m rs) zs))
  reached zero rs a b h w zs z = ap (λ l. (w, l)) (h zs z)
  reached (suc k) rs a b h w zs z =
      ap (λ s. run m k s.0 s.1) (h.5 w zs z) ∙ reached k h.2 h.0 b h.6 w (map (gives m h.1) zs) (z-map m g h.1 zs z)
      ∙ ap (λ l. (w, free_steps m [] (b ++ l))) (sym (maps-append m h.1 h.2 zs) ∙ ap (λ l. map (gives m l) zs) (sym h.3))

  -- a credit runs by itself
  pub credit_runs : (k : ℕ) (rs : List R) → Runs m g k rs (g.credit k rs ∷ []) []
  credit_runs zero rs = λ zs z. last m g rs zs
  credit_runs (suc k) rs = (
    g.credit k rs ∷ [],
    [],
    rs,
    refl,
    (λ zs z. ap is_finished (next_front m g k rs zs)),
    (λ w zs z. ap (step m w) (next_front m g k rs zs) ∙ next_step m g k rs w zs
        ∙ ap (λ l. (w, free_steps m [] (g.credit k rs ∷ l))) (sym (map-none m zs))),
    credit_runs k rs,
  )

  -- an element that goes, and one that wakes
  pub runs_gone : (x : X) (qs : List R) → m.act x ≡ Drops qs → Runs m g zero qs (x ∷ []) []
  runs_gone x qs e = λ zs z. ap (λ a. freed m a x (λ new. free_steps m new zs) (map (gives m []) zs)) e ∙ take_free-map m qs zs

  pub resting : (x : X) → IsActive (m.act x) → (zs : List X) → free_steps m [] (x ∷ zs) ≡ x ∷ zs
  resting x h zs = go (m.act x) refl h ∙ ap (λ l. x ∷ l) (map-none m zs)
    where
      go : (a : Act W X Q R) → m.act x ≡ a → IsActive a → free_steps m [] (x ∷ zs) ≡ x ∷ map (gives m []) zs
      go (Drops rs) e h = absurd h
      go (Becomes y) e h = absurd h
      go (Infers p) e h = ap (λ a. freed m a x (λ new. free_steps m new zs) (map (gives m []) zs)) e
      go (AsksWorld p) e h = ap (λ a. freed m a x (λ new. free_steps m new zs) (map (gives m []) zs)) e

  pub infers_active : (x : X) (p : Replacement X Q) → m.act x ≡ Infers p → IsActive (m.act x)
  infers_active x p e = subst IsActive (sym e) tt

  pub runs_woken : (x y : X) → m.act x ≡ Becomes y → IsActive (m.act y) → Runs m g zero [] (x ∷ []) (y ∷ [])
  runs_woken x y e f = λ zs z. ap (λ a. freed m a x (λ new. free_steps m new zs) (map (gives m []) zs)) e
      ∙ sym (resting y f (map (gives m []) zs))

  -- one inference that stays within a segment
  pub runs_step : (x : X) (mid b : List X) (p : Replacement X Q) → m.act x ≡ Infers p
      → ((zs : List X) → Each g.Under zs → placed m p (mid ++ zs) ≡ b ++ zs) → Runs m g (suc zero) [] (x ∷ mid) b
  runs_step x mid b p e h =
      let up = resting x (infers_active x p e) in (
        b,
        [],
        [],
        refl,
        (λ zs z. ap is_finished (up (mid ++ zs))),
        (λ w zs z. ap (step m w) (up (mid ++ zs)) ∙ ap (λ a. acted m a w x (mid ++ zs)) e
            ∙ ap (λ l. (w, free_steps m [] l)) (h zs z ∙ ap (λ l. b ++ l) (sym (map-none m zs)))),
        λ zs z.
            ap (λ l. free_steps m [] (b ++ l)) (sym (map-none m zs)),
      )

  pub search-within : (q : Q) (xs b zs : List X) → search_in m q xs ≡ Some b → search_for m q (xs ++ zs) ≡ b ++ zs
  search-within q [] b zs e = none-some b e
  search-within q (x ∷ xs) b zs e = go (m.look q x) e (λ p f. search-within p xs b zs f)
    where
      go : (t : Look X Q) → found_in m t (λ p. search_in m p xs) xs ≡ Some b
          → ((p : Q) → search_in m p xs ≡ Some b → search_for m p (xs ++ zs) ≡ b ++ zs) → looked m t (λ p. search_for m p (xs ++ zs))
          (xs ++ zs) ≡ b ++ zs
      go (On p) e next = next p e
      go (Here ys) e next = sym (append-assoc ys xs zs) ∙ ap (λ l. l ++ zs) (some-same (ys ++ xs) b e)

  pub placed-within : (p : Replacement X Q) (xs b zs : List X) → placed_in m p xs ≡ Some b → placed m p (xs ++ zs) ≡ b ++ zs
  placed-within (Put ys) xs b zs e = sym (append-assoc ys xs zs) ∙ ap (λ l. l ++ zs) (some-same (ys ++ xs) b e)
  placed-within (Only ys) xs b zs e = none-some b e
  placed-within (Seek q) xs b zs e = search-within q xs b zs e
