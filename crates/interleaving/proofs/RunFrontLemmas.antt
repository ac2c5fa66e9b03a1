-- The free steps and searches in front of other elements.
use Rattle.std.proofs.Common.{◌≡◌, ◌⊎◌, inl, inr, List, [], ◌∷◌, ◌++◌, map, Some, None, refl, sym, ap, ◌∙◌}
use Rattle.au_model.specs.Terms.Each.{Each}
use Rattle.interleaving.specs.Machine.{Machine, Act, Drops, Becomes, Infers, AsksWorld, Look, On, Here, Replacement, Put, Only, Seek, gives}
use Rattle.interleaving.specs.Machine.{looked}
use Rattle.interleaving.specs.Machine.{search_for, placed, freed, free_steps}
use Rattle.interleaving.proofs.AppendLemmas.{append-assoc, append-nil}

pub each-append : {A : Type 0} → (P : A → Type 0) (xs ys : List A) → Each P xs → Each P ys → Each P (xs ++ ys)
each-append P [] ys h k = k
each-append P (x ∷ xs) ys h k = (h.0, each-append P xs ys h.1 k)

pub some-same : {A : Type 0} → (x y : A) → Some x ≡ Some y → x ≡ y
some-same x y e = cc

pub none-some : {A B : Type 0} → (x : A) → None ≡ Some x → B
none-some x e = absurd cc

module _ {W X Q R : Type 0} (m : Machine W X Q R) where
  pub gives-append : (rs qs : List R) (x : X) → gives m (rs ++ qs) x ≡ gives m qs (gives m rs x)
  gives-append [] qs x = refl
  gives-append (r ∷ rs) qs x = gives-append rs qs (m.give r x)

  pub maps-append : (rs qs : List R) (xs : List X) → map (gives m (rs ++ qs)) xs ≡ map (gives m qs) (map (gives m rs) xs)
  maps-append rs qs [] = refl
  maps-append rs qs (x ∷ xs) = let head = gives-append rs qs x in let tail = maps-append rs qs xs in cc

  pub map-seam : (rs : List R) (xs ys : List X) → map (gives m rs) (xs ++ ys) ≡ map (gives m rs) xs ++ map (gives m rs) ys
  map-seam rs [] ys = refl
  map-seam rs (x ∷ xs) ys = ap (λ zs. gives m rs x ∷ zs) (map-seam rs xs ys)

  pub map-none : (xs : List X) → map (gives m []) xs ≡ xs
  map-none [] = refl
  map-none (x ∷ xs) = ap (λ ys. x ∷ ys) (map-none xs)

  pub freed-same : (a : Act W X Q R) (y : X) (f g : List R → List X) (xs ys : List X) → ((new : List R) → f new ≡ g new) → xs ≡ ys
      → freed m a y f xs ≡ freed m a y g ys
  freed-same (Drops rs) y f g xs ys h e = h rs
  freed-same (Becomes z) y f g xs ys h e = ap (λ zs. z ∷ zs) e
  freed-same (Infers p) y f g xs ys h e = ap (λ zs. y ∷ zs) e
  freed-same (AsksWorld p) y f g xs ys h e = ap (λ zs. y ∷ zs) e

  -- records that are under way, and records that were given
  pub take_free-given : (rs qs : List R) (xs : List X) → free_steps m (rs ++ qs) xs ≡ free_steps m qs (map (gives m rs) xs)
  take_free-given rs qs [] = refl
  take_free-given rs qs (x ∷ xs) =
      ap (λ y. freed m (m.act y) y (λ new. free_steps m ((rs ++ qs) ++ new) xs) (map (gives m (rs ++ qs)) xs)) (gives-append rs qs x)
      ∙ freed-same (m.act (gives m qs (gives m rs x))) (gives m qs (gives m rs x)) (λ new. free_steps m ((rs ++ qs) ++ new) xs)
      (λ new. free_steps m (qs ++ new) (map (gives m rs) xs)) (map (gives m (rs ++ qs)) xs) (map (gives m qs) (map (gives m rs) xs))
      (λ new. ap (λ zs. free_steps m zs xs) (append-assoc rs qs new) ∙ take_free-given rs (qs ++ new) xs) (maps-append rs qs xs)

  pub take_free-map : (rs : List R) (xs : List X) → free_steps m rs xs ≡ free_steps m [] (map (gives m rs) xs)
  take_free-map rs xs = ap (λ zs. free_steps m zs xs) (sym (append-nil rs)) ∙ take_free-given rs [] xs

  -- elements that don't see what is under them, or see none of some elements
  module _ (P : X → Type 0) (K : Q → Type 0) (G : R → Type 0) where
    abbrev pub PlaceOk : Replacement X Q → Type 0
    PlaceOk (Put ys) = Each P ys
    PlaceOk (Only ys) = Unit {0}
    PlaceOk (Seek q) = K q

    abbrev pub ActOk : Act W X Q R → Type 0
    ActOk (Drops rs) = Each G rs
    ActOk (Becomes y) = P y
    ActOk (Infers p) = PlaceOk p
    ActOk (AsksWorld g) = (w : W) → PlaceOk (g w).1

    abbrev pub LookOk : Look X Q → Type 0
    LookOk (On q) = K q
    LookOk (Here ys) = Each P ys

    -- the property stays with an element, with what it becomes and with what it looks for
    pub record Closed : Type 0 where
      pub acts : (x : X) → P x → ActOk (m.act x)
      pub looks : (q : Q) (x : X) → K q → P x → LookOk (m.look q x)
      pub given : (r : R) (x : X) → G r → P x → P (m.give r x)

    -- an element that nothing of the kind sees
    pub record Unseen (x : X) : Type 0 where
      pub passed : (q : Q) → K q → m.look q x ≡ On q
      pub kept : (r : R) → G r → m.give r x ≡ x

    module _ (c : Closed) where
      pub gives-ok : (rs : List R) (x : X) → Each G rs → P x → P (gives m rs x)
      gives-ok [] x h k = k
      gives-ok (r ∷ rs) x h k = gives-ok rs (m.give r x) h.1 (c.given r x h.0 k)

      pub map-ok : (rs : List R) (xs : List X) → Each G rs → Each P xs → Each P (map (gives m rs) xs)
      map-ok rs [] h k = tt
      map-ok rs (x ∷ xs) h k = (gives-ok rs x h k.0, map-ok rs xs h k.1)

    pub gives-unseen : (rs : List R) (x : X) → Each G rs → Unseen x → gives m rs x ≡ x
    gives-unseen [] x h k = refl
    gives-unseen (r ∷ rs) x h k = ap (gives m rs) (k.kept r h.0) ∙ gives-unseen rs x h.1 k

    pub map-unseen : (rs : List R) (xs : List X) → Each G rs → Each Unseen xs → map (gives m rs) xs ≡ xs
    map-unseen rs [] h k = refl
    map-unseen rs (x ∷ xs) h k = let head = gives-unseen rs x h k.0 in let tail = map-unseen rs xs h k.1 in cc

    pub search-unseen : (q : Q) (xs zs : List X) → K q → Each Unseen xs → search_for m q (xs ++ zs) ≡ search_for m q zs
    search-unseen q [] zs h k = refl
    search-unseen q (x ∷ xs) zs h k = ap (λ l. looked m l (λ p. search_for m p (xs ++ zs)) (xs ++ zs)) (k.0.passed q h)
        ∙ search-unseen q xs zs h k.1

    -- a search in front of other elements ends among the first, or passes them
    abbrev pub Found : Q → List X → Type 0
    Found q xs = ((new : List X) × Each P new × ((zs : List X) → search_for m q (xs ++ zs) ≡ new ++ zs)) ⊎
        ((p : Q) × K p × ((zs : List X) → search_for m q (xs ++ zs) ≡ search_for m p zs))

    -- the free steps in front of other elements end among the first, or pass them
    abbrev pub Freed : List R → List X → Type 0
    Freed qs xs = (rs : List R) × Each G rs
        × (((zs : List X) → free_steps m qs (xs ++ zs) ≡ free_steps m rs zs) ⊎
        ((x : X) × (new : List X) × P x × Each P new × ((zs : List X) → free_steps m qs (xs ++ zs) ≡ x ∷ (new ++ map (gives m rs) zs))))

    abbrev pub FoundPlace : Replacement X Q → List X → Type 0
    FoundPlace p xs =
        ((new : List X) × Each P new × ((zs : List X) → placed m p (xs ++ zs) ≡ new ++ zs)) ⊎
        (((new : List X) × ((zs : List X) → placed m p (xs ++ zs) ≡ new)) ⊎
        ((q : Q) × K q × ((zs : List X) → placed m p (xs ++ zs) ≡ search_for m q zs)))

    module _ (c : Closed) where
      pub found : (q : Q) (xs : List X) → K q → Each P xs → Found q xs
      found q [] h k = inr (q, h, λ zs. refl)
      found q (x ∷ xs) h k = go (m.look q x) refl (c.looks q x h k.0) (λ p l. found p xs l k.1)
        where
          go : (l : Look X Q) → m.look q x ≡ l → LookOk l → ((p : Q) → K p → Found p xs) → Found q (x ∷ xs)
          go (Here ys) e ok next = inl (
            ys ++ xs,
            each-append P ys xs ok k.1,
            λ zs.
                ap (λ l. looked m l (λ p. search_for m p (xs ++ zs)) (xs ++ zs)) e ∙ sym (append-assoc ys xs zs),
          )
          go (On p) e ok next = elim (next p ok) [
            | inl f ↦ inl (f.0, f.1, λ zs. ap (λ l. looked m l (λ p. search_for m p (xs ++ zs)) (xs ++ zs)) e ∙ f.2 zs)
            | inr f ↦ inr (f.0, f.1, λ zs. ap (λ l. looked m l (λ p. search_for m p (xs ++ zs)) (xs ++ zs)) e ∙ f.2 zs)
          ]

      pub freed-found : (qs : List R) (xs : List X) → Each G qs → Each P xs → Freed qs xs
      freed-found qs [] h k = (qs, h, inl (λ zs. refl))
      freed-found qs (x ∷ xs) h k = go (m.act (gives m qs x)) refl (c.acts (gives m qs x) here)
          (λ new ok. freed-found (qs ++ new) xs (each-append G qs new h ok) k.1)
        where
          here : P (gives m qs x)
          here = gives-ok c qs x h k.0

          at : (zs : List X) (a : Act W X Q R) → m.act (gives m qs x) ≡ a → free_steps m qs ((x ∷ xs) ++ zs)
              ≡ freed m a (gives m qs x) (λ new. free_steps m (qs ++ new) (xs ++ zs)) (map (gives m qs) (xs ++ zs))
          at zs a e = ap (λ b. freed m b (gives m qs x) (λ new. free_steps m (qs ++ new) (xs ++ zs)) (map (gives m qs) (xs ++ zs))) e

          stays : (y : X) (zs : List X) → y ∷ map (gives m qs) (xs ++ zs) ≡ y ∷ (map (gives m qs) xs ++ map (gives m qs) zs)
          stays y zs = ap (λ l. y ∷ l) (map-seam qs xs zs)

          go : (a : Act W X Q R) → m.act (gives m qs x) ≡ a → ActOk a → ((new : List R) → Each G new → Freed (qs ++ new) xs)
              → Freed qs (x ∷ xs)
          go (Drops new) e ok next = elim (next new ok).2 [
            | inl f ↦ ((next new ok).0, (next new ok).1, inl (λ zs. at zs (Drops new) e ∙ f zs))
            | inr f ↦ ((next new ok).0, (next new ok).1, inr (f.0, f.1, f.2, f.3, λ zs. at zs (Drops new) e ∙ f.4 zs))
          ]
          go (Becomes y) e ok next = (qs, h, inr (y, map (gives m qs) xs, ok, map-ok c qs xs h k.1, λ zs. at zs (Becomes y) e ∙ stays y zs))
          go (Infers p) e ok next = (
            qs,
            h,
            inr (
              gives m qs x,
              map (gives m qs) xs,
              here,
              map-ok c qs xs h k.1,
              λ zs. at zs (Infers p) e
                  ∙ stays (gives m qs x) zs,
            ),
          )
          go (AsksWorld g) e ok next = (
            qs,
            h,
            inr (
              gives m qs x,
              map (gives m qs) xs,
              here,
              map-ok c qs xs h k.1,
              λ zs. at zs (AsksWorld g) e
                  ∙ stays (gives m qs x) zs,
            ),
          )

      pub placed-found : (p : Replacement X Q) (xs : List X) → PlaceOk p → Each P xs → FoundPlace p xs
      placed-found (Put ys) xs ok h = inl (ys ++ xs, each-append P ys xs ok h, λ zs. sym (append-assoc ys xs zs))
      placed-found (Only ys) xs ok h = inr (inl (ys, λ zs. refl))
      placed-found (Seek q) xs ok h = elim (found q xs ok h) [ inl f ↦ inl f | inr f ↦ inr (inr f) ]
