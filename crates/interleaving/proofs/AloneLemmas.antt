-- What a segment does by itself, as a function, is a private run; and a private run runs over anything that may be there.
use Rattle.std.proofs.Common.{◌≡◌, ℕ, zero, suc, Bool, true, false, cond, List, [], ◌∷◌, ◌++◌, map, Option, Some, None, refl, sym, ap}
use Rattle.std.proofs.Common.{◌∙◌, subst}
use Rattle.std.specs.Option.{option_map}
use Rattle.au_model.specs.Terms.Each.{Each}
use Rattle.interleaving.specs.Machine.{Machine, Act, Drops, Becomes, Infers, AsksWorld, Look, On, Here, Replacement, Put, Only, Seek, gives}
use Rattle.interleaving.specs.Machine.{freed}
use Rattle.interleaving.specs.Machine.{free_steps}
use Rattle.interleaving.specs.Segments.{IsActive, outer, found_in, search_in, placed_in, freed_alone, free_steps_alone, go_on}
use Rattle.interleaving.specs.Segments.{taken_alone, front_alone, run_alone, Private, private_none, private_drops, private_remains}
use Rattle.interleaving.specs.Segments.{private_changes, private_infers}
use Rattle.interleaving.proofs.RunFrontLemmas.{each-append, maps-append, map-seam, map-none, some-same}
use Rattle.interleaving.proofs.RunFrontLemmas.{none-some, take_free-map, PlaceOk, ActOk, LookOk, Closed, map-ok}
use Rattle.interleaving.proofs.EarlyLemmas.{Ground, Runs}
use Rattle.interleaving.proofs.JoinedLemmas.{runs-then, runs_step, resting, placed-within}
use Rattle.interleaving.proofs.AppendLemmas.{append-assoc, append-nil}

pub outer-append : {R : Type 0} → (inner : R → Bool) (rs qs : List R) → outer inner (rs ++ qs) ≡ outer inner rs ++ outer inner qs
outer-append inner [] qs = refl
outer-append inner (r ∷ rs) qs = go (inner r) (outer-append inner rs qs)
  where
    go : (t : Bool) → outer inner (rs ++ qs) ≡ outer inner rs ++ outer inner qs
        → cond t (outer inner (rs ++ qs)) (r ∷ outer inner (rs ++ qs)) ≡ cond t (outer inner rs) (r ∷ outer inner rs) ++ outer inner qs
    go true e = e
    go false e = ap (λ l. r ∷ l) e

abbrev ahead : {R X : Type 0} → List R → List R × List X → List R × List X
ahead first t = (first ++ t.0, t.1)

module _ {W X Q R : Type 0} (m : Machine W X Q R) (inner : R → Bool) where
  module _ (passes : List R → Bool) (standing : (x : X) (new : List R) → m.act x ≡ Drops new → m.act (m.stands x) ≡ Drops new) where
    record Rest (rs : List R) (xs : List X) (s : List R × List X) : Type 0 where
      pub out : List R
      pub joined : s.0 ≡ outer inner rs ++ out
      pub private : (k : ℕ) (qs : List R) (b : List X) → Private m inner k qs s.1 b → Private m inner k (out ++ qs) (map (gives m rs) xs) b

    stays : (rs : List R) (xs ys : List X)
        → ((k : ℕ) (qs : List R) (b : List X) → Private m inner k qs ys b → Private m inner k qs (map (gives m rs) xs) b)
        → Rest rs xs (outer inner rs, ys)
    stays rs xs ys h = record { out = []; joined = sym (append-nil (outer inner rs)); private = h }

    goes : (rs new : List R) (x : X) (xs : List X) (s : List R × List X) → m.act (gives m rs x) ≡ Drops new → Rest (rs ++ new) xs s
        → Rest rs (x ∷ xs) s
    goes rs new x xs s e n = record {
      out = outer inner new ++ n.out;
      joined = n.joined ∙ ap (λ l. l ++ n.out) (outer-append inner rs new) ∙ append-assoc (outer inner rs) (outer inner new) n.out;
      private = λ k qs b h.
          subst (λ l. Private m inner k l (gives m rs x ∷ map (gives m rs) xs) b) (sym (append-assoc (outer inner new) n.out qs))
          (private_drops k (gives m rs x) new (n.out ++ qs) (map (gives m rs) xs) b e
          (subst (λ l. Private m inner k (n.out ++ qs) l b) (maps-append m rs new xs) (n.private k qs b h)));
    }

    rest : (rs : List R) (xs : List X) → Rest rs xs (free_steps_alone m inner passes rs xs)
    rest rs [] = stays rs [] [] (λ k qs b h. h)
    rest rs (x ∷ xs) = go (m.act (gives m rs x)) refl (λ new. rest (rs ++ new) xs)
      where
        pick : (new : List R) → m.act (gives m rs x) ≡ Drops new
            → Rest (rs ++ new) xs (free_steps_alone m inner passes (rs ++ new) xs) → (t : Bool)
            → Rest rs (x ∷ xs) (cond t (free_steps_alone m inner passes (rs ++ new) xs)
            (outer inner rs, m.stands (gives m rs x) ∷ map (gives m rs) xs))
        pick new e n true = goes rs new x xs (free_steps_alone m inner passes (rs ++ new) xs) e n
        pick new e n false = stays rs (x ∷ xs) (m.stands (gives m rs x) ∷ map (gives m rs) xs)
            (λ k qs b h. private_remains k (gives m rs x) new qs (map (gives m rs) xs) b e (standing (gives m rs x) new e) h)

        go : (a : Act W X Q R) → m.act (gives m rs x) ≡ a
            → ((new : List R) → Rest (rs ++ new) xs (free_steps_alone m inner passes (rs ++ new) xs))
            → Rest rs (x ∷ xs) (freed_alone m inner passes a (gives m rs x) rs (λ new. free_steps_alone m inner passes (rs ++ new) xs)
            (map (gives m rs) xs))
        go (Drops new) e next = pick new e (next new) (passes new)
        go (Becomes z) e next = stays rs (x ∷ xs) (z ∷ map (gives m rs) xs)
            (λ k qs b h. private_changes k (gives m rs x) z qs (map (gives m rs) xs) b e h)
        go (Infers p) e next = stays rs (x ∷ xs) (gives m rs x ∷ map (gives m rs) xs) (λ k qs b h. h)
        go (AsksWorld p) e next = stays rs (x ∷ xs) (gives m rs x ∷ map (gives m rs) xs) (λ k qs b h. h)

    free_taken : (k : ℕ) (a b : List X) (qs : List R) → Private m inner k qs (free_steps_alone m inner passes [] a).1 b
        → Private m inner k ((free_steps_alone m inner passes [] a).0 ++ qs) a b
    free_taken k a b qs h =
        let n = rest [] a in
        subst (λ l. Private m inner k (l ++ qs) a b) (sym n.joined)
        (subst (λ l. Private m inner k (n.out ++ qs) l b) (map-none m a) (n.private k qs b h))

    record Taken (k : ℕ) (ys : List X) (first rs : List R) (b : List X) : Type 0 where
      pub later : List R
      pub joined : rs ≡ first ++ later
      pub private : Private m inner (suc k) later ys b

    front : (k : ℕ) → ((a b : List X) (rs : List R) → run_alone m inner passes k a ≡ Some (rs, b) → Private m inner k rs a b)
        → (first rs : List R) (b ys : List X) → option_map (ahead first) (front_alone m inner passes ys (run_alone m inner passes k))
        ≡ Some (rs, b) → Taken k ys first rs b
    front k ih first rs b [] e = none-some ((rs, b)) e
    front k ih first rs b (x ∷ xs) e = go (m.act x) refl e
      where
        taken : (p : Replacement X Q) (ys : List X) → m.act x ≡ Infers p → placed_in m p xs ≡ Some ys → (o : Option (List R × List X))
            → run_alone m inner passes k ys ≡ o → option_map (ahead first) o ≡ Some (rs, b) → Taken k (x ∷ xs) first rs b
        taken p ys f h None i e = none-some ((rs, b)) e
        taken p ys f h (Some t) i e =
            let whole : ahead first t ≡ (rs, b) = some-same (ahead first t) (rs, b) e in
            let same_rs : rs ≡ first ++ t.0 = sym (ap (λ s. s.0) whole) in
            let same_b : t.1 ≡ b = ap (λ s. s.1) whole in
            record {
              later = t.0;
              joined = same_rs;
              private = private_infers k x p t.0 xs ys b f h
                  (subst (λ l. Private m inner k t.0 ys l) same_b (ih ys t.1 t.0 i));
            }

        place : (p : Replacement X Q) → m.act x ≡ Infers p → (o : Option (List X)) → placed_in m p xs ≡ o
            → option_map (ahead first) (go_on m inner passes o (run_alone m inner passes k)) ≡ Some (rs, b)
            → Taken k (x ∷ xs) first rs b
        place p f None h e = none-some ((rs, b)) e
        place p f (Some ys) h e = taken p ys f h (run_alone m inner passes k ys) refl e

        go : (a : Act W X Q R) → m.act x ≡ a → option_map (ahead first) (taken_alone m inner passes a (run_alone m inner passes k) xs)
            ≡ Some (rs, b) → Taken k (x ∷ xs) first rs b
        go (Drops new) f e = none-some ((rs, b)) e
        go (Becomes y) f e = none-some ((rs, b)) e
        go (AsksWorld p) f e = none-some ((rs, b)) e
        go (Infers p) f e = place p f (placed_in m p xs) refl e

    pub private_of_alone : (k : ℕ) (a b : List X) (rs : List R) → run_alone m inner passes k a ≡ Some (rs, b) → Private m inner k rs a b
    private_of_alone zero a b rs e =
        let s = free_steps_alone m inner passes [] a in
        let both : s ≡ (rs, b) = some-same s (rs, b) e in
        subst (λ t. Private m inner zero t.0 a t.1) both
        (subst (λ l. Private m inner zero l a s.1) (append-nil s.0) (free_taken zero a s.1 [] (private_none s.1)))
    private_of_alone (suc k) a b rs e =
        let s = free_steps_alone m inner passes [] a in
        let t = front k (private_of_alone k) s.0 rs b s.1 e in
        subst (λ l. Private m inner (suc k) l a b) (sym t.joined) (free_taken (suc k) a b t.later t.private)

  -- over what may be there
  module _ (g : Ground m) (kept : (r : R) → inner r ≡ true → (z : X) → g.Under z → m.give r z ≡ z)
      (woken : (x y : X) → m.act x ≡ Becomes y → IsActive (m.act y)) where
    pub gives-outer : (rs : List R) (z : X) → g.Under z → gives m rs z ≡ gives m (outer inner rs) z
    gives-outer [] z h = refl
    gives-outer (r ∷ rs) z h = go (inner r) refl (λ y k. gives-outer rs y k)
      where
        go : (t : Bool) → inner r ≡ t → ((y : X) → g.Under y → gives m rs y ≡ gives m (outer inner rs) y) → gives m rs (m.give r z)
            ≡ gives m (cond t (outer inner rs) (r ∷ outer inner rs)) z
        go true e next = ap (gives m rs) (kept r e z h) ∙ next z h
        go false e next = next (m.give r z) (g.given r z h)

    pub map-outer : (rs : List R) (zs : List X) → Each g.Under zs → map (gives m rs) zs ≡ map (gives m (outer inner rs)) zs
    map-outer rs [] h = refl
    map-outer rs (z ∷ zs) h = let head = gives-outer rs z h.0 in let tail = map-outer rs zs h.1 in cc

    pub private_runs : (k : ℕ) (rs : List R) (a b : List X) → Private m inner k rs a b → Runs m g k rs a b
    private_runs k rs a b (private_none s) = λ zs z. ap (λ l. free_steps m [] (s ++ l)) (sym (map-none m zs))
    private_runs k rs a b (private_drops j x new qs xs s e r) =
        let first : Runs m g zero (outer inner new) (x ∷ xs) (map (gives m new) xs) = λ zs z.
        ap (λ a. freed m a x (λ o. free_steps m o (xs ++ zs)) (map (gives m []) (xs ++ zs))) e ∙ take_free-map m new (xs ++ zs)
        ∙ ap (free_steps m []) (map-seam m new xs zs ∙ ap (λ l. map (gives m new) xs ++ l) (map-outer new zs z)) in
        runs-then m g zero j (outer inner new) qs (x ∷ xs) (map (gives m new) xs) s first (private_runs j qs (map (gives m new) xs) s r)
    private_runs k rs a b (private_remains j x new qs xs s e f r) =
        let same : Runs m g zero [] (x ∷ xs) (m.stands x ∷ xs) = λ zs z.
        ap (λ a. freed m a x (λ o. free_steps m o (xs ++ zs)) (map (gives m []) (xs ++ zs))) e
        ∙ sym (ap (λ a. freed m a (m.stands x) (λ o. free_steps m o (xs ++ zs)) (map (gives m []) (xs ++ zs))) f)
        ∙ ap (λ l. free_steps m [] (m.stands x ∷ (xs ++ l))) (sym (map-none m zs)) in
        runs-then m g zero j [] qs (x ∷ xs) (m.stands x ∷ xs) s same (private_runs j qs (m.stands x ∷ xs) s r)
    private_runs k rs a b (private_changes j x y qs xs s e r) =
        let up : Runs m g zero [] (x ∷ xs) (y ∷ xs) = λ zs z.
        ap (λ a. freed m a x (λ o. free_steps m o (xs ++ zs)) (map (gives m []) (xs ++ zs))) e
        ∙ ap (λ l. y ∷ l) (map-none m (xs ++ zs) ∙ ap (λ l. xs ++ l) (sym (map-none m zs)))
        ∙ sym (resting m g y (woken x y e) (xs ++ map (gives m []) zs)) in
        runs-then m g zero j [] qs (x ∷ xs) (y ∷ xs) s up (private_runs j qs (y ∷ xs) s r)
    private_runs k rs a b (private_infers j x p qs xs s t e f r) =
        runs-then m g (suc zero) j [] qs (x ∷ xs) s t (runs_step m g x xs s p e (λ zs z. placed-within m g p xs s zs f))
        (private_runs j qs s t r)

  -- what a private run leaves has what its segment has
  module _ (P : X → Type 0) (K : Q → Type 0) (G : R → Type 0) (c : Closed m P K G) (stood : (x : X) → P x → P (m.stands x)) where
    search_in-ok : (q : Q) (xs b : List X) → K q → Each P xs → search_in m q xs ≡ Some b → Each P b
    search_in-ok q [] b k h e = none-some b e
    search_in-ok q (x ∷ xs) b k h e = go (m.look q x) (c.looks q x k h.0) e (λ p l f. search_in-ok p xs b l h.1 f)
      where
        go : (t : Look X Q) → LookOk m P K G t → found_in m t (λ p. search_in m p xs) xs ≡ Some b
            → ((p : Q) → K p → search_in m p xs ≡ Some b → Each P b) → Each P b
        go (On p) ok e next = next p ok e
        go (Here ys) ok e next = subst (Each P) (some-same (ys ++ xs) b e) (each-append P ys xs ok h.1)

    placed_in-ok : (p : Replacement X Q) (xs b : List X) → PlaceOk m P K G p → Each P xs → placed_in m p xs ≡ Some b → Each P b
    placed_in-ok (Put ys) xs b k h e = subst (Each P) (some-same (ys ++ xs) b e) (each-append P ys xs k h)
    placed_in-ok (Only ys) xs b k h e = none-some b e
    placed_in-ok (Seek q) xs b k h e = search_in-ok q xs b k h e

    pub private-ok : (k : ℕ) (rs : List R) (a b : List X) → Private m inner k rs a b → Each P a → Each P b
    private-ok k rs a b (private_none s) h = h
    private-ok k rs a b (private_drops j x new qs xs s e r) h = private-ok j qs (map (gives m new) xs) s r
        (map-ok m P K G c new xs (subst (ActOk m P K G) e (c.acts x h.0)) h.1)
    private-ok k rs a b (private_remains j x new qs xs s e f r) h = private-ok j qs (m.stands x ∷ xs) s r (stood x h.0, h.1)
    private-ok k rs a b (private_changes j x y qs xs s e r) h = private-ok j qs (y ∷ xs) s r (subst (ActOk m P K G) e (c.acts x h.0), h.1)
    private-ok k rs a b (private_infers j x p qs xs s t e f r) h = private-ok j qs s t r
        (placed_in-ok p xs s (subst (ActOk m P K G) e (c.acts x h.0)) h.1 f)
