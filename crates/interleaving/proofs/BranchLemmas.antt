-- Where the scopes of a branch end: below, and in the list to the right.
use Rattle.std.proofs.Common.{◌≡◌, ℕ, suc, ◌==◌, Bool, true, false, cond, List, [], ◌∷◌, ◌++◌, length, length-append, refl, sym, ap, ◌∙◌}
use Rattle.std.proofs.Common.{subst, arith}
use Rattle.tree_model.specs.Elements.{Name}
use Rattle.interleaving.specs.Erased.{from}
use Rattle.interleaving.specs.Sound.{IsMadeElsewhere}
use Rattle.tree_model.specs.Levels.{Level}
use Rattle.tree_model.specs.PendingLists.{Way, way_of, step_of, step_name, scope_on, back_of}
use Rattle.tree_model.specs.Ways.{is_on, way_from, way_above}
use Rattle.tree_model.specs.SoundTrees.{IsOpen}
use Rattle.interleaving.proofs.WayLemmas.{cond-false, cond-same, other_number}
use Rattle.interleaving.proofs.NamingLemmas.{from_end, from_own}
use Rattle.interleaving.proofs.RoundtripLemmas.{IsPath, part_from, part_above}
use Rattle.interleaving.proofs.ContextLemmas.{IsAround}
use Rattle.interleaving.proofs.ClosingSoundLemmas.{IsFree, free-above}
use Rattle.interleaving.proofs.NamedFloorLemmas.{right_named, below_named, from-level, scope-above}
use Rattle.interleaving.proofs.PublishedBareLemmas.{right_of}
use Rattle.interleaving.proofs.SkippedLemmas.{last_number, skip_right}
use Rattle.au_term.proofs.LogicLemmas.{true_false, number_same}

-- the levels from a node up
abbrev pub upto : List Level → ℕ → List Level
upto [] s = []
upto (v ∷ up) s = cond (v.number == s) (v ∷ up) (upto up s)

pub upto_way : (levels : List Level) (s : ℕ) → way_of (upto levels s) ≡ way_from (way_of levels) s
upto_way [] s = refl
upto_way (v ∷ up) s = go (v.number == s) (upto_way up s)
  where
    go : (b : Bool) → way_of (upto up s) ≡ way_from (way_of up) s → way_of (cond b (v ∷ up) (upto up s))
        ≡ cond b (way_of (v ∷ up)) (way_from (way_of up) s)
    go true h = refl
    go false h = h

pub not_that : (m s : ℕ) → (m == s) ≡ false → s ≡ m → ⊥
not_that m s h e = true_false (sym (number_same m) ∙ (ap (λ z. m == z) (sym e) ∙ h))

-- a scope ends at its level
pub below_from : (levels : List Level) (s : ℕ) → from (below_named levels) (scope_on (way_of levels) s) ≡ below_named (upto levels s)
below_from [] s = refl
below_from (v ∷ up) s = go (v.number == s) refl (below_from up s)
  where
    go : (b : Bool) → (v.number == s) ≡ b → from (below_named up) (scope_on (way_of up) s) ≡ below_named (upto up s)
        → from (below_named (v ∷ up)) (cond b (step_name (step_of v)) (scope_on (way_of up) s))
        ≡ below_named (cond b (v ∷ up) (upto up s))
    go true k f = from_own (step_name (step_of v)) (right_named v.number (suc (length v.left)) (way_of up) v.right ++ below_named up)
    go false k f = from-level v up s (not_that v.number s k) ∙ f

-- a name of two numbers
pub record IsPairOf (s : ℕ) (t : Name) : Type 0 where
  pub index : ℕ
  pub same : t ≡ index ∷ s ∷ []

pub scope_pair : (way : Way) (s : ℕ) → is_on way s ≡ true → IsPairOf s (scope_on way s)
scope_pair [] s h = absurd (true_false (sym h))
scope_pair (a ∷ way) s h = go (a.node == s) refl (scope_pair way s) h
  where
    go : (b : Bool) → (a.node == s) ≡ b → (is_on way s ≡ true → IsPairOf s (scope_on way s)) → cond b true (is_on way s) ≡ true
        → IsPairOf s (cond b (step_name a) (scope_on way s))
    go true e f k = let same : a.node ≡ s = grind arith in record { index = a.index; same = ap (λ m. a.index ∷ m ∷ []) same }
    go false e f k = f k

pub back_from : (next : ℕ) (levels : List Level) → IsFree next levels → IsAround levels IsOpen → (s : ℕ) → is_on (way_of levels) s
    ≡ true → from (back_of levels) (scope_on (way_of levels) s) ≡ back_of (upto levels s)
back_from next [] f a s h = absurd (true_false (sym h))
back_from next (v ∷ up) f a s h = go (v.number == s) refl (back_from next up (free-above next v up f) a.1 s) h
  where
    go : (b : Bool) → (v.number == s) ≡ b
        → (is_on (way_of up) s ≡ true → from (back_of up) (scope_on (way_of up) s) ≡ back_of (upto up s))
        → cond b true (is_on (way_of up) s) ≡ true →
        from (back_of (v ∷ up)) (cond b (step_name (step_of v)) (scope_on (way_of up) s)) ≡ back_of (cond b (v ∷ up) (upto up s))
    go true e g k = from_own (step_name (step_of v)) (right_of (v ∷ up))
    go false e g k =
        let pair = scope_pair (way_of up) s k in
        let apart : scope_on (way_of up) s ≡ step_name (step_of v)
        → ⊥ = (λ z. not_that v.number s e (last_number pair.index s (length v.left) v.number (sym pair.same ∙ z))) in
        from_end (step_name (step_of v)) (scope_on (way_of up) s) (right_of (v ∷ up)) apart
        ∙ (ap (from (right_of (v ∷ up))) pair.same
        ∙ (skip_right next v up f a.0.new pair.index s k ∙ (ap (from (back_of up)) (sym pair.same) ∙ g k)))

-- from a node up, scopes are the same
pub scope_upto : (levels : List Level) → IsPath (way_of levels) → (h r : ℕ) → is_on (way_of (upto levels h)) r ≡ true
    → scope_on (way_of (upto levels h)) r ≡ scope_on (way_of levels) r
scope_upto [] p h r o = refl
scope_upto (v ∷ up) p h r o = go (v.number == h) (scope_upto up p.1 h r) o
  where
    go : (b : Bool) → (is_on (way_of (upto up h)) r ≡ true → scope_on (way_of (upto up h)) r ≡ scope_on (way_of up) r)
        → is_on (way_of (cond b (v ∷ up) (upto up h))) r ≡ true → scope_on (way_of (cond b (v ∷ up) (upto up h))) r
        ≡ scope_on (way_of (v ∷ up)) r
    go true f k = refl
    go false f k =
        let on : is_on (way_of up) r ≡ true = part_from (way_of up) h r (subst (λ w. is_on w r ≡ true) (upto_way up h) k) in
        f k ∙ sym (scope-above (step_of v) (way_of up) r (other_number (way_of up) v.number r p.0 on (v.number == r) refl))

pub upto_upto : (levels : List Level) → IsPath (way_of levels) → (h r : ℕ) → is_on (way_of (upto levels h)) r ≡ true
    → upto (upto levels h) r ≡ upto levels r
upto_upto [] p h r o = refl
upto_upto (v ∷ up) p h r o = go (v.number == h) (upto_upto up p.1 h r) o
  where
    go : (b : Bool) → (is_on (way_of (upto up h)) r ≡ true → upto (upto up h) r ≡ upto up r)
        → is_on (way_of (cond b (v ∷ up) (upto up h))) r ≡ true → upto (cond b (v ∷ up) (upto up h)) r ≡ upto (v ∷ up) r
    go true f k = refl
    go false f k =
        let on : is_on (way_of up) r ≡ true = part_from (way_of up) h r (subst (λ w. is_on w r ≡ true) (upto_way up h) k) in
        f k ∙ sym (cond-false (v.number == r) (v ∷ up) (upto up r) (other_number (way_of up) v.number r p.0 on (v.number == r) refl))

-- a scope after another
pub below_after : (levels : List Level) → IsPath (way_of levels) → (h r : ℕ) → is_on (way_from (way_of levels) h) r ≡ true
    → from (below_named (upto levels h)) (scope_on (way_of levels) r) ≡ below_named (upto levels r)
below_after levels p h r o =
    let on : is_on (way_of (upto levels h)) r ≡ true = subst (λ w. is_on w r ≡ true) (sym (upto_way levels h)) o in
    ap (from (below_named (upto levels h))) (sym (scope_upto levels p h r on))
    ∙ (below_from (upto levels h) r ∙ ap below_named (upto_upto levels p h r on))

-- parts of ways
pub from_from : (way : Way) → IsPath way → (h s r : ℕ) → is_on (way_from way h) s ≡ true → is_on (way_from (way_from way h) s) r ≡ true
    → is_on (way_from way s) r ≡ true
from_from [] p h s r o k = k
from_from (a ∷ way) p h s r o k = go (a.node == h) (from_from way p.1 h s r) o k
  where
    go : (b : Bool) → (is_on (way_from way h) s ≡ true → is_on (way_from (way_from way h) s) r ≡ true → is_on (way_from way s) r ≡ true)
        → is_on (cond b (a ∷ way) (way_from way h)) s ≡ true → is_on (way_from (cond b (a ∷ way) (way_from way h)) s) r ≡ true
        → is_on (way_from (a ∷ way) s) r ≡ true
    go true f x y = y
    go false f x y =
        let off : (a.node == s) ≡ false = other_number way a.node s p.0 (part_from way h s x) (a.node == s) refl in
        subst (λ w. is_on w r ≡ true) (sym (cond-false (a.node == s) (a ∷ way) (way_from way s) off)) (f x y)

pub above_from : (way : Way) → IsPath way → (h s r : ℕ) → is_on (way_above way h) s ≡ true → is_on (way_from (way_above way h) s) r
    ≡ true → is_on (way_from way s) r ≡ true
above_from [] p h s r o k = k
above_from (a ∷ way) p h s r o k = go (a.node == h) (above_from way p.1 h s r) o k
  where
    go : (b : Bool) → (is_on (way_above way h) s ≡ true → is_on (way_from (way_above way h) s) r ≡ true → is_on (way_from way s) r
        ≡ true) → is_on (cond b way (way_above way h)) s ≡ true → is_on (way_from (cond b way (way_above way h)) s) r ≡ true
        → is_on (way_from (a ∷ way) s) r ≡ true
    go true f x y =
        let off : (a.node == s) ≡ false = other_number way a.node s p.0 x (a.node == s) refl in
        subst (λ w. is_on w r ≡ true) (sym (cond-false (a.node == s) (a ∷ way) (way_from way s) off)) y
    go false f x y =
        let off : (a.node == s) ≡ false = other_number way a.node s p.0 (part_above way h s x) (a.node == s) refl in
        subst (λ w. is_on w r ≡ true) (sym (cond-false (a.node == s) (a ∷ way) (way_from way s) off)) (f x y)

pub above_in_from : (way : Way) (h r : ℕ) → is_on (way_above way h) r ≡ true → is_on (way_from way h) r ≡ true
above_in_from [] h r o = o
above_in_from (a ∷ way) h r o = go (a.node == h) (above_in_from way h r) o
  where
    go : (b : Bool) → (is_on (way_above way h) r ≡ true → is_on (way_from way h) r ≡ true) → is_on (cond b way (way_above way h)) r
        ≡ true → is_on (cond b (a ∷ way) (way_from way h)) r ≡ true
    go true f k = cond-same (a.node == r) true (is_on way r) k
    go false f k = f k

-- a name of two numbers was not made by an entry of three
pub pair_older : (p : Name) → length p ≡ 3 → (k m : ℕ) → IsMadeElsewhere p (k ∷ m ∷ [])
pair_older p l k m more e = absurd (omega (arith, l, length-append more p, ap length e))
