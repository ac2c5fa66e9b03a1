-- Sorted lists with the same terms, those that tie in the same order, are the same.
use Rattle.std.proofs.Common.{◌≡◌, ℕ, suc, ◌+◌, ◌<◌, Bool, true, false, cond, not, ◌&&◌, List, [], ◌∷◌, length, get_or, refl, sym, ap, ap₂, ◌∙◌, subst, arith}
use Rattle.std.specs.List.{filter}
use Rattle.std.specs.List.Sorted.{IsSortedBy, ties}
use Rattle.std.specs.Cmp.{IsStrictWeakOrder}
use Rattle.std.proofs.lemmas.List.Sorted.{sorted_far}
use Rattle.std.proofs.lemmas.Bool.{false≢true}
use Rattle.au_term.specs.Term.{Term}
use Rattle.au_model.specs.Terms.Each.{Each}
use Rattle.run_model.specs.Goals.Sorting.{insert_by, sorted_by}

-- none is less than those before it
abbrev Up : (Term → Term → Bool) → List Term → Type 0
Up less [] = Unit {0}
Up less (t ∷ ts) = Each (λ u. less u t ≡ false) ts × Up less ts

each_from : (P : Term → Type 0) (ts : List Term) → ((k : ℕ) (d : Term) → k < length ts → P (get_or ts k d)) → Each P ts
each_from P [] h = tt
each_from P (t ∷ ts) h = (h 0 t (omega arith), each_from P ts (λ k d lt. h (suc k) d (omega arith)))

each_filter : (P : Term → Type 0) (p : Term → Bool) (ts : List Term) → Each P ts → Each P (filter p ts)
each_filter P p [] h = tt
each_filter P p (t ∷ ts) h = by (p t) (each_filter P p ts h.1)
  where
    by : (b : Bool) → Each P (filter p ts) → Each P (cond b (t ∷ filter p ts) (filter p ts))
    by true k = (h.0, k)
    by false k = k

abbrev head_of : Term → List Term → Term
head_of d [] = d
head_of d (t ∷ ts) = t

abbrev tail_of : List Term → List Term
tail_of [] = []
tail_of (t ∷ ts) = ts

module _ (less : Term → Term → Bool) (o : IsStrictWeakOrder less) where
  itself : (t : Term) → less t t ≡ false
  itself t = by (less t t) refl
    where
      by : (b : Bool) → less t t ≡ b → b ≡ false
      by true e = absurd (false≢true (sym (o.one_way t t e) ∙ e))
      by false e = refl

  up : (ts : List Term) → IsSortedBy less ts → Up less ts
  up [] h = tt
  up (t ∷ ts) h = (
    each_from (λ u. less u t ≡ false) ts (λ k d lt. sorted_far less o (t ∷ ts) h 0 (suc k) d (omega arith) (omega arith)),
    up ts (λ k d low lt. let e : suc (k + 1) ≡ suc k + 1 = omega arith in ap (λ n. less (get_or (t ∷ ts) n d) (get_or ts k d)) e ∙ h (suc k) d (omega arith) (omega arith)),
  )

  -- what is inserted
  low_inserted : (x t : Term) (ts : List Term) → less t x ≡ false → Each (λ u. less u x ≡ false) ts → Each (λ u. less u x ≡ false) (insert_by less t ts)
  low_inserted x t [] h k = (h, tt)
  low_inserted x t (u ∷ us) h k = by (less u t) (low_inserted x t us h k.1)
    where
      by : (b : Bool) → Each (λ v. less v x ≡ false) (insert_by less t us) → Each (λ v. less v x ≡ false) (cond b (u ∷ insert_by less t us) (t ∷ (u ∷ us)))
      by true j = (k.0, j)
      by false j = (h, k)

  low_all : (t u : Term) (us : List Term) → less u t ≡ false → Each (λ v. less v u ≡ false) us → Each (λ v. less v t ≡ false) us
  low_all t u [] h k = tt
  low_all t u (v ∷ us) h k = (o.chain v u t k.0 h, low_all t u us h k.1)

  up_inserted : (t : Term) (ts : List Term) → Up less ts → Up less (insert_by less t ts)
  up_inserted t [] h = (tt, tt)
  up_inserted t (u ∷ us) h = by (less u t) refl (up_inserted t us h.1)
    where
      by : (b : Bool) → less u t ≡ b → Up less (insert_by less t us) → Up less (cond b (u ∷ insert_by less t us) (t ∷ (u ∷ us)))
      by true e k = (low_inserted u t us (o.one_way u t e) h.0, k)
      by false e k = ((e, low_all t u us e h.0), h)

  up_sorted : (ts : List Term) → Up less (sorted_by less ts)
  up_sorted [] = tt
  up_sorted (t ∷ ts) = up_inserted t (sorted_by less ts) (up_sorted ts)

  -- terms that tie keep their order
  apart : (x t u : Term) → less u t ≡ true → ties less x t ≡ true → ties less x u ≡ false
  apart x t u h k = by (less x t) (less t x) (less x u) (less u x) refl refl refl refl k
    where
      by : (a b c d : Bool) → less x t ≡ a → less t x ≡ b → less x u ≡ c → less u x ≡ d → (not a && not b) ≡ true → (not c && not d) ≡ false
      by true b c d e f g i j = absurd (false≢true j)
      by false true c d e f g i j = absurd (false≢true j)
      by false false true d e f g i j = refl
      by false false false true e f g i j = refl
      by false false false false e f g i j = absurd (false≢true (sym (o.chain u x t i e) ∙ h))

  same_filters : (x t : Term) (ts : List Term) → filter (ties less x) (insert_by less t ts) ≡ filter (ties less x) (t ∷ ts)
  same_filters x t [] = refl
  same_filters x t (u ∷ us) = by (less u t) refl (same_filters x t us)
    where
      p : Term → Bool
      p = ties less x

      turned : (a b : Bool) → (a ≡ true → b ≡ false) → cond b (u ∷ cond a (t ∷ filter p us) (filter p us)) (cond a (t ∷ filter p us) (filter p us)) ≡ cond a (t ∷ cond b (u ∷ filter p us) (filter p us)) (cond b (u ∷ filter p us) (filter p us))
      turned true true h = absurd (false≢true (sym (h refl)))
      turned true false h = refl
      turned false true h = refl
      turned false false h = refl

      by : (b : Bool) → less u t ≡ b → filter p (insert_by less t us) ≡ filter p (t ∷ us) → filter p (cond b (u ∷ insert_by less t us) (t ∷ (u ∷ us))) ≡ filter p (t ∷ (u ∷ us))
      by true e k = ap (λ vs. cond (p u) (u ∷ vs) vs) k ∙ turned (p t) (p u) (apart x t u e)
      by false e k = refl

  filters_sorted : (x : Term) (ts : List Term) → filter (ties less x) (sorted_by less ts) ≡ filter (ties less x) ts
  filters_sorted x [] = refl
  filters_sorted x (t ∷ ts) = same_filters x t (sorted_by less ts) ∙ ap (λ vs. cond (ties less x t) (t ∷ vs) vs) (filters_sorted x ts)

  -- one list of that kind
  tie_itself : (t : Term) → ties less t t ≡ true
  tie_itself t = ap₂ (λ a b. not a && not b) (itself t) (itself t)

  first_kept : (t : Term) (ts : List Term) → filter (ties less t) (t ∷ ts) ≡ t ∷ filter (ties less t) ts
  first_kept t ts = ap (λ b. cond b (t ∷ filter (ties less t) ts) (filter (ties less t) ts)) (tie_itself t)

  below_first : (t u : Term) (us vs : List Term) → filter (ties less t) (u ∷ us) ≡ t ∷ vs → Each (λ v. less v u ≡ false) us → less t u ≡ false
  below_first t u us vs e low =
      let all : Each (λ v. less v u ≡ false) (filter (ties less t) (u ∷ us)) = each_filter (λ v. less v u ≡ false) (ties less t) (u ∷ us) (itself u, low) in
      let found : Each (λ v. less v u ≡ false) (t ∷ vs) = subst (Each (λ v. less v u ≡ false)) e all in found.0

  without : (b : Bool) (t : Term) (us vs : List Term) → cond b (t ∷ us) us ≡ cond b (t ∷ vs) vs → us ≡ vs
  without true t us vs e = ap tail_of e
  without false t us vs e = e

  pub same_sorted : (ts us : List Term) → Up less ts → Up less us → ((x : Term) → filter (ties less x) ts ≡ filter (ties less x) us) → ts ≡ us
  same_sorted [] [] h k e = refl
  same_sorted [] (u ∷ us) h k e = let some : [] ≡ u ∷ filter (ties less u) us = e u ∙ first_kept u us in absurd cc
  same_sorted (t ∷ ts) [] h k e = let some : t ∷ filter (ties less t) ts ≡ [] = sym (first_kept t ts) ∙ e t in absurd cc
  same_sorted (t ∷ ts) (u ∷ us) h k e =
      let first : less t u ≡ false = below_first t u us (filter (ties less t) ts) (sym (e t) ∙ first_kept t ts) k.0 in
      let second : less u t ≡ false = below_first u t ts (filter (ties less u) us) (e u ∙ first_kept u us) h.0 in
      let tie : ties less t u ≡ true = ap₂ (λ a b. not a && not b) first second in
      let heads : t ∷ filter (ties less t) ts ≡ u ∷ filter (ties less t) us = sym (first_kept t ts) ∙ (e t ∙ ap (λ b. cond b (u ∷ filter (ties less t) us) (filter (ties less t) us)) tie) in
      let same : t ≡ u = ap (head_of t) heads in
      let rest : ts ≡ us = same_sorted ts us h.1 k.1 (λ x. without (ties less x t) t (filter (ties less x) ts) (filter (ties less x) us) (e x ∙ ap (λ v. cond (ties less x v) (v ∷ filter (ties less x) us) (filter (ties less x) us)) (sym same))) in
      ap₂ (λ v vs. v ∷ vs) same rest

  -- what a stable sort gives
  pub sorted_is : (old new : List Term) → IsSortedBy less new → ((x : Term) → filter (ties less x) new ≡ filter (ties less x) old) → new ≡ sorted_by less old
  sorted_is old new h stable = same_sorted new (sorted_by less old) (up new h) (up_sorted old) (λ x. stable x ∙ sym (filters_sorted x old))
