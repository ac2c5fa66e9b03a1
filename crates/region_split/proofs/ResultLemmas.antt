-- Results of findalls, whose variables are numbered from the next number on at the time of the call.
use Rattle.std.proofs.Common.{◌≡◌, ℕ, ◌+◌, ◌≤◌, List, [], ◌∷◌, ◌++◌, length, refl, sym, ap, ap₂, ◌∙◌, arith}
use Rattle.au_term.specs.Term.{Term, Terms, VarTerm, IntTerm, AtomTerm, Compound, end, more, var_bound, all_bound}
use Rattle.au_model.specs.Terms.Copies.{copied, copy_takes, place_of, renamed, seen_in, seen_in_all}
use Rattle.au_model.specs.Terms.Substitutions.{Substitution, apply, apply_all, value_of, resolve}
use Rattle.au_model.proofs.ApplyLemmas.{apply-same, apply-apply, two}
use Rattle.au_model.proofs.EachLemmas.{each-append, each-more}
use Rattle.au_model.proofs.VariableBoundLemmas.{copied-below}
use Rattle.region_split.specs.ResultLists.{ResultsView, with_copy, IsNumberedFrom, AreResultsFrom}

-- new variables are not bound
pub copy_unbound : (s : Substitution) (t : Term) (next : ℕ) → ((n : ℕ) → next ≤ n → value_of s n ≡ VarTerm n) → resolve s (copied t next) ≡ copied t next
copy_unbound s t next free =
    apply-apply (value_of s) (renamed (seen_in t []) next) t
    ∙ apply-same (λ n. value_of s (next + place_of (seen_in t []) n)) (renamed (seen_in t []) next) (λ n. free (next + place_of (seen_in t []) n) (omega arith)) t

pub no_results : (first next : ℕ) → first ≤ next → AreResultsFrom first (record { terms = []; next = next })
no_results first next le = record { next = le; above = tt; below = tt }

pub more_results : (first : ℕ) (t : Term) (r : ResultsView) → AreResultsFrom first r → AreResultsFrom first (with_copy t r)
more_results first t r a = record {
  next = let n = a.next in omega (arith, n);
  above = each-append (IsNumberedFrom first) r.terms (copied t r.next ∷ []) a.above ((λ s free. copy_unbound s t r.next (λ n le. free n (let k = a.next in omega (arith, k, le)))), tt);
  below =
      each-append (λ u. var_bound u ≤ r.next + copy_takes t) r.terms (copied t r.next ∷ [])
      (each-more (λ u. var_bound u ≤ r.next) (λ u. var_bound u ≤ r.next + copy_takes t) (λ u le. omega (arith, le)) r.terms a.below)
      (copied-below t r.next, tt);
}

-- a term without variables is its own copy
abbrev mutual
  pub none_seen : (t : Term) (seen : List ℕ) → var_bound t ≡ 0 → seen_in t seen ≡ seen
  none_seen (VarTerm n) seen e = absurd (omega (arith, e))
  none_seen (IntTerm z) seen e = refl
  none_seen (AtomTerm a) seen e = refl
  none_seen (Compound f ts) seen e = none_seen_in ts seen e

  none_seen_in : (ts : Terms) (seen : List ℕ) → all_bound ts ≡ 0 → seen_in_all ts seen ≡ seen
  none_seen_in end seen e = refl
  none_seen_in (more t ts) seen e = ap (seen_in_all ts) (none_seen t seen (omega (arith, e))) ∙ none_seen_in ts seen (omega (arith, e))

abbrev mutual
  pub none_renamed : (f : ℕ → Term) (t : Term) → var_bound t ≡ 0 → apply f t ≡ t
  none_renamed f (VarTerm n) e = absurd (omega (arith, e))
  none_renamed f (IntTerm z) e = refl
  none_renamed f (AtomTerm a) e = refl
  none_renamed f (Compound name ts) e = ap (Compound name) (none_renamed_in f ts e)

  none_renamed_in : (f : ℕ → Term) (ts : Terms) → all_bound ts ≡ 0 → apply_all f ts ≡ ts
  none_renamed_in f end e = refl
  none_renamed_in f (more t ts) e = two (none_renamed f t (omega (arith, e))) (none_renamed_in f ts (omega (arith, e)))

pub own_copy : (t : Term) (r : ResultsView) → var_bound t ≡ 0 → record { terms = r.terms ++ t ∷ []; next = r.next } ≡ with_copy t r
own_copy t r e =
    let term : t ≡ copied t r.next = sym (none_renamed (renamed (seen_in t []) r.next) t e) in
    let takes : copy_takes t ≡ 0 = ap length (none_seen t [] e) in
    let next : r.next ≡ r.next + copy_takes t = omega (arith, takes) in
    ap₂ (λ u n. (let v : ResultsView = record { terms = r.terms ++ u ∷ []; next = n } in v)) term next
