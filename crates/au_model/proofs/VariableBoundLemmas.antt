-- How substitutions, copies and unifiers keep variables below a number.
use Rattle.std.proofs.Common.{◌≡◌, ◌⊎◌, inl, inr, ℕ, suc, ◌+◌, ◌<◌, ◌≤◌, max, Bool, true, false, ◌||◌, cond, List, [], ◌∷◌, ◌++◌, length, ◌==◌, Option, Some, None, refl, sym, subst, arith}
use Rattle.std.specs.List.{list_any}
use Rattle.std.specs.Option.{option_map}
use Rattle.std.proofs.lemmas.Bool.{eq-eqb}
use Rattle.au_term.specs.Term.{Term, VarTerm, IntTerm, AtomTerm, Compound, Terms, end, more, var_bound, all_bound}
use Rattle.au_model.specs.Terms.Substitutions.{Substitution, apply, apply_all, value_of, only}
use Rattle.au_model.specs.Terms.Unifier.{Equations, Rule, Dropped, Replaced, Opened, Clash, rule, pairs, replace, bound, by_rule, unifier, equations_bound}
use Rattle.au_model.specs.Terms.Copies.{noted, seen_in, seen_in_all, place_of, renamed, copied, copy_takes}
use Rattle.au_model.proofs.ApplyLemmas.{value_of-bound}
use Rattle.au_model.proofs.UnifierRuleLemmas.{Says, rule_says}
use Rattle.au_model.proofs.UnifierLemmas.{Next, by_rules, unifier-first}

-- a substitution that keeps variables below a number keeps terms below it
mutual
  pub apply-below : (f : ℕ → Term) (b c : ℕ) → ((n : ℕ) → n < b → var_bound (f n) ≤ c) → (t : Term) → var_bound t ≤ b → var_bound (apply f t) ≤ c
  apply-below f b c k (VarTerm n) h = k n (omega arith)
  apply-below f b c k (IntTerm z) h = omega arith
  apply-below f b c k (AtomTerm a) h = omega arith
  apply-below f b c k (Compound name ts) h = apply_all-below f b c k ts h

  pub apply_all-below : (f : ℕ → Term) (b c : ℕ) → ((n : ℕ) → n < b → var_bound (f n) ≤ c) → (ts : Terms) → all_bound ts ≤ b → all_bound (apply_all f ts) ≤ c
  apply_all-below f b c k end h = omega arith
  apply_all-below f b c k (more t ts) h = omega (arith, apply-below f b c k t (omega arith), apply_all-below f b c k ts (omega arith))

-- equations and what they stand for
only-below : (x : ℕ) (t : Term) (b : ℕ) → var_bound t ≤ b → (n : ℕ) → n < b → var_bound (only x t n) ≤ b
only-below x t b h n lt = go (x == n)
  where
    go : (c : Bool) → var_bound (cond c t (VarTerm n)) ≤ b
    go true = h
    go false = omega arith

replace-below : (x : ℕ) (t : Term) (b : ℕ) → var_bound t ≤ b → (eqs : Equations) → equations_bound eqs ≤ b → equations_bound (replace x t eqs) ≤ b
replace-below x t b h [] k = omega arith
replace-below x t b h (e ∷ eqs) k =
    omega (arith, apply-below (only x t) b b (only-below x t b h) e.0 (omega arith), apply-below (only x t) b b (only-below x t b h) e.1 (omega arith), replace-below x t b h eqs (omega arith))

pairs-below : (ts us : Terms) (b : ℕ) → all_bound ts ≤ b → all_bound us ≤ b → equations_bound (pairs ts us) ≤ b
pairs-below end us b h k = omega arith
pairs-below (more t ts) end b h k = omega arith
pairs-below (more t ts) (more u us) b h k = omega (arith, pairs-below ts us b (omega arith) (omega arith))

pub equations_bound-append : (es eqs : Equations) (b : ℕ) → equations_bound es ≤ b → equations_bound eqs ≤ b → equations_bound (es ++ eqs) ≤ b
equations_bound-append [] eqs b h k = k
equations_bound-append (e ∷ es) eqs b h k = omega (arith, equations_bound-append es eqs b (omega arith) k)

-- no variable below the number stands for one that isn't
abbrev pub KeepsBelow : ℕ → Option Substitution → Type 0
KeepsBelow b None = Unit {0}
KeepsBelow b (Some s) = (n : ℕ) → n < b → var_bound (value_of s n) ≤ b

Stays : Equations → Type 0
Stays eqs = (b : ℕ) → equations_bound eqs ≤ b → KeepsBelow b (unifier eqs)

bound_keeps : (x : ℕ) (t : Term) (b : ℕ) (o : Option Substitution) → var_bound t ≤ b → KeepsBelow b o → KeepsBelow b (option_map (bound x t) o)
bound_keeps x t b None h k = tt
bound_keeps x t b (Some s) h k = λ n lt. subst (λ u. var_bound u ≤ b) (sym (value_of-bound s x t n)) (apply-below (value_of s) b b k (only x t n) (only-below x t b h n lt))

bound_term : (l r : Term) (x : ℕ) (t : Term) (b : ℕ) → ((l ≡ VarTerm x) × (r ≡ t)) ⊎ ((l ≡ t) × (r ≡ VarTerm x)) → var_bound l ≤ b → var_bound r ≤ b → var_bound t ≤ b
bound_term l r x t b (inl p) h k = subst (λ u. var_bound u ≤ b) p.1 k
bound_term l r x t b (inr p) h k = subst (λ u. var_bound u ≤ b) p.0 h

stays_by : (l r : Term) (eqs : Equations) (t : Rule) → Says l r t → Next Stays t eqs → (b : ℕ) → max (max (var_bound l) (var_bound r)) (equations_bound eqs) ≤ b → KeepsBelow b (by_rule t eqs unifier)
unfolding Stays
stays_by l r eqs Dropped s h b k = h b (omega arith)
stays_by l r eqs (Replaced x t) s h b k =
    let low : var_bound t ≤ b = bound_term l r x t b s.sides (omega arith) (omega arith) in
    bound_keeps x t b (unifier (replace x t eqs)) low (h b (replace-below x t b low eqs (omega arith)))
stays_by l r eqs (Opened es) s h b k =
    let left : var_bound (Compound s.name s.left) ≤ b = subst (λ u. var_bound u ≤ b) s.a_is (omega arith) in
    let right : var_bound (Compound s.name s.right) ≤ b = subst (λ u. var_bound u ≤ b) s.b_is (omega arith) in
    let opened : equations_bound es ≤ b = subst (λ e. equations_bound e ≤ b) (sym s.es_are) (pairs-below s.left s.right b left right) in
    h b (equations_bound-append es eqs b opened (omega arith))
stays_by l r eqs Clash s h b k = tt

none_stays : Stays []
unfolding Stays unifier
none_stays b h = λ n lt. omega arith

first_stays : (l r : Term) (eqs : Equations) → Next Stays (rule l r) eqs → Stays ((l, r) ∷ eqs)
unfolding Stays
first_stays l r eqs h b k = subst (KeepsBelow b) (sym (unifier-first l r eqs)) (stays_by l r eqs (rule l r) (rule_says l r) h b k)

pub unifier_below : (eqs : Equations) (b : ℕ) → equations_bound eqs ≤ b → KeepsBelow b (unifier eqs)
unfolding Stays
unifier_below = by_rules Stays none_stays first_stays

-- which variables were seen
abbrev pub IsSeen : List ℕ → ℕ → Type 0
IsSeen seen n = place_of seen n < length seen

abbrev mutual
  pub AllSeen : List ℕ → Term → Type 0
  AllSeen seen (VarTerm n) = IsSeen seen n
  AllSeen seen (IntTerm z) = Unit {0}
  AllSeen seen (AtomTerm a) = Unit {0}
  AllSeen seen (Compound f ts) = AreAllSeen seen ts

  pub AreAllSeen : List ℕ → Terms → Type 0
  AreAllSeen seen end = Unit {0}
  AreAllSeen seen (more t ts) = AllSeen seen t × AreAllSeen seen ts

place-before : (seen further_on : List ℕ) (n : ℕ) → place_of seen n < length seen → place_of (seen ++ further_on) n < length (seen ++ further_on)
place-before [] further_on n h = absurd (omega arith)
place-before (m ∷ seen) further_on n h = go (place-before seen further_on n) (m == n) h
  where
    go : (place_of seen n < length seen → place_of (seen ++ further_on) n < length (seen ++ further_on)) → (b : Bool) → cond b 0 (suc (place_of seen n)) < suc (length seen) → cond b 0 (suc (place_of (seen ++ further_on) n)) < suc (length (seen ++ further_on))
    go further true k = omega arith
    go further false k = omega (arith, further (omega arith))

place-last : (seen : List ℕ) (n : ℕ) → place_of (seen ++ n ∷ []) n < length (seen ++ n ∷ [])
place-last [] n = let e = eq-eqb n n refl in rw e (omega arith)
place-last (m ∷ seen) n = go (place-last seen n) (m == n)
  where
    go : place_of (seen ++ n ∷ []) n < length (seen ++ n ∷ []) → (b : Bool) → cond b 0 (suc (place_of (seen ++ n ∷ []) n)) < suc (length (seen ++ n ∷ []))
    go further true = omega arith
    go further false = omega arith

place-any : (seen : List ℕ) (n : ℕ) → list_any (λ m. m == n) seen ≡ true → place_of seen n < length seen
place-any [] n h = cc
place-any (m ∷ seen) n h = go (place-any seen n) (m == n) h
  where
    go : (list_any (λ k. k == n) seen ≡ true → place_of seen n < length seen) → (b : Bool) → (b || list_any (λ k. k == n) seen) ≡ true → cond b 0 (suc (place_of seen n)) < suc (length seen)
    go further true e = omega arith
    go further false e = omega (arith, further e)

noted-keeps : (seen : List ℕ) (m n : ℕ) → IsSeen seen n → IsSeen (noted seen m) n
noted-keeps seen m n h = go (list_any (λ k. k == m) seen)
  where
    go : (b : Bool) → IsSeen (cond b seen (seen ++ m ∷ [])) n
    go true = h
    go false = place-before seen (m ∷ []) n h

pub noted-seen : (seen : List ℕ) (n : ℕ) → IsSeen (noted seen n) n
noted-seen seen n = go (list_any (λ k. k == n) seen) refl
  where
    go : (b : Bool) → list_any (λ k. k == n) seen ≡ b → IsSeen (cond b seen (seen ++ n ∷ [])) n
    go true e = place-any seen n e
    go false e = place-last seen n

mutual
  seen-keeps : (t : Term) (seen : List ℕ) (n : ℕ) → IsSeen seen n → IsSeen (seen_in t seen) n
  seen-keeps (VarTerm m) seen n h = noted-keeps seen m n h
  seen-keeps (IntTerm z) seen n h = h
  seen-keeps (AtomTerm a) seen n h = h
  seen-keeps (Compound f ts) seen n h = seen_all-keeps ts seen n h

  seen_all-keeps : (ts : Terms) (seen : List ℕ) (n : ℕ) → IsSeen seen n → IsSeen (seen_in_all ts seen) n
  seen_all-keeps end seen n h = h
  seen_all-keeps (more t ts) seen n h = seen_all-keeps ts (seen_in t seen) n (seen-keeps t seen n h)

mutual
  AllSeen-more : (seen later : List ℕ) → ((n : ℕ) → IsSeen seen n → IsSeen later n) → (t : Term) → AllSeen seen t → AllSeen later t
  AllSeen-more seen later k (VarTerm n) h = k n h
  AllSeen-more seen later k (IntTerm z) h = tt
  AllSeen-more seen later k (AtomTerm a) h = tt
  AllSeen-more seen later k (Compound f ts) h = AreAllSeen-more seen later k ts h

  AreAllSeen-more : (seen later : List ℕ) → ((n : ℕ) → IsSeen seen n → IsSeen later n) → (ts : Terms) → AreAllSeen seen ts → AreAllSeen later ts
  AreAllSeen-more seen later k end h = tt
  AreAllSeen-more seen later k (more t ts) h = (AllSeen-more seen later k t h.0, AreAllSeen-more seen later k ts h.1)

-- a term's own variables are seen in it
mutual
  pub all_seen : (t : Term) (seen : List ℕ) → AllSeen (seen_in t seen) t
  all_seen (VarTerm n) seen = noted-seen seen n
  all_seen (IntTerm z) seen = tt
  all_seen (AtomTerm a) seen = tt
  all_seen (Compound f ts) seen = are_all_seen ts seen

  pub are_all_seen : (ts : Terms) (seen : List ℕ) → AreAllSeen (seen_in_all ts seen) ts
  are_all_seen end seen = tt
  are_all_seen (more t ts) seen = (AllSeen-more (seen_in t seen) (seen_in_all ts (seen_in t seen)) (seen_all-keeps ts (seen_in t seen)) t (all_seen t seen), are_all_seen ts (seen_in t seen))

-- and stay so through another
pub still_seen : (u t : Term) (seen : List ℕ) → AllSeen seen t → AllSeen (seen_in u seen) t
still_seen u t seen h = AllSeen-more seen (seen_in u seen) (seen-keeps u seen) t h

-- what is renamed stays below the numbers that it takes
mutual
  pub renamed-below : (seen : List ℕ) (next : ℕ) (t : Term) → AllSeen seen t → var_bound (apply (renamed seen next) t) ≤ next + length seen
  renamed-below seen next (VarTerm n) h = omega arith
  renamed-below seen next (IntTerm z) h = omega arith
  renamed-below seen next (AtomTerm a) h = omega arith
  renamed-below seen next (Compound f ts) h = renamed_all-below seen next ts h

  pub renamed_all-below : (seen : List ℕ) (next : ℕ) (ts : Terms) → AreAllSeen seen ts → all_bound (apply_all (renamed seen next) ts) ≤ next + length seen
  renamed_all-below seen next end h = omega arith
  renamed_all-below seen next (more t ts) h = omega (arith, renamed-below seen next t h.0, renamed_all-below seen next ts h.1)

pub copied-below : (t : Term) (next : ℕ) → var_bound (copied t next) ≤ next + copy_takes t
copied-below t next = renamed-below (seen_in t []) next t (all_seen t [])
