-- Places of clauses, merged and looked up.
use Rattle.std.proofs.Common.{◌≡◌, ℕ, suc, ◌+◌, ◌<◌, ◌≤◌, Bool, true, false, cond, ◌&&◌, ◌||◌, nat_lt, List, [], ◌∷◌, ◌++◌, length, length-append, take, drop, filter, refl, sym, ap, ap₂, ◌∙◌, append_assoc, arith}
use Rattle.std.proofs.Math.Seq.{drop-append_seam}
use Rattle.std.proofs.lemmas.Bool.Decides.{nat_tests}
use Rattle.au_model.specs.Terms.Each.{Each}
use Rattle.run_model.specs.Programs.Clauses.{Clause as ClauseTerms}
use Rattle.proc_index.specs.Places.{places_from, places, put_in, merged, clauses_at}
use Rattle.proc_index.specs.ProcedureIndex.{and_place}

places_above : (i j : ℕ) (p : ClauseTerms → Bool) (cs : List ClauseTerms) → i < j → Each (λ k. i < k) (places_from j p cs)
places_above i j p [] lt = tt
places_above i j p (c ∷ cs) lt = by_test (p c) (places_above i (suc j) p cs (omega arith))
  where
    by_test : (v : Bool) → Each (λ k. i < k) (places_from (suc j) p cs) → Each (λ k. i < k) (cond v (j ∷ places_from (suc j) p cs) (places_from (suc j) p cs))
    by_test true h = (lt, h)
    by_test false h = h

pub put_in_front : (v : ℕ) (ks : List ℕ) (rest : List ℕ → List ℕ) → Each (λ k. v < k) ks → put_in v ks rest ≡ v ∷ rest ks
put_in_front v [] rest h = refl
put_in_front v (k ∷ ks) rest h =
    let less : nat_lt v k ≡ true = let lt = h.0 in grind (arith, nat_tests) in
    ap (λ b. cond b (v ∷ rest (k ∷ ks)) (k ∷ put_in v ks rest)) less

pub merged_front : (vs : List ℕ) (k : ℕ) (ks : List ℕ) → Each (λ v. k < v) vs → merged vs (k ∷ ks) ≡ k ∷ merged vs ks
merged_front [] k ks h = refl
merged_front (v ∷ vs) k ks h =
    let less : nat_lt v k ≡ false = let lt = h.0 in grind (arith, nat_tests) in
    ap (λ b. cond b (v ∷ merged vs (k ∷ ks)) (k ∷ put_in v ks (merged vs))) less

pub merged_nil : (vs : List ℕ) → merged vs [] ≡ vs
merged_nil [] = refl
merged_nil (v ∷ vs) = ap (λ ks. v ∷ ks) (merged_nil vs)

-- the places of two tests that no clause passes both
merged_from : (i : ℕ) (p q : ClauseTerms → Bool) (cs : List ClauseTerms) → ((c : ClauseTerms) → (p c && q c) ≡ false) → merged (places_from i p cs) (places_from i q cs) ≡ places_from i (λ c. p c || q c) cs
merged_from i p q [] d = refl
merged_from i p q (c ∷ cs) d = by_tests (p c) (q c) (d c) (merged_from (suc i) p q cs d)
  where
    by_tests : (v w : Bool) → (v && w) ≡ false → merged (places_from (suc i) p cs) (places_from (suc i) q cs) ≡ places_from (suc i) (λ c. p c || q c) cs
        → merged (cond v (i ∷ places_from (suc i) p cs) (places_from (suc i) p cs)) (cond w (i ∷ places_from (suc i) q cs) (places_from (suc i) q cs)) ≡ cond (v || w) (i ∷ places_from (suc i) (λ c. p c || q c) cs) (places_from (suc i) (λ c. p c || q c) cs)
    by_tests true true e h = absurd cc
    by_tests true false e h = put_in_front i (places_from (suc i) q cs) (merged (places_from (suc i) p cs)) (places_above i (suc i) q cs (omega arith)) ∙ ap (λ ks. i ∷ ks) h
    by_tests false true e h = merged_front (places_from (suc i) p cs) i (places_from (suc i) q cs) (places_above i (suc i) p cs (omega arith)) ∙ ap (λ ks. i ∷ ks) h
    by_tests false false e h = h

pub merged_places : (p q : ClauseTerms → Bool) (cs : List ClauseTerms) → ((c : ClauseTerms) → (p c && q c) ≡ false) → merged (places p cs) (places q cs) ≡ places (λ c. p c || q c) cs
merged_places p q cs d = merged_from 0 p q cs d

same_from : (i : ℕ) (p q : ClauseTerms → Bool) (cs : List ClauseTerms) → ((c : ClauseTerms) → p c ≡ q c) → places_from i p cs ≡ places_from i q cs
same_from i p q [] h = refl
same_from i p q (c ∷ cs) h = ap₂ (λ b ks. cond b (i ∷ ks) ks) (h c) (same_from (suc i) p q cs h)

pub same_places : (p q : ClauseTerms → Bool) (cs : List ClauseTerms) → ((c : ClauseTerms) → p c ≡ q c) → places p cs ≡ places q cs
same_places p q cs h = same_from 0 p q cs h

-- one clause more
push_from : (i : ℕ) (p : ClauseTerms → Bool) (cs : List ClauseTerms) (c : ClauseTerms) → places_from i p (cs ++ c ∷ []) ≡ places_from i p cs ++ and_place (p c) (i + length cs)
push_from i p [] c = ap (λ n. and_place (p c) n) (omega arith)
push_from i p (d ∷ cs) c = by_test (p d) (push_from (suc i) p cs c ∙ ap (λ n. places_from (suc i) p cs ++ and_place (p c) n) (omega arith))
  where
    by_test : (v : Bool) → places_from (suc i) p (cs ++ c ∷ []) ≡ places_from (suc i) p cs ++ and_place (p c) (i + suc (length cs))
        → cond v (i ∷ places_from (suc i) p (cs ++ c ∷ [])) (places_from (suc i) p (cs ++ c ∷ [])) ≡ cond v (i ∷ places_from (suc i) p cs) (places_from (suc i) p cs) ++ and_place (p c) (i + suc (length cs))
    by_test true h = ap (λ ks. i ∷ ks) h
    by_test false h = h

pub push_places : (p : ClauseTerms → Bool) (cs : List ClauseTerms) (c : ClauseTerms) → places p (cs ++ c ∷ []) ≡ places p cs ++ and_place (p c) (length cs)
push_places p cs c = push_from 0 p cs c ∙ ap (λ n. places p cs ++ and_place (p c) n) (omega arith)

-- what is found at the places of a test
at_from : (done : List ClauseTerms) (p : ClauseTerms → Bool) (cs : List ClauseTerms) (i : ℕ) → i ≡ length done → clauses_at (done ++ cs) (places_from i p cs) ≡ filter p cs
at_from done p [] i e = refl
at_from done p (c ∷ cs) i e = by_test (p c) (ap (λ all. clauses_at all (places_from (suc i) p cs)) (sym (append_assoc done (c ∷ []) cs)) ∙ at_from (done ++ c ∷ []) p cs (suc i) (omega (arith, length-append done (c ∷ []))))
  where
    here : take 1 (drop i (done ++ c ∷ cs)) ≡ c ∷ []
    here = ap (take 1) (ap (λ n. drop n (done ++ c ∷ cs)) e ∙ drop-append_seam done (c ∷ cs))

    by_test : (v : Bool) → clauses_at (done ++ c ∷ cs) (places_from (suc i) p cs) ≡ filter p cs → clauses_at (done ++ c ∷ cs) (cond v (i ∷ places_from (suc i) p cs) (places_from (suc i) p cs)) ≡ cond v (c ∷ filter p cs) (filter p cs)
    by_test true h = ap₂ (λ a b. a ++ b) here h
    by_test false h = h

pub clauses_at_places : (p : ClauseTerms → Bool) (cs : List ClauseTerms) → clauses_at cs (places p cs) ≡ filter p cs
clauses_at_places p cs = at_from [] p cs 0 refl

within_from : (i n : ℕ) (p : ClauseTerms → Bool) (cs : List ClauseTerms) → i + length cs ≤ n → Each (λ k. k < n) (places_from i p cs)
within_from i n p [] le = tt
within_from i n p (c ∷ cs) le = by_test (p c) (within_from (suc i) n p cs (omega arith))
  where
    by_test : (v : Bool) → Each (λ k. k < n) (places_from (suc i) p cs) → Each (λ k. k < n) (cond v (i ∷ places_from (suc i) p cs) (places_from (suc i) p cs))
    by_test true h = (omega arith, h)
    by_test false h = h

pub places_within : (p : ClauseTerms → Bool) (cs : List ClauseTerms) → Each (λ k. k < length cs) (places p cs)
places_within p cs = within_from 0 (length cs) p cs (omega arith)

pub filter_twice : {X : Type 0} (p q : X → Bool) (xs : List X) → filter q (filter p xs) ≡ filter (λ x. p x && q x) xs
filter_twice p q [] = refl
filter_twice p q (x ∷ xs) = by_tests (p x) (q x) (filter_twice p q xs) refl
  where
    by_tests : (v w : Bool) → filter q (filter p xs) ≡ filter (λ y. p y && q y) xs → q x ≡ w → filter q (cond v (x ∷ filter p xs) (filter p xs)) ≡ cond (v && q x) (x ∷ filter (λ y. p y && q y) xs) (filter (λ y. p y && q y) xs)
    by_tests true w h e = by_second (q x) h
      where
        by_second : (u : Bool) → filter q (filter p xs) ≡ filter (λ y. p y && q y) xs → cond u (x ∷ filter q (filter p xs)) (filter q (filter p xs)) ≡ cond u (x ∷ filter (λ y. p y && q y) xs) (filter (λ y. p y && q y) xs)
        by_second true h = ap (λ ys. x ∷ ys) h
        by_second false h = h
    by_tests false w h e = h

pub filter_same : {X : Type 0} (p q : X → Bool) (xs : List X) → ((x : X) → p x ≡ q x) → filter p xs ≡ filter q xs
filter_same p q [] h = refl
filter_same p q (x ∷ xs) h = ap₂ (λ b ys. cond b (x ∷ ys) ys) (h x) (filter_same p q xs h)
