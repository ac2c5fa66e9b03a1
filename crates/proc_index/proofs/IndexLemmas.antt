-- Places put into the index, and procedures found in it.
use Rattle.std.proofs.Common.{◌≡◌, ℕ, zero, suc, ◌<◌, Bool, true, false, cond, ◌==◌, ◌&&◌, List, [], ◌∷◌, ◌++◌, ◌+◌, map, filter, length, take, drop, get_or, Option, Some, None, refl, sym, ap, ap₂, ◌∙◌, subst, append-nil, arith}
use Rattle.std.proofs.lemmas.Bool.{eqb-true}
use Rattle.std.specs.Option.{unwrap_or}
use Rattle.std.specs.Map.{lookup}
use Rattle.std.specs.Prelude.{Vec, ◌||◌}
use Rattle.std.specs.List.{list_any}
use Rattle.std.specs.BTreeMap.{BTreeMap, get, is_at}
use Rattle.std.specs.Cmp.Lexicographic.{slice_cmp, same_text}
use Rattle.std.specs.Cmp.{unsigned_ties}
use Rattle.std.specs.Ordering.{nat_cmp}
use Rattle.std.specs.Global.{Global}
use Rattle.au_term.specs.declared.atom.Atom.{Atom}
use Rattle.au_term.specs.Term.{argument_count}
use Rattle.au_model.specs.Terms.Each.{Each}
use Rattle.au_model.specs.Terms.Forms.{same_name, name_of}
use Rattle.run_model.specs.Programs.Clauses.{Clause as ClauseTerms, is_clause_of}
use Rattle.clause_compile.proofs.AtomNumberLemmas.{at_name}
use Rattle.proc_index.specs.declared.key.Key.{Key}
use Rattle.proc_index.specs.declared.procedure.Procedure.{Procedure}
use Rattle.proc_index.specs.Keys.{matching, may_match, head_key, is_any, same_key}
use Rattle.proc_index.specs.Places.{places_from, places, merged, clauses_at}
use Rattle.proc_index.specs.ProcedureIndex.{Arities, key_cmp, found_places, all_in, variables_in, keyed_in, found_in, procedure_at, and_place, IsListed, IsIndexed, GainsPlace, IsPut, IsPutUnder, IsEmpty, IsAdded, IsAddedTo, procedure_of, candidates_of}
use Rattle.proc_index.proofs.KeyLemmas.{key_tied, same_key_is, match_by_key, all_match, any_or_same}
use Rattle.proc_index.proofs.PlacesLemmas.{merged_nil, merged_places, same_places, push_places, clauses_at_places, places_within, filter_twice, filter_same}

at-arity : (a b : ℕ) → is_at (nat_cmp a) b ≡ (a == b)
at-arity a b = sym (unsigned_ties a b)

pub put_under : (keyed mid now : BTreeMap Key (Vec ℕ Global)) (own : Key) (place : ℕ) (taken : Option (Vec ℕ Global)) (put : Vec ℕ Global) → is_any own ≡ false
    → taken ≡ get key_cmp keyed own → ((q : Key) → get key_cmp mid q ≡ cond (is_at (key_cmp own) q) None (get key_cmp keyed q))
    → ((q : Key) → get key_cmp now q ≡ cond (is_at (key_cmp own) q) (Some put) (get key_cmp mid q)) → put.items ≡ found_places taken ++ place ∷ [] → IsPutUnder keyed now own place
put_under keyed mid now own place taken put a t m n h k = go (same_key k own) refl
  where
    tied : is_at (key_cmp own) k ≡ same_key k own
    tied = key_tied own k a

    go : (b : Bool) → same_key k own ≡ b → found_places (get key_cmp now k) ≡ found_places (get key_cmp keyed k) ++ and_place b place
    go true e =
        ap found_places (n k ∙ ap (λ b. cond b (Some put) (get key_cmp mid k)) (tied ∙ e))
        ∙ (h ∙ ap (λ o. found_places o ++ place ∷ []) (t ∙ ap (get key_cmp keyed) (sym (same_key_is k own e))))
    go false e =
        ap found_places (n k ∙ (ap (λ b. cond b (Some put) (get key_cmp mid k)) (tied ∙ e) ∙ (m k ∙ ap (λ b. cond b None (get key_cmp keyed k)) (tied ∙ e))))
        ∙ sym (append-nil (found_places (get key_cmp keyed k)))

-- a list of places without those of the procedure that is not meant
pub record SameLists (o p : Option Procedure) : Type 0 where
  pub all : all_in o ≡ all_in p
  pub variables : variables_in o ≡ variables_in p
  pub keyed : (k : Key) → keyed_in o k ≡ keyed_in p k

pub taken_procedure : (taken : Option Procedure) (fresh procedure : Procedure) → IsEmpty fresh → procedure ≡ unwrap_or taken fresh → SameLists (Some procedure) taken
taken_procedure (Some p) fresh procedure e h = record { all = ap (λ q. all_in (Some q)) h; variables = ap (λ q. variables_in (Some q)) h; keyed = λ k. ap (λ q. keyed_in (Some q) k) h }
taken_procedure None fresh procedure e h = record { all = ap (λ q. all_in (Some q)) h ∙ e.0; variables = ap (λ q. variables_in (Some q)) h ∙ e.1; keyed = λ k. ap (λ q. keyed_in (Some q) k) h ∙ e.2 k }

stays : (o : Option Procedure) (place : ℕ) (key : Key) → GainsPlace o o false place key
stays o place key = record { all = sym (append-nil (all_in o)); variables = sym (append-nil (variables_in o)); keyed = λ k. sym (append-nil (keyed_in o k)) }

pub added_to : (arities mid now : Arities) (own place : ℕ) (key : Key) (taken : Option Procedure) (procedure put : Procedure) → taken ≡ get nat_cmp arities own
    → ((q : ℕ) → get nat_cmp mid q ≡ cond (is_at (nat_cmp own) q) None (get nat_cmp arities q)) → ((q : ℕ) → get nat_cmp now q ≡ cond (is_at (nat_cmp own) q) (Some put) (get nat_cmp mid q))
    → SameLists (Some procedure) taken → IsPut procedure put place key → IsAddedTo arities now own place key
added_to arities mid now own place key taken procedure put t m n s h arity = go (own == arity) refl
  where
    go : (b : Bool) → (own == arity) ≡ b → GainsPlace (get nat_cmp arities arity) (get nat_cmp now arity) b place key
    go true e =
        let there : get nat_cmp now arity ≡ Some put = n arity ∙ ap (λ b. cond b (Some put) (get nat_cmp mid arity)) (at-arity own arity ∙ e) in
        let here : taken ≡ get nat_cmp arities arity = t ∙ ap (get nat_cmp arities) (eqb-true own arity e) in
        subst (λ o. GainsPlace (get nat_cmp arities arity) o true place key) (sym there) (subst (λ o. GainsPlace o (Some put) true place key) here (record {
          all = h.all ∙ ap (λ ks. ks ++ and_place true place) s.all;
          variables = h.variables ∙ ap (λ ks. ks ++ and_place (is_any key) place) s.variables;
          keyed = λ k. h.keyed k ∙ ap (λ ks. ks ++ and_place (same_key k key) place) (s.keyed k);
        }))
    go false e =
        let same : get nat_cmp now arity ≡ get nat_cmp arities arity = n arity ∙ (ap (λ b. cond b (Some put) (get nat_cmp mid arity)) (at-arity own arity ∙ e) ∙ (m arity ∙ ap (λ b. cond b None (get nat_cmp arities arity)) (at-arity own arity ∙ e))) in
        subst (λ o. GainsPlace (get nat_cmp arities arity) o false place key) (sym same) (stays (get nat_cmp arities arity) place key)

-- the procedures of a name that was taken out, or none
pub taken_out : (taken : Option Arities) (fresh arities : Arities) → fresh.entries ≡ [] → arities ≡ unwrap_or taken fresh → (b : ℕ) → get nat_cmp arities b ≡ found_in taken b
taken_out (Some a) fresh arities e h b = ap (λ m. get nat_cmp m b) h
taken_out None fresh arities e h b = ap (λ m. get nat_cmp m b) h ∙ ap (λ es. lookup (is_at (nat_cmp b)) es) e

pub added : (index mid now : BTreeMap Atom Arities) (own : List ℕ) (number place : ℕ) (c : ClauseTerms) (key : Key) (taken : Option Arities) (arities put : Arities)
    → own ≡ name_of c.head → number ≡ argument_count c.head → key ≡ head_key c.head
    → taken ≡ get (slice_cmp nat_cmp) index own → ((q : List ℕ) → get (slice_cmp nat_cmp) mid q ≡ cond (is_at (slice_cmp nat_cmp own) q) None (get (slice_cmp nat_cmp) index q))
    → ((q : List ℕ) → get (slice_cmp nat_cmp) now q ≡ cond (is_at (slice_cmp nat_cmp own) q) (Some put) (get (slice_cmp nat_cmp) mid q))
    → ((b : ℕ) → get nat_cmp arities b ≡ found_in taken b) → IsAddedTo arities put number place key → IsAdded index now place c
added index mid now own number place c key taken arities put o k e t m n f a name arity =
    subst (λ u. GainsPlace (procedure_at index name arity) (procedure_at now name arity) (same_name u name && argument_count c.head == arity) place (head_key c.head)) o
    (subst (λ u. GainsPlace (procedure_at index name arity) (procedure_at now name arity) (same_name own name && u == arity) place (head_key c.head)) k
    (subst (GainsPlace (procedure_at index name arity) (procedure_at now name arity) (same_name own name && number == arity) place) e (go (same_name own name) refl)))
  where
    go : (b : Bool) → same_name own name ≡ b → GainsPlace (procedure_at index name arity) (procedure_at now name arity) (b && number == arity) place key
    go true h =
        let there : procedure_at now name arity ≡ get nat_cmp put arity = ap (λ x. found_in x arity) (n name ∙ ap (λ b. cond b (Some put) (get (slice_cmp nat_cmp) mid name)) (at_name own name ∙ h)) in
        let here : get nat_cmp arities arity ≡ procedure_at index name arity = f arity ∙ ap (λ x. found_in x arity) (t ∙ ap (get (slice_cmp nat_cmp) index) (same_text own name (sym h))) in
        subst (λ x. GainsPlace (procedure_at index name arity) x (number == arity) place key) (sym there) (subst (λ x. GainsPlace x (get nat_cmp put arity) (number == arity) place key) here (a arity))
    go false h =
        let same : procedure_at now name arity ≡ procedure_at index name arity =
        ap (λ x. found_in x arity) (n name ∙ (ap (λ b. cond b (Some put) (get (slice_cmp nat_cmp) mid name)) (at_name own name ∙ h) ∙ (m name ∙ ap (λ b. cond b None (get (slice_cmp nat_cmp) index name)) (at_name own name ∙ h)))) in
        subst (λ x. GainsPlace (procedure_at index name arity) x false place key) (sym same) (stays (procedure_at index name arity) place key)

-- one clause more
listed_more : (o now : Option Procedure) (p : ClauseTerms → Bool) (done : List ClauseTerms) (c : ClauseTerms) → IsListed o p done → GainsPlace o now (p c) (length done) (head_key c.head) → IsListed now p (done ++ c ∷ [])
listed_more o now p done c h k = record {
  all = k.all ∙ (ap (λ ks. ks ++ and_place (p c) (length done)) h.all ∙ sym (push_places p done c));
  variables = k.variables ∙ (ap (λ ks. ks ++ and_place (p c && is_any (head_key c.head)) (length done)) h.variables ∙ sym (push_places (λ d. p d && is_any (head_key d.head)) done c));
  keyed = λ key. k.keyed key ∙ (ap (λ ks. ks ++ and_place (p c && same_key key (head_key c.head)) (length done)) (h.keyed key) ∙ sym (push_places (λ d. p d && same_key key (head_key d.head)) done c));
}

pub indexed_more : (index now : BTreeMap Atom Arities) (done : List ClauseTerms) (c : ClauseTerms) → IsIndexed index done → IsAdded index now (length done) c → IsIndexed now (done ++ c ∷ [])
indexed_more index now done c h a name arity = listed_more (procedure_at index name arity) (procedure_at now name arity) (is_clause_of name arity) done c (h name arity) (a name arity)

-- what a procedure's places come to
filter_all : {X : Type 0} (xs : List X) → filter (λ x. true) xs ≡ xs
filter_all [] = refl
filter_all (x ∷ xs) = ap (λ ys. x ∷ ys) (filter_all xs)

pub record Found (clauses : List ClauseTerms) (p : ClauseTerms → Bool) (key : Key) (left right : List ℕ) : Type 0 where
  pub clauses_are : clauses_at clauses (merged left right) ≡ matching key (filter p clauses)
  pub within : Each (λ k. k < length clauses) (merged left right)

found_by : (clauses : List ClauseTerms) (o : Option Procedure) (p : ClauseTerms → Bool) (key : Key) (left right : List ℕ) (v : Bool) → IsListed o p clauses → is_any key ≡ v → left ≡ cond v (all_in o) (variables_in o) → right ≡ cond v [] (keyed_in o key) → Found clauses p key left right
found_by clauses o p key left right true h a l r =
    let are : merged left right ≡ places p clauses = ap₂ merged l r ∙ (merged_nil (all_in o) ∙ h.all) in
    record {
      clauses_are = ap (clauses_at clauses) are ∙ (clauses_at_places p clauses ∙ sym (filter_same (λ c. may_match key c.head) (λ c. true) (filter p clauses) (λ c. all_match key c.head a) ∙ filter_all (filter p clauses)));
      within = subst (Each (λ k. k < length clauses)) (sym are) (places_within p clauses);
    }
found_by clauses o p key left right false h a l r =
    let q : ClauseTerms → Bool = λ c. p c && may_match key c.head in
    let either : ClauseTerms → Bool = λ c. (p c && is_any (head_key c.head)) || (p c && same_key key (head_key c.head)) in
    let are : merged left right ≡ places q clauses =
    ap₂ merged (l ∙ h.variables) (r ∙ h.keyed key)
    ∙ (merged_places (λ c. p c && is_any (head_key c.head)) (λ c. p c && same_key key (head_key c.head)) clauses (λ c. not_both (p c) (is_any (head_key c.head)) (same_key key (head_key c.head)) (any_or_same key (head_key c.head)))
    ∙ same_places either q clauses (λ c. one_of (p c) (is_any (head_key c.head)) (same_key key (head_key c.head)) ∙ ap (λ b. p c && b) (sym (match_by_key key c.head a)))) in
    record {
      clauses_are = ap (clauses_at clauses) are ∙ (clauses_at_places q clauses ∙ sym (filter_twice p (λ c. may_match key c.head) clauses));
      within = subst (Each (λ k. k < length clauses)) (sym are) (places_within q clauses);
    }
  where
    not_both : (a b c : Bool) → (b && c) ≡ false → ((a && b) && (a && c)) ≡ false
    not_both true b c e = e
    not_both false b c e = refl

    one_of : (a b c : Bool) → ((a && b) || (a && c)) ≡ (a && (b || c))
    one_of true b c = refl
    one_of false b c = refl

pub found : (clauses : List ClauseTerms) (o : Option Procedure) (p : ClauseTerms → Bool) (key : Key) (left right : List ℕ) → IsListed o p clauses → left ≡ cond (is_any key) (all_in o) (variables_in o) → right ≡ cond (is_any key) [] (keyed_in o key) → Found clauses p key left right
found clauses o p key left right h l r = found_by clauses o p key left right (is_any key) h refl l r

-- a procedure is defined exactly where it has a place
none_passes : (i : ℕ) (p : ClauseTerms → Bool) (cs : List ClauseTerms) → places_from i p cs ≡ [] → list_any p cs ≡ false
none_passes i p [] e = refl
none_passes i p (c ∷ cs) e = go (p c) (none_passes (suc i) p cs) e
  where
    go : (b : Bool) → (places_from (suc i) p cs ≡ [] → list_any p cs ≡ false) → cond b (i ∷ places_from (suc i) p cs) (places_from (suc i) p cs) ≡ [] → b || list_any p cs ≡ false
    go true h e = absurd cc
    go false h e = h e

one_passes : (i : ℕ) (p : ClauseTerms → Bool) (cs : List ClauseTerms) → 0 < length (places_from i p cs) → list_any p cs ≡ true
one_passes i p [] lt = absurd (omega arith)
one_passes i p (c ∷ cs) lt = go (p c) (one_passes (suc i) p cs) lt
  where
    go : (b : Bool) → (0 < length (places_from (suc i) p cs) → list_any p cs ≡ true) → 0 < length (cond b (i ∷ places_from (suc i) p cs) (places_from (suc i) p cs)) → b || list_any p cs ≡ true
    go true h lt = refl
    go false h lt = h lt

pub no_candidates : (clauses : List ClauseTerms) (name : List ℕ) (arity : ℕ) (key : Key) (o : Option Procedure) → IsListed o (is_clause_of name arity) clauses → all_in o ≡ [] → None ≡ candidates_of clauses name arity key
no_candidates clauses name arity key o h e = sym (ap (λ k. cond k (Some (matching key (procedure_of clauses name arity))) None) (none_passes 0 (is_clause_of name arity) clauses (sym h.all ∙ e)))

pub some_candidates : (clauses : List ClauseTerms) (name : List ℕ) (arity : ℕ) (key : Key) (o : Option Procedure) (given : List ClauseTerms) → IsListed o (is_clause_of name arity) clauses → 0 < length (all_in o) → given ≡ matching key (procedure_of clauses name arity) → Some given ≡ candidates_of clauses name arity key
some_candidates clauses name arity key o given h lt e =
    ap Some e ∙ sym (ap (λ k. cond k (Some (matching key (procedure_of clauses name arity))) None) (one_passes 0 (is_clause_of name arity) clauses (subst (λ ks. 0 < length ks) h.all lt)))

-- the places that were taken out, or none
pub taken_places : (taken : Option (Vec ℕ Global)) (fresh places : Vec ℕ Global) → fresh.items ≡ [] → places ≡ unwrap_or taken fresh → places.items ≡ found_places taken
taken_places (Some v) fresh places e h = ap (λ p. let ks : List ℕ = p.items in ks) h
taken_places None fresh places e h = ap (λ p. let ks : List ℕ = p.items in ks) h ∙ e

pub positive : (m n : ℕ) → m ≡ n → (n == 0) ≡ false → 0 < m
positive m zero e h = absurd cc
positive m (suc n) e h = omega arith

-- the clause at a place within
pub here_at : {A : Type 0} (f : A → ClauseTerms) (xs : List A) (i : ℕ) (x : A) → i < length xs → x ≡ get_or xs i x → take 1 (drop i (map f xs)) ≡ f x ∷ []
here_at f [] i x lt e = absurd (omega arith)
here_at f (y ∷ ys) zero x lt e = ap (λ z. f z ∷ []) (sym e)
here_at f (y ∷ ys) (suc i) x lt e = here_at f ys i x (omega arith) e

-- the clauses so far with the next one
pub next_taken : {A : Type 0} (f : A → ClauseTerms) (xs : List A) (i : ℕ) (x : A) → i < length xs → x ≡ get_or xs i x → map f (take (i + 1) xs) ≡ map f (take i xs) ++ f x ∷ []
next_taken f [] i x lt e = absurd (omega arith)
next_taken f (y ∷ ys) zero x lt e = ap (λ z. f z ∷ []) (sym e)
next_taken f (y ∷ ys) (suc i) x lt e = let k : suc i + 1 ≡ suc (i + 1) = omega arith in rw k (ap (λ zs. f y ∷ zs) (next_taken f ys i x (omega arith) e))

pub each_pushed : {X : Type 0} (P : X → Type 0) (xs : List X) (x : X) → Each P xs → P x → Each P (xs ++ x ∷ [])
each_pushed P [] x h p = (p, tt)
each_pushed P (y ∷ ys) x h p = (h.0, each_pushed P ys x h.1 p)
