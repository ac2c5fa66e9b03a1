-- Goals and heads told apart by the keys of their arguments.
use Rattle.std.proofs.Common.{◌≡◌, ℕ, zero, suc, ◌+◌, ◌<◌, ◌≤◌, ◌==◌, ◌&&◌, Bool, true, false, not, List, [], ◌∷◌, length, take, drop, map, Option, Some, None, refl, sym, ap, ◌∙◌, subst, arith}
use Rattle.std.proofs.lemmas.List.{drop-drop, length-drop}
use Rattle.au_term.specs.Term.{Term, VarTerm, IntTerm, AtomTerm, Compound as CompoundTerm, Terms, end, more, count, term_at, argument, argument_count}
use Rattle.au_model.specs.Terms.Each.{Each}
use Rattle.au_model.specs.Terms.Lists.{terms_from}
use Rattle.au_model.specs.Terms.Copies.{renamed}
use Rattle.au_model.specs.Terms.Forms.{same_name}
use Rattle.au_model.specs.Terms.MostGeneral.{IsUnifierAnswer}
use Rattle.au_model.specs.Terms.Substitutions.{Substitution, apply, value_of}
use Rattle.au_model.proofs.UnifierRuleLemmas.{count-apply_all}
use Rattle.au_model.proofs.UnifierLemmas.{unifier_answers}
use Rattle.std.specs.Prelude.{IfSome}
use Rattle.au_model.specs.Terms.Unifier.{unifier}
use Rattle.clause_compile.specs.AtomNumbers.{name_at, AreDistinct}
use Rattle.clause_compile.specs.Places.{CodeView, AreSound, IsPlaceOf, IsPlaceBefore, meaning_in}
use Rattle.clause_compile.specs.declared.place.Place.{Place}
use Rattle.clause_compile.specs.declared.place.Place.TheVariants.{Functor as FunctorPlace, Sub}
use Rattle.proc_index.specs.Keys.{key_of, is_any}
use Rattle.proc_index.specs.Laws.{tell_apart}
use Rattle.proc_index.specs.declared.key.Key.TheVariants.{Any}
use Rattle.proc_index.proofs.LawLemmas.{told_apart, argument_resolved}
use Rattle.clause_index.specs.Classes.{same_number_key}
use Rattle.clause_index.specs.Functors.{IsFunctorAt, places_after}
use Rattle.clause_index.specs.HeadKeys.{IsKeyAmong, named_key}
use Rattle.clause_index.specs.declared.key.NumberKey.{NumberKey}
use Rattle.clause_index.specs.declared.key.NumberKey.TheVariants.{Int, Atom, Functor}
use Rattle.clause_index.proofs.PlaceLemmas.{functor_is, place_there}
use Rattle.run_model.specs.Programs.Clauses.{Clause, clause_variables, renamed_head}
use Rattle.cell_store.specs.StoreView.{StoreView, IsValidStore, text_in}
use Rattle.region_split.specs.Texts.{TextView}
use Rattle.region_split.specs.Candidates.{numbers_differ}
use Rattle.region_split.proofs.HeadLemmas.{among, same_named_key, same_number, renamed_key}

-- an argument with a key is there
some_argument : (ts : Terms) (i : ℕ) → is_any (key_of (term_at i ts)) ≡ false → i < count ts
some_argument end zero e = absurd cc
some_argument end (suc i) e = absurd cc
some_argument (more t ts) zero e = omega arith
some_argument (more t ts) (suc i) e = let rest = some_argument ts i e in omega (arith, rest)

no_arguments : (i : ℕ) → key_of (term_at i end) ≡ Any
no_arguments zero = refl
no_arguments (suc i) = refl

argument_there : (t : Term) (i : ℕ) → is_any (key_of (argument i t)) ≡ false → i < argument_count t
argument_there (VarTerm n) i e = some_argument end i e
argument_there (IntTerm z) i e = some_argument end i e
argument_there (AtomTerm a) i e = some_argument end i e
argument_there (CompoundTerm f ts) i e = some_argument ts i e

-- a term with an argument that has a key has one itself
inner_key_there : (t : Term) (j : ℕ) → is_any (key_of (argument j t)) ≡ false → is_any (key_of t) ≡ false
inner_key_there (VarTerm n) j e = let none = ap is_any (no_arguments j) in absurd cc
inner_key_there (IntTerm z) j e = refl
inner_key_there (AtomTerm a) j e = refl
inner_key_there (CompoundTerm f ts) j e = refl

renamed_count : (vs : List ℕ) (next : ℕ) (t : Term) → argument_count (apply (renamed vs next) t) ≡ argument_count t
renamed_count vs next (VarTerm n) = refl
renamed_count vs next (IntTerm z) = refl
renamed_count vs next (AtomTerm a) = refl
renamed_count vs next (CompoundTerm f ts) = count-apply_all (renamed vs next) ts

-- terms do not unify where two arguments of theirs do not
apart_inside : (goal head : Term) (i : ℕ) → i < argument_count goal → i < argument_count head → unifier ((argument i goal, argument i head) ∷ []) ≡ None → unifier ((goal, head) ∷ []) ≡ None
apart_inside goal head i l m e = by_answer (unifier ((goal, head) ∷ [])) (unifier_answers ((goal, head) ∷ []))
  where
    none : IsUnifierAnswer None ((argument i goal, argument i head) ∷ [])
    none = subst (λ o. IsUnifierAnswer o ((argument i goal, argument i head) ∷ [])) e (unifier_answers ((argument i goal, argument i head) ∷ []))

    by_answer : (o : Option Substitution) → IsUnifierAnswer o ((goal, head) ∷ []) → o ≡ None
    by_answer None h = refl
    by_answer (Some s) h = absurd (none (value_of s) (sym (argument_resolved (value_of s) goal i l) ∙ (ap (argument i) h.unifies.0 ∙ argument_resolved (value_of s) head i m), tt))

module _ (names : List (List ℕ)) (distinct : AreDistinct names) where
  differ : (k l : NumberKey) → IsKeyAmong names (Some k) → IsKeyAmong names (Some l) → same_number_key k l ≡ false → tell_apart (named_key names (Some k)) (named_key names (Some l)) ≡ true
  differ (Int y) (Int z) p q e = ap not e
  differ (Int y) (Atom b) p q e = refl
  differ (Int y) (Functor g n) p q e = refl
  differ (Atom a) (Int z) p q e = refl
  differ (Atom a) (Atom b) p q e = ap not (sym (same_number names distinct b 0 q a (same_name (name_at names a) (name_at names b)) p refl) ∙ e)
  differ (Atom a) (Functor g n) p q e = refl
  differ (Functor f m) (Int z) p q e = refl
  differ (Functor f m) (Atom b) p q e = refl
  differ (Functor f m) (Functor g n) p q e = ap not (ap (λ v. v && m == n) (sym (same_number names distinct g 0 q f (same_name (name_at names f) (name_at names g)) p refl)) ∙ e)

  some_key : (k : NumberKey) → is_any (named_key names (Some k)) ≡ false
  some_key (Int z) = refl
  some_key (Atom a) = refl
  some_key (Functor f n) = refl

  -- keys of a goal's and a head's argument that differ
  pub told : (goal head : Term) (i : ℕ) (k l : Option NumberKey) → IsKeyAmong names k → IsKeyAmong names l → named_key names k ≡ key_of (argument i goal) → named_key names l ≡ key_of (argument i head) → numbers_differ k l ≡ true
      → (vs : List ℕ) (next : ℕ) → unifier ((goal, apply (renamed vs next) head) ∷ []) ≡ None
  told goal head i None l p q e f d vs next = absurd cc
  told goal head i (Some k) None p q e f d vs next = absurd cc
  told goal head i (Some k) (Some l) p q e f d vs next =
      let r = renamed vs next in
      let there : i < argument_count head = argument_there head i (ap is_any (sym f) ∙ some_key l) in
      let kept : key_of (argument i (apply r head)) ≡ named_key names (Some l) = ap key_of (argument_resolved r head i there) ∙ (renamed_key vs next (argument i head) ∙ sym f) in
      told_apart goal (apply r head) i (argument_there goal i (ap is_any (sym e) ∙ some_key k)) (argument_there (apply r head) i (ap is_any kept ∙ some_key l))
      (ap (λ x. tell_apart x (key_of (argument i (apply r head)))) (sym e) ∙ (ap (tell_apart (named_key names (Some k))) kept ∙ differ k l p q (not_true (same_number_key k l) d)))
    where
      not_true : (b : Bool) → not b ≡ true → b ≡ false
      not_true true h = absurd cc
      not_true false h = refl

  -- and of arguments of theirs
  pub told_inside : (goal head : Term) (i j : ℕ) (k l : Option NumberKey) → IsKeyAmong names k → IsKeyAmong names l → IfSome k (λ x. named_key names (Some x) ≡ key_of (argument j (argument i goal))) → named_key names l ≡ key_of (argument j (argument i head)) → numbers_differ k l ≡ true
      → i < argument_count goal → (vs : List ℕ) (next : ℕ) → unifier ((goal, apply (renamed vs next) head) ∷ []) ≡ None
  told_inside goal head i j None l p q e f d within vs next = absurd cc
  told_inside goal head i j (Some k) None p q e f d within vs next = absurd cc
  told_inside goal head i j (Some k) (Some l) p q e f d within vs next =
      let r = renamed vs next in
      let there : i < argument_count head = argument_there head i (inner_key_there (argument i head) j (ap is_any (sym f) ∙ some_key l)) in
      let kept = argument_resolved r head i there in
      let none = told (argument i goal) (argument i head) j (Some k) (Some l) p q e f d vs next in
      apart_inside goal (apply r head) i within (subst (λ n. i < n) (sym (renamed_count vs next head)) there) (ap (λ t. unifier ((argument i goal, t) ∷ [])) kept ∙ none)

-- the argument at a place of a compound
term_there : (f : Place → Term) (ps : List Place) (n i : ℕ) (p : Place) (rest : List Place) → i < n → drop i ps ≡ p ∷ rest → term_at i (terms_from (map f (take n ps))) ≡ f p
term_there f ps zero i p rest lt e = absurd (omega arith)
term_there f [] (suc n) zero p rest lt e = absurd cc
term_there f [] (suc n) (suc i) p rest lt e = absurd cc
term_there f (q ∷ ps) (suc n) zero p rest lt e = let same : q ≡ p = cc in ap f same
term_there f (q ∷ ps) (suc n) (suc i) p rest lt e = term_there f ps n i p rest (omega arith) e

each_there : (P : Place → Type 0) (ps : List Place) (n i : ℕ) (p : Place) (rest : List Place) → i < n → drop i ps ≡ p ∷ rest → Each P (take n ps) → P p
each_there P ps zero i p rest lt e h = absurd (omega arith)
each_there P [] (suc n) zero p rest lt e h = absurd cc
each_there P [] (suc n) (suc i) p rest lt e h = absurd cc
each_there P (q ∷ ps) (suc n) zero p rest lt e h = let same : q ≡ p = cc in subst P same h.0
each_there P (q ∷ ps) (suc n) (suc i) p rest lt e h = each_there P ps n i p rest (omega arith) e h.1

past : (f : Place → Term) (ps : List Place) (n i : ℕ) → n ≤ i → key_of (term_at i (terms_from (map f (take n ps)))) ≡ Any
past f ps zero i le = no_arguments i
past f [] (suc n) i le = no_arguments i
past f (p ∷ ps) (suc n) zero le = absurd (omega arith)
past f (p ∷ ps) (suc n) (suc i) le = past f ps n i (omega arith)

module _ (code : CodeView) (at f n i : ℕ) (h : IsFunctorAt code at f n) where
  abbrev after : List Place
  after = places_after code at

  module _ (p : Place) (rest : List Place) (lt : i < n) (e : drop (at + 1 + i) code.places ≡ p ∷ rest) where
    here : drop i after ≡ p ∷ rest
    here = drop-drop i (at + 1) code.places ∙ e

    pub place_of_argument : IsPlaceOf code p
    place_of_argument = place_there (length code.names) code.places at p h.within (each_there (IsPlaceBefore (length code.names) code.places at) after n i p rest lt here h.before)

    pub argument_is : argument i (meaning_in code (Sub at)) ≡ meaning_in code p
    argument_is = ap (argument i) h.meaning ∙ term_there (meaning_in code) after n i p rest lt here

  pub argument_within : i < n → at + 1 + i < length code.places
  argument_within lt = let e = h.enough in let l = length-drop (at + 1) code.places in omega (arith, lt, e, l)

  pub no_argument : n ≤ i → Any ≡ key_of (argument i (meaning_in code (Sub at)))
  no_argument le = sym (ap (λ t. key_of (argument i t)) h.meaning ∙ past (meaning_in code) after n i le)

-- a functor that was read
pub functor_read : (code : CodeView) (p : Place) (at f n : ℕ) → IsPlaceOf code (Sub at) → AreSound (length code.names) code.places → drop at code.places ≡ p ∷ drop (at + 1) code.places → p ≡ FunctorPlace f n → IsFunctorAt code at f n
functor_read code p at f n there sound read functor =
    functor_is code at f n sound there.1 (read ∙ ap (λ q. q ∷ drop (at + 1) code.places) functor)

-- the same inside of an argument
pub told_inside_here : (st : StoreView) (text : TextView) (goal : Term) (c : Clause) (i j next : ℕ) (k l : Option NumberKey) → st.program ≡ text.code → IsValidStore st → IsKeyAmong (text_in st).names k
    → IfSome k (λ x. named_key (text_in st).names (Some x) ≡ key_of (argument j (argument i goal))) → IsKeyAmong text.code.names l → named_key text.code.names l ≡ key_of (argument j (argument i c.head)) → numbers_differ k l ≡ true
    → i < argument_count goal → unifier ((goal, renamed_head c next) ∷ []) ≡ None
told_inside_here st text goal c i j next k l program valid there key head_there head_key d within =
    let own = subst (λ (code : CodeView). IsKeyAmong code.names l) (sym program) head_there in
    let own_key = subst (λ (code : CodeView). named_key code.names l ≡ key_of (argument j (argument i c.head))) (sym program) head_key in
    told_inside (text_in st).names valid.distinct goal c.head i j k l there (among st.program.names st.names l own) key (same_named_key st.program.names st.names l own ∙ own_key) d within (clause_variables c) next

-- a clause whose head has another key where the goal has one
pub told_here : (st : StoreView) (text : TextView) (goal : Term) (c : Clause) (i next : ℕ) (k l : Option NumberKey) → st.program ≡ text.code → IsValidStore st → IsKeyAmong (text_in st).names k → named_key (text_in st).names k ≡ key_of (argument i goal)
    → IsKeyAmong text.code.names l → named_key text.code.names l ≡ key_of (argument i c.head) → numbers_differ k l ≡ true → unifier ((goal, renamed_head c next) ∷ []) ≡ None
told_here st text goal c i next k l program valid there key head_there head_key d =
    let own = subst (λ (code : CodeView). IsKeyAmong code.names l) (sym program) head_there in
    let own_key = subst (λ (code : CodeView). named_key code.names l ≡ key_of (argument i c.head)) (sym program) head_key in
    told (text_in st).names valid.distinct goal c.head i k l there (among st.program.names st.names l own) key (same_named_key st.program.names st.names l own ∙ own_key) d (clause_variables c) next
