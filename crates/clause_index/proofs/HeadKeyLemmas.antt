-- Goals and heads that are told apart by numbers do not unify.
use Rattle.std.proofs.Common.{◌≡◌, ℕ, ◌<◌, Bool, true, false, not, ◌&&◌, ◌==◌, List, [], ◌∷◌, Option, Some, None, refl, sym, ap, subst, ◌∙◌, arith}
use Rattle.au_term.specs.Term.{Term, VarTerm, IntTerm, AtomTerm, Compound, end, more, argument_count, argument}
use Rattle.au_model.specs.Terms.Forms.{name_of, is_callable}
use Rattle.au_model.specs.Terms.Substitutions.{Substitution, apply, value_of}
use Rattle.au_model.specs.Terms.Unifier.{unifier}
use Rattle.au_model.specs.Terms.MostGeneral.{IsUnifierAnswer}
use Rattle.au_model.proofs.UnifierLemmas.{unifier_answers}
use Rattle.clause_compile.specs.AtomNumbers.{name_at, AreDistinct}
use Rattle.proc_index.specs.Keys.{key_of, head_key, is_any, same_key as same_named}
use Rattle.proc_index.proofs.KeyLemmas.{same_key_is as same_named_is}
use Rattle.proc_index.proofs.LawLemmas.{kept_key, told_apart}
use Rattle.clause_index.specs.Classes.{same_number_key, keys_match}
use Rattle.clause_index.specs.HeadKeys.{named_key, IsKeyAmong, IsHeadKeyOf, NumbersTellApart}
use Rattle.clause_index.specs.declared.key.NumberKey.{NumberKey}
use Rattle.clause_index.specs.declared.key.NumberKey.TheVariants.{Int, Atom, Functor}
use Rattle.clause_index.specs.declared.key.HeadKey.{HeadKey}
use Rattle.clause_index.proofs.ClassLemmas.{same_key_self}

-- terms with one key have one name and one number of arguments
same_top : (t u : Term) → is_callable t ≡ true → is_callable u ≡ true → key_of t ≡ key_of u → (name_of t ≡ name_of u) × (argument_count t ≡ argument_count u)
same_top (VarTerm n) u h k e = absurd cc
same_top (IntTerm z) u h k e = absurd cc
same_top (AtomTerm a) (VarTerm m) h k e = absurd cc
same_top (AtomTerm a) (IntTerm z) h k e = absurd cc
same_top (AtomTerm a) (AtomTerm b) h k e = (cc, refl)
same_top (AtomTerm a) (Compound g us) h k e = absurd cc
same_top (Compound f ts) (VarTerm m) h k e = absurd cc
same_top (Compound f ts) (IntTerm z) h k e = absurd cc
same_top (Compound f ts) (AtomTerm b) h k e = absurd cc
same_top (Compound f ts) (Compound g us) h k e = (cc, cc)

some_key : (t : Term) → is_callable t ≡ true → is_any (key_of t) ≡ false
some_key (VarTerm n) h = absurd cc
some_key (IntTerm z) h = absurd cc
some_key (AtomTerm a) h = refl
some_key (Compound f ts) h = refl

other_by : (goal head : Term) (o : Option Substitution) → ((f : ℕ → Term) → apply f goal ≡ apply f head → ⊥) → IsUnifierAnswer o ((goal, head) ∷ []) → o ≡ None
other_by goal head None never h = refl
other_by goal head (Some s) never h = absurd (never (value_of s) h.unifies.0)

no_unifier : (goal head : Term) → ((f : ℕ → Term) → apply f goal ≡ apply f head → ⊥) → unifier ((goal, head) ∷ []) ≡ None
no_unifier goal head never = other_by goal head (unifier ((goal, head) ∷ [])) never (unifier_answers ((goal, head) ∷ []))

-- a first key is that of the first argument
first_argument : (t : Term) → is_any (head_key t) ≡ false → (0 < argument_count t) × (key_of (argument 0 t) ≡ head_key t)
first_argument (VarTerm n) h = absurd cc
first_argument (IntTerm z) h = absurd cc
first_argument (AtomTerm a) h = absurd cc
first_argument (Compound f end) h = absurd cc
first_argument (Compound f (more t ts)) h = (omega arith, refl)

-- keys of names are the same where their numbers are
known : (k : NumberKey) (names : List (List ℕ)) → is_any (named_key names (Some k)) ≡ false
known (Int z) names = refl
known (Atom a) names = refl
known (Functor f n) names = refl

module _ (names : List (List ℕ)) (distinct : AreDistinct names) where
  same_numbers : (k l : NumberKey) → IsKeyAmong names (Some k) → IsKeyAmong names (Some l) → named_key names (Some k) ≡ named_key names (Some l) → l ≡ k
  same_numbers (Int y) (Int z) p q e = cc
  same_numbers (Int y) (Atom b) p q e = absurd cc
  same_numbers (Int y) (Functor g n) p q e = absurd cc
  same_numbers (Atom a) (Int z) p q e = absurd cc
  same_numbers (Atom a) (Atom b) p q e =
      let names_same : name_at names a ≡ name_at names b = cc in
      let numbers = distinct a b p q names_same in cc
  same_numbers (Atom a) (Functor g n) p q e = absurd cc
  same_numbers (Functor f m) (Int z) p q e = absurd cc
  same_numbers (Functor f m) (Atom b) p q e = absurd cc
  same_numbers (Functor f m) (Functor g n) p q e =
      let names_same : name_at names f ≡ name_at names g = cc in
      let numbers = distinct f g p q names_same in
      let arities : m ≡ n = cc in cc

  other_keys : (k l : NumberKey) (b : Bool) → IsKeyAmong names (Some k) → IsKeyAmong names (Some l) → same_number_key l k ≡ false → same_named (named_key names (Some k)) (named_key names (Some l)) ≡ b → b ≡ false
  other_keys k l false p q e s = refl
  other_keys k l true p q e s =
      let numbers = same_numbers k l p q (same_named_is (named_key names (Some k)) (named_key names (Some l)) s) in
      let self : same_number_key l l ≡ true = same_key_self l in
      let clash : same_number_key l l ≡ false = subst (λ j. same_number_key l j ≡ false) (sym numbers) e in absurd cc

  apart : (a b c : Bool) → a ≡ false → b ≡ false → c ≡ false → (not a && (not b && not c)) ≡ true
  apart false false false p q r = refl
  apart true b c p q r = absurd cc
  apart false true c p q r = absurd cc
  apart false false true p q r = absurd cc

  module _ (goal head : Term) (g h : HeadKey) (p : IsHeadKeyOf names goal g) (q : IsHeadKeyOf names head h) where
    by_keys : (o w : Option NumberKey) → g.first ≡ o → h.first ≡ w → keys_match o w ≡ false → unifier ((goal, head) ∷ []) ≡ None
    by_keys None w a b e = absurd cc
    by_keys (Some k) None a b e = absurd cc
    by_keys (Some k) (Some l) a b e =
        let first : named_key names (Some k) ≡ head_key goal = ap (named_key names) (sym a) ∙ p.first in
        let second : named_key names (Some l) ≡ head_key head = ap (named_key names) (sym b) ∙ q.first in
        let one = first_argument goal (subst (λ m. is_any m ≡ false) first (known k names)) in
        let two = first_argument head (subst (λ m. is_any m ≡ false) second (known l names)) in
        let left : is_any (key_of (argument 0 goal)) ≡ false = subst (λ m. is_any m ≡ false) (first ∙ sym one.1) (known k names) in
        let right : is_any (key_of (argument 0 head)) ≡ false = subst (λ m. is_any m ≡ false) (second ∙ sym two.1) (known l names) in
        let keys : same_named (named_key names (Some k)) (named_key names (Some l)) ≡ false =
        other_keys k l (same_named (named_key names (Some k)) (named_key names (Some l))) (subst (IsKeyAmong names) a p.key_there) (subst (IsKeyAmong names) b q.key_there) e refl in
        let other : same_named (key_of (argument 0 goal)) (key_of (argument 0 head)) ≡ false =
        subst (λ m. same_named m (key_of (argument 0 head)) ≡ false) (first ∙ sym one.1) (subst (λ m. same_named (named_key names (Some k)) m ≡ false) (second ∙ sym two.1) keys) in
        told_apart goal head 0 one.0 two.0 (apart (is_any (key_of (argument 0 goal))) (is_any (key_of (argument 0 head))) (same_named (key_of (argument 0 goal)) (key_of (argument 0 head))) left right other)

    tops : (f : ℕ → Term) → apply f goal ≡ apply f head → (name_of goal ≡ name_of head) × (argument_count goal ≡ argument_count head)
    tops f e = same_top goal head p.callable q.callable (sym (kept_key f goal (some_key goal p.callable)) ∙ (ap key_of e ∙ kept_key f head (some_key head q.callable)))

    same_name_number : (f : ℕ → Term) → apply f goal ≡ apply f head → h.name ≡ g.name
    same_name_number f e = distinct h.name g.name q.name_there p.name_there (q.name ∙ (sym (tops f e).0 ∙ sym p.name))

    same_arity : (f : ℕ → Term) → apply f goal ≡ apply f head → h.arity ≡ g.arity
    same_arity f e = q.arity ∙ (sym (tops f e).1 ∙ sym p.arity)

    by_tests : (a b : Bool) → (h.name == g.name) ≡ a → (h.arity == g.arity) ≡ b → ((a && b) && keys_match g.first h.first) ≡ false → unifier ((goal, head) ∷ []) ≡ None
    by_tests false b x y e = no_unifier goal head (λ f u. other_number h.name g.name x (same_name_number f u))
      where
        other_number : (m n : ℕ) → (m == n) ≡ false → m ≡ n → ⊥
        other_number m n d s = grind arith
    by_tests true false x y e = no_unifier goal head (λ f u. other_number h.arity g.arity y (same_arity f u))
      where
        other_number : (m n : ℕ) → (m == n) ≡ false → m ≡ n → ⊥
        other_number m n d s = grind arith
    by_tests true true x y e = by_keys g.first h.first refl refl e

pub numbers_apart : NumbersTellApart
numbers_apart names distinct goal head g h p q e = by_tests names distinct goal head g h p q (h.name == g.name) (h.arity == g.arity) refl refl e
