-- The numbers of clauses' heads.
use Rattle.std.proofs.Common.{◌≡◌, ℕ, ◌<◌, ◌==◌, ◌&&◌, ◌||◌, Bool, true, false, List, [], ◌∷◌, ◌++◌, length, length-append, Option, Some, None, refl, sym, ap, ap₂, ◌∙◌, subst, arith}
use Rattle.std.proofs.lemmas.Bool.Decides.{nat_tests}
use Rattle.std.specs.Cmp.Lexicographic.{same_text}
use Rattle.std.specs.List.{list_any}
use Rattle.au_term.specs.Term.{Term, VarTerm, IntTerm, AtomTerm, Compound, end, more, argument_count}
use Rattle.au_model.specs.Terms.Copies.{renamed}
use Rattle.au_model.specs.Terms.Forms.{same_name}
use Rattle.au_model.specs.Terms.Substitutions.{apply}
use Rattle.au_model.proofs.UnifierRuleLemmas.{count-apply_all}
use Rattle.run_model.specs.Programs.Clauses.{Clause, is_clause_of, is_defined}
use Rattle.clause_compile.specs.AtomNumbers.{name_at, AreDistinct}
use Rattle.clause_compile.specs.Places.{CodeView, Keeps}
use Rattle.clause_compile.proofs.AtomNumberLemmas.{name_at-front, self_same}
use Rattle.proc_index.specs.Keys.{key_of}
use Rattle.proc_index.specs.declared.key.Key.TheVariants.{Atom as AtomKey, Functor as FunctorKey}
use Rattle.clause_index.specs.Classes.{is_head_of}
use Rattle.clause_index.specs.HeadKeys.{IsHeadKeyOf, IsKeyAmong, named_key}
use Rattle.clause_index.specs.declared.key.NumberKey.{NumberKey}
use Rattle.clause_index.specs.declared.key.NumberKey.TheVariants.{Int, Atom, Functor}
use Rattle.clause_index.specs.declared.key.HeadKey.{HeadKey}
use Rattle.cell_store.specs.StoreView.{IsValidStore, text_in}
use Rattle.region_split.specs.Texts.{TextView, AreHeadKeys}
use Rattle.region_split.specs.Regions.{RegionView}

module _ (names more_names : List (List ℕ)) where
  abbrev all : List (List ℕ)
  all = names ++ more_names

  below_all : (n : ℕ) → n < length names → n < length all
  below_all n lt = omega (arith, lt, length-append names more_names)

  pub among : (o : Option NumberKey) → IsKeyAmong names o → IsKeyAmong all o
  among None k = tt
  among (Some (Int z)) k = tt
  among (Some (Atom a)) k = below_all a k
  among (Some (Functor f n)) k = below_all f k

  pub same_named_key : (o : Option NumberKey) → IsKeyAmong names o → named_key all o ≡ named_key names o
  same_named_key None k = refl
  same_named_key (Some (Int z)) k = refl
  same_named_key (Some (Atom a)) k = ap AtomKey (name_at-front names more_names a k)
  same_named_key (Some (Functor f n)) k = ap (λ name. FunctorKey name n) (name_at-front names more_names f k)

  -- numbers stay where further names come
  pub key_further : (t : Term) (k : HeadKey) → IsHeadKeyOf names t k → IsHeadKeyOf all t k
  key_further t k i = record {
    callable = i.callable;
    name_there = below_all k.name i.name_there;
    name = name_at-front names more_names k.name i.name_there ∙ i.name;
    arity = i.arity;
    key_there = among k.first i.key_there;
    first = same_named_key k.first i.key_there ∙ i.first;
  }

  pub keys_further : (cs : List Clause) (ks : List HeadKey) → AreHeadKeys names cs ks → AreHeadKeys all cs ks
  keys_further [] [] i = tt
  keys_further [] (k ∷ ks) i = absurd i
  keys_further (c ∷ cs) [] i = absurd i
  keys_further (c ∷ cs) (k ∷ ks) i = (key_further c.head k i.0, keys_further cs ks i.1)

keys-append : (names : List (List ℕ)) (cs : List Clause) (ks : List HeadKey) (c : Clause) (k : HeadKey) → AreHeadKeys names cs ks → IsHeadKeyOf names c.head k → AreHeadKeys names (cs ++ c ∷ []) (ks ++ k ∷ [])
keys-append names [] [] c k i one = (one, tt)
keys-append names [] (l ∷ ks) c k i one = absurd i
keys-append names (d ∷ cs) [] c k i one = absurd i
keys-append names (d ∷ cs) (l ∷ ks) c k i one = (i.0, keys-append names cs ks c k i.1 one)

-- one clause more
pub one_more_head : (old new : CodeView) (cs : List Clause) (ks : List HeadKey) (c : Clause) (k : HeadKey) → Keeps old new → AreHeadKeys old.names cs ks → IsHeadKeyOf new.names c.head k → AreHeadKeys new.names (cs ++ c ∷ []) (ks ++ k ∷ [])
one_more_head old new cs ks c k keeps i one = keys-append new.names cs ks c k (subst (λ names. AreHeadKeys names cs ks) (sym keeps.names_are) (keys_further old.names keeps.names cs ks i)) one

pub as_many_heads : (names : List (List ℕ)) (cs : List Clause) (ks : List HeadKey) → AreHeadKeys names cs ks → length ks ≡ length cs
as_many_heads names [] [] i = refl
as_many_heads names [] (k ∷ ks) i = absurd i
as_many_heads names (c ∷ cs) [] i = absurd i
as_many_heads names (c ∷ cs) (k ∷ ks) i = let rest = as_many_heads names cs ks i.1 in omega (arith, rest)

-- a head has the same numbers where its variables are renamed
pub renamed_key : (vs : List ℕ) (next : ℕ) (t : Term) → key_of (apply (renamed vs next) t) ≡ key_of t
renamed_key vs next (VarTerm n) = refl
renamed_key vs next (IntTerm z) = refl
renamed_key vs next (AtomTerm a) = refl
renamed_key vs next (Compound f ts) = ap (FunctorKey f) (count-apply_all (renamed vs next) ts)

pub renamed_numbers : (names : List (List ℕ)) (vs : List ℕ) (next : ℕ) (t : Term) (k : HeadKey) → IsHeadKeyOf names t k → IsHeadKeyOf names (apply (renamed vs next) t) k
renamed_numbers names vs next (VarTerm n) k i = let no = i.callable in absurd cc
renamed_numbers names vs next (IntTerm z) k i = let no = i.callable in absurd cc
renamed_numbers names vs next (AtomTerm a) k i = i
renamed_numbers names vs next (Compound f end) k i = i
renamed_numbers names vs next (Compound f (more t ts)) k i = record {
  callable = refl;
  name_there = i.name_there;
  name = i.name;
  arity = i.arity ∙ sym (count-apply_all (renamed vs next) (more t ts));
  key_there = i.key_there;
  first = i.first ∙ sym (renamed_key vs next t);
}

-- a procedure by the number of its name
module _ (names : List (List ℕ)) (distinct : AreDistinct names) (name arity : ℕ) (there : name < length names) where
  abbrev called : List ℕ
  called = name_at names name

  pub same_number : (n : ℕ) (b : Bool) → n < length names → same_name (name_at names n) called ≡ b → (n == name) ≡ b
  same_number n true lt e = let same : n ≡ name = distinct n name lt there (same_text (name_at names n) called (sym e)) in grind (arith, nat_tests)
  same_number n false lt e = by_test (n == name) refl
    where
      by_test : (v : Bool) → (n == name) ≡ v → (n == name) ≡ false
      by_test true t = let same : n ≡ name = grind (arith, nat_tests) in let self = self_same called in let other : same_name called called ≡ false = ap (λ m. same_name (name_at names m) called) (sym same) ∙ e in absurd cc
      by_test false t = t

  head_is : (c : Clause) (h : HeadKey) → IsHeadKeyOf names c.head h → is_head_of name arity h ≡ is_clause_of called arity c
  head_is c h i =
      ap₂ (λ b n. b && n == arity) (same_number h.name (same_name (name_at names h.name) called) i.name_there refl) i.arity
      ∙ ap (λ f. same_name f called && argument_count c.head == arity) i.name

  pub defined : (cs : List Clause) (hs : List HeadKey) → AreHeadKeys names cs hs → list_any (is_head_of name arity) hs ≡ is_defined cs called arity
  defined [] [] i = refl
  defined [] (h ∷ hs) i = absurd i
  defined (c ∷ cs) [] i = absurd i
  defined (c ∷ cs) (h ∷ hs) i = ap₂ (λ a b. a || b) (head_is c h i.0) (defined cs hs i.1)

pub defined_here : (r : RegionView) (text : TextView) (name arity : ℕ) (b : Bool) → text ≡ r.text → r.store.program ≡ r.text.code → IsValidStore r.store → name < length (text_in r.store).names → AreHeadKeys text.code.names text.clauses text.heads → b ≡ list_any (is_head_of name arity) text.heads
    → b ≡ is_defined r.text.clauses (name_at (text_in r.store).names name) arity
defined_here r text name arity b same program valid there heads is =
    let own = subst (λ (t : TextView). AreHeadKeys t.code.names t.clauses t.heads) same heads in
    let all = subst (λ (code : CodeView). AreHeadKeys (code.names ++ r.store.names) r.text.clauses r.text.heads) (sym program) (keys_further r.text.code.names r.store.names r.text.clauses r.text.heads own) in
    is ∙ (ap (λ (t : TextView). list_any (is_head_of name arity) t.heads) same ∙ defined (text_in r.store).names valid.distinct name arity there r.text.clauses r.text.heads all)
