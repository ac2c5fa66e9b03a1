-- The chains of an index: the first head of each class, and after each head the next one of its class.
use Rattle.std.specs.Prelude.{◌≡◌, ◌<◌, ◌^◌, ◌⊎◌, ℕ, suc, Bool, true, false, ◌||◌, List, [], ◌∷◌, ◌++◌, length, drop, reverse, cond, Option, Some, None, IfSome, slice_get}
use Rattle.std.specs.List.{list_any}
use Rattle.std.specs.BTreeMap.{BTreeMap, get, is_at}
use Rattle.std.specs.declared.cmp.Ordering.{Ordering}
use Rattle.clause_index.specs.Classes.{is_of, procedure_class, key_class, same_number_key}
use Rattle.clause_index.specs.Numbers.{first_from}
use Rattle.clause_index.specs.contracts.key.ClassOrd.TheImpl as class_ord
use Rattle.clause_index.specs.declared.key.HeadKey.{HeadKey}
use Rattle.clause_index.specs.declared.key.NumberKey.{NumberKey}
use Rattle.clause_index.specs.declared.key.Class.{Class}
use Rattle.clause_index.specs.declared.key.Class.TheVariants.{Procedure, WithoutKey, WithKey}
use Rattle.clause_index.specs.declared.index.NamedFirsts.{NamedFirsts}

-- the order of classes in the map
abbrev pub class_cmp : Class → Class → Ordering
class_cmp = (class_ord.ghosts).cmp

-- the map has the first head of each class among those from a number on
abbrev pub HasFirsts : List HeadKey → BTreeMap Class ℕ → ℕ → Type 0
HasFirsts heads firsts from = (c : Class) → get class_cmp firsts c ≡ first_from from (is_of c) (drop from heads)

-- after each head, the number of the next one in its class
abbrev pub links_from : (HeadKey → Class) → ℕ → List HeadKey → List (Option ℕ)
links_from class i [] = []
links_from class i (h ∷ hs) = first_from (suc i) (is_of (class h)) hs ∷ links_from class (suc i) hs

-- a key, and the first clause with it, is one of the two
abbrev pub HasKeyed : NamedFirsts → NumberKey × ℕ → Type 0
HasKeyed f keyed = (f.one ≡ Some keyed) ⊎ (f.other ≡ Some keyed)

-- what the map has of a procedure with this name
pub record AreFirstsOf (firsts : BTreeMap Class ℕ) (name : ℕ) (f : NamedFirsts) : Type 0 where
  pub all : f.all ≡ get class_cmp firsts (Procedure name f.arity)
  pub without_key : f.without_key ≡ get class_cmp firsts (WithoutKey name f.arity)
  pub one : IfSome f.one (λ keyed. get class_cmp firsts (WithKey name f.arity keyed.0) ≡ Some keyed.1)
  pub other : IfSome f.other (λ keyed. get class_cmp firsts (WithKey name f.arity keyed.0) ≡ Some keyed.1)

-- of each name that has an entry, what the map has of one of its procedures
abbrev pub AreNamedFirsts : BTreeMap Class ℕ → List NamedFirsts → Type 0
AreNamedFirsts firsts named = (name : ℕ) → IfSome (slice_get named name) (AreFirstsOf firsts name)

-- a key is one of the two, or there are more
abbrev pub is_key_of : Option (NumberKey × ℕ) → NumberKey → Bool
is_key_of None key = false
is_key_of (Some keyed) key = same_number_key keyed.0 key

abbrev pub is_one_of_two : NamedFirsts → NumberKey → Bool
is_one_of_two f key = is_key_of f.one key || is_key_of f.other key

abbrev pub knows_key : NamedFirsts → NumberKey → Bool
knows_key f key = f.has_more || is_one_of_two f key

-- no head of a procedure of this name has a key that is not known
abbrev pub KnowsKeysOf : List HeadKey → ℕ → NamedFirsts → Type 0
KnowsKeysOf heads name f = (key : NumberKey) → knows_key f key ≡ false → list_any (is_of (WithKey name f.arity key)) heads ≡ false

-- of each name that has an entry
abbrev pub KnowKeysOf : List HeadKey → List NamedFirsts → Type 0
KnowKeysOf heads named = (name : ℕ) → IfSome (slice_get named name) (KnowsKeysOf heads name)

-- a key is known beside those that were
pub record LearnsKey (old : NamedFirsts) (key : NumberKey) (new : NamedFirsts) : Type 0 where
  pub arity : new.arity ≡ old.arity
  pub learned : knows_key new key ≡ true
  pub kept : (other : NumberKey) → knows_key old other ≡ true → knows_key new other ≡ true

-- what is known at once of a procedure's clauses: their first ones, and those with the keys that are known
pub record AreFirstsIn (heads : List HeadKey) (name arity : ℕ) (f : NamedFirsts) : Type 0 where
  pub arguments : f.arity ≡ arity
  pub all : f.all ≡ first_from 0 (is_of (Procedure name arity)) heads
  pub without_key : f.without_key ≡ first_from 0 (is_of (WithoutKey name arity)) heads
  pub one : IfSome f.one (λ keyed. first_from 0 (is_of (WithKey name arity keyed.0)) heads ≡ Some keyed.1)
  pub other : IfSome f.other (λ keyed. first_from 0 (is_of (WithKey name arity keyed.0)) heads ≡ Some keyed.1)
  pub known : KnowsKeysOf heads name f

-- the key of one head more is known, whatever the heads before it
abbrev pub LearnKeyOf : HeadKey → List NamedFirsts → List NamedFirsts → Type 0
LearnKeyOf h old new = (heads : List HeadKey) → KnowKeysOf heads old → KnowKeysOf (heads ++ h ∷ []) new

pub record IsClauseIndexOf (heads : List HeadKey) (procedures classes : List (Option ℕ)) (firsts : BTreeMap Class ℕ) (named : List NamedFirsts) : Type 0 where
  pub procedures_are : procedures ≡ links_from procedure_class 0 heads
  pub classes_are : classes ≡ links_from key_class 0 heads
  pub firsts_are : HasFirsts heads firsts 0
  pub named_are : AreNamedFirsts firsts named
  pub keys_are : KnowKeysOf heads named
  pub few : length heads < 2 ^ 32

-- the links of the heads from a number on were made, the last first
pub record AreLinkedFrom (heads : List HeadKey) (procedures classes : List (Option ℕ)) (firsts : BTreeMap Class ℕ) (from : ℕ) : Type 0 where
  pub procedures_are : reverse procedures ≡ links_from procedure_class from (drop from heads)
  pub classes_are : reverse classes ≡ links_from key_class from (drop from heads)
  pub firsts_are : HasFirsts heads firsts from

-- a head was put in front of those of a class, and linked to the one that was the first
pub record IsChained (number : ℕ) (class : Class) (old new : BTreeMap Class ℕ) (before after : List (Option ℕ)) : Type 0 where
  pub links : after ≡ before ++ get class_cmp old class ∷ []
  pub firsts : (c : Class) → get class_cmp new c ≡ cond (is_at (class_cmp class) c) (Some number) (get class_cmp old c)
