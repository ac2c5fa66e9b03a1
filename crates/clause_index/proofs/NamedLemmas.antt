-- Entries of names.
use Rattle.std.proofs.Common.{◌≡◌, ◌≢◌, ℕ, zero, suc, Bool, true, false, ◌||◌, List, [], ◌∷◌, ◌++◌, Option, Some, None, slice_set, slice_get, IfSome, refl, sym, ap, ap₂, subst, ◌∙◌}
use Rattle.std.specs.List.{list_any}
use Rattle.std.specs.BTreeMap.{BTreeMap, get}
use Rattle.std.specs.Option.{is_some}
use Rattle.std.proofs.lemmas.List.Folds.{list_any-append}
use Rattle.clause_index.specs.Classes.{is_of, class_by}
use Rattle.clause_index.specs.Numbers.{first_from}
use Rattle.clause_index.specs.Chains.{class_cmp, HasFirsts, AreFirstsIn, AreFirstsOf, AreNamedFirsts, knows_key, KnowsKeysOf, LearnsKey, LearnKeyOf}
use Rattle.clause_index.specs.declared.key.Class.{Class}
use Rattle.clause_index.specs.declared.key.Class.TheVariants.{Procedure, WithoutKey, WithKey}
use Rattle.clause_index.specs.declared.key.HeadKey.{HeadKey}
use Rattle.clause_index.specs.declared.key.NumberKey.{NumberKey}
use Rattle.clause_index.specs.declared.index.NamedFirsts.{NamedFirsts}
use Rattle.clause_index.proofs.ClassLemmas.{with_key}
use Rattle.clause_index.proofs.NumberLemmas.{some_first}

-- what holds of an entry that was put in, and of the others as they were
entry_changed : (P Q : ℕ → NamedFirsts → Type 0) (xs : List NamedFirsts) (i : ℕ) (x : NamedFirsts) → ((k : ℕ) → IfSome (slice_get xs k) (P k)) → Q i x
    → ((k : ℕ) (y : NamedFirsts) → k ≢ i → P k y → Q k y) → (k : ℕ) → IfSome (slice_get (slice_set xs i x) k) (Q k)
entry_changed P Q [] i x h q other k = tt
entry_changed P Q (y ∷ ys) zero x h q other zero = q
entry_changed P Q (y ∷ ys) zero x h q other (suc k) = kept (slice_get ys k) (h (suc k))
  where
    kept : (o : Option NamedFirsts) → IfSome o (P (suc k)) → IfSome o (Q (suc k))
    kept None p = tt
    kept (Some z) p = other (suc k) z (λ e. absurd cc) p
entry_changed P Q (y ∷ ys) (suc i) x h q other zero = other zero y (λ e. absurd cc) (h zero)
entry_changed P Q (y ∷ ys) (suc i) x h q other (suc k) = entry_changed (λ j. P (suc j)) (λ j. Q (suc j)) ys i x (λ j. h (suc j)) q (λ j z n. other (suc j) z (λ e. n cc)) k

pub firsts_changed : (map : BTreeMap Class ℕ) (named : List NamedFirsts) (name : ℕ) (f : NamedFirsts) → AreFirstsOf map name f → AreNamedFirsts map named → AreNamedFirsts map (slice_set named name f)
firsts_changed map named name f is are = entry_changed (AreFirstsOf map) (AreFirstsOf map) named name f are is (λ k g n p. p)

-- one head more without a key of the class
none_more : (c : Class) (heads : List HeadKey) (h : HeadKey) → list_any (is_of c) heads ≡ false → is_of c h ≡ false → list_any (is_of c) (heads ++ h ∷ []) ≡ false
none_more c heads h e n = list_any-append (is_of c) heads (h ∷ []) ∙ ap₂ (λ a b. a || (b || false)) e n

false_by : (b : Bool) → (b ≡ true → ⊥) → b ≡ false
false_by true n = absurd (n refl)
false_by false n = refl

-- a head of a class with a key has that key
record IsKeyed (h : HeadKey) (name arity : ℕ) (key : NumberKey) : Type 0 where
  name_is : h.name ≡ name
  arity_is : h.arity ≡ arity
  first_is : h.first ≡ Some key

keyed : (h : HeadKey) (name arity : ℕ) (key : NumberKey) → is_of (WithKey name arity key) h ≡ true → IsKeyed h name arity key
keyed h name arity key t = by_key h.first refl (with_key name arity key h t)
  where
    by_key : (o : Option NumberKey) → h.first ≡ o → class_by h.name h.arity o ≡ WithKey name arity key → IsKeyed h name arity key
    by_key None e is = absurd cc
    by_key (Some k) e is = record { name_is = cc; arity_is = cc; first_is = cc }

-- where no entry is of the head's procedure, or the head has no key
pub keys_stay : (h : HeadKey) (named : List NamedFirsts) → ((f : NamedFirsts) (key : NumberKey) → slice_get named h.name ≡ Some f → h.arity ≡ f.arity → h.first ≡ Some key → ⊥) → LearnKeyOf h named named
keys_stay h named none heads know name = by_entry (slice_get named name) refl (know name)
  where
    by_entry : (o : Option NamedFirsts) → slice_get named name ≡ o → IfSome o (KnowsKeysOf heads name) → IfSome o (KnowsKeysOf (heads ++ h ∷ []) name)
    by_entry None e k = tt
    by_entry (Some f) e k = λ key unknown. none_more (WithKey name f.arity key) heads h (k key unknown) (false_by (is_of (WithKey name f.arity key) h) (λ t.
        let is = keyed h name f.arity key t in none f key (ap (slice_get named) is.name_is ∙ e) is.arity_is is.first_is))

pub key_learned : (h : HeadKey) (named : List NamedFirsts) (known f : NamedFirsts) (key : NumberKey) → h.first ≡ Some key → slice_get named h.name ≡ Some known → LearnsKey known key f → LearnKeyOf h named (slice_set named h.name f)
key_learned h named known f key first is l heads know = entry_changed (KnowsKeysOf heads) (KnowsKeysOf (heads ++ h ∷ [])) named h.name f know here elsewhere
  where
    before : KnowsKeysOf heads h.name known
    before = subst (λ o. IfSome o (KnowsKeysOf heads h.name)) is (know h.name)

    unknown_before : (other : NumberKey) → knows_key f other ≡ false → knows_key known other ≡ false
    unknown_before other unknown = false_by (knows_key known other) (λ t. let e : true ≡ false = sym (l.kept other t) ∙ unknown in absurd cc)

    here : KnowsKeysOf (heads ++ h ∷ []) h.name f
    here other unknown = none_more (WithKey h.name f.arity other) heads h
        (subst (λ n. list_any (is_of (WithKey h.name n other)) heads ≡ false) (sym l.arity) (before other (unknown_before other unknown)))
        (false_by (is_of (WithKey h.name f.arity other) h) (λ t.
        let has : h.first ≡ Some other = (keyed h h.name f.arity other t).first_is in
        let same : key ≡ other = cc in
        let e : true ≡ false = sym l.learned ∙ (ap (knows_key f) same ∙ unknown) in absurd cc))

    elsewhere : (name : ℕ) (g : NamedFirsts) → name ≢ h.name → KnowsKeysOf heads name g → KnowsKeysOf (heads ++ h ∷ []) name g
    elsewhere name g differs knows other unknown = none_more (WithKey name g.arity other) heads h (knows other unknown)
        (false_by (is_of (WithKey name g.arity other) h) (λ t. differs (sym (keyed h name g.arity other t).name_is)))

-- where a key is not known, no head has it
pub none_known : (heads : List HeadKey) (name : ℕ) (f : NamedFirsts) (key : NumberKey) → KnowsKeysOf heads name f → knows_key f key ≡ false → first_from 0 (is_of (WithKey name f.arity key)) heads ≡ None
none_known heads name f key knows unknown =
    by_option (first_from 0 (is_of (WithKey name f.arity key)) heads) (some_first 0 (is_of (WithKey name f.arity key)) (is_of (WithKey name f.arity key)) heads (λ h. refl) ∙ knows key unknown)
  where
    by_option : (o : Option ℕ) → is_some o ≡ false → o ≡ None
    by_option None e = refl
    by_option (Some i) e = absurd cc

-- what the map has of a procedure is of the heads
pub firsts_in : (heads : List HeadKey) (map : BTreeMap Class ℕ) (name arity : ℕ) (f : NamedFirsts) → HasFirsts heads map 0 → AreFirstsOf map name f → KnowsKeysOf heads name f → f.arity ≡ arity → AreFirstsIn heads name arity f
firsts_in heads map name arity f has are known e =
    record {
      arguments = e;
      all = are.all ∙ (has (Procedure name f.arity) ∙ ap (λ n. first_from 0 (is_of (Procedure name n)) heads) e);
      without_key = are.without_key ∙ (has (WithoutKey name f.arity) ∙ ap (λ n. first_from 0 (is_of (WithoutKey name n)) heads) e);
      one = found f.one are.one;
      other = found f.other are.other;
      known = known;
    }
  where
    found : (o : Option (NumberKey × ℕ)) → IfSome o (λ keyed. get class_cmp map (WithKey name f.arity keyed.0) ≡ Some keyed.1) → IfSome o (λ keyed. first_from 0 (is_of (WithKey name arity keyed.0)) heads ≡ Some keyed.1)
    found None k = tt
    found (Some keyed) k = sym (ap (λ n. first_from 0 (is_of (WithKey name n keyed.0)) heads) e) ∙ (sym (has (WithKey name f.arity keyed.0)) ∙ k)
