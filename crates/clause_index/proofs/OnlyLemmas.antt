-- Lists of one number, and others.
use Rattle.std.proofs.Common.{◌≡◌, ℕ, zero, suc, ◌<◌, Bool, true, false, cond, nat_lt, List, [], ◌∷◌, length, drop, Option, Some, None, refl, sym, ap, ap₂, ◌∙◌, subst, arith}
use Rattle.proc_index.specs.Places.{merged, put_in}
use Rattle.clause_index.specs.declared.key.HeadKey.{HeadKey}
use Rattle.clause_index.specs.declared.key.Class.{Class}
use Rattle.clause_index.specs.Classes.{is_of, key_class}
use Rattle.clause_index.specs.Numbers.{head_numbers_from, only_of}
use Rattle.clause_index.specs.Cursors.{chain, chain_in, numbers_left, IsCursorOf, IsNumberBelow}
use Rattle.clause_index.specs.declared.cursor.Cursor.{Cursor}
use Rattle.clause_index.specs.declared.cursor.Cursor.TheVariants.{ByKey}
use Rattle.clause_index.proofs.ChainLemmas.{IsLinking, by_own}

put_many : (k v : ℕ) (ks : List ℕ) (rest : List ℕ → List ℕ) → only_of (k ∷ put_in v ks rest) ≡ None
put_many k v [] rest = refl
put_many k v (j ∷ ks) rest = by_test (nat_lt v j)
  where
    by_test : (b : Bool) → only_of (k ∷ cond b (v ∷ rest (j ∷ ks)) (j ∷ put_in v ks rest)) ≡ None
    by_test true = refl
    by_test false = refl

-- two lists that have a number each
pub merged_many : (v k : ℕ) (vs ks : List ℕ) → only_of (merged (v ∷ vs) (k ∷ ks)) ≡ None
merged_many v k vs ks = by_test (nat_lt v k)
  where
    by_left : (ws : List ℕ) → only_of (v ∷ merged ws (k ∷ ks)) ≡ None
    by_left [] = refl
    by_left (w ∷ ws) = put_many v w (k ∷ ks) (merged ws)

    by_test : (b : Bool) → only_of (cond b (v ∷ merged vs (k ∷ ks)) (k ∷ put_in v ks (merged vs))) ≡ None
    by_test true = by_left vs
    by_test false = put_many k v ks (merged vs)

-- numbers of which this is the first
pub record Begins (n : ℕ) (ns : List ℕ) : Type 0 where
  pub rest : List ℕ
  pub is : ns ≡ n ∷ rest

-- a chain begins with its first head
pub chain_begins : (class : HeadKey → Class) → IsLinking class → (heads : List HeadKey) (n : ℕ) → n < length heads → Begins n (chain class heads (Some n))
chain_begins class l heads n lt = by_rest heads n lt (drop n heads) refl
  where
    by_rest : (hs : List HeadKey) (i : ℕ) → i < length hs → (ds : List HeadKey) → drop i hs ≡ ds → Begins n (chain_in class n ds)
    by_rest [] i k ds e = absurd (omega (arith, k))
    by_rest (h ∷ hs) zero k ds e = subst (λ (xs : List HeadKey). Begins n (chain_in class n xs)) e (record {
      rest = head_numbers_from (suc n) (is_of (class h)) hs;
      is = ap (λ b. cond b (n ∷ head_numbers_from (suc n) (is_of (class h)) hs) (head_numbers_from (suc n) (is_of (class h)) hs)) (l.of h);
    })
    by_rest (h ∷ hs) (suc i) k ds e = by_rest hs i (omega (arith, k)) ds e

-- a chain whose first head others follow, or none
pub followed : (class : HeadKey → Class) → IsLinking class → (heads : List HeadKey) (n m : ℕ) (o : Option ℕ) → o ≡ Some m → IsNumberBelow (length heads) o → chain class heads (Some n) ≡ n ∷ chain class heads o → only_of (chain class heads (Some n)) ≡ None
followed class l heads n m o e below next =
    let b = chain_begins class l heads m (subst (IsNumberBelow (length heads)) e below) in
    ap only_of next ∙ (ap (λ p. only_of (n ∷ chain class heads p)) e ∙ ap (λ ns. only_of (n ∷ ns)) b.is)

pub alone : (class : HeadKey → Class) (heads : List HeadKey) (n : ℕ) (o : Option ℕ) → o ≡ None → chain class heads (Some n) ≡ n ∷ chain class heads o → only_of (chain class heads (Some n)) ≡ Some n
alone class heads n o e next = ap only_of next ∙ ap (λ p. only_of (n ∷ chain class heads p)) e

-- two chains that have a head each
pub both_many : (class : HeadKey → Class) → IsLinking class → (heads : List HeadKey) (o p : Option ℕ) (n m : ℕ) → o ≡ Some n → p ≡ Some m → IsNumberBelow (length heads) o × IsNumberBelow (length heads) p
    → only_of (merged (chain class heads o) (chain class heads p)) ≡ None
both_many class l heads o p n m e d below =
    let a = chain_begins class l heads n (subst (IsNumberBelow (length heads)) e below.0) in
    let b = chain_begins class l heads m (subst (IsNumberBelow (length heads)) d below.1) in
    ap₂ (λ x y. only_of (merged (chain class heads x) (chain class heads y))) e d
    ∙ (ap₂ (λ ns ms. only_of (merged ns ms)) a.is b.is ∙ merged_many n m a.rest b.rest)

-- a cursor that has two chains
pub both_left : (heads : List HeadKey) (left : Cursor) (o p : Option ℕ) (n m : ℕ) → left ≡ ByKey o p → o ≡ Some n → p ≡ Some m → IsCursorOf heads left → None ≡ only_of (numbers_left heads left)
both_left heads left o p n m is e d below =
    let there : IsCursorOf heads (ByKey o p) = subst (IsCursorOf heads) is below in
    sym (ap (λ l. only_of (numbers_left heads l)) is ∙ both_many key_class by_own heads o p n m e d there)
