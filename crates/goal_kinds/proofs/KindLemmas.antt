-- Kinds of names by their numbers.
use Rattle.std.proofs.Common.{◌≡◌, ◌<◌, ℕ, zero, suc, List, [], ◌∷◌, ◌++◌, length, get_or, slice_set, slice_get, IfSome, subst}
use Rattle.std.proofs.lemmas.List.{get_or_read}
use Rattle.clause_compile.specs.AtomNumbers.{name_at}
use Rattle.goal_kinds.specs.Kinds.{IsKindOf, AreFirstKinds}
use Rattle.goal_kinds.specs.declared.kind.GoalKind.{GoalKind}
use Rattle.goal_kinds.specs.declared.kinds.KnownKind.{KnownKind}

-- entries of a list that have a property of their place: one more at the end
one_more : {X : Type 0} (P : ℕ → X → Type 0) (xs : List X) (x : X) → ((k : ℕ) → IfSome (slice_get xs k) (P k)) → P (length xs) x → (k : ℕ) → IfSome (slice_get (xs ++ x ∷ []) k) (P k)
one_more P [] x h p zero = p
one_more P [] x h p (suc k) = tt
one_more P (y ∷ ys) x h p zero = h zero
one_more P (y ∷ ys) x h p (suc k) = one_more (λ j. P (suc j)) ys x (λ j. h (suc j)) p k

-- and another in the place of one
one_changed : {X : Type 0} (P : ℕ → X → Type 0) (xs : List X) (i : ℕ) (x : X) → ((k : ℕ) → IfSome (slice_get xs k) (P k)) → P i x → (k : ℕ) → IfSome (slice_get (slice_set xs i x) k) (P k)
one_changed P [] i x h p k = h k
one_changed P (y ∷ ys) zero x h p zero = p
one_changed P (y ∷ ys) zero x h p (suc k) = h (suc k)
one_changed P (y ∷ ys) (suc i) x h p zero = h zero
one_changed P (y ∷ ys) (suc i) x h p (suc k) = one_changed (λ j. P (suc j)) ys i x (λ j. h (suc j)) p k

-- a name that was read by its number
pub named_kind : (names : List (List ℕ)) (i : ℕ) (name : List ℕ) (arity : ℕ) (kind : GoalKind) → i < length names → name ≡ get_or names i name → IsKindOf name arity kind → IsKindOf (name_at names i) arity kind
named_kind names i name arity kind lt e h = subst (λ n. IsKindOf n arity kind) (get_or_read names i name lt e []) h

pub kind_added : (names : List (List ℕ)) (ks : List KnownKind) (k : KnownKind) → AreFirstKinds names ks → IsKindOf (name_at names (length ks)) k.arity k.kind → AreFirstKinds names (ks ++ k ∷ [])
kind_added names ks k h p = one_more (λ n l. IsKindOf (name_at names n) l.arity l.kind) ks k h p

pub kind_changed : (names : List (List ℕ)) (ks : List KnownKind) (i : ℕ) (k : KnownKind) → AreFirstKinds names ks → IsKindOf (name_at names i) k.arity k.kind → AreFirstKinds names (slice_set ks i k)
kind_changed names ks i k h p = one_changed (λ n l. IsKindOf (name_at names n) l.arity l.kind) ks i k h p
