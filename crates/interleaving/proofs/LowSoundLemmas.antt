-- An alternative's entry over the floor by names is sound, where it is sound in the whole list.
use Rattle.std.proofs.Common.{◌≡◌, ℕ, suc, List, [], ◌∷◌, ◌++◌, length, refl, subst}
use Rattle.au_term.specs.Term.{Term}
use Rattle.run_model.specs.Machine.Entries.{Entry, PlainEntry, CatchEntry, FindallEntry, EndEntry}
use Rattle.tree_model.specs.Elements.{Name, Element, Credit, Plain, EndOf, Catch, Findall, End}
use Rattle.tree_model.specs.Nodes.{Ready, TakenBy, Waiting, Dormant, Alternatives, none, alternative, Pending, Inner, Closed}
use Rattle.tree_model.specs.Levels.{Level}
use Rattle.tree_model.specs.PendingLists.{Way, way_of, element_at, list_among, back_of}
use Rattle.interleaving.proofs.NamedFloorLemmas.{right_named, below_named}
use Rattle.interleaving.proofs.PublishedBareLemmas.{right_of}

-- a mark's entry sleeps right of its node's alternative
pub record Guards (u : Level) (w : List Level) (right : Alternatives) (IsGuard : Element → Type 0) : Type 0 where
  pub rest : List Element
  pub head : Element
  pub is_guard : IsGuard head
  pub same : right_named u.number (suc (length u.left)) (way_of w) right ++ below_named w ≡ head ∷ rest

abbrev pub IsCatchOf : Name → Element → Type 0
IsCatchOf t (Catch s u c r p f) = s ≡ t
IsCatchOf t (Findall s u results l p f) = ⊥
IsCatchOf t (Credit k rs) = ⊥
IsCatchOf t (Plain p f) = ⊥
IsCatchOf t (EndOf s) = ⊥
IsCatchOf t (End p b) = ⊥

abbrev pub IsFindallOf : Name → Element → Type 0
IsFindallOf t (Findall s u results l p f) = s ≡ t
IsFindallOf t (Catch s u c r p f) = ⊥
IsFindallOf t (Credit k rs) = ⊥
IsFindallOf t (Plain p f) = ⊥
IsFindallOf t (EndOf s) = ⊥
IsFindallOf t (End p b) = ⊥

-- the head of what is right of an alternative
pub caught : (m j : ℕ) (way wide : Way) (e : Entry) (t : Name) (xs rest : List Element) (head : Element) → IsCatchOf t head
    → element_at m j wide e ∷ xs ≡ head ∷ rest → IsCatchOf t (element_at m j way e)
caught m j way wide (PlainEntry f) t xs rest head g e = subst (IsCatchOf t) (let z : head ≡ element_at m j wide (PlainEntry f) = cc in z) g
caught m j way wide (CatchEntry c r f) t xs rest head g e = subst (IsCatchOf t)
    (let z : head ≡ element_at m j wide (CatchEntry c r f) = cc in z) g
caught m j way wide (FindallEntry results l f) t xs rest head g e = subst (IsCatchOf t)
    (let z : head ≡ element_at m j wide (FindallEntry results l f) = cc in z) g
caught m j way wide (EndEntry b) t xs rest head g e = subst (IsCatchOf t) (let z : head ≡ element_at m j wide (EndEntry b) = cc in z) g

pub gathered : (m j : ℕ) (way wide : Way) (e : Entry) (t : Name) (xs rest : List Element) (head : Element) → IsFindallOf t head
    → element_at m j wide e ∷ xs ≡ head ∷ rest → IsFindallOf t (element_at m j way e)
gathered m j way wide (PlainEntry f) t xs rest head g e = subst (IsFindallOf t)
    (let z : head ≡ element_at m j wide (PlainEntry f) = cc in z) g
gathered m j way wide (CatchEntry c r f) t xs rest head g e = subst (IsFindallOf t)
    (let z : head ≡ element_at m j wide (CatchEntry c r f) = cc in z) g
gathered m j way wide (FindallEntry results l f) t xs rest head g e = subst (IsFindallOf t)
    (let z : head ≡ element_at m j wide (FindallEntry results l f) = cc in z) g
gathered m j way wide (EndEntry b) t xs rest head g e = subst (IsFindallOf t) (let z : head ≡ element_at m j wide (EndEntry b) = cc in z) g

-- where the list right of an alternative begins with a catch or findall entry, so does the floor
pub guards_low : (u : Level) (w : List Level) (t : Name) (IsGuard : Element → Type 0) → ((k : ℕ) → IsGuard (Credit k []) → ⊥)
    → ((k : ℕ) (rs : List (Name × Term)) → IsGuard (Credit k rs) → ⊥) → ((s : Name) → IsGuard (EndOf s) → ⊥) →
    ((way wide : Way) (e : Entry) (xs rest : List Element) (head : Element) → IsGuard head
    → element_at u.number (suc (length u.left)) wide e ∷ xs ≡ head ∷ rest
    → IsGuard (element_at u.number (suc (length u.left)) way e)) →
    (rest : List Element) (head : Element) → IsGuard head → right_of (u ∷ w) ≡ head ∷ rest → Guards u w u.right IsGuard
guards_low u w t IsGuard none_credit no_credit no_end kept rest head g e = go u.right e
  where
    first : (x y : Element) (xs ys : List Element) → x ∷ xs ≡ y ∷ ys → y ≡ x
    first x y xs ys z = cc

    no_back : (levels : List Level) → back_of levels ≡ head ∷ rest → ⊥
    no_back [] z = cc
    no_back (v ∷ up) z = no_end _ (subst IsGuard (first _ head _ rest z) g)

    go : (right : Alternatives) → list_among (way_of w) u.number u.kind (suc (length u.left)) right ++ back_of w ≡ head ∷ rest
        → Guards u w right IsGuard
    go none z = absurd (no_back w z)
    go (alternative spent (Pending Dormant x) others) z = record {
      rest = _;
      head = _;
      is_guard = kept (way_of w)
          (record { node = u.number; index = suc (length u.left); kind = u.kind } ∷ way_of w) x _ rest head g z;
      same = refl;
    }
    go (alternative spent (Pending Ready x) others) z = absurd (none_credit spent (subst IsGuard (first _ head _ rest z) g))
    go (alternative spent (Pending (TakenBy v) x) others) z = absurd (none_credit spent (subst IsGuard (first _ head _ rest z) g))
    go (alternative spent (Pending (Waiting v) x) others) z = absurd (none_credit spent (subst IsGuard (first _ head _ rest z) g))
    go (alternative spent (Inner node) others) z = absurd (none_credit spent (subst IsGuard (first _ head _ rest z) g))
    go (alternative spent (Closed c) others) z = absurd (no_credit _ _ (subst IsGuard (first _ head _ rest z) g))
