-- Entries whose names can be read stay so as their own steps change what is under them.
use Rattle.std.proofs.Common.{◌≡◌, ℕ, Bool, true, false, cond, List, [], ◌∷◌, ◌++◌, map, length, length-append, sym, ap, ◌∙◌, subst}
use Rattle.std.proofs.Common.{arith}
use Rattle.au_term.specs.Term.{Term}
use Rattle.au_model.specs.Terms.Each.{Each}
use Rattle.au_model.specs.Terms.Substitutions.{Substitution}
use Rattle.run_model.specs.Machine.Items.{Item, GoalItem, CatchMark, CollectMark, RemovalItem, resolve_item, goals_at, without_marks}
use Rattle.tree_model.specs.Elements.{Name, same, Element, Credit, Plain, EndOf, Catch, Findall, End}
use Rattle.interleaving.specs.Erased.{from}
use Rattle.interleaving.specs.Sound.{names, IsMadeElsewhere, IsPresent, AreCarried, IsGuarded, IsGathered, IsMarkSound, EachFindall}
use Rattle.interleaving.specs.Sound.{IsEntrySound}
use Rattle.interleaving.specs.Sound.{IsSound}
use Rattle.interleaving.proofs.NamingLemmas.{names-resolved, IsMadeBy, from_end, from_own, from-made, not_child, all-later, carried_child}
use Rattle.interleaving.proofs.NamingLemmas.{carried_cut, carried_rest, not_longer}

-- Findall entries
pub findalls-from : (P : Name → Type 0) (xs : List Element) (s : Name) → EachFindall P xs → EachFindall P (from xs s)
findalls-from P [] s h = tt
findalls-from P (EndOf e ∷ xs) s h = go (same s e) (findalls-from P xs s h)
  where
    go : (b : Bool) → EachFindall P (from xs s) → EachFindall P (cond b (EndOf e ∷ xs) (from xs s))
    go true k = h
    go false k = k
findalls-from P (Credit k rs ∷ xs) s h = findalls-from P xs s h
findalls-from P (Plain p f ∷ xs) s h = findalls-from P xs s h
findalls-from P (Catch e u c r p f ∷ xs) s h = findalls-from P xs s h
findalls-from P (Findall e u results list p f ∷ xs) s h = findalls-from P xs s h.1
findalls-from P (End p b ∷ xs) s h = findalls-from P xs s h

pub findalls-map : (P Q : Name → Type 0) → ((s : Name) → P s → Q s) → (xs : List Element) → EachFindall P xs → EachFindall Q xs
findalls-map P Q f [] h = tt
findalls-map P Q f (EndOf e ∷ xs) h = findalls-map P Q f xs h
findalls-map P Q f (Credit k rs ∷ xs) h = findalls-map P Q f xs h
findalls-map P Q f (Plain p g ∷ xs) h = findalls-map P Q f xs h
findalls-map P Q f (Catch e u c r p g ∷ xs) h = findalls-map P Q f xs h
findalls-map P Q f (Findall e u results list p g ∷ xs) h = (f e h.0, findalls-map P Q f xs h.1)
findalls-map P Q f (End p b ∷ xs) h = findalls-map P Q f xs h

pub findalls-append : (P : Name → Type 0) (ys xs : List Element) → EachFindall P ys → EachFindall P xs → EachFindall P (ys ++ xs)
findalls-append P [] xs h k = k
findalls-append P (EndOf e ∷ ys) xs h k = findalls-append P ys xs h k
findalls-append P (Credit j rs ∷ ys) xs h k = findalls-append P ys xs h k
findalls-append P (Plain p g ∷ ys) xs h k = findalls-append P ys xs h k
findalls-append P (Catch e u c r p g ∷ ys) xs h k = findalls-append P ys xs h k
findalls-append P (Findall e u results list p g ∷ ys) xs h k = (h.0, findalls-append P ys xs h.1 k)
findalls-append P (End p b ∷ ys) xs h k = findalls-append P ys xs h k

-- a sound list from a scope on
pub sound-from : (xs : List Element) (s : Name) → IsSound xs → IsSound (from xs s)
sound-from [] s h = tt
sound-from (EndOf e ∷ xs) s h = go (same s e) (sound-from xs s h)
  where
    go : (b : Bool) → IsSound (from xs s) → IsSound (cond b (EndOf e ∷ xs) (from xs s))
    go true k = h
    go false k = k
sound-from (Credit k rs ∷ xs) s h = sound-from xs s h.1
sound-from (Plain p f ∷ xs) s h = sound-from xs s h.1
sound-from (Catch e u c r p f ∷ xs) s h = sound-from xs s h.2
sound-from (Findall e u results list p f ∷ xs) s h = sound-from xs s h.3
sound-from (End p b ∷ xs) s h = sound-from xs s h

-- marks
pub guard-moved : (xs ys : List Element) (s : Name) → from ys s ≡ from xs s → IsGuarded xs s → IsGuarded ys s
guard-moved xs ys s e m = record {
  scope = m.scope;
  catcher = m.catcher;
  recovery = m.recovery;
  name = m.name;
  after = m.after;
  under = m.under;
  found = e
      ∙ m.found;
}

pub gathered-moved : (xs ys : List Element) (s : Name) → from ys s ≡ from xs s → IsGathered xs s → IsGathered ys s
gathered-moved xs ys s e m = record
    { scope = m.scope; results = m.results; list = m.list; name = m.name; after = m.after; under = m.under; found = e ∙ m.found }

pub marks-moved : (xs ys : List Element) (items : List (Item Name)) → Each (λ s. from ys s ≡ from xs s) (names items)
    → Each (IsMarkSound xs) items → Each (IsMarkSound ys) items
marks-moved xs ys [] e h = tt
marks-moved xs ys (GoalItem t s ∷ items) e h = (tt, marks-moved xs ys items e.1 h.1)
marks-moved xs ys (CatchMark s ∷ items) e h = (guard-moved xs ys s e.0 h.0, marks-moved xs ys items e.1 h.1)
marks-moved xs ys (CollectMark t s ∷ items) e h = (gathered-moved xs ys s e.0 h.0, marks-moved xs ys items e.1 h.1)
marks-moved xs ys (RemovalItem n ∷ items) e h = (tt, marks-moved xs ys items e h.1)

froms-made : (p : Name) (ys xs : List Element) (hs : List Name) → Each (IsMadeBy p) ys → Each (IsMadeElsewhere p) hs
    → Each (λ s. from (ys ++ xs) s ≡ from xs s) hs
froms-made p ys xs [] m n = tt
froms-made p ys xs (s ∷ hs) m n = (from-made p s ys xs m n.0, froms-made p ys xs hs m n.1)

-- under what the entry's own step puts in front
pub entry_child : (p : Name) (i : ℕ) (ys xs : List Element) (hs : List Name) (items : List (Item Name)) → Each (IsMadeBy p) ys
    → EachFindall (IsMadeElsewhere (i ∷ p)) ys → Each (IsMadeElsewhere p) (names items) → IsEntrySound p xs hs items
    → IsEntrySound (i ∷ p) (ys ++ xs) hs items
entry_child p i ys xs hs items m b n s = record {
  carried = carried_child p i ys xs hs m s.carried;
  marks = marks-moved xs (ys ++ xs) items (froms-made p ys xs (names items) m n) s.marks;
  findalls = findalls-append (IsMadeElsewhere (i ∷ p)) ys xs b
      (findalls-map (IsMadeElsewhere p) (IsMadeElsewhere (i ∷ p)) (λ e. not_child p e i) xs s.findalls);
}

-- without the goal in front
pub entry_rest : (p : Name) (xs : List Element) (h : Name) (items : List (Item Name)) → IsEntrySound p xs (h ∷ names items) items
    → IsEntrySound p xs (names items) items
entry_rest p xs h items s = record { carried = carried_rest p xs h (names items) s.carried; marks = s.marks; findalls = s.findalls }

-- after a cut
pub entry_cut : (p : Name) (xs : List Element) (h : Name) (items : List (Item Name)) → IsEntrySound p xs (h ∷ names items) items
    → IsEntrySound p (from xs h) (names items) items
entry_cut p xs h items s = record {
  carried = carried_cut p xs h (names items) s.carried;
  marks = marks-moved xs (from xs h) items s.carried.chain.0 s.marks;
  findalls
      = findalls-from (IsMadeElsewhere p) xs h s.findalls;
}

-- goals of a scope in front
later-own : (zs : List Element) (h : Name) (gs : List Term) (items : List (Item Name)) → from (from zs h) h ≡ from zs h
    → Each (λ s. from (from zs h) s ≡ from zs s) (names items)
    → Each (λ s. from (from zs h) s ≡ from zs s) (names (goals_at h gs ++ items))
later-own zs h [] items e k = k
later-own zs h (g ∷ gs) items e k = (e, later-own zs h gs items e k)

again : (zs : List Element) (h : Name) → IsPresent zs h → from (from zs h) h ≡ from zs h
again zs h e = ap (λ ys. from ys h) e.1 ∙ from_own h e.0 ∙ sym e.1

-- a scope that may be carried in front of these
pub record IsInFront (q : Name) (zs : List Element) (h : Name) (items : List (Item Name)) : Type 0 where
  pub older : IsMadeElsewhere q h
  pub present : IsPresent zs h
  pub later : Each (λ s. from (from zs h) s ≡ from zs s) (names items)

pub entry_goals : (q : Name) (zs : List Element) (h : Name) (gs : List Term) (items : List (Item Name)) → IsInFront q zs h items
    → IsEntrySound q zs (names items) items → IsEntrySound q zs (names (goals_at h gs ++ items)) (goals_at h gs ++ items)
entry_goals q zs h [] items k s = s
entry_goals q zs h (g ∷ gs) items k s =
    let rest = entry_goals q zs h gs items k s in
    record {
      carried = record {
        older = (k.older, rest.carried.older);
        present = (k.present, rest.carried.present);
        chain =
            (later-own zs h gs items (again zs h k.present) k.later, rest.carried.chain);
      };
      marks = (tt, rest.marks);
      findalls = s.findalls;
    }

-- the scope in front is carried in front
pub front_of : (p : Name) (xs : List Element) (h : Name) (items : List (Item Name)) → IsEntrySound p xs (h ∷ names items) items
    → IsInFront p xs h items
front_of p xs h items s = record { older = s.carried.older.0; present = s.carried.present.0; later = s.carried.chain.0 }

pub front_child : (p : Name) (i : ℕ) (ys xs : List Element) (h : Name) (items : List (Item Name)) → Each (IsMadeBy p) ys
    → Each (IsMadeElsewhere p) (names items) → IsInFront p xs h items → IsInFront (i ∷ p) (ys ++ xs) h items
front_child p i ys xs h items m n k = record {
  older = not_child p h i k.older;
  present = (k.present.0, from-made p h ys xs m k.older ∙ k.present.1);
  later = all-later p ys xs h
      (names items) m k.older n k.later;
}

pub older-goals : (p h : Name) (gs : List Term) (items : List (Item Name)) → IsMadeElsewhere p h → Each (IsMadeElsewhere p) (names items)
    → Each (IsMadeElsewhere p) (names (goals_at h gs ++ items))
older-goals p h [] items k n = n
older-goals p h (g ∷ gs) items k n = (k, older-goals p h gs items k n)

pub later-end : (p : Name) (ys xs : List Element) (hs : List Name) → Each (IsMadeBy p) ys → from (ys ++ xs) p ≡ EndOf p ∷ xs
    → Each (IsMadeElsewhere p) hs → Each (λ s. from (from (ys ++ xs) p) s ≡ from (ys ++ xs) s) hs
later-end p ys xs [] m e n = tt
later-end p ys xs (s ∷ hs) m e n =
    (ap (λ zs. from zs s) e ∙ from_end p s xs (λ q. n.0 [] q) ∙ sym (from-made p s ys xs m n.0), later-end p ys xs hs m e n.1)

-- the entry's own scope, for a child over what ends it
pub own_front : (p : Name) (i : ℕ) (ys xs : List Element) (items : List (Item Name)) → Each (IsMadeBy p) ys → from (ys ++ xs) p
    ≡ EndOf p ∷ xs → Each (IsMadeElsewhere p) (names items) → IsInFront (i ∷ p) (ys ++ xs) p items
own_front p i ys xs items m e n = record { older = not_longer p i; present = (xs, e); later = later-end p ys xs (names items) m e n }

pub from_first : (e : Name) (xs : List Element) (hs : List Name) → Each (λ s. from (from (EndOf e ∷ xs) e) s ≡ from (EndOf e ∷ xs) s) hs
from_first e xs [] = tt
from_first e xs (s ∷ hs) = (ap (λ zs. from zs s) (from_own e xs), from_first e xs hs)

pub other_child : (p : Name) → IsMadeElsewhere (0 ∷ p) (2 ∷ p)
other_child p [] e = two_zero (head e)
  where
    two_zero : ◌≡◌ {A = ℕ} 2 0 → ⊥
    two_zero f = omega (arith, f)

    head : 2 ∷ p ≡ 0 ∷ p → ◌≡◌ {A = ℕ} 2 0
    head f = cc
other_child p (i ∷ more) e = absurd (omega (arith, ap length (tail e), length-append more (0 ∷ p)))
  where
    tail : 2 ∷ p ≡ i ∷ (more ++ 0 ∷ p) → p ≡ more ++ 0 ∷ p
    tail f = cc

-- the scope that ends right here
pub here_front : (q e : Name) (xs : List Element) (items : List (Item Name)) → IsMadeElsewhere q e → IsInFront q (EndOf e ∷ xs) e items
here_front q e xs items n = record { older = n; present = (xs, from_own e xs); later = from_first e xs (names items) }

-- with every binding applied
marks-resolved : (xs : List Element) (s : Substitution) (items : List (Item Name)) → Each (IsMarkSound xs) items
    → Each (IsMarkSound xs) (map (resolve_item s) items)
marks-resolved xs s [] h = tt
marks-resolved xs s (GoalItem t k ∷ items) h = (tt, marks-resolved xs s items h.1)
marks-resolved xs s (CatchMark k ∷ items) h = (h.0, marks-resolved xs s items h.1)
marks-resolved xs s (CollectMark t k ∷ items) h = (h.0, marks-resolved xs s items h.1)
marks-resolved xs s (RemovalItem k ∷ items) h = (tt, marks-resolved xs s items h.1)

pub entry_resolved : (p : Name) (xs : List Element) (s : Substitution) (items : List (Item Name))
    → IsEntrySound p xs (names items) items → IsEntrySound p xs (names (map (resolve_item s) items)) (map (resolve_item s) items)
entry_resolved p xs s items h = record {
  carried = subst (AreCarried p xs) (sym (names-resolved s items)) h.carried;
  marks = marks-resolved xs s items h.marks;
  findalls =
      h.findalls;
}

-- after the catch marks in front
pub entry_unmarked : (p : Name) (xs : List Element) (items : List (Item Name)) → IsEntrySound p xs (names items) items
    → IsEntrySound p xs (names (without_marks items)) (without_marks items)
entry_unmarked p xs [] h = h
entry_unmarked p xs (GoalItem t k ∷ items) h = h
entry_unmarked p xs (CollectMark t k ∷ items) h = h
entry_unmarked p xs (RemovalItem k ∷ items) h = h
entry_unmarked p xs (CatchMark k ∷ items) h = entry_unmarked p xs items
    (record { carried = carried_rest p xs k (names items) h.carried; marks = h.marks.1; findalls = h.findalls })
