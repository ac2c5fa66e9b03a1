-- What takes a goal's place by names stands for what takes it by heights.
use Rattle.std.proofs.Common.{◌≡◌, ℕ, suc, ◌-◌, ◌+◌, Bool, true, false, cond, List, [], ◌∷◌, ◌++◌, map, length, Option, Some, None, refl}
use Rattle.std.proofs.Common.{sym, ap, ◌∙◌, arith}
use Rattle.std.specs.Prelude.{codes}
use Rattle.au_term.specs.Term.{Term, AtomTerm}
use Rattle.au_model.specs.Terms.Each.{Each}
use Rattle.run_model.specs.Programs.Bodies.{call_of}
use Rattle.au_model.specs.Terms.Substitutions.{Substitution}
use Rattle.au_model.specs.Terms.Unifier.{unifier}
use Rattle.run_model.specs.Programs.Clauses.{Clause}
use Rattle.run_model.specs.Goals.Outcomes.{Solution, ControlForm, GoesOnWith, EitherOf, TestOf, CutToScope, CatchOf, FindallOf}
use Rattle.run_model.specs.Machine.Items.{Item, GoalItem, CatchMark, CollectMark, Continuation, resolve_continuation, goals_at, with_next}
use Rattle.run_model.specs.Machine.Items.{before, removing}
use Rattle.run_model.specs.Machine.Entries.{Entry, PlainEntry, CatchEntry, FindallEntry, solution_entries}
use Rattle.run_model.specs.Machine.Entries as entries
use Rattle.interleaving.specs.Machine.{On, Here, looked, search_for, placed}
use Rattle.tree_model.specs.Elements.{Name, same, Element, Credit, Plain, EndOf, Catch, Findall, End}
use Rattle.interleaving.specs.Scopes.{Scope, control_place, goals_first, named_test_items, scoped}
use Rattle.interleaving.specs.Scopes as scopes
use Rattle.interleaving.specs.HeightMachine.{HeightElement, HeightEntry, height_entries, height_control}
use Rattle.interleaving.specs.Erased.{from, element_count, height, with_height, continuation_heights, erased}
use Rattle.interleaving.specs.Sound.{names, IsMadeElsewhere, AreCarried}
use Rattle.interleaving.proofs.NamingLemmas.{heights-same, resolved-heights, same-heights, body-heights, goals-heights, names-removal, removal-heights, length-erased}
use Rattle.interleaving.proofs.NamingLemmas.{lowest-from, IsMadeBy, from_end, from_own, heights-made, heights-cut, longer, sames}
use Rattle.interleaving.proofs.AppendLemmas.{append-assoc}

pub ends_made : (p : Name) → Each (IsMadeBy p) (EndOf p ∷ [])
ends_made p = (([], refl), tt)

pub heights_end : (p : Name) (xs : List Element) (hs : List Name) → Each (IsMadeElsewhere p) hs
    → Each (λ s. height (EndOf p ∷ xs) s ≡ height xs s) hs
heights_end p xs hs h = heights-made p (EndOf p ∷ []) xs hs (ends_made p) h

-- solutions
pub made-append : (p : Name) (ys zs : List Element) → Each (IsMadeBy p) ys → Each (IsMadeBy p) zs → Each (IsMadeBy p) (ys ++ zs)
made-append p [] zs h k = k
made-append p (y ∷ ys) zs h k = (h.0, made-append p ys zs h.1 k)

pub unified-made : (p : Name) (o : Option Substitution) (q : Name) (f : Continuation Name)
    → Each (IsMadeBy p) (scopes.unified_element o q f)
unified-made p None q f = tt
unified-made p (Some s) q f = (tt, tt)

pub solutions-made : (n : ℕ) (p : Name) (f : Continuation Name) (ss : List Solution) → Each (IsMadeBy p) (scopes.solution_elements n p f ss)
solutions-made n p f [] = ends_made p
solutions-made n p f (s ∷ ss) =
    let one : Continuation Name = with_next (f.next + s.variables) (before (goals_at p s.goals) (removing s.removes f)) in
    made-append p (scopes.unified_element (unifier s.equations) (n ∷ p) one) (scopes.solution_elements (suc n) p f ss)
    (unified-made p (unifier s.equations) (n ∷ p) one) (solutions-made (suc n) p f ss)

from-unified : (o : Option Substitution) (q : Name) (f : Continuation Name) (zs : List Element) (s : Name)
    → from (scopes.unified_element o q f ++ zs) s ≡ from zs s
from-unified None q f zs s = refl
from-unified (Some t) q f zs s = refl

pub from-solutions : (n : ℕ) (p : Name) (f : Continuation Name) (ss : List Solution) (xs : List Element)
    → from (scopes.solution_elements n p f ss ++ xs) p ≡ EndOf p ∷ xs
from-solutions n p f [] xs = from_own p xs
from-solutions n p f (s ∷ ss) xs =
    let one : Continuation Name = with_next (f.next + s.variables) (before (goals_at p s.goals) (removing s.removes f)) in
    ap (λ l. from l p) (append-assoc (scopes.unified_element (unifier s.equations) (n ∷ p) one)
    (scopes.solution_elements (suc n) p f ss) xs)
    ∙ from-unified (unifier s.equations) (n ∷ p) one (scopes.solution_elements (suc n) p f ss ++ xs) p
    ∙ from-solutions (suc n) p f ss xs

unified-height : (o : Option Substitution) (q : Name) (g : Continuation Name) (k : Continuation ℕ) (zs : List Element) (rest : List Entry)
    (ends : List HeightElement) → continuation_heights (height zs) g ≡ k → erased zs ≡ height_entries rest ++ ends
    → erased (scopes.unified_element o q g ++ zs) ≡ height_entries (entries.unified o k ++ rest) ++ ends
unified-height None q g k zs rest ends e h = h
unified-height (Some s) q g k zs rest ends e h =
    ap (λ f. HeightEntry (PlainEntry f) ∷ erased zs) (resolved-heights (height zs) s g ∙ ap (resolve_continuation s) e)
    ∙ ap (λ l. HeightEntry (PlainEntry (resolve_continuation s k)) ∷ l) h

pub solutions-height : (n : ℕ) (p : Name) (f : Continuation Name) (ss : List Solution) (xs : List Element)
    → Each (IsMadeElsewhere p) (names f.items) → erased (scopes.solution_elements n p f ss ++ xs)
    ≡ height_entries (solution_entries (element_count xs) (continuation_heights (height xs) f) ss) ++ erased xs
solutions-height n p f [] xs h = refl
solutions-height n p f (s ∷ ss) xs h =
    let rest : List Element = scopes.solution_elements (suc n) p f ss in
    let kept : Continuation Name = removing s.removes f in
    let g : Continuation Name = before (goals_at p s.goals) kept in
    let next : ℕ = f.next + s.variables in
    let as_made = heights-made p rest xs (names f.items) (solutions-made (suc n) p f ss) h in
    let one : continuation_heights (height (rest ++ xs)) g ≡ before (goals_at (element_count xs) s.goals)
    (removing s.removes (continuation_heights (height xs) f)) = goals-heights
    (height (rest ++ xs)) (height xs) p (element_count xs) s.goals kept (ap element_count (from-solutions (suc n) p f ss xs))
    (names-removal (λ m. height (rest ++ xs) m ≡ height xs m) s.removes f.items as_made)
    ∙ ap (before (goals_at (element_count xs) s.goals)) (removal-heights (height xs) s.removes f) in
    ap erased (append-assoc (scopes.unified_element (unifier s.equations) (n ∷ p) (with_next next g)) rest xs)
    ∙ unified-height (unifier s.equations) (n ∷ p) (with_next next g)
    (with_next next (before (goals_at (element_count xs) s.goals) (removing s.removes (continuation_heights (height xs) f)))) (rest ++ xs)
    (solution_entries (element_count xs) (continuation_heights (height xs) f) ss) (erased xs) (ap (with_next next) one)
    (solutions-height (suc n) p f ss xs h)

-- a cut
pub search-from : (clauses : List Clause) (y : Element) (xs : List Element) (s : Name) → search_for (scoped clauses) (Scope s y) xs
    ≡ y ∷ from xs s
search-from clauses y [] s = refl
search-from clauses y (EndOf o ∷ xs) s = go (same s o) (search-from clauses y xs s)
  where
    go : (b : Bool) → search_for (scoped clauses) (Scope s y) xs ≡ y ∷ from xs s
        → looked (scoped clauses) (cond b (Here (y ∷ EndOf o ∷ [])) (On (Scope s y))) (λ p. search_for (scoped clauses) p xs) xs
        ≡ y ∷ cond b (EndOf o ∷ xs) (from xs s)
    go true next = refl
    go false next = next
search-from clauses y (Credit k rs ∷ xs) s = search-from clauses y xs s
search-from clauses y (Plain p f ∷ xs) s = search-from clauses y xs s
search-from clauses y (Catch c u t r p f ∷ xs) s = search-from clauses y xs s
search-from clauses y (Findall c u results list p f ∷ xs) s = search-from clauses y xs s
search-from clauses y (End p b ∷ xs) s = search-from clauses y xs s

test-height : (f g : Name → ℕ) (n p h : Name) (i j k : ℕ) (gs thens : List Term) (items : List (Item Name)) → f n ≡ i → f p ≡ j → f h ≡ k
    → Each (λ s. f s ≡ g s) (names items) → map (with_height f) (named_test_items n p h gs thens ++ items)
    ≡ (goals_at i gs ++ GoalItem (AtomTerm (codes "!")) j ∷ goals_at k thens) ++ map (with_height g) items
test-height f g n p h i j k [] thens items a b c e = ap
    (λ o. GoalItem (AtomTerm (codes "!")) o ∷ map (with_height f) (goals_at h thens ++ items)) b
    ∙ ap (λ l. GoalItem (AtomTerm (codes "!")) j ∷ l) (body-heights f g h k thens items c e)
test-height f g n p h i j k (t ∷ gs) thens items a b c e = ap
    (λ o. GoalItem t o ∷ map (with_height f) (named_test_items n p h gs thens ++ items)) a
    ∙ ap (λ l. GoalItem t i ∷ l) (test-height f g n p h i j k gs thens items a b c e)

abbrev with_list : (k : Continuation Name) → List (Item ℕ) → Continuation ℕ
with_list k is = record { items = is; named = k.named; next = k.next }

module _ (clauses : List Clause) (p h : Name) (f : Continuation Name) (xs : List Element) (c : AreCarried p xs (h ∷ names f.items)) where
  abbrev n : ℕ
  n = length (erased xs)

  abbrev Side : Element → Name → ℕ
  Side x s = height (EndOf (2 ∷ p) ∷ x ∷ EndOf p ∷ xs) s

  -- the goal side of a catch or a findall, over its own entry
  side_here : (x : Element) → ◌≡◌ {A = ℕ} (element_count (x ∷ EndOf p ∷ xs)) (suc (element_count xs)) → Side x (2 ∷ p) ≡ suc n
  side_here x size = ap element_count (from_own (2 ∷ p) (x ∷ EndOf p ∷ xs)) ∙ size ∙ ap suc (sym (length-erased xs))

  side_less : (x : Element) → ◌≡◌ {A = ℕ} (element_count (x ∷ EndOf p ∷ xs)) (suc (element_count xs)) → Side x (2 ∷ p) - 1 ≡ n
  side_less x size = omega (arith, side_here x size)

  side_after : (x : Element) → IsMadeBy p x → map (with_height (Side x)) f.items ≡ map (with_height (height xs)) f.items
  side_after x made = heights-same (Side x) (height xs) f.items
      (heights-made p (EndOf (2 ∷ p) ∷ x ∷ EndOf p ∷ []) xs (names f.items) ((2 ∷ [], refl), (made, ends_made p)) c.older.1)

  under_end : continuation_heights (height (EndOf p ∷ xs)) f ≡ continuation_heights (height xs) f
  under_end = same-heights (height (EndOf p ∷ xs)) (height xs) f (heights_end p xs (names f.items) c.older.1)

  caught-height : (g t r : Term) → erased (placed (scoped clauses) (control_place (CatchOf g t r) p h f) xs)
      ≡ height_control (CatchOf g t r) (height xs h) (continuation_heights (height xs) f) (erased xs)
  caught-height g t r =
      let x : Element = Catch (2 ∷ p) p t r (1 ∷ p) f in
      let below : List HeightElement = HeightEntry (CatchEntry t r (continuation_heights (height (EndOf p ∷ xs)) f)) ∷ erased xs in
      ap (λ a. HeightEntry (PlainEntry
      (with_list f (GoalItem (call_of g) a ∷ CatchMark (Side x (2 ∷ p) - 1) ∷ map (with_height (Side x)) f.items))) ∷ below)
      (side_here x refl) ∙ ap (λ a. HeightEntry
      (PlainEntry (with_list f (GoalItem (call_of g) (suc n) ∷ CatchMark a ∷ map (with_height (Side x)) f.items))) ∷ below)
      (side_less x refl) ∙ ap (λ l. HeightEntry (PlainEntry (with_list f (GoalItem (call_of g) (suc n) ∷ CatchMark n ∷ l))) ∷ below)
      (side_after x tt) ∙ ap (λ k. HeightEntry
      (PlainEntry (with_list f (GoalItem (call_of g) (suc n) ∷ CatchMark n ∷ map (with_height (height xs)) f.items))) ∷ HeightEntry
      (CatchEntry t r k) ∷ erased xs) under_end

  gathered-height : (t g l : Term) → erased (placed (scoped clauses) (control_place (FindallOf t g l) p h f) xs)
      ≡ height_control (FindallOf t g l) (height xs h) (continuation_heights (height xs) f) (erased xs)
  gathered-height t g l =
      let x : Element = Findall (2 ∷ p) p [] l (1 ∷ p) f in
      let below : List HeightElement = HeightEntry (FindallEntry [] l (continuation_heights (height (EndOf p ∷ xs)) f)) ∷ erased xs in
      ap (λ a. HeightEntry (PlainEntry
      (with_list f (GoalItem (call_of g) a ∷ CollectMark t (Side x (2 ∷ p) - 1) ∷ map (with_height (Side x)) f.items))) ∷ below)
      (side_here x refl) ∙ ap (λ a. HeightEntry
      (PlainEntry (with_list f (GoalItem (call_of g) (suc n) ∷ CollectMark t a ∷ map (with_height (Side x)) f.items))) ∷ below)
      (side_less x refl) ∙ ap (λ is. HeightEntry (PlainEntry (with_list f (GoalItem (call_of g) (suc n) ∷ CollectMark t n ∷ is)))
      ∷ below) (side_after x tt) ∙ ap
      (λ k. HeightEntry (PlainEntry (with_list f
      (GoalItem (call_of g) (suc n) ∷ CollectMark t n ∷ map (with_height (height xs)) f.items))) ∷ HeightEntry (FindallEntry [] l k)
      ∷ erased xs) under_end

  tested-height : (gs thens others : List Term) → erased (placed (scoped clauses) (control_place (TestOf gs thens others) p h f) xs)
      ≡ height_control (TestOf gs thens others) (height xs h) (continuation_heights (height xs) f) (erased xs)
  tested-height gs thens others =
      let other : Element = Plain (1 ∷ p) (goals_first h others f) in
      let fs = height (EndOf (2 ∷ p) ∷ other ∷ EndOf p ∷ xs) in
      let all = heights-made p (EndOf (2 ∷ p) ∷ other ∷ EndOf p ∷ []) xs (h ∷ names f.items) ((2 ∷ [], refl), (tt, ends_made p)) c.older in
      let inner : fs (2 ∷ p) ≡ suc n = ap element_count (from_own (2 ∷ p) (other ∷ EndOf p ∷ xs)) ∙ ap suc (sym (length-erased xs)) in
      let here : fs p ≡ n = ap element_count (from_end (2 ∷ p) p (other ∷ EndOf p ∷ xs) (longer p) ∙ from_own p xs)
      ∙ sym (length-erased xs) in
      let ends = heights_end p xs (h ∷ names f.items) c.older in
      let test = test-height fs (height xs) (2 ∷ p) p h (suc n) n (height xs h) gs thens f.items inner here all.0 all.1 in
      let second = goals-heights (height (EndOf p ∷ xs)) (height xs) h (height xs h) others f ends.0 ends.1 in
      ap (λ l. HeightEntry (PlainEntry (with_list f l)) ∷ HeightEntry
      (PlainEntry (continuation_heights (height (EndOf p ∷ xs)) (goals_first h others f))) ∷ erased xs) test
      ∙ ap (λ k. HeightEntry (PlainEntry
      (with_list f ((goals_at (suc n) gs ++ GoalItem (AtomTerm (codes "!")) n ∷ goals_at (height xs h) thens) ++ map
      (with_height (height xs)) f.items))) ∷ HeightEntry (PlainEntry k) ∷ erased xs) second

  -- taking a control construct by names is taking it by heights
  pub control-height : (o : ControlForm) → erased (placed (scoped clauses) (control_place o p h f) xs)
      ≡ height_control o (height xs h) (continuation_heights (height xs) f) (erased xs)
  control-height (GoesOnWith gs) =
      let here : height (EndOf p ∷ xs) p ≡ n = ap element_count (from_own p xs) ∙ sym (length-erased xs) in
      ap (λ k. HeightEntry (PlainEntry k) ∷ erased xs)
      (goals-heights (height (EndOf p ∷ xs)) (height xs) p n gs f here (heights_end p xs (names f.items) c.older.1))
  control-height (EitherOf gs others) =
      let one = goals-heights (height xs) (height xs) h (height xs h) gs f refl (sames (height xs) (names f.items)) in
      let two = goals-heights (height xs) (height xs) h (height xs h) others f refl (sames (height xs) (names f.items)) in
      ap (λ k. HeightEntry (PlainEntry k) ∷ HeightEntry (PlainEntry
      (continuation_heights (height xs) (goals_first h others f))) ∷ erased xs)
      one ∙ ap (λ k. HeightEntry (PlainEntry (before (goals_at (height xs h) gs) (continuation_heights (height xs) f))) ∷ HeightEntry
      (PlainEntry k) ∷ erased xs) two
  control-height (TestOf gs thens others) = tested-height gs thens others
  control-height CutToScope =
      ap erased (search-from clauses (Plain p f) xs h) ∙ ap (λ k. HeightEntry (PlainEntry k) ∷ erased (from xs h))
      (same-heights (height (from xs h)) (height xs) f (heights-cut xs h (names f.items) c.chain.0))
      ∙ ap (λ l. HeightEntry (PlainEntry (continuation_heights (height xs) f)) ∷ l) (sym (lowest-from xs h))
  control-height (CatchOf g t r) = caught-height g t r
  control-height (FindallOf t g l) = gathered-height t g l
