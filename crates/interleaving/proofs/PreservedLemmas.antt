-- What takes a goal's place leaves a list whose names can be read.
use Rattle.std.proofs.Common.{◌≡◌, ℕ, zero, suc, ◌+◌, Bool, true, false, cond, List, [], ◌∷◌, ◌++◌, Option, Some, None, refl, sym, ap}
use Rattle.std.proofs.Common.{◌∙◌, subst}
use Rattle.std.specs.Prelude.{codes}
use Rattle.au_term.specs.Term.{Term, AtomTerm}
use Rattle.au_model.specs.Terms.Each.{Each}
use Rattle.run_model.specs.Programs.Bodies.{call_of}
use Rattle.au_model.specs.Terms.Substitutions.{Substitution}
use Rattle.au_model.specs.Terms.Unifier.{unifier}
use Rattle.au_model.specs.Terms.Copies.{copied, copy_takes}
use Rattle.run_model.specs.Programs.Clauses.{Clause}
use Rattle.run_model.specs.Programs.Jobs.{Query}
use Rattle.run_model.specs.Goals.Outcomes.{Solution, Reply, Solutions, Ball, HaltNumber, ControlForm, GoesOnWith, EitherOf, TestOf}
use Rattle.run_model.specs.Goals.Outcomes.{CutToScope}
use Rattle.run_model.specs.Goals.Outcomes.{CatchOf, FindallOf}
use Rattle.run_model.specs.Machine.Items.{Item, GoalItem, CatchMark, CollectMark, Continuation, goals_at, with_next, before, removal_items, removing, first_mark}
use Rattle.interleaving.specs.Machine.{Look, On, Here, looked, search_for, placed}
use Rattle.tree_model.specs.Elements.{Name, same, Element, Credit, Plain, EndOf, Catch, Findall, End}
use Rattle.interleaving.specs.Scopes.{Sought, Scope, Thrown, Caught, unified_element, solution_elements, reply_place, control_place}
use Rattle.interleaving.specs.Scopes.{goals_first}
use Rattle.interleaving.specs.Scopes.{named_test_items, opened_elements, recovery_look, look, scoped}
use Rattle.interleaving.specs.Erased.{from, element_count}
use Rattle.interleaving.specs.Sound.{names, IsMadeElsewhere, AreCarried, IsGuarded, IsGathered, IsMarkSound, EachFindall, IsEntrySound}
use Rattle.interleaving.specs.Sound.{IsSound}
use Rattle.interleaving.proofs.NamingLemmas.{IsMadeBy, from_end, from_own, longer, not_longer, names-removal}
use Rattle.interleaving.proofs.CarriedLemmas.{findalls-map, sound-from, entry_child, entry_rest, entry_cut, entry_goals, front_of}
use Rattle.interleaving.proofs.CarriedLemmas.{front_child, older-goals, own_front, here_front, from_first, other_child, entry_resolved}
use Rattle.interleaving.proofs.PlaceHeightLemmas.{ends_made, solutions-made, from-solutions, search-from}
use Rattle.interleaving.proofs.AppendLemmas.{append-assoc, append-nil}

-- solutions
pub unified-findalls : (P : Name → Type 0) (o : Option Substitution) (q : Name) (f : Continuation Name) (zs : List Element)
    → EachFindall P zs → EachFindall P (unified_element o q f ++ zs)
unified-findalls P None q f zs h = h
unified-findalls P (Some s) q f zs h = h

pub solutions-findalls : (P : Name → Type 0) (n : ℕ) (p : Name) (f : Continuation Name) (ss : List Solution)
    → EachFindall P (solution_elements n p f ss)
solutions-findalls P n p f [] = tt
solutions-findalls P n p f (s ∷ ss) =
    unified-findalls P (unifier s.equations) (n ∷ p) (with_next (f.next + s.variables) (before (goals_at p s.goals) (removing s.removes f)))
    (solution_elements (suc n) p f ss) (solutions-findalls P (suc n) p f ss)

unified-sound : (o : Option Substitution) (q : Name) (g : Continuation Name) (zs : List Element)
    → IsEntrySound q zs (names g.items) g.items → IsSound zs → IsSound (unified_element o q g ++ zs)
unified-sound None q g zs e k = k
unified-sound (Some s) q g zs e k = (entry_resolved q zs s g.items e, k)

removal_sound : (p : Name) (xs : List Element) (number : Option ℕ) (items : List (Item Name)) → IsEntrySound p xs (names items) items
    → IsEntrySound p xs (names (removal_items number ++ items)) (removal_items number ++ items)
removal_sound p xs None items h = h
removal_sound p xs (Some k) items h = record { carried = h.carried; marks = (tt, h.marks); findalls = h.findalls }

pub solutions-sound : (n : ℕ) (p : Name) (f : Continuation Name) (ss : List Solution) (xs : List Element)
    → IsEntrySound p xs (names f.items) f.items → IsSound xs → IsSound (solution_elements n p f ss ++ xs)
solutions-sound n p f [] xs s k = k
solutions-sound n p f (t ∷ ss) xs s k =
    let rest : List Element = solution_elements (suc n) p f ss in
    let kept : Continuation Name = removing t.removes f in
    let one : Continuation Name = with_next (f.next + t.variables) (before (goals_at p t.goals) kept) in
    let made = solutions-made (suc n) p f ss in
    let child : IsEntrySound (n ∷ p) (rest ++ xs) (names f.items) f.items = entry_child p n rest xs (names f.items) f.items made
    (solutions-findalls (IsMadeElsewhere (n ∷ p)) (suc n) p f ss) s.carried.older s in
    let older = names-removal (IsMadeElsewhere p) t.removes f.items s.carried.older in
    let body = entry_goals (n ∷ p) (rest ++ xs) p t.goals kept.items
    (own_front p n rest xs kept.items made (from-solutions (suc n) p f ss xs) older) (removal_sound (n ∷ p) (rest ++ xs) t.removes f.items child) in
    subst IsSound (sym (append-assoc (unified_element (unifier t.equations) (n ∷ p) one) rest xs))
    (unified-sound (unifier t.equations) (n ∷ p) one (rest ++ xs) body (solutions-sound (suc n) p f ss xs s k))

-- control constructs
module _ (clauses : List Clause) (p h : Name) (f : Continuation Name) (xs : List Element)
    (s : IsEntrySound p xs (h ∷ names f.items) f.items) (k : IsSound xs) where
  older : Each (IsMadeElsewhere p) (names f.items)
  older = s.carried.older.1

  rest : IsEntrySound p xs (names f.items) f.items
  rest = entry_rest p xs h f.items s

  child : (i : ℕ) (ys : List Element) → Each (IsMadeBy p) ys → EachFindall (IsMadeElsewhere (i ∷ p)) ys
      → IsEntrySound (i ∷ p) (ys ++ xs) (names f.items) f.items
  child i ys m b = entry_child p i ys xs (names f.items) f.items m b older rest

  carrying : (i : ℕ) (gs : List Term) (ys : List Element) → Each (IsMadeBy p) ys → EachFindall (IsMadeElsewhere (i ∷ p)) ys
      → IsEntrySound (i ∷ p) (ys ++ xs) (names (goals_at h gs ++ f.items)) (goals_at h gs ++ f.items)
  carrying i gs ys m b = entry_goals (i ∷ p) (ys ++ xs) h gs f.items
      (front_child p i ys xs h f.items m older (front_of p xs h f.items s)) (child i ys m b)

  -- an entry right over the end of the goal's own scope
  under : (i : ℕ) → IsEntrySound (i ∷ p) (EndOf p ∷ xs) (p ∷ names f.items) f.items
  under i =
      let c = child i (EndOf p ∷ []) (ends_made p) tt in
      let own = own_front p i (EndOf p ∷ []) xs f.items (ends_made p) (from_own p xs) older in
      record {
        carried = record {
          older = (own.older, c.carried.older);
          present = (own.present, c.carried.present);
          chain =
              (own.later, c.carried.chain);
        };
        marks = c.marks;
        findalls = c.findalls;
      }

  -- the goal side of a catch or a findall, with its mark
  side : (x : Element) (g : Term) (mark : Item Name) → IsMadeBy p x → EachFindall (IsMadeElsewhere (0 ∷ p)) (x ∷ [])
      → IsMarkSound (EndOf (2 ∷ p) ∷ x ∷ EndOf p ∷ xs) mark → names (mark ∷ f.items) ≡ (2 ∷ p) ∷ names f.items
      → EachFindall (IsMadeElsewhere (0 ∷ p)) (EndOf (2 ∷ p) ∷ x ∷ EndOf p ∷ []) → IsEntrySound (0 ∷ p) (EndOf (2 ∷ p) ∷ x ∷ EndOf p ∷ xs)
      ((2 ∷ p) ∷ names (mark ∷ f.items)) (GoalItem (call_of g) (2 ∷ p) ∷ mark ∷ f.items)
  side x g mark made b m e all =
      let ys : List Element = EndOf (2 ∷ p) ∷ x ∷ EndOf p ∷ [] in
      let zs : List Element = ys ++ xs in
      let c = child 0 ys ((2 ∷ [], refl), (made, ends_made p)) all in
      let here = here_front (0 ∷ p) (2 ∷ p) (x ∷ EndOf p ∷ xs) f.items (other_child p) in
      let one : AreCarried (0 ∷ p) zs ((2 ∷ p) ∷ names f.items) = record {
        older = (here.older, c.carried.older);
        present = (here.present, c.carried.present);
        chain = (here.later, c.carried.chain);
      } in
      let two : AreCarried (0 ∷ p) zs ((2 ∷ p) ∷ (2 ∷ p) ∷ names f.items) = record {
        older = (here.older, one.older);
        present = (here.present, one.present);
        chain =
            (from_first (2 ∷ p) (x ∷ EndOf p ∷ xs) ((2 ∷ p) ∷ names f.items), one.chain);
      } in
      record { carried = subst (λ l. AreCarried (0 ∷ p) zs ((2 ∷ p) ∷ l)) (sym e) two; marks = (tt, (m, c.marks)); findalls = c.findalls }

  tested : (gs thens others : List Term) → IsSound (placed (scoped clauses) (control_place (TestOf gs thens others) p h f) xs)
  tested gs thens others =
      let other : Element = Plain (1 ∷ p) (goals_first h others f) in
      let ys : List Element = EndOf (2 ∷ p) ∷ other ∷ EndOf p ∷ [] in
      let zs : List Element = ys ++ xs in
      let made : Each (IsMadeBy p) ys = ((2 ∷ [], refl), (tt, ends_made p)) in
      let cut : Term = AtomTerm (codes "!") in
      let then_part = carrying 0 thens ys made tt in
      let at_p : from zs p ≡ EndOf p ∷ xs = from_end (2 ∷ p) p (other ∷ EndOf p ∷ xs) (longer p) ∙ from_own p xs in
      let after = goals_at h thens ++ f.items in
      let committed = entry_goals (0 ∷ p) zs p (cut ∷ []) after
      (own_front p 0 ys xs after made at_p (older-goals p h thens f.items s.carried.older.0 older)) then_part in
      let whole = entry_goals (0 ∷ p) zs (2 ∷ p) gs (GoalItem cut p ∷ after)
      (here_front (0 ∷ p) (2 ∷ p) (other ∷ EndOf p ∷ xs) (GoalItem cut p ∷ after) (other_child p)) committed in
      let joined : goals_at (2 ∷ p) gs ++ (GoalItem cut p ∷ after) ≡ named_test_items (2 ∷ p) p h gs thens ++ f.items = sym
      (append-assoc (goals_at (2 ∷ p) gs) (GoalItem cut p ∷ goals_at h thens) f.items) in
      (subst (λ l. IsEntrySound (0 ∷ p) zs (names l) l) joined whole, (carrying 1 others (EndOf p ∷ []) (ends_made p) tt, k))

  pub control-sound : (o : ControlForm) → IsSound (placed (scoped clauses) (control_place o p h f) xs)
  control-sound (GoesOnWith gs) = (
    entry_goals (0 ∷ p) (EndOf p ∷ xs) p gs f.items (own_front p 0 (EndOf p ∷ []) xs f.items (ends_made p) (from_own p xs) older)
        (child 0 (EndOf p ∷ []) (ends_made p) tt),
    k,
  )
  control-sound (EitherOf gs others) =
      let other : Element = Plain (1 ∷ p) (goals_first h others f) in
      (carrying 0 gs (other ∷ []) (tt, tt) tt, (carrying 1 others [] tt tt, k))
  control-sound (TestOf gs thens others) = tested gs thens others
  control-sound CutToScope = subst IsSound (sym (search-from clauses (Plain p f) xs h)) (entry_cut p xs h f.items s, sound-from xs h k)
  control-sound (CatchOf g c r) =
      let x : Element = Catch (2 ∷ p) p c r (1 ∷ p) f in
      let guard : IsGuarded (EndOf (2 ∷ p) ∷ x ∷ EndOf p ∷ xs) (2 ∷ p) = record {
        scope = p;
        catcher = c;
        recovery = r;
        name = 1 ∷ p;
        after = f;
        under = EndOf p ∷ xs;
        found = from_own (2 ∷ p)
            (x ∷ EndOf p ∷ xs);
      } in
      (side x g (CatchMark (2 ∷ p)) tt tt guard refl tt, (under 1, ap element_count (from_own p xs), k))
  control-sound (FindallOf t g l) =
      let x : Element = Findall (2 ∷ p) p [] l (1 ∷ p) f in
      let guard : IsGathered (EndOf (2 ∷ p) ∷ x ∷ EndOf p ∷ xs) (2 ∷ p) = record {
        scope = p;
        results = [];
        list = l;
        name = 1 ∷ p;
        after = f;
        under = EndOf p ∷ xs;
        found = from_own (2 ∷ p)
            (x ∷ EndOf p ∷ xs);
      } in
      let lone : EachFindall (λ e. e ≡ 2 ∷ p → ⊥) xs = findalls-map (IsMadeElsewhere p) (λ e. e ≡ 2 ∷ p → ⊥) (λ e n q. n (2 ∷ []) q) xs
      s.findalls in (
        side x g (CollectMark t (2 ∷ p)) tt (other_child p, tt) guard refl (other_child p, tt),
        (under 1, ap element_count (from_own p xs), lone, k),
      )

-- balls
abbrev pub IsBall : Sought → Type 0
IsBall (Scope h x) = ⊥
IsBall (Thrown b mark o) = Unit {0}
IsBall (Caught b h o) = Unit {0}

abbrev IsLookSound : Look Element Sought → List Element → Type 0
IsLookSound (On q) xs = IsBall q
IsLookSound (Here ys) xs = IsSound (ys ++ xs)

recovered-sound : (t : Option Substitution) (b r : Term) (u p : Name) (f : Continuation Name) (q : Sought) (xs : List Element)
    → IsBall q → IsEntrySound p xs (u ∷ names f.items) f.items → IsSound xs → IsLookSound (recovery_look t b r u p f q) xs
recovered-sound None b r u p f q xs i s k = i
recovered-sound (Some t) b r u p f q xs i s k =
    let g : Continuation Name = with_next (f.next + copy_takes b) (before (GoalItem (call_of r) u ∷ []) f) in
    let whole : IsEntrySound p xs (names g.items) g.items = record { carried = s.carried; marks = (tt, s.marks); findalls = s.findalls } in
    (entry_resolved p xs t g.items whole, k)

either_look : (t : Bool) (a b : Look Element Sought) (xs : List Element) → IsLookSound a xs → IsLookSound b xs → IsLookSound (cond t a b) xs
either_look true a b xs h k = h
either_look false a b xs h k = k

look-sound : (q : Sought) (x : Element) (xs : List Element) → IsBall q → IsSound (x ∷ xs) → IsLookSound (look q x) xs
look-sound (Scope h y) x xs i s = absurd i
look-sound (Thrown b None o) (EndOf e) xs i s = tt
look-sound (Thrown b None o) (Credit j rs) xs i s = tt
look-sound (Thrown b None o) (Plain p f) xs i s = tt
look-sound (Thrown b None o) (Catch e u c r p f) xs i s = tt
look-sound (Thrown b None o) (Findall e u results list p f) xs i s = tt
look-sound (Thrown b None o) (End p e) xs i s = tt
look-sound (Thrown b (Some m) o) (EndOf e) xs i s = either_look (same m e) (On (Caught b m o)) (On (Thrown b (Some m) o)) xs tt tt
look-sound (Thrown b (Some m) o) (Credit j rs) xs i s = tt
look-sound (Thrown b (Some m) o) (Plain p f) xs i s = tt
look-sound (Thrown b (Some m) o) (Catch e u c r p f) xs i s = tt
look-sound (Thrown b (Some m) o) (Findall e u results list p f) xs i s = tt
look-sound (Thrown b (Some m) o) (End p e) xs i s = tt
look-sound (Caught b m o) (Catch e u c r p f) xs i s =
    let take : Option Substitution = unifier ((c, copied b f.next) ∷ []) in
    let next : Sought = Thrown b (first_mark f.items) o in
    either_look (same m e) (recovery_look take b r u p f next) (On (Caught b m o)) xs (recovered-sound take b r u p f next xs tt s.0 s.2) tt
look-sound (Caught b m o) (EndOf e) xs i s = tt
look-sound (Caught b m o) (Credit j rs) xs i s = tt
look-sound (Caught b m o) (Plain p f) xs i s = tt
look-sound (Caught b m o) (Findall e u results list p f) xs i s = tt
look-sound (Caught b m o) (End p e) xs i s = tt

pub sound-tail : (x : Element) (xs : List Element) → IsSound (x ∷ xs) → IsSound xs
sound-tail (EndOf e) xs h = h
sound-tail (Credit k rs) xs h = h.1
sound-tail (Plain p f) xs h = h.1
sound-tail (Catch e u c r p f) xs h = h.2
sound-tail (Findall e u results list p f) xs h = h.3
sound-tail (End p b) xs h = h

search-sound : (clauses : List Clause) (q : Sought) (xs : List Element) → IsBall q → IsSound xs → IsSound (search_for (scoped clauses) q xs)
search-sound clauses (Scope h y) [] i s = absurd i
search-sound clauses (Thrown b mark o) [] i s = tt
search-sound clauses (Caught b h o) [] i s = tt
search-sound clauses q (x ∷ xs) i s = go (look q x) (look-sound q x xs i s) (λ p j. search-sound clauses p xs j (sound-tail x xs s))
  where
    go : (l : Look Element Sought) → IsLookSound l xs → ((p : Sought) → IsBall p → IsSound (search_for (scoped clauses) p xs))
        → IsSound (looked (scoped clauses) l (λ p. search_for (scoped clauses) p xs) xs)
    go (On p) h next = next p h
    go (Here ys) h next = h

pub reply-sound : (clauses : List Clause) (r : Reply) (p : Name) (f : Continuation Name) (xs : List Element)
    → IsEntrySound p xs (names f.items) f.items → IsSound xs → IsSound (placed (scoped clauses) (reply_place r p f) xs)
reply-sound clauses (Solutions ss) p f xs s k = solutions-sound zero p f ss xs s k
reply-sound clauses (Ball b) p f xs s k = search-sound clauses (Thrown b (first_mark f.items) p) xs tt k
reply-sound clauses (HaltNumber n) p f xs s k = tt

-- the next query
pub opened-sound : (p : Name) (qs : List Query) → IsSound (opened_elements p qs)
opened-sound p [] = tt
opened-sound p (q ∷ qs) =
    let zs : List Element = EndOf p ∷ End (1 ∷ p) None ∷ [] in
    let none : IsEntrySound (0 ∷ p) zs [] [] = record
    { carried = record { older = tt; present = tt; chain = tt }; marks = tt; findalls = tt } in
    let whole = entry_goals (0 ∷ p) zs p q.goals [] (here_front (0 ∷ p) p (End (1 ∷ p) None ∷ []) [] (not_longer p 0)) none in
    (subst (λ l. IsEntrySound (0 ∷ p) zs (names l) l) (append-nil (goals_at p q.goals)) whole, tt)
