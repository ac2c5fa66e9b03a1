-- A ball lands by heights where it lands by names.
use Rattle.std.proofs.Common.{◌≡◌, ℕ, suc, ◌-◌, ◌+◌, ◌≤◌, ◌==◌, Bool, true, false, cond, List, [], ◌∷◌, map, length, Option, Some, None}
use Rattle.std.proofs.Common.{refl, sym, ap, ◌∙◌, subst, arith}
use Rattle.std.proofs.lemmas.Bool.{eq-eqb}
use Rattle.au_term.specs.Term.{Term}
use Rattle.au_model.specs.Terms.Each.{Each}
use Rattle.run_model.specs.Programs.Bodies.{call_of}
use Rattle.au_model.specs.Terms.Substitutions.{Substitution}
use Rattle.au_model.specs.Terms.Unifier.{unifier}
use Rattle.au_model.specs.Terms.Copies.{copied, copy_takes}
use Rattle.run_model.specs.Programs.Clauses.{Clause}
use Rattle.run_model.specs.Machine.Items.{Item, GoalItem, CatchMark, CollectMark, RemovalItem, Continuation, resolve_continuation}
use Rattle.run_model.specs.Machine.Items.{with_next}
use Rattle.run_model.specs.Machine.Items.{before, first_mark}
use Rattle.run_model.specs.Machine.Entries.{PlainEntry, CatchEntry}
use Rattle.interleaving.specs.Machine.{On, looked, search_for}
use Rattle.tree_model.specs.Elements.{Name, same, Record, Element, Credit, Plain, EndOf, Catch, Findall, End}
use Rattle.interleaving.specs.Scopes.{Sought, Thrown, Caught, recovery_look, scoped}
use Rattle.interleaving.specs.HeightMachine.{HeightElement, HeightEntry, height_recovered, height_unwound}
use Rattle.interleaving.specs.Erased.{from, element_count, height, with_height, continuation_heights, erased}
use Rattle.interleaving.specs.Sound.{names, IsGuarded, IsMarkSound, IsRightUnder, IsSound}
use Rattle.interleaving.proofs.NamingLemmas.{same-itself, resolved-heights, goals-heights, length-erased, height-le, sames}
use Rattle.au_term.proofs.LogicLemmas.{not_equal}

abbrev pub IsMarkGuarded : List Element → Option Name → Type 0
IsMarkGuarded xs None = Unit {0}
IsMarkGuarded xs (Some s) = IsGuarded xs s

abbrev pub mark_height : List Element → Option Name → Option ℕ
mark_height xs None = None
mark_height xs (Some s) = Some (height xs s - 1)

pub mark-heights : (xs : List Element) (items : List (Item Name)) → first_mark (map (with_height (height xs)) items)
    ≡ mark_height xs (first_mark items)
mark-heights xs [] = refl
mark-heights xs (GoalItem g h ∷ items) = mark-heights xs items
mark-heights xs (CatchMark h ∷ items) = refl
mark-heights xs (CollectMark t h ∷ items) = mark-heights xs items
mark-heights xs (RemovalItem h ∷ items) = mark-heights xs items

pub mark-guarded : (xs : List Element) (items : List (Item Name)) → Each (IsMarkSound xs) items → IsMarkGuarded xs (first_mark items)
mark-guarded xs [] h = tt
mark-guarded xs (GoalItem g k ∷ items) h = mark-guarded xs items h.1
mark-guarded xs (CatchMark k ∷ items) h = h.0
mark-guarded xs (CollectMark t k ∷ items) h = mark-guarded xs items h.1
mark-guarded xs (RemovalItem k ∷ items) h = mark-guarded xs items h.1

guarded-low : (xs : List Element) (s : Name) → IsGuarded xs s → suc (height xs s - 1) ≤ element_count xs
guarded-low xs s h = let e : height xs s ≡ suc (element_count h.under) = ap element_count h.found in omega (arith, e, height-le xs s)

module _ (clauses : List Clause) (b : Term) (o : Name) where
  abbrev search : Sought → List Element → List Element
  search q xs = search_for (scoped clauses) q xs

  recover-height : (t : Option Substitution) (r : Term) (u p : Name) (f : Continuation Name) (q : Sought) (xs : List Element)
      (further : List HeightElement) → IsRightUnder xs u → erased (search q xs) ≡ further
      → erased (looked (scoped clauses) (recovery_look t b r u p f q) (λ a. search_for (scoped clauses) a xs) xs)
      ≡ height_recovered t b r (continuation_heights (height xs) f) (erased xs) further
  recover-height None r u p f q xs further h k = k
  recover-height (Some s) r u p f q xs further h k =
      let g : Continuation Name = before (GoalItem (call_of r) u ∷ []) f in
      let one : continuation_heights (height xs) g ≡ before (GoalItem (call_of r) (length (erased xs)) ∷ [])
      (continuation_heights (height xs) f) =
      goals-heights (height xs) (height xs) u (length (erased xs)) (call_of r ∷ []) f (h ∙ sym (length-erased xs))
      (sames (height xs) (names f.items)) in
      ap (λ k. HeightEntry (PlainEntry k) ∷ erased xs) (resolved-heights (height xs) s (with_next (f.next + copy_takes b) g)
      ∙ ap (λ k. resolve_continuation s (with_next (f.next + copy_takes b) k)) one)

  abbrev Lands : List Element → Type 0
  Lands xs = ((mark : Option Name) → IsSound xs → IsMarkGuarded xs mark → erased (search_for (scoped clauses) (Thrown b mark o) xs)
      ≡ height_unwound b (mark_height xs mark) (erased xs))
      × ((s u : Name) (c r : Term) (p : Name) (f : Continuation Name) (t : List Element) → IsSound xs → xs ≡ Catch s u c r p f ∷ t
      → erased (search_for (scoped clauses) (Caught b s o) xs) ≡ height_unwound b (Some (element_count xs - 1)) (erased xs))

  unwound-end : (e : Name) (xs : List Element) → Lands xs → (mark : Option Name) → IsSound xs → IsMarkGuarded (EndOf e ∷ xs) mark
      → erased (search (Thrown b mark o) (EndOf e ∷ xs)) ≡ height_unwound b (mark_height (EndOf e ∷ xs) mark) (erased xs)
  unwound-end e xs h None i m = h.0 None i tt
  unwound-end e xs h (Some s) i m = go (same s e) m.found
    where
      go : (t : Bool) → cond t (EndOf e ∷ xs) (from xs s) ≡ EndOf s ∷ Catch s m.scope m.catcher m.recovery m.name m.after ∷ m.under
          → erased (looked (scoped clauses) (cond t (On (Caught b s o)) (On (Thrown b (Some s) o)))
          (λ q. search_for (scoped clauses) q xs) xs) ≡ height_unwound b (Some (element_count (cond t (EndOf e ∷ xs) (from xs s)) - 1))
          (erased xs)
      go true k = let same_tail : xs ≡ Catch s m.scope m.catcher m.recovery m.name m.after ∷ m.under = cc in h.1 s m.scope m.catcher
          m.recovery m.name m.after m.under i same_tail
      go false k = h.0 (Some s) i (record
          { scope = m.scope; catcher = m.catcher; recovery = m.recovery; name = m.name; after = m.after; under = m.under; found = k })

  -- a catch whose mark is another
  unwound-by : (u c r : Term) (f : Continuation ℕ) (xs : List HeightElement) (h : ℕ) → (h == length xs) ≡ false
      → height_unwound b (Some h) (HeightEntry (CatchEntry c r f) ∷ xs) ≡ height_unwound b (Some h) xs
  unwound-by u c r f xs h e = ap (λ t. height_recovered (cond t (unifier ((c, copied b f.next) ∷ [])) None) b r f xs
      (height_unwound b (cond t (first_mark f.items) (Some h)) xs)) e

  unwound-catch : (e u : Name) (c r : Term) (p : Name) (f : Continuation Name) (xs : List Element) → Lands xs → (mark : Option Name)
      → IsSound xs → IsMarkGuarded xs mark → erased (search (Thrown b mark o) xs)
      ≡ height_unwound b (mark_height xs mark) (HeightEntry (CatchEntry c r (continuation_heights (height xs) f)) ∷ erased xs)
  unwound-catch e u c r p f xs h None i m = h.0 None i tt
  unwound-catch e u c r p f xs h (Some s) i m =
      let far : (height xs s - 1 == length (erased xs)) ≡ false = not_equal (height xs s - 1) (length (erased xs))
      (omega (arith, length-erased xs, guarded-low xs s m)) in
      h.0 (Some s) i m ∙ sym (unwound-by c c r (continuation_heights (height xs) f) (erased xs) (height xs s - 1) far)

  unwound-there : (e u : Name) (c r : Term) (p : Name) (f : Continuation Name) (xs : List Element) → Lands xs → (s : Name) → s ≡ e
      → IsSound (Catch e u c r p f ∷ xs) → erased (search (Caught b s o) (Catch e u c r p f ∷ xs))
      ≡ height_unwound b (Some (suc (element_count xs) - 1)) (HeightEntry (CatchEntry c r (continuation_heights (height xs) f)) ∷ erased xs)
  unwound-there e u c r p f xs h s is i =
      let g : Continuation ℕ = continuation_heights (height xs) f in
      let n : ℕ = length (erased xs) in
      let near : (suc (element_count xs) - 1 == n) ≡ true = eq-eqb (suc (element_count xs) - 1) n (omega (arith, length-erased xs)) in
      let itself : same s e ≡ true = subst (λ o. same s o ≡ true) is (same-itself s) in
      let take : Option Substitution = unifier ((c, copied b f.next) ∷ []) in
      let next : Sought = Thrown b (first_mark f.items) o in
      let on : erased (search next xs) ≡ height_unwound b (first_mark g.items) (erased xs) = h.0 (first_mark f.items) i.2
      (mark-guarded xs f.items i.0.marks) ∙ ap (λ k. height_unwound b k (erased xs)) (sym (mark-heights xs f.items)) in
      ap (λ t. erased (looked (scoped clauses) (cond t (recovery_look take b r u p f next) (On (Caught b s o)))
      (λ q. search_for (scoped clauses) q xs) xs)) itself
      ∙ recover-height take r u p f next xs (height_unwound b (first_mark g.items) (erased xs)) i.1 on
      ∙ sym (ap (λ t. height_recovered (cond t take None) b r g (erased xs)
      (height_unwound b (cond t (first_mark g.items) (Some (suc (element_count xs) - 1))) (erased xs))) near)

  no_catch : {A : Type 0} → (x : Element) (xs t : List Element) (s u : Name) (c r : Term) (p : Name) (f : Continuation Name)
      → (x ≡ Catch s u c r p f → ⊥) → x ∷ xs ≡ Catch s u c r p f ∷ t → A
  no_catch x xs t s u c r p f n e = absurd (n cc)

  catch_name : (e u s v : Name) (c r d q : Term) (p o : Name) (f g : Continuation Name) (xs t : List Element)
      → ◌≡◌ {A = List Element} (Catch e u c r p f ∷ xs) (Catch s v d q o g ∷ t) → s ≡ e
  catch_name e u s v c r d q p o f g xs t e2 = cc

  again : (mark : Option Name) (xs ys : List Element) → ((s : Name) → from ys s ≡ from xs s) → IsMarkGuarded ys mark → IsMarkGuarded xs mark
  again None xs ys e m = tt
  again (Some s) xs ys e m = record {
    scope = m.scope;
    catcher = m.catcher;
    recovery = m.recovery;
    name = m.name;
    after = m.after;
    under = m.under;
    found = sym (e s)
        ∙ m.found;
  }

  -- what a ball passes
  unwound-credit : (k : ℕ) (rs : List Record) (xs : List Element) → Lands xs → IsSound xs → (mark : Option Name)
      → IsMarkGuarded (Credit k rs ∷ xs) mark → erased (search (Thrown b mark o) (Credit k rs ∷ xs))
      ≡ height_unwound b (mark_height (Credit k rs ∷ xs) mark) (erased (Credit k rs ∷ xs))
  unwound-credit k rs xs h i None m = h.0 None i tt
  unwound-credit k rs xs h i (Some s) m = h.0 (Some s) i (again (Some s) xs (Credit k rs ∷ xs) (λ e. refl) m)

  unwound-plain : (p : Name) (f : Continuation Name) (xs : List Element) → Lands xs → IsSound xs → (mark : Option Name)
      → IsMarkGuarded (Plain p f ∷ xs) mark → erased (search (Thrown b mark o) (Plain p f ∷ xs))
      ≡ height_unwound b (mark_height (Plain p f ∷ xs) mark) (erased (Plain p f ∷ xs))
  unwound-plain p f xs h i None m = h.0 None i tt
  unwound-plain p f xs h i (Some s) m = h.0 (Some s) i (again (Some s) xs (Plain p f ∷ xs) (λ e. refl) m)

  unwound-findall : (e v : Name) (results : List Term) (list : Term) (p : Name) (f : Continuation Name) (xs : List Element) → Lands xs
      → IsSound xs → (mark : Option Name) → IsMarkGuarded (Findall e v results list p f ∷ xs) mark
      → erased (search (Thrown b mark o) (Findall e v results list p f ∷ xs))
      ≡ height_unwound b (mark_height (Findall e v results list p f ∷ xs) mark) (erased (Findall e v results list p f ∷ xs))
  unwound-findall e v results list p f xs h i None m = h.0 None i tt
  unwound-findall e v results list p f xs h i (Some s) m = h.0 (Some s) i
      (again (Some s) xs (Findall e v results list p f ∷ xs) (λ e. refl) m)

  unwound-over : (p : Name) (ball : Option Term) (xs : List Element) → Lands xs → IsSound xs → (mark : Option Name)
      → IsMarkGuarded (End p ball ∷ xs) mark → erased (search (Thrown b mark o) (End p ball ∷ xs))
      ≡ height_unwound b (mark_height (End p ball ∷ xs) mark) (erased (End p ball ∷ xs))
  unwound-over p ball xs h i None m = h.0 None i tt
  unwound-over p ball xs h i (Some s) m = h.0 (Some s) i (again (Some s) xs (End p ball ∷ xs) (λ e. refl) m)

  unwound-at : (e u : Name) (c r : Term) (p : Name) (f : Continuation Name) (xs : List Element) → Lands xs → IsSound xs
      → (mark : Option Name) → IsMarkGuarded (Catch e u c r p f ∷ xs) mark → erased (search (Thrown b mark o) (Catch e u c r p f ∷ xs))
      ≡ height_unwound b (mark_height (Catch e u c r p f ∷ xs) mark) (erased (Catch e u c r p f ∷ xs))
  unwound-at e u c r p f xs h i None m = unwound-catch e u c r p f xs h None i tt
  unwound-at e u c r p f xs h i (Some s) m = unwound-catch e u c r p f xs h (Some s) i
      (again (Some s) xs (Catch e u c r p f ∷ xs) (λ e. refl) m)

  pub unwound-height : (xs : List Element) → Lands xs
  unwound-height [] = ((λ mark i m. nothing mark m), λ s u c r p f t i e. absurd cc)
    where
      nothing : (mark : Option Name) → IsMarkGuarded [] mark → erased (search (Thrown b mark o) [])
          ≡ height_unwound b (mark_height [] mark) []
      nothing None m = refl
      nothing (Some s) m = refl
  unwound-height (EndOf e ∷ xs) = (
    (λ mark i m. unwound-end e xs (unwound-height xs) mark i m),
    λ s u c r p f t i k. no_catch (EndOf e) xs t s u c
        r p f (λ q. cc) k,
  )
  unwound-height (Credit j rs ∷ xs) = (
    (λ mark i m. unwound-credit j rs xs (unwound-height xs) i.1 mark m),
    λ s u c r p f t i k. no_catch (Credit j rs) xs t s u c r p f
        (λ q. cc) k,
  )
  unwound-height (Catch e u c r p f ∷ xs) = (
    (λ mark i m. unwound-at e u c r p f xs (unwound-height xs) i.2 mark m),
    λ s v d q o g t i k. unwound-there e u c r p f xs (unwound-height xs)
        s (catch_name e u s v c r d q p o f g xs t k) i,
  )
  unwound-height (Plain p f ∷ xs) = (
    (λ mark i m. unwound-plain p f xs (unwound-height xs) i.1 mark m),
    λ s u c r q g t i k. no_catch (Plain p f)
        xs t s u c r q g (λ q. cc) k,
  )
  unwound-height (Findall e v results list p f ∷ xs) = (
    (λ mark i m. unwound-findall e v results list p f xs (unwound-height xs) i.3 mark m),
    λ s u c r q g t i k.
        no_catch (Findall e v results list p f) xs t s u c r q g (λ q. cc) k,
  )
  unwound-height (End p ball ∷ xs) = (
    (λ mark i m. unwound-over p ball xs (unwound-height xs) i mark m),
    λ s u c r q g t i k.
        no_catch (End p ball) xs t s u c r q g (λ q. cc) k,
  )
