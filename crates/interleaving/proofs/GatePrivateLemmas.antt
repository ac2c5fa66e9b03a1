-- A cut or a ball after credits, taken within a segment of the list.
use Rattle.std.proofs.Common.{◌≡◌, ℕ, ◌+◌, Bool, List, [], ◌∷◌, ◌++◌, map, Some, refl, ap, subst}
use Rattle.run_model.specs.Programs.Clauses.{Clause}
use Rattle.run_model.specs.Machine.Items.{Item, GoalItem, CatchMark, CollectMark, RemovalItem, Continuation, with_items, without_marks}
use Rattle.tree_model.specs.Elements.{Name, Record, Element, Plain}
use Rattle.interleaving.specs.Machine.{Machine, Drops, Becomes, Infers, gives}
use Rattle.interleaving.specs.Scopes.{Shared, Sought, Does, ElementReplacement, act, unmarked, scoped}
use Rattle.interleaving.specs.Segments.{outer, placed_in, Private, private_none, private_changes, private_infers}
use Rattle.interleaving.specs.Quiet.{IsQuiet, inferences, records}
use Rattle.interleaving.proofs.QuietCreditLemmas.{private-then, gives-fixed, quiet-private}
use Rattle.interleaving.proofs.FrontCloseLemmas.{bare}

module _ (clauses : List Clause) where
  abbrev m : Machine Shared Element Sought Record
  m = scoped clauses

  pub wakes_bare : (items : List (Item Name)) (p : Name) (f : Continuation Name) (q : ElementReplacement)
      → act clauses (Plain p (with_items items f)) ≡ Infers q → unmarked items p f ≡ Becomes (Plain p (with_items items f))
  wakes_bare [] p f q h = refl
  wakes_bare (GoalItem t s ∷ items) p f q h = refl
  wakes_bare (CatchMark s ∷ items) p f q h = refl
  wakes_bare (RemovalItem k ∷ items) p f q h = refl
  wakes_bare (CollectMark t s ∷ items) p f q h = absurd (no_way h)
    where
      no_way : ◌≡◌ {A = Does} (Drops ((s, t) ∷ [])) (Infers q) → ⊥
      no_way h = cc

  -- marks in front wake to what is after them
  pub unmark_private : (inner : Record → Bool) (j : ℕ) (rs : List Record) (p : Name) (f : Continuation Name) (q : ElementReplacement)
      (xs b : List Element) → act clauses (bare clauses p f) ≡ Infers q → Private m inner j rs (bare clauses p f ∷ xs) b
      → Private m inner j rs (Plain p f ∷ xs) b
  unmark_private inner j rs p f q xs b h k = go f.items h k
    where
      go : (items : List (Item Name)) → act clauses (Plain p (with_items (without_marks items) f)) ≡ Infers q
          → Private m inner j rs (Plain p (with_items (without_marks items) f) ∷ xs) b
          → Private m inner j rs (Plain p (with_items items f) ∷ xs) b
      go [] h k = k
      go (GoalItem t s ∷ items) h k = k
      go (CollectMark t s ∷ items) h k = k
      go (RemovalItem n ∷ items) h k = k
      go (CatchMark s ∷ items) h k = private_changes j (Plain p (with_items (CatchMark s ∷ items) f))
          (Plain p (with_items (without_marks items) f)) rs xs b
          (wakes_bare (without_marks items) p (with_items (CatchMark s ∷ items) f) q h) k

  pub gate_private : (inner : Record → Bool) (xs : List Element) (p : Name) (f : Continuation Name) (q : ElementReplacement)
      (mid b : List Element)
      → IsQuiet xs → act clauses (bare clauses p f) ≡ Infers q → placed_in m q (map (gives m (records xs)) mid) ≡ Some b
      → Private m inner (inferences xs + 1) (outer inner (records xs) ++ []) (xs ++ (Plain p f ∷ mid)) b
  gate_private inner xs p f q mid b quiet h found =
      let rs = records xs in
      let first = quiet-private clauses inner xs (Plain p f ∷ mid) quiet in
      let fixed : map (gives m rs) (Plain p f ∷ mid) ≡ Plain p f ∷ map (gives m rs) mid = ap (λ x. x ∷ map (gives m rs) mid)
      (gives-fixed clauses rs (Plain p f) tt) in
      let step = unmark_private inner 1 [] p f q (map (gives m rs) mid) b h
      (private_infers 0 (bare clauses p f) q [] (map (gives m rs) mid) b b h found (private_none b)) in
      private-then m inner 1 (inferences xs) (outer inner rs) [] (xs ++ (Plain p f ∷ mid)) (Plain p f ∷ map (gives m rs) mid) b
      (subst (Private m inner (inferences xs) (outer inner rs) (xs ++ (Plain p f ∷ mid))) fixed first) step
