-- Ways under other names, where nodes have merged.
use Rattle.std.proofs.Common.{◌≡◌, ℕ, suc, ◌==◌, Bool, true, false, cond, List, [], ◌∷◌, refl, sym, ap, ◌∙◌, subst, arith}
use Rattle.std.specs.Prelude.{◌&&◌}
use Rattle.run_model.specs.Machine.Items.{Item, GoalItem, CatchMark, CollectMark, RemovalItem}
use Rattle.tree_model.specs.Nodes.{Kind, ChoiceNode, CatchNode, FindallNode}
use Rattle.tree_model.specs.PendingLists.{Step, Way}
use Rattle.tree_model.specs.Ways.{same_kind, stops_cuts, is_barrier, in_reach, through, way_from, way_above, AreScoped}
use Rattle.interleaving.proofs.WayLemmas.{cond-true, cond-false, reach-on, through-on, other_number}
use Rattle.interleaving.proofs.RoundtripLemmas.{by_nodes, IsPath}
use Rattle.au_term.proofs.LogicLemmas.{and-false, number_same}

-- a way and what it becomes: each step has its own, but for hidden ones, whose nodes no goal names
pub data Collapses (name : ℕ → ℕ) (seen : ℕ → Bool) : Way → Way → Type 0 where
  nothing : Collapses name seen [] []
  kept : (a b : Step) (u w : Way) → name a.node ≡ b.node → a.index ≡ b.index → a.kind ≡ b.kind → Collapses name seen u w
      → Collapses name seen (a ∷ u) (b ∷ w)
  hidden : (a : Step) (u w : Way) → a.kind ≡ ChoiceNode → seen a.node ≡ false → Collapses name seen u w → Collapses name seen (a ∷ u) w

pub path-from : (way : Way) (s : ℕ) → IsPath way → IsPath (way_from way s)
path-from [] s p = tt
path-from (a ∷ way) s p = go (a.node == s) (path-from way s p.1)
  where
    go : (b : Bool) → IsPath (way_from way s) → IsPath (cond b (a ∷ way) (way_from way s))
    go true h = p
    go false h = h

pub path-above : (way : Way) (s : ℕ) → IsPath way → IsPath (way_above way s)
path-above [] s p = tt
path-above (a ∷ way) s p = go (a.node == s) (path-above way s p.1)
  where
    go : (b : Bool) → IsPath (way_above way s) → IsPath (cond b way (way_above way s))
    go true h = p.1
    go false h = h

barrier_same : (a b : Step) → a.index ≡ b.index → a.kind ≡ b.kind → is_barrier a ≡ is_barrier b
barrier_same a b i k = ap (λ n. (n == 0) && stops_cuts a.kind) i ∙ ap (λ j. (b.index == 0) && stops_cuts j) k

choice_open : (a : Step) → a.kind ≡ ChoiceNode → is_barrier a ≡ false
choice_open a k = ap (λ j. (a.index == 0) && stops_cuts j) k ∙ and-false (a.index == 0)

-- a scope in reach stays in reach
pub record Reaches (name : ℕ → ℕ) (seen : ℕ → Bool) (u w : Way) (s : ℕ) : Type 0 where
  pub reach : in_reach w (name s) ≡ true
  pub rest : Collapses name seen (way_from u s) (way_from w (name s))

pub reach_preserved : (name : ℕ → ℕ) (seen : ℕ → Bool) (u w : Way) (s : ℕ) → Collapses name seen u w → IsPath w → seen s ≡ true
    → in_reach u s ≡ true → Reaches name seen u w s
reach_preserved name seen u w s nothing p v h = let no_way : ⊥ = cc in absurd no_way
reach_preserved name seen u w s (kept a b u₁ w₁ n i k c) p v h = go (a.node == s) refl (is_barrier a) refl
    (reach_preserved name seen u₁ w₁ s c p.1 v) h
  where
    go : (x : Bool) → (a.node == s) ≡ x → (y : Bool) → is_barrier a ≡ y → (in_reach u₁ s ≡ true → Reaches name seen u₁ w₁ s)
        → cond x true (cond y false (in_reach u₁ s)) ≡ true → Reaches name seen (a ∷ u₁) (b ∷ w₁) s
    go true e y f r j =
        let same : a.node ≡ s = grind arith in
        let here : (b.node == name s) ≡ true = ap (λ m. m == name s) (sym n ∙ ap name same) ∙ number_same (name s) in
        record {
          reach = cond-true (b.node == name s) true _ here;
          rest = subst (λ x. Collapses name seen x (way_from (b ∷ w₁) (name s)))
              (sym (cond-true (a.node == s) (a ∷ u₁) (way_from u₁ s) e))
              (subst (λ x. Collapses name seen (a ∷ u₁) x) (sym (cond-true (b.node == name s) (b ∷ w₁) (way_from w₁ (name s)) here))
              (kept a b u₁ w₁ n i k c));
        }
    go false e false f r j =
        let g = r j in
        let off : (b.node == name s) ≡ false = other_number w₁ b.node (name s) p.0 (reach-on w₁ (name s) g.reach) (b.node == name s) refl in
        let no_stop : is_barrier b ≡ false = sym (barrier_same a b i k) ∙ f in
        record {
          reach = cond-false (b.node == name s) true _ off ∙ (cond-false (is_barrier b) false (in_reach w₁ (name s)) no_stop ∙ g.reach);
          rest = subst (λ x. Collapses name seen x (way_from (b ∷ w₁) (name s)))
              (sym (cond-false (a.node == s) (a ∷ u₁) (way_from u₁ s) e))
              (subst (λ x. Collapses name seen (way_from u₁ s) x)
              (sym (cond-false (b.node == name s) (b ∷ w₁) (way_from w₁ (name s)) off)) g.rest);
        }
    go false e true f r j = let no_way : ⊥ = cc in absurd no_way
reach_preserved name seen u w s (hidden a u₁ w₁ k d c) p v h = go (a.node == s) refl (reach_preserved name seen u₁ w s c p v) h
  where
    go : (x : Bool) → (a.node == s) ≡ x → (in_reach u₁ s ≡ true → Reaches name seen u₁ w s)
        → cond x true (cond (is_barrier a) false (in_reach u₁ s)) ≡ true → Reaches name seen (a ∷ u₁) w s
    go true e r j = let same : a.node ≡ s = grind arith in let no_way : ⊥ = cc in absurd no_way
    go false e r j =
        let g = r (sym (cond-false (is_barrier a) false (in_reach u₁ s) (choice_open a k)) ∙ j) in
        record {
          reach = g.reach;
          rest = subst (λ x. Collapses name seen x (way_from w (name s)))
              (sym (cond-false (a.node == s) (a ∷ u₁) (way_from u₁ s) e)) g.rest;
        }

-- and so does a mark's node
pub record GoesThrough (kind : Kind) (name : ℕ → ℕ) (seen : ℕ → Bool) (u w : Way) (s : ℕ) : Type 0 where
  pub reach : through kind w (name s) ≡ true
  pub rest : Collapses name seen (way_above u s) (way_above w (name s))

not_choice : (b : Bool) (k : Kind) → k ≡ ChoiceNode → (kind : Kind) → same_kind ChoiceNode kind ≡ false → (b && same_kind k kind) ≡ false
not_choice true k e kind h = ap (λ j. same_kind j kind) e ∙ h
not_choice false k e kind h = refl

pub through_preserved : (kind : Kind) → same_kind ChoiceNode kind ≡ false → (name : ℕ → ℕ) (seen : ℕ → Bool) (u w : Way) (s : ℕ)
    → Collapses name seen u w → IsPath w → through kind u s ≡ true → GoesThrough kind name seen u w s
through_preserved kind q name seen u w s nothing p h = let no_way : ⊥ = cc in absurd no_way
through_preserved kind q name seen u w s (kept a b u₁ w₁ n i k c) p h = go (a.node == s) refl (is_barrier a) refl
    (through_preserved kind q name seen u₁ w₁ s c p.1) h
  where
    go : (x : Bool) → (a.node == s) ≡ x → (y : Bool) → is_barrier a ≡ y
        → (through kind u₁ s ≡ true → GoesThrough kind name seen u₁ w₁ s) → cond x ((a.index == 0) && same_kind a.kind kind)
        (cond y false (through kind u₁ s)) ≡ true → GoesThrough kind name seen (a ∷ u₁) (b ∷ w₁) s
    go true e y f r j =
        let same : a.node ≡ s = grind arith in
        let here : (b.node == name s) ≡ true = ap (λ m. m == name s) (sym n ∙ ap name same) ∙ number_same (name s) in
        let side : ((b.index == 0) && same_kind b.kind kind) ≡ true = ap (λ m. (m == 0) && same_kind b.kind kind) (sym i)
        ∙ (ap (λ m. (a.index == 0) && same_kind m kind) (sym k) ∙ j) in
        record {
          reach = cond-true (b.node == name s) ((b.index == 0) && same_kind b.kind kind)
              (cond (is_barrier b) false (through kind w₁ (name s))) here ∙ side;
          rest = subst (λ x. Collapses name seen x (way_above (b ∷ w₁) (name s))) (sym (cond-true (a.node == s) u₁ (way_above u₁ s) e))
              (subst (λ x. Collapses name seen u₁ x) (sym (cond-true (b.node == name s) w₁ (way_above w₁ (name s)) here)) c);
        }
    go false e false f r j =
        let g = r j in
        let off : (b.node == name s) ≡ false = other_number w₁ b.node (name s) p.0 (through-on kind w₁ (name s) g.reach)
        (b.node == name s) refl in
        let no_stop : is_barrier b ≡ false = sym (barrier_same a b i k) ∙ f in
        record {
          reach = cond-false (b.node == name s) ((b.index == 0) && same_kind b.kind kind)
              (cond (is_barrier b) false (through kind w₁ (name s))) off
              ∙ (cond-false (is_barrier b) false (through kind w₁ (name s)) no_stop ∙ g.reach);
          rest = subst (λ x. Collapses name seen x (way_above (b ∷ w₁) (name s))) (sym (cond-false (a.node == s) u₁ (way_above u₁ s) e))
              (subst (λ x. Collapses name seen (way_above u₁ s) x) (sym (cond-false (b.node == name s) w₁ (way_above w₁ (name s)) off))
              g.rest);
        }
    go false e true f r j = let no_way : ⊥ = cc in absurd no_way
through_preserved kind q name seen u w s (hidden a u₁ w₁ k d c) p h = go (a.node == s) refl
    (through_preserved kind q name seen u₁ w s c p) h
  where
    go : (x : Bool) → (a.node == s) ≡ x → (through kind u₁ s ≡ true → GoesThrough kind name seen u₁ w s)
        → cond x ((a.index == 0) && same_kind a.kind kind) (cond (is_barrier a) false (through kind u₁ s)) ≡ true
        → GoesThrough kind name seen (a ∷ u₁) w s
    go true e r j = let no_way : ⊥ = true_is_false (sym j ∙ not_choice (a.index == 0) a.kind k kind q) in absurd no_way
      where
        true_is_false : true ≡ false → ⊥
        true_is_false z = cc
    go false e r j =
        let g = r (sym (cond-false (is_barrier a) false (through kind u₁ s) (choice_open a k)) ∙ j) in
        record {
          reach = g.reach;
          rest = subst (λ x. Collapses name seen x (way_above w (name s)))
              (sym (cond-false (a.node == s) u₁ (way_above u₁ s) e)) g.rest;
        }

-- the goals of items name nothing that is hidden
abbrev pub AreSeen : (ℕ → Bool) → List (Item ℕ) → Type 0
AreSeen seen [] = Unit {0}
AreSeen seen (GoalItem t s ∷ items) = (seen s ≡ true) × AreSeen seen items
AreSeen seen (CatchMark s ∷ items) = AreSeen seen items
AreSeen seen (CollectMark t s ∷ items) = AreSeen seen items
AreSeen seen (RemovalItem number ∷ items) = AreSeen seen items

-- a mark by the height of a cut to its node
abbrev pub as_scopes : List (Item ℕ) → List (Item ℕ)
as_scopes items = by_nodes (λ h. h) items

pub items_preserved : (name : ℕ → ℕ) (seen : ℕ → Bool) (u w : Way) (items : List (Item ℕ)) → Collapses name seen u w → IsPath w
    → AreSeen seen items → AreScoped u (as_scopes items) → AreScoped w (by_nodes name items)
items_preserved name seen u w [] c p v h = tt
items_preserved name seen u w (GoalItem t s ∷ items) c p v h =
    let r = reach_preserved name seen u w s c p v.0 h.0 in
    (r.reach, items_preserved name seen (way_from u s) (way_from w (name s)) items r.rest (path-from w (name s) p) v.1 h.1)
items_preserved name seen u w (CatchMark s ∷ items) c p v h =
    let r = through_preserved CatchNode refl name seen u w (suc s) c p h.0 in (
      r.reach,
      items_preserved name seen (way_above u (suc s)) (way_above w (name (suc s))) items r.rest
          (path-above w (name (suc s)) p) v h.1,
    )
items_preserved name seen u w (CollectMark t s ∷ items) c p v h =
    let r = through_preserved FindallNode refl name seen u w (suc s) c p h.0 in (
      r.reach,
      items_preserved name seen (way_above u (suc s)) (way_above w (name (suc s))) items r.rest
          (path-above w (name (suc s)) p) v h.1,
    )
items_preserved name seen u w (RemovalItem number ∷ items) c p v h = items_preserved name seen u w items c p v h
