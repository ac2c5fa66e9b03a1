-- Scopes along a way.
use Rattle.std.proofs.Common.{◌≡◌, ℕ, ◌==◌, Bool, true, false, cond, List, [], ◌∷◌, refl, sym, ◌∙◌, subst, arith}
use Rattle.std.specs.Prelude.{◌&&◌}
use Rattle.run_model.specs.Machine.Items.{Item, GoalItem, CatchMark, CollectMark, RemovalItem}
use Rattle.tree_model.specs.Nodes.{Kind, CatchNode, FindallNode}
use Rattle.tree_model.specs.Levels.{Level}
use Rattle.tree_model.specs.PendingLists.{Step, Way, way_of}
use Rattle.tree_model.specs.Ways.{is_on, same_kind, is_barrier, in_reach, through, way_from, way_above, AreScoped}
use Rattle.tree_model.specs.SoundTrees.{one_if}
use Rattle.tree_model.proofs.CountLemmas.{count_around}

-- a test on a Bool whose value is known
pub cond-true : {A : Type 0} → (b : Bool) (x y : A) → b ≡ true → cond b x y ≡ x
cond-true true x y h = refl
cond-true false x y h = let no_way : ⊥ = cc in absurd no_way

pub cond-false : {A : Type 0} → (b : Bool) (x y : A) → b ≡ false → cond b x y ≡ y
cond-false false x y h = refl
cond-false true x y h = let no_way : ⊥ = cc in absurd no_way

pub one_if-zero : (b : Bool) → one_if b ≡ 0 → b ≡ false
one_if-zero false h = refl
one_if-zero true h = let no_way : ⊥ = cc in absurd no_way

-- a number that no node has is on no way
pub off_way : (m : ℕ) (levels : List Level) → count_around m levels ≡ 0 → is_on (way_of levels) m ≡ false
off_way m [] h = refl
off_way m (v ∷ up) h =
    let above : count_around m up ≡ 0 = omega (arith, h) in
    let here : one_if (v.number == m) ≡ 0 = omega (arith, h) in
    cond-false (v.number == m) true (is_on (way_of up) m) (one_if-zero (v.number == m) here) ∙ off_way m up above

-- what is in reach is on the way
pub reach-on : (way : Way) (s : ℕ) → in_reach way s ≡ true → is_on way s ≡ true
reach-on [] s h = h
reach-on (a ∷ way) s h = go (a.node == s) (is_barrier a) (reach-on way s) h
  where
    go : (b c : Bool) → (in_reach way s ≡ true → is_on way s ≡ true) → cond b true (cond c false (in_reach way s)) ≡ true
        → cond b true (is_on way s) ≡ true
    go true c f k = refl
    go false false f k = f k
    go false true f k = let no_way : ⊥ = cc in absurd no_way

pub through-on : (kind : Kind) (way : Way) (s : ℕ) → through kind way s ≡ true → is_on way s ≡ true
through-on kind [] s h = h
through-on kind (a ∷ way) s h = go (a.node == s) (is_barrier a) (through-on kind way s) h
  where
    go : (b c : Bool) → (through kind way s ≡ true → is_on way s ≡ true) → cond b ((a.index == 0) && same_kind a.kind kind)
        (cond c false (through kind way s)) ≡ true → cond b true (is_on way s) ≡ true
    go true c f k = refl
    go false false f k = f k
    go false true f k = let no_way : ⊥ = cc in absurd no_way

-- the number of a step that is on a way is not one that doesn't
pub other_number : (way : Way) (n s : ℕ) → is_on way n ≡ false → is_on way s ≡ true → (b : Bool) → (n == s) ≡ b → b ≡ false
other_number way n s h k false e = refl
other_number way n s h k true e = let same : n ≡ s = grind arith in let no_way : ⊥ = cc in absurd no_way

-- a new step below a way that is no barrier
pub below_new : (a : Step) (way : Way) (items : List (Item ℕ)) → is_on way a.node ≡ false → is_barrier a ≡ false → AreScoped way items
    → AreScoped (a ∷ way) items
below_new a way [] n b h = tt
below_new a way (GoalItem t s ∷ items) n b h =
    let new : (a.node == s) ≡ false = other_number way a.node s n (reach-on way s h.0) (a.node == s) refl in
    let reach : in_reach (a ∷ way) s ≡ true = cond-false (a.node == s) true _ new
    ∙ (cond-false (is_barrier a) false (in_reach way s) b ∙ h.0) in
    let rest : way_from (a ∷ way) s ≡ way_from way s = cond-false (a.node == s) (a ∷ way) (way_from way s) new in
    (reach, subst (λ w. AreScoped w items) (sym rest) h.1)
below_new a way (CatchMark s ∷ items) n b h =
    let new : (a.node == s) ≡ false = other_number way a.node s n (through-on CatchNode way s h.0) (a.node == s) refl in
    let reach : through CatchNode (a ∷ way) s ≡ true = cond-false (a.node == s) _ _ new
    ∙ (cond-false (is_barrier a) false (through CatchNode way s) b ∙ h.0) in
    let rest : way_above (a ∷ way) s ≡ way_above way s = cond-false (a.node == s) way (way_above way s) new in
    (reach, subst (λ w. AreScoped w items) (sym rest) h.1)
below_new a way (CollectMark t s ∷ items) n b h =
    let new : (a.node == s) ≡ false = other_number way a.node s n (through-on FindallNode way s h.0) (a.node == s) refl in
    let reach : through FindallNode (a ∷ way) s ≡ true = cond-false (a.node == s) _ _ new
    ∙ (cond-false (is_barrier a) false (through FindallNode way s) b ∙ h.0) in
    let rest : way_above (a ∷ way) s ≡ way_above way s = cond-false (a.node == s) way (way_above way s) new in
    (reach, subst (λ w. AreScoped w items) (sym rest) h.1)
below_new a way (RemovalItem number ∷ items) n b h = below_new a way items n b h

pub cond-same : {A : Type 0} → (b : Bool) (x y : A) → y ≡ x → cond b x y ≡ x
cond-same true x y h = refl
cond-same false x y h = h
