-- Scopes along a branch, read in the list after it.
use Rattle.std.proofs.Common.{◌≡◌, ℕ, ◌≤◌, ◌==◌, Bool, true, false, cond, List, [], ◌∷◌, map, length, refl, sym, ap, ◌∙◌, subst, arith}
use Rattle.std.specs.Prelude.{◌&&◌}
use Rattle.au_model.specs.Terms.Each.{Each}
use Rattle.run_model.specs.Machine.Items.{Item, GoalItem, CatchMark, CollectMark, RemovalItem}
use Rattle.tree_model.specs.Nodes.{Kind, CatchNode, FindallNode}
use Rattle.tree_model.specs.Levels.{Level}
use Rattle.tree_model.specs.Floors.{renamed_item}
use Rattle.tree_model.specs.Elements.{Name}
use Rattle.tree_model.specs.PendingLists.{way_of, step_of, scope_on, back_of}
use Rattle.tree_model.specs.Ways.{is_on, same_kind, way_from}
use Rattle.tree_model.specs.SoundTrees.{one_if}
use Rattle.tree_model.specs.CaughtTrees.{catch_right, with_catch}
use Rattle.tree_model.proofs.CountLemmas.{count_around}
use Rattle.interleaving.specs.Erased.{from}
use Rattle.interleaving.specs.Sound.{names, IsChain}
use Rattle.interleaving.proofs.WayLemmas.{cond-false}
use Rattle.interleaving.proofs.ListEndLemmas.{on-counts, levels_down, from_back}

-- each number on a branch once
abbrev pub IsDistinct : List Level → Type 0
IsDistinct levels = (m : ℕ) → count_around m levels ≤ 1

-- which catch nodes of a branch sleep
abbrev pub dormant_on : List Level → ℕ → Bool
dormant_on [] = λ m. false
dormant_on (v ∷ up) = with_catch v.number (catch_right v.right) (dormant_on up)

-- whether a number is that of a node of this kind through whose goal side the branch leads
abbrev pub side_at : Kind → List Level → ℕ → Bool
side_at kind [] s = false
side_at kind (v ∷ up) s = cond (v.number == s) ((length v.left == 0) && same_kind v.kind kind) (side_at kind up s)

-- items along a branch: each scope on it, each mark at its node's goal side, what follows no lower
abbrev pub Scoped : List Level → List (Item ℕ) → Type 0
Scoped levels [] = Unit {0}
Scoped levels (GoalItem t s ∷ items) = (is_on (way_of levels) s ≡ true) × Scoped (levels_down levels s) items
Scoped levels (CatchMark s ∷ items) = (is_on (way_of levels) s ≡ true) × (side_at CatchNode levels s ≡ true) × Scoped
    (levels_down levels s) items
Scoped levels (CollectMark t s ∷ items) = (is_on (way_of levels) s ≡ true) × (side_at FindallNode levels s ≡ true) × Scoped
    (levels_down levels s) items
Scoped levels (RemovalItem number ∷ items) = Scoped levels items

pub way_down : (levels : List Level) (s : ℕ) → way_of (levels_down levels s) ≡ way_from (way_of levels) s
way_down [] s = refl
way_down (v ∷ up) s = go (v.number == s) (way_down up s)
  where
    go : (b : Bool) → way_of (levels_down up s) ≡ way_from (way_of up) s → way_of (cond b (v ∷ up) (levels_down up s))
        ≡ cond b (step_of v ∷ way_of up) (way_from (way_of up) s)
    go true h = refl
    go false h = h

pub distinct-up : (v : Level) (up : List Level) → IsDistinct (v ∷ up) → IsDistinct up
distinct-up v up d m = let z = d m in omega (arith, z)

pub distinct-down : (levels : List Level) (s : ℕ) → IsDistinct levels → IsDistinct (levels_down levels s)
distinct-down [] s d = d
distinct-down (v ∷ up) s d = go (v.number == s) (distinct-down up s (distinct-up v up d))
  where
    go : (b : Bool) → IsDistinct (levels_down up s) → IsDistinct (cond b (v ∷ up) (levels_down up s))
    go true h = d
    go false h = h

-- a branch from a node up, and what is read on it
pub on-down : (levels : List Level) (s r : ℕ) → is_on (way_of (levels_down levels s)) r ≡ true → is_on (way_of levels) r ≡ true
on-down [] s r h = h
on-down (v ∷ up) s r h = go (v.number == s) (on-down up s r) h
  where
    go : (b : Bool) → (is_on (way_of (levels_down up s)) r ≡ true → is_on (way_of up) r ≡ true)
        → is_on (way_of (cond b (v ∷ up) (levels_down up s))) r ≡ true → is_on (way_of (v ∷ up)) r ≡ true
    go true f k = k
    go false f k = behind (v.number == r) (f k)
      where
        behind : (c : Bool) → is_on (way_of up) r ≡ true → cond c true (is_on (way_of up) r) ≡ true
        behind true z = refl
        behind false z = z

pub apart_above : (v : Level) (up : List Level) (r : ℕ) → IsDistinct (v ∷ up) → is_on (way_of up) r ≡ true → (v.number == r) ≡ false
apart_above v up r d h = go (v.number == r) refl
  where
    go : (b : Bool) → (v.number == r) ≡ b → b ≡ false
    go false e = refl
    go true e =
        let many = d r in
        let few = on-counts r up h in
        let one : one_if (v.number == r) ≡ 1 = ap one_if e in
        let no_way : ⊥ = omega (arith, many, few, one) in absurd no_way

-- what is read on a part of a branch is what is read on the branch
pub record Reads (base levels : List Level) (r : ℕ) : Type 0 where
  pub down : levels_down base r ≡ levels_down levels r
  pub scope : scope_on (way_of base) r ≡ scope_on (way_of levels) r
  pub sleeps : dormant_on base r ≡ dormant_on levels r

reads_down : (levels : List Level) (s r : ℕ) → IsDistinct levels → is_on (way_of (levels_down levels s)) r ≡ true
    → Reads levels (levels_down levels s) r
reads_down [] s r d h = record { down = refl; scope = refl; sleeps = refl }
reads_down (v ∷ up) s r d h = go (v.number == s) (λ k. reads_down up s r (distinct-up v up d) k) (λ k. on-down up s r k) h
  where
    go : (b : Bool) → (is_on (way_of (levels_down up s)) r ≡ true → Reads up (levels_down up s) r)
        → (is_on (way_of (levels_down up s)) r ≡ true → is_on (way_of up) r ≡ true)
        → is_on (way_of (cond b (v ∷ up) (levels_down up s))) r ≡ true → Reads (v ∷ up) (cond b (v ∷ up) (levels_down up s)) r
    go true f g k = record { down = refl; scope = refl; sleeps = refl }
    go false f g k =
        let off = apart_above v up r d (g k) in
        let h = f k in
        record {
          down = cond-false (v.number == r) (v ∷ up) (levels_down up r) off ∙ h.down;
          scope = cond-false (v.number == r) _ (scope_on (way_of up) r) off ∙ h.scope;
          sleeps = cond-false (v.number == r) (catch_right v.right) (dormant_on up r) off ∙ h.sleeps;
        }

pub reads_then : (base levels : List Level) (s : ℕ) → IsDistinct levels
    → ((r : ℕ) → is_on (way_of levels) r ≡ true → Reads base levels r) → (r : ℕ) → is_on (way_of (levels_down levels s)) r ≡ true
    → Reads base (levels_down levels s) r
reads_then base levels s d f r h =
    let one = f r (on-down levels s r h) in
    let two = reads_down levels s r d h in
    record { down = one.down ∙ two.down; scope = one.scope ∙ two.scope; sleeps = one.sleeps ∙ two.sleeps }

-- names that items carry
abbrev pub named : List Level → List (Item ℕ) → List (Item Name)
named base items = map (renamed_item (scope_on (way_of base)) (scope_on (way_of base))) items

abbrev pub IsOf : List Level → List Level → Name → Type 0
IsOf base levels h = (r : ℕ) × (h ≡ scope_on (way_of base) r) × (is_on (way_of levels) r ≡ true)

of-down : (base levels : List Level) (s : ℕ) (hs : List Name) → Each (IsOf base (levels_down levels s)) hs → Each (IsOf base levels) hs
of-down base levels s [] h = tt
of-down base levels s (n ∷ hs) h = ((h.0.0, h.0.1, on-down levels s h.0.0 h.0.2), of-down base levels s hs h.1)

-- from an end on the list is that of the part of the branch
pub record IsChained (base levels : List Level) (hs : List Name) : Type 0 where
  pub all : Each (IsOf base levels) hs
  pub chain : IsChain (back_of base) hs

module _ (base : List Level) (once : IsDistinct base) where
  abbrev IsPartOf : List Level → Type 0
  IsPartOf levels = (r : ℕ) → is_on (way_of levels) r ≡ true → Reads base levels r

  from_base : (levels : List Level) → IsPartOf levels → (r : ℕ) → is_on (way_of levels) r ≡ true → is_on (way_of base) r ≡ true
      → from (back_of base) (scope_on (way_of base) r) ≡ back_of (levels_down levels r)
  from_base levels f r h k = from_back base r once k ∙ ap back_of (f r h).down

  later : (levels : List Level) (s : ℕ) → IsDistinct levels → IsPartOf levels → is_on (way_of levels) s ≡ true
      → ((r : ℕ) → is_on (way_of levels) r ≡ true → is_on (way_of base) r ≡ true) → (hs : List Name)
      → Each (IsOf base (levels_down levels s)) hs
      → Each (λ r. from (from (back_of base) (scope_on (way_of base) s)) r ≡ from (back_of base) r) hs
  later levels s d f k g [] h = tt
  later levels s d f k g (n ∷ hs) h =
      let r = h.0.0 in
      let at = reads_then base levels s d f r h.0.2 in
      let inner : from (back_of (levels_down levels s)) (scope_on (way_of base) r) ≡ back_of (levels_down (levels_down levels s) r) = ap
      (from (back_of (levels_down levels s))) at.scope ∙ from_back (levels_down levels s) r (distinct-down levels s d) h.0.2 in
      let outer : from (back_of base) (scope_on (way_of base) r) ≡ back_of (levels_down (levels_down levels s) r) = from_back base r
      once (g r (on-down levels s r h.0.2)) ∙ ap back_of at.down in
      let here : from (from (back_of base) (scope_on (way_of base) s)) (scope_on (way_of base) r)
      ≡ from (back_of base) (scope_on (way_of base) r) = ap (λ l. from l (scope_on (way_of base) r))
      (from_base levels f s k (g s k)) ∙ (inner ∙ sym outer) in (
        subst (λ x. from (from (back_of base) (scope_on (way_of base) s)) x ≡ from (back_of base) x) (sym h.0.1) here,
        later levels s d f
            k g hs h.1,
      )

  pub chained : (levels : List Level) (items : List (Item ℕ)) → IsDistinct levels → IsPartOf levels
      → ((r : ℕ) → is_on (way_of levels) r ≡ true → is_on (way_of base) r ≡ true) → Scoped levels items
      → IsChained base levels (names (named base items))
  chained levels [] d f g h = record { all = tt; chain = tt }
  chained levels (RemovalItem number ∷ items) d f g h = chained levels items d f g h
  chained levels (GoalItem t s ∷ items) d f g h =
      let rest = chained (levels_down levels s) items (distinct-down levels s d) (reads_then base levels s d f)
      (λ r k. g r (on-down levels s r k)) h.1 in
      record {
        all = ((s, refl, h.0), of-down base levels s (names (named base items)) rest.all);
        chain =
            (later levels s d f h.0 g (names (named base items)) rest.all, rest.chain);
      }
  chained levels (CatchMark s ∷ items) d f g h =
      let rest = chained (levels_down levels s) items (distinct-down levels s d) (reads_then base levels s d f)
      (λ r k. g r (on-down levels s r k)) h.2 in
      record {
        all = ((s, refl, h.0), of-down base levels s (names (named base items)) rest.all);
        chain =
            (later levels s d f h.0 g (names (named base items)) rest.all, rest.chain);
      }
  chained levels (CollectMark t s ∷ items) d f g h =
      let rest = chained (levels_down levels s) items (distinct-down levels s d) (reads_then base levels s d f)
      (λ r k. g r (on-down levels s r k)) h.2 in
      record {
        all = ((s, refl, h.0), of-down base levels s (names (named base items)) rest.all);
        chain =
            (later levels s d f h.0 g (names (named base items)) rest.all, rest.chain);
      }

pub reads_itself : (base : List Level) (r : ℕ) → is_on (way_of base) r ≡ true → Reads base base r
reads_itself base r h = record { down = refl; scope = refl; sleeps = refl }
