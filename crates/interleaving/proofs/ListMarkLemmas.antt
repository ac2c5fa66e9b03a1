-- Marks along a branch: the entry that each belongs to is right after the end of its scope.
use Rattle.std.proofs.Common.{◌≡◌, ℕ, suc, ◌==◌, Bool, true, false, cond, List, [], ◌∷◌, ◌++◌, length, refl, sym, ap, ◌∙◌, subst, arith}
use Rattle.std.specs.Prelude.{◌&&◌}
use Rattle.au_term.specs.Term.{Term}
use Rattle.au_model.specs.Terms.Each.{Each}
use Rattle.run_model.specs.Machine.Items.{Item, GoalItem, CatchMark, CollectMark, RemovalItem, Continuation}
use Rattle.run_model.specs.Machine.Entries.{Entry, PlainEntry, CatchEntry, FindallEntry, EndEntry}
use Rattle.tree_model.specs.Nodes.{Kind, ChoiceNode, CatchNode, FindallNode, QueryNode, Ready, TakenBy, Waiting, Dormant, Alternatives}
use Rattle.tree_model.specs.Nodes.{none, alternative, Status, Pending, Inner, Closed}
use Rattle.tree_model.specs.Levels.{Level}
use Rattle.tree_model.specs.Elements.{Name, EndOf, Catch, Findall}
use Rattle.tree_model.specs.PendingLists.{element_at, named_continuation, way_of, step_of, scope_on, list_among, back_of}
use Rattle.tree_model.specs.Ways.{is_on, same_kind, is_barrier, through}
use Rattle.tree_model.specs.SoundTrees.{IsOpen, profiles, is_shape, are_pair}
use Rattle.tree_model.specs.CaughtTrees.{catch_right, MarksCaught}
use Rattle.interleaving.specs.Erased.{from}
use Rattle.interleaving.specs.Sound.{IsGuarded, IsGathered, IsMarkSound}
use Rattle.interleaving.proofs.ContextLemmas.{IsLevel, IsAround, put_profiles, level_profiles}
use Rattle.interleaving.proofs.WayLemmas.{cond-true, cond-false}
use Rattle.interleaving.proofs.ListEndLemmas.{levels_down, from_back}
use Rattle.interleaving.proofs.ListScopeLemmas.{IsDistinct, dormant_on, side_at, Scoped, distinct-down, on-down, Reads, reads_then, named}
use Rattle.au_term.proofs.LogicLemmas.{and-right, and-left, false_true}

-- the level of a number
pub record AtLevel (levels : List Level) (s : ℕ) : Type 0 where
  pub level : Level
  pub above : List Level
  pub down : levels_down levels s ≡ level ∷ above
  pub number : level.number ≡ s
  pub scope : scope_on (way_of levels) s ≡ length level.left ∷ level.number ∷ []
  pub keeps : IsLevel above level IsOpen
  pub sleeps : dormant_on levels s ≡ catch_right level.right

pub at_level : (levels : List Level) (s : ℕ) → IsAround levels IsOpen → is_on (way_of levels) s ≡ true → AtLevel levels s
at_level [] s h o = false_true o
at_level (v ∷ up) s h o = go (v.number == s) refl (at_level up s h.1) o
  where
    go : (b : Bool) → (v.number == s) ≡ b → (is_on (way_of up) s ≡ true → AtLevel up s) → cond b true (is_on (way_of up) s) ≡ true
        → AtLevel (v ∷ up) s
    go true e f k = record {
      level = v;
      above = up;
      down = cond-true (v.number == s) _ _ e;
      number = grind arith;
      scope = cond-true
          (v.number == s) _ _ e;
      keeps = h.0;
      sleeps = cond-true (v.number == s) _ _ e;
    }
    go false e f k = let g = f k in record {
      level = g.level;
      above = g.above;
      down = cond-false (v.number == s) _ _ e
          ∙ g.down;
      number = g.number;
      scope = cond-false (v.number == s) _ _ e ∙ g.scope;
      keeps = g.keeps;
      sleeps = cond-false
          (v.number == s) _ _ e ∙ g.sleeps;
    }

-- through the goal side of its node
pub through_at : (kind : Kind) (levels : List Level) (s : ℕ) (u : Level) (ups : List Level) → levels_down levels s ≡ u ∷ ups
    → side_at kind levels s ≡ true → ((length u.left == 0) && same_kind u.kind kind) ≡ true
through_at kind [] s u ups e t = false_true t
through_at kind (v ∷ up) s u ups e t = go (v.number == s) (through_at kind up s u ups) e t
  where
    go : (b : Bool) → (levels_down up s ≡ u ∷ ups → side_at kind up s ≡ true → ((length u.left == 0) && same_kind u.kind kind) ≡ true)
        → cond b (v ∷ up) (levels_down up s) ≡ u ∷ ups → cond b ((length v.left == 0) && same_kind v.kind kind) (side_at kind up s)
        ≡ true → ((length u.left == 0) && same_kind u.kind kind) ≡ true
    go true f e t = let same : v ≡ u = cc in subst (λ x. ((length x.left == 0) && same_kind x.kind kind) ≡ true) same t
    go false f e t = f e t

pub through_side : (kind : Kind) (levels : List Level) (s : ℕ) → through kind (way_of levels) s ≡ true → side_at kind levels s ≡ true
through_side kind [] s t = t
through_side kind (v ∷ up) s t = go (v.number == s) (is_barrier (step_of v)) (through_side kind up s) t
  where
    go : (b c : Bool) → (through kind (way_of up) s ≡ true → side_at kind up s ≡ true)
        → cond b ((length v.left == 0) && same_kind v.kind kind) (cond c false (through kind (way_of up) s)) ≡ true
        → cond b ((length v.left == 0) && same_kind v.kind kind) (side_at kind up s) ≡ true
    go true c f t = t
    go false true f t = false_true t
    go false false f t = f t

pub no_left : (left : List (ℕ × Status)) → (length left == 0) ≡ true → left ≡ []
no_left [] h = refl
no_left (a ∷ left) h = let no_way : ⊥ = more (length left) h in absurd no_way
  where
    more : (n : ℕ) → (suc n == 0) ≡ true → ⊥
    more n k = grind arith

-- a recovery that sleeps
pub record DormantRight (v : Level) (e : Entry) : Type 0 where
  pub spent : ℕ
  pub others : Alternatives
  pub right : v.right ≡ alternative spent (Pending Dormant e) others

pub catch_dormant : (v : Level) → catch_right v.right ≡ true → (c : Term) × (r : Term) × (f : Continuation ℕ) × DormantRight v
    (CatchEntry c r f)
catch_dormant v h = go v.right refl h
  where
    go : (a : Alternatives) → v.right ≡ a → catch_right a ≡ true → (c : Term) × (r : Term) × (f : Continuation ℕ) × DormantRight v
        (CatchEntry c r f)
    go none e k = false_true k
    go (alternative sp (Inner node) others) e k = false_true k
    go (alternative sp (Closed c) others) e k = false_true k
    go (alternative sp (Pending Ready x) others) e k = false_true k
    go (alternative sp (Pending (TakenBy w) x) others) e k = false_true k
    go (alternative sp (Pending (Waiting g) x) others) e k = false_true k
    go (alternative sp (Pending Dormant (CatchEntry c r f)) others) e k = (c, r, f, record { spent = sp; others = others; right = e })
    go (alternative sp (Pending Dormant (PlainEntry f)) others) e k = false_true k
    go (alternative sp (Pending Dormant (FindallEntry results l f)) others) e k = false_true k
    go (alternative sp (Pending Dormant (EndEntry b)) others) e k = false_true k

pub findall_dormant : (v : Level) (up : List Level) → IsLevel up v IsOpen → v.left ≡ [] → v.kind ≡ FindallNode
    → (rs : List Term) × (l : Term) × (f : Continuation ℕ) × DormantRight v (FindallEntry rs l f)
findall_dormant v up i e k = go v.right refl
    (subst (λ l. are_pair FindallNode (put_profiles l (IsOpen ∷ profiles v.right)) ≡ true) e
    (subst (λ kind. is_shape kind (level_profiles v IsOpen) ≡ true) k i.shape))
  where
    go : (a : Alternatives) → v.right ≡ a → are_pair FindallNode (IsOpen ∷ profiles a) ≡ true
        → (rs : List Term) × (l : Term) × (f : Continuation ℕ) × DormantRight v (FindallEntry rs l f)
    go none e k = false_true k
    go (alternative sp status (alternative sq other others)) e k = false_true k
    go (alternative sp (Inner node) none) e k = false_true k
    go (alternative sp (Closed c) none) e k = false_true k
    go (alternative sp (Pending Ready x) none) e k = false_true k
    go (alternative sp (Pending (TakenBy w) x) none) e k = false_true k
    go (alternative sp (Pending (Waiting g) x) none) e k = false_true k
    go (alternative sp (Pending Dormant (FindallEntry rs l f)) none) e k = (rs, l, f, record { spent = sp; others = none; right = e })
    go (alternative sp (Pending Dormant (PlainEntry f)) none) e k = false_true k
    go (alternative sp (Pending Dormant (CatchEntry c r f)) none) e k = false_true k
    go (alternative sp (Pending Dormant (EndEntry b)) none) e k = false_true k

-- what is after the end of a goal side's scope
pub after_side : (v : Level) (up : List Level) (e : Entry) → v.left ≡ [] → (h : DormantRight v e) → back_of (v ∷ up)
    ≡ EndOf (0 ∷ v.number ∷ []) ∷ (element_at v.number 1 (record { node = v.number; index = 1; kind = v.kind } ∷ way_of up) e
    ∷ (EndOf (1 ∷ v.number ∷ []) ∷ (list_among (way_of up) v.number v.kind 2 h.others ++ back_of up)))
after_side v up e l h =
    ap (λ left. EndOf (length left ∷ v.number ∷ []) ∷ (list_among (way_of up) v.number v.kind (suc (length left)) v.right ++ back_of up)) l
    ∙ ap (λ r. EndOf (0 ∷ v.number ∷ []) ∷ (list_among (way_of up) v.number v.kind 1 r ++ back_of up)) h.right

-- a mark of a part of the branch
pub guarded_at : (base levels : List Level) (s : ℕ) → from (back_of base) (scope_on (way_of base) s) ≡ back_of (levels_down levels s)
    → scope_on (way_of base) s ≡ scope_on (way_of levels) s → AtLevel levels s → side_at CatchNode levels s ≡ true → dormant_on levels s
    ≡ true → IsGuarded (back_of base) (scope_on (way_of base) s)
guarded_at base levels s found same a t z =
    let v = a.level in
    let side = through_at CatchNode levels s v a.above a.down t in
    let left : v.left ≡ [] = no_left v.left (and-left (length v.left == 0) _ side) in
    let entry = catch_dormant v (sym a.sleeps ∙ z) in
    let scope : scope_on (way_of base) s ≡ 0 ∷ v.number ∷ [] = same ∙ (a.scope ∙ ap (λ l. length l ∷ v.number ∷ []) left) in
    let all = found ∙ (ap back_of a.down ∙ after_side v a.above (CatchEntry entry.0 entry.1 entry.2) left entry.3) in
    record {
      scope = 1 ∷ v.number ∷ [];
      catcher = entry.0;
      recovery = entry.1;
      name = 0 ∷ 1 ∷ v.number ∷ [];
      after = named_continuation (record { node = v.number; index = 1; kind = v.kind } ∷ way_of a.above) entry.2;
      under = EndOf (1 ∷ v.number ∷ []) ∷ (list_among (way_of a.above) v.number v.kind 2 entry.3.others ++ back_of a.above);
      found = all ∙ ap (λ h. EndOf h ∷
          (Catch h (1 ∷ v.number ∷ []) entry.0 entry.1 (0 ∷ 1 ∷ v.number ∷ [])
          (named_continuation (record { node = v.number; index = 1; kind = v.kind } ∷ way_of a.above) entry.2)
          ∷ (EndOf (1 ∷ v.number ∷ []) ∷ (list_among (way_of a.above) v.number v.kind 2 entry.3.others ++ back_of a.above))))
          (sym scope);
    }

same-findall : (k : Kind) → same_kind k FindallNode ≡ true → k ≡ FindallNode
same-findall FindallNode h = refl
same-findall ChoiceNode h = false_true h
same-findall CatchNode h = false_true h
same-findall QueryNode h = false_true h

pub gathered_side : (base : List Level) (h : Name) (v : Level) (up : List Level) → from (back_of base) h ≡ back_of (v ∷ up) → h
    ≡ length v.left ∷ v.number ∷ [] → IsLevel up v IsOpen → v.left ≡ [] → v.kind ≡ FindallNode → IsGathered (back_of base) h
gathered_side base h v up found same keeps left kind =
    let entry = findall_dormant v up keeps left kind in
    let scope : h ≡ 0 ∷ v.number ∷ [] = same ∙ ap (λ l. length l ∷ v.number ∷ []) left in
    let all = found ∙ after_side v up (FindallEntry entry.0 entry.1 entry.2) left entry.3 in
    record {
      scope = 1 ∷ v.number ∷ [];
      results = entry.0;
      list = entry.1;
      name = 0 ∷ 1 ∷ v.number ∷ [];
      after = named_continuation (record { node = v.number; index = 1; kind = v.kind } ∷ way_of up) entry.2;
      under = EndOf (1 ∷ v.number ∷ []) ∷ (list_among (way_of up) v.number v.kind 2 entry.3.others ++ back_of up);
      found = all ∙ ap (λ x. EndOf x ∷
          (Findall x (1 ∷ v.number ∷ []) entry.0 entry.1 (0 ∷ 1 ∷ v.number ∷ [])
          (named_continuation (record { node = v.number; index = 1; kind = v.kind } ∷ way_of up) entry.2)
          ∷ (EndOf (1 ∷ v.number ∷ []) ∷ (list_among (way_of up) v.number v.kind 2 entry.3.others ++ back_of up)))) (sym scope);
    }

pub gathered_at : (base levels : List Level) (s : ℕ) → from (back_of base) (scope_on (way_of base) s) ≡ back_of (levels_down levels s)
    → scope_on (way_of base) s ≡ scope_on (way_of levels) s → AtLevel levels s → side_at FindallNode levels s ≡ true
    → IsGathered (back_of base) (scope_on (way_of base) s)
gathered_at base levels s found same a t =
    let v = a.level in
    let side = through_at FindallNode levels s v a.above a.down t in
    gathered_side base (scope_on (way_of base) s) v a.above (found ∙ ap back_of a.down) (same ∙ a.scope) a.keeps
    (no_left v.left (and-left (length v.left == 0) _ side)) (same-findall v.kind (and-right (length v.left == 0) _ side))

-- the marks of items
pub around-down : (levels : List Level) (s : ℕ) → IsAround levels IsOpen → IsAround (levels_down levels s) IsOpen
around-down [] s h = h
around-down (v ∷ up) s h = go (v.number == s) (around-down up s h.1)
  where
    go : (b : Bool) → IsAround (levels_down up s) IsOpen → IsAround (cond b (v ∷ up) (levels_down up s)) IsOpen
    go true k = h
    go false k = k

module _ (base : List Level) (once : IsDistinct base) where
  pub marks_sound : (levels : List Level) (items : List (Item ℕ)) → IsDistinct levels → IsAround levels IsOpen
      → ((r : ℕ) → is_on (way_of levels) r ≡ true → Reads base levels r)
      → ((r : ℕ) → is_on (way_of levels) r ≡ true → is_on (way_of base) r ≡ true) → Scoped levels items
      → MarksCaught (dormant_on base) items → Each (IsMarkSound (back_of base)) (named base items)
  marks_sound levels [] d a f g h m = tt
  marks_sound levels (RemovalItem number ∷ items) d a f g h m = (tt, marks_sound levels items d a f g h m)
  marks_sound levels (GoalItem t s ∷ items) d a f g h m = (
    tt,
    marks_sound (levels_down levels s) items (distinct-down levels s d) (around-down levels s a) (reads_then base levels s d f)
        (λ r k. g r (on-down levels s r k)) h.1 m,
  )
  marks_sound levels (CatchMark s ∷ items) d a f g h m =
      let r = f s h.0 in (
        guarded_at base levels s (from_back base s once (g s h.0) ∙ ap back_of r.down) r.scope (at_level levels s a h.0) h.1
            (sym r.sleeps ∙ m.0),
        marks_sound (levels_down levels s) items (distinct-down levels s d) (around-down levels s a) (reads_then base levels s d f)
            (λ r k. g r (on-down levels s r k)) h.2 m.1,
      )
  marks_sound levels (CollectMark t s ∷ items) d a f g h m =
      let r = f s h.0 in (
        gathered_at base levels s (from_back base s once (g s h.0) ∙ ap back_of r.down) r.scope (at_level levels s a h.0) h.1,
        marks_sound (levels_down levels s) items (distinct-down levels s d) (around-down levels s a) (reads_then base levels s d f)
            (λ r k. g r (on-down levels s r k)) h.2 m,
      )
