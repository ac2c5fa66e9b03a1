-- The way up of a ball, level by level.
use Rattle.std.proofs.Common.{◌≡◌, ◌≢◌, ◌⊎◌, inl, inr, ℕ, zero, suc, ◌<◌, ◌==◌, Bool, true, false, cond, List, [], ◌∷◌, ◌++◌, length, take, Option, Some, None}
use Rattle.std.proofs.Common.{refl, sym, ap, ◌∙◌, subst, arith}
use Rattle.std.specs.Bool.{OnFalse}
use Rattle.std.specs.Option.{option_map}
use Rattle.std.specs.Prelude.{IsSome, slice_get, is_none}
use Rattle.au_term.proofs.LogicLemmas.{number_turned}
use Rattle.clause_compile.specs.declared.item.Scope.{Scope}
use Rattle.clause_compile.specs.declared.item.Scope.TheVariants as scope
use Rattle.tree_model.specs.Credits.{Credit, counted, added, credit_of}
use Rattle.tree_model.specs.Nodes.{Kind, Status, Pending, Inner, Closed}
use Rattle.tree_model.specs.Levels.{Level, level_node, plug, Place, place_at}
use Rattle.tree_model.specs.Orders.{is_closed, levels_below, first_open_left, first_open, is_cleared, credits_left}
use Rattle.tree_model.specs.Closing.{wakes}
use Rattle.tree_model.specs.Pruning.{is_findall, remaining_records, left_after, ball_closes}
use Rattle.tree_nodes.specs.Bodies.{Body, node_kind}
use Rattle.tree_nodes.specs.Gathering.{closed_in, add_left, with_left}
use Rattle.tree_nodes.specs.Rows.{AlternativeCell, row_of_node, node_parent, alternatives_at, cell_at, scope_number}
use Rattle.tree_nodes.specs.TreeTables.{cell_of, cells_of, NodesView, IsTableOf}
use Rattle.tree_nodes.proofs.CellLemmas.{some_within}
use Rattle.tree_nodes.proofs.CreditLemmas.{same_credit, added-assoc, with_left-snoc}
use Rattle.tree_nodes.proofs.PlaceLemmas.{left_cells, length-left_cells}
use Rattle.tree_nodes.proofs.WalkLemmas.{cells_beside, cell_here, parent_here, one_level_up, no_level_up}
use Rattle.tree_closing.specs.Sleeping.{right_of, is_asleep_at}
use Rattle.tree_closing.proofs.SleeperLemmas.{none_beside, kind_here}
use Rattle.prune_ops.specs.Falls.{closed_at, down_to, sleeper_on, RisesTo, LandsBelow, LandsNowhere, LeavesAfter, LeavesRecords, IsGoalSide, HasNoSleeper}

-- the number of a scope
pub number_is : (s : Scope) (n m : ℕ) → (s ≡ scope.Node n) ⊎ (s ≡ scope.Local n) → m ≡ n → m ≡ scope_number s
number_is s n m (inl e) p = p ∙ sym (ap scope_number e)
number_is s n m (inr e) p = p ∙ sym (ap scope_number e)

-- a first alternative
first_side : (left : List (ℕ × Status)) (k : Kind) → length left ≡ 0 → is_findall k ≡ elim left as (λ l. Bool) [ [] ↦ is_findall k | a ∷ rest ↦ false ]
first_side [] k e = refl
first_side (x ∷ left) k e = absurd (let z : suc (length left) ≡ 0 = e in omega (arith, z))

pub goal_side : (nodes : NodesView) (a : Place) (b : Body) → a.index ≡ 0 → option_map (λ r. r.body) (row_of_node nodes.rows a.node) ≡ Some b
    → IsGoalSide nodes a (is_findall (node_kind b.kind))
goal_side nodes a b first e read v up was p s =
    ap is_findall (sym (kind_here nodes a read v up was p s b e)) ∙ first_side v.left v.kind (ap (λ (q : Place). q.index) p ∙ first)

pub no_sleeper : (nodes : NodesView) (a : Place) (asleep : Bool) → asleep ≡ is_asleep_at (cell_at nodes.rows (right_of a)) → OnFalse asleep (HasNoSleeper nodes a)
no_sleeper nodes a true e = tt
no_sleeper nodes a false e = λ read v up was p s. none_beside nodes a read v up was p s (sym e)

-- credits to the left, from the nearest on
with_left-last : (cells : List (ℕ × AlternativeCell)) (k : ℕ) (x : ℕ × AlternativeCell) (c : Credit) → slice_get cells k ≡ Some x
    → with_left (take (suc k) cells) c ≡ with_left (take k cells) (add_left (closed_in x.1) c)
with_left-last [] k x c e = absurd (cc e)
with_left-last (y ∷ cells) zero x c e =
    let same : Some y ≡ Some x = e in
    let is : y ≡ x = cc same in
    ap (λ (z : ℕ × AlternativeCell). add_left (closed_in z.1) c) is
with_left-last (y ∷ cells) (suc k) x c e = ap (add_left (closed_in y.1)) (with_left-last cells k x c e)

pub left_step : (cells : List (ℕ × AlternativeCell)) (k : ℕ) (old new : Credit) → k < length cells → new ≡ add_left (closed_at (slice_get cells k)) old
    → with_left (take k cells) new ≡ with_left (take (suc k) cells) old
left_step cells k old new l f = by_cell (slice_get cells k) refl (some_within cells k l) f
  where
    by_cell : (o : Option (ℕ × AlternativeCell)) → slice_get cells k ≡ o → IsSome o → new ≡ add_left (closed_at o) old
        → with_left (take k cells) new ≡ with_left (take (suc k) cells) old
    by_cell None g h e = absurd (cc h)
    by_cell (Some x) g h e = ap (with_left (take k cells)) e ∙ sym (with_left-last cells k x old g)

take_front : (xs ys : List (ℕ × AlternativeCell)) (n : ℕ) → n ≡ length xs → take n (xs ++ ys) ≡ xs
take_front [] ys n e = ap (λ (k : ℕ). take k ys) e
take_front (x ∷ xs) ys zero e = absurd (omega (arith, e))
take_front (x ∷ xs) ys (suc n) e = ap (λ (zs : List (ℕ × AlternativeCell)). x ∷ zs) (take_front xs ys n (omega (arith, e)))

-- all to the left of a place has closed
record AllShut (n : ℕ) (status : Status) (left : List (ℕ × Status)) : Type 0 where
  nearest : is_closed status ≡ true
  further : first_open_left n left ≡ None

all_shut : (n : ℕ) (status : Status) (left : List (ℕ × Status)) (sp : ℕ) → first_open_left n ((sp, status) ∷ left) ≡ None → AllShut n status left
all_shut n status left sp e = by_further (first_open_left n left) refl e
  where
    by_nearest : (b : Bool) → is_closed status ≡ b → cond {A = Option Place} b None (Some (record { node = n; index = length left })) ≡ None → is_closed status ≡ true
    by_nearest true g h = g
    by_nearest false g h = absurd (cc h)

    by_further : (o : Option Place) → first_open_left n left ≡ o
        → elim o as (λ p. Option Place) [ Some p ↦ Some p | None ↦ cond (is_closed status) None (Some (record { node = n; index = length left })) ] ≡ None
        → AllShut n status left
    by_further (Some p) g h = absurd (cc h)
    by_further None g h = record { nearest = by_nearest (is_closed status) refl h; further = g }

left_sum : (n : ℕ) (left : List (ℕ × Status)) (a b : Credit) → first_open_left n left ≡ None
    → added (credits_left left) (added a b) ≡ with_left (left_cells left) (added a b)
left_sum n [] a b e =
    let nothing : (i j : ℕ) → counted 0 (counted i j) ≡ counted i j = λ i j. omega arith in
    same_credit _ _ _ _ _ _ (nothing a.inferences b.inferences) (nothing a.answers b.answers) refl
left_sum n ((sp, Closed c) ∷ left) a b e =
    let h = all_shut n (Closed c) left sp e in
    added-assoc (credits_left left) c (added a b)
    ∙ (left_sum n left c (added a b) h.further ∙ sym (with_left-snoc (left_cells left) (sp, cell_of (Closed c)) (added a b)))
left_sum n ((sp, Pending hold entry) ∷ left) a b e = absurd (let h = all_shut n (Pending hold entry) left sp e in let z : false ≡ true = h.nearest in cc z)
left_sum n ((sp, Inner node) ∷ left) a b e = absurd (let h = all_shut n (Inner node) left sp e in let z : false ≡ true = h.nearest in cc z)

-- what a ball leaves of a level
pub leaves_after : (nodes : NodesView) (b : Place) (spent : ℕ) (old rest new : Credit) → LeavesRecords nodes b old rest
    → option_map (λ c. c.0) (cell_at nodes.rows b) ≡ Some spent
    → new ≡ with_left (take b.index (alternatives_at (row_of_node nodes.rows b.node))) (added (credit_of spent) rest) → LeavesAfter nodes b old new
leaves_after nodes b spent old rest new records there sum read v up was p s shut =
    let here : cell_at nodes.rows b ≡ Some (v.spent, cell_of was) = ap (cell_at nodes.rows) (sym p) ∙ cell_here nodes read v up was s in
    let same : Some spent ≡ Some v.spent = sym there ∙ ap (λ (o : Option (ℕ × AlternativeCell)). option_map (λ c. c.0) o) here in
    let spends : spent ≡ v.spent = cc same in
    let long : b.index ≡ length (left_cells v.left) = ap (λ (q : Place). q.index) (sym p) ∙ sym (length-left_cells v.left) in
    let cells : take b.index (alternatives_at (row_of_node nodes.rows b.node)) ≡ left_cells v.left
    = ap (λ (n : ℕ). take b.index (alternatives_at (row_of_node nodes.rows n))) (ap (λ (q : Place). q.node) (sym p))
    ∙ (ap (take b.index) (cells_beside nodes read v up was s)
    ∙ take_front (left_cells v.left) ((v.spent, cell_of was) ∷ cells_of v.right) b.index long) in
    let rest_is : rest ≡ remaining_records v old = records read v up was p s in
    sum
    ∙ (ap (λ (x : List (ℕ × AlternativeCell)). with_left x (added (credit_of spent) rest)) cells
    ∙ (ap (λ (k : ℕ). with_left (left_cells v.left) (added (credit_of k) rest)) spends
    ∙ (ap (λ (k : Credit). with_left (left_cells v.left) (added (credit_of v.spent) k)) rest_is
    ∙ sym (left_sum v.number v.left (credit_of v.spent) (remaining_records v old) shut))))

-- cleared on a level, and on those above
record IsClearOn (scope : ℕ) (v : Level) (up : List Level) : Type 0 where
  here : first_open_left v.number v.left ≡ None
  above : is_cleared (Some scope) up ≡ true

clear_on : (scope : ℕ) (v : Level) (up : List Level) → (v.number == scope) ≡ false → is_cleared (Some scope) (v ∷ up) ≡ true → IsClearOn scope v up
clear_on scope v up off c = by_above (first_open (levels_below (Some scope) up)) refl
    (subst (λ (b : Bool). is_none (first_open (cond b [] (v ∷ levels_below (Some scope) up))) ≡ true) (number_turned scope v.number ∙ off) c)
  where
    by_here : (o : Option Place) → first_open_left v.number v.left ≡ o → is_none o ≡ true → first_open_left v.number v.left ≡ None
    by_here None g h = g
    by_here (Some p) g h = absurd (cc h)

    by_above : (o : Option Place) → first_open (levels_below (Some scope) up) ≡ o
        → is_none (elim (first_open (levels_below (Some scope) up)) as (λ p. Option Place) [ Some p ↦ Some p | None ↦ first_open_left v.number v.left ]) ≡ true → IsClearOn scope v up
    by_above None g h = record {
      here = by_here (first_open_left v.number v.left) refl
          (subst (λ (x : Option Place). is_none (elim x as (λ p. Option Place) [ Some p ↦ Some p | None ↦ first_open_left v.number v.left ]) ≡ true) g h);
      above = ap is_none g;
    }
    by_above (Some p) g h =
        absurd (let z : false ≡ true = subst (λ (x : Option Place). is_none (elim x as (λ p. Option Place) [ Some p ↦ Some p | None ↦ first_open_left v.number v.left ]) ≡ true) g h in cc z)

-- a ball begins to fall
pub falls_from : (nodes : NodesView) (a : Place) (scope : ℕ) → RisesTo nodes a scope a (credit_of 1)
falls_from nodes a scope read v up was p s c = record {
  level = v;
  above = up;
  status = was;
  same = refl;
  at = p;
  down = refl;
  cleared = c;
  falls = λ next e. refl;
}

-- and falls past a level
module _ (nodes : NodesView) (a b : Place) (scope : ℕ) (old new : Credit) (h : RisesTo nodes a scope b old) (leaves : LeavesAfter nodes b old new) (other : b.node ≢ scope) where
  off_scope : (level : Level) → place_at level ≡ b → (level.number == scope) ≡ false
  off_scope level p =
      let same : level.number ≡ b.node = ap (λ (q : Place). q.node) p in
      grind (arith, other, same)

  pub rises : (q : Place) → node_parent nodes.rows b.node ≡ Some (Some q) → RisesTo nodes a scope q new
  rises q parent read v up was p s c =
      let k = h read v up was p s c in
      let table = subst (IsTableOf nodes read) k.same s in
      let off = off_scope k.level k.at in
      let clear = clear_on scope k.level k.above off k.cleared in
      let u = one_level_up k.level k.above q
      (parent_here nodes read k.level k.above k.status (Some q) table (ap (λ (x : Place). node_parent nodes.rows x.node) k.at ∙ parent)) in
      let now : new ≡ left_after k.level old = leaves read k.level k.above k.status k.at table clear.here in
      record {
        level = u.level;
        above = u.above;
        status = Inner (level_node k.level k.status);
        same = k.same ∙ ap (λ (ls : List Level). plug ls (Inner (level_node k.level k.status))) u.is;
        at = u.at;
        down = k.down ∙ (ap (λ (x : Bool). cond x (k.level ∷ k.above) (down_to scope k.above)) off ∙ ap (down_to scope) u.is);
        cleared = ap (is_cleared (Some scope)) (sym u.is) ∙ clear.above;
        falls = λ next e. k.falls next e
            ∙ (ap (λ (x : Bool). cond x (wakes next k.level k.above (left_after k.level old) e) (ball_closes next scope k.above (left_after k.level old) e)) off
            ∙ (ap (λ (x : Credit). ball_closes next scope k.above x e) (sym now) ∙ ap (λ (ls : List Level). ball_closes next scope ls new e) u.is));
      }

  pub nowhere : node_parent nodes.rows b.node ≡ Some None → LandsNowhere nodes a scope
  nowhere parent read v up was p s c =
      let k = h read v up was p s c in
      let table = subst (IsTableOf nodes read) k.same s in
      let off = off_scope k.level k.at in
      let top = no_level_up k.above
      (parent_here nodes read k.level k.above k.status None table (ap (λ (x : Place). node_parent nodes.rows x.node) k.at ∙ parent)) in
      ap sleeper_on k.down
      ∙ (ap (λ (x : Bool). sleeper_on (cond x (k.level ∷ k.above) (down_to scope k.above))) off ∙ ap (λ (ls : List Level). sleeper_on (down_to scope ls)) top)

-- it comes to its scope
module _ (nodes : NodesView) (a b : Place) (scope : ℕ) (old : Credit) (h : RisesTo nodes a scope b old) (on : b.node ≡ scope) where
  on_scope : (level : Level) → place_at level ≡ b → (level.number == scope) ≡ true
  on_scope level p =
      let same : level.number ≡ b.node = ap (λ (q : Place). q.node) p in
      grind (arith, on, same)

  pub not_asleep : HasNoSleeper nodes b → LandsNowhere nodes a scope
  not_asleep none read v up was p s c =
      let k = h read v up was p s c in
      let table = subst (IsTableOf nodes read) k.same s in
      ap sleeper_on k.down
      ∙ (ap (λ (x : Bool). sleeper_on (cond x (k.level ∷ k.above) (down_to scope k.above))) (on_scope k.level k.at)
      ∙ none read k.level k.above k.status k.at table)

  pub lands : (new : Credit) → LeavesAfter nodes b old new → b.index ≡ 0 → LandsBelow nodes a scope b new
  lands new leaves first read v up was p s c =
      let k = h read v up was p s c in
      let table = subst (IsTableOf nodes read) k.same s in
      let at_scope = on_scope k.level k.at in
      let now : new ≡ left_after k.level old = leaves read k.level k.above k.status k.at table (none_left k.level.left (ap (λ (q : Place). q.index) k.at ∙ first) k.level.number) in
      record {
        level = k.level;
        above = k.above;
        status = k.status;
        same = k.same;
        at = k.at;
        on = on;
        down = k.down ∙ ap (λ (x : Bool). cond x (k.level ∷ k.above) (down_to scope k.above)) at_scope;
        lands = λ next e. k.falls next e
            ∙ (ap (λ (x : Bool). cond x (wakes next k.level k.above (left_after k.level old) e) (ball_closes next scope k.above (left_after k.level old) e)) at_scope
            ∙ ap (λ (x : Credit). wakes next k.level k.above x e) (sym now));
      }
    where
      none_left : (left : List (ℕ × Status)) → length left ≡ 0 → (n : ℕ) → first_open_left n left ≡ None
      none_left [] e n = refl
      none_left (x ∷ left) e n = absurd (let z : suc (length left) ≡ 0 = e in omega (arith, z))
