-- Items that name nodes of a branch.
use Rattle.std.proofs.Common.{◌≡◌, inl, ℕ, suc, ◌-◌, ◌<◌, ◌≤◌, ◌==◌, Bool, true, false, cond, List, [], ◌∷◌, length, refl, ap, ap₂, ◌∙◌, arith}
use Rattle.std.proofs.lemmas.Bool.{eqb-true}
use Rattle.au_term.proofs.LogicLemmas.{not_equal, number_same}
use Rattle.au_model.specs.Terms.Each.{Each}
use Rattle.run_model.specs.Machine.Items.{Item, GoalItem, CatchMark, CollectMark, RemovalItem}
use Rattle.tree_model.specs.Floors.{node_of, height_of}
use Rattle.tree_model.specs.Levels.{Level}
use Rattle.tree_model.specs.Nodes.{CatchNode, FindallNode}
use Rattle.tree_model.specs.PendingLists.{Way, way_of}
use Rattle.tree_model.specs.Ways.{is_on, way_from, way_above, AreScoped}
use Rattle.interleaving.proofs.WayLemmas.{reach-on, through-on}
use Rattle.branch_shapes.specs.Groups.{Groups}
use Rattle.branch_shapes.specs.ChoiceScopes.{choice_height, choice_scope, IsOverChoices, items_by_heights, items_by_nodes}
use Rattle.branch_shapes.specs.FloorItems.{NamesLevels, items_over_floor, FloorItemsStay, ScopedItemsNameLevels}
use Rattle.branch_shapes.proofs.ChoiceScopeLemmas.{low_height, low_scope}

-- a node of some levels has a height over nothing
pub record HasHeight (levels : List Level) (s : ℕ) : Type 0 where
  pub low : height_of levels s ≤ length levels
  pub some : 1 ≤ height_of levels s
  pub back : node_of levels (height_of levels s) ≡ s

pub has_height : (levels : List Level) (s : ℕ) → is_on (way_of levels) s ≡ true → HasHeight levels s
has_height [] s h = absurd cc
has_height (v ∷ up) s h = by_test (has_height up s) (v.number == s) refl h
  where
    here : v.number ≡ s → cond (suc (length up) == suc (length up)) v.number (node_of up (suc (length up))) ≡ s
    here same = ap (λ b. cond b v.number (node_of up (suc (length up)))) (number_same (suc (length up))) ∙ same

    above : (k : ℕ) → k ≤ length up → cond (k == suc (length up)) v.number (node_of up k) ≡ node_of up k
    above k le = ap (λ b. cond b v.number (node_of up k)) (not_equal k (suc (length up)) (omega arith))

    by_test : (is_on (way_of up) s ≡ true → HasHeight up s) → (b : Bool) → (v.number == s) ≡ b → cond b true (is_on (way_of up) s) ≡ true → HasHeight (v ∷ up) s
    by_test rest true e k =
        let height : height_of (v ∷ up) s ≡ suc (length up) = ap (λ b. cond b (suc (length up)) (height_of up s)) e in
        record { low = omega (arith, height); some = omega (arith, height); back = ap (node_of (v ∷ up)) height ∙ here (eqb-true v.number s e) }
    by_test rest false e k =
        let height : height_of (v ∷ up) s ≡ height_of up s = ap (λ b. cond b (suc (length up)) (height_of up s)) e in
        let r = rest k in
        let low = r.low in
        let some = r.some in
        record {
          low = omega (arith, height, low);
          some = omega (arith, height, some);
          back = ap (node_of (v ∷ up)) height
              ∙ (above (height_of up s) r.low ∙ r.back);
        }

module _ (number : ℕ) (levels : List Level) (gs : Groups) (s : ℕ) (on : is_on (way_of levels) s ≡ true) where
  height : HasHeight levels s
  height = has_height levels s on

  cut_height : choice_height (length levels) gs (height_of levels s) ≡ height_of levels s
  cut_height = low_height (length levels) gs (height_of levels s) height.low

  mark_height : choice_height (length levels) gs (height_of levels s - 1) ≡ height_of levels s - 1
  mark_height = let le = height.low in low_height (length levels) gs (height_of levels s - 1) (omega arith)

  mark_low : height_of levels s - 1 < length levels
  mark_low = let le = height.low in let some = height.some in omega arith

  cut_back : choice_scope number levels gs (height_of levels s) ≡ s
  cut_back = low_scope number levels gs (height_of levels s) height.low ∙ height.back

  mark_back : choice_scope number levels gs (suc (height_of levels s - 1)) ≡ s
  mark_back =
      let some = height.some in
      let same : suc (height_of levels s - 1) ≡ height_of levels s = omega arith in
      ap (choice_scope number levels gs) same ∙ cut_back

module _ (number : ℕ) (levels : List Level) (gs : Groups) where
  over_floor : (items : List (Item ℕ)) → Each (NamesLevels levels) items → Each (IsOverChoices (length levels) gs) (items_over_floor levels items)
  over_floor [] h = tt
  over_floor (GoalItem t s ∷ items) h = (tt, over_floor items h.1)
  over_floor (CatchMark s ∷ items) h = (inl (mark_low number levels gs s h.0), over_floor items h.1)
  over_floor (CollectMark t s ∷ items) h = (inl (mark_low number levels gs s h.0), over_floor items h.1)
  over_floor (RemovalItem n ∷ items) h = (tt, over_floor items h.1)

  same_heights : (items : List (Item ℕ)) → Each (NamesLevels levels) items
      → items_by_heights (length levels) gs (items_over_floor levels items) ≡ items_over_floor levels items
  same_heights [] h = refl
  same_heights (GoalItem t s ∷ items) h = ap₂ (λ n js. GoalItem t n ∷ js) (cut_height number levels gs s h.0) (same_heights items h.1)
  same_heights (CatchMark s ∷ items) h = ap₂ (λ n js. CatchMark n ∷ js) (mark_height number levels gs s h.0) (same_heights items h.1)
  same_heights (CollectMark t s ∷ items) h = ap₂ (λ n js. CollectMark t n ∷ js) (mark_height number levels gs s h.0) (same_heights items h.1)
  same_heights (RemovalItem n ∷ items) h = ap (λ js. RemovalItem n ∷ js) (same_heights items h.1)

  same_nodes : (items : List (Item ℕ)) → Each (NamesLevels levels) items → items_by_nodes number levels gs (items_over_floor levels items) ≡ items
  same_nodes [] h = refl
  same_nodes (GoalItem t s ∷ items) h = ap₂ (λ n js. GoalItem t n ∷ js) (cut_back number levels gs s h.0) (same_nodes items h.1)
  same_nodes (CatchMark s ∷ items) h = ap₂ (λ n js. CatchMark n ∷ js) (mark_back number levels gs s h.0) (same_nodes items h.1)
  same_nodes (CollectMark t s ∷ items) h = ap₂ (λ n js. CollectMark t n ∷ js) (mark_back number levels gs s h.0) (same_nodes items h.1)
  same_nodes (RemovalItem n ∷ items) h = ap (λ js. RemovalItem n ∷ js) (same_nodes items h.1)

pub floor_items_stay : FloorItemsStay
floor_items_stay number levels gs items h = record {
  over = over_floor number levels gs items h;
  heights = same_heights number levels gs items h;
  nodes = same_nodes number levels gs items h;
}

-- a way that is a part of another
on_from : (way : Way) (s r : ℕ) → is_on (way_from way s) r ≡ true → is_on way r ≡ true
on_from [] s r h = h
on_from (a ∷ way) s r h = by_test (a.node == s) (on_from way s r) h
  where
    by_node : (b : Bool) → is_on way r ≡ true → cond b true (is_on way r) ≡ true
    by_node true k = refl
    by_node false k = k

    by_test : (b : Bool) → (is_on (way_from way s) r ≡ true → is_on way r ≡ true) → is_on (cond b (a ∷ way) (way_from way s)) r ≡ true
        → is_on (a ∷ way) r ≡ true
    by_test true f k = k
    by_test false f k = by_node (a.node == r) (f k)

on_above : (way : Way) (s r : ℕ) → is_on (way_above way s) r ≡ true → is_on way r ≡ true
on_above [] s r h = h
on_above (a ∷ way) s r h = by_test (a.node == s) (on_above way s r) h
  where
    by_node : (b : Bool) → is_on way r ≡ true → cond b true (is_on way r) ≡ true
    by_node true k = refl
    by_node false k = k

    by_test : (b : Bool) → (is_on (way_above way s) r ≡ true → is_on way r ≡ true) → is_on (cond b way (way_above way s)) r ≡ true → is_on (a ∷ way) r ≡ true
    by_test true f k = by_node (a.node == r) k
    by_test false f k = by_node (a.node == r) (f k)

names_on : (levels : List Level) (way : Way) (items : List (Item ℕ)) → ((r : ℕ) → is_on way r ≡ true → is_on (way_of levels) r ≡ true) → AreScoped way items
    → Each (NamesLevels levels) items
names_on levels way [] part h = tt
names_on levels way (GoalItem t s ∷ items) part h =
    (part s (reach-on way s h.0), names_on levels (way_from way s) items (λ r k. part r (on_from way s r k)) h.1)
names_on levels way (CatchMark s ∷ items) part h =
    (part s (through-on CatchNode way s h.0), names_on levels (way_above way s) items (λ r k. part r (on_above way s r k)) h.1)
names_on levels way (CollectMark t s ∷ items) part h =
    (part s (through-on FindallNode way s h.0), names_on levels (way_above way s) items (λ r k. part r (on_above way s r k)) h.1)
names_on levels way (RemovalItem n ∷ items) part h = (tt, names_on levels way items part h)

pub scoped_items_name_levels : ScopedItemsNameLevels
scoped_items_name_levels levels items h = names_on levels (way_of levels) items (λ r k. k) h
