-- A recovery by the names of the run and by those of the node that wakes: the same heights.
use Rattle.std.proofs.Common.{◌≡◌, ℕ, suc, ◌+◌, ◌-◌, ◌==◌, true, false, List, [], ◌∷◌, map, length, refl, sym, ap, ◌∙◌, subst, arith}
use Rattle.au_term.specs.Term.{Term}
use Rattle.au_model.specs.Terms.Substitutions.{Substitution}
use Rattle.au_model.specs.Terms.Copies.{copy_takes}
use Rattle.run_model.specs.Programs.Bodies.{call_of}
use Rattle.run_model.specs.Machine.Items.{Item, GoalItem, CatchMark, CollectMark, RemovalItem, Continuation, resolve_item, resolve_named}
use Rattle.run_model.specs.Machine.Entries.{PlainEntry}
use Rattle.tree_model.specs.Nodes.{ChoiceNode, CatchNode, FindallNode}
use Rattle.tree_model.specs.Levels.{Level}
use Rattle.tree_model.specs.Floors.{renamed_item, node_of, with_nodes, floor_of}
use Rattle.tree_model.specs.PendingLists.{Way, way_of, step_of, step_name, scope_on, element_on}
use Rattle.tree_model.specs.Ways.{is_on, way_from, way_above, AreScoped, IsAsked}
use Rattle.tree_model.specs.Elements.{Name, Element, EndOf}
use Rattle.interleaving.specs.HeightMachine.{HeightEntry}
use Rattle.interleaving.specs.Erased.{element_count, height, with_height, erased}
use Rattle.interleaving.proofs.WayLemmas.{cond-true, reach-on, through-on, other_number}
use Rattle.interleaving.proofs.RoundtripLemmas.{by_nodes, by_heights, part_from, part_above}
use Rattle.interleaving.proofs.EntryLemmas.{length-floor, own_height}
use Rattle.interleaving.proofs.BallLemmas.{NamesFloor, names-above}
use Rattle.interleaving.proofs.NamingLemmas.{from_own, heights-resolved}
use Rattle.interleaving.proofs.NamedFloorLemmas.{from-other, scope-above, scope-here}
use Rattle.interleaving.proofs.ListEndLemmas.{levels_down}
use Rattle.interleaving.proofs.BallPlaceLemmas.{names_down, names_above}
use Rattle.interleaving.proofs.FrontHeightLemmas.{resolved_names}
use Rattle.interleaving.proofs.BallSearchLemmas.{second_step, named_recovery}
use Rattle.au_term.proofs.LogicLemmas.{false_true, number_same}

-- items whose scopes have the same heights
pub items_high : (f g : ℕ → Name) (h k : Name → ℕ) (part : Way) (items : List (Item ℕ))
    → ((r : ℕ) → is_on part r ≡ true → h (f r) ≡ k (g r)) → AreScoped part items
    → map (with_height h) (map (renamed_item f f) items) ≡ map (with_height k) (map (renamed_item g g) items)
items_high f g h k part [] e i = refl
items_high f g h k part (GoalItem t s ∷ items) e i =
    ap (λ n. GoalItem t n ∷ map (with_height h) (map (renamed_item f f) items)) (e s (reach-on part s i.0))
    ∙ ap (λ l. GoalItem t (k (g s)) ∷ l) (items_high f g h k (way_from part s) items (λ r z. e r (part_from part s r z)) i.1)
items_high f g h k part (CatchMark s ∷ items) e i =
    ap (λ n. CatchMark (n - 1) ∷ map (with_height h) (map (renamed_item f f) items)) (e s (through-on CatchNode part s i.0))
    ∙ ap (λ l. CatchMark (k (g s) - 1) ∷ l) (items_high f g h k (way_above part s) items (λ r z. e r (part_above part s r z)) i.1)
items_high f g h k part (CollectMark t s ∷ items) e i =
    ap (λ n. CollectMark t (n - 1) ∷ map (with_height h) (map (renamed_item f f) items)) (e s (through-on FindallNode part s i.0))
    ∙ ap (λ l. CollectMark t (k (g s) - 1) ∷ l)
    (items_high f g h k (way_above part s) items (λ r z. e r (part_above part s r z)) i.1)
items_high f g h k part (RemovalItem n ∷ items) e i = ap (λ l. RemovalItem n ∷ l) (items_high f g h k part items e i)

-- scopes named through the resolved entry
named_resolved : (f g : ℕ → Name) (o : Substitution) (items : List (Item ℕ)) → map (renamed_item f g) (map (resolve_item o) items)
    ≡ map (resolve_item o) (map (renamed_item f g) items)
named_resolved f g o [] = refl
named_resolved f g o (GoalItem t s ∷ items) = ap (λ l. resolve_item o (GoalItem t (f s)) ∷ l) (named_resolved f g o items)
named_resolved f g o (CatchMark s ∷ items) = ap (λ l. CatchMark (g s) ∷ l) (named_resolved f g o items)
named_resolved f g o (CollectMark t s ∷ items) = ap (λ l. resolve_item o (CollectMark t (g s)) ∷ l) (named_resolved f g o items)
named_resolved f g o (RemovalItem n ∷ items) = ap (λ l. RemovalItem n ∷ l) (named_resolved f g o items)

module _ (levels : List Level) (w u : Level) (up : List Level) (next : ℕ) (tail : List Element)
    (down : levels_down levels w.number ≡ w ∷ u ∷ up) (new : is_on (way_of (u ∷ up)) w.number ≡ false)
    (fresh : is_on (way_of (u ∷ up)) next ≡ false) where
  abbrev rest : List Element
  rest = EndOf (step_name (step_of u)) ∷ tail

  abbrev near : Way
  near = second_step w ∷ way_of (u ∷ up)

  abbrev far : Way
  far = record { node = next; index = 0; kind = ChoiceNode } ∷ second_step w ∷ way_of (u ∷ up)

  abbrev low_rest : List Element
  low_rest = EndOf (1 ∷ w.number ∷ []) ∷ rest

  apart : (n r : ℕ) → is_on (way_of (u ∷ up)) n ≡ false → is_on (way_of (u ∷ up)) r ≡ true → r ≡ n → ⊥
  apart n r o k e = false_true (sym o ∙ subst (λ x. is_on (way_of (u ∷ up)) x ≡ true) e k)

  near_scope : (r : ℕ) → is_on (way_of (u ∷ up)) r ≡ true → scope_on near r ≡ scope_on (way_of (u ∷ up)) r
  near_scope r k = scope-above (second_step w) (way_of (u ∷ up)) r (other_number (way_of (u ∷ up)) w.number r new k (w.number == r) refl)

  far_scope : (r : ℕ) → is_on (way_of (u ∷ up)) r ≡ true → scope_on far r ≡ scope_on (way_of (u ∷ up)) r
  far_scope r k = scope-above (record { node = next; index = 0; kind = ChoiceNode }) near r
      (other_number (way_of (u ∷ up)) next r fresh k (next == r) refl) ∙ near_scope r k

  near_height : (r : ℕ) → is_on (way_of (u ∷ up)) r ≡ true → height low_rest (scope_on near r) ≡ height rest (scope_on (way_of (u ∷ up)) r)
  near_height r k = ap (height low_rest) (near_scope r k)
      ∙ ap element_count (from-other (way_of (u ∷ up)) r 1 w.number rest (apart w.number r new k))

  far_height : (r : ℕ) → is_on (way_of (u ∷ up)) r ≡ true → height (EndOf (0 ∷ next ∷ []) ∷ low_rest) (scope_on far r)
      ≡ height rest (scope_on (way_of (u ∷ up)) r)
  far_height r k =
      ap (height (EndOf (0 ∷ next ∷ []) ∷ low_rest)) (far_scope r k)
      ∙ (ap element_count (from-other (way_of (u ∷ up)) r 0 next low_rest (apart next r fresh k))
      ∙ ap element_count (from-other (way_of (u ∷ up)) r 1 w.number rest (apart w.number r new k)))

  on_first : is_on (way_of (u ∷ up)) u.number ≡ true
  on_first = cond-true (u.number == u.number) true _ (number_same u.number)

  first_height : height rest (scope_on (way_of (u ∷ up)) u.number) ≡ element_count rest
  first_height = ap (height rest) (scope-here (step_of u) (way_of up) u.number (number_same u.number))
      ∙ ap element_count (from_own (step_name (step_of u)) tail)

  -- the goal of a recovery, at the node above
  goal_node : node_of levels (length (floor_of (u ∷ up))) ≡ u.number
  goal_node =
      let names : NamesFloor (node_of levels) (w ∷ u ∷ up) = subst (NamesFloor (node_of levels)) down (names_down levels w.number) in
      ap (node_of levels) (length-floor (u ∷ up))
      ∙ (names-above (node_of levels) w (u ∷ up) names (suc (length up)) (omega arith) ∙ own_height u up)

  pub recovery_same : (ball r : Term) (f g : Continuation ℕ) (o : Substitution) → IsAsked (way_of (u ∷ up)) f.items → g.items
      ≡ map (resolve_item o) (GoalItem (call_of r) (length (floor_of (u ∷ up))) ∷ by_heights (u ∷ up) f.items) → g.named
      ≡ map (resolve_named o) f.named → g.next ≡ f.next + copy_takes ball
      → erased (named_recovery ball w (u ∷ up) r f o ∷ (EndOf (1 ∷ w.number ∷ []) ∷ rest))
      ≡ erased (element_on far (with_nodes (node_of levels) (PlainEntry g))
      ∷ (EndOf (0 ∷ next ∷ []) ∷ (EndOf (1 ∷ w.number ∷ []) ∷ rest)))
  recovery_same ball r f g o asked is named next_is =
      let h = height low_rest in
      let k = height (EndOf (0 ∷ next ∷ []) ∷ low_rest) in
      let node = node_of levels in
      let sf = scope_on far in
      let sn = scope_on near in
      let back : by_nodes node (by_heights (u ∷ up) f.items) ≡ f.items = names_above levels w.number w (u ∷ up) f.items down asked in
      let goal : h (1 ∷ w.number ∷ []) ≡ k (sf u.number) = ap element_count (from_own (1 ∷ w.number ∷ []) rest)
      ∙ sym (far_height u.number on_first ∙ first_height) in
      let items : map (with_height h) (map (renamed_item sn sn) f.items) ≡ map (with_height k) (map (renamed_item sf sf) f.items) =
      items_high sn sf h k (way_of (u ∷ up)) f.items (λ x z. near_height x z ∙ sym (far_height x z)) asked.scoped in
      let left : map (with_height h) (map (resolve_item o)
      (GoalItem (call_of r) (1 ∷ w.number ∷ []) ∷ map (renamed_item sn sn) f.items))
      ≡ map (resolve_item o) (GoalItem (call_of r) (k (sf u.number)) ∷ map (with_height k) (map (renamed_item sf sf) f.items)) =
      heights-resolved h o (GoalItem (call_of r) (1 ∷ w.number ∷ []) ∷ map (renamed_item sn sn) f.items)
      ∙ (ap (λ n. map (resolve_item o) (GoalItem (call_of r) n ∷ map (with_height h) (map (renamed_item sn sn) f.items))) goal
      ∙ ap (λ l. map (resolve_item o) (GoalItem (call_of r) (k (sf u.number)) ∷ l)) items) in
      let right : map (with_height k) (map (renamed_item sf sf) (by_nodes node g.items))
      ≡ map (resolve_item o) (GoalItem (call_of r) (k (sf u.number)) ∷ map (with_height k) (map (renamed_item sf sf) f.items)) =
      ap (λ l. map (with_height k) (map (renamed_item sf sf) (by_nodes node l))) is
      ∙ (ap (λ l. map (with_height k) (map (renamed_item sf sf) l))
      (resolved_names node (λ n. node (suc n)) o
      (GoalItem (call_of r) (length (floor_of (u ∷ up))) ∷ by_heights (u ∷ up) f.items))
      ∙ (ap (λ l. map (with_height k)
      (map (renamed_item sf sf) (map (resolve_item o) (GoalItem (call_of r) (node (length (floor_of (u ∷ up)))) ∷ l)))) back
      ∙ (ap (λ n. map (with_height k) (map (renamed_item sf sf) (map (resolve_item o) (GoalItem (call_of r) n ∷ f.items)))) goal_node
      ∙ (ap (map (with_height k)) (named_resolved sf sf o (GoalItem (call_of r) u.number ∷ f.items))
      ∙ heights-resolved k o (map (renamed_item sf sf) (GoalItem (call_of r) u.number ∷ f.items)))))) in
      ap (λ l. HeightEntry (PlainEntry (record { items = l; named = map (resolve_named o) f.named; next = f.next + copy_takes ball }))
      ∷ erased rest) (left ∙ sym right)
      ∙ (ap (λ x. HeightEntry (PlainEntry
      (record {
        items = map (with_height k) (map (renamed_item sf sf) (by_nodes node g.items));
        named = x;
        next = f.next +
            copy_takes ball;
      })) ∷ erased rest) (sym named)
      ∙ ap (λ x. HeightEntry (PlainEntry
      (record { items = map (with_height k) (map (renamed_item sf sf) (by_nodes node g.items)); named = g.named; next = x }))
      ∷ erased rest) (sym next_is))
