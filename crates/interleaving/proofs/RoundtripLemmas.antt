-- Node numbers become heights and node numbers again.
use Rattle.std.proofs.Common.{◌≡◌, ℕ, suc, ◌-◌, ◌≤◌, ◌==◌, Bool, true, false, cond, List, [], ◌∷◌, map, length, refl, sym, ap, ◌∙◌, subst}
use Rattle.std.proofs.Common.{arith}
use Rattle.std.specs.Prelude.{◌&&◌}
use Rattle.run_model.specs.Machine.Items.{Item, GoalItem, CatchMark, CollectMark, RemovalItem}
use Rattle.tree_model.specs.Nodes.{Kind, ChoiceNode, CatchNode, FindallNode, QueryNode}
use Rattle.tree_model.specs.Levels.{Level}
use Rattle.tree_model.specs.Floors.{renamed_item, height_of, node_of}
use Rattle.tree_model.specs.PendingLists.{Way, way_of}
use Rattle.tree_model.specs.Ways.{is_on, same_kind, stops_cuts, is_barrier, in_reach, through, way_from, way_above, AreScoped}
use Rattle.interleaving.proofs.WayLemmas.{cond-true, cond-false, cond-same, reach-on, through-on, below_new}
use Rattle.au_term.proofs.LogicLemmas.{not_equal, number_same}

-- items with heights, by the nodes that they name
abbrev pub by_nodes : (ℕ → ℕ) → List (Item ℕ) → List (Item ℕ)
by_nodes node items = map (renamed_item node (λ h. node (suc h))) items

abbrev pub by_heights : List Level → List (Item ℕ) → List (Item ℕ)
by_heights levels items = map (renamed_item (height_of levels) (λ s. height_of levels s - 1)) items

pub height_low : (levels : List Level) (s : ℕ) → height_of levels s ≤ length levels
height_low [] s = omega arith
height_low (v ∷ up) s = go (v.number == s) (height_low up s)
  where
    go : (b : Bool) → height_of up s ≤ length up → cond b (suc (length up)) (height_of up s) ≤ suc (length up)
    go true h = omega arith
    go false h = omega arith

pub node_height : (levels : List Level) (s : ℕ) → is_on (way_of levels) s ≡ true → node_of levels (height_of levels s) ≡ s
node_height [] s h = let no_way : ⊥ = cc in absurd no_way
node_height (v ∷ up) s h = go (v.number == s) refl (node_height up s) h
  where
    go : (b : Bool) → (v.number == s) ≡ b → (is_on (way_of up) s ≡ true → node_of up (height_of up s) ≡ s)
        → cond b true (is_on (way_of up) s) ≡ true → node_of (v ∷ up) (cond b (suc (length up)) (height_of up s)) ≡ s
    go true e f k = let same : v.number ≡ s = grind arith in cond-true (suc (length up) == suc (length up)) v.number
        (node_of up (suc (length up))) (number_same (suc (length up))) ∙ same
    go false e f k = cond-false (height_of up s == suc (length up)) v.number (node_of up (height_of up s))
        (not_equal (height_of up s) (suc (length up)) (omega (arith, height_low up s))) ∙ f k

pub height_positive : (levels : List Level) (s : ℕ) → is_on (way_of levels) s ≡ true → suc (height_of levels s - 1) ≡ height_of levels s
height_positive [] s h = let no_way : ⊥ = cc in absurd no_way
height_positive (v ∷ up) s h = go (v.number == s) (height_positive up s) h
  where
    go : (b : Bool) → (is_on (way_of up) s ≡ true → suc (height_of up s - 1) ≡ height_of up s) → cond b true (is_on (way_of up) s)
        ≡ true → suc (cond b (suc (length up)) (height_of up s) - 1) ≡ cond b (suc (length up)) (height_of up s)
    go true f k = omega arith
    go false f k = f k

-- ways that are parts of a way
abbrev pub IsPart : Way → Way → Type 0
IsPart part way = (r : ℕ) → is_on part r ≡ true → is_on way r ≡ true

pub part_from : (way : Way) (s : ℕ) → IsPart (way_from way s) way
part_from [] s r h = h
part_from (a ∷ way) s r h = go (a.node == s) (part_from way s r) h
  where
    go : (b : Bool) → (is_on (way_from way s) r ≡ true → is_on way r ≡ true) → is_on (cond b (a ∷ way) (way_from way s)) r ≡ true
        → is_on (a ∷ way) r ≡ true
    go true f k = k
    go false f k = cond-same (a.node == r) true (is_on way r) (f k)

pub part_above : (way : Way) (s : ℕ) → IsPart (way_above way s) way
part_above [] s r h = h
part_above (a ∷ way) s r h = go (a.node == s) (part_above way s r) h
  where
    go : (b : Bool) → (is_on (way_above way s) r ≡ true → is_on way r ≡ true) → is_on (cond b way (way_above way s)) r ≡ true
        → is_on (a ∷ way) r ≡ true
    go true f k = cond-same (a.node == r) true (is_on way r) k
    go false f k = cond-same (a.node == r) true (is_on way r) (f k)

pub back_again : (levels : List Level) (way : Way) (items : List (Item ℕ)) → IsPart way (way_of levels) → AreScoped way items
    → by_nodes (node_of levels) (by_heights levels items) ≡ items
back_again levels way [] p h = refl
back_again levels way (GoalItem t s ∷ items) p h =
    let rest = back_again levels (way_from way s) items (λ r k. p r (part_from way s r k)) h.1 in
    let here : node_of levels (height_of levels s) ≡ s = node_height levels s (p s (reach-on way s h.0)) in
    let both : by_nodes (node_of levels) (by_heights levels (GoalItem t s ∷ items)) ≡ GoalItem t s ∷ items = cc in
    both
back_again levels way (CatchMark s ∷ items) p h =
    let rest = back_again levels (way_above way s) items (λ r k. p r (part_above way s r k)) h.1 in
    let on = p s (through-on CatchNode way s h.0) in
    let here : node_of levels (suc (height_of levels s - 1)) ≡ s = ap (node_of levels) (height_positive levels s on)
    ∙ node_height levels s on in
    let both : by_nodes (node_of levels) (by_heights levels (CatchMark s ∷ items)) ≡ CatchMark s ∷ items = cc in
    both
back_again levels way (CollectMark t s ∷ items) p h =
    let rest = back_again levels (way_above way s) items (λ r k. p r (part_above way s r k)) h.1 in
    let on = p s (through-on FindallNode way s h.0) in
    let here : node_of levels (suc (height_of levels s - 1)) ≡ s = ap (node_of levels) (height_positive levels s on)
    ∙ node_height levels s on in
    let both : by_nodes (node_of levels) (by_heights levels (CollectMark t s ∷ items)) ≡ CollectMark t s ∷ items = cc in
    both
back_again levels way (RemovalItem number ∷ items) p h =
    let rest = back_again levels way items p h in
    let both : by_nodes (node_of levels) (by_heights levels (RemovalItem number ∷ items)) ≡ RemovalItem number ∷ items = cc in
    both

-- the items of an entry on a way, at their heights
pub at_heights : (levels : List Level) (items : List (Item ℕ)) → AreScoped (way_of levels) items
    → AreScoped (way_of levels) (by_nodes (node_of levels) (by_heights levels items))
at_heights levels items h = subst (AreScoped (way_of levels)) (sym (back_again levels (way_of levels) items (λ r k. k) h)) h

-- no number comes twice on a way
abbrev pub IsPath : Way → Type 0
IsPath [] = Unit {0}
IsPath (a ∷ way) = (is_on way a.node ≡ false) × IsPath way

-- what looks up from a node that is in reach looks up from below it too
pub weaken_from : (way : Way) (s : ℕ) (items : List (Item ℕ)) → IsPath way → in_reach way s ≡ true → AreScoped (way_from way s) items
    → AreScoped way items
weaken_from [] s items p r h = h
weaken_from (a ∷ way) s items p r h = go (a.node == s) (is_barrier a) refl (weaken_from way s items p.1) r h
  where
    go : (b c : Bool) → is_barrier a ≡ c → (in_reach way s ≡ true → AreScoped (way_from way s) items → AreScoped way items)
        → cond b true (cond c false (in_reach way s)) ≡ true → AreScoped (cond b (a ∷ way) (way_from way s)) items
        → AreScoped (a ∷ way) items
    go true c e f k j = j
    go false false e f k j = below_new a way items p.0 e (f k j)
    go false true e f k j = let no_way : ⊥ = cc in absurd no_way

catch_no_barrier : (i : ℕ) (k : Kind) → ((i == 0) && same_kind k CatchNode) ≡ true → ((i == 0) && stops_cuts k) ≡ false
catch_no_barrier i k h = go (i == 0) k h
  where
    go : (b : Bool) (k : Kind) → (b && same_kind k CatchNode) ≡ true → (b && stops_cuts k) ≡ false
    go false k h = refl
    go true CatchNode h = refl
    go true ChoiceNode h = refl
    go true FindallNode h = let no_way : ⊥ = cc in absurd no_way
    go true QueryNode h = let no_way : ⊥ = cc in absurd no_way

pub weaken_above : (way : Way) (s : ℕ) (items : List (Item ℕ)) → IsPath way → through CatchNode way s ≡ true
    → AreScoped (way_above way s) items → AreScoped way items
weaken_above [] s items p r h = h
weaken_above (a ∷ way) s items p r h = go (a.node == s) (is_barrier a) refl (weaken_above way s items p.1) r h
  where
    go : (b c : Bool) → is_barrier a ≡ c → (through CatchNode way s ≡ true → AreScoped (way_above way s) items → AreScoped way items)
        → cond b ((a.index == 0) && same_kind a.kind CatchNode) (cond c false (through CatchNode way s)) ≡ true
        → AreScoped (cond b way (way_above way s)) items → AreScoped (a ∷ way) items
    go true c e f k j = below_new a way items p.0 (catch_no_barrier a.index a.kind k) j
    go false false e f k j = below_new a way items p.0 e (f k j)
    go false true e f k j = let no_way : ⊥ = cc in absurd no_way
