-- The list of placed nodes is readable.
use Rattle.std.proofs.Common.{◌≡◌, ℕ, suc, ◌+◌, ◌-◌, ◌≤◌, List, [], ◌∷◌, ◌++◌, map, length, take, drop, sym, ap, ◌∙◌, subst, arith}
use Rattle.run_model.specs.Machine.Items.{Item, GoalItem, CatchMark, CollectMark, RemovalItem}
use Rattle.run_model.specs.Machine.Entries.{Entry, PlainEntry, CatchEntry, FindallEntry, EndEntry}
use Rattle.tree_model.specs.Elements.{Element, EndOf}
use Rattle.interleaving.specs.Erased.{element_count, height}
use Rattle.tree_model.specs.Nodes.{Kind}
use Rattle.tree_model.specs.Floors.{renamed_item, with_nodes}
use Rattle.tree_model.specs.Shapes.{further, guard_kind, placed_status}
use Rattle.tree_model.specs.PendingLists.{Step, Way, scope_on, element_at, list_below}
use Rattle.interleaving.proofs.AppendLemmas.{append-assoc}
use Rattle.interleaving.proofs.PlacedSoundLemmas.{take-drop, drop-length}
use Rattle.interleaving.proofs.PlacedShapeLemmas.{made_equal}
use Rattle.interleaving.proofs.PlacedNameLemmas.{bare, bare-element, olders, HasItsHeight, ItemsMeasured, EntryMeasured, AreMeasured}
use Rattle.interleaving.proofs.PlacedNameLemmas.{measured_split, older_height}
use Rattle.interleaving.proofs.PlacedErasedLemmas.{IsNaming, bare_made, inner_naming}
use Rattle.interleaving.proofs.ReadableLemmas.{AreReadable, IsReadable, high_present}

items_read : (Whole : ℕ → Type 0) (q : ℕ) (xs : List Element) (way : Way) (name : ℕ → ℕ) (items : List (Item ℕ))
    → ItemsMeasured Whole q items → ((h : ℕ) → Whole h → 1 ≤ h → h ≤ q → HasItsHeight xs way name h) →
    AreReadable xs (map (renamed_item (scope_on way) (scope_on way)) (map (renamed_item name (λ h. name (suc h))) items))
items_read Whole q xs way name [] m g = (tt, tt)
items_read Whole q xs way name (GoalItem t h ∷ items) m g =
    let rest = items_read Whole q xs way name items m.1 g in
    let high : 1 ≤ height xs (scope_on way (name h)) = omega (arith, g h m.0.0 m.0.1 m.0.2, m.0.1) in
    ((high_present xs (scope_on way (name h)) high, rest.0), (tt, rest.1))
items_read Whole q xs way name (CatchMark h ∷ items) m g =
    let rest = items_read Whole q xs way name items m.1 g in
    let high : 1 ≤ height xs (scope_on way (name (suc h))) = omega (arith, g (suc h) m.0.0 (omega arith) m.0.1) in
    ((high_present xs (scope_on way (name (suc h))) high, rest.0), (high, rest.1))
items_read Whole q xs way name (CollectMark t h ∷ items) m g =
    let rest = items_read Whole q xs way name items m.1 g in
    let high : 1 ≤ height xs (scope_on way (name (suc h))) = omega (arith, g (suc h) m.0.0 (omega arith) m.0.1) in
    ((high_present xs (scope_on way (name (suc h))) high, rest.0), (high, rest.1))
items_read Whole q xs way name (RemovalItem n ∷ items) m g = let rest = items_read Whole q xs way name items m g in (rest.0, (tt, rest.1))

pub entry_read : (Whole : ℕ → Type 0) (q : ℕ) (n i : ℕ) (way : Way) (name : ℕ → ℕ) (e : Entry) (xs : List Element)
    → EntryMeasured Whole q e → ((h : ℕ) → Whole h → 1 ≤ h → h ≤ q → HasItsHeight xs way name h) →
    IsReadable xs → IsReadable (element_at n i way (with_nodes name e) ∷ xs)
entry_read Whole q n i way name (PlainEntry f) xs m g r = (items_read Whole q xs way name f.items m g, r)
entry_read Whole q n i way name (CatchEntry c x f) xs m g r = (items_read Whole q xs way name f.items m g, r)
entry_read Whole q n i way name (FindallEntry results l f) xs m g r = (items_read Whole q xs way name f.items m g, r)
entry_read Whole q n i way name (EndEntry b) xs m g r = r

older_read : (Whole : ℕ → Type 0) (name : ℕ → ℕ) (next f : ℕ) (way : Way) (kind : Kind) (xs : List Element)
    → ((h : ℕ) → Whole h → 1 ≤ h → h ≤ element_count xs → HasItsHeight xs way name h)
    → ((h : ℕ) → 1 ≤ h → h ≤ element_count xs → suc (name h) ≤ next) →
    ((h : ℕ) → Whole h → suc (element_count xs) ≤ h → suc h ≤ element_count xs + f → ⊥) → (i : ℕ) (os : List Entry) → length os ≤ f
    → AreMeasured Whole (element_count xs) os → IsReadable xs → IsReadable (olders way next kind i (map (with_nodes name) os) ++ xs)
older_read Whole name next f way kind xs sees nums none i [] l m r = r
older_read Whole name next f way kind xs sees nums none i (o ∷ os) l m r =
    let tail = olders way next kind (suc i) (map (with_nodes name) os) ++ xs in
    entry_read Whole (length os + element_count xs) next i (record { node = next; index = i; kind = kind } ∷ way) name o
    (EndOf (i ∷ next ∷ []) ∷ tail) m.0 (older_height Whole name next f way kind xs sees nums none i os l)
    (older_read Whole name next f way kind xs sees nums none (suc i) os (omega arith) m.1 r)

module _ (Whole : ℕ → Type 0) (name : ℕ → ℕ) where
  pub placed_read : (next : ℕ) (sizes : List ℕ) (a : Step) (w : Way) (xs : List Element) (es : List Entry)
      → IsNaming Whole name next sizes (a ∷ w) xs es → IsReadable xs →
      IsReadable (bare (list_below (a ∷ w) 0 (placed_status next sizes (map (with_nodes name) es))) ++ xs)
  placed_read next [] a w xs [] h r = let no_way : ⊥ = omega (arith, h.fills) in absurd no_way
  placed_read next [] a w xs (e ∷ d ∷ es) h r = let no_way : ⊥ = omega (arith, h.fills) in absurd no_way
  placed_read next [] a w xs (e ∷ []) h r =
      subst (λ l. IsReadable (l ++ xs)) (sym (bare-element a.node a.index (a ∷ w) (with_nodes name e) []))
      (entry_read Whole (0 + element_count xs) a.node a.index (a ∷ w) name e xs h.measured.0 (λ n z k l. h.sees n z k (omega (arith, l))) r)
  placed_read next (size ∷ sizes) a w xs es h r =
      let rest = length es - further size in
      let f = h.fills in
      let inner = take rest es in
      let olds = drop rest es in
      let many : length (drop rest es) ≡ further size = omega (arith, drop-length rest es, f.0) in
      let joined : AreMeasured Whole (element_count xs) (take rest es ++ drop rest es) = subst (AreMeasured Whole (element_count xs))
      (take-drop rest es) h.measured in
      let first : Step = record { node = next; index = 0; kind = guard_kind (map (with_nodes name) (drop rest es)) } in
      let right = olders (a ∷ w) next (guard_kind (map (with_nodes name) (drop rest es))) 1 (map (with_nodes name) (drop rest es)) in
      let naming = inner_naming Whole name next size sizes (a ∷ w) xs (take rest es) (drop rest es) h.sees h.nums h.holds h.splits
      joined many f.2 in
      let low = older_read Whole name next (further size) (a ∷ w) (guard_kind (map (with_nodes name) (drop rest es))) xs h.sees h.nums
      h.splits.0 1 (drop rest es) (omega (arith, many)) (measured_split Whole (element_count xs) (take rest es) (drop rest es) joined).1
      r in
      let whole = placed_read (suc next) sizes first (a ∷ w) (EndOf (0 ∷ next ∷ []) ∷ (right ++ xs)) (take rest es) naming low in
      let status = placed_status (suc next) sizes (map (with_nodes name) (take rest es)) in
      let list = ap (λ s. bare (list_below (a ∷ w) 0 s) ++ xs) (made_equal (with_nodes name) next size sizes es)
      ∙ (ap (λ l. l ++ xs) (bare_made (a ∷ w) next status (map (with_nodes name) (drop rest es)))
      ∙ append-assoc (bare (list_below (first ∷ a ∷ w) 0 status)) (EndOf (0 ∷ next ∷ []) ∷ right) xs) in
      subst IsReadable (sym list) whole
