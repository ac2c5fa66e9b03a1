-- The list of placed nodes stands for the entries of the run.
use Rattle.std.proofs.Common.{◌≡◌, ℕ, suc, ◌+◌, ◌-◌, ◌≤◌, Bool, true, false, List, [], ◌∷◌, ◌++◌, map, length, take, drop, refl, sym, ap}
use Rattle.std.proofs.Common.{◌∙◌, subst, arith}
use Rattle.std.specs.Prelude.{nat_le}
use Rattle.run_model.specs.Machine.Entries.{Entry}
use Rattle.tree_model.specs.Elements.{Element, EndOf}
use Rattle.interleaving.specs.HeightMachine.{height_entries}
use Rattle.interleaving.specs.Erased.{element_count, height, erased}
use Rattle.tree_model.specs.Nodes.{Kind, Status, entry_alternatives}
use Rattle.tree_model.specs.Floors.{with_nodes}
use Rattle.tree_model.specs.Shapes.{further, holder, guard_kind, guard_hold, placed_status}
use Rattle.tree_model.specs.PendingLists.{Step, Way, scope_on, list_among, list_below}
use Rattle.interleaving.proofs.AppendLemmas.{append-assoc}
use Rattle.interleaving.proofs.NamingLemmas.{from_own}
use Rattle.interleaving.proofs.PlacedSoundLemmas.{take-drop, drop-length, map-length}
use Rattle.interleaving.proofs.PlacedShapeLemmas.{holder_first, holder_later, made, made_equal}
use Rattle.interleaving.proofs.NamedFloorLemmas.{from-other, scope-here, scope-above}
use Rattle.interleaving.proofs.PlacedNameLemmas.{bare, bare-append, bare-element, olders, bare_olders, HasItsHeight, AreMeasured}
use Rattle.interleaving.proofs.PlacedNameLemmas.{measured_split}
use Rattle.interleaving.proofs.PlacedNameLemmas.{entry_back, from_olders, count_olders, other_node, older_erased}
use Rattle.interleaving.proofs.SequentialHeightLemmas.{height-append}
use Rattle.au_term.proofs.LogicLemmas.{number_same}

-- no whole height falls inside a node
abbrev pub NoneInside : (ℕ → Type 0) → ℕ → List ℕ → Type 0
NoneInside Whole low [] = Unit {0}
NoneInside Whole low (size ∷ sizes) = ((h : ℕ) → Whole h → suc low ≤ h → suc h ≤ low + further size → ⊥) × NoneInside Whole
    (low + further size) sizes

-- the nodes have entries enough, and the last has one
abbrev pub HaveSizes : List ℕ → List Entry → Type 0
HaveSizes [] es = length es ≡ 1
HaveSizes (size ∷ sizes) es = (suc (further size) ≤ length es) × (1 ≤ size) × HaveSizes sizes (take (length es - further size) es)

-- what is known where nodes are placed over a list
pub record IsNaming (Whole : ℕ → Type 0) (name : ℕ → ℕ) (next : ℕ) (sizes : List ℕ) (way : Way) (xs : List Element) (es : List Entry) :
    Type 0 where
  pub sees : (h : ℕ) → Whole h → 1 ≤ h → h ≤ element_count xs → HasItsHeight xs way name h
  pub nums : (h : ℕ) → 1 ≤ h → h ≤ element_count xs → suc (name h) ≤ next
  pub holds : (p : ℕ) → name (suc (element_count xs + p)) ≡ holder next sizes p
  pub splits : NoneInside Whole (element_count xs) sizes
  pub measured : AreMeasured Whole (element_count xs) es
  pub fills : HaveSizes sizes es

-- the list of a node
pub bare_made : (way : Way) (next : ℕ) (first : Status) (new : List Entry) →
    bare (list_below way 0 (made next first new))
    ≡ bare (list_below (record { node = next; index = 0; kind = guard_kind new } ∷ way) 0 first)
    ++ (EndOf (0 ∷ next ∷ []) ∷ olders way next (guard_kind new) 1 new)
bare_made way next first new =
    bare-append (list_below (record { node = next; index = 0; kind = guard_kind new } ∷ way) 0 first)
    (EndOf (0 ∷ next ∷ []) ∷ list_among way next (guard_kind new) 1 (entry_alternatives (guard_hold (guard_kind new)) new))
    ∙ ap (λ l. bare (list_below (record { node = next; index = 0; kind = guard_kind new } ∷ way) 0 first)
    ++ (EndOf (0 ∷ next ∷ []) ∷ l)) (bare_olders way next (guard_kind new) 1 (guard_hold (guard_kind new)) new)

module _ (Whole : ℕ → Type 0) (name : ℕ → ℕ) where
  -- the element list right of a node's first alternative, over what lies below
  pub inner_naming : (next size : ℕ) (sizes : List ℕ) (way : Way) (xs : List Element) (inner olds : List Entry) →
      ((h : ℕ) → Whole h → 1 ≤ h → h ≤ element_count xs → HasItsHeight xs way name h)
      → ((h : ℕ) → 1 ≤ h → h ≤ element_count xs → suc (name h) ≤ next)
      → ((p : ℕ) → name (suc (element_count xs + p)) ≡ holder next (size ∷ sizes) p) →
      NoneInside Whole (element_count xs) (size ∷ sizes) → AreMeasured Whole (element_count xs) (inner ++ olds) → length olds ≡ further size
      → HaveSizes sizes inner →
      IsNaming Whole name (suc next) sizes (record { node = next; index = 0; kind = guard_kind (map (with_nodes name) olds) } ∷ way)
      (EndOf (0 ∷ next ∷ []) ∷ (olders way next (guard_kind (map (with_nodes name) olds)) 1 (map (with_nodes name) olds) ++ xs))
      inner
  inner_naming next size sizes way xs inner olds sees nums holds splits ms many fills = record {
    sees = λ h w a b. see h w a b (nat_le h (element_count xs)) refl;
    nums = λ h a b. num h a b (nat_le h (element_count xs)) refl;
    holds = λ p. ap (λ m. name (suc m)) (let z : element_count ys + p ≡ element_count xs + (further size + p) = omega (arith, tall) in z)
        ∙ (holds (further size + p) ∙ holder_later next size sizes p);
    splits = subst (λ n. NoneInside Whole n sizes) (sym tall) splits.1;
    measured = subst (λ n. AreMeasured Whole n inner) (sym size_olds) both.0;
    fills = fills;
  }
    where
      kind : Kind
      kind = guard_kind (map (with_nodes name) olds)

      first : Step
      first = record { node = next; index = 0; kind = guard_kind (map (with_nodes name) olds) }

      right : List Element
      right = olders way next (guard_kind (map (with_nodes name) olds)) 1 (map (with_nodes name) olds)

      ys : List Element
      ys = EndOf (0 ∷ next ∷ []) ∷ (olders way next (guard_kind (map (with_nodes name) olds)) 1 (map (with_nodes name) olds) ++ xs)

      both : AreMeasured Whole (length olds + element_count xs) inner × AreMeasured Whole (element_count xs) olds
      both = measured_split Whole (element_count xs) inner olds ms

      tall : element_count ys ≡ element_count xs + further size
      tall = omega (arith, count_olders way next kind 1 (map (with_nodes name) olds) xs, map-length (with_nodes name) olds, many)

      size_olds : element_count ys ≡ length olds + element_count xs
      size_olds = omega (arith, tall, many)

      -- a scope of what lies below
      lower : (h : ℕ) → Whole h → 1 ≤ h → h ≤ element_count xs → HasItsHeight ys (first ∷ way) name h
      lower h w a low =
          let apart : (name h ≡ next → ⊥) = (λ z. absurd (omega (arith, nums h a low, z))) in
          ap (height ys) (scope-above first way (name h) (other_node (name h) next apart))
          ∙ (ap element_count (from-other way (name h) 0 next (right ++ xs) apart
          ∙ from_olders way next kind 1 (map (with_nodes name) olds) xs
          (name h) apart) ∙ sees h w a low)

      -- the scope of the node itself
      own : (h : ℕ) → suc (element_count xs) ≤ h → h ≡ element_count xs + further size → HasItsHeight ys (first ∷ way) name h
      own h a e =
          let place : h ≡ suc (element_count xs + (further size - 1)) = omega (arith, a, e) in
          let here : name h ≡ next = ap name place
          ∙ (holds (further size - 1) ∙ holder_first next size sizes (further size - 1) (omega (arith, a, e))) in
          ap (λ m. height ys (scope_on (first ∷ way) m)) here
          ∙ (ap (height ys) (scope-here first way next (number_same next))
          ∙ (ap element_count (from_own (0 ∷ next ∷ []) (right ++ xs)) ∙ (tall ∙ sym e)))

      see : (h : ℕ) → Whole h → 1 ≤ h → h ≤ element_count ys → (c : Bool) → nat_le h (element_count xs) ≡ c
          → HasItsHeight ys (first ∷ way) name h
      see h w a b true e = lower h w a (let z : h ≤ element_count xs = grind arith in z)
      see h w a b false e =
          let high : suc (element_count xs) ≤ h = grind arith in
          at_top (nat_le (suc h) (element_count xs + further size)) refl
        where
          at_top : (c : Bool) → nat_le (suc h) (element_count xs + further size) ≡ c → HasItsHeight ys (first ∷ way) name h
          at_top true k =
              let high : suc (element_count xs) ≤ h = grind arith in
              let under : suc h ≤ element_count xs + further size = grind arith in
              absurd (splits.0 h w high under)
          at_top false k =
              let high : suc (element_count xs) ≤ h = grind arith in
              let top : element_count xs + further size ≤ h = grind arith in
              own h high (omega (arith, top, b, tall))

      num : (h : ℕ) → 1 ≤ h → h ≤ element_count ys → (c : Bool) → nat_le h (element_count xs) ≡ c → suc (name h) ≤ suc next
      num h a b true e = let low : h ≤ element_count xs = grind arith in omega (arith, nums h a low)
      num h a b false e =
          let high : suc (element_count xs) ≤ h = grind arith in
          let place : h ≡ suc (element_count xs + (h - suc (element_count xs))) = omega (arith, high) in
          let here : name h ≡ next = ap name place
          ∙ (holds (h - suc (element_count xs)) ∙ holder_first next size sizes (h - suc (element_count xs))
          (omega (arith, high, b, tall))) in
          omega (arith, here)

  -- one node over what is inside it
  node_erased : (next size : ℕ) (sizes : List ℕ) (way : Way) (xs : List Element) (inner olds : List Entry) →
      ((h : ℕ) → Whole h → 1 ≤ h → h ≤ element_count xs → HasItsHeight xs way name h)
      → ((h : ℕ) → 1 ≤ h → h ≤ element_count xs → suc (name h) ≤ next)
      → ((p : ℕ) → name (suc (element_count xs + p)) ≡ holder next (size ∷ sizes) p) →
      NoneInside Whole (element_count xs) (size ∷ sizes) → AreMeasured Whole (element_count xs) (inner ++ olds) → length olds ≡ further size
      → HaveSizes sizes inner →
      ((a : Step) (w : Way) (ys : List Element) → IsNaming Whole name (suc next) sizes (a ∷ w) ys inner
      → erased (bare (list_below (a ∷ w) 0 (placed_status (suc next) sizes (map (with_nodes name) inner))) ++ ys)
      ≡ height_entries inner ++ erased ys) →
      erased (bare (list_below way 0 (made next (placed_status (suc next) sizes (map (with_nodes name) inner))
      (map (with_nodes name) olds))) ++ xs) ≡ height_entries (inner ++ olds) ++ erased xs
  node_erased next size sizes way xs inner olds sees nums holds splits ms many fills ih =
      let first : Step = record { node = next; index = 0; kind = guard_kind (map (with_nodes name) olds) } in
      let right = olders way next (guard_kind (map (with_nodes name) olds)) 1 (map (with_nodes name) olds) in
      let both = measured_split Whole (element_count xs) inner olds ms in
      ap (λ l. erased (l ++ xs)) (bare_made way next (placed_status (suc next) sizes (map (with_nodes name) inner))
      (map (with_nodes name) olds))
      ∙ (ap erased (append-assoc (bare (list_below (first ∷ way) 0 (placed_status (suc next) sizes (map (with_nodes name) inner))))
      (EndOf (0 ∷ next ∷ []) ∷ right) xs)
      ∙ (ih first way (EndOf (0 ∷ next ∷ []) ∷ (right ++ xs))
      (inner_naming next size sizes way xs inner olds sees nums holds splits ms many fills)
      ∙ (ap (λ l. height_entries inner ++ l)
      (older_erased Whole name next (further size) way (guard_kind (map (with_nodes name) olds)) xs sees nums splits.0 1 olds
      (omega (arith, many)) both.1)
      ∙ (sym (append-assoc (height_entries inner) (height_entries olds) (erased xs))
      ∙ ap (λ l. l ++ erased xs) (sym (height-append inner olds))))))

  pub placed_erased : (next : ℕ) (sizes : List ℕ) (a : Step) (w : Way) (xs : List Element) (es : List Entry)
      → IsNaming Whole name next sizes (a ∷ w) xs es →
      erased (bare (list_below (a ∷ w) 0 (placed_status next sizes (map (with_nodes name) es))) ++ xs) ≡ height_entries es ++ erased xs
  placed_erased next [] a w xs [] h = let no_way : ⊥ = omega (arith, h.fills) in absurd no_way
  placed_erased next [] a w xs (e ∷ d ∷ es) h = let no_way : ⊥ = omega (arith, h.fills) in absurd no_way
  placed_erased next [] a w xs (e ∷ []) h =
      ap (λ l. erased (l ++ xs)) (bare-element a.node a.index (a ∷ w) (with_nodes name e) [])
      ∙ entry_back Whole (0 + element_count xs) a.node a.index (a ∷ w) name e xs h.measured.0 (λ n z k l. h.sees n z k (omega (arith, l)))
  placed_erased next (size ∷ sizes) a w xs es h =
      let rest = length es - further size in
      let f = h.fills in
      let olds : length (drop rest es) ≡ further size = omega (arith, drop-length rest es, f.0) in
      let joined : AreMeasured Whole (element_count xs) (take rest es ++ drop rest es) = subst (AreMeasured Whole (element_count xs))
      (take-drop rest es) h.measured in
      ap (λ s. erased (bare (list_below (a ∷ w) 0 s) ++ xs)) (made_equal (with_nodes name) next size sizes es)
      ∙ (node_erased next size sizes (a ∷ w) xs (take rest es) (drop rest es) h.sees h.nums h.holds h.splits joined olds f.2
      (λ b v ys k. placed_erased (suc next) sizes b v ys (take rest es) k)
      ∙ ap (λ l. height_entries l ++ erased xs) (sym (take-drop rest es)))
