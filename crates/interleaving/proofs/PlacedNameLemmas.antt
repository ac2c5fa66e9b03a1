-- What nodes that a run becomes stand for: the entries of the run, where each scope is named by the node that holds the
-- entry right below it.
use Rattle.std.proofs.Common.{◌≡◌, ℕ, zero, suc, ◌+◌, ◌-◌, ◌≤◌, ◌==◌, Bool, true, false, List, [], ◌∷◌, ◌++◌, map, length, refl, sym, ap}
use Rattle.std.proofs.Common.{◌∙◌, subst, arith}
use Rattle.run_model.specs.Machine.Items.{Item, GoalItem, CatchMark, CollectMark, RemovalItem, Continuation}
use Rattle.run_model.specs.Machine.Entries.{Entry, PlainEntry, CatchEntry, FindallEntry, EndEntry}
use Rattle.tree_model.specs.Elements.{Element, Credit, Plain, EndOf, Catch, Findall, End}
use Rattle.interleaving.specs.HeightMachine.{HeightEntry, height_entries}
use Rattle.interleaving.specs.Erased.{from, element_count, height, with_height, erased}
use Rattle.tree_model.specs.Nodes.{Kind, Hold, Ready, TakenBy, Waiting, Dormant, entry_alternatives}
use Rattle.tree_model.specs.Floors.{renamed_item, with_nodes}
use Rattle.std.specs.Prelude.{nat_le}
use Rattle.tree_model.specs.PendingLists.{Step, Way, scope_on, element_at, own_credit, list_among}
use Rattle.interleaving.proofs.NamedFloorLemmas.{count-element, from-element, from-other, scope-above}

-- a list without its empty credits
abbrev pub bare : List Element → List Element
bare [] = []
bare (Credit zero [] ∷ xs) = bare xs
bare (Credit zero (r ∷ rs) ∷ xs) = Credit zero (r ∷ rs) ∷ bare xs
bare (Credit (suc k) rs ∷ xs) = Credit (suc k) rs ∷ bare xs
bare (Plain p f ∷ xs) = Plain p f ∷ bare xs
bare (EndOf s ∷ xs) = EndOf s ∷ bare xs
bare (Catch s u c r p f ∷ xs) = Catch s u c r p f ∷ bare xs
bare (Findall s u results list p f ∷ xs) = Findall s u results list p f ∷ bare xs
bare (End p b ∷ xs) = End p b ∷ bare xs

pub bare-append : (xs ys : List Element) → bare (xs ++ ys) ≡ bare xs ++ bare ys
bare-append [] ys = refl
bare-append (Credit zero [] ∷ xs) ys = bare-append xs ys
bare-append (Credit zero (r ∷ rs) ∷ xs) ys = ap (λ l. Credit zero (r ∷ rs) ∷ l) (bare-append xs ys)
bare-append (Credit (suc k) rs ∷ xs) ys = ap (λ l. Credit (suc k) rs ∷ l) (bare-append xs ys)
bare-append (Plain p f ∷ xs) ys = ap (λ l. Plain p f ∷ l) (bare-append xs ys)
bare-append (EndOf s ∷ xs) ys = ap (λ l. EndOf s ∷ l) (bare-append xs ys)
bare-append (Catch s u c r p f ∷ xs) ys = ap (λ l. Catch s u c r p f ∷ l) (bare-append xs ys)
bare-append (Findall s u results list p f ∷ xs) ys = ap (λ l. Findall s u results list p f ∷ l) (bare-append xs ys)
bare-append (End p b ∷ xs) ys = ap (λ l. End p b ∷ l) (bare-append xs ys)

pub bare-element : (n i : ℕ) (way : Way) (e : Entry) (xs : List Element) → bare (element_at n i way e ∷ xs) ≡ element_at n i way e ∷ bare xs
bare-element n i way (PlainEntry f) xs = refl
bare-element n i way (CatchEntry c r f) xs = refl
bare-element n i way (FindallEntry results l f) xs = refl
bare-element n i way (EndEntry b) xs = refl

-- the older entries of a node
abbrev pub olders : Way → ℕ → Kind → ℕ → List Entry → List Element
olders way n kind i [] = []
olders way n kind i (o ∷ os) = element_at n i (record { node = n; index = i; kind = kind } ∷ way) o ∷ EndOf (i ∷ n ∷ []) ∷ olders way n
    kind (suc i) os

pub bare_olders : (way : Way) (n : ℕ) (kind : Kind) (i : ℕ) (hold : Hold) (os : List Entry)
    → bare (list_among way n kind i (entry_alternatives hold os)) ≡ olders way n kind i os
bare_olders way n kind i hold [] = refl
bare_olders way n kind i hold (o ∷ os) =
    let rest = EndOf (i ∷ n ∷ []) ∷ list_among way n kind (suc i) (entry_alternatives hold os) in
    no_credit hold (element_at n i (record { node = n; index = i; kind = kind } ∷ way) o) rest
    ∙ (bare-element n i (record { node = n; index = i; kind = kind } ∷ way) o rest
    ∙ ap (λ l. element_at n i (record { node = n; index = i; kind = kind } ∷ way) o ∷ EndOf (i ∷ n ∷ []) ∷ l)
    (bare_olders way n kind (suc i) hold os))
  where
    no_credit : (h : Hold) (x : Element) (ys : List Element) → bare ((own_credit h 0 ++ x ∷ []) ++ ys) ≡ bare (x ∷ ys)
    no_credit Ready x ys = refl
    no_credit Dormant x ys = refl
    no_credit (TakenBy w) x ys = refl
    no_credit (Waiting g) x ys = refl

-- the height of a scope that a height was named by
abbrev pub HasItsHeight : List Element → Way → (ℕ → ℕ) → ℕ → Type 0
HasItsHeight xs way name h = height xs (scope_on way (name h)) ≡ h

-- which heights entries name: those that a mark's entry is one below are whole too
abbrev pub ItemsMeasured : (ℕ → Type 0) → ℕ → List (Item ℕ) → Type 0
ItemsMeasured Whole q [] = Unit {0}
ItemsMeasured Whole q (GoalItem t h ∷ items) = (Whole h × (1 ≤ h) × (h ≤ q)) × ItemsMeasured Whole q items
ItemsMeasured Whole q (CatchMark h ∷ items) = (Whole (suc h) × (suc h ≤ q)) × ItemsMeasured Whole q items
ItemsMeasured Whole q (CollectMark t h ∷ items) = (Whole (suc h) × (suc h ≤ q)) × ItemsMeasured Whole q items
ItemsMeasured Whole q (RemovalItem m ∷ items) = ItemsMeasured Whole q items

abbrev pub EntryMeasured : (ℕ → Type 0) → ℕ → Entry → Type 0
EntryMeasured Whole q (PlainEntry f) = ItemsMeasured Whole q f.items
EntryMeasured Whole q (CatchEntry c r f) = ItemsMeasured Whole q f.items
EntryMeasured Whole q (FindallEntry results l f) = ItemsMeasured Whole q f.items
EntryMeasured Whole q (EndEntry b) = Unit {0}

-- entries over so many others
abbrev pub AreMeasured : (ℕ → Type 0) → ℕ → List Entry → Type 0
AreMeasured Whole low [] = Unit {0}
AreMeasured Whole low (e ∷ es) = EntryMeasured Whole (length es + low) e × AreMeasured Whole low es

pub measured_split : (Whole : ℕ → Type 0) (low : ℕ) (xs ys : List Entry) → AreMeasured Whole low (xs ++ ys)
    → AreMeasured Whole (length ys + low) xs × AreMeasured Whole low ys
measured_split Whole low [] ys h = (tt, h)
measured_split Whole low (x ∷ xs) ys h =
    let k = measured_split Whole low xs ys h.1 in
    let same : length (xs ++ ys) + low ≡ length xs + (length ys + low) = omega (arith, length_both xs ys) in
    ((subst (λ q. EntryMeasured Whole q x) same h.0, k.0), k.1)
  where
    length_both : (xs ys : List Entry) → length (xs ++ ys) ≡ length xs + length ys
    length_both [] ys = omega arith
    length_both (x ∷ xs) ys = let h = length_both xs ys in omega (arith, h)

-- an entry is what its element stands for
items_back : (Whole : ℕ → Type 0) (q : ℕ) (xs : List Element) (way : Way) (name : ℕ → ℕ) (items : List (Item ℕ))
    → ItemsMeasured Whole q items → ((h : ℕ) → Whole h → 1 ≤ h → h ≤ q → HasItsHeight xs way name h) →
    map (with_height (height xs)) (map (renamed_item (scope_on way) (scope_on way)) (map (renamed_item name (λ h. name (suc h))) items))
    ≡ items
items_back Whole q xs way name [] m g = refl
items_back Whole q xs way name (GoalItem t h ∷ items) m g =
    ap (λ n. GoalItem t n ∷ map (with_height (height xs))
    (map (renamed_item (scope_on way) (scope_on way)) (map (renamed_item name (λ h. name (suc h))) items))) (g h m.0.0 m.0.1 m.0.2)
    ∙ ap (λ l. GoalItem t h ∷ l) (items_back Whole q xs way name items m.1 g)
items_back Whole q xs way name (CatchMark h ∷ items) m g =
    let one : height xs (scope_on way (name (suc h))) - 1 ≡ h = omega (arith, g (suc h) m.0.0 (omega arith) m.0.1) in
    ap (λ n. CatchMark n ∷ map (with_height (height xs))
    (map (renamed_item (scope_on way) (scope_on way)) (map (renamed_item name (λ h. name (suc h))) items))) one
    ∙ ap (λ l. CatchMark h ∷ l) (items_back Whole q xs way name items m.1 g)
items_back Whole q xs way name (CollectMark t h ∷ items) m g =
    let one : height xs (scope_on way (name (suc h))) - 1 ≡ h = omega (arith, g (suc h) m.0.0 (omega arith) m.0.1) in
    ap (λ n. CollectMark t n ∷ map (with_height (height xs))
    (map (renamed_item (scope_on way) (scope_on way)) (map (renamed_item name (λ h. name (suc h))) items))) one
    ∙ ap (λ l. CollectMark t h ∷ l) (items_back Whole q xs way name items m.1 g)
items_back Whole q xs way name (RemovalItem n ∷ items) m g = ap (λ l. RemovalItem n ∷ l) (items_back Whole q xs way name items m g)

abbrev cont : Continuation ℕ → List (Item ℕ) → Continuation ℕ
cont f items = record { items = items; named = f.named; next = f.next }

pub entry_back : (Whole : ℕ → Type 0) (q : ℕ) (n i : ℕ) (way : Way) (name : ℕ → ℕ) (e : Entry) (xs : List Element)
    → EntryMeasured Whole q e → ((h : ℕ) → Whole h → 1 ≤ h → h ≤ q → HasItsHeight xs way name h) →
    erased (element_at n i way (with_nodes name e) ∷ xs) ≡ HeightEntry e ∷ erased xs
entry_back Whole q n i way name (PlainEntry f) xs m g = ap (λ l. HeightEntry (PlainEntry (cont f l)) ∷ erased xs)
    (items_back Whole q xs way name f.items m g)
entry_back Whole q n i way name (CatchEntry c r f) xs m g = ap (λ l. HeightEntry (CatchEntry c r (cont f l)) ∷ erased xs)
    (items_back Whole q xs way name f.items m g)
entry_back Whole q n i way name (FindallEntry results l f) xs m g = ap
    (λ is. HeightEntry (FindallEntry results l (cont f is)) ∷ erased xs) (items_back Whole q xs way name f.items m g)
entry_back Whole q n i way name (EndEntry b) xs m g = refl

-- a scope of another node is looked for after them
pub from_olders : (way : Way) (n : ℕ) (kind : Kind) (i : ℕ) (os : List Entry) (xs : List Element) (s : ℕ) → (s ≡ n → ⊥)
    → from (olders way n kind i os ++ xs) (scope_on way s) ≡ from xs (scope_on way s)
from_olders way n kind i [] xs s h = refl
from_olders way n kind i (o ∷ os) xs s h =
    from-element n i (record { node = n; index = i; kind = kind } ∷ way) o (EndOf (i ∷ n ∷ []) ∷ (olders way n kind (suc i) os ++ xs))
    (scope_on way s)
    ∙ (from-other way s i n (olders way n kind (suc i) os ++ xs) h ∙ from_olders way n kind (suc i) os xs s h)

pub count_olders : (way : Way) (n : ℕ) (kind : Kind) (i : ℕ) (os : List Entry) (xs : List Element)
    → element_count (olders way n kind i os ++ xs) ≡ length os + element_count xs
count_olders way n kind i [] xs = omega arith
count_olders way n kind i (o ∷ os) xs =
    let here = count-element n i (record { node = n; index = i; kind = kind } ∷ way) o
    (EndOf (i ∷ n ∷ []) ∷ (olders way n kind (suc i) os ++ xs)) in
    let rest = count_olders way n kind (suc i) os xs in
    omega (arith, here, rest)

pub other_node : (m n : ℕ) → (m ≡ n → ⊥) → (n == m) ≡ false
other_node m n h = go (n == m) refl
  where
    go : (b : Bool) → (n == m) ≡ b → b ≡ false
    go false e = refl
    go true e = let same : n ≡ m = grind arith in absurd (h (sym same))

-- the scopes that an older entry names
pub older_height : (Whole : ℕ → Type 0) (name : ℕ → ℕ) (next f : ℕ) (way : Way) (kind : Kind) (xs : List Element)
    → ((h : ℕ) → Whole h → 1 ≤ h → h ≤ element_count xs → HasItsHeight xs way name h)
    → ((h : ℕ) → 1 ≤ h → h ≤ element_count xs → suc (name h) ≤ next) →
    ((h : ℕ) → Whole h → suc (element_count xs) ≤ h → suc h ≤ element_count xs + f → ⊥) → (i : ℕ) (os : List Entry) → suc (length os) ≤ f →
    (h : ℕ) → Whole h → 1 ≤ h → h ≤ length os + element_count xs
    → HasItsHeight (EndOf (i ∷ next ∷ []) ∷ (olders way next kind (suc i) (map (with_nodes name) os) ++ xs))
    (record { node = next; index = i; kind = kind } ∷ way) name h
older_height Whole name next f way kind xs sees nums none i os l h w a b = go (nat_le h (element_count xs)) refl
  where
    step : Step
    step = record { node = next; index = i; kind = kind }

    go : (c : Bool) → nat_le h (element_count xs) ≡ c
        → HasItsHeight (EndOf (i ∷ next ∷ []) ∷ (olders way next kind (suc i) (map (with_nodes name) os) ++ xs))
        (record { node = next; index = i; kind = kind } ∷ way) name h
    go false e = let high : suc (element_count xs) ≤ h = grind arith in absurd (none h w high (omega (arith, l, b)))
    go true e =
        let low : h ≤ element_count xs = grind arith in
        let apart : (name h ≡ next → ⊥) = (λ z. absurd (omega (arith, nums h a low, z))) in
        let tail = olders way next kind (suc i) (map (with_nodes name) os) ++ xs in
        ap (height (EndOf (i ∷ next ∷ []) ∷ tail)) (scope-above step way (name h) (other_node (name h) next apart))
        ∙ (ap element_count (from-other way (name h) i next tail apart ∙ from_olders way next kind (suc i) (map (with_nodes name) os) xs
        (name h) apart) ∙ sees h w a low)

pub older_erased : (Whole : ℕ → Type 0) (name : ℕ → ℕ) (next f : ℕ) (way : Way) (kind : Kind) (xs : List Element)
    → ((h : ℕ) → Whole h → 1 ≤ h → h ≤ element_count xs → HasItsHeight xs way name h)
    → ((h : ℕ) → 1 ≤ h → h ≤ element_count xs → suc (name h) ≤ next) →
    ((h : ℕ) → Whole h → suc (element_count xs) ≤ h → suc h ≤ element_count xs + f → ⊥) → (i : ℕ) (os : List Entry) → length os ≤ f
    → AreMeasured Whole (element_count xs) os →
    erased (olders way next kind i (map (with_nodes name) os) ++ xs) ≡ height_entries os ++ erased xs
older_erased Whole name next f way kind xs sees nums none i [] l m = refl
older_erased Whole name next f way kind xs sees nums none i (o ∷ os) l m =
    let tail = olders way next kind (suc i) (map (with_nodes name) os) ++ xs in
    entry_back Whole (length os + element_count xs) next i (record { node = next; index = i; kind = kind } ∷ way) name o
    (EndOf (i ∷ next ∷ []) ∷ tail) m.0 (older_height Whole name next f way kind xs sees nums none i os l)
    ∙ ap (λ r. HeightEntry o ∷ r) (older_erased Whole name next f way kind xs sees nums none (suc i) os (omega arith) m.1)
