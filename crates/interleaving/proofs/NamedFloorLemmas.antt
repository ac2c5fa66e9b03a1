-- The floor of a branch by names: for each node on it, from the innermost on, what sleeps to the right, and then the end
-- of the alternative that leads there.
use Rattle.std.proofs.Common.{◌≡◌, ℕ, suc, ◌-◌, ◌==◌, Bool, true, false, cond, List, [], ◌∷◌, ◌++◌, map, length, None, refl, sym, ap, ◌∙◌}
use Rattle.std.proofs.Common.{arith}
use Rattle.run_model.specs.Machine.Items.{Item, GoalItem, CatchMark, CollectMark, RemovalItem, Continuation}
use Rattle.run_model.specs.Machine.Entries.{Entry, PlainEntry, CatchEntry, FindallEntry, EndEntry}
use Rattle.tree_model.specs.Elements.{Name, Element, EndOf, End}
use Rattle.interleaving.specs.HeightMachine.{HeightEntry, height_entries}
use Rattle.interleaving.specs.Erased.{from, element_count, height, with_height, erased}
use Rattle.interleaving.specs.OwnRuns.{IsFloor}
use Rattle.tree_model.specs.Levels.{Level}
use Rattle.tree_model.specs.Nodes.{Hold, Ready, TakenBy, Waiting, Dormant, Alternatives, none, alternative, Pending, Inner, Closed}
use Rattle.tree_model.specs.Floors.{renamed_item, renamed_entry, height_of, with_heights, right_entry, floor_of}
use Rattle.tree_model.specs.PendingLists.{Step, Way, way_of, step_of, step_name, scope_on, element_at}
use Rattle.interleaving.proofs.WayLemmas.{cond-true, cond-false}
use Rattle.interleaving.proofs.NamingLemmas.{from_end, from_own}
use Rattle.tree_model.specs.Ways.{is_on}
use Rattle.interleaving.proofs.RoundtripLemmas.{IsPath}
use Rattle.au_term.proofs.LogicLemmas.{number_same}

-- what sleeps to the right of an alternative, and its end; in its place, where nothing sleeps, an end of a query that
-- takes no ball
abbrev pub hold_named : ℕ → ℕ → Way → Hold → Entry → List Element
hold_named n i way Dormant e = element_at n i way e ∷ EndOf (i ∷ n ∷ []) ∷ []
hold_named n i way Ready e = End [] None ∷ []
hold_named n i way (TakenBy w) e = End [] None ∷ []
hold_named n i way (Waiting g) e = End [] None ∷ []

abbrev pub right_named : ℕ → ℕ → Way → Alternatives → List Element
right_named n i way none = End [] None ∷ []
right_named n i way (alternative spent (Pending hold e) others) = hold_named n i way hold e
right_named n i way (alternative spent (Inner node) others) = End [] None ∷ []
right_named n i way (alternative spent (Closed c) others) = End [] None ∷ []

abbrev pub sleeper : List Level → Level → List Element
sleeper up v = right_named v.number (suc (length v.left)) (way_of up) v.right

-- for each level from the innermost on: the end of its alternative, and what sleeps to its right
abbrev pub below_named : List Level → List Element
below_named [] = []
below_named (v ∷ up) = EndOf (step_name (step_of v)) ∷ (right_named v.number (suc (length v.left)) (way_of up) v.right ++ below_named up)

abbrev pub floor_named : List Level → List Element
floor_named [] = []
floor_named (v ∷ up) = right_named v.number (suc (length v.left)) (way_of up) v.right ++ below_named up

-- an element's count, and what it ends: nothing
pub count-element : (n i : ℕ) (way : Way) (e : Entry) (xs : List Element) → element_count (element_at n i way e ∷ xs)
    ≡ suc (element_count xs)
count-element n i way (PlainEntry f) xs = refl
count-element n i way (CatchEntry c r f) xs = refl
count-element n i way (FindallEntry results l f) xs = refl
count-element n i way (EndEntry b) xs = refl

pub from-element : (n i : ℕ) (way : Way) (e : Entry) (xs : List Element) (s : Name) → from (element_at n i way e ∷ xs) s ≡ from xs s
from-element n i way (PlainEntry f) xs s = refl
from-element n i way (CatchEntry c r f) xs s = refl
from-element n i way (FindallEntry results l f) xs s = refl
from-element n i way (EndEntry b) xs s = refl

-- a scope is told from those of other nodes
pub scope_other : (way : Way) (s i n : ℕ) → (s ≡ n → ⊥) → scope_on way s ≡ i ∷ n ∷ [] → ⊥
scope_other [] s i n h e = cc
scope_other (a ∷ way) s i n h e = go (a.node == s) refl (scope_other way s i n h) e
  where
    same_last : (j m : ℕ) → j ∷ m ∷ [] ≡ i ∷ n ∷ [] → m ≡ n
    same_last j m k = cc

    go : (b : Bool) → (a.node == s) ≡ b → (scope_on way s ≡ i ∷ n ∷ [] → ⊥) → cond b (step_name a) (scope_on way s) ≡ i ∷ n ∷ [] → ⊥
    go true k f z = let same : a.node ≡ s = grind arith in h (sym same ∙ same_last a.index a.node z)
    go false k f z = f z

-- the end of another node's alternative is passed
pub from-other : (way : Way) (s i n : ℕ) (xs : List Element) → (s ≡ n → ⊥) → from (EndOf (i ∷ n ∷ []) ∷ xs) (scope_on way s)
    ≡ from xs (scope_on way s)
from-other way s i n xs h = from_end (i ∷ n ∷ []) (scope_on way s) xs (scope_other way s i n h)

pub count-right : (n i : ℕ) (way : Way) (right : Alternatives) (xs : List Element) → element_count (right_named n i way right ++ xs)
    ≡ suc (element_count xs)
count-right n i way none xs = refl
count-right n i way (alternative spent (Inner node) others) xs = refl
count-right n i way (alternative spent (Closed c) others) xs = refl
count-right n i way (alternative spent (Pending Ready e) others) xs = refl
count-right n i way (alternative spent (Pending (TakenBy w) e) others) xs = refl
count-right n i way (alternative spent (Pending (Waiting g) e) others) xs = refl
count-right n i way (alternative spent (Pending Dormant e) others) xs = count-element n i way e (EndOf (i ∷ n ∷ []) ∷ xs)

-- past what sleeps, for a scope that isn't its end
pub from-right : (n i : ℕ) (way : Way) (right : Alternatives) (xs : List Element) (s : Name) → (s ≡ i ∷ n ∷ [] → ⊥)
    → from (right_named n i way right ++ xs) s ≡ from xs s
from-right n i way none xs s h = refl
from-right n i way (alternative spent (Inner node) others) xs s h = refl
from-right n i way (alternative spent (Closed c) others) xs s h = refl
from-right n i way (alternative spent (Pending Ready e) others) xs s h = refl
from-right n i way (alternative spent (Pending (TakenBy w) e) others) xs s h = refl
from-right n i way (alternative spent (Pending (Waiting g) e) others) xs s h = refl
from-right n i way (alternative spent (Pending Dormant e) others) xs s h = from-element n i way e (EndOf (i ∷ n ∷ []) ∷ xs) s
    ∙ from_end (i ∷ n ∷ []) s xs h

pub count-below : (levels : List Level) → element_count (below_named levels) ≡ length levels
count-below [] = refl
count-below (v ∷ up) = count-right v.number (suc (length v.left)) (way_of up) v.right (below_named up) ∙ ap suc (count-below up)

-- where a level's scope ends
pub scope-here : (a : Step) (way : Way) (s : ℕ) → (a.node == s) ≡ true → scope_on (a ∷ way) s ≡ step_name a
scope-here a way s h = cond-true (a.node == s) (step_name a) (scope_on way s) h

pub scope-above : (a : Step) (way : Way) (s : ℕ) → (a.node == s) ≡ false → scope_on (a ∷ way) s ≡ scope_on way s
scope-above a way s h = cond-false (a.node == s) (step_name a) (scope_on way s) h

-- past the ends of a level
pub from-level : (v : Level) (up : List Level) (s : ℕ) → (s ≡ v.number → ⊥) → from (below_named (v ∷ up)) (scope_on (way_of up) s)
    ≡ from (below_named up) (scope_on (way_of up) s)
from-level v up s h =
    from-other (way_of up) s (length v.left) v.number (right_named v.number (suc (length v.left)) (way_of up) v.right ++ below_named up) h
    ∙ from-right v.number (suc (length v.left)) (way_of up) v.right (below_named up) (scope_on (way_of up) s)
    (scope_other (way_of up) s (suc (length v.left)) v.number h)

-- the height of a scope on a branch
pub low_height : (levels : List Level) (s : ℕ) → height (below_named levels) (scope_on (way_of levels) s) ≡ height_of levels s
low_height [] s = refl
low_height (v ∷ up) s = go (v.number == s) refl (low_height up s)
  where
    go : (b : Bool) → (v.number == s) ≡ b → height (below_named up) (scope_on (way_of up) s) ≡ height_of up s
        → height (below_named (v ∷ up)) (cond b (step_name (step_of v)) (scope_on (way_of up) s))
        ≡ cond b (suc (length up)) (height_of up s)
    go true k f =
        let rest = right_named v.number (suc (length v.left)) (way_of up) v.right ++ below_named up in
        ap element_count (from_own (step_name (step_of v)) rest) ∙ count-below (v ∷ up)
    go false k f = ap element_count (from-level v up s (λ e. clash (sym k ∙ other e))) ∙ f
      where
        other : s ≡ v.number → (v.number == s) ≡ true
        other e = ap (λ m. v.number == m) e ∙ number_same v.number

        clash : false ≡ true → ⊥
        clash z = cc

-- an entry over a list where each scope has its height
items_low : (xs : List Element) (way : Way) (g : ℕ → ℕ) (items : List (Item ℕ)) → ((s : ℕ) → height xs (scope_on way s) ≡ g s) →
    map (with_height (height xs)) (map (renamed_item (scope_on way) (scope_on way)) items) ≡ map (renamed_item g (λ s. g s - 1)) items
items_low xs way g [] h = refl
items_low xs way g (GoalItem t s ∷ items) h = ap
    (λ n. GoalItem t n ∷ map (with_height (height xs)) (map (renamed_item (scope_on way) (scope_on way)) items)) (h s)
    ∙ ap (λ l. GoalItem t (g s) ∷ l) (items_low xs way g items h)
items_low xs way g (CatchMark s ∷ items) h = ap
    (λ n. CatchMark (n - 1) ∷ map (with_height (height xs)) (map (renamed_item (scope_on way) (scope_on way)) items)) (h s)
    ∙ ap (λ l. CatchMark (g s - 1) ∷ l) (items_low xs way g items h)
items_low xs way g (CollectMark t s ∷ items) h = ap
    (λ n. CollectMark t (n - 1) ∷ map (with_height (height xs)) (map (renamed_item (scope_on way) (scope_on way)) items)) (h s)
    ∙ ap (λ l. CollectMark t (g s - 1) ∷ l) (items_low xs way g items h)
items_low xs way g (RemovalItem m ∷ items) h = ap (λ l. RemovalItem m ∷ l) (items_low xs way g items h)

abbrev cont : Continuation ℕ → List (Item ℕ) → Continuation ℕ
cont f items = record { items = items; named = f.named; next = f.next }

pub entry_low : (n i : ℕ) (way : Way) (e : Entry) (xs : List Element) (g : ℕ → ℕ) → ((s : ℕ) → height xs (scope_on way s) ≡ g s)
    → erased (element_at n i way e ∷ xs) ≡ HeightEntry (renamed_entry g (λ s. g s - 1) e) ∷ erased xs
entry_low n i way (PlainEntry f) xs g h = ap (λ l. HeightEntry (PlainEntry (cont f l)) ∷ erased xs) (items_low xs way g f.items h)
entry_low n i way (CatchEntry c r f) xs g h = ap (λ l. HeightEntry (CatchEntry c r (cont f l)) ∷ erased xs) (items_low xs way g f.items h)
entry_low n i way (FindallEntry results l f) xs g h = ap (λ is. HeightEntry (FindallEntry results l (cont f is)) ∷ erased xs)
    (items_low xs way g f.items h)
entry_low n i way (EndEntry b) xs g h = refl

-- a node that isn't on a way names no scope there
pub scope_never : (way : Way) (s i n : ℕ) → is_on way n ≡ false → scope_on way s ≡ i ∷ n ∷ [] → ⊥
scope_never [] s i n h e = cc
scope_never (a ∷ way) s i n h e = go (a.node == s) (a.node == n) refl (scope_never way s i n) h e
  where
    same_last : (j m : ℕ) → j ∷ m ∷ [] ≡ i ∷ n ∷ [] → m ≡ n
    same_last j m k = cc

    clash : true ≡ false → ⊥
    clash z = cc

    go : (b c : Bool) → (a.node == n) ≡ c → (is_on way n ≡ false → scope_on way s ≡ i ∷ n ∷ [] → ⊥) → cond c true (is_on way n) ≡ false
        → cond b (step_name a) (scope_on way s) ≡ i ∷ n ∷ [] → ⊥
    go b true k f o z = clash o
    go true false k f o z = clash (sym (number_same n) ∙ ap (λ m. m == n) (sym (same_last a.index a.node z)) ∙ k)
    go false false k f o z = f o z

-- past the end of a sleeper, whose node isn't on the way above
pub from-beside : (way : Way) (s i n : ℕ) (xs : List Element) → is_on way n ≡ false → from (EndOf (i ∷ n ∷ []) ∷ xs) (scope_on way s)
    ≡ from xs (scope_on way s)
from-beside way s i n xs h = from_end (i ∷ n ∷ []) (scope_on way s) xs (scope_never way s i n h)

-- the floor by names stands for the floor
right_erased : (n i : ℕ) (levels : List Level) (right : Alternatives) → is_on (way_of levels) n ≡ false →
    erased (right_named n i (way_of levels) right ++ below_named levels) ≡ HeightEntry (with_heights levels (right_entry right))
    ∷ erased (below_named levels)
right_erased n i levels none p = refl
right_erased n i levels (alternative spent (Inner node) others) p = refl
right_erased n i levels (alternative spent (Closed c) others) p = refl
right_erased n i levels (alternative spent (Pending Ready e) others) p = refl
right_erased n i levels (alternative spent (Pending (TakenBy w) e) others) p = refl
right_erased n i levels (alternative spent (Pending (Waiting g) e) others) p = refl
right_erased n i levels (alternative spent (Pending Dormant e) others) p =
    entry_low n i (way_of levels) e (EndOf (i ∷ n ∷ []) ∷ below_named levels) (height_of levels)
    (λ s. ap element_count (from-beside (way_of levels) s i n (below_named levels) p) ∙ low_height levels s)

pub below_erased : (levels : List Level) → IsPath (way_of levels) → erased (below_named levels) ≡ height_entries (floor_of levels)
below_erased [] p = refl
below_erased (v ∷ up) p = right_erased v.number (suc (length v.left)) up v.right p.0
    ∙ ap (λ l. HeightEntry (with_heights up (right_entry v.right)) ∷ l) (below_erased up p.1)

-- no end comes first
first_right : (n i : ℕ) (way : Way) (right : Alternatives) (xs : List Element) → IsFloor (right_named n i way right ++ xs)
first_right n i way none xs = tt
first_right n i way (alternative spent (Inner node) others) xs = tt
first_right n i way (alternative spent (Closed c) others) xs = tt
first_right n i way (alternative spent (Pending Ready e) others) xs = tt
first_right n i way (alternative spent (Pending (TakenBy w) e) others) xs = tt
first_right n i way (alternative spent (Pending (Waiting g) e) others) xs = tt
first_right n i way (alternative spent (Pending Dormant (PlainEntry f)) others) xs = tt
first_right n i way (alternative spent (Pending Dormant (CatchEntry c r f)) others) xs = tt
first_right n i way (alternative spent (Pending Dormant (FindallEntry results l f)) others) xs = tt
first_right n i way (alternative spent (Pending Dormant (EndEntry b)) others) xs = tt

pub first_low : (levels : List Level) → IsFloor (floor_named levels)
first_low [] = tt
first_low (v ∷ up) = first_right v.number (suc (length v.left)) (way_of up) v.right (below_named up)
