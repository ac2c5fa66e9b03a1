-- How many alternatives are held so, where a table changes.
use Rattle.std.proofs.Common.{◌≡◌, ℕ, zero, suc, ◌+◌, ◌-◌, ◌<◌, ◌≤◌, Bool, true, false, cond, List, [], ◌∷◌, ◌++◌, length, take, Option, Some, None}
use Rattle.std.proofs.Common.{refl, sym, ap, arith, subst, map, get_or, inl, inr}
use Rattle.std.proofs.lemmas.Bool.{cases_lt}
use Rattle.std.proofs.Math.Seq.{take-nil}
use Rattle.std.specs.Prelude.{IsSome, slice_get, slice_set}
use Rattle.tree_model.specs.Levels.{Place}
use Rattle.tree_model.specs.Nodes.{Hold}
use Rattle.tree_nodes.specs.Rows.{AlternativeCell, PendingCell, StoredNode, Rows, cell_view, row_of_node, alternatives_at, cell_at}
use Rattle.tree_nodes.specs.RowViews.{with_state}
use Rattle.tree_nodes.specs.declared.siblings.Alternative.{Alternative}
use Rattle.tree_nodes.specs.Siblings.{alternative_view}
use Rattle.tree_nodes.proofs.RowLemmas.{row_at_past}
use Rattle.tree_nodes.proofs.SiblingLemmas.{taken_more}
use Rattle.tree_nodes.specs.Held.{one_held, held_at, held_among, held_in, IsCountOf, AddsCount, TakesCount, HasNone}

abbrev Cell : Type 0
Cell = ℕ × AlternativeCell

pub held_among-append : (sort : Hold → Bool) (xs ys : List Cell) → held_among sort (xs ++ ys) ≡ held_among sort xs + held_among sort ys
held_among-append sort [] ys = omega arith
held_among-append sort (x ∷ xs) ys = let h = held_among-append sort xs ys in omega (arith, h)

pub held_among-last : (sort : Hold → Bool) (xs : List Cell) (x : Cell) → held_among sort (xs ++ x ∷ []) ≡ held_among sort xs + one_held sort x.1
held_among-last sort xs x = let h = held_among-append sort xs (x ∷ []) in omega (arith, h)

held_among-set : (sort : Hold → Bool) (cells : List Cell) (i : ℕ) (was now : Cell) → slice_get cells i ≡ Some was
    → held_among sort (slice_set cells i now) + one_held sort was.1 ≡ held_among sort cells + one_held sort now.1
held_among-set sort [] i was now e = absurd (cc e)
held_among-set sort (x ∷ cells) zero was now e =
    let same : x ≡ was = cc e in
    let one : one_held sort x.1 ≡ one_held sort was.1 = ap (λ (c : Cell). one_held sort c.1) same in
    omega (arith, one)
held_among-set sort (x ∷ cells) (suc i) was now e = let h = held_among-set sort cells i was now e in omega (arith, h)

held_among-at : (sort : Hold → Bool) (cells : List Cell) (i : ℕ) → held_at sort (slice_get cells i) ≤ held_among sort cells
held_among-at sort [] i = omega arith
held_among-at sort (x ∷ cells) zero = omega arith
held_among-at sort (x ∷ cells) (suc i) = let h = held_among-at sort cells i in omega (arith, h)

pub held_in-set : (sort : Hold → Bool) (rows : Rows) (n : ℕ) (y : Option StoredNode) → n < length rows
    → held_in sort (slice_set rows n y) + held_among sort (alternatives_at (row_of_node rows n)) ≡ held_in sort rows + held_among sort (alternatives_at y)
held_in-set sort [] n y l = absurd (omega (arith, l))
held_in-set sort (r ∷ rows) zero y l = omega arith
held_in-set sort (r ∷ rows) (suc n) y l = let h = held_in-set sort rows n y (omega (arith, l)) in omega (arith, h)

held_in-at : (sort : Hold → Bool) (rows : Rows) (n : ℕ) → held_among sort (alternatives_at (row_of_node rows n)) ≤ held_in sort rows
held_in-at sort [] n = omega arith
held_in-at sort (r ∷ rows) zero = omega arith
held_in-at sort (r ∷ rows) (suc n) = let h = held_in-at sort rows n in omega (arith, h)

pub held_in-last : (sort : Hold → Bool) (rows : Rows) (r : Option StoredNode) → held_in sort (rows ++ r ∷ []) ≡ held_in sort rows + held_among sort (alternatives_at r)
held_in-last sort [] r = omega arith
held_in-last sort (x ∷ rows) r = let h = held_in-last sort rows r in omega (arith, h)

none_in : (sort : Hold → Bool) (rows : Rows) → ((m : ℕ) → row_of_node rows m ≡ None) → held_in sort rows ≡ 0
none_in sort [] h = refl
none_in sort (r ∷ rows) h =
    let here : held_among sort (alternatives_at r) ≡ 0 = ap (λ (o : Option StoredNode). held_among sort (alternatives_at o)) (h 0) in
    let others = none_in sort rows (λ m. h (suc m)) in
    omega (arith, here, others)

pub held_in-take : (sort : Hold → Bool) (rows : Rows) (n : ℕ) → ((m : ℕ) → n ≤ m → row_of_node rows m ≡ None) → held_in sort (take n rows) ≡ held_in sort rows
held_in-take sort [] n h = ap (held_in sort) (take-nil n)
held_in-take sort (r ∷ rows) zero h = sym (none_in sort (r ∷ rows) (λ m. h m (omega arith)))
held_in-take sort (r ∷ rows) (suc n) h =
    let k = held_in-take sort rows n (λ m l. h (suc m) (omega (arith, l))) in
    omega (arith, k)

pub state_cells : (i : ℕ) (cell : Cell) (slot : Option StoredNode) → alternatives_at (with_state i cell slot) ≡ slice_set (alternatives_at slot) i cell
state_cells i cell None = refl
state_cells i cell (Some r) = refl

some_cell : (o : Option Cell) → IsSome o → (c : Cell) × (o ≡ Some c)
some_cell None h = absurd (cc h)
some_cell (Some c) h = (c, refl)

-- one alternative is put in place of another
pub replaced_count : (sort : Hold → Bool) (rows : Rows) (n i : ℕ) (slot : Option StoredNode) (now : Cell) (held before rest more sum : ℕ)
    → n < length rows → row_of_node rows n ≡ slot → IsSome (slice_get (alternatives_at slot) i) → IsCountOf held (held_in sort rows)
    → before ≡ held_at sort (slice_get (alternatives_at slot) i) → TakesCount held before rest → more ≡ one_held sort now.1 → AddsCount rest more sum
    → IsCountOf sum (held_in sort (slice_set rows n (with_state i now slot)))
replaced_count sort rows n i slot now held before rest more sum l row there count b takes m adds =
    let cells = alternatives_at slot in
    let was = some_cell (slice_get cells i) there in
    let here : held_at sort (slice_get cells i) ≡ one_held sort was.0.1 = ap (held_at sort) was.1 in
    let in_row : held_among sort (alternatives_at (row_of_node rows n)) ≡ held_among sort cells = ap (λ (o : Option StoredNode). held_among sort (alternatives_at o)) row in
    let changed = held_in-set sort rows n (with_state i now slot) l in
    let changed_row : held_among sort (alternatives_at (with_state i now slot)) ≡ held_among sort (slice_set cells i now) = ap (held_among sort) (state_cells i now slot) in
    let one = held_among-set sort cells i was.0 now was.1 in
    let least = held_among-at sort cells i in
    let within = held_in-at sort rows n in
    let whole : held_in sort rows ≡ (held_in sort rows - before) + before = omega (arith, b, here, in_row, least, within) in
    let after : (held_in sort rows - before) + more ≡ held_in sort (slice_set rows n (with_state i now slot))
    = omega (arith, b, here, in_row, changed, changed_row, one, least, within, m) in
    subst (IsCountOf sum) after (adds (held_in sort rows - before) more (takes (held_in sort rows - before) (subst (IsCountOf held) whole count)) (λ z. refl))

-- the last alternative is taken off a row, or the row
pub shortened_count : (sort : Hold → Bool) (rows : Rows) (n : ℕ) (slot new : Option StoredNode) (held off rest : ℕ)
    → n < length rows → row_of_node rows n ≡ slot → IsCountOf held (held_in sort rows)
    → held_among sort (alternatives_at slot) ≡ held_among sort (alternatives_at new) + off → TakesCount held off rest
    → IsCountOf rest (held_in sort (slice_set rows n new))
shortened_count sort rows n slot new held off rest l row count e takes =
    let in_row : held_among sort (alternatives_at (row_of_node rows n)) ≡ held_among sort (alternatives_at slot)
    = ap (λ (o : Option StoredNode). held_among sort (alternatives_at o)) row in
    let changed = held_in-set sort rows n new l in
    let whole : held_in sort rows ≡ held_in sort (slice_set rows n new) + off = omega (arith, in_row, changed, e) in
    takes (held_in sort (slice_set rows n new)) (subst (IsCountOf held) whole count)

pub pushed_count : (sort : Hold → Bool) (rows : Rows) (slot : Option StoredNode) (held more sum : ℕ) → IsCountOf held (held_in sort rows)
    → IsCountOf more (held_among sort (alternatives_at slot)) → AddsCount held more sum → IsCountOf sum (held_in sort (rows ++ slot ∷ []))
pushed_count sort rows slot held more sum count new adds =
    subst (IsCountOf sum) (sym (held_in-last sort rows slot)) (adds (held_in sort rows) (held_among sort (alternatives_at slot)) count new)

pub cell_within : (rows : Rows) (a : Place) → IsSome (cell_at rows a) → a.node < length rows
cell_within rows a there = elim (cases_lt a.node (length rows)) [
  | inl l ↦ l
  | inr h ↦ absurd (let z : IsSome {T = Cell} None = subst IsSome (ap (λ (o : Option StoredNode). slice_get (alternatives_at o) a.index) (row_at_past rows a.node h)) there in cc z)
]

-- one more alternative
pub more_held : (sort : Hold → Bool) (items : List Alternative) (i : ℕ) (x : Alternative) (held more sum : ℕ) → i < length items → x ≡ get_or items i x
    → IsCountOf held (held_among sort (map alternative_view (take i items))) → more ≡ one_held sort (cell_view x.state) → AddsCount held more sum
    → IsCountOf sum (held_among sort (map alternative_view (take (i + 1) items)))
more_held sort items i x held more sum l e count m adds =
    let cells : map alternative_view (take (i + 1) items) ≡ map alternative_view (take i items) ++ alternative_view x ∷ [] = taken_more items i x l e in
    let whole : held_among sort (map alternative_view (take i items)) + more ≡ held_among sort (map alternative_view (take (i + 1) items))
    = (let a = ap (held_among sort) cells in let b = held_among-last sort (map alternative_view (take i items)) (alternative_view x) in omega (arith, a, b, m)) in
    subst (IsCountOf sum) whole (adds (held_among sort (map alternative_view (take i items))) more count (λ z. refl))

-- where none is counted, none is there
none_among : (sort : Hold → Bool) (cells : List Cell) (i spent : ℕ) (hold : Hold) → held_among sort cells ≡ 0 → slice_get cells i ≡ Some (spent, PendingCell hold)
    → sort hold ≡ false
none_among sort cells i spent hold z e =
    let least = held_among-at sort cells i in
    let here : held_at sort (slice_get cells i) ≡ one_held sort (PendingCell hold) = ap (held_at sort) e in
    by_test (sort hold) (omega (arith, z, least, here))
  where
    by_test : (b : Bool) → ◌≡◌ {A = ℕ} (cond b 1 0) 0 → b ≡ false
    by_test true h = absurd (omega (arith, h))
    by_test false h = refl

pub none_held : (sort : Hold → Bool) (rows : Rows) (held : ℕ) → held ≡ 0 → IsCountOf held (held_in sort rows) → HasNone sort rows
none_held sort rows held z count a spent hold e =
    let none_at : held ≡ held_in sort rows = count (omega (arith, z)) in
    let within = held_in-at sort rows a.node in
    none_among sort (alternatives_at (row_of_node rows a.node)) a.index spent hold (omega (arith, z, none_at, within)) e
