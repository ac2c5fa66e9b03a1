-- Cells behind those of the variables.
use Rattle.std.proofs.Common.{◌≡◌, ℕ, ◌<◌, ◌≤◌, ◌==◌, ◌+◌, cond, nat_lt, Bool, true, false, List, length, get_or, take, slice_set, slice_index_or, refl, sym, ap, ◌∙◌, subst, arith}
use Rattle.std.proofs.lemmas.Bool.Decides.{nat_tests}
use Rattle.std.proofs.lemmas.List.{get_or-take, get_or_past, length-take-le, length-set, same_lists, get_or_default}
use Rattle.std.proofs.Math.Seq.{take-set-lt}
use Rattle.binding_array.specs.Represented.{variable_cell, IsFalling, AreFalling}
use Rattle.binding_array.specs.SpareCells.{HasSpareCells, AreFreed}
use Rattle.binding_array.specs.declared.cell.BindingCell.{BindingCell}
use Rattle.binding_array.specs.declared.cell.BindingCell.TheVariants.{Free}
use Rattle.binding_array.proofs.RepresentedLemmas.{read, written}

-- as many cells are shown as there are variables
pub shown_length : (count : ℕ) (cells : List BindingCell) → HasSpareCells count cells → length (take count cells) ≡ count
shown_length count cells room = length-take-le count cells room.fits

-- the cells that are shown are those that are there
pub shown : (count : ℕ) (cells : List BindingCell) (v : ℕ) → HasSpareCells count cells → variable_cell (take count cells) v ≡ variable_cell cells v
shown count cells v room = by_test (nat_lt v count) refl
  where
    by_test : (b : Bool) → nat_lt v count ≡ b → variable_cell (take count cells) v ≡ variable_cell cells v
    by_test true e = let lt : v < count = grind (arith, nat_tests) in get_or-take count cells v Free lt
    by_test false e = let le : count ≤ v = grind (arith, nat_tests) in get_or_past (take count cells) v Free (subst (λ n. n ≤ v) (sym (shown_length count cells room)) le) ∙ sym (room.free v le)

pub is_inside : (count : ℕ) (cells now : List BindingCell) (v : ℕ) → HasSpareCells count cells → take count cells ≡ now → v < length now → v < count
is_inside count cells now v room e lt = let n = shown_length count cells room in let m : length (take count cells) ≡ length now = ap length e in omega (arith, n, m, lt)

-- a cell that was read
pub read_shown : (count : ℕ) (cells now : List BindingCell) (v : ℕ) (c : BindingCell) → HasSpareCells count cells → take count cells ≡ now → v < length now → c ≡ slice_index_or cells v c → variable_cell now v ≡ c
read_shown count cells now v c room e lt k = ap (λ l. variable_cell l v) (sym e) ∙ (shown count cells v room ∙ read cells v c c inside k)
  where
    inside : v < length cells
    inside = let below = is_inside count cells now v room e lt in let fits = room.fits in omega (arith, below, fits)

pub shown_falls : (count : ℕ) (cells now : List BindingCell) → HasSpareCells count cells → take count cells ≡ now → AreFalling now
shown_falls count cells now room e v = subst (IsFalling v) (sym (shown count cells v room) ∙ ap (λ l. variable_cell l v) e) (room.falling v)

-- a cell of a variable is written
pub set_shown : (count : ℕ) (cells now : List BindingCell) (v : ℕ) (c : BindingCell) → HasSpareCells count cells → take count cells ≡ now → v < length now → take count (slice_set cells v c) ≡ slice_set now v c
set_shown count cells now v c room e lt = take-set-lt count cells v c (is_inside count cells now v room e lt) ∙ ap (λ l. slice_set l v c) e

-- fewer cells are shown
pub cut_shown : (to count : ℕ) (before cells : List BindingCell) → to < count → HasSpareCells count before → AreFreed to count before cells → take to cells ≡ take to (take count before)
cut_shown to count before cells lt room h = same_lists (take to cells) (take to (take count before)) (of_cells ∙ sym of_before) same
  where
    inside : to ≤ length cells
    inside = let fits = room.fits in let same = h.fits in omega (arith, fits, same, lt)

    of_cells : length (take to cells) ≡ to
    of_cells = length-take-le to cells inside

    of_before : length (take to (take count before)) ≡ to
    of_before = length-take-le to (take count before) (let n = shown_length count before room in omega (arith, n, lt))

    same : (k : ℕ) (d : BindingCell) → k < length (take to cells) → get_or (take to cells) k d ≡ get_or (take to (take count before)) k d
    same k d below =
        let lt_to : k < to = omega (arith, below, of_cells) in
        let lt_count : k < count = omega (arith, lt_to, lt) in
        let in_cells : k < length cells = omega (arith, lt_to, inside) in
        let fits = room.fits in
        let in_before : k < length before = omega (arith, lt_count, fits) in
        get_or-take to cells k d lt_to ∙ (get_or_default cells k d Free in_cells ∙ (h.below k lt_to ∙ (get_or_default before k Free d in_before ∙ (sym (get_or-take count before k d lt_count) ∙ sym (get_or-take to (take count before) k d lt_to)))))
