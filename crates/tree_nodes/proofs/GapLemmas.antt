-- Alternatives that have closed next to others.
use Rattle.std.proofs.Common.{◌≡◌, ◌≢◌, ℕ, zero, suc, ◌+◌, ◌-◌, ◌<◌, ◌≤◌, Bool, true, false, List, [], ◌∷◌, ◌++◌, length, Some}
use Rattle.std.proofs.Common.{refl, sym, ap, ◌∙◌, arith, subst, inl, inr}
use Rattle.std.proofs.lemmas.Bool.{cases_eq, cases_lt}
use Rattle.std.specs.Prelude.{slice_get, slice_set}
use Rattle.tree_nodes.specs.declared.gaps.Gap.{Gap}
use Rattle.tree_nodes.specs.Rows.{AlternativeCell}
use Rattle.tree_nodes.specs.Gathering.{is_shut}
use Rattle.tree_nodes.specs.Gaps.{right_of_gap, left_of_gap, right_of_gap_at, left_of_gap_at, shut_or_past, IsShutAt, AreGaps, IsFlat, IsRightSet, IsLeftSet, Regaps, ShutsGap, IsNextAfter}

abbrev Cell : Type 0
Cell = ℕ × AlternativeCell

get-set_other : {X : Type 0} (xs : List X) (i j : ℕ) (y : X) → j ≢ i → slice_get (slice_set xs i y) j ≡ slice_get xs j
get-set_other [] i j y ne = refl
get-set_other (x ∷ xs) zero zero y ne = absurd (ne refl)
get-set_other (x ∷ xs) zero (suc j) y ne = refl
get-set_other (x ∷ xs) (suc i) zero y ne = refl
get-set_other (x ∷ xs) (suc i) (suc j) y ne = get-set_other xs i j y (λ e. ne (ap suc e))

get-set_same : {X : Type 0} (xs : List X) (i : ℕ) (y : X) → i < length xs → slice_get (slice_set xs i y) i ≡ Some y
get-set_same [] i y l = absurd (omega (arith, l))
get-set_same (x ∷ xs) zero y l = refl
get-set_same (x ∷ xs) (suc i) y l = get-set_same xs i y (omega (arith, l))

pub flat_more : (gaps : List Gap) → IsFlat gaps → IsFlat (gaps ++ record { left = 0; right = 0 } ∷ [])
flat_more [] h zero = (refl, refl)
flat_more [] h (suc i) = (refl, refl)
flat_more (g ∷ gaps) h zero = h 0
flat_more (g ∷ gaps) h (suc i) = flat_more gaps (λ k. h (suc k)) i

pub flat_nil : IsFlat []
flat_nil i = (refl, refl)

pub flat_gaps : (gaps : List Gap) (cells : List Cell) → IsFlat gaps → AreGaps gaps cells
flat_gaps gaps cells h = record {
  right = λ i j l m. absurd (let z = (h i).0 in omega (arith, l, m, z));
  left = λ i j l m. absurd (let z = (h i).1 in omega (arith, l, m, z));
}

pub right_set : (gaps : List Gap) (at : ℕ) (g : Gap) (right : ℕ) → at < length gaps → g.left ≡ left_of_gap_at gaps at → g.right ≡ right → IsRightSet gaps (slice_set gaps at g) at right
right_set gaps at g right l e f = record {
  rights = λ i. elim (cases_eq i at) [
    | inl z ↦ inr (z, ap (right_of_gap_at (slice_set gaps at g)) z ∙ (ap right_of_gap (get-set_same gaps at g l) ∙ f))
    | inr ne ↦ inl (ap right_of_gap (get-set_other gaps at i g ne))
  ];
  lefts = λ i. elim (cases_eq i at) [
    | inl z ↦ ap (left_of_gap_at (slice_set gaps at g)) z ∙ (ap left_of_gap (get-set_same gaps at g l) ∙ (e ∙ ap (left_of_gap_at gaps) (sym z)))
    | inr ne ↦ ap left_of_gap (get-set_other gaps at i g ne)
  ];
}

pub left_set : (gaps : List Gap) (at : ℕ) (g : Gap) (left : ℕ) → at < length gaps → g.right ≡ right_of_gap_at gaps at → g.left ≡ left → IsLeftSet gaps (slice_set gaps at g) at left
left_set gaps at g left l e f = record {
  rights = λ i. elim (cases_eq i at) [
    | inl z ↦ ap (right_of_gap_at (slice_set gaps at g)) z ∙ (ap right_of_gap (get-set_same gaps at g l) ∙ (e ∙ ap (right_of_gap_at gaps) (sym z)))
    | inr ne ↦ ap right_of_gap (get-set_other gaps at i g ne)
  ];
  lefts = λ i. elim (cases_eq i at) [
    | inl z ↦ inr (z, ap (left_of_gap_at (slice_set gaps at g)) z ∙ (ap left_of_gap (get-set_same gaps at g l) ∙ f))
    | inr ne ↦ inl (ap left_of_gap (get-set_other gaps at i g ne))
  ];
}

-- what lies between the ends of the gaps on both sides of an alternative that has closed
between : (gaps : List Gap) (cells : List Cell) (i j : ℕ) → IsShutAt cells i → AreGaps gaps cells → i ≤ j + left_of_gap_at gaps i → j ≤ i + right_of_gap_at gaps i → IsShutAt cells j
between gaps cells i j shut h l m = elim (cases_lt j i) [
  | inl k ↦ h.left i j k l
  | inr k ↦ elim (cases_eq j i) [
    | inl e ↦ subst (IsShutAt cells) (sym e) shut
    | inr ne ↦ h.right i j (omega (arith, k, ne)) m
  ]
]

pub right_joined : (old new : List Gap) (i at many : ℕ) → left_of_gap_at old i < i → at ≡ (i - 1) - left_of_gap_at old i → many ≤ (left_of_gap_at old i + right_of_gap_at old i) + 1
    → IsRightSet old new at many → ShutsGap old new i
right_joined old new i at many less place most set cells shut h = record {
  right = λ a j l m. elim (set.rights a) [
    | inl e ↦ h.right a j l (omega (arith, m, e))
    | inr e ↦ (let x = e.0 in let y = e.1 in between old cells i j shut h (omega (arith, l, m, x, y, place, less, most)) (omega (arith, l, m, x, y, place, less, most)))
  ];
  left = λ a j l m. h.left a j l (let e = set.lefts a in omega (arith, m, e));
}

pub left_joined : (old middle new : List Gap) (i at many : ℕ) (cells : List Cell) → IsShutAt cells i → AreGaps old cells → AreGaps middle cells
    → at ≡ (i + 1) + right_of_gap_at old i → many ≤ (left_of_gap_at old i + right_of_gap_at old i) + 1 → IsLeftSet middle new at many → AreGaps new cells
left_joined old middle new i at many cells shut h k place most set = record {
  right = λ a j l m. k.right a j l (let e = set.rights a in omega (arith, m, e));
  left = λ a j l m. elim (set.lefts a) [
    | inl e ↦ k.left a j l (omega (arith, m, e))
    | inr e ↦ (let x = e.0 in let y = e.1 in between old cells i j shut h (omega (arith, l, m, x, y, place, most)) (omega (arith, l, m, x, y, place, most)))
  ];
}

pub same_shut : (gaps : List Gap) (i : ℕ) → ShutsGap gaps gaps i
same_shut gaps i cells shut h = h

-- an alternative changes
kept_shut : (cells : List Cell) (i : ℕ) (x : Cell) (j : ℕ) → is_shut x.1 ≡ true → i < length cells → IsShutAt cells j → IsShutAt (slice_set cells i x) j
kept_shut cells i x j s l h = elim (cases_eq j i) [
  | inl e ↦ ap (λ (k : ℕ). shut_or_past (slice_get (slice_set cells i x) k)) e ∙ (ap shut_or_past (get-set_same cells i x l) ∙ s)
  | inr ne ↦ ap shut_or_past (get-set_other cells i j x ne) ∙ h
]

kept_open : (cells : List Cell) (i : ℕ) (x : Cell) (j : ℕ) → shut_or_past (slice_get cells i) ≡ false → IsShutAt cells j → IsShutAt (slice_set cells i x) j
kept_open cells i x j o h = elim (cases_eq j i) [
  | inl e ↦ absurd (let z : true ≡ false = sym h ∙ (ap (λ (k : ℕ). shut_or_past (slice_get cells k)) e ∙ o) in cc z)
  | inr ne ↦ ap shut_or_past (get-set_other cells i j x ne) ∙ h
]

all_kept : (gaps : List Gap) (cells new : List Cell) → ((j : ℕ) → IsShutAt cells j → IsShutAt new j) → AreGaps gaps cells → AreGaps gaps new
all_kept gaps cells new k h = record {
  right = λ i j l m. k j (h.right i j l m);
  left = λ i j l m. k j (h.left i j l m);
}

pub still_shut : (gaps : List Gap) (i : ℕ) (was now : Bool) → now ≡ true → Regaps gaps gaps i was now
still_shut gaps i was now e cells x l w n h = all_kept gaps cells (slice_set cells i x) (λ j. kept_shut cells i x j (n ∙ e) l) h

pub still_open : (gaps : List Gap) (i : ℕ) (was now : Bool) → was ≡ false → Regaps gaps gaps i was now
still_open gaps i was now e cells x l w n h = all_kept gaps cells (slice_set cells i x) (λ j. kept_open cells i x j (w ∙ e)) h

pub now_shut : (old new : List Gap) (i : ℕ) (was now : Bool) → now ≡ true → ShutsGap old new i → Regaps old new i was now
now_shut old new i was now e s cells x l w n h =
    s (slice_set cells i x) (ap shut_or_past (get-set_same cells i x l) ∙ (n ∙ e)) (all_kept old cells (slice_set cells i x) (λ j. kept_shut cells i x j (n ∙ e) l) h)

-- the last one goes
front_shut : (front : List Cell) (last : Cell) (j : ℕ) → IsShutAt (front ++ last ∷ []) j → IsShutAt front j
front_shut [] last j h = refl
front_shut (x ∷ front) last zero h = h
front_shut (x ∷ front) last (suc j) h = front_shut front last j h

pub popped_gaps : (gaps : List Gap) (cells front : List Cell) (last : Cell) → cells ≡ front ++ last ∷ [] → AreGaps gaps cells → AreGaps gaps front
popped_gaps gaps cells front last e h = all_kept gaps cells front (λ j s. front_shut front last j (subst (λ (x : List Cell). IsShutAt x j) e s)) h

-- the next one
pub next_after : (gaps : List Gap) (cells : List Cell) (i n : ℕ) → AreGaps gaps cells → i < n → n ≤ (i + 1) + right_of_gap_at gaps i → IsNextAfter cells i n
next_after gaps cells i n h l m = record { further = l; shut = λ j a b. h.right i j a (omega (arith, m, b)) }
