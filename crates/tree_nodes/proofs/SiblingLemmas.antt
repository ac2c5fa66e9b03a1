-- Alternatives beside each other, where one is changed.
use Rattle.std.proofs.Common.{◌≡◌, ℕ, zero, suc, ◌+◌, ◌-◌, ◌<◌, ◌≤◌, ◌==◌, Bool, true, false, List, [], ◌∷◌, ◌++◌, length, take, drop, Some}
use Rattle.std.proofs.Common.{refl, sym, ap, ◌∙◌, arith, subst, cond, map, get_or}
use Rattle.std.proofs.lemmas.Bool.Decides.{nat_tests}
use Rattle.std.proofs.lemmas.List.{take-set-le, take-append-le, map-append, map-set, length-map, length-set, take_more}
use Rattle.std.proofs.lemmas.Option.{slice_get-map, slice_get_read}
use Rattle.std.specs.Option.{option_map}
use Rattle.std.specs.Prelude.{slice_get, slice_set, ◌&&◌}
use Rattle.tree_model.specs.Credits.{counted}
use Rattle.tree_nodes.specs.declared.siblings.Passed.{Passed}
use Rattle.tree_nodes.specs.declared.siblings.Alternative.{Alternative}
use Rattle.tree_nodes.specs.Rows.{AlternativeCell, cell_view}
use Rattle.tree_nodes.specs.Gathering.{is_shut, are_shut, shut_beside}
use Rattle.tree_nodes.specs.Siblings.{closed_counts, counts_from, one_open, open_count, ArePassed, AreCounted, CountsAs, alternative_view}

abbrev Cell : Type 0
Cell = ℕ × AlternativeCell

pub open_count-append : (xs ys : List Cell) → open_count (xs ++ ys) ≡ open_count xs + open_count ys
open_count-append [] ys = omega arith
open_count-append (x ∷ xs) ys = let h = open_count-append xs ys in omega (arith, h)

pub open_count-le : (cells : List Cell) → open_count cells ≤ length cells
open_count-le [] = omega arith
open_count-le (x ∷ xs) =
    let h = open_count-le xs in
    let one : one_open x.1 ≤ 1 = one_le (is_shut x.1) in
    omega (arith, h, one)
  where
    one_le : (b : Bool) → cond b 0 1 ≤ 1
    one_le true = omega arith
    one_le false = omega arith

-- one is put in place of another
pub open_count-set : (cells : List Cell) (i : ℕ) (was now : Cell) → slice_get cells i ≡ Some was
    → open_count (slice_set cells i now) + one_open was.1 ≡ open_count cells + one_open now.1
open_count-set [] i was now e = absurd (cc e)
open_count-set (x ∷ cells) zero was now e =
    let same : x ≡ was = (cc e) in
    let one : one_open x.1 ≡ one_open was.1 = ap (λ (c : Cell). one_open c.1) same in
    omega (arith, one)
open_count-set (x ∷ cells) (suc i) was now e = let h = open_count-set cells i was now e in omega (arith, h)

are_shut-open : (cells : List Cell) → are_shut cells ≡ (open_count cells == 0)
are_shut-open [] = refl
are_shut-open (x ∷ cells) = by_test (is_shut x.1) (are_shut-open cells)
  where
    by_test : (b : Bool) → are_shut cells ≡ (open_count cells == 0) → (b && are_shut cells) ≡ (cond b 0 1 + open_count cells == 0)
    by_test true h = h ∙ ap (λ (n : ℕ). n == 0) (let e : open_count cells ≡ 0 + open_count cells = omega arith in e)
    by_test false h = grind (arith, nat_tests)

and_none : (x y b : ℕ) → ((x == 0) && (b == 0)) ≡ ((x + (y + b)) == y)
and_none x y b = grind (arith, nat_tests)

pub shut_beside-open : (cells : List Cell) (i : ℕ) (c : Cell) → slice_get cells i ≡ Some c → shut_beside i cells ≡ (open_count cells == one_open c.1)
shut_beside-open cells i c e =
    ap (λ (b : Bool). b && are_shut (drop (suc i) cells)) (are_shut-open (take i cells))
    ∙ (ap (λ (b : Bool). (open_count (take i cells) == 0) && b) (are_shut-open (drop (suc i) cells))
    ∙ (and_none (open_count (take i cells)) (one_open c.1) (open_count (drop (suc i) cells))
    ∙ ap (λ (n : ℕ). n == one_open c.1) (sym (split cells i e))))
  where
    split : (cells : List Cell) (i : ℕ) → slice_get cells i ≡ Some c
        → open_count cells ≡ open_count (take i cells) + (one_open c.1 + open_count (drop (suc i) cells))
    split [] i e = absurd (cc e)
    split (x ∷ cells) zero e =
        let same : x ≡ c = (cc e) in
        let one : one_open x.1 ≡ one_open c.1 = ap (λ (c : Cell). one_open c.1) same in
        omega (arith, one)
    split (x ∷ cells) (suc i) e = let h = split cells i e in omega (arith, h)

pub open_count-at : (cells : List Cell) (i : ℕ) (c : Cell) → slice_get cells i ≡ Some c → one_open c.1 ≤ open_count cells
open_count-at [] i c e = absurd (cc e)
open_count-at (x ∷ cells) zero c e =
    let same : x ≡ c = (cc e) in
    let one : one_open x.1 ≡ one_open c.1 = ap (λ (c : Cell). one_open c.1) same in
    omega (arith, one)
open_count-at (x ∷ cells) (suc i) c e = let h = open_count-at cells i c e in omega (arith, h)

pub none_passed : (cells : List Cell) → ArePassed cells (record { many = 0; answers = 0; inferences = 0 })
none_passed cells = record { many = omega arith; shut = refl; counts = refl }

-- what is passed stays so where another is changed, or taken off
pub passed-set : (cells : List Cell) (p : Passed) (i : ℕ) (now : Cell) → p.many ≤ i → length (slice_set cells i now) ≡ length cells
    → ArePassed cells p → ArePassed (slice_set cells i now) p
passed-set cells p i now l len h =
    let same : take p.many (slice_set cells i now) ≡ take p.many cells = take-set-le p.many cells i now l in
    let many = h.many in
    record {
      many = omega (arith, many, len);
      shut = ap are_shut same ∙ h.shut;
      counts = ap (counts_from (0, 0)) same ∙ h.counts;
    }

-- one that counts as the one before it
module _ (was now : Cell) (k : CountsAs was.1 now.1) where
  shut-as : (cells : List Cell) (m i : ℕ) → slice_get cells i ≡ Some was → are_shut (take m (slice_set cells i now)) ≡ are_shut (take m cells)
  shut-as [] m i e = absurd (cc e)
  shut-as (x ∷ cells) zero i e = refl
  shut-as (x ∷ cells) (suc m) zero e =
      let same : x ≡ was = (cc e) in
      ap (λ (b : Bool). b && are_shut (take m cells)) (k.now_shut ∙ (sym k.was_shut ∙ ap (λ (c : Cell). is_shut c.1) (sym same)))
  shut-as (x ∷ cells) (suc m) (suc i) e = ap (λ (b : Bool). is_shut x.1 && b) (shut-as cells m i e)

  counts-as : (n : ℕ × ℕ) (cells : List Cell) (m i : ℕ) → slice_get cells i ≡ Some was
      → counts_from n (take m (slice_set cells i now)) ≡ counts_from n (take m cells)
  counts-as n [] m i e = absurd (cc e)
  counts-as n (x ∷ cells) zero i e = refl
  counts-as n (x ∷ cells) (suc m) zero e =
      let same : x ≡ was = (cc e) in
      ap (λ (c : ℕ × ℕ). counts_from (counted n.0 c.0, counted n.1 c.1) (take m cells)) (sym k.counts ∙ ap (λ (c : Cell). closed_counts c.1) (sym same))
  counts-as n (x ∷ cells) (suc m) (suc i) e = counts-as (counted n.0 (closed_counts x.1).0, counted n.1 (closed_counts x.1).1) cells m i e

  pub passed-as : (cells : List Cell) (p : Passed) (i : ℕ) → slice_get cells i ≡ Some was → ArePassed cells p → ArePassed (slice_set cells i now) p
  passed-as cells p i e h =
      let many = h.many in
      let len = length-set cells i now in
      record { many = omega (arith, many, len); shut = shut-as cells p.many i e ∙ h.shut; counts = counts-as (0, 0) cells p.many i e ∙ h.counts }

pub passed-front : (front : List Cell) (last : Cell) (p : Passed) → p.many ≤ length front → ArePassed (front ++ last ∷ []) p → ArePassed front p
passed-front front last p l h =
    let same : take p.many (front ++ last ∷ []) ≡ take p.many front = take-append-le p.many front (last ∷ []) l in
    record {
      many = l;
      shut = ap are_shut (sym same) ∙ h.shut;
      counts = ap (counts_from (0, 0)) (sym same) ∙ h.counts;
    }

pub counts-snoc : (n : ℕ × ℕ) (cells : List Cell) (x : Cell) → counts_from n (cells ++ x ∷ [])
    ≡ (counted (counts_from n cells).0 (closed_counts x.1).0, counted (counts_from n cells).1 (closed_counts x.1).1)
counts-snoc n [] x = refl
counts-snoc n (y ∷ cells) x = counts-snoc (counted n.0 (closed_counts y.1).0, counted n.1 (closed_counts y.1).1) cells x

and_then_true : (b c d : Bool) → (b && c) ≡ true → (c ≡ true → d ≡ true) → (b && d) ≡ true
and_then_true true c d h go = go h
and_then_true false c d h go = absurd (cc h)

shut-snoc : (cells : List Cell) (x : Cell) → are_shut cells ≡ true → is_shut x.1 ≡ true → are_shut (cells ++ x ∷ []) ≡ true
shut-snoc [] x h e = ap (λ (b : Bool). b && true) e
shut-snoc (y ∷ cells) x h e = and_then_true (is_shut y.1) (are_shut cells) (are_shut (cells ++ x ∷ [])) h (λ k. shut-snoc cells x k e)

take-one_more : (cells : List Cell) (i : ℕ) (c : Cell) → slice_get cells i ≡ Some c → take (i + 1) cells ≡ take i cells ++ c ∷ []
take-one_more [] i c e = absurd (cc e)
take-one_more (x ∷ cells) zero c e = let same : x ≡ c = (cc e) in ap (λ (y : Cell). y ∷ []) same
take-one_more (x ∷ cells) (suc i) c e =
    let one : suc i + 1 ≡ suc (i + 1) = omega arith in
    ap (λ (n : ℕ). take n (x ∷ cells)) one ∙ ap (λ (ys : List Cell). x ∷ ys) (take-one_more cells i c e)

-- one more is passed
pub passed-more : (cells : List Cell) (p now : Passed) (c : Cell) → ArePassed cells p → slice_get cells p.many ≡ Some c → p.many < length cells
    → is_shut c.1 ≡ true → now.many ≡ p.many + 1 → now.answers ≡ counted p.answers (closed_counts c.1).0
    → now.inferences ≡ counted p.inferences (closed_counts c.1).1 → ArePassed cells now
passed-more cells p now c h e l shut many answers inferences =
    let front : take now.many cells ≡ take p.many cells ++ c ∷ [] = ap (λ (n : ℕ). take n cells) many ∙ take-one_more cells p.many c e in
    record {
      many = omega (arith, many, l);
      shut = ap are_shut front ∙ shut-snoc (take p.many cells) c h.shut shut;
      counts = ap (counts_from (0, 0)) front ∙ (counts-snoc (0, 0) (take p.many cells) c
          ∙ (ap (λ (n : ℕ × ℕ). (counted n.0 (closed_counts c.1).0, counted n.1 (closed_counts c.1).1)) h.counts
          ∙ (ap (λ (n : ℕ). (n, counted p.inferences (closed_counts c.1).1)) (sym answers) ∙ ap (λ (n : ℕ). (now.answers, n)) (sym inferences))));
    }

pub popped_cells : (items front : List Alternative) (last : Alternative) → items ≡ front ++ last ∷ []
    → map alternative_view items ≡ map alternative_view front ++ alternative_view last ∷ []
popped_cells items front last e = ap (map alternative_view) e ∙ map-append alternative_view front (last ∷ [])

-- alternatives as the code keeps them
module _ (items front : List Alternative) (last : Alternative) (m : ℕ) (p : Passed) (e : items ≡ front ++ last ∷ [])
    (k : AreCounted m p (map alternative_view items)) where
  cells : map alternative_view items ≡ map alternative_view front ++ alternative_view last ∷ []
  cells = popped_cells items front last e

  pub popped_open : m ≡ open_count (map alternative_view front) + one_open (cell_view last.state)
  popped_open =
      let a = ap open_count cells in
      let b = open_count-append (map alternative_view front) (alternative_view last ∷ []) in
      let o = k.open_are in
      omega (arith, a, b, o)

  pub popped_passed : p.many ≤ length front → ArePassed (map alternative_view front) p
  popped_passed l =
      let len = length-map front alternative_view in
      passed-front (map alternative_view front) (alternative_view last) p (omega (arith, l, len)) (subst (λ (x : List Cell). ArePassed x p) cells k.passed)

pub item_at : (items : List Alternative) (i : ℕ) (x : Alternative) → i < length items → x ≡ get_or items i x
    → slice_get (map alternative_view items) i ≡ Some (alternative_view x)
item_at items i x l e = slice_get-map alternative_view items i ∙ ap (option_map alternative_view) (slice_get_read items (length items) i x refl l e)

pub taken_more : (items : List Alternative) (i : ℕ) (x : Alternative) → i < length items → x ≡ get_or items i x
    → map alternative_view (take (i + 1) items) ≡ map alternative_view (take i items) ++ alternative_view x ∷ []
taken_more items i x l e =
    let more : take (i + 1) items ≡ take i items ++ x ∷ [] = take_more items i x l ∙ ap (λ (y : Alternative). take i items ++ y ∷ []) (sym e) in
    ap (map alternative_view) more ∙ map-append alternative_view (take i items) (x ∷ [])

pub open_count-more : (items : List Alternative) (i : ℕ) (x : Alternative) → i < length items → x ≡ get_or items i x
    → open_count (map alternative_view (take (i + 1) items)) ≡ open_count (map alternative_view (take i items)) + one_open (cell_view x.state)
open_count-more items i x l e =
    let a = ap open_count (taken_more items i x l e) in
    let b = open_count-append (map alternative_view (take i items)) (alternative_view x ∷ []) in
    omega (arith, a, b)

module _ (items : List Alternative) (i : ℕ) (was now : Alternative) (m : ℕ) (p : Passed) (l : i < length items) (e : was ≡ get_or items i was)
    (k : AreCounted m p (map alternative_view items)) where
  cells_put : map alternative_view (slice_set items i now) ≡ slice_set (map alternative_view items) i (alternative_view now)
  cells_put = map-set alternative_view items i now

  pub put_below : one_open (cell_view was.state) ≤ m
  put_below =
      let a = open_count-at (map alternative_view items) i (alternative_view was) (item_at items i was l e) in
      let o = k.open_are in
      omega (arith, a, o)

  pub put_open : (m - one_open (cell_view was.state)) + one_open (cell_view now.state) ≡ open_count (map alternative_view (slice_set items i now))
  put_open =
      let a = open_count-set (map alternative_view items) i (alternative_view was) (alternative_view now) (item_at items i was l e) in
      let b = ap open_count cells_put in
      let o = k.open_are in
      let d = put_below in
      omega (arith, a, b, o, d)

  pub put_bound : (m - one_open (cell_view was.state)) + one_open (cell_view now.state) ≤ length items
  put_bound =
      let a = put_open in
      let b = open_count-le (map alternative_view (slice_set items i now)) in
      let c = length-map (slice_set items i now) alternative_view in
      let d = length-set items i now in
      omega (arith, a, b, c, d)
