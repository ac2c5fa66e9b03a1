-- What is above a node of a branch sees nothing of the nodes below it, and the records that leave them.
use Rattle.std.proofs.Common.{◌≡◌, ℕ, suc, ◌+◌, ◌≤◌, ◌==◌, Bool, true, false, cond, List, [], ◌∷◌, ◌++◌, map, length, Some, refl, sym, ap}
use Rattle.std.proofs.Common.{◌∙◌, arith}
use Rattle.std.specs.Prelude.{◌&&◌}
use Rattle.au_term.specs.Term.{Term}
use Rattle.au_model.specs.Terms.Each.{Each}
use Rattle.run_model.specs.Machine.Items.{Item, GoalItem, CatchMark, CollectMark, RemovalItem}
use Rattle.tree_model.specs.Credits.{Credit as TreeCredit}
use Rattle.tree_model.specs.Nodes.{Kind, Status, Pending, Inner, Closed}
use Rattle.tree_model.specs.Levels.{Level}
use Rattle.tree_model.specs.Orders.{credits_left, levels_below}
use Rattle.tree_model.specs.Pruning.{is_findall, remaining_records, left_after}
use Rattle.tree_model.specs.Credits.{without_records}
use Rattle.tree_model.specs.PendingLists.{Way, way_of, findall_on, list_left, level_front, front_of, back_of}
use Rattle.tree_model.specs.SoundTrees.{one_if, count_among, IsOpen}
use Rattle.tree_model.specs.CaughtTrees.{is_side}
use Rattle.tree_model.specs.Elements.{Name, Record, Element, Credit, Plain, EndOf, Catch, Findall, End}
use Rattle.tree_model.proofs.CountLemmas.{count_left, count_around}
use Rattle.interleaving.specs.Quiet.{records}
use Rattle.interleaving.specs.Roots.{rooted}
use Rattle.interleaving.specs.Views.{IsBlind, IsUnder, IsItemApart, IsRecordApart}
use Rattle.interleaving.specs.Segments.{outer}
use Rattle.interleaving.specs.Laws.{is_inner_record}
use Rattle.interleaving.proofs.ContextLemmas.{IsAround}
use Rattle.interleaving.proofs.WayLemmas.{cond-true}
use Rattle.interleaving.proofs.AppendLemmas.{append-assoc, append-nil}
use Rattle.interleaving.proofs.AloneLemmas.{outer-append}
use Rattle.interleaving.proofs.BlindLemmas.{of_node, front_blind, back_blind}
use Rattle.interleaving.proofs.ClockLemmas.{AreShut, AreClear}
use Rattle.interleaving.proofs.FoldLemmas.{LeftSides, HaveNoSideRecords, side_name, named_by, named-append, records-append, closed_records}
use Rattle.interleaving.proofs.ListEndLemmas.{levels_down}
use Rattle.interleaving.proofs.BallLevelLemmas.{ball_credit, clear_step, FirstShut}
use Rattle.interleaving.proofs.LowerListLemmas.{lower_front, count_lower}
use Rattle.au_term.proofs.LogicLemmas.{false_true, number_same}

-- names of nodes among some, from those of each
module _ (ok : ℕ → Bool) where
  apart_all : (s : Name) → ((m : ℕ) → ok m ≡ true → of_node m s ≡ false) → rooted ok s ≡ false
  apart_all [] f = refl
  apart_all (i ∷ []) f = go (ok i) refl
    where
      go : (b : Bool) → ok i ≡ b → b ≡ false
      go false e = refl
      go true e = false_true (sym (f i e) ∙ number_same i)
  apart_all (i ∷ j ∷ s) f = apart_all (j ∷ s) f

  items_all : (is : List (Item Name)) → ((m : ℕ) → ok m ≡ true → Each (IsItemApart (of_node m)) is) → Each (IsItemApart (rooted ok)) is
  items_all [] f = tt
  items_all (GoalItem t s ∷ is) f = (apart_all s (λ m o. (f m o).0), items_all is (λ m o. (f m o).1))
  items_all (CatchMark s ∷ is) f = (apart_all s (λ m o. (f m o).0), items_all is (λ m o. (f m o).1))
  items_all (CollectMark t s ∷ is) f = (apart_all s (λ m o. (f m o).0), items_all is (λ m o. (f m o).1))
  items_all (RemovalItem n ∷ is) f = (tt, items_all is (λ m o. (f m o).1))

  rows_all : (rs : List Record) → ((m : ℕ) → ok m ≡ true → Each (IsRecordApart (of_node m)) rs) → Each (IsRecordApart (rooted ok)) rs
  rows_all [] f = tt
  rows_all (r ∷ rs) f = (apart_all r.0 (λ m o. (f m o).0), rows_all rs (λ m o. (f m o).1))

  one_all : (x : Element) → ((m : ℕ) → ok m ≡ true → IsBlind (of_node m) x) → IsBlind (rooted ok) x
  one_all (Credit k rs) f = rows_all rs f
  one_all (Plain p g) f = (λ more. apart_all (more ++ p) (λ m o. (f m o).0 more), items_all g.items (λ m o. (f m o).1))
  one_all (EndOf s) f = tt
  one_all (Catch s u c r p g) f = (
    apart_all s (λ m o. (f m o).0),
    apart_all u (λ m o. (f m o).1),
    λ more. apart_all (more ++ p) (λ m o. (f m o).2 more),
    items_all
        g.items (λ m o. (f m o).3),
  )
  one_all (Findall s u results l p g) f = (
    apart_all s (λ m o. (f m o).0),
    apart_all u (λ m o. (f m o).1),
    λ more. apart_all (more ++ p) (λ m o. (f m o).2 more),
    items_all
        g.items (λ m o. (f m o).3),
  )
  one_all (End p b) f = λ more. apart_all (more ++ p) (λ m o. f m o more)

  pub blind_all : (xs : List Element) → ((m : ℕ) → ok m ≡ true → Each (IsBlind (of_node m)) xs) → Each (IsBlind (rooted ok)) xs
  blind_all [] f = tt
  blind_all (x ∷ xs) f = (one_all x (λ m o. (f m o).0), blind_all xs (λ m o. (f m o).1))

-- what sees nothing inside is under it
pub blind_is_under : (inside : Name → Bool) (xs : List Element) → Each (IsBlind inside) xs → Each (IsUnder inside) xs
blind_is_under inside [] h = tt
blind_is_under inside (Credit k rs ∷ xs) h = (tt, blind_is_under inside xs h.1)
blind_is_under inside (Plain p f ∷ xs) h = (tt, blind_is_under inside xs h.1)
blind_is_under inside (EndOf s ∷ xs) h = (tt, blind_is_under inside xs h.1)
blind_is_under inside (Catch s u c r p f ∷ xs) h = (tt, blind_is_under inside xs h.1)
blind_is_under inside (Findall s u results l p f ∷ xs) h = (h.0.0, blind_is_under inside xs h.1)
blind_is_under inside (End p b ∷ xs) h = (tt, blind_is_under inside xs h.1)

-- the numbers of no node above
abbrev pub is_free_of : List Level → ℕ → Bool
is_free_of up m = count_around m up == 0

pub free_zero : (up : List Level) (m : ℕ) → is_free_of up m ≡ true → count_around m up ≡ 0
free_zero up m h = grind arith

pub zero_free : (up : List Level) (m : ℕ) → count_around m up ≡ 0 → is_free_of up m ≡ true
zero_free up m h = ap (λ n. n == 0) h

pub upper_front : (up : List Level) → IsAround up IsOpen → Each (IsBlind (rooted (is_free_of up))) (front_of up)
upper_front up a = blind_all (is_free_of up) (front_of up) (λ m o. front_blind m up (free_zero up m o) a)

pub upper_back : (up : List Level) → IsAround up IsOpen → Each (IsBlind (rooted (is_free_of up))) (back_of up)
upper_back up a = blind_all (is_free_of up) (back_of up) (λ m o. back_blind m up (free_zero up m o) a)

-- the findall of what is above is named by a node there
pub upper_findall : (up : List Level) → rooted (is_free_of up) (findall_on (way_of up)) ≡ false
upper_findall up = named up (λ m. refl)
  where
    named : (part : List Level) → ((m : ℕ) → count_around m part ≡ count_around m part)
        → rooted (is_free_of up) (findall_on (way_of up)) ≡ false
    named part f = go up (λ m l. l)
      where
        here : (m : ℕ) → 1 ≤ count_around m up → (count_around m up == 0) ≡ false
        here m l = at (count_around m up == 0) refl
          where
            at : (b : Bool) → (count_around m up == 0) ≡ b → b ≡ false
            at false e = refl
            at true e = let zero_there : count_around m up ≡ 0 = grind arith in let no_way : ⊥ = omega (arith, zero_there, l) in absurd
                no_way

        go : (levels : List Level) → ((m : ℕ) → 1 ≤ count_around m levels → 1 ≤ count_around m up)
            → rooted (is_free_of up) (findall_on (way_of levels)) ≡ false
        go [] k = refl
        go (v ∷ rest) k = pick (is_findall v.kind) (length v.left == 0) (go rest (λ m l. k m (omega (arith, l))))
          where
            mine : 1 ≤ count_around v.number up
            mine = k v.number (let z : one_if (v.number == v.number) ≡ 1 = ap one_if (number_same v.number) in omega (arith, z))

            pick : (b c : Bool) → rooted (is_free_of up) (findall_on (way_of rest)) ≡ false
                → rooted (is_free_of up) (cond b (cond c (0 ∷ v.number ∷ []) (findall_on (way_of rest))) (findall_on (way_of rest)))
                ≡ false
            pick false c h = h
            pick true false h = h
            pick true true h = here v.number mine

-- the records of closed alternatives to the left
left_rows : (way : Way) (n : ℕ) (kind : Kind) (left : List (ℕ × Status)) → LeftSides kind left → AreShut left
    → records (list_left way n kind left) ≡ named_by way (credits_left left).records
left_rows way n kind [] s k = refl
left_rows way n kind ((sp, Pending hold e) ∷ left) s k = false_true k.0
left_rows way n kind ((sp, Inner node) ∷ left) s k = false_true k.0
left_rows way n kind ((sp, Closed c) ∷ left) s k =
    records-append (list_left way n kind left) _
    ∙ (ap (λ l. l ++ (named_by (record { node = n; index = length left; kind = kind } ∷ way) c.records ++ []))
    (left_rows way n kind left s.1 k.1)
    ∙ (ap (λ l. named_by way (credits_left left).records ++ l) (append-nil _ ∙ closed_records way n (length left) kind c.records s.0)
    ∙ sym (named-append way (credits_left left).records c.records)))

-- records of one name
outer_out : (inside : Name → Bool) (name : Name) → inside name ≡ false → (ts : List Term)
    → outer (is_inner_record inside) (map {B = Record} (λ t. (name, t)) ts) ≡ map {B = Record} (λ t. (name, t)) ts
outer_out inside name h [] = refl
outer_out inside name h (t ∷ ts) = ap
    (λ b. cond b (outer (is_inner_record inside) (map {B = Record} (λ t. (name, t)) ts))
    ((name, t) ∷ outer (is_inner_record inside) (map {B = Record} (λ t. (name, t)) ts))) h
    ∙ ap (λ (l : List Record). (name, t) ∷ l) (outer_out inside name h ts)

outer_in : (inside : Name → Bool) (name : Name) → inside name ≡ true → (ts : List Term)
    → outer (is_inner_record inside) (map {B = Record} (λ t. (name, t)) ts) ≡ []
outer_in inside name h [] = refl
outer_in inside name h (t ∷ ts) = ap
    (λ b. cond b (outer (is_inner_record inside) (map {B = Record} (λ t. (name, t)) ts))
    ((name, t) ∷ outer (is_inner_record inside) (map {B = Record} (λ t. (name, t)) ts))) h ∙ outer_in inside name h ts

abbrev pub NoSideTop : List Level → Type 0
NoSideTop [] = Unit {0}
NoSideTop (v ∷ up) = is_side v.kind (length v.left) ≡ false

remaining_same : (v : Level) (c : TreeCredit) → is_side v.kind (length v.left) ≡ false → (remaining_records v c).records ≡ c.records
remaining_same v c h = go v.left refl (is_findall v.kind) refl
  where
    go : (left : List (ℕ × Status)) → v.left ≡ left → (b : Bool) → is_findall v.kind ≡ b
        → (elim left as (λ l. TreeCredit) [ [] ↦ cond b (without_records c) c | a ∷ rest ↦ c ]).records ≡ c.records
    go [] q false e = refl
    go (a ∷ rest) q b e = refl
    go [] q true e = false_true (sym h ∙ (ap (λ b. b && (length v.left == 0)) e ∙ ap (λ l. true && (length l == 0)) q))

remaining_gone : (v : Level) (c : TreeCredit) → is_side v.kind (length v.left) ≡ true
    → ((remaining_records v c).records ≡ []) × (is_findall v.kind ≡ true) × ((length v.left == 0) ≡ true)
remaining_gone v c h = go v.left refl (is_findall v.kind) refl
  where
    second : (x y : Bool) → (x && y) ≡ true → y ≡ true
    second true y z = z
    second false y z = false_true z

    not_first : (n : ℕ) → (suc n == 0) ≡ true → ⊥
    not_first n z = grind arith

    go : (left : List (ℕ × Status)) → v.left ≡ left → (b : Bool) → is_findall v.kind ≡ b
        → ((elim left as (λ l. TreeCredit) [ [] ↦ cond b (without_records c) c | a ∷ rest ↦ c ]).records ≡ [])
        × (is_findall v.kind ≡ true) × ((length v.left == 0) ≡ true)
    go [] q true e = (refl, e, ap (λ l. length l == 0) q)
    go [] q false e = false_true (sym (ap (λ b. b && (length v.left == 0)) e) ∙ h)
    go (a ∷ rest) q b e = absurd (not_first (length rest)
        (sym (ap (λ l. length l == 0) q) ∙ second (is_findall v.kind) (length v.left == 0) h))

-- the records that leave the levels below a node
module _ (inside : Name → Bool) where
  abbrev out : List Record → List Record
  out rs = outer (is_inner_record inside) rs

  pub ball_credit_rows : (s : ℕ) (levels : List Level) (c : TreeCredit) → AreClear (levels_below (Some s) levels) → HaveNoSideRecords levels
      → FirstShut (levels_down levels s) → NoSideTop (levels_down levels s) → inside (findall_on (way_of (levels_down levels s)))
      ≡ false
      → ((m : ℕ) → 1 ≤ count_lower m s levels → inside (0 ∷ m ∷ []) ≡ true)
      → outer (is_inner_record inside) (records (lower_front s levels) ++ named_by (way_of levels) c.records)
      ≡ named_by (way_of (levels_down levels s)) (ball_credit s levels c).records
  ball_credit_rows s [] c k d f n o i = outer_out inside [] o c.records
  ball_credit_rows s (v ∷ up) c k d f n o i = go (v.number == s) refl f n o i
      (λ a b e g h. ball_credit_rows s up (left_after v c) a d.1 b e g h)
    where
      go : (b : Bool) → (v.number == s) ≡ b → FirstShut (cond b (v ∷ up) (levels_down up s))
          → NoSideTop (cond b (v ∷ up) (levels_down up s)) → inside (findall_on (way_of (cond b (v ∷ up) (levels_down up s)))) ≡ false
          → ((m : ℕ) → 1 ≤ cond b 0 (count_lower m s up + (one_if (v.number == m) + (count_left m v.left + count_among m v.right)))
          → inside (0 ∷ m ∷ []) ≡ true)
          → (AreClear (levels_below (Some s) up) → FirstShut (levels_down up s) → NoSideTop (levels_down up s)
          → inside (findall_on (way_of (levels_down up s))) ≡ false
          → ((m : ℕ) → 1 ≤ count_lower m s up → inside (0 ∷ m ∷ []) ≡ true)
          → outer (is_inner_record inside) (records (lower_front s up) ++ named_by (way_of up) (left_after v c).records)
          ≡ named_by (way_of (levels_down up s)) (ball_credit s up (left_after v c)).records)
          → outer (is_inner_record inside)
          (records (cond b [] (lower_front s up ++ level_front up v)) ++ named_by (way_of (v ∷ up)) c.records)
          ≡ named_by (way_of (cond b (v ∷ up) (levels_down up s)))
          (cond b (left_after v c) (ball_credit s up (left_after v c))).records
      go true e z y x j more =
          outer_out inside (findall_on (way_of (v ∷ up))) x c.records
          ∙ ap (named_by (way_of (v ∷ up)))
          (sym (ap (λ l. (credits_left l).records ++ ([] ++ (remaining_records v c).records)) z ∙ remaining_same v c y))
      go false e z y x j more =
          let shut = clear_step s v up e k in
          let rows = left_rows (way_of up) v.number v.kind v.left d.0 shut.0 in
          let lower = records (lower_front s up) in
          let left = named_by (way_of up) (credits_left v.left).records in
          let mine = named_by (way_of (v ∷ up)) c.records in
          let joined : records (lower_front s up ++ level_front up v) ≡ lower ++ left = records-append (lower_front s up)
          (level_front up v) ∙ ap (λ l. lower ++ l) rows in
          let own : inside (0 ∷ v.number ∷ [])
          ≡ true = j v.number (let q : one_if (v.number == v.number) ≡ 1 = ap one_if (number_same v.number) in omega (arith, q)) in
          let all : (left_after v c).records ≡ (credits_left v.left).records ++ (remaining_records v c).records = refl in
          let split : lower ++ named_by (way_of up) (left_after v c).records
          ≡ lower ++ (left ++ named_by (way_of up) (remaining_records v c).records) = ap (λ l. lower ++ l)
          (named-append (way_of up) (credits_left v.left).records (remaining_records v c).records) in
          ap (λ l. out (l ++ mine)) joined
          ∙ (ap out (append-assoc lower left mine)
          ∙ (remaining_part lower left own
          ∙ (ap out (sym split) ∙ more shut.1 z y x (λ m l. j m (omega (arith, l))))))
        where
          remaining_part : (lower left : List Record) → inside (0 ∷ v.number ∷ []) ≡ true
              → out (lower ++ (left ++ named_by (way_of (v ∷ up)) c.records))
              ≡ out (lower ++ (left ++ named_by (way_of up) (remaining_records v c).records))
          remaining_part lower left own =
              outer-append (is_inner_record inside) lower (left ++ named_by (way_of (v ∷ up)) c.records)
              ∙ (ap (λ l. out lower ++ l) (outer-append (is_inner_record inside) left (named_by (way_of (v ∷ up)) c.records)
              ∙ (ap (λ l. out left ++ l) (side (is_side v.kind (length v.left)) refl)
              ∙ sym (outer-append (is_inner_record inside) left (named_by (way_of up) (remaining_records v c).records))))
              ∙ sym (outer-append (is_inner_record inside) lower (left ++ named_by (way_of up) (remaining_records v c).records)))
            where
              side : (b : Bool) → is_side v.kind (length v.left) ≡ b → out (named_by (way_of (v ∷ up)) c.records)
                  ≡ out (named_by (way_of up) (remaining_records v c).records)
              side false q = ap (λ (name : Name). out (map {B = Record} (λ t. (name, t)) c.records))
                  (side_name (way_of up) v.number (length v.left) v.kind q)
                  ∙ ap (λ ts. out (named_by (way_of up) ts)) (sym (remaining_same v c q))
              side true q =
                  let g = remaining_gone v c q in
                  let name : findall_on (way_of (v ∷ up)) ≡ 0 ∷ v.number ∷ [] = cond-true (is_findall v.kind) _ _ g.1
                  ∙ cond-true (length v.left == 0) _ _ g.2 in
                  ap (λ (x : Name). out (map {B = Record} (λ t. (x, t)) c.records)) name
                  ∙ (outer_in inside (0 ∷ v.number ∷ []) own c.records ∙ ap (λ ts. out (named_by (way_of up) ts)) (sym g.0))
