-- A place names one pending alternative.
use Rattle.std.proofs.Common.{◌≡◌, ℕ, suc, ◌+◌, ◌≤◌, ◌==◌, ◌⊎◌, inl, inr, Bool, true, false, cond, List, [], ◌∷◌, ◌++◌, length, Some}
use Rattle.std.proofs.Common.{refl, sym, ◌∙◌, subst, arith}
use Rattle.std.specs.Prelude.{◌&&◌, find}
use Rattle.au_model.specs.Terms.Each.{Each}
use Rattle.tree_model.specs.Nodes.{Kind, Node, Numbered, Alternatives, none, alternative, Status, Pending, Inner, Closed}
use Rattle.tree_model.specs.Levels.{Level, Place, same_place, Spot, place_of_spot, pending_in, pending_among, pending_below, pending_of}
use Rattle.tree_model.specs.SoundTrees.{one_if, count_in, count_among, count_below, IsSoundTree}
use Rattle.tree_model.specs.TreeStates.{TreeState, leftmost, first_spot, pending_spots}
use Rattle.tree_model.specs.Legality.{is_spot_at, is_taken_by, taken_at}
use Rattle.tree_model.proofs.CountLemmas.{one_if-same}
use Rattle.interleaving.proofs.AppendLemmas.{found, each-append, each-more}
use Rattle.au_term.proofs.LogicLemmas.{and-right, false_true}

-- the place of a spot, by its numbers
abbrev IsAtPlace : ℕ → ℕ → Spot → Type 0
IsAtPlace n i s = (s.level.number ≡ n) × (length s.level.left ≡ i)

-- an alternative of this node from this index on, or of one counted there
abbrev IsLater : ℕ → ℕ → Alternatives → Spot → Type 0
IsLater n i others s = ((s.level.number ≡ n) × (i ≤ length s.level.left)) ⊎ (1 ≤ count_among s.level.number others)

abbrev IsBelow : ℕ → ℕ → Status → Spot → Type 0
IsBelow n i status s = IsAtPlace n i s ⊎ (1 ≤ count_below s.level.number status)

mutual
  spots_in : (up : List Level) (node : Node) → Each (λ s. 1 ≤ count_in s.level.number node) (pending_in up node)
  spots_in up (Numbered n kind alternatives) = each-more (IsLater n 0 alternatives)
      (λ s. 1 ≤ count_in s.level.number (Numbered n kind alternatives)) (λ s h. counts s h) (pending_among up n kind [] alternatives)
      (spots_among up n kind [] alternatives)
    where
      counts : (s : Spot) → IsLater n 0 alternatives s → 1 ≤ one_if (n == s.level.number) + count_among s.level.number alternatives
      counts s (inl h) = let one : one_if (n == s.level.number) ≡ 1 = subst (λ m. one_if (n == m) ≡ 1) (sym h.0) (one_if-same n) in omega
          (arith, one)
      counts s (inr h) = omega (arith, h)

  spots_among : (up : List Level) (n : ℕ) (kind : Kind) (left : List (ℕ × Status)) (others : Alternatives)
      → Each (IsLater n (length left) others) (pending_among up n kind left others)
  spots_among up n kind left none = tt
  spots_among up n kind left (alternative spent status others) =
      let v : Level = record { number = n; kind = kind; left = left; spent = spent; right = others } in
      each-append _ (pending_below v up status) (pending_among up n kind ((spent, status) ∷ left) others)
      (each-more (IsBelow n (length left) status) (IsLater n (length left) (alternative spent status others)) (λ s h. below s h)
      (pending_below v up status) (spots_below v up status))
      (each-more (IsLater n (suc (length left)) others) (IsLater n (length left) (alternative spent status others)) (λ s h. later s h)
      (pending_among up n kind ((spent, status) ∷ left) others) (spots_among up n kind ((spent, status) ∷ left) others))
    where
      below : (s : Spot) → IsBelow n (length left) status s → IsLater n (length left) (alternative spent status others) s
      below s (inl h) = inl (h.0, let same = h.1 in omega (arith, same))
      below s (inr h) = inr (omega (arith, h))

      later : (s : Spot) → IsLater n (suc (length left)) others s → IsLater n (length left) (alternative spent status others) s
      later s (inl h) = inl (h.0, let more = h.1 in omega (arith, more))
      later s (inr h) = inr (omega (arith, h))

  spots_below : (v : Level) (up : List Level) (status : Status) → Each (IsBelow v.number (length v.left) status) (pending_below v up status)
  spots_below v up (Pending hold e) = (inl (refl, refl), tt)
  spots_below v up (Inner node) = each-more _ _ (λ s h. inr h) (pending_in (v ∷ up) node) (spots_in (v ∷ up) node)
  spots_below v up (Closed c) = tt

-- no later spot has the place of the first
abbrev Differs : Spot → Spot → Type 0
Differs a b = (a.level.number ≡ b.level.number) → (length a.level.left ≡ length b.level.left) → ⊥

abbrev pub FirstDiffers : List Spot → Type 0
FirstDiffers [] = Unit {0}
FirstDiffers (s ∷ ss) = Each (Differs s) ss

first-append : (xs ys : List Spot) → FirstDiffers xs → FirstDiffers ys
    → ((s : Spot) (ss : List Spot) → xs ≡ s ∷ ss → Each (Differs s) ys) → FirstDiffers (xs ++ ys)
first-append [] ys h k f = k
first-append (s ∷ ss) ys h k f = each-append (Differs s) ss ys h (f s ss refl)

head_of : (P : Spot → Type 0) (xs : List Spot) (s : Spot) (ss : List Spot) → xs ≡ s ∷ ss → Each P xs → P s
head_of P xs s ss e h = (subst (Each P) e h).0

mutual
  differ_in : (up : List Level) (node : Node) → ((m : ℕ) → count_in m node ≤ 1) → FirstDiffers (pending_in up node)
  differ_in up (Numbered n kind alternatives) d = differ_among up n kind [] alternatives (λ m. d m)

  differ_among : (up : List Level) (n : ℕ) (kind : Kind) (left : List (ℕ × Status)) (others : Alternatives)
      → ((m : ℕ) → one_if (n == m) + count_among m others ≤ 1) → FirstDiffers (pending_among up n kind left others)
  differ_among up n kind left none d = tt
  differ_among up n kind left (alternative spent status others) d =
      let v : Level = record { number = n; kind = kind; left = left; spent = spent; right = others } in
      let behind = spots_among up n kind ((spent, status) ∷ left) others in
      let here = spots_below v up status in
      first-append (pending_below v up status) (pending_among up n kind ((spent, status) ∷ left) others)
      (differ_below v up status (λ m. let z = d m in omega (arith, z)))
      (differ_among up n kind ((spent, status) ∷ left) others (λ m. let z = d m in omega (arith, z)))
      (λ s ss e. each-more (IsLater n (suc (length left)) others) (Differs s)
      (λ b h. apart s b (head_of (IsBelow n (length left) status) (pending_below v up status) s ss e here) h)
      (pending_among up n kind ((spent, status) ∷ left) others) behind)
    where
      apart : (s b : Spot) → IsBelow n (length left) status s → IsLater n (suc (length left)) others b → Differs s b
      apart s b (inl h) (inl k) e f = let i = h.1 in let j = k.1 in omega (arith, i, j, f)
      apart s b (inl h) (inr k) e f = let same : b.level.number ≡ n = sym e ∙ h.0 in let few = d b.level.number in let one : one_if
          (n == b.level.number) ≡ 1 = subst (λ m. one_if (n == m) ≡ 1) (sym same) (one_if-same n) in omega (arith, few, one, k)
      apart s b (inr h) (inl k) e f = let same : s.level.number ≡ n = e ∙ k.0 in let few = d s.level.number in let one : one_if
          (n == s.level.number) ≡ 1 = subst (λ m. one_if (n == m) ≡ 1) (sym same) (one_if-same n) in omega (arith, few, one, h)
      apart s b (inr h) (inr k) e f = let few = d s.level.number in let moved : 1 ≤ count_among s.level.number others = subst
          (λ m. 1 ≤ count_among m others) (sym e) k in omega (arith, few, h, moved)

  differ_below : (v : Level) (up : List Level) (status : Status) → ((m : ℕ) → count_below m status ≤ 1)
      → FirstDiffers (pending_below v up status)
  differ_below v up (Pending hold e) d = tt
  differ_below v up (Inner node) d = differ_in (v ∷ up) node d
  differ_below v up (Closed c) d = tt

pub differ_of : (root : Status) → ((m : ℕ) → count_below m root ≤ 1) → FirstDiffers (pending_of root)
differ_of (Pending hold e) d = tt
differ_of (Inner node) d = differ_in [] node d
differ_of (Closed c) d = tt

same_numbers : (a b : Place) → same_place a b ≡ true → (a.node ≡ b.node) × (a.index ≡ b.index)
same_numbers a b h = go (a.node == b.node) refl (a.index == b.index) refl h
  where
    go : (x : Bool) → (a.node == b.node) ≡ x → (y : Bool) → (a.index == b.index) ≡ y → (x && y) ≡ true
        → (a.node ≡ b.node) × (a.index ≡ b.index)
    go true e true f z = (grind arith, grind arith)
    go true e false f z = false_true z
    go false e y f z = false_true z

-- an alternative that is out, at the place of the leftmost pending one, is that one
pub taken_first : (t : TreeState) (w : ℕ) (a : Place) (s : Spot) → IsSoundTree t → taken_at w a t ≡ Some s → is_spot_at a (leftmost t)
    ≡ true → leftmost t ≡ Some s
taken_first t w a s h f l = go (pending_spots t) refl f l
  where
    go : (spots : List Spot) → pending_spots t ≡ spots → find (λ r. is_taken_by w r.hold && same_place a (place_of_spot r)) spots ≡ Some s
        → is_spot_at a (first_spot spots) ≡ true → first_spot spots ≡ Some s
    go [] p f l = false_true l
    go (r ∷ ss) p f l = pick (is_taken_by w r.hold && same_place a (place_of_spot r)) f
      where
        differs : Each (Differs r) ss
        differs = subst FirstDiffers p (differ_of t.root h.distinct)

        pick : (b : Bool) → cond b (Some r) (find (λ x. is_taken_by w x.hold && same_place a (place_of_spot x)) ss) ≡ Some s → Some r
            ≡ Some s
        pick true z = z
        pick false z =
            let k = found (Differs r) (λ x. is_taken_by w x.hold && same_place a (place_of_spot x)) ss s differs z in
            let here = same_numbers a (place_of_spot r) l in
            let there = same_numbers a (place_of_spot s) (and-right (is_taken_by w s.hold) _ k.passes) in
            absurd (k.holds (sym here.0 ∙ there.0) (sym here.1 ∙ there.1))
