-- Scopes of a branch in the list to the right of an alternative.
use Rattle.std.proofs.Common.{◌≡◌, ◌⊎◌, inl, inr, ℕ, zero, suc, ◌≤◌, ◌==◌, Bool, true, false, List, [], ◌∷◌, ◌++◌, length, None, refl}
use Rattle.std.proofs.Common.{sym, ap, ◌∙◌, arith}
use Rattle.run_model.specs.Machine.Entries.{Entry}
use Rattle.tree_model.specs.Elements.{Name, same, Element, EndOf, End}
use Rattle.interleaving.specs.Erased.{from}
use Rattle.tree_model.specs.Nodes.{Kind, ChoiceNode, CatchNode, FindallNode, QueryNode, Ready, TakenBy, Waiting, Dormant, Node, Numbered}
use Rattle.tree_model.specs.Nodes.{Alternatives, none, alternative, Status, Pending, Inner, Closed}
use Rattle.tree_model.specs.Levels.{Level}
use Rattle.tree_model.specs.PendingLists.{Step, Way, way_of, list_in, list_among, list_below, back_of}
use Rattle.tree_model.specs.Ways.{is_on}
use Rattle.tree_model.specs.SoundTrees.{count_in, count_among, count_below, guards, IsOpen, IsDormant, profile, profiles, is_shape}
use Rattle.tree_model.proofs.CountLemmas.{count_around}
use Rattle.interleaving.proofs.WayLemmas.{off_way, one_if-zero}
use Rattle.interleaving.proofs.AppendLemmas.{append-assoc}
use Rattle.interleaving.proofs.NamingLemmas.{from_end}
use Rattle.interleaving.proofs.ApartLemmas.{same-true}
use Rattle.interleaving.proofs.NamingLemmas.{same-itself}
use Rattle.interleaving.proofs.ContextLemmas.{put_profiles}
use Rattle.interleaving.proofs.ClosingSoundLemmas.{IsFree}
use Rattle.interleaving.proofs.GrowingLemmas.{none_dormant-of, no_three}
use Rattle.interleaving.proofs.NamedFloorLemmas.{from-element, right_named}
use Rattle.interleaving.proofs.PublishedBareLemmas.{right_of}
use Rattle.au_term.proofs.LogicLemmas.{true_false, number_same}

pub last_number : (k r j m : ℕ) → k ∷ r ∷ [] ≡ j ∷ m ∷ [] → r ≡ m
last_number k r j m e = cc

pub first_number : (k r j m : ℕ) → k ∷ r ∷ [] ≡ j ∷ m ∷ [] → k ≡ j
first_number k r j m e = cc

-- past alternatives that hold no such node
mutual
  skip_in : (way : Way) (node : Node) (xs : List Element) (k r : ℕ) → count_in r node ≡ 0 → from (list_in way node ++ xs) (k ∷ r ∷ [])
      ≡ from xs (k ∷ r ∷ [])
  skip_in way (Numbered m kind alternatives) xs k r c =
      skip_among way m kind 0 alternatives xs k r (λ e. clash_number (one_if-zero (m == r) (omega (arith, c))) e) (omega (arith, c))
    where
      clash_number : (m == r) ≡ false → r ≡ m → ⊥
      clash_number h e = true_false (sym (number_same m) ∙ (ap (λ z. m == z) (sym e) ∙ h))

  pub skip_among : (way : Way) (m : ℕ) (kind : Kind) (j : ℕ) (alternatives : Alternatives) (xs : List Element) (k r : ℕ) → (r ≡ m → ⊥)
      → count_among r alternatives ≡ 0 → from (list_among way m kind j alternatives ++ xs) (k ∷ r ∷ []) ≡ from xs (k ∷ r ∷ [])
  skip_among way m kind j none xs k r h c = refl
  skip_among way m kind j (alternative spent status others) xs k r h c =
      let rest = list_among way m kind (suc j) others in
      let here = list_below (record { node = m; index = j; kind = kind } ∷ way) spent status in
      ap (λ l. from l (k ∷ r ∷ [])) (append-assoc here (EndOf (j ∷ m ∷ []) ∷ rest) xs)
      ∙ (skip_below (record { node = m; index = j; kind = kind }) way spent status (EndOf (j ∷ m ∷ []) ∷ (rest ++ xs)) k r
      (omega (arith, c))
      ∙ (from_end (j ∷ m ∷ []) (k ∷ r ∷ []) (rest ++ xs) (λ e. h (last_number k r j m e)) ∙ skip_among way m kind (suc j) others xs k r
      h (omega (arith, c))))

  skip_below : (a : Step) (w : Way) (spent : ℕ) (status : Status) (xs : List Element) (k r : ℕ) → count_below r status ≡ 0
      → from (list_below (a ∷ w) spent status ++ xs) (k ∷ r ∷ []) ≡ from xs (k ∷ r ∷ [])
  skip_below a w spent (Pending Dormant e) xs k r c = from-element a.node a.index (a ∷ w) e xs (k ∷ r ∷ [])
  skip_below a w spent (Pending Ready e) xs k r c = from-element a.node a.index (a ∷ w) e xs (k ∷ r ∷ [])
  skip_below a w spent (Pending (TakenBy v) e) xs k r c = from-element a.node a.index (a ∷ w) e xs (k ∷ r ∷ [])
  skip_below a w spent (Pending (Waiting g) e) xs k r c = from-element a.node a.index (a ∷ w) e xs (k ∷ r ∷ [])
  skip_below a w spent (Inner node) xs k r c = skip_in (a ∷ w) node xs k r c
  skip_below a w spent (Closed credit) xs k r c = refl

-- numbers on a branch
pub on_counts : (levels : List Level) (r : ℕ) → is_on (way_of levels) r ≡ true → 1 ≤ count_around r levels
on_counts levels r h = go (count_around r levels) refl
  where
    go : (c : ℕ) → count_around r levels ≡ c → 1 ≤ count_around r levels
    go zero e = absurd (true_false (sym h ∙ off_way r levels e))
    go (suc c) e = omega (arith, e)

pub not_beside : (next : ℕ) (v : Level) (up : List Level) → IsFree next (v ∷ up) → (r : ℕ) → is_on (way_of up) r ≡ true
    → count_among r v.right ≡ 0
not_beside next v up f r h = omega (arith, f.distinct r, on_counts up r h)

pub not_own : (v : Level) (up : List Level) (r : ℕ) → is_on (way_of up) v.number ≡ false → is_on (way_of up) r ≡ true → r ≡ v.number → ⊥
not_own v up r p h e = true_false (sym h ∙ (ap (is_on (way_of up)) e ∙ p))

-- past the right of a level
pub skip_right : (next : ℕ) (v : Level) (up : List Level) → IsFree next (v ∷ up) → is_on (way_of up) v.number ≡ false → (k r : ℕ)
    → is_on (way_of up) r ≡ true → from (right_of (v ∷ up)) (k ∷ r ∷ []) ≡ from (back_of up) (k ∷ r ∷ [])
skip_right next v up f p k r h = skip_among (way_of up) v.number v.kind (suc (length v.left)) v.right (back_of up) k r
    (not_own v up r p h) (not_beside next v up f r h)

-- what sleeps is the last alternative
pub last_dormant : (kind : Kind) (left : List (ℕ × Status)) (k : Kind) (others : Alternatives)
    → is_shape kind (put_profiles left (IsOpen ∷ IsDormant k ∷ profiles others)) ≡ true → others ≡ none
last_dormant kind left k none h = refl
last_dormant ChoiceNode left k (alternative spent status others) h = absurd
    (true_false (sym (none_dormant-of left (IsOpen ∷ IsDormant k ∷ profile status ∷ profiles others) h)))
last_dormant CatchNode left k (alternative spent status others) h = absurd
    (no_three CatchNode left IsOpen (IsDormant k) (profile status) (profiles others) h)
last_dormant FindallNode left k (alternative spent status others) h = absurd
    (no_three FindallNode left IsOpen (IsDormant k) (profile status) (profiles others) h)
last_dormant QueryNode left k (alternative spent status others) h = absurd
    (no_three QueryNode left IsOpen (IsDormant k) (profile status) (profiles others) h)

-- either one entry sleeps to the right, or none does
pub record Asleep (right : Alternatives) : Type 0 where
  pub spent : ℕ
  pub entry : Entry
  pub same : right ≡ alternative spent (Pending Dormant entry) none

abbrev pub Awake : ℕ → ℕ → Way → Alternatives → Type 0
Awake n i way right = right_named n i way right ≡ End [] None ∷ []

pub sleeping : (n i : ℕ) (way : Way) (kind : Kind) (left : List (ℕ × Status)) (right : Alternatives)
    → is_shape kind (put_profiles left (IsOpen ∷ profiles right)) ≡ true → Asleep right ⊎ Awake n i way right
sleeping n i way kind left none h = inr refl
sleeping n i way kind left (alternative spent (Inner node) others) h = inr refl
sleeping n i way kind left (alternative spent (Closed c) others) h = inr refl
sleeping n i way kind left (alternative spent (Pending Ready e) others) h = inr refl
sleeping n i way kind left (alternative spent (Pending (TakenBy w) e) others) h = inr refl
sleeping n i way kind left (alternative spent (Pending (Waiting g) e) others) h = inr refl
sleeping n i way kind left (alternative spent (Pending Dormant e) others) h = inl
    (record {
      spent = spent;
      entry = e;
      same = ap (λ o. alternative spent (Pending Dormant e) o)
          (last_dormant kind left (guards e) others h);
    })

-- names are the same or not
pub decide : (s e : Name) → (s ≡ e) ⊎ (s ≡ e → ⊥)
decide s e = go (same s e) refl
  where
    go : (b : Bool) → same s e ≡ b → (s ≡ e) ⊎ (s ≡ e → ⊥)
    go true h = inl (same-true s e h)
    go false h = inr (λ k. true_false (sym (same-itself s) ∙ (ap (same s) k ∙ h)))
