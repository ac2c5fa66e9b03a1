-- Scopes of one height on the floor by names have one height in the list to the right.
use Rattle.std.proofs.Common.{◌≡◌, ◌⊎◌, inl, inr, ℕ, suc, ◌==◌, true, false, List, [], ◌∷◌, ◌++◌, length, refl, sym, ap, ◌∙◌, subst}
use Rattle.std.proofs.Common.{arith}
use Rattle.tree_model.specs.Elements.{Name, Element, EndOf}
use Rattle.interleaving.specs.Erased.{from, element_count, height}
use Rattle.interleaving.specs.Sound.{IsPresent}
use Rattle.interleaving.specs.FloorLaws.{RespectsHeights}
use Rattle.tree_model.specs.Levels.{Level}
use Rattle.tree_model.specs.PendingLists.{way_of, step_of, step_name, list_among, back_of}
use Rattle.tree_model.specs.Ways.{is_on}
use Rattle.tree_model.specs.SoundTrees.{Profile, IsOpen}
use Rattle.interleaving.proofs.WayLemmas.{cond-true, cond-same}
use Rattle.interleaving.proofs.NamingLemmas.{from_end, from_own}
use Rattle.interleaving.proofs.ContextLemmas.{IsAround}
use Rattle.interleaving.proofs.ClosingSoundLemmas.{IsFree, free-above}
use Rattle.interleaving.proofs.OwnInferenceLemmas.{floor-low}
use Rattle.interleaving.proofs.NamedFloorLemmas.{from-element, right_named, below_named, floor_named, count-below, count-right, first_low}
use Rattle.interleaving.proofs.PublishedBareLemmas.{right_of}
use Rattle.interleaving.proofs.SkippedLemmas.{last_number, skip_right, Asleep, Awake, sleeping, decide}
use Rattle.interleaving.proofs.LowEntryLemmas.{nothing}
use Rattle.au_term.proofs.LogicLemmas.{number_same}

-- what the floor's ends are
pub record IsStepName (levels : List Level) (s : Name) : Type 0 where
  pub index : ℕ
  pub node : ℕ
  pub same : s ≡ index ∷ node ∷ []
  pub on : is_on (way_of levels) node ≡ true

wider : (v : Level) (up : List Level) (s : Name) → IsStepName up s → IsStepName (v ∷ up) s
wider v up s h = record {
  index = h.index;
  node = h.node;
  same = h.same;
  on = cond-same (v.number == h.node) true
      (is_on (way_of up) h.node) h.on;
}

own_step : (v : Level) (up : List Level) (k : ℕ) (s : Name) → s ≡ k ∷ v.number ∷ [] → IsStepName (v ∷ up) s
own_step v up k s e = record { index = k; node = v.number; same = e; on = cond-true (v.number == v.number) true _ (number_same v.number) }

-- an end past the first
past : (s e : Name) (xs : List Element) → (s ≡ e → ⊥) → IsPresent (EndOf e ∷ xs) s → IsPresent xs s
past s e xs h p = (p.0, sym (from_end e s xs h) ∙ p.1)

-- an end among what sleeps at a level and the floor above
module _ (v : Level) (up : List Level) where
  abbrev dormant_end : Name
  dormant_end = suc (length v.left) ∷ v.number ∷ []

  right_past : (s : Name) → (s ≡ suc (length v.left) ∷ v.number ∷ [] → ⊥) → (xs : List Element)
      → Asleep v.right ⊎ Awake v.number (suc (length v.left)) (way_of up) v.right
      → from (right_named v.number (suc (length v.left)) (way_of up) v.right ++ xs) s ≡ from xs s
  right_past s h xs (inl a) =
      ap (λ r. from (right_named v.number (suc (length v.left)) (way_of up) r ++ xs) s) a.same
      ∙ (from-element v.number (suc (length v.left)) (way_of up) a.entry (EndOf (suc (length v.left) ∷ v.number ∷ []) ∷ xs) s
      ∙ from_end (suc (length v.left) ∷ v.number ∷ []) s xs h)
  right_past s h xs (inr a) = ap (λ l. from (l ++ xs) s) a

  -- awake: its end isn't there
  right_awake : (s : Name) (xs : List Element) → Awake v.number (suc (length v.left)) (way_of up) v.right
      → from (right_named v.number (suc (length v.left)) (way_of up) v.right ++ xs) s ≡ from xs s
  right_awake s xs a = ap (λ l. from (l ++ xs) s) a

  right_own : (xs : List Element) → Asleep v.right → from (right_named v.number (suc (length v.left)) (way_of up) v.right ++ xs)
      (suc (length v.left) ∷ v.number ∷ []) ≡ EndOf (suc (length v.left) ∷ v.number ∷ []) ∷ xs
  right_own xs a =
      ap (λ r. from (right_named v.number (suc (length v.left)) (way_of up) r ++ xs) (suc (length v.left) ∷ v.number ∷ [])) a.same
      ∙ (from-element v.number (suc (length v.left)) (way_of up) a.entry (EndOf (suc (length v.left) ∷ v.number ∷ []) ∷ xs)
      (suc (length v.left) ∷ v.number ∷ []) ∙ from_own (suc (length v.left) ∷ v.number ∷ []) xs)

  back_own : Asleep v.right → from (right_of (v ∷ up)) (suc (length v.left) ∷ v.number ∷ [])
      ≡ EndOf (suc (length v.left) ∷ v.number ∷ []) ∷ back_of up
  back_own a =
      ap (λ r. from (list_among (way_of up) v.number v.kind (suc (length v.left)) r ++ back_of up)
      (suc (length v.left) ∷ v.number ∷ [])) a.same
      ∙ (from-element v.number (suc (length v.left))
      (record { node = v.number; index = suc (length v.left); kind = v.kind } ∷ way_of up) a.entry
      (EndOf (suc (length v.left) ∷ v.number ∷ []) ∷ back_of up) (suc (length v.left) ∷ v.number ∷ [])
      ∙ from_own (suc (length v.left) ∷ v.number ∷ []) (back_of up))

pub present_form : (levels : List Level) (p : Profile) → IsAround levels IsOpen → (s : Name) → IsPresent (below_named levels) s
    → IsStepName levels s
present_form [] p a s h = absurd (nothing s h.0 h.1)
present_form (v ∷ up) p a s h = go (decide s (step_name (step_of v))) (decide s (suc (length v.left) ∷ v.number ∷ []))
    (λ k. present_form up p a.1 s k)
  where
    asleep : Asleep v.right ⊎ Awake v.number (suc (length v.left)) (way_of up) v.right
    asleep = sleeping v.number (suc (length v.left)) (way_of up) v.kind v.left v.right a.0.shape

    go : (s ≡ step_name (step_of v)) ⊎ (s ≡ step_name (step_of v) → ⊥) → (s ≡ suc (length v.left) ∷ v.number ∷ []) ⊎
        (s ≡ suc (length v.left) ∷ v.number ∷ [] → ⊥) → (IsPresent (below_named up) s → IsStepName up s) → IsStepName (v ∷ up) s
    go (inl e) d f = own_step v up (length v.left) s e
    go (inr n) (inl e) f = own_step v up (suc (length v.left)) s e
    go (inr n) (inr z) f =
        let k = past s (step_name (step_of v)) (right_named v.number (suc (length v.left)) (way_of up) v.right ++ below_named up) n h in
        wider v up s (f (k.0, sym (right_past v up s z (below_named up) asleep) ∙ k.1))

-- the highest end of the floor
top_name : (levels : List Level) (s : Name) → IsPresent (below_named levels) s → height (below_named levels) s ≡ length levels
    → height (back_of levels) s ≡ element_count (back_of levels)
top_name [] s p h = absurd (nothing s p.0 p.1)
top_name (v ∷ up) s p h = go (decide s (step_name (step_of v)))
  where
    go : (s ≡ step_name (step_of v)) ⊎ (s ≡ step_name (step_of v) → ⊥) → height (back_of (v ∷ up)) s ≡ element_count (back_of (v ∷ up))
    go (inl e) = ap (height (back_of (v ∷ up))) e ∙ ap element_count (from_own (step_name (step_of v)) (right_of (v ∷ up)))
    go (inr n) =
        let k = past s (step_name (step_of v)) (floor_named (v ∷ up)) n p in
        let low = floor-low (floor_named (v ∷ up)) s k.0 (first_low (v ∷ up)) k.1 in
        let size = count-right v.number (suc (length v.left)) (way_of up) v.right (below_named up) in
        absurd (omega (arith, low, size, count-below up, ap element_count (from_end (step_name (step_of v)) s (floor_named (v ∷ up)) n), h))

-- at one level
module _ (next : ℕ) (v : Level) (up : List Level) (f : IsFree next (v ∷ up)) (a : IsAround (v ∷ up) IsOpen)
    (above : RespectsHeights (below_named up) (back_of up)) where
  abbrev z : Name
  z = suc (length v.left) ∷ v.number ∷ []

  asleep : Asleep v.right ⊎ Awake v.number (suc (length v.left)) (way_of up) v.right
  asleep = sleeping v.number (suc (length v.left)) (way_of up) v.kind v.left v.right a.0.shape

  -- a scope of the floor above
  in_back : (s : Name) → IsPresent (below_named up) s → height (right_of (v ∷ up)) s ≡ height (back_of up) s
  in_back s p =
      let n = present_form up IsOpen a.1 s p in
      ap (height (right_of (v ∷ up))) n.same
      ∙ (ap element_count (skip_right next v up f a.0.new n.index n.node n.on) ∙ ap (height (back_of up)) (sym n.same))

  moved : (s : Name) → (s ≡ suc (length v.left) ∷ v.number ∷ [] → ⊥) → IsPresent (floor_named (v ∷ up)) s → IsPresent (below_named up) s
  moved s n p = (p.0, sym (right_past v up s n (below_named up) asleep) ∙ p.1)

  same_low : (s : Name) → (s ≡ suc (length v.left) ∷ v.number ∷ [] → ⊥) → height (floor_named (v ∷ up)) s ≡ height (below_named up) s
  same_low s n = ap element_count (right_past v up s n (below_named up) asleep)

  other_present : (s t : Name) → (s ≡ suc (length v.left) ∷ v.number ∷ [] → ⊥) → (t ≡ suc (length v.left) ∷ v.number ∷ [] → ⊥)
      → IsPresent (floor_named (v ∷ up)) s → IsPresent (floor_named (v ∷ up)) t → height (floor_named (v ∷ up)) s
      ≡ height (floor_named (v ∷ up)) t → height (right_of (v ∷ up)) s ≡ height (right_of (v ∷ up)) t
  other_present s t m n p q e =
      let ps = moved s m p in
      let qs = moved t n q in
      in_back s ps ∙ (above s t ps qs (sym (same_low s m) ∙ (e ∙ same_low t n)) ∙ sym (in_back t qs))

  -- the sleeper's end against one above
  own_present : (t : Name) → (t ≡ suc (length v.left) ∷ v.number ∷ [] → ⊥)
      → IsPresent (floor_named (v ∷ up)) (suc (length v.left) ∷ v.number ∷ []) → IsPresent (floor_named (v ∷ up)) t →
      height (floor_named (v ∷ up)) (suc (length v.left) ∷ v.number ∷ []) ≡ height (floor_named (v ∷ up)) t
      → height (right_of (v ∷ up)) (suc (length v.left) ∷ v.number ∷ []) ≡ height (right_of (v ∷ up)) t
  own_present t n p q e = go asleep
    where
      go : Asleep v.right ⊎ Awake v.number (suc (length v.left)) (way_of up) v.right
          → height (right_of (v ∷ up)) (suc (length v.left) ∷ v.number ∷ []) ≡ height (right_of (v ∷ up)) t
      go (inl s) =
          let qs = moved t n q in
          let top : height (below_named up) t ≡ length up = sym (same_low t n)
          ∙ (sym e ∙ (ap element_count (right_own v up (below_named up) s) ∙ count-below up)) in
          ap element_count (back_own v up s) ∙ (sym (top_name up t qs top) ∙ sym (in_back t qs))
      go (inr s) =
          let there : IsPresent (below_named up) (suc (length v.left) ∷ v.number ∷ []) =
          (p.0, sym (right_awake v up (suc (length v.left) ∷ v.number ∷ []) (below_named up) s) ∙ p.1) in
          let form = present_form up IsOpen a.1 (suc (length v.left) ∷ v.number ∷ []) there in
          absurd (clash (sym form.on ∙ (ap (is_on (way_of up))
          (sym (last_number (suc (length v.left)) v.number form.index form.node form.same)) ∙ a.0.new)))
        where
          clash : true ≡ false → ⊥
          clash k = cc

  pub respects_floor : RespectsHeights (floor_named (v ∷ up)) (right_of (v ∷ up))
  respects_floor s t p q e = go (decide s (suc (length v.left) ∷ v.number ∷ [])) (decide t (suc (length v.left) ∷ v.number ∷ []))
    where
      go : (s ≡ suc (length v.left) ∷ v.number ∷ []) ⊎ (s ≡ suc (length v.left) ∷ v.number ∷ [] → ⊥)
          → (t ≡ suc (length v.left) ∷ v.number ∷ []) ⊎ (t ≡ suc (length v.left) ∷ v.number ∷ [] → ⊥) → height (right_of (v ∷ up)) s
          ≡ height (right_of (v ∷ up)) t
      go (inl j) (inl k) = ap (height (right_of (v ∷ up))) (j ∙ sym k)
      go (inl j) (inr n) = ap (height (right_of (v ∷ up))) j ∙ own_present t n (subst (IsPresent (floor_named (v ∷ up))) j p) q
          (ap (height (floor_named (v ∷ up))) (sym j) ∙ e)
      go (inr m) (inl k) = sym (ap (height (right_of (v ∷ up))) k ∙ own_present s m (subst (IsPresent (floor_named (v ∷ up))) k q) p
          (ap (height (floor_named (v ∷ up))) (sym k) ∙ sym e))
      go (inr m) (inr n) = other_present s t m n p q e

  -- the end of the level's own alternative is higher than all others
  respects_level : RespectsHeights (below_named (v ∷ up)) (back_of (v ∷ up))
  respects_level s t p q e = go (decide s (step_name (step_of v))) (decide t (step_name (step_of v)))
    where
      own : Name
      own = length v.left ∷ v.number ∷ []

      high : (r : Name) → (r ≡ step_name (step_of v) → ⊥) → IsPresent (below_named (v ∷ up)) r
          → height (below_named (v ∷ up)) (step_name (step_of v)) ≡ height (below_named (v ∷ up)) r → ⊥
      high r n k h =
          let j = past r (step_name (step_of v)) (floor_named (v ∷ up)) n k in
          let low = floor-low (floor_named (v ∷ up)) r j.0 (first_low (v ∷ up)) j.1 in
          let size = ap element_count (from_own (step_name (step_of v)) (floor_named (v ∷ up))) in
          absurd (omega (arith, low, size, h, ap element_count (from_end (step_name (step_of v)) r (floor_named (v ∷ up)) n)))

      go : (s ≡ step_name (step_of v)) ⊎ (s ≡ step_name (step_of v) → ⊥) → (t ≡ step_name (step_of v)) ⊎ (t ≡ step_name (step_of v) → ⊥)
          → height (back_of (v ∷ up)) s ≡ height (back_of (v ∷ up)) t
      go (inl j) (inl k) = ap (height (back_of (v ∷ up))) (j ∙ sym k)
      go (inl j) (inr n) = absurd (high t n q (ap (height (below_named (v ∷ up))) (sym j) ∙ e))
      go (inr m) (inl k) = absurd (high s m p (ap (height (below_named (v ∷ up))) (sym k) ∙ sym e))
      go (inr m) (inr n) =
          let j = past s (step_name (step_of v)) (floor_named (v ∷ up)) m p in
          let k = past t (step_name (step_of v)) (floor_named (v ∷ up)) n q in
          let low = ap element_count (from_end (step_name (step_of v)) s (floor_named (v ∷ up)) m) in
          let high = ap element_count (from_end (step_name (step_of v)) t (floor_named (v ∷ up)) n) in
          ap element_count (from_end (step_name (step_of v)) s (right_of (v ∷ up)) m)
          ∙ (respects_floor s t j k (sym low ∙ (e ∙ high)) ∙ sym
          (ap element_count (from_end (step_name (step_of v)) t (right_of (v ∷ up)) n)))

pub respects_below : (next : ℕ) (levels : List Level) → IsFree next levels → IsAround levels IsOpen
    → RespectsHeights (below_named levels) (back_of levels)
respects_below next [] f a = λ s t p q e. refl
respects_below next (v ∷ up) f a = respects_level next v up f a (respects_below next up (free-above next v up f) a.1)
