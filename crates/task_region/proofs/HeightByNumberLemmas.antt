-- Heights by the numbers of nodes on the way down.
use Rattle.std.proofs.Common.{◌≡◌, ◌⊎◌, inl, inr, ℕ, suc, ◌+◌, ◌<◌, ◌≤◌, true, false, cond, nat_lt, List, [], ◌∷◌, ◌++◌, map, reverse, length, get_or, slice_index_or, refl, sym, ap, ◌∙◌, arith}
use Rattle.std.proofs.lemmas.Bool.{cases_lt, eq-eqb}
use Rattle.std.proofs.lemmas.List.{length-map, length-reverse, reverse-append}
use Rattle.std.proofs.Math.ListN.{get_or-append}
use Rattle.std.proofs.Math.Seq.{get_or-append_seam}
use Rattle.std.specs.List.Sorted.{IsPartitionPoint, IsPartitionedBy}
use Rattle.au_term.proofs.LogicLemmas.{less, not_lt_by}
use Rattle.au_model.proofs.UnifierRuleLemmas.{below}
use Rattle.au_model.specs.Terms.Each.{Each}
use Rattle.tree_model.specs.Levels.{Place}
use Rattle.task_region.specs.PlacesUp.{AreFallingPlaces}
use Rattle.task_region.specs.ScopeHeights.{height_among}
use Rattle.task_region.proofs.HeightLemmas.{number_other}

abbrev nums : List Place → List ℕ
nums ps = reverse (map (λ (p : Place). p.node) ps)

length-nums : (ps : List Place) → length (nums ps) ≡ length ps
length-nums ps = length-reverse (map (λ (p : Place). p.node) ps) ∙ length-map ps (λ (p : Place). p.node)

nums-cons : (p : Place) (ps : List Place) → nums (p ∷ ps) ≡ nums ps ++ p.node ∷ []
nums-cons p ps = reverse-append (p.node ∷ []) (map (λ (q : Place). q.node) ps)

module _ (d : ℕ) where
  last : (p : Place) (ps : List Place) → get_or (nums (p ∷ ps)) (length ps) d ≡ p.node
  last p ps =
      ap (λ ns. get_or ns (length ps) d) (nums-cons p ps)
      ∙ (ap (λ k. get_or (nums ps ++ p.node ∷ []) k d) (sym (length-nums ps)) ∙ get_or-append_seam (nums ps) p.node [] d)

  earlier : (p : Place) (ps : List Place) (k : ℕ) → k < length ps → get_or (nums (p ∷ ps)) k d ≡ get_or (nums ps) k d
  earlier p ps k lt =
      ap (λ ns. get_or ns k d) (nums-cons p ps) ∙ get_or-append (nums ps) (p.node ∷ []) d k (let l = length-nums ps in omega (arith, l, lt))

  lower : (ps : List Place) (n k : ℕ) → Each (λ q. q.node < n) ps → k < length ps → get_or (nums ps) k d < n
  lower [] n k h lt = absurd (omega (arith, lt))
  lower (p ∷ ps) n k h lt = by_place (lower ps n k h.1) (cases_lt k (length ps))
    where
      by_place : (k < length ps → get_or (nums ps) k d < n) → (k < length ps) ⊎ (length ps ≤ k) → get_or (nums (p ∷ ps)) k d < n
      by_place rest (inl l) = let e = earlier p ps k l in let b = rest l in omega (arith, e, b)
      by_place rest (inr g) = let same : k ≡ length ps = omega (arith, g, lt) in let e = ap (λ i. get_or (nums (p ∷ ps)) i d) same ∙ last p ps in let b = h.0 in omega (arith, e, b)

  rising : (ps : List Place) → AreFallingPlaces ps → (i j : ℕ) → i < j → j < length ps → get_or (nums ps) i d < get_or (nums ps) j d
  rising [] h i j l m = absurd (omega (arith, m))
  rising (p ∷ ps) h i j l m = by_place (rising ps h.1 i j l) (cases_lt j (length ps))
    where
      by_place : (j < length ps → get_or (nums ps) i d < get_or (nums ps) j d) → (j < length ps) ⊎ (length ps ≤ j) → get_or (nums (p ∷ ps)) i d < get_or (nums (p ∷ ps)) j d
      by_place rest (inl k) =
          let a = earlier p ps i (omega (arith, l, k)) in let b = earlier p ps j k in let c = rest k in omega (arith, a, b, c)
      by_place rest (inr g) =
          let same : j ≡ length ps = omega (arith, g, m) in
          let a = earlier p ps i (omega (arith, l, same)) in
          let b = ap (λ k. get_or (nums (p ∷ ps)) k d) same ∙ last p ps in
          let c = lower ps p.node i h.0 (omega (arith, l, same)) in omega (arith, a, b, c)

  found : (ps : List Place) → AreFallingPlaces ps → (k s : ℕ) → k < length ps → get_or (nums ps) k d ≡ s → height_among ps s ≡ suc k
  found [] h k s lt e = absurd (omega (arith, lt))
  found (p ∷ ps) h k s lt e = by_place (found ps h.1 k s) (cases_lt k (length ps))
    where
      by_place : (k < length ps → get_or (nums ps) k d ≡ s → height_among ps s ≡ suc k) → (k < length ps) ⊎ (length ps ≤ k) → height_among (p ∷ ps) s ≡ suc k
      by_place rest (inl l) =
          let here : get_or (nums ps) k d ≡ s = sym (earlier p ps k l) ∙ e in
          let under = lower ps p.node k h.0 l in
          ap (λ b. cond b (suc (length ps)) (height_among ps s)) (number_other p.node s (λ f. omega (arith, here, under, f))) ∙ rest l here
      by_place rest (inr g) =
          let same : k ≡ length ps = omega (arith, g, lt) in
          let here : p.node ≡ s = sym (ap (λ i. get_or (nums (p ∷ ps)) i d) same ∙ last p ps) ∙ e in
          ap (λ b. cond b (suc (length ps)) (height_among ps s)) (eq-eqb p.node s here) ∙ ap suc (sym same)

  missing : (ps : List Place) (s : ℕ) → ((k : ℕ) → k < length ps → get_or (nums ps) k d ≡ s → ⊥) → height_among ps s ≡ 0
  missing [] s none = refl
  missing (p ∷ ps) s none =
      ap (λ b. cond b (suc (length ps)) (height_among ps s)) (number_other p.node s (λ f. none (length ps) (omega arith) (last p ps ∙ f)))
      ∙ missing ps s (λ k l e. none k (omega (arith, l)) (earlier p ps k l ∙ e))

pub rise_parted : (s : ℕ) (ps : List Place) → AreFallingPlaces ps → IsPartitionedBy (λ (n : ℕ). nat_lt n s) (nums ps)
rise_parted s ps h i j d l m e = by_order (cases_lt i j)
  where
    by_order : (i < j) ⊎ (j ≤ i) → nat_lt (slice_index_or (nums ps) i d) s ≡ true
    by_order (inl k) =
        let first = below (slice_index_or (nums ps) j d) s e in
        let rise = rising d ps h i j k (let n = length-nums ps in omega (arith, n, m)) in
        less (slice_index_or (nums ps) i d) s (omega (arith, first, rise))
    by_order (inr k) = let same : i ≡ j = omega arith in ap (λ n. nat_lt (slice_index_or (nums ps) n d) s) same ∙ e

-- where a search has come to
abbrev pub IsSplitAt : ℕ → List ℕ → ℕ → Type 0
IsSplitAt s xs at = IsPartitionPoint (λ (n : ℕ). nat_lt n s ≡ true) (λ (n : ℕ). nat_lt n s ≡ false) xs at

module _ (d : ℕ) (ps : List Place) (h : AreFallingPlaces ps) (at s : ℕ) where
  pub height_there : at < length (nums ps) → get_or (nums ps) at d ≡ s → at + 1 ≡ height_among ps s
  height_there l e = let k = found d ps h at s (let n = length-nums ps in omega (arith, n, l)) e in omega (arith, k)

  module _ (split : IsSplitAt s (nums ps) at) (apart : at < length (nums ps) → get_or (nums ps) at d ≡ s → ⊥) where
    by_order : (k : ℕ) → k < length ps → get_or (nums ps) k d ≡ s → (k < at) ⊎ (at ≤ k) → ⊥
    by_order k l e (inl m) = let b = below (get_or (nums ps) k d) s (split.0 k d (let n = length-nums ps in omega (arith, n, l)) m) in omega (arith, b, e)
    by_order k l e (inr m) = after (cases_lt at k)
      where
        after : (at < k) ⊎ (k ≤ at) → ⊥
        after (inl g) =
            let n = length-nums ps in
            let here = not_lt_by (get_or (nums ps) at d) s (split.1 at d (omega (arith, n, l, g)) (omega arith)) in
            let rise = rising d ps h at k g l in omega (arith, here, rise, e)
        after (inr g) = let same : at ≡ k = omega (arith, m, g) in apart (let n = length-nums ps in omega (arith, n, l, same)) (ap (λ i. get_or (nums ps) i d) same ∙ e)

    pub height_not_there : 0 ≡ height_among ps s
    height_not_there = sym (missing d ps s (λ k l e. by_order k l e (cases_lt k at)))
