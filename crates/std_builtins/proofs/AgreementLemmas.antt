-- What agrees with a text's beginning.
use Rattle.std.proofs.Common.{◌≡◌, ◌∙◌, ◌⊎◌, inl, inr, ℕ, zero, suc, ◌+◌, ◌-◌, ◌<◌, ◌≤◌, Bool, true, false, List, ◌++◌, length, get_or, take, drop, refl, sym, ap, arith}
use Rattle.std.proofs.Math.Dec.{leb}
use Rattle.std.proofs.lemmas.Bool.Decides.{leb_tells}
use Rattle.std.proofs.lemmas.List.{ext_get_or, get_or_append_left, get_or-append_right, get_or-drop, get_or-take, length-append, length-drop, length-take-le}
use Rattle.std.specs.Cmp.Lexicographic.{other_text, same_text}
use Rattle.au_model.specs.Terms.Forms.{same_name}
use Rattle.std_builtins.specs.Agreements.{AgreeFor, AreKnown, IsAgreement, IsStretch}
use Rattle.std_builtins.specs.declared.agreement.Stretch.{Stretch}

-- what agrees in the stretch agrees with what was found at the beginning
pub stretch_agrees : (cs ks : List ℕ) (place k : ℕ) (w : Stretch) → IsStretch cs place w → AreKnown cs place ks → (0 < k → (place + k ≤ w.to) × (k ≤ get_or ks (place - w.from) 0)) → AgreeFor cs place k
stretch_agrees cs ks place k w is known h j lt =
    let bound = h (omega arith) in
    let inside : place + j ≡ w.from + (place - w.from + j) = omega (arith, is.before) in
    ap (λ i. get_or cs i 0) inside
    ∙ (is.agree (place - w.from + j) (omega (arith, lt, bound.0, is.before)) ∙ known.1 (place - w.from) (omega (arith, is.before, is.later, lt, bound.0, is.within)) j (omega (arith, lt, bound.1)))

-- and it reaches no further than the text
pub known_within : (cs ks : List ℕ) (place k : ℕ) (w : Stretch) → IsStretch cs place w → place < length cs → (0 < k → (place + k ≤ w.to) × (k ≤ get_or ks (place - w.from) 0)) → place + k ≤ length cs
known_within cs ks place zero w is lt h = omega (arith, lt)
known_within cs ks place (suc k) w is lt h = let bound = h (omega arith) in omega (arith, bound.0, is.within)

-- ---- a part that is put before a text

module _ (part cs : List ℕ) (start count : ℕ) (whole : count ≡ length part) (within : start + count ≤ length cs) where
  there : List ℕ
  there = take count (drop start cs)

  in_part : (j : ℕ) → j < count → get_or (part ++ cs) j 0 ≡ get_or part j 0
  in_part j lt = get_or_append_left part cs 0 j (omega (arith, whole, lt))

  in_text : (j : ℕ) → j < count → get_or (part ++ cs) (count + start + j) 0 ≡ get_or there j 0
  unfolding there
  in_text j lt =
      let place : count + start + j - count ≡ start + j = omega arith in
      get_or-append_right part cs count (count + start + j) 0 (sym whole) (omega arith)
      ∙ (ap (λ i. get_or cs i 0) place ∙ (sym (get_or-drop start cs j 0) ∙ sym (get_or-take count (drop start cs) j 0 lt)))

  there_count : length there ≡ length part
  unfolding there
  there_count = let rest = length-drop start cs in length-take-le count (drop start cs) (omega (arith, within, rest)) ∙ whole

  -- it stands where it agrees to its end, and only there
  pub stands : (k : ℕ) → IsAgreement (part ++ cs) (count + start) k → leb count k ≡ same_name part (take count (drop start cs))
  unfolding there
  stands k found = by (leb_tells count k) (same_name part there) refl
    where
      by : ((leb count k ≡ true) × (count ≤ k)) ⊎ ((leb count k ≡ false) × (k < count)) → (b : Bool) → b ≡ same_name part there → leb count k ≡ b
      by (inl enough) true e = enough.0
      by (inl enough) false e = absurd (other_text part there e (ext_get_or 0 part there (sym there_count) (λ j lt. let less : j < count = omega (arith, lt, whole) in sym (in_part j less) ∙ (sym (found.agree j (omega (arith, less, enough.1))) ∙ in_text j less))))
      by (inr short) false e = short.0
      by (inr short) true e =
          let joined = length-append part cs in
          let same = same_text part there e in
          absurd (found.most (omega (arith, joined, short.1, within, whole)) (in_text k short.1 ∙ (ap (λ xs. get_or xs k 0) (sym same) ∙ sym (in_part k short.1))))
