-- The ends of a region that stands for own entries are its floor.
use Rattle.std.proofs.Common.{◌≡◌, inl, inr, ℕ, zero, suc, ◌+◌, ◌-◌, ◌<◌, ◌≤◌, List, [], ◌∷◌, ◌++◌, length, drop, slice_get, IsSomeAnd, refl, sym, ap, ap₂, ◌∙◌, subst, arith}
use Rattle.au_model.specs.Terms.Each.{Each}
use Rattle.au_model.specs.Terms.Named.{NamedTerm}
use Rattle.run_model.specs.Machine.Entries.{Entry}
use Rattle.cell_store.specs.StoreView.{Moment}
use Rattle.region_split.specs.ChoicePoints.{RegionSetting, Standing, standing_over, nothing_standing, with_entries_on_top, choice_entries, continuation_at}
use Rattle.region_split.specs.QueryEnds.{IsEnd, StandsForNoEnd, AreEndsOldest}
use Rattle.region_split.specs.Regions.{RegionView, region_setting, standing, entries_of}
use Rattle.region_split.specs.declared.choice.ChoicePoint.{ChoicePoint}
use Rattle.region_floor.specs.BareFloors.{bare_floor, AreOwn, bare_stack}
use Rattle.tree_model.specs.Levels.{Level}
use Rattle.task_region.proofs.ChoiceEntryLemmas.{IsNoEndEntry, end_is}
use Rattle.task_region.proofs.EndLemmas.{no_ends_over, own_no_ends, same_floor}

-- there is one, and it is an end
abbrev IsEndAt : List ChoicePoint → ℕ → Type 0
IsEndAt cs n = IsSomeAnd (slice_get cs n) (λ c. IsEnd c.alternatives)

one_more : (c : ChoicePoint) (cs : List ChoicePoint) (many : ℕ) → IsEnd c.alternatives → ((n : ℕ) → n < many → IsEndAt cs n) → (n : ℕ) → n < suc many
    → IsEndAt (c ∷ cs) n
one_more c cs many first others zero lt = first
one_more c cs many first others (suc n) lt = others n (omega (arith, lt))

none : (cs : List ChoicePoint) (n : ℕ) → n < 0 → IsEndAt cs n
none cs n lt = absurd (omega (arith, lt))

-- so many of the oldest choice points are ends, and no others
record HaveEnds (st : Standing) (k : ℕ) (cs : List ChoicePoint) : Type 0 where
  many : ℕ
  own : List Entry
  no_ends : Each IsNoEndEntry own
  entries : st.entries ≡ own ++ bare_floor (k + many)
  above : Each StandsForNoEnd (drop many cs)
  ends : (n : ℕ) → n < many → IsEndAt cs n

module _ (s : RegionSetting) where
  have_ends : (below : Standing) (k : ℕ) (cs : List ChoicePoint) (ms : List Moment) → below.entries ≡ bare_floor k → length cs ≡ length ms → AreEndsOldest cs
      → HaveEnds (standing_over s below cs ms) k cs
  have_ends below k [] ms is long h =
      let same : k ≡ k + 0 = omega arith in
      record { many = 0; own = []; no_ends = tt; entries = is ∙ ap bare_floor same; above = tt; ends = none [] }
  have_ends below k (c ∷ cs) [] is long h = absurd (omega (arith, long))
  have_ends below k (c ∷ cs) (m ∷ ms) is long (inr no_end) =
      let o = no_ends_over s below (c ∷ cs) (m ∷ ms) no_end in
      let same : k ≡ k + 0 = omega arith in
      record { many = 0; own = o.0; no_ends = o.2; entries = o.1 ∙ ap (λ es. o.0 ++ es) (is ∙ ap bare_floor same); above = no_end; ends = none (c ∷ cs) }
  have_ends below k (c ∷ cs) (m ∷ ms) is long (inl one) =
      let end = end_is s m (length below.entries) (continuation_at s below.heights m c.after) c.alternatives one.0 in
      let h = have_ends (with_entries_on_top (choice_entries s below c m) below) (suc k) cs ms (ap₂ ◌++◌ end is) (omega (arith, long)) one.1 in
      let same : suc k + h.many ≡ k + suc h.many = omega arith in
      record { many = suc h.many; own = h.own; no_ends = h.no_ends; entries = h.entries ∙ ap (λ n. h.own ++ bare_floor n) same; above = h.above; ends = one_more c cs h.many one.0 h.ends }

module _ (named : List NamedTerm) (r : RegionView) (levels : List Level) (own : List Entry) (oldest : AreEndsOldest r.choices)
    (marks : length r.store.marks ≡ length r.choices) (are_own : AreOwn (length levels) own) (is : entries_of named r ≡ bare_stack levels own) where
  all_ends : HaveEnds (standing named r) 0 r.choices
  all_ends = have_ends (region_setting named r) nothing_standing 0 r.choices r.store.marks refl (sym marks) oldest

  same_many : all_ends.many ≡ length levels
  same_many =
      let e = same_floor (0 + all_ends.many) (length levels) all_ends.own own all_ends.no_ends (own_no_ends (length levels) own are_own)
      (sym all_ends.entries ∙ is) in
      omega (arith, e)

  pub none_over_floor : Each StandsForNoEnd (drop (length levels) r.choices)
  none_over_floor = subst (λ n. Each StandsForNoEnd (drop n r.choices)) same_many all_ends.above

  pub last_end : 1 ≤ length levels → IsSomeAnd (slice_get r.choices (length levels - 1)) (λ c. IsEnd c.alternatives)
  last_end some = all_ends.ends (length levels - 1) (let m = same_many in omega (arith, m, some))
