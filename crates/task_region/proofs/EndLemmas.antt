-- Choice points of which the ends of queries are the oldest.
use Rattle.std.proofs.Common.{◌≡◌, ◌⊎◌, inl, inr, ℕ, zero, suc, ◌+◌, ◌-◌, ◌<◌, ◌≤◌, List, [], ◌∷◌, ◌++◌, append_assoc, length, length-append, length-take-le, take, drop, None, refl, sym, ap, ap₂, ◌∙◌, subst, arith}
use Rattle.std.proofs.lemmas.Bool.{cases_lt}
use Rattle.std.proofs.lemmas.List.{take-append-drop, get_or_append_left}
use Rattle.std.proofs.Math.Seq.{get_or-append_seam}
use Rattle.au_model.specs.Terms.Each.{Each}
use Rattle.au_model.proofs.EachLemmas.{each-append}
use Rattle.run_model.specs.Machine.Entries.{Entry, PlainEntry, CatchEntry, FindallEntry, EndEntry}
use Rattle.cell_store.specs.StoreView.{Moment}
use Rattle.region_split.specs.ChoicePoints.{RegionSetting, Standing, standing_over, nothing_standing, with_entries_on_top, choice_entries, continuation_at, height_of_cut}
use Rattle.region_split.specs.QueryEnds.{StandsForNoEnd, AreEndsOldest}
use Rattle.region_split.specs.Regions.{region_setting}
use Rattle.region_split.specs.declared.choice.ChoicePoint.{ChoicePoint}
use Rattle.region_split.proofs.StandingLemmas.{standing-append, is_over, IsMeasured, measured, own_height, heights_kept}
use Rattle.region_split.proofs.RegionLemmas.{nothing_measured}
use Rattle.region_floor.specs.BareFloors.{bare_floor, AreOwn}
use Rattle.region_floor.proofs.FloorSizeLemmas.{bare-size}
use Rattle.task_region.specs.BareRegions.{EndsAreFloor}
use Rattle.task_region.proofs.ChoiceEntryLemmas.{IsNoEndEntry, alternatives_no_end, end_is}

-- how many ends
ends : List Entry → ℕ
ends [] = 0
ends (PlainEntry f ∷ es) = ends es
ends (CatchEntry c r f ∷ es) = ends es
ends (FindallEntry results l f ∷ es) = ends es
ends (EndEntry b ∷ es) = suc (ends es)

ends-over : (xs es : List Entry) → Each IsNoEndEntry xs → ends (xs ++ es) ≡ ends es
unfolding ends
ends-over [] es h = refl
ends-over (PlainEntry f ∷ xs) es h = ends-over xs es h.1
ends-over (CatchEntry c r f ∷ xs) es h = ends-over xs es h.1
ends-over (FindallEntry results l f ∷ xs) es h = ends-over xs es h.1
ends-over (EndEntry b ∷ xs) es h = absurd h.0

ends-bare : (n : ℕ) → ends (bare_floor n) ≡ n
unfolding ends
ends-bare zero = refl
ends-bare (suc n) = ap suc (ends-bare n)

pub own_no_ends : (n : ℕ) (es : List Entry) → AreOwn n es → Each IsNoEndEntry es
own_no_ends n [] h = tt
own_no_ends n (PlainEntry f ∷ es) h = (tt, own_no_ends n es h.1)
own_no_ends n (CatchEntry c r f ∷ es) h = (tt, own_no_ends n es h.1)
own_no_ends n (FindallEntry results l f ∷ es) h = (tt, own_no_ends n es h.1)
own_no_ends n (EndEntry b ∷ es) h = absurd h.0

pub same_floor : (n m : ℕ) (xs ys : List Entry) → Each IsNoEndEntry xs → Each IsNoEndEntry ys → xs ++ bare_floor n ≡ ys ++ bare_floor m → n ≡ m
same_floor n m xs ys h k e =
    sym (ends-bare n) ∙ (sym (ends-over xs (bare_floor n) h) ∙ (ap ends e ∙ (ends-over ys (bare_floor m) k ∙ ends-bare m)))

-- so many choice points stand over a floor of their own
record StandsOver (st : Standing) (many : ℕ) : Type 0 where
  floor : ℕ
  within : floor ≤ many
  own : List Entry
  no_ends : Each IsNoEndEntry own
  entries : st.entries ≡ own ++ bare_floor floor
  below : (cut : ℕ) → cut ≤ floor → height_of_cut st.heights cut ≡ cut
  above : (cut : ℕ) → floor ≤ cut → cut ≤ many → floor ≤ height_of_cut st.heights cut

module _ (s : RegionSetting) where
  pub no_ends_over : (below : Standing) (cs : List ChoicePoint) (ms : List Moment) → Each StandsForNoEnd cs
      → (own : List Entry) × ((standing_over s below cs ms).entries ≡ own ++ below.entries) × Each IsNoEndEntry own
  no_ends_over below [] ms h = ([], refl, tt)
  no_ends_over below (c ∷ cs) [] h = ([], refl, tt)
  no_ends_over below (c ∷ cs) (m ∷ ms) h =
      let here = choice_entries s below c m in
      let rest = no_ends_over (with_entries_on_top here below) cs ms h.1 in (
        rest.0 ++ here,
        rest.1 ∙ sym (append_assoc rest.0 here below.entries),
        each-append IsNoEndEntry rest.0 here rest.2 (alternatives_no_end s m (length below.entries) (continuation_at s below.heights m c.after) c.alternatives h.0),
      )

  -- those over a floor
  module _ (below : Standing) (k : ℕ) (is : below.entries ≡ bare_floor k) (measure : IsMeasured below k) (low : (cut : ℕ) → cut ≤ k → height_of_cut below.heights cut ≡ cut) where
    high : (cs : List ChoicePoint) (ms : List Moment) (i : ℕ) → length cs ≡ length ms → i ≤ length cs → k ≤ height_of_cut (standing_over s below cs ms).heights (k + i)
    high cs ms i long le =
        let mid = standing_over s below (take i cs) (take i ms) in
        let a = length-take-le i cs le in
        let b = length-take-le i ms (omega (arith, long, le)) in
        let o = is_over s mid (drop i cs) (drop i ms) in
        let all : standing_over s below cs ms ≡ standing_over s mid (drop i cs) (drop i ms) =
        ap₂ (standing_over s below) (sym (take-append-drop i cs)) (sym (take-append-drop i ms)) ∙ standing-append s below (take i cs) (drop i cs) (take i ms) (drop i ms) (omega (arith, a, b)) in
        let m = measured s below (take i cs) (take i ms) k (k + i) (omega (arith, a, b)) (omega (arith, a)) measure in
        let height = ap (λ (st : Standing). height_of_cut st.heights (k + i)) all ∙ own_height mid (standing_over s mid (drop i cs) (drop i ms)) (k + i) m o in
        let under = is_over s below (take i cs) (take i ms) in
        let size = ap length under.are ∙ length-append under.entries below.entries in
        let floor = ap length is ∙ bare-size k in
        omega (arith, height, size, floor)

    over_ends : (cs : List ChoicePoint) (ms : List Moment) (many : ℕ) → length cs ≡ length ms → many ≡ k + length cs → Each StandsForNoEnd cs → StandsOver (standing_over s below cs ms) many
    over_ends cs ms many long all h =
        let o = no_ends_over below cs ms h in
        record {
          floor = k;
          within = omega (arith, all);
          own = o.0;
          no_ends = o.2;
          entries = o.1 ∙ ap (λ es. o.0 ++ es) is;
          below = λ cut le. heights_kept below (standing_over s below cs ms) k cut measure (is_over s below cs ms) le ∙ low cut le;
          above = λ cut ge le.
              subst (λ n. k ≤ height_of_cut (standing_over s below cs ms).heights n) (let e : k + (cut - k) ≡ cut = omega (arith, ge) in e)
              (high cs ms (cut - k) long (omega (arith, all, ge, le)));
        }

    -- one more end
    module _ (c : ChoicePoint) (m : Moment) (end : choice_entries s below c m ≡ EndEntry None ∷ []) where
      abbrev more : Standing
      more = with_entries_on_top (choice_entries s below c m) below

      more_entries : more.entries ≡ bare_floor (suc k)
      more_entries = ap₂ ◌++◌ end is

      heights_long : length below.heights ≡ suc k
      heights_long = ap length measure.is ∙ (length-append measure.before (length below.entries ∷ []) ∙ (let l = measure.long in omega (arith, l)))

      more_measured : IsMeasured more (suc k)
      more_measured = record { before = below.heights; is = refl; long = heights_long }

      top_height : height_of_cut more.heights (suc k) ≡ suc k
      top_height =
          ap (height_of_cut more.heights) (sym heights_long)
          ∙ (get_or-append_seam below.heights (length more.entries) [] 0 ∙ (ap length more_entries ∙ bare-size (suc k)))

      more_low : (cut : ℕ) → cut ≤ suc k → (cut < suc k) ⊎ (suc k ≤ cut) → height_of_cut more.heights cut ≡ cut
      more_low cut le (inl lt) =
          get_or_append_left below.heights (length more.entries ∷ []) 0 cut (let l = heights_long in omega (arith, l, lt)) ∙ low cut (omega (arith, lt))
      more_low cut le (inr ge) = subst (λ n. height_of_cut more.heights n ≡ n) (let e : suc k ≡ cut = omega (arith, le, ge) in e) top_height

  ends_over : (below : Standing) (k : ℕ) (cs : List ChoicePoint) (ms : List Moment) (many : ℕ) → below.entries ≡ bare_floor k → IsMeasured below k
      → ((cut : ℕ) → cut ≤ k → height_of_cut below.heights cut ≡ cut) → length cs ≡ length ms → many ≡ k + length cs → AreEndsOldest cs → StandsOver (standing_over s below cs ms) many
  ends_over below k [] ms many is measure low long all h = over_ends below k is measure low [] ms many long all tt
  ends_over below k (c ∷ cs) [] many is measure low long all h = absurd (omega (arith, long))
  ends_over below k (c ∷ cs) (m ∷ ms) many is measure low long all (inr none) = over_ends below k is measure low (c ∷ cs) (m ∷ ms) many long all none
  ends_over below k (c ∷ cs) (m ∷ ms) many is measure low long all (inl one) =
      let end = end_is s m (length below.entries) (continuation_at s below.heights m c.after) c.alternatives one.0 in
      ends_over (with_entries_on_top (choice_entries s below c m) below) (suc k) cs ms many (more_entries below k is measure low c m end) (more_measured below k is measure low c m end)
      (λ cut le. more_low below k is measure low c m end cut le (cases_lt cut (suc k))) (omega (arith, long)) (omega (arith, all)) one.1

pub ends_are_floor : EndsAreFloor
ends_are_floor named here levels own oldest marks are_own entries =
    let st = ends_over (region_setting named here) nothing_standing 0 here.choices here.store.marks (length here.choices) refl nothing_measured low (sym marks) (omega arith) oldest in
    let n = same_floor st.floor (length levels) st.own own st.no_ends (own_no_ends (length levels) own are_own) (sym st.entries ∙ entries) in
    let within = st.within in
    record {
      many = omega (arith, n, within);
      below = λ cut le. st.below cut (omega (arith, n, le));
      above = λ cut ge le. let h = st.above cut (omega (arith, n, ge)) le in omega (arith, n, h);
    }
  where
    low : (cut : ℕ) → cut ≤ 0 → height_of_cut nothing_standing.heights cut ≡ cut
    low cut le = subst (λ n. height_of_cut nothing_standing.heights n ≡ n) (let e : 0 ≡ cut = omega (arith, le) in e) refl
