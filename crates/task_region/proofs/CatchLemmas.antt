-- A task over whose floor there are catches alone, and the entries for which they stand.
use Rattle.std.proofs.Common.{◌≡◌, ◌⊎◌, inl, inr, ℕ, zero, suc, ◌+◌, ◌-◌, ◌<◌, ◌≤◌, List, [], ◌∷◌, ◌++◌, append_assoc, length, length-append, Option, Some, None, IsSome, IsSomeAnd, refl, sym, ap, ap₂, ◌∙◌, subst, arith}
use Rattle.std.specs.List.{slice_get}
use Rattle.std.proofs.lemmas.Bool.{cases_lt}
use Rattle.std.proofs.lemmas.List.{append-nil}
use Rattle.au_model.specs.Terms.Each.{Each}
use Rattle.au_model.specs.Terms.Named.{NamedTerm}
use Rattle.au_model.proofs.EachLemmas.{each-append}
use Rattle.run_model.specs.Machine.Items.{Continuation}
use Rattle.run_model.specs.Machine.Entries.{Entry, PlainEntry, CatchEntry, FindallEntry, EndEntry}
use Rattle.cell_store.specs.StoreView.{Moment}
use Rattle.region_split.specs.ChoicePoints.{RegionSetting, Standing, nothing_standing, continuation_at, alternative_entries, choice_entries, with_entries_on_top, standing_over, IsCatching}
use Rattle.region_split.specs.QueryEnds.{IsEnd, AreEndsOldest}
use Rattle.region_split.specs.Regions.{region_setting, entries_of}
use Rattle.region_split.specs.declared.choice.Alternatives.{Alternatives}
use Rattle.region_split.specs.declared.choice.Alternatives.TheVariants.{Clauses, Solutions, Elsewhere, Catch, Findall, QueryEnd}
use Rattle.region_split.specs.declared.choice.ChoicePoint.{ChoicePoint}
use Rattle.region_floor.specs.BareFloors.{bare_floor, bare_stack, AreOwn}
use Rattle.region_floor.proofs.FloorSizeLemmas.{bare-size}
use Rattle.tree_model.specs.Levels.{Level}
use Rattle.task_region.specs.TaskCatches.{IsEndOrCatch, AreCatchesFrom, HasCatchesAlone}
use Rattle.task_region.specs.TaskStandings.{HasOwnRun}
use Rattle.task_region.specs.TaskViews.{TaskView}
use Rattle.task_region.proofs.ChoiceEntryLemmas.{IsNoEndEntry, end_is}
use Rattle.task_region.proofs.EndLemmas.{no_ends_over, own_no_ends, same_floor}
use Rattle.task_region.proofs.ResultLemmas.{all, under}

-- the choice points that stand for a floor are ends
first_ends : (s : RegionSetting) (below : Standing) (k n : ℕ) (cs : List ChoicePoint) (ms : List Moment) (own : List Entry) → below.entries ≡ bare_floor k → length cs ≡ length ms
    → AreEndsOldest cs → Each IsNoEndEntry own → (standing_over s below cs ms).entries ≡ own ++ bare_floor (k + n) → (i : ℕ) → i < n
    → IsSomeAnd (slice_get cs i) (λ c. IsEnd c.alternatives)
first_ends s below k n [] ms own is long oldest no_ends e i lt =
    let same = same_floor k (k + n) [] own tt no_ends (sym is ∙ e) in absurd (omega (arith, same, lt))
first_ends s below k n (c ∷ cs) [] own is long oldest no_ends e i lt = absurd (omega (arith, long))
first_ends s below k n (c ∷ cs) (m ∷ ms) own is long (inl one) no_ends e zero lt = one.0
first_ends s below k zero (c ∷ cs) (m ∷ ms) own is long (inl one) no_ends e (suc i) lt = absurd (omega (arith, lt))
first_ends s below k (suc n) (c ∷ cs) (m ∷ ms) own is long (inl one) no_ends e (suc i) lt =
    let end = end_is s m (length below.entries) (continuation_at s below.heights m c.after) c.alternatives one.0 in
    let more = with_entries_on_top (choice_entries s below c m) below in
    let same : k + suc n ≡ suc k + n = omega arith in
    first_ends s more (suc k) n cs ms own (ap₂ ◌++◌ end is) (omega (arith, long)) one.1 no_ends (e ∙ ap (λ j. own ++ bare_floor j) same) i (omega (arith, lt))
first_ends s below k n (c ∷ cs) (m ∷ ms) own is long (inr none) no_ends e i lt =
    let o = no_ends_over s below (c ∷ cs) (m ∷ ms) none in
    let same = same_floor k (k + n) o.0 own o.2 no_ends (sym (o.1 ∙ ap (λ es. o.0 ++ es) is) ∙ e) in
    absurd (omega (arith, same, lt))

each_at : (P : ChoicePoint → Type 0) (cs : List ChoicePoint) → ((i : ℕ) → i < length cs → IsSomeAnd (slice_get cs i) P) → Each P cs
each_at P [] h = tt
each_at P (c ∷ cs) h = (h 0 (omega arith), each_at P cs (λ i lt. h (suc i) (omega (arith, lt))))

some_more : (P Q : ChoicePoint → Type 0) → ((c : ChoicePoint) → P c → Q c) → (o : Option ChoicePoint) → IsSomeAnd o P → IsSomeAnd o Q
some_more P Q f None h = absurd h
some_more P Q f (Some c) h = f c h

-- over the floor there are catches alone
module _ (t : TaskView) (run : HasOwnRun t) (next : IsSome t.next) (ends : AreEndsOldest t.region.choices) (marks : length t.region.store.marks ≡ length t.region.choices) where
  abbrev levels : List Level
  levels = run.run.levels

  floor_ends : (i : ℕ) → i < t.floor → IsSomeAnd (slice_get t.region.choices i) (λ c. IsEnd c.alternatives)
  floor_ends i lt =
      let u = under t run t.next refl next in
      let same = run.stands.own.levels in
      let zero_more : length levels ≡ 0 + length levels = omega arith in
      first_ends (region_setting (all t run) t.region) nothing_standing 0 (length levels) t.region.choices t.region.store.marks u.own refl (sym marks) ends
      (own_no_ends (length levels) u.own u.are_own) (u.entries ∙ ap (λ n. u.own ++ bare_floor n) zero_more) i (omega (arith, lt, same))

  pub floor_within : t.floor ≤ length t.region.choices
  floor_within = by_last t.floor (λ i lt. within t.region.choices i (λ c. IsEnd c.alternatives) (floor_ends i lt))
    where
      within : (cs : List ChoicePoint) (i : ℕ) (P : ChoicePoint → Type 0) → IsSomeAnd (slice_get cs i) P → i < length cs
      within [] i P h = absurd h
      within (c ∷ cs) zero P h = omega arith
      within (c ∷ cs) (suc i) P h = let lt = within cs i P h in omega (arith, lt)

      by_last : (n : ℕ) → ((i : ℕ) → i < n → i < length t.region.choices) → n ≤ length t.region.choices
      by_last zero h = omega arith
      by_last (suc n) h = let lt = h n (omega arith) in omega (arith, lt)

  pub catches_alone : AreCatchesFrom t.region.choices t.floor → (count : ℕ) → count ≡ length t.region.choices - t.floor → HasCatchesAlone t count
  catches_alone catches count e = record {
    alone = each_at IsEndOrCatch t.region.choices (λ i lt. by_place i lt (cases_lt i t.floor));
    many = let le = floor_within in omega (arith, e, le);
    marks = marks;
  }
    where
      by_place : (i : ℕ) → i < length t.region.choices → (i < t.floor) ⊎ (t.floor ≤ i) → IsSomeAnd (slice_get t.region.choices i) IsEndOrCatch
      by_place i lt (inl low) = some_more (λ c. IsEnd c.alternatives) IsEndOrCatch (λ c h. inl h) (slice_get t.region.choices i) (floor_ends i low)
      by_place i lt (inr high) = some_more (λ c. IsCatching c.alternatives) IsEndOrCatch (λ c h. inr h) (slice_get t.region.choices i) (catches i high lt)

-- what ends and catches stand for
abbrev IsEndOrCatchEntry : Entry → Type 0
IsEndOrCatchEntry (PlainEntry f) = ⊥
IsEndOrCatchEntry (CatchEntry c r f) = Unit {0}
IsEndOrCatchEntry (FindallEntry results l f) = ⊥
IsEndOrCatchEntry (EndEntry b) = Unit {0}

abbrev pub IsCatchEntry : Entry → Type 0
IsCatchEntry (PlainEntry f) = ⊥
IsCatchEntry (CatchEntry c r f) = Unit {0}
IsCatchEntry (FindallEntry results l f) = ⊥
IsCatchEntry (EndEntry b) = ⊥

-- one entry
record StandsForOne (entries : List Entry) : Type 0 where
  one : length entries ≡ 1
  is : Each IsEndOrCatchEntry entries

one_entry : (s : RegionSetting) (m : Moment) (h : ℕ) (f : Continuation ℕ) (a : Alternatives) → IsEnd a ⊎ IsCatching a → StandsForOne (alternative_entries s m h f a)
one_entry s m h f (Clauses goal clause left) (inl e) = absurd e
one_entry s m h f (Clauses goal clause left) (inr e) = absurd e
one_entry s m h f (Solutions left) (inl e) = absurd e
one_entry s m h f (Solutions left) (inr e) = absurd e
one_entry s m h f Elsewhere (inl e) = absurd e
one_entry s m h f Elsewhere (inr e) = absurd e
one_entry s m h f (Catch catcher recovery) e = record { one = refl; is = (tt, tt) }
one_entry s m h f (Findall list results) (inl e) = absurd e
one_entry s m h f (Findall list results) (inr e) = absurd e
one_entry s m h f QueryEnd e = record { one = refl; is = (tt, tt) }

ones_over : (s : RegionSetting) (below : Standing) (cs : List ChoicePoint) (ms : List Moment) → length cs ≡ length ms → Each IsEndOrCatch cs
    → (es : List Entry) × ((standing_over s below cs ms).entries ≡ es ++ below.entries) × (length es ≡ length cs) × Each IsEndOrCatchEntry es
ones_over s below [] ms long h = ([], refl, refl, tt)
ones_over s below (c ∷ cs) [] long h = absurd (omega (arith, long))
ones_over s below (c ∷ cs) (m ∷ ms) long h =
    let here = choice_entries s below c m in
    let o = one_entry s m (length below.entries) (continuation_at s below.heights m c.after) c.alternatives h.0 in
    let rest = ones_over s (with_entries_on_top here below) cs ms (omega (arith, long)) h.1 in (
      rest.0 ++ here,
      rest.1 ∙ sym (append_assoc rest.0 here below.entries),
      (let sum = length-append rest.0 here in let a = rest.2 in let b = o.one in omega (arith, sum, a, b)),
      each-append IsEndOrCatchEntry rest.0 here rest.3 o.is,
    )

catch_entries : (es rest : List Entry) → Each IsNoEndEntry es → Each IsEndOrCatchEntry (es ++ rest) → Each IsCatchEntry es
catch_entries [] rest no_ends h = tt
catch_entries (PlainEntry f ∷ es) rest no_ends h = absurd h.0
catch_entries (CatchEntry c r f ∷ es) rest no_ends h = (tt, catch_entries es rest no_ends.1 h.1)
catch_entries (FindallEntry results l f ∷ es) rest no_ends h = absurd h.0
catch_entries (EndEntry b ∷ es) rest no_ends h = absurd no_ends.0

-- so all that is of the region's own is catches
pub catches_stand : (t : TaskView) (count : ℕ) (named : List NamedTerm) (levels : List Level) (below : List Entry) → HasCatchesAlone t count → length levels ≡ t.floor → AreOwn (length levels) below → entries_of named t.region ≡ bare_stack levels below → Each IsCatchEntry below × (length below ≡ count)
catches_stand t count named levels below h floor are_own e =
    let o = ones_over (region_setting named t.region) nothing_standing t.region.choices t.region.store.marks (sym h.marks) h.alone in
    let same : o.0 ≡ below ++ bare_floor (length levels) = sym (append-nil o.0) ∙ (sym o.1 ∙ e) in
    let sizes = ap length same ∙ length-append below (bare_floor (length levels)) in
    let size = bare-size (length levels) in
    let many = h.many in
    let ones = o.2 in (
      catch_entries below (bare_floor (length levels)) (own_no_ends (length levels) below are_own) (subst (Each IsEndOrCatchEntry) same o.3),
      omega (arith, sizes, size, many, ones, floor),
    )
