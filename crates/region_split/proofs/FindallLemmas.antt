-- A result that is added to a findall.
use Rattle.std.proofs.Common.{◌≡◌, ℕ, zero, suc, ◌+◌, ◌<◌, Bool, true, false, cond, nat_eq, List, [], ◌∷◌, ◌++◌, append_assoc, length, length-append, slice_set, slice_get, take, drop, get_or, Result, Ok, Err, OnOk, OnErr, IsSomeAnd, refl, sym, ap, ap₂, ◌∙◌, subst, arith}
use Rattle.std.proofs.lemmas.Bool.Decides.{nat_tests}
use Rattle.std.proofs.lemmas.List.{take-append-drop, length-take-le, set-get_or}
use Rattle.cell_store.proofs.UndoingLemmas.{split_at}
use Rattle.region_split.proofs.CandidateLemmas.{IsThere, is_there}
use Rattle.region_split.proofs.CursorLemmas.{replaced}
use Rattle.au_term.specs.Term.{Term}
use Rattle.au_model.specs.Terms.Named.{NamedTerm}
use Rattle.run_model.specs.Machine.Items.{Continuation}
use Rattle.run_model.specs.Machine.Entries.{Entry, with_result, collected}
use Rattle.cell_store.specs.StoreView.{Moment}
use Rattle.region_split.specs.ChoicePoints.{RegionSetting, Standing, standing_over, nothing_standing, with_entries_on_top, choice_entries, alternative_entries, continuation_at, height_of_cut, AreAlternativesAt, AreChoicesOver, IsCollecting, with_found, frames_kept, AreMarked, AreMarkedOver}
use Rattle.region_split.specs.QueryEnds.{IsEnd, AreEndsOldest}
use Rattle.region_split.specs.Regions.{RegionView, left_here, region_setting, standing, entries_of, heights_of, IsConsistentRegion}
use Rattle.region_split.specs.StackOperations.{AddsResult, HasFindallAt}
use Rattle.region_split.specs.declared.choice.Alternatives.{Alternatives}
use Rattle.region_split.specs.declared.choice.Alternatives.TheVariants.{Clauses, Solutions, Elsewhere, Catch, Findall, QueryEnd}
use Rattle.region_split.specs.declared.choice.ChoicePoint.{ChoicePoint}
use Rattle.region_split.proofs.ResultLemmas.{more_results}
use Rattle.region_split.proofs.MarkLemmas.{IsAlike, all_marked, changed_kinds, marked_changed}
use Rattle.region_split.proofs.StandingLemmas.{standing-append, as_many, is_over, measured, own_height}
use Rattle.region_split.proofs.OldestEndLemmas.{oldest_changed}
use Rattle.region_split.proofs.RegionLemmas.{nothing_measured}

-- two stacks that differ in what is under them alone
record AreAlike (one two above_one above_two : Standing) : Type 0 where
  entries : List Entry
  first : above_one.entries ≡ entries ++ one.entries
  second : above_two.entries ≡ entries ++ two.entries
  heights : above_two.heights ≡ above_one.heights

alike : (s : RegionSetting) (one two : Standing) (cs : List ChoicePoint) (ms : List Moment) → length two.entries ≡ length one.entries → two.heights ≡ one.heights → AreAlike one two (standing_over s one cs ms) (standing_over s two cs ms)
alike s one two [] ms l h = record { entries = []; first = refl; second = refl; heights = h }
alike s one two (c ∷ cs) [] l h = record { entries = []; first = refl; second = refl; heights = h }
alike s one two (c ∷ cs) (m ∷ ms) l h =
    let own = choice_entries s one c m in
    let other = choice_entries s two c m in
    let same : other ≡ own = ap₂ (λ n hs. alternative_entries s m n (continuation_at s hs m c.after) c.alternatives) l h in
    let long : length (other ++ two.entries) ≡ length (own ++ one.entries) = length-append other two.entries ∙ (ap₂ (λ es n. length es + n) same l ∙ sym (length-append own one.entries)) in
    let rest = alike s (with_entries_on_top own one) (with_entries_on_top other two) cs ms long (ap₂ (λ hs n. hs ++ n ∷ []) h long) in
    record {
      entries = rest.entries ++ own;
      first = rest.first ∙ sym (append_assoc rest.entries own one.entries);
      second = rest.second ∙ (ap (λ es. rest.entries ++ (es ++ two.entries)) same ∙ sym (append_assoc rest.entries own two.entries));
      heights = rest.heights;
    }

-- the entry of a findall, without and with the result
record IsFindallEntry (s : RegionSetting) (m : Moment) (h : ℕ) (f : Continuation ℕ) (t : Term) (a : Alternatives) : Type 0 where
  entry : Entry
  was : alternative_entries s m h f a ≡ entry ∷ []
  is : alternative_entries s m h f (with_found t a) ≡ with_result t entry ∷ []

findall_entry : (s : RegionSetting) (m : Moment) (h : ℕ) (f : Continuation ℕ) (t : Term) (a : Alternatives) → IsCollecting a → IsFindallEntry s m h f t a
findall_entry s m h f t (Clauses goal clause left) k = absurd k
findall_entry s m h f t (Solutions left) k = absurd k
findall_entry s m h f t Elsewhere k = absurd k
findall_entry s m h f t (Catch catcher recovery) k = absurd k
findall_entry s m h f t (Findall list results) k = record { entry = _; was = refl; is = refl }
findall_entry s m h f t QueryEnd k = absurd k

found_values : (s : RegionSetting) (m : Moment) (t : Term) (a : Alternatives) → AreAlternativesAt s m a → AreAlternativesAt s m (with_found t a)
found_values s m t (Clauses goal clause left) v = v
found_values s m t (Solutions left) v = v
found_values s m t Elsewhere v = v
found_values s m t (Catch catcher recovery) v = v
found_values s m t (Findall list results) v = (v.0, more_results m.next t results v.1)
found_values s m t QueryEnd v = v

found_alike : (t : Term) (a : Alternatives) → IsAlike a (with_found t a)
found_alike t (Clauses goal clause left) = ((λ h. h), (λ h. h))
found_alike t (Solutions left) = ((λ h. h), (λ h. h))
found_alike t Elsewhere = ((λ h. h), (λ h. h))
found_alike t (Catch catcher recovery) = ((λ h. h), (λ h. h))
found_alike t (Findall list results) = ((λ h. h), (λ h. h))
found_alike t QueryEnd = ((λ h. h), (λ h. h))

found_end : (t : Term) (a : Alternatives) → (IsEnd a → IsEnd (with_found t a)) × (IsEnd (with_found t a) → IsEnd a)
found_end t (Clauses goal clause left) = ((λ h. h), (λ h. h))
found_end t (Solutions left) = ((λ h. h), (λ h. h))
found_end t Elsewhere = ((λ h. h), (λ h. h))
found_end t (Catch catcher recovery) = ((λ h. h), (λ h. h))
found_end t (Findall list results) = ((λ h. h), (λ h. h))
found_end t QueryEnd = ((λ h. h), (λ h. h))

collected_over : (h : ℕ) (t : Term) (above es : List Entry) (e : Entry) → length es ≡ h → collected h t (above ++ e ∷ es) ≡ above ++ with_result t e ∷ es
collected_over h t [] es e l = by_test (nat_eq (length es) h) refl
  where
    by_test : (b : Bool) → nat_eq (length es) h ≡ b → collected h t (e ∷ es) ≡ with_result t e ∷ es
    by_test true k = ap (λ b. cond b (with_result t e ∷ es) (e ∷ collected h t es)) k
    by_test false k = absurd (grind (arith, nat_tests))
collected_over h t (x ∷ above) es e l = by_test (collected_over h t above es e l) (nat_eq (length (above ++ e ∷ es)) h) refl
  where
    by_test : collected h t (above ++ e ∷ es) ≡ above ++ with_result t e ∷ es → (b : Bool) → nat_eq (length (above ++ e ∷ es)) h ≡ b → collected h t (x ∷ (above ++ e ∷ es)) ≡ x ∷ (above ++ with_result t e ∷ es)
    by_test rest true k = let n = length-append above (e ∷ es) in absurd (grind (arith, nat_tests))
    by_test rest false k = ap (λ b. cond b (with_result t x ∷ (above ++ e ∷ es)) (x ∷ collected h t (above ++ e ∷ es))) k ∙ ap (λ xs. x ∷ xs) rest

-- other alternatives in the place of a choice point's
choices_changed : (s : RegionSetting) (t : Term) (cut frames : ℕ) (xs ys : List ChoicePoint) (ns ps : List Moment) (c : ChoicePoint) (m : Moment) → length xs ≡ length ns → AreChoicesOver s cut frames (xs ++ c ∷ ys) (ns ++ m ∷ ps)
    → AreChoicesOver s cut frames (xs ++ record c { alternatives = with_found t c.alternatives } ∷ ys) (ns ++ m ∷ ps)
choices_changed s t cut frames [] ys [] ps c m l k = (record { own = k.0.own; older = k.0.older; scoped = k.0.scoped; values = found_values s m t c.alternatives k.0.values }, k.1)
choices_changed s t cut frames [] ys (n ∷ ns) ps c m l k = absurd (omega (arith, l))
choices_changed s t cut frames (x ∷ xs) ys [] ps c m l k = absurd (omega (arith, l))
choices_changed s t cut frames (x ∷ xs) ys (n ∷ ns) ps c m l k = (k.0, choices_changed s t (cut + 1) x.frames xs ys ns ps c m (omega (arith, l)) k.1)

kept_changed : (frames : ℕ) (xs ys : List ChoicePoint) (c : ChoicePoint) (a : Alternatives) → frames_kept frames (xs ++ record c { alternatives = a } ∷ ys) ≡ frames_kept frames (xs ++ c ∷ ys)
kept_changed frames [] ys c a = refl
kept_changed frames (x ∷ xs) ys c a = kept_changed x.frames xs ys c a

module _ (r : RegionView) (k : IsConsistentRegion r) (xs ys : List ChoicePoint) (c : ChoicePoint) (ns ps : List Moment) (m : Moment) (t : Term) (choices : r.choices ≡ xs ++ c ∷ ys) (marks : r.store.marks ≡ ns ++ m ∷ ps) (places : length xs ≡ length ns) (findall : IsCollecting c.alternatives) where
  abbrev found : ChoicePoint
  found = record c { alternatives = with_found t c.alternatives }

  abbrev with_one_more : RegionView
  with_one_more = record r { choices = xs ++ found ∷ ys }

  listed : AreChoicesOver (region_setting [] r) 0 0 (xs ++ c ∷ ys) (ns ++ m ∷ ps)
  listed = subst (AreChoicesOver (region_setting [] r) 0 0 (xs ++ c ∷ ys)) marks (subst (λ zs. AreChoicesOver (region_setting [] r) 0 0 zs r.store.marks) choices k.choices)

  pub found_region : IsConsistentRegion with_one_more
  found_region = record {
    program = k.program;
    older = k.older;
    choices = subst (AreChoicesOver (region_setting [] r) 0 0 (xs ++ found ∷ ys)) (sym marks) (choices_changed (region_setting [] r) t 0 0 xs ys ns ps c m places listed);
    ends = oldest_changed xs ys c (with_found t c.alternatives) (found_end t c.alternatives) (subst AreEndsOldest choices k.ends);
    marked = marked_changed r.text.bodies r.frames [] xs ys c (with_found t c.alternatives) (found_alike t c.alternatives) (subst (AreMarkedOver r.text.bodies r.frames []) choices k.marked);
    frames = let e = kept_changed 0 xs ys c (with_found t c.alternatives) in let f = ap (frames_kept 0) choices in let g = k.frames in omega (arith, e, f, g);
  }

  abbrev below : List NamedTerm → Standing
  below named = standing_over (region_setting named r) nothing_standing xs ns

  abbrev old_top : List NamedTerm → Standing
  old_top named = with_entries_on_top (choice_entries (region_setting named r) (below named) c m) (below named)

  abbrev new_top : List NamedTerm → Standing
  new_top named = with_entries_on_top (choice_entries (region_setting named r) (below named) found m) (below named)

  was : (named : List NamedTerm) → standing named r ≡ standing_over (region_setting named r) (old_top named) ys ps
  was named = ap₂ (λ cs ms. standing_over (region_setting named r) nothing_standing cs ms) choices marks ∙ standing-append (region_setting named r) nothing_standing xs (c ∷ ys) ns (m ∷ ps) places

  is : (named : List NamedTerm) → standing named with_one_more ≡ standing_over (region_setting named r) (new_top named) ys ps
  is named = ap (λ ms. standing_over (region_setting named r) nothing_standing (xs ++ found ∷ ys) ms) marks ∙ standing-append (region_setting named r) nothing_standing xs (found ∷ ys) ns (m ∷ ps) places

  own : (named : List NamedTerm) → IsFindallEntry (region_setting named r) m (length (below named).entries) (continuation_at (region_setting named r) (below named).heights m c.after) t c.alternatives
  own named = findall_entry (region_setting named r) m (length (below named).entries) (continuation_at (region_setting named r) (below named).heights m c.after) t c.alternatives findall

  as_long : (named : List NamedTerm) → length (new_top named).entries ≡ length (old_top named).entries
  as_long named = ap (λ (es : List Entry). length (es ++ (below named).entries)) (own named).is ∙ sym (ap (λ (es : List Entry). length (es ++ (below named).entries)) (own named).was)

  both : (named : List NamedTerm) → AreAlike (old_top named) (new_top named) (standing_over (region_setting named r) (old_top named) ys ps) (standing_over (region_setting named r) (new_top named) ys ps)
  both named = alike (region_setting named r) (old_top named) (new_top named) ys ps (as_long named) (ap (λ n. (below named).heights ++ n ∷ []) (as_long named))

  height : (named : List NamedTerm) → length (below named).entries ≡ height_of_cut (heights_of named r) (length xs)
  height named =
      let s = region_setting named r in
      sym (ap (λ (st : Standing). height_of_cut st.heights (length xs)) (ap₂ (λ cs ms. standing_over s nothing_standing cs ms) choices marks ∙ standing-append s nothing_standing xs (c ∷ ys) ns (m ∷ ps) places)
      ∙ own_height (below named) (standing_over s (below named) (c ∷ ys) (m ∷ ps)) (length xs) (measured s nothing_standing xs ns 0 (length xs) places (omega arith) nothing_measured) (is_over s (below named) (c ∷ ys) (m ∷ ps)))

  pub adds_result : AddsResult r with_one_more (length xs) t
  adds_result = record {
    entries = λ named.
        let es = (below named).entries in
        let above = (both named).entries in
        let e = (own named).entry in
        let before : entries_of named r ≡ above ++ e ∷ es = ap (λ (st : Standing). st.entries) (was named) ∙ ((both named).first ∙ ap (λ (fs : List Entry). above ++ (fs ++ es)) (own named).was) in
        let after : entries_of named with_one_more ≡ above ++ with_result t e ∷ es = ap (λ (st : Standing). st.entries) (is named) ∙ ((both named).second ∙ ap (λ (fs : List Entry). above ++ (fs ++ es)) (own named).is) in
        after ∙ sym (ap (λ n. collected n t (entries_of named r)) (sym (height named)) ∙ (ap (collected (length es) t) before ∙ collected_over (length es) t above es e refl));
    heights = λ named. ap (λ (st : Standing). st.heights) (is named) ∙ ((both named).heights ∙ sym (ap (λ (st : Standing). st.heights) (was named)));
    position = λ cut p i. record { frame = i.frame; scoped = i.scoped; marked = all_marked (xs ++ c ∷ ys) (xs ++ found ∷ ys) (left_here r p) (changed_kinds xs ys c found (found_alike t c.alternatives)) (subst (λ cs. AreMarked cs (left_here r p)) choices i.marked) };
    many = let a = ap length choices in let b = length-append xs (c ∷ ys) in let d = length-append xs (found ∷ ys) in omega (arith, a, b, d);
    others = refl;
  }

is_findall : (cs : List ChoicePoint) (i : ℕ) (x : ChoicePoint) → IsSomeAnd (slice_get cs i) (λ c. IsCollecting c.alternatives) → x ≡ get_or cs i x → (i < length cs) × IsCollecting x.alternatives
is_findall [] i x h e = absurd h
is_findall (c ∷ cs) zero x h e = (omega arith, subst (λ (y : ChoicePoint). IsCollecting y.alternatives) (sym e) h)
is_findall (c ∷ cs) (suc i) x h e = let rest = is_findall cs i x h e in (let lt = rest.0 in omega (arith, lt), rest.1)

-- as the code leaves it
module _ (r old : RegionView) (seen : r ≡ old) (k : IsConsistentRegion r) (over : ℕ) (x : ChoicePoint) (t : Term) (d : Alternatives) (has : HasFindallAt old over) (at : x ≡ get_or r.choices over x) where
  there : (over < length r.choices) × IsCollecting x.alternatives
  there = is_findall r.choices over x (subst (λ y. HasFindallAt y over) (sym seen) has) at

  parted : r.choices ≡ take over r.choices ++ x ∷ drop (over + 1) r.choices
  parted = split_at r.choices over x there.0 at

  mark : IsThere r.store.marks over
  mark = is_there r.store.marks over (let a = there.0 in let b = as_many (region_setting [] r) 0 0 r.choices r.store.marks k.choices in omega (arith, a, b))

  parted_marks : r.store.marks ≡ take over r.store.marks ++ mark.element ∷ drop (over + 1) r.store.marks
  parted_marks = sym (take-append-drop over r.store.marks) ∙ ap (λ ms. take over r.store.marks ++ ms) mark.first

  before_long : length (take over r.choices) ≡ over
  before_long = length-take-le over r.choices (let a = there.0 in omega (arith, a))

  places : length (take over r.choices) ≡ length (take over r.store.marks)
  places = before_long ∙ sym (length-take-le over r.store.marks (let a = there.0 in let b = as_many (region_setting [] r) 0 0 r.choices r.store.marks k.choices in omega (arith, a, b)))

  written : d ≡ with_found t x.alternatives → slice_set r.choices over (record x { alternatives = d }) ≡ take over r.choices ++ record x { alternatives = with_found t x.alternatives } ∷ drop (over + 1) r.choices
  written e =
      ap (λ a. slice_set r.choices over (record x { alternatives = a })) e
      ∙ (ap (λ cs. slice_set cs over (record x { alternatives = with_found t x.alternatives })) parted
      ∙ replaced (take over r.choices) (drop (over + 1) r.choices) x (record x { alternatives = with_found t x.alternatives }) over (sym before_long))

  pub result_region : d ≡ with_found t x.alternatives → IsConsistentRegion (record r { choices = slice_set r.choices over (record x { alternatives = d }) })
  result_region e = subst (λ (cs : List ChoicePoint). IsConsistentRegion (record r { choices = cs })) (sym (written e))
      (found_region r k (take over r.choices) (drop (over + 1) r.choices) x (take over r.store.marks) (drop (over + 1) r.store.marks) mark.element t parted parted_marks places there.1)

  pub result_added : d ≡ with_found t x.alternatives → AddsResult old (record r { choices = slice_set r.choices over (record x { alternatives = d }) }) over t
  result_added e =
      subst (λ (y : RegionView). AddsResult y (record r { choices = slice_set r.choices over (record x { alternatives = d }) }) over t) seen
      (subst (λ (cs : List ChoicePoint). AddsResult r (record r { choices = cs }) over t) (sym (written e))
      (subst (λ n. AddsResult r (record r { choices = take over r.choices ++ record x { alternatives = with_found t x.alternatives } ∷ drop (over + 1) r.choices }) n t) before_long
      (adds_result r k (take over r.choices) (drop (over + 1) r.choices) x (take over r.store.marks) (drop (over + 1) r.store.marks) mark.element t parted parted_marks places there.1)))

  pub same_choices : d ≡ x.alternatives → slice_set r.choices over (record x { alternatives = d }) ≡ r.choices
  same_choices e = ap (λ a. slice_set r.choices over (record x { alternatives = a })) e ∙ (ap (slice_set r.choices over) at ∙ set-get_or r.choices over x)

pub by_result : {X E : Type 0} (P Q C : Type 0) (r : Result X E) → OnOk r P → OnErr r Q → (P → C) → (Q → C) → C
by_result P Q C (Ok x) p q f g = f p
by_result P Q C (Err e) p q f g = g q

pub on_ok : {X E : Type 0} (P Q : Type 0) (r : Result X E) → OnOk r P → (P → Q) → OnOk r Q
on_ok P Q (Ok x) p f = f p
on_ok P Q (Err e) p f = tt
