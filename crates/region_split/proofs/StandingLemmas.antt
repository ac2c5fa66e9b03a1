-- The entries of choice points over one another.
use Rattle.std.proofs.Common.{◌≡◌, ℕ, zero, suc, ◌+◌, ◌-◌, ◌≤◌, List, [], ◌∷◌, ◌++◌, append_assoc, append-nil, length, length-append, take, drop, get_or, map, refl, sym, ap, ◌∙◌, subst, arith}
use Rattle.std.proofs.lemmas.List.{get_or_append_left}
use Rattle.std.proofs.Math.Seq.{get_or-append_seam, drop-append_seam}
use Rattle.au_model.specs.Terms.Named.{NamedTerm}
use Rattle.run_model.specs.Machine.Items.{Continuation, resolve_continuation}
use Rattle.run_model.specs.Machine.Entries.{Entry, lowest}
use Rattle.cell_store.specs.StoreView.{Moment}
use Rattle.region_split.specs.Frames.{left_items, item_in, AreLeftScoped}
use Rattle.region_split.specs.ChoicePoints.{RegionSetting, code_at, Standing, standing_over, with_entries_on_top, choice_entries, alternative_entries, continuation_at, AreAlternativesAt, IsChoiceOver, AreChoicesOver, frames_kept, height_of_cut, by_height}
use Rattle.region_split.specs.declared.choice.Alternatives.{Alternatives}
use Rattle.region_split.specs.declared.choice.Alternatives.TheVariants.{Clauses, Solutions, Elsewhere, Catch, Findall, QueryEnd}
use Rattle.region_split.specs.declared.choice.ChoicePoint.{ChoicePoint}
use Rattle.region_split.specs.declared.frame.Frame.{Frame}
use Rattle.region_split.specs.declared.frame.Position.{Position}

pub standing-append : (s : RegionSetting) (below : Standing) (cs ds : List ChoicePoint) (ms ns : List Moment) → length cs ≡ length ms → standing_over s below (cs ++ ds) (ms ++ ns) ≡ standing_over s (standing_over s below cs ms) ds ns
standing-append s below [] ds [] ns e = refl
standing-append s below [] ds (m ∷ ms) ns e = absurd (omega (arith, e))
standing-append s below (c ∷ cs) ds [] ns e = absurd (omega (arith, e))
standing-append s below (c ∷ cs) ds (m ∷ ms) ns e = standing-append s (with_entries_on_top (choice_entries s below c m) below) cs ds ms ns (omega (arith, e))

-- entries and heights came on top
pub record IsOver (below above : Standing) : Type 0 where
  pub entries : List Entry
  pub are : above.entries ≡ entries ++ below.entries
  pub heights : List ℕ
  pub heights_are : above.heights ≡ below.heights ++ heights

pub is_over : (s : RegionSetting) (below : Standing) (cs : List ChoicePoint) (ms : List Moment) → IsOver below (standing_over s below cs ms)
is_over s below [] ms = record { entries = []; are = refl; heights = []; heights_are = sym (append-nil below.heights) }
is_over s below (c ∷ cs) [] = record { entries = []; are = refl; heights = []; heights_are = sym (append-nil below.heights) }
is_over s below (c ∷ cs) (m ∷ ms) =
    let own = choice_entries s below c m in
    let n = length (own ++ below.entries) in
    let rest = is_over s (with_entries_on_top own below) cs ms in
    record { entries = rest.entries ++ own; are = rest.are ∙ sym (append_assoc rest.entries own below.entries); heights = n ∷ rest.heights; heights_are = rest.heights_are ∙ append_assoc below.heights (n ∷ []) rest.heights }

-- the last height is that of all, and so many are before it
pub record IsMeasured (below : Standing) (cut : ℕ) : Type 0 where
  pub before : List ℕ
  pub is : below.heights ≡ before ++ length below.entries ∷ []
  pub long : length before ≡ cut

pub measured : (s : RegionSetting) (below : Standing) (cs : List ChoicePoint) (ms : List Moment) (cut n : ℕ) → length cs ≡ length ms → n ≡ cut + length cs → IsMeasured below cut → IsMeasured (standing_over s below cs ms) n
measured s below [] ms cut n e is m = record { before = m.before; is = m.is; long = let l = m.long in omega (arith, is, l) }
measured s below (c ∷ cs) [] cut n e is m = absurd (omega (arith, e))
measured s below (c ∷ cs) (k ∷ ms) cut n e is m =
    let longer : length below.heights ≡ cut + 1 = ap length m.is ∙ (length-append m.before (length below.entries ∷ []) ∙ (let l = m.long in omega (arith, l))) in
    measured s (with_entries_on_top (choice_entries s below c k) below) cs ms (cut + 1) n (omega (arith, e)) (omega (arith, is)) (record { before = below.heights; is = refl; long = longer })

-- the height over the older ones is how many entries they stand for
pub own_height : (below above : Standing) (cut : ℕ) → IsMeasured below cut → IsOver below above → height_of_cut above.heights cut ≡ length below.entries
own_height below above cut m o =
    let n = length below.entries in
    let seen : above.heights ≡ m.before ++ n ∷ o.heights = o.heights_are ∙ (ap (λ hs. hs ++ o.heights) m.is ∙ append_assoc m.before (n ∷ []) o.heights) in
    ap (λ hs. get_or hs cut 0) seen ∙ (ap (λ i. get_or (m.before ++ n ∷ o.heights) i 0) (sym m.long) ∙ get_or-append_seam m.before n o.heights 0)

-- the entries of the oldest ones are the lowest
pub lowest_entries : (below above : Standing) (cut : ℕ) → IsMeasured below cut → IsOver below above → below.entries ≡ lowest (height_of_cut above.heights cut) above.entries
lowest_entries below above cut m o =
    let height = own_height below above cut m o in
    let long : length above.entries ≡ length o.entries + length below.entries = ap length o.are ∙ length-append o.entries below.entries in
    let over : length above.entries - height_of_cut above.heights cut ≡ length o.entries = omega (arith, long, height) in
    sym (ap (λ i. drop i above.entries) over ∙ (ap (drop (length o.entries)) o.are ∙ drop-append_seam o.entries below.entries))

-- the heights up to those of the older ones stay
pub heights_kept : (below above : Standing) (cut n : ℕ) → IsMeasured below cut → IsOver below above → n ≤ cut → height_of_cut above.heights n ≡ height_of_cut below.heights n
heights_kept below above cut n m o le =
    let long : length below.heights ≡ cut + 1 = ap length m.is ∙ (length-append m.before (length below.entries ∷ []) ∙ (let l = m.long in omega (arith, l))) in
    ap (λ hs. get_or hs n 0) o.heights_are ∙ get_or_append_left below.heights o.heights 0 n (omega (arith, long, le))

-- other frames in which as much is left up to a number
abbrev pub with_frames : List Frame → RegionSetting → RegionSetting
with_frames fs s = record s { frames = fs }

abbrev pub AreSameTo : RegionSetting → List Frame → ℕ → Type 0
AreSameTo s fs n = (p : Position) → p.frame ≤ n → left_items s.text.bodies fs p ≡ left_items s.text.bodies s.frames p

same_alternatives : (s : RegionSetting) (fs : List Frame) (m : Moment) (h : ℕ) (f : Continuation ℕ) (a : Alternatives) → alternative_entries (with_frames fs s) m h f a ≡ alternative_entries s m h f a
same_alternatives s fs m h f (Clauses goal clause left) = refl
same_alternatives s fs m h f (Solutions left) = refl
same_alternatives s fs m h f Elsewhere = refl
same_alternatives s fs m h f (Catch catcher recovery) = refl
same_alternatives s fs m h f (Findall list results) = refl
same_alternatives s fs m h f QueryEnd = refl

pub same_values : (s : RegionSetting) (fs : List Frame) (m : Moment) (a : Alternatives) → AreAlternativesAt s m a → AreAlternativesAt (with_frames fs s) m a
same_values s fs m (Clauses goal clause left) v = v
same_values s fs m (Solutions left) v = v
same_values s fs m Elsewhere v = v
same_values s fs m (Catch catcher recovery) v = v
same_values s fs m (Findall list results) v = v
same_values s fs m QueryEnd v = v

pub same_continuation : (s : RegionSetting) (fs : List Frame) (n : ℕ) (hs : List ℕ) (m : Moment) (p : Position) → AreSameTo s fs n → p.frame ≤ n → continuation_at (with_frames fs s) hs m p ≡ continuation_at s hs m p
same_continuation s fs n hs m p same le = ap (λ left. resolve_continuation m.bound (record { items = map (by_height hs) (map (item_in (code_at s m)) left); named = s.named; next = m.next })) (same p le)

same_choice : (s : RegionSetting) (fs : List Frame) (n : ℕ) (below : Standing) (c : ChoicePoint) (m : Moment) → AreSameTo s fs n → c.after.frame ≤ n → choice_entries (with_frames fs s) below c m ≡ choice_entries s below c m
same_choice s fs n below c m same le =
    same_alternatives s fs m (length below.entries) (continuation_at (with_frames fs s) below.heights m c.after) c.alternatives
    ∙ ap (λ f. alternative_entries s m (length below.entries) f c.alternatives) (same_continuation s fs n below.heights m c.after same le)

-- no choice point keeps fewer frames than older ones
pub kept_more : (s : RegionSetting) (cut frames : ℕ) (cs : List ChoicePoint) (ms : List Moment) → AreChoicesOver s cut frames cs ms → frames ≤ frames_kept frames cs
kept_more s cut frames [] ms k = omega arith
kept_more s cut frames (c ∷ cs) [] k = absurd k
kept_more s cut frames (c ∷ cs) (m ∷ ms) k = let o = k.0.older in let more = kept_more s (cut + 1) c.frames cs ms k.1 in omega (arith, o, more)

pub standing_same : (s : RegionSetting) (fs : List Frame) (n cut frames : ℕ) (below : Standing) (cs : List ChoicePoint) (ms : List Moment) → AreSameTo s fs n → AreChoicesOver s cut frames cs ms → frames_kept frames cs ≤ n → standing_over (with_frames fs s) below cs ms ≡ standing_over s below cs ms
standing_same s fs n cut frames below [] ms same k le = refl
standing_same s fs n cut frames below (c ∷ cs) [] same k le = absurd k
standing_same s fs n cut frames below (c ∷ cs) (m ∷ ms) same k le =
    let o = k.0.own in let more = kept_more s (cut + 1) c.frames cs ms k.1 in
    let own = same_choice s fs n below c m same (omega (arith, o, more, le)) in
    ap (λ es. standing_over (with_frames fs s) (with_entries_on_top es below) cs ms) own ∙ standing_same s fs n (cut + 1) c.frames (with_entries_on_top (choice_entries s below c m) below) cs ms same k.1 le

pub choices_same : (s : RegionSetting) (fs : List Frame) (n cut frames : ℕ) (cs : List ChoicePoint) (ms : List Moment) → AreSameTo s fs n → AreChoicesOver s cut frames cs ms → frames_kept frames cs ≤ n → AreChoicesOver (with_frames fs s) cut frames cs ms
choices_same s fs n cut frames [] [] same k le = tt
choices_same s fs n cut frames [] (m ∷ ms) same k le = absurd k
choices_same s fs n cut frames (c ∷ cs) [] same k le = absurd k
choices_same s fs n cut frames (c ∷ cs) (m ∷ ms) same k le =
    let o = k.0.own in let more = kept_more s (cut + 1) c.frames cs ms k.1 in (
      record { own = k.0.own; older = k.0.older; scoped = subst (AreLeftScoped (code_at s m) m.next cut) (sym (same c.after (omega (arith, o, more, le)))) k.0.scoped; values = same_values s fs m c.alternatives k.0.values },
      choices_same s fs n (cut + 1) c.frames cs ms same k.1 le,
    )

pub as_many : (s : RegionSetting) (cut frames : ℕ) (cs : List ChoicePoint) (ms : List Moment) → AreChoicesOver s cut frames cs ms → length cs ≡ length ms
as_many s cut frames [] [] k = refl
as_many s cut frames [] (m ∷ ms) k = absurd k
as_many s cut frames (c ∷ cs) [] k = absurd k
as_many s cut frames (c ∷ cs) (m ∷ ms) k = let rest = as_many s (cut + 1) c.frames cs ms k.1 in omega (arith, rest)

-- one more on top
pub choices-append : (s : RegionSetting) (cut frames at kept : ℕ) (cs : List ChoicePoint) (ms : List Moment) (c : ChoicePoint) (m : Moment) → AreChoicesOver s cut frames cs ms → at ≡ cut + length cs → kept ≡ frames_kept frames cs → IsChoiceOver s at kept c m → AreChoicesOver s cut frames (cs ++ c ∷ []) (ms ++ m ∷ [])
choices-append s cut frames at kept [] [] c m k a e o = let same : at ≡ cut = omega (arith, a) in (subst (λ n. IsChoiceOver s n frames c m) same (subst (λ n. IsChoiceOver s at n c m) e o), tt)
choices-append s cut frames at kept [] (n ∷ ms) c m k a e o = absurd k
choices-append s cut frames at kept (d ∷ cs) [] c m k a e o = absurd k
choices-append s cut frames at kept (d ∷ cs) (n ∷ ms) c m k a e o = (k.0, choices-append s (cut + 1) d.frames at kept cs ms c m k.1 (omega (arith, a)) e o)

-- and taken off
pub choices_below : (s : RegionSetting) (cut frames : ℕ) (cs : List ChoicePoint) (ms : List Moment) (c : ChoicePoint) (m : Moment) → length cs ≡ length ms → AreChoicesOver s cut frames (cs ++ c ∷ []) (ms ++ m ∷ []) → AreChoicesOver s cut frames cs ms
choices_below s cut frames [] [] c m e k = tt
choices_below s cut frames [] (n ∷ ms) c m e k = absurd (omega (arith, e))
choices_below s cut frames (d ∷ cs) [] c m e k = absurd (omega (arith, e))
choices_below s cut frames (d ∷ cs) (n ∷ ms) c m e k = (k.0, choices_below s (cut + 1) d.frames cs ms c m (omega (arith, e)) k.1)

pub choice_on_top : (s : RegionSetting) (cut frames at : ℕ) (cs : List ChoicePoint) (ms : List Moment) (c : ChoicePoint) (m : Moment) → length cs ≡ length ms → at ≡ cut + length cs → AreChoicesOver s cut frames (cs ++ c ∷ []) (ms ++ m ∷ []) → IsChoiceOver s at (frames_kept frames cs) c m
choice_on_top s cut frames at [] [] c m e a k = let same : cut ≡ at = omega (arith, a) in subst (λ n. IsChoiceOver s n frames c m) same k.0
choice_on_top s cut frames at [] (n ∷ ms) c m e a k = absurd (omega (arith, e))
choice_on_top s cut frames at (d ∷ cs) [] c m e a k = absurd (omega (arith, e))
choice_on_top s cut frames at (d ∷ cs) (n ∷ ms) c m e a k = choice_on_top s (cut + 1) d.frames at cs ms c m (omega (arith, e)) (omega (arith, a)) k.1

-- the oldest ones alone
pub choices-take : (s : RegionSetting) (cut frames n : ℕ) (cs : List ChoicePoint) (ms : List Moment) → AreChoicesOver s cut frames cs ms → AreChoicesOver s cut frames (take n cs) (take n ms)
choices-take s cut frames zero cs ms k = tt
choices-take s cut frames (suc n) [] [] k = tt
choices-take s cut frames (suc n) [] (m ∷ ms) k = absurd k
choices-take s cut frames (suc n) (c ∷ cs) [] k = absurd k
choices-take s cut frames (suc n) (c ∷ cs) (m ∷ ms) k = (k.0, choices-take s (cut + 1) c.frames n cs ms k.1)

pub kept-take : (s : RegionSetting) (cut frames n : ℕ) (cs : List ChoicePoint) (ms : List Moment) → AreChoicesOver s cut frames cs ms → frames_kept frames (take n cs) ≤ frames_kept frames cs
kept-take s cut frames zero cs ms k = kept_more s cut frames cs ms k
kept-take s cut frames (suc n) [] [] k = omega arith
kept-take s cut frames (suc n) [] (m ∷ ms) k = absurd k
kept-take s cut frames (suc n) (c ∷ cs) [] k = absurd k
kept-take s cut frames (suc n) (c ∷ cs) (m ∷ ms) k = kept-take s (cut + 1) c.frames n cs ms k.1

pub kept-append : (frames : ℕ) (cs : List ChoicePoint) (c : ChoicePoint) → frames_kept frames (cs ++ c ∷ []) ≡ c.frames
kept-append frames [] c = refl
kept-append frames (d ∷ cs) c = kept-append d.frames cs c

pub newest_keeps : (frames : ℕ) (cs : List ChoicePoint) (i : ℕ) (c : ChoicePoint) → length cs ≡ suc i → c ≡ get_or cs i c → c.frames ≡ frames_kept frames cs
newest_keeps frames [] i c l e = absurd (omega (arith, l))
newest_keeps frames (d ∷ []) zero c l e = ap (λ (x : ChoicePoint). x.frames) e
newest_keeps frames (d ∷ []) (suc i) c l e = absurd (omega (arith, l))
newest_keeps frames (d ∷ b ∷ cs) zero c l e = absurd (omega (arith, l))
newest_keeps frames (d ∷ b ∷ cs) (suc i) c l e = newest_keeps d.frames (b ∷ cs) i c (omega (arith, l)) e

-- what the named variables are does not matter
named_values : (s : RegionSetting) (named : List NamedTerm) (m : Moment) (a : Alternatives) → AreAlternativesAt s m a → AreAlternativesAt (record s { named = named }) m a
named_values s named m (Clauses goal clause left) v = v
named_values s named m (Solutions left) v = v
named_values s named m Elsewhere v = v
named_values s named m (Catch catcher recovery) v = v
named_values s named m (Findall list results) v = v
named_values s named m QueryEnd v = v

pub choices_named : (s : RegionSetting) (named : List NamedTerm) (cut frames : ℕ) (cs : List ChoicePoint) (ms : List Moment) → AreChoicesOver s cut frames cs ms → AreChoicesOver (record s { named = named }) cut frames cs ms
choices_named s named cut frames [] [] k = tt
choices_named s named cut frames [] (m ∷ ms) k = absurd k
choices_named s named cut frames (c ∷ cs) [] k = absurd k
choices_named s named cut frames (c ∷ cs) (m ∷ ms) k =
    (record { own = k.0.own; older = k.0.older; scoped = k.0.scoped; values = named_values s named m c.alternatives k.0.values }, choices_named s named (cut + 1) c.frames cs ms k.1)
