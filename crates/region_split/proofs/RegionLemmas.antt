-- What each operation on a region leaves.
use Rattle.std.proofs.Common.{◌≡◌, ℕ, zero, suc, ◌+◌, ◌-◌, ◌<◌, ◌≤◌, List, [], ◌∷◌, ◌++◌, length, length-append, slice_set, take, drop, max, refl, sym, ap, ap₂, ◌∙◌, subst, arith}
use Rattle.std.proofs.lemmas.List.{take-append-drop, length-take-le}
use Rattle.std.proofs.Math.Seq.{take-append_seam}
use Rattle.std.proofs.Math.Nat.{le-max_left, le-max_right, max-le}
use Rattle.au_model.specs.Terms.Named.{NamedTerm}
use Rattle.run_model.specs.Machine.Items.{resolve_continuation}
use Rattle.run_model.specs.Machine.Entries.{PlainEntry}
use Rattle.cell_store.specs.StoreView.{Moment, StoreView, text_at, text_in, taken_back, with_mark, with_marks}
use Rattle.cell_store.proofs.UndoingLemmas.{take_within}
use Rattle.region_split.specs.Frames.{own_body_left, AreLeftScoped}
use Rattle.region_split.specs.ChoicePoints.{Standing, standing_over, nothing_standing, with_entries_on_top, continuation_at, height_of_cut, IsChoiceOver, AreChoicesOver, AreAlternativesAt, AreMarked, AreMarkedOver, frames_kept}
use Rattle.region_split.specs.QueryEnds.{AreEndsOldest, MayComeOver}
use Rattle.region_split.specs.Regions.{RegionView, left_here, region_setting, standing, entries_of, heights_of, entries_on, IsPositionIn, AreAlternativesIn, IsConsistentRegion}
use Rattle.region_split.specs.StackOperations.{AddsFrame, AddsChoice, CutsTo, TakesNewest, DropsNewest}
use Rattle.region_split.specs.declared.choice.ChoicePoint.{ChoicePoint}
use Rattle.region_split.specs.declared.frame.Frame.{Frame}
use Rattle.region_split.specs.declared.frame.Position.{Position}
use Rattle.region_split.proofs.FrameLemmas.{kept_left, pushed_left, taken_left, frames_over-append, frames_over-take}
use Rattle.region_split.proofs.MarkLemmas.{marked_kept, all_marked, more_kinds, cut_kinds, marked-append, marked_below, marked-take, marked_same}
use Rattle.region_split.proofs.OldestEndLemmas.{oldest-append, oldest-take, oldest_before}
use Rattle.region_split.proofs.ScopeLemmas.{same_heights}
use Rattle.region_split.proofs.StandingLemmas.{standing-append, IsOver, is_over, IsMeasured, measured, own_height, lowest_entries, heights_kept, AreSameTo, same_continuation, standing_same, choices_same, as_many, choices-append, choices_below, choice_on_top, choices-take, kept-take, kept-append, choices_named}

pub nothing_measured : IsMeasured nothing_standing 0
nothing_measured = record { before = []; is = refl; long = refl }

-- what is left at a position stays where heights do up to so many choice points
pub same_entry : (named : List NamedTerm) (r : RegionView) (hs ks : List ℕ) (cut next : ℕ) (p : Position) → ((n : ℕ) → n ≤ cut → height_of_cut hs n ≡ height_of_cut ks n) → AreLeftScoped (text_in r.store) next cut (left_here r p)
    → continuation_at (region_setting named r) hs r.store.now p ≡ continuation_at (region_setting named r) ks r.store.now p
same_entry named r hs ks cut next p same s = ap (λ items. resolve_continuation r.store.now.bound (record { items = items; named = named; next = r.store.now.next })) (same_heights hs ks (text_in r.store) next cut (left_here r p) same s)

-- a frame in place of those after so many
module _ (r : RegionView) (k : IsConsistentRegion r) (f : Frame) (n : ℕ) (kept : frames_kept 0 r.choices ≤ n) (own : f.after.frame ≤ n) (within : n ≤ length r.frames) where
  abbrev framed : List Frame
  framed = take n r.frames ++ f ∷ []

  framed_long : length framed ≡ n + 1
  framed_long = length-append (take n r.frames) (f ∷ []) ∙ (let l = length-take-le n r.frames within in omega (arith, l))

  same_to : AreSameTo (region_setting [] r) framed n
  same_to p le = kept_left r.text.bodies (take n r.frames) (f ∷ []) p (let l = length-take-le n r.frames within in omega (arith, l, le)) ∙ taken_left r.text.bodies n r.frames p within le

  pub framed_region : IsConsistentRegion (record r { frames = framed })
  framed_region = record { program = k.program; older = frames_over-append 0 n (take n r.frames) f (frames_over-take 0 n r.frames k.older) (let l = length-take-le n r.frames within in omega (arith, l)) own; choices = choices_same (region_setting [] r) framed n 0 0 r.choices r.store.marks same_to k.choices kept; frames = (let l = framed_long in omega (arith, l, kept)); marked = marked_same (region_setting [] r) framed n 0 0 [] r.choices r.store.marks same_to k.choices kept k.marked; ends = k.ends }

  stands : (named : List NamedTerm) → standing named (record r { frames = framed }) ≡ standing named r
  stands named = standing_same (region_setting named r) framed n 0 0 nothing_standing r.choices r.store.marks same_to (choices_named (region_setting [] r) named 0 0 r.choices r.store.marks k.choices) kept

  pub adds_frame : AddsFrame r (record r { frames = framed }) f (n + 1)
  adds_frame = record {
    there = let l = framed_long in omega (arith, l);
    younger = omega (arith, own);
    left = λ at. pushed_left r.text.bodies (take n r.frames) f (record { frame = n + 1; at = at }) (let l = length-take-le n r.frames within in omega (arith, l)) ∙ ap (λ is. own_body_left r.text.bodies f.body f.cut at ++ is) (taken_left r.text.bodies n r.frames f.after within own);
    stands = stands;
    keeps = record {
      position = λ cut p le i. record { frame = let l = framed_long in omega (arith, l, le, own); scoped = subst (AreLeftScoped (text_in r.store) r.store.now.next cut) (sym (same_to p (omega (arith, le, own)))) i.scoped; marked = subst (AreMarked r.choices) (sym (same_to p (omega (arith, le, own)))) i.marked };
      same = λ named p le i. ap PlainEntry (ap (λ (st : Standing). continuation_at (region_setting named (record r { frames = framed })) st.heights r.store.now p) (stands named) ∙ same_continuation (region_setting named r) framed n (heights_of named r) r.store.now p same_to (omega (arith, le, own)));
    };
    others = refl;
  }

-- a cut to all choice points leaves all entries
pub whole_height : (r : RegionView) (k : IsConsistentRegion r) (named : List NamedTerm) → height_of_cut (heights_of named r) (length r.choices) ≡ length (entries_of named r)
whole_height r k named =
    let s = region_setting named r in
    let many = as_many (region_setting [] r) 0 0 r.choices r.store.marks k.choices in
    own_height (standing named r) (standing named r) (length r.choices) (measured s nothing_standing r.choices r.store.marks 0 (length r.choices) many (omega arith) nothing_measured) (is_over s (standing named r) [] [])

-- a choice point on top
module _ (r : RegionView) (k : IsConsistentRegion r) (c : ChoicePoint) (own : c.after.frame ≤ c.frames) (older : frames_kept 0 r.choices ≤ c.frames) (within : c.frames ≤ length r.frames) (position : IsPositionIn r c.after) (values : AreAlternativesIn r c.alternatives) where
  abbrev topped : RegionView
  topped = record r { store = with_mark r.store; choices = r.choices ++ c ∷ [] }

  many : length r.choices ≡ length r.store.marks
  many = as_many (region_setting [] r) 0 0 r.choices r.store.marks k.choices

  pub topped_region : MayComeOver r.choices c.alternatives → IsConsistentRegion topped
  topped_region over = record {
    program = k.program;
    older = k.older;
    choices = choices-append (region_setting [] r) 0 0 (length r.choices) (frames_kept 0 r.choices) r.choices r.store.marks c r.store.now k.choices (omega arith) refl (record { own = own; older = older; scoped = position.scoped; values = values });
    frames = let e = kept-append 0 r.choices c in omega (arith, e, within);
    marked = marked-append r.text.bodies r.frames [] r.choices c k.marked position.marked;
    ends = oldest-append r.choices c over k.ends;
  }

  on_top : (named : List NamedTerm) → standing named topped ≡ with_entries_on_top (entries_on named r c r.store.now) (standing named r)
  on_top named = standing-append (region_setting named r) nothing_standing r.choices (c ∷ []) r.store.marks (r.store.now ∷ []) many

  still : (named : List NamedTerm) (n : ℕ) → n ≤ length r.choices → height_of_cut (heights_of named topped) n ≡ height_of_cut (heights_of named r) n
  still named n le =
      let m = measured (region_setting named r) nothing_standing r.choices r.store.marks 0 (length r.choices) many (omega arith) nothing_measured in
      ap (λ (st : Standing). height_of_cut st.heights n) (on_top named) ∙ heights_kept (standing named r) (with_entries_on_top (entries_on named r c r.store.now) (standing named r)) (length r.choices) n m (is_over (region_setting named r) (standing named r) (c ∷ []) (r.store.now ∷ [])) le

  pub adds_choice : AddsChoice r topped c.alternatives c.after
  adds_choice = record {
    choice = c;
    is = (refl, refl);
    entries = λ named. ap (λ (st : Standing). st.entries) (on_top named);
    heights = λ named. still named (length r.choices) (omega arith) ∙ whole_height r k named;
    older = still;
    keeps = record {
      position = λ cut p le i. record { frame = i.frame; scoped = i.scoped; marked = all_marked r.choices (r.choices ++ c ∷ []) (left_here r p) (more_kinds r.choices (c ∷ [])) i.marked };
      same = λ named p le i. ap PlainEntry (same_entry named r (heights_of named topped) (heights_of named r) (length r.choices) r.store.now.next p (still named) i.scoped);
    };
    others = refl;
  }

-- so many choice points, the oldest
module _ (r : RegionView) (k : IsConsistentRegion r) (n : ℕ) (le : n ≤ length r.choices) where
  abbrev cut_down : RegionView
  cut_down = record r { store = with_marks n r.store; choices = take n r.choices }

  as_long : length r.choices ≡ length r.store.marks
  as_long = as_many (region_setting [] r) 0 0 r.choices r.store.marks k.choices

  fewer : length (take n r.choices) ≡ n
  fewer = length-take-le n r.choices le

  fewer_marks : length (take n r.choices) ≡ length (take n r.store.marks)
  fewer_marks = fewer ∙ sym (length-take-le n r.store.marks (let e = as_long in omega (arith, e, le)))

  pub cut_region : IsConsistentRegion cut_down
  cut_region = record {
    program = k.program;
    older = k.older;
    choices = choices-take (region_setting [] r) 0 0 n r.choices r.store.marks k.choices;
    frames = let a = kept-take (region_setting [] r) 0 0 n r.choices r.store.marks k.choices in let b = k.frames in omega (arith, a, b);
    marked = marked-take r.text.bodies r.frames n [] r.choices k.marked;
    ends = oldest-take n r.choices k.ends;
  }

  over : (named : List NamedTerm) → IsOver (standing named cut_down) (standing named r)
  over named =
      let s = region_setting named r in
      let again : standing_over s (standing named cut_down) (drop n r.choices) (drop n r.store.marks) ≡ standing named r =
      sym (standing-append s nothing_standing (take n r.choices) (drop n r.choices) (take n r.store.marks) (drop n r.store.marks) fewer_marks)
      ∙ ap₂ (λ cs ms. standing_over s nothing_standing cs ms) (take-append-drop n r.choices) (take-append-drop n r.store.marks) in
      subst (IsOver (standing named cut_down)) again (is_over s (standing named cut_down) (drop n r.choices) (drop n r.store.marks))

  below : (named : List NamedTerm) → IsMeasured (standing named cut_down) n
  below named = measured (region_setting named r) nothing_standing (take n r.choices) (take n r.store.marks) 0 n fewer_marks (let e = fewer in omega (arith, e)) nothing_measured

  pub cuts_to : CutsTo r cut_down n
  cuts_to = record {
    entries = λ named. lowest_entries (standing named cut_down) (standing named r) n (below named) (over named);
    position = λ p i. record { frame = i.frame; scoped = subst (λ cut. AreLeftScoped (text_in r.store) r.store.now.next cut (left_here r p)) (sym fewer) i.scoped; marked = marked_kept (text_in r.store) r.store.now.next n n r.choices (take n r.choices) (left_here r p) (cut_kinds n r.choices) (omega arith) i.scoped i.marked };
    same = λ named p i. ap PlainEntry (same_entry named r (heights_of named cut_down) (heights_of named r) n r.store.now.next p (λ j lt. sym (heights_kept (standing named cut_down) (standing named r) n j (below named) (over named) lt)) i.scoped);
    text = refl;
    store = refl;
    frames = refl;
    choices = refl;
    heights = λ named j lt. sym (heights_kept (standing named cut_down) (standing named r) n j (below named) (over named) lt);
    count = fewer;
  }

-- the newest choice point is taken off
module _ (r : RegionView) (k : IsConsistentRegion r) (cs : List ChoicePoint) (c : ChoicePoint) (ms : List Moment) (m now : Moment) (choices : r.choices ≡ cs ++ c ∷ []) (marks : r.store.marks ≡ ms ++ m ∷ []) where
  abbrev pub lowered : RegionView
  lowered = record r { store = record r.store { now = now; marks = ms }; choices = cs }

  pub stacked : AreChoicesOver (region_setting [] r) 0 0 (cs ++ c ∷ []) (ms ++ m ∷ [])
  stacked = subst (AreChoicesOver (region_setting [] r) 0 0 (cs ++ c ∷ [])) marks (subst (λ xs. AreChoicesOver (region_setting [] r) 0 0 xs r.store.marks) choices k.choices)

  pub pairs : length cs ≡ length ms
  pairs =
      let whole = as_many (region_setting [] r) 0 0 (cs ++ c ∷ []) (ms ++ m ∷ []) stacked in
      let a = length-append cs (c ∷ []) in let b = length-append ms (m ∷ []) in omega (arith, whole, a, b)

  pub newest : IsChoiceOver (region_setting [] r) (length cs) (frames_kept 0 cs) c m
  newest = choice_on_top (region_setting [] r) 0 0 (length cs) cs ms c m pairs (omega arith) stacked

  pub last_kept : frames_kept 0 r.choices ≡ c.frames
  last_kept = ap (frames_kept 0) choices ∙ kept-append 0 cs c

  pub both_marked : AreMarkedOver r.text.bodies r.frames [] cs × AreMarked cs (left_here r c.after)
  both_marked = marked_below r.text.bodies r.frames [] cs c (subst (AreMarkedOver r.text.bodies r.frames []) choices k.marked)

  pub lowered_region : IsConsistentRegion lowered
  lowered_region = record {
    program = k.program;
    older = k.older;
    choices = choices_below (region_setting [] r) 0 0 cs ms c m pairs stacked;
    frames = let o = newest.older in let e = last_kept in let f = k.frames in omega (arith, o, e, f);
    marked = both_marked.0;
    ends = oldest_before cs (c ∷ []) (subst AreEndsOldest choices k.ends);
  }

  pub lowered_entries : (named : List NamedTerm) → entries_of named r ≡ entries_on named lowered c m ++ entries_of named lowered
  lowered_entries named =
      let s = region_setting named r in
      ap (λ (st : Standing). st.entries) (ap₂ (λ xs ys. standing_over s nothing_standing xs ys) choices marks ∙ standing-append s nothing_standing cs (c ∷ []) ms (m ∷ []) pairs)

  lowered_heights : (named : List NamedTerm) (n : ℕ) → n ≤ length cs → height_of_cut (heights_of named lowered) n ≡ height_of_cut (heights_of named r) n
  lowered_heights named n le =
      let s = region_setting named r in
      let under = standing_over s nothing_standing cs ms in
      let on_top : standing_over s under (c ∷ []) (m ∷ []) ≡ standing named r = sym (ap₂ (λ xs ys. standing_over s nothing_standing xs ys) choices marks ∙ standing-append s nothing_standing cs (c ∷ []) ms (m ∷ []) pairs) in
      sym (heights_kept under (standing named r) (length cs) n (measured s nothing_standing cs ms 0 (length cs) pairs (omega arith) nothing_measured) (subst (IsOver under) on_top (is_over s under (c ∷ []) (m ∷ []))) le)

  pub takes_newest : now ≡ m → TakesNewest r lowered c
  takes_newest e = record {
    entries = λ named. lowered_entries named ∙ ap (λ x. entries_on named lowered c x ++ entries_of named lowered) (sym e);
    position = record { frame = let o = newest.own in let e = last_kept in let f = k.frames in omega (arith, o, e, f); scoped = subst (λ (x : Moment). AreLeftScoped (text_at r.store x) x.next (length cs) (left_here r c.after)) (sym e) newest.scoped; marked = both_marked.1 };
    heights = lowered_heights;
    alternatives = subst (λ x. AreAlternativesAt (region_setting [] r) x c.alternatives) (sym e) newest.values;
    choices = choices;
    marked = marks ∙ ap (λ x. ms ++ x ∷ []) (sym e);
    store = refl;
    text = refl;
    frames = refl;
  }

-- frames as they were written
pub written_over : (fs : List Frame) (n : ℕ) (f : Frame) → n < length fs → take (n + 1) (slice_set fs n f) ≡ take n fs ++ f ∷ []
written_over [] n f lt = absurd (omega (arith, lt))
written_over (g ∷ fs) zero f lt = refl
written_over (g ∷ fs) (suc n) f lt = let k : suc n + 1 ≡ suc (n + 1) = omega arith in rw k (ap (λ gs. g ∷ gs) (written_over fs n f (omega (arith, lt))))

-- a list with its last element apart
pub record EndsWith {X : Type 0} (xs : List X) (n : ℕ) : Type 0 where
  pub before : List X
  pub last : X
  pub is : xs ≡ before ++ last ∷ []
  pub long : length before ≡ n

pub ends_with : {X : Type 0} (xs : List X) (n : ℕ) → length xs ≡ n + 1 → EndsWith xs n
ends_with [] n e = absurd (omega (arith, e))
ends_with (x ∷ []) n e = record { before = []; last = x; is = refl; long = omega (arith, e) }
ends_with (x ∷ y ∷ xs) n e =
    let rest = ends_with (y ∷ xs) (n - 1) (omega (arith, e)) in
    record { before = x ∷ rest.before; last = rest.last; is = ap (λ zs. x ∷ zs) rest.is; long = let l = rest.long in omega (arith, l, e) }

-- the store at the newest mark, and without it
pub back_at : (st now : StoreView) (ms : List Moment) (m : Moment) (n : ℕ) → st.marks ≡ ms ++ m ∷ [] → length ms ≡ n → now ≡ with_marks n (taken_back m (with_marks (n + 1) st)) → now ≡ record st { now = m; marks = ms }
back_at st now ms m n e l is =
    let oldest : take n (take (n + 1) st.marks) ≡ ms = take_within n (n + 1) st.marks (omega arith) ∙ (ap (take n) e ∙ (ap (λ i. take i (ms ++ m ∷ [])) (sym l) ∙ take-append_seam ms (m ∷ []))) in
    is ∙ ap (λ (ns : List Moment). record st { now = m; marks = ns }) oldest

pub without_newest : (st now : StoreView) (ms : List Moment) (m : Moment) (n : ℕ) → st.marks ≡ ms ++ m ∷ [] → length ms ≡ n → now ≡ with_marks n st → now ≡ record st { marks = ms }
without_newest st now ms m n e l is =
    let oldest : take n st.marks ≡ ms = ap (take n) e ∙ (ap (λ i. take i (ms ++ m ∷ [])) (sym l) ∙ take-append_seam ms (m ∷ [])) in
    is ∙ ap (λ (ns : List Moment). record st { marks = ns }) oldest

-- the newest choice point is taken off, and nothing undone
module _ (r : RegionView) (k : IsConsistentRegion r) (cs : List ChoicePoint) (c : ChoicePoint) (ms : List Moment) (m : Moment) (choices : r.choices ≡ cs ++ c ∷ []) (marks : r.store.marks ≡ ms ++ m ∷ []) where
  abbrev dropped : RegionView
  dropped = lowered r k cs c ms m r.store.now choices marks

  shorter : length cs ≤ length r.choices
  shorter = let a = ap length choices in let b = length-append cs (c ∷ []) in omega (arith, a, b)

  cut_choices : take (length cs) r.choices ≡ cs
  cut_choices = ap (take (length cs)) choices ∙ take-append_seam cs (c ∷ [])

  cut_store : with_marks (length cs) r.store ≡ record r.store { marks = ms }
  cut_store = without_newest r.store (with_marks (length cs) r.store) ms m (length cs) marks (sym (pairs r k cs c ms m r.store.now choices marks)) refl

  same_region : cut_down r k (length cs) shorter ≡ dropped
  same_region = ap₂ (λ st xs. record r { store = st; choices = xs }) cut_store cut_choices

  pub drops_newest : DropsNewest r dropped c
  drops_newest = record {
    moment = m;
    marked = marks;
    entries = lowered_entries r k cs c ms m r.store.now choices marks;
    choices = choices;
    cuts = subst (λ x. CutsTo r x (length cs)) same_region (cuts_to r k (length cs) shorter);
  }

-- a frame after those that are kept, and no more frames are kept than there are
module _ (r old : RegionView) (seen : r ≡ old) (k : IsConsistentRegion r) (f : Frame) (kept n number : ℕ) (there : f.after.frame ≤ length old.frames) (kept_is : kept ≡ frames_kept 0 r.choices) (n_is : n ≡ max kept f.after.frame) (number_is : number ≡ n + 1) where
  older : frames_kept 0 r.choices ≤ n
  older = let a = kept_is in let b = n_is in let m = le-max_left kept f.after.frame in omega (arith, a, b, m)

  own : f.after.frame ≤ n
  own = let b = n_is in let m = le-max_right kept f.after.frame in omega (arith, b, m)

  pub frames_within : n ≤ length r.frames
  frames_within =
      let a = kept_is in let b = n_is in let g = k.frames in
      let below : f.after.frame ≤ length r.frames = subst (λ (x : RegionView). f.after.frame ≤ length x.frames) (sym seen) there in
      let few : kept ≤ length r.frames = omega (arith, a, g) in
      let m = max-le few below in omega (arith, b, m)

  pub frame_region : (fs : List Frame) → fs ≡ take n r.frames ++ f ∷ [] → IsConsistentRegion (record r { frames = fs })
  frame_region fs e = subst (λ (x : List Frame). IsConsistentRegion (record r { frames = x })) (sym e) (framed_region r k f n older own frames_within)

  pub frame_added : (fs : List Frame) → fs ≡ take n r.frames ++ f ∷ [] → AddsFrame old (record r { frames = fs }) f number
  frame_added fs e =
      subst (λ (x : RegionView). AddsFrame x (record r { frames = fs }) f number) seen
      (subst (λ (x : List Frame). AddsFrame r (record r { frames = x }) f number) (sym e)
      (subst (AddsFrame r (record r { frames = take n r.frames ++ f ∷ [] }) f) (sym number_is) (adds_frame r k f n older own frames_within)))
