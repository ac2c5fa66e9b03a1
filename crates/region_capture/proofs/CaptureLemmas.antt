-- A region that is taken off, choice point by choice point.
use Rattle.std.proofs.Common.{◌≡◌, ℕ, ◌+◌, ◌-◌, ◌<◌, ◌≤◌, List, [], ◌∷◌, ◌++◌, append_assoc, append-nil, length, length-append, drop, map, take, slice_get, Some, refl, sym, ap, ◌∙◌, subst, arith, ◌⊎◌, zero, suc, Bool, true, false, ◌==◌, nat_lt, inl, inr}
use Rattle.std.proofs.lemmas.Bool.Decides.{nat_tests}
use Rattle.std.proofs.lemmas.List.{same_from_push, drop-append-le}
use Rattle.std.proofs.Math.Seq.{take-append_seam}
use Rattle.au_term.specs.Term.{Term}
use Rattle.au_term.specs.declared.segment.Binding.{Binding}
use Rattle.au_model.specs.Terms.Each.{Each}
use Rattle.au_model.specs.Terms.Named.{NamedTerm}
use Rattle.au_model.specs.Terms.Substitutions.{value_of, resolve}
use Rattle.run_model.specs.Laws.Numbering.{IsNamedBelow}
use Rattle.run_model.specs.Machine.Entries.{Entry, PlainEntry}
use Rattle.cell_store.specs.StoreView.{Moment}
use Rattle.branch_bindings.specs.Extensions.{ExtendsBy}
use Rattle.region_split.specs.ChoicePoints.{height_of_cut}
use Rattle.region_split.specs.QueryEnds.{StandsForNoEnd}
use Rattle.region_split.specs.Regions.{RegionView, entries_of, heights_of, items_here, position_entry, IsPositionIn}
use Rattle.region_split.specs.declared.choice.ChoicePoint.{ChoicePoint}
use Rattle.region_split.specs.declared.frame.Position.{Position}
use Rattle.region_split.proofs.RegionLemmas.{EndsWith, ends_with}
use Rattle.au_model.proofs.EachLemmas.{each-append, each-more}
use Rattle.run_model.specs.Machine.Items.{Item, GoalItem, CatchMark, CollectMark, RemovalItem, resolve_item}
use Rattle.region_capture.proofs.PositionLemmas.{items_marked, items_over, later_marks}
use Rattle.region_capture.specs.CapturedItems.{ItemLists, AddsItems, IsItemOver}
use Rattle.region_capture.specs.CapturedMeanings.{captured_bindings, MeansAlternative, MeantAlternative, meant_continuation}
use Rattle.region_capture.specs.CapturedChoices.{BoundThen, MeantChoice, group_entries, bound_under, CaptureChoices, meant_entries, AreHeightsOf, IsGuardOver, MarksGuard, MarkGuards}
use Rattle.region_capture.specs.CapturedRegions.{IsCaptureFloor, bound_at, CapturesRegion}
use Rattle.region_capture.specs.CaptureSteps.{CapturesNewest, HasNewestBelow, HasOwnOnTop, IsGuarding, IsGuardAt, HasMarkAt, HasMarksAt}
use Rattle.region_capture.specs.KeptLevels.{AreReachedIn, IsItemReached, KeepsLevel, KeepsChoice}
use Rattle.region_capture.specs.NeededBindings.{CapturesCurrent}
use Rattle.region_capture.specs.declared.captured.Captured.{Captured}
use Rattle.region_capture.specs.declared.captured.CapturedAlternative.{CapturedAlternative}
use Rattle.region_capture.specs.declared.captured.CapturedChoice.{CapturedChoice}
use Rattle.region_capture.proofs.KeptLemmas.{kept_to, keep_of, keeps_older, keeps_seen, stays, term_stays}
use Rattle.region_capture.proofs.KeptChoiceLemmas.{continuation_same, kept_choice, map_long, level_kept, under_next, choices_kept, meant_same, heights_same, marks_kept, each_marks_kept}
use Rattle.region_capture.proofs.ReachLemmas.{items_still}
use Rattle.region_capture.proofs.ChoiceLemmas.{KeepChoices, choices_later, level_later, under_more, under-append, choices-append, entries-append, heights-append}
use Rattle.region_capture.proofs.ComesBackLemmas.{whole_height}
use Rattle.region_capture.proofs.ItemLemmas.{got_still, got_next, items_kept}
use Rattle.region_capture.proofs.MeantLemmas.{same_entries}

-- the newest mark
abbrev pub IsNewest : RegionView → Moment → Type 0
IsNewest r m = (before : List Moment) × (r.store.marks ≡ before ++ m ∷ [])

-- choice points were taken off down to those of a region
pub record CapturesDownTo (old r : RegionView) (floor : ℕ) (lists : ItemLists) (taken : List CapturedChoice) (p : Position) (bs : List Binding) (seen : List Bool) : Type 0 where
  pub choices : List MeantChoice
  pub captured : (m : Moment) → IsNewest r m → KeepChoices lists (bound_at m) (length r.choices) seen taken choices
  pub current : (top : Moment) → IsNewest old top → KeepsLevel (bound_at top) (bound_at old.store.now) seen bs
  pub reached : Each (IsItemReached old.store.now.next seen) (items_here old p)
  pub long : length seen ≡ old.store.now.next
  pub newest : (m top : Moment) → IsNewest r m → IsNewest old top → bound_under (bound_at m) choices ≡ bound_at top
  pub entries : (named : List NamedTerm) → entries_of named old ≡ meant_entries (heights_of named old) named choices ++ entries_of named r
  pub heights : (named : List NamedTerm) → AreHeightsOf (heights_of named old) named (length r.choices) (length (entries_of named r)) choices
  pub below : (named : List NamedTerm) (n : ℕ) → n ≤ length r.choices → height_of_cut (heights_of named r) n ≡ height_of_cut (heights_of named old) n
  pub rest : List ChoicePoint
  pub were : old.choices ≡ r.choices ++ rest
  pub moments : List Moment
  pub marked : old.store.marks ≡ r.store.marks ++ moments
  pub guards : (over : ℕ) → length r.choices ≤ over → IsGuardAt old.choices over → IsGuardOver (length r.choices) choices over
  pub marks : Each (λ m. Each (HasMarksAt old.choices) m.alternatives) choices
  pub many : length r.store.marks ≡ length r.choices
  pub counted : length old.choices ≡ length r.choices + length choices
  pub high : floor ≤ length r.choices
  pub text : r.text ≡ old.text

-- there is none past the end
past_end : (cs : List ChoicePoint) (over : ℕ) → length cs ≤ over → IsGuardAt cs over → ⊥
past_end [] over le g = g
past_end (c ∷ cs) zero le g = absurd (omega (arith, le))
past_end (c ∷ cs) (suc over) le g = past_end cs over (omega (arith, le)) g

-- one at the end, and those under it
guard_at : (cs : List ChoicePoint) (c : ChoicePoint) (rest : List ChoicePoint) (over : ℕ) → over ≡ length cs → IsGuardAt (cs ++ c ∷ rest) over → IsGuarding c.alternatives
guard_at [] c rest zero e g = g
guard_at [] c rest (suc over) e g = absurd (omega (arith, e))
guard_at (d ∷ cs) c rest zero e g = absurd (omega (arith, e))
guard_at (d ∷ cs) c rest (suc over) e g = guard_at cs c rest over (omega (arith, e)) g

-- none yet
pub captures_start : (r : RegionView) (floor : ℕ) (none lists : ItemLists) (p : Position) (mark : ℕ) (a : CapturedAlternative) (seen : List Bool) → length r.store.marks ≡ length r.choices → floor ≤ length r.choices → mark + 1 ≡ length r.choices → CapturesCurrent r mark p none lists a seen
    → CapturesDownTo r r floor lists [] p a.bindings seen
captures_start r floor none lists p mark a seen many high at current = record {
  choices = [];
  captured = λ m is. tt;
  current = λ top is. current.level top (record { before = is.0; after = []; are = is.1; over = let l = ap (λ (xs : List Moment). length xs) is.1 in omega (arith, l, many, at, length-append is.0 (top ∷ [])) });
  reached = current.reached;
  long = current.long;
  newest = λ m top is at. ap bound_at (same_from_push is.0 at.0 m top (sym is.1 ∙ at.1)).1;
  entries = λ named. refl;
  heights = λ named. whole_height r named many;
  below = λ named n le. refl;
  rest = [];
  were = sym (append-nil r.choices);
  moments = [];
  marked = sym (append-nil r.store.marks);
  guards = λ over le g. absurd (past_end r.choices over le g);
  marks = tt;
  many = many;
  counted = omega arith;
  high = high;
  text = refl;
}

-- one more
module _ (old r new : RegionView) (floor : ℕ) (some : 1 ≤ floor) (lists more : ItemLists) (taken : List CapturedChoice) (c : CapturedChoice) (p : Position) (bs : List Binding) (was seen : List Bool) (k : CapturesDownTo old r floor lists taken p bs was) (over : floor < length r.choices)
    (n : CapturesNewest r new lists more was seen c) where
  abbrev ms : List MeantChoice
  ms = k.choices

  one_less : length r.choices ≡ length new.choices + 1
  one_less = ap (λ (cs : List ChoicePoint). length cs) n.choices ∙ length-append new.choices (n.newest ∷ [])

  marks_less : length r.store.marks ≡ length new.store.marks + 1
  marks_less = ap (λ (xs : List Moment). length xs) n.marked ∙ length-append new.store.marks (new.store.now ∷ [])

  now_many : length new.store.marks ≡ length new.choices
  now_many = let a = one_less in let b = marks_less in let d = k.many in omega (arith, a, b, d)

  last : EndsWith new.store.marks (length new.store.marks - 1)
  last = ends_with new.store.marks (length new.store.marks - 1) (let a = one_less in let b = now_many in omega (arith, some, over, a, b))

  own : (m : Moment) → IsNewest new m → KeepsChoice more (bound_at m) (length new.choices) seen c n.meant
  own m is = n.captures is.0 m is.1

  earlier : KeepChoices lists (bound_at new.store.now) (length r.choices) was taken ms
  earlier = k.captured new.store.now (new.store.marks, n.marked)

  before : KeepChoices more n.meant.came (length r.choices) seen taken ms
  before = subst (λ (b : BoundThen). KeepChoices more b (length r.choices) seen taken ms) (sym n.came) (choices_later lists more (bound_at new.store.now) (length r.choices) was seen taken ms n.adds n.sees earlier)

  current_later : (top : Moment) → IsNewest old top → KeepsLevel (bound_at top) (bound_at old.store.now) seen bs
  current_later top at =
      let under : bound_under (bound_at new.store.now) ms ≡ bound_at top = k.newest new.store.now top (new.store.marks, n.marked) at in
      let next : (bound_under (bound_at new.store.now) ms).next ≡ top.next = ap (λ (b : BoundThen). b.next) under in
      let le = under_more lists (bound_at new.store.now) (length r.choices) was taken ms earlier in
      level_later (bound_at top) (bound_at old.store.now) new.store.now.next was seen bs (omega (arith, next, le)) n.sees (k.current top at)

  agree : (named : List NamedTerm) (i : ℕ) → i ≤ length new.choices → height_of_cut (heights_of named r) i ≡ height_of_cut (heights_of named old) i
  agree named i le = k.below named i (let e = one_less in omega (arith, le, e))

  group : (named : List NamedTerm) → group_entries (heights_of named r) named n.meant ≡ group_entries (heights_of named old) named n.meant
  group named =
      let m = last.last in
      let d = own m (last.before, last.is) in
      same_entries more n.meant.came.bound c.next (length new.choices) n.meant.kind (heights_of named r) (heights_of named old) named c.alternatives.items n.meant.alternatives (agree named) d.alternatives

  now_below : (named : List NamedTerm) (i : ℕ) → i ≤ length new.choices → height_of_cut (heights_of named new) i ≡ height_of_cut (heights_of named old) i
  now_below named i le = n.heights named i le ∙ agree named i le

  parts : (named : List NamedTerm) → entries_of named r ≡ group_entries (heights_of named old) named n.meant ++ entries_of named new
  parts named = n.entries named ∙ ap (λ es. es ++ entries_of named new) (group named)

  whole : old.choices ≡ new.choices ++ n.newest ∷ k.rest
  whole = k.were ∙ (ap (λ cs. cs ++ k.rest) n.choices ∙ append_assoc new.choices (n.newest ∷ []) k.rest)

  own_marks : Each (HasMarksAt old.choices) n.meant.alternatives
  own_marks = subst (λ (cs : List ChoicePoint). Each (HasMarksAt cs) n.meant.alternatives) (sym k.were) (each-more (HasMarksAt r.choices) (HasMarksAt (r.choices ++ k.rest)) (λ m. later_marks r.choices k.rest m.items) n.meant.alternatives n.marks)

  now_guards : (over : ℕ) → length new.choices ≤ over → IsGuardAt old.choices over → IsGuardOver (length new.choices) (ms ++ n.meant ∷ []) over
  now_guards over le g = by_test (over == length new.choices) refl
    where
      by_test : (b : Bool) → (over == length new.choices) ≡ b → IsGuardOver (length new.choices) (ms ++ n.meant ∷ []) over
      by_test true e =
          let same : over ≡ length new.choices = grind (arith, nat_tests) in
          record { newer = ms; guard = n.meant; older = []; are = refl; place = omega (arith, same); alone = n.guard (guard_at new.choices n.newest k.rest over same (subst (λ cs. IsGuardAt cs over) whole g)) }
      by_test false e =
          let other : over ≡ length new.choices → ⊥ = grind (arith, nat_tests) in
          let more : length r.choices ≤ over = let l = one_less in omega (arith, le, l, other) in
          let h = k.guards over more g in
          record {
            newer = h.newer;
            guard = h.guard;
            older = h.older ++ n.meant ∷ [];
            are = ap (λ xs. xs ++ n.meant ∷ []) h.are ∙ append_assoc h.newer (h.guard ∷ h.older) (n.meant ∷ []);
            place = let p = h.place in let l = one_less in omega (arith, p, l, length-append h.older (n.meant ∷ []));
            alone = h.alone;
          }

  pub captures_next : CapturesDownTo old new floor more (taken ++ c ∷ []) p bs seen
  captures_next = record {
    choices = ms ++ n.meant ∷ [];
    captured = λ m is. choices-append more (bound_at m) (length new.choices) (length r.choices) seen taken ms c n.meant one_less before (own m is);
    current = current_later;
    reached = items_still old.store.now.next was seen (items_here old p) n.sees.kept k.reached;
    long = n.long ∙ k.long;
    newest = λ m top is at. under-append (bound_at m) ms n.meant ∙ (ap (λ (b : BoundThen). bound_under b ms) n.came ∙ k.newest new.store.now top (new.store.marks, n.marked) at);
    entries = λ named.
        k.entries named
        ∙ (ap (λ es. meant_entries (heights_of named old) named ms ++ es) (parts named)
        ∙ (sym (append_assoc (meant_entries (heights_of named old) named ms) (group_entries (heights_of named old) named n.meant) (entries_of named new)) ∙ ap (λ es. es ++ entries_of named new) (sym (entries-append (heights_of named old) named ms n.meant))));
    heights = λ named.
        heights-append (heights_of named old) named (length new.choices) (length r.choices) (length (entries_of named new)) (length (entries_of named r)) ms n.meant one_less
        (ap (λ (es : List Entry). length es) (parts named) ∙ length-append (group_entries (heights_of named old) named n.meant) (entries_of named new)) (k.heights named) (sym (now_below named (length new.choices) (omega arith)) ∙ whole_height new named now_many);
    below = now_below;
    rest = n.newest ∷ k.rest;
    were = k.were ∙ (ap (λ cs. cs ++ k.rest) n.choices ∙ append_assoc new.choices (n.newest ∷ []) k.rest);
    moments = new.store.now ∷ k.moments;
    marked = k.marked ∙ (ap (λ xs. xs ++ k.moments) n.marked ∙ append_assoc new.store.marks (new.store.now ∷ []) k.moments);
    guards = now_guards;
    marks = each-append (λ m. Each (HasMarksAt old.choices) m.alternatives) ms (n.meant ∷ []) k.marks (own_marks, tt);
    many = now_many;
    counted = let l = k.counted in let e = one_less in let m = length-append ms (n.meant ∷ []) in omega (arith, l, e, m);
    high = let e = one_less in omega (arith, over, e);
    text = n.text ∙ k.text;
  }

  pub fewer : length new.choices < length r.choices
  fewer = let e = one_less in omega (arith, e)

-- the newest one is no end of a query
each_in : {X : Type 0} (P : X → Type 0) (xs : List X) (x : X) (ys : List X) → Each P (xs ++ x ∷ ys) → P x
each_in P [] x ys k = k.0
each_in P (y ∷ xs) x ys k = each_in P xs x ys k.1

pub own_there : (old r : RegionView) (floor : ℕ) (lists : ItemLists) (taken : List CapturedChoice) (p : Position) (bs : List Binding) (seen : List Bool) → IsCaptureFloor floor old → CapturesDownTo old r floor lists taken p bs seen → floor < length r.choices → HasOwnOnTop r
own_there old r floor lists taken p bs seen f k over cs c is =
    let long : length r.choices ≡ length cs + 1 = ap (λ (xs : List ChoicePoint). length xs) is ∙ length-append cs (c ∷ []) in
    let whole : old.choices ≡ cs ++ c ∷ k.rest = k.were ∙ (ap (λ xs. xs ++ k.rest) is ∙ append_assoc cs (c ∷ []) k.rest) in
    each_in StandsForNoEnd (drop floor cs) c k.rest (subst (Each StandsForNoEnd) (ap (drop floor) whole ∙ drop-append-le floor cs (c ∷ k.rest) (omega (arith, over, long))) f.own)

-- what was seen has a place for each variable of the newest mark
pub newest_below : (old r : RegionView) (floor : ℕ) (lists : ItemLists) (taken : List CapturedChoice) (p : Position) (bs : List Binding) (seen : List Bool) → IsCaptureFloor floor old → length old.store.marks ≡ length old.choices → CapturesDownTo old r floor lists taken p bs seen
    → HasNewestBelow r (length seen)
newest_below old r floor lists taken p bs seen f many k before m is =
    let top = ends_with old.store.marks (length old.store.marks - 1) (let s = f.some in let l = f.many in omega (arith, s, l, many)) in
    let under : bound_under (bound_at m) k.choices ≡ bound_at top.last = k.newest m top.last (before, is) (top.before, top.is) in
    let next : (bound_under (bound_at m) k.choices).next ≡ top.last.next = ap (λ (b : BoundThen). b.next) under in
    let le = under_more lists (bound_at m) (length r.choices) seen taken k.choices (k.captured m (before, is)) in
    let later = (k.current top.last (top.before, top.is)).keeps.later in
    let long = k.long in
    omega (arith, next, le, later, long)

-- all were taken off
module _ (old new : RegionView) (floor : ℕ) (p : Position) (none first : ItemLists) (c : Captured) (f : IsCaptureFloor floor old) (there : IsPositionIn old p) (many : length old.store.marks ≡ length old.choices) (mark : ℕ) (at : mark + 1 ≡ length old.choices)
    (early seen : List Bool) (current : CapturesCurrent old mark p none first c.current early) (adds : AddsItems first c.items) (k : CapturesDownTo old new floor c.items c.choices.items p c.current.bindings seen) (low : length new.choices ≤ floor) where
  same : length new.choices ≡ floor
  same = let h = k.high in omega (arith, low, h)

  start : EndsWith new.store.marks (floor - 1)
  start = ends_with new.store.marks (floor - 1) (let e = same in let m = k.many in let s = f.some in omega (arith, e, m, s))

  top : EndsWith old.store.marks mark
  top = ends_with old.store.marks mark (many ∙ sym at)

  abbrev base : BoundThen
  base = bound_at start.last

  abbrev kept_of : MeantChoice → MeantChoice
  kept_of = kept_choice start.last.next seen

  abbrev kept : List MeantChoice
  kept = map kept_of k.choices

  under_is_top : bound_under base k.choices ≡ bound_at top.last
  under_is_top = k.newest start.last top.last (start.before, start.is) (top.before, top.is)

  taken : KeepChoices c.items base (length new.choices) seen c.choices.items k.choices
  taken = k.captured start.last (start.before, start.is)

  level : KeepsLevel (bound_under base k.choices) (bound_at old.store.now) seen c.current.bindings
  level = subst (λ (b : BoundThen). KeepsLevel b (bound_at old.store.now) seen c.current.bindings) (sym under_is_top) (k.current top.last (top.before, top.is))

  abbrev goes : MeantAlternative
  goes = record { items = items_here old p; bound = kept_to (keep_of start.last.next seen) old.store.now.bound old.store.now.next; next = old.store.now.next }

  means : MeansAlternative c.items (bound_under base kept).bound (bound_under base kept).next (length old.choices) c.current goes
  means = record {
    items = items_kept first c.items c.current.first (items_here old p) adds current.items;
    extends =
        subst (λ n. ExtendsBy (bound_under base kept).bound goes.bound n (captured_bindings c.current.bindings)) (sym current.next)
        (level_kept c.items base (length new.choices) seen c.choices.items k.choices (bound_at old.store.now) c.current.bindings taken level);
    next = sym current.next;
    more = let le = level.keeps.later in let e = current.next in let u = under_next c.items base (length new.choices) seen k.choices in omega (arith, le, e, u);
    over = subst (λ n. Each (IsItemOver n (length old.choices)) (items_here old p)) (sym current.next) (items_over old (length old.choices) p there);
  }

  older : (v : ℕ) → v < start.last.next → value_of goes.bound v ≡ value_of old.store.now.bound v
  older v lt = stays (keep_of start.last.next seen) old.store.now.bound old.store.now.next level.keeps.new v (keeps_older start.last.next seen v lt)

  term_same : (t : Term) → AreReachedIn old.store.now.next seen t → resolve goes.bound t ≡ resolve old.store.now.bound t
  term_same t r = term_stays (keep_of start.last.next seen) old.store.now.bound old.store.now.next level.keeps.new t (λ w o. elim (r w o) [ inl n ↦ inr (level.keeps.new w n) | inr h ↦ inl (keeps_seen start.last.next seen w h) ])

  item_same : (i : Item ℕ) → IsItemReached old.store.now.next seen i → resolve_item goes.bound i ≡ resolve_item old.store.now.bound i
  item_same (GoalItem t c) r = ap (λ u. GoalItem u c) (term_same t r)
  item_same (CatchMark over) r = refl
  item_same (CollectMark t over) r = ap (λ u. CollectMark u over) (term_same t r)
  item_same (RemovalItem number) r = refl

  entry_there : (named : List NamedTerm) → Each (IsNamedBelow start.last.next) named → position_entry named old p ≡ PlainEntry (meant_continuation (heights_of named old) named goes)
  entry_there named below =
      ap PlainEntry (continuation_same goes.bound old.store.now.bound old.store.now.next start.last.next (heights_of named old) named (items_here old p)
      (each-more (IsItemReached old.store.now.next seen) (λ i. resolve_item goes.bound i ≡ resolve_item old.store.now.bound i) item_same (items_here old p) k.reached) older below)

  got : slice_get old.store.marks (floor - 1) ≡ Some start.last
  got =
      let place : length start.before ≡ floor - 1 = start.long in
      ap (λ (xs : List Moment). slice_get xs (floor - 1)) k.marked
      ∙ got_still new.store.marks k.moments (floor - 1) start.last (ap (λ (xs : List Moment). slice_get xs (floor - 1)) start.is ∙ (ap (slice_get (start.before ++ start.last ∷ [])) (sym place) ∙ got_next start.before [] start.last))

  guarded : (over : ℕ) → IsGuardAt old.choices over → (over < floor) ⊎ IsGuardOver floor k.choices over
  guarded over g = by_test (nat_lt over floor) refl
    where
      by_test : (b : Bool) → nat_lt over floor ≡ b → (over < floor) ⊎ IsGuardOver floor k.choices over
      by_test true e = inl (grind (arith, nat_tests))
      by_test false e =
          let le : floor ≤ over = grind (arith, nat_tests) in
          inr (subst (λ n. IsGuardOver n k.choices over) same (k.guards over (let s = same in omega (arith, le, s)) g))

  marks_guard : (i : Item ℕ) → HasMarkAt old.choices i → MarksGuard floor k.choices i
  marks_guard (GoalItem t c) m = tt
  marks_guard (CatchMark over) m = guarded over m
  marks_guard (CollectMark t over) m = guarded over m
  marks_guard (RemovalItem number) m = tt

  alternative_marks : (a : MeantAlternative) → HasMarksAt old.choices a → MarkGuards floor k.choices a
  alternative_marks a m = each-more (HasMarkAt old.choices) (MarksGuard floor k.choices) marks_guard a.items m

  choice_marks : Each (λ (m : MeantChoice). Each (MarkGuards floor k.choices) m.alternatives) k.choices
  choice_marks = each-more (λ m. Each (HasMarksAt old.choices) m.alternatives) (λ m. Each (MarkGuards floor k.choices) m.alternatives) (λ m h. each-more (HasMarksAt old.choices) (MarkGuards floor k.choices) alternative_marks m.alternatives h) k.choices k.marks

  pub region_captured : CapturesRegion old new floor p c
  region_captured = record {
    start = start.last;
    marked = got;
    current = goes;
    choices = kept;
    many = let l = k.counted in let s = same in let m = map_long kept_of k.choices in omega (arith, l, s, m);
    goes_on = means;
    now = older;
    entry = entry_there;
    captured = subst (λ n. CaptureChoices c.items base n c.choices.items kept) same (choices_kept c.items base (length new.choices) seen c.choices.items k.choices taken);
    entries = λ named below. k.entries named ∙ ap (λ es. es ++ entries_of named new) (meant_same c.items base (length new.choices) seen (heights_of named old) named below c.choices.items k.choices taken);
    heights = λ named.
        subst (λ n. AreHeightsOf (heights_of named old) named n (length (entries_of named new)) kept) same
        (heights_same c.items base (length new.choices) seen (heights_of named old) named (length (entries_of named new)) k.choices (k.heights named));
    marks = marks_kept c.items base floor seen k.choices (items_here old p) (alternative_marks goes (items_marked old (length old.choices) p there));
    choice_marks = each_marks_kept c.items base floor seen k.choices k.choices choice_marks;
    below = λ named n le. k.below named n (let h = k.high in omega (arith, le, h));
    left = sym (ap (take floor) k.were ∙ (ap (λ n. take n (new.choices ++ k.rest)) (sym same) ∙ take-append_seam new.choices k.rest));
    left_marks = sym (ap (take floor) k.marked ∙ (ap (λ n. take n (new.store.marks ++ k.moments)) (sym (k.many ∙ same)) ∙ take-append_seam new.store.marks k.moments));
    text = k.text;
  }
