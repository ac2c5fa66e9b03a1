-- Own entries that are captured are taken off.
use Rattle.std.proofs.Common.{◌≡◌, inl, inr, ℕ, ◌+◌, ◌-◌, ◌<◌, ◌≤◌, true, List, [], ◌∷◌, ◌++◌, length, length-append, map, reverse, slice_get, Some, refl, sym, ap, ap₂, ◌∙◌, subst, arith}
use Rattle.std.specs.Prelude.{◌&&◌, nat_le}
use Rattle.std.specs.List.{list_all}
use Rattle.std.proofs.lemmas.List.{length-map, map-append}
use Rattle.std.proofs.lemmas.Bool.Decides.{nat_tests}
use Rattle.au_term.specs.Term.{var_bound}
use Rattle.au_model.specs.Terms.Each.{Each}
use Rattle.au_model.specs.Terms.Named.{NamedTerm}
use Rattle.au_model.specs.Terms.Substitutions.{Substitution}
use Rattle.au_model.proofs.EachLemmas.{each-more}
use Rattle.run_model.specs.Laws.Numbering.{IsNamedBelow}
use Rattle.run_model.specs.Machine.Items.{Item, GoalItem, CatchMark, CollectMark, RemovalItem, resolve_item}
use Rattle.run_model.specs.Machine.Entries.{Entry, PlainEntry}
use Rattle.clause_compile.specs.declared.item.Item.{Item as BranchItem}
use Rattle.cell_store.specs.StoreView.{Moment}
use Rattle.region_split.specs.ChoicePoints.{height_of_cut, by_height}
use Rattle.region_split.specs.Regions.{RegionView, entries_of, heights_of, continuation_here}
use Rattle.region_split.specs.declared.frame.Position.{Position}
use Rattle.region_floor.specs.BareFloors.{bare_floor, AreOwnItems, IsOwnEntry, AreOwn}
use Rattle.region_floor.specs.Deferred.{Deferred, joined_entry, IsBoundNow}
use Rattle.region_floor.specs.RunLaws.{IsOwnTop, TopsAreOwn}
use Rattle.region_floor.proofs.FloorSizeLemmas.{bare-size}
use Rattle.task_region.specs.BareRegions.{IsOverFloor, EndsAreFloor}
use Rattle.task_region.specs.TaskViews.{carried}
use Rattle.tree_model.specs.Levels.{Level}
use Rattle.branch_reading.specs.Readings.{items_meant}
use Rattle.branch_reading.specs.SettledWays.{is_guard_settled, is_term_below}
use Rattle.branch_shapes.specs.ChoiceScopes.{choice_height, items_by_heights, IsOverChoices, CanBeMarked, HasNumbersUpTo}
use Rattle.branch_shapes.specs.FloorItems.{NamesLevels, items_over_floor, FloorItemsStay}
use Rattle.branch_shapes.specs.Groups.{Groups, stacked}
use Rattle.branch_shapes.specs.MeantBranches.{Placement}
use Rattle.task_publishing.specs.MadeBodies.{published_kind}
use Rattle.task_publishing.specs.PublishedRuns.{EndsDeferred, CanBeBranch, IsTakenOff, published_entry}
use Rattle.task_publishing.proofs.WholeLemmas.{turned}
use Rattle.task_publishing.proofs.FinalLemmas.{each_turned}
use Rattle.region_capture.specs.CapturedItems.{ItemLists, IsItemOver}
use Rattle.region_capture.specs.CapturedMeanings.{MeantAlternative, MeansAlternative, AreMeant, IsKindBelow, meant_entry, meant_continuation}
use Rattle.region_capture.specs.CapturedChoices.{BoundThen, MeantChoice, group_entries, IsAloneOf, bound_under, CaptureChoices, meant_entries, AreHeightsOf, IsGuardOver, MarksGuard, MarkGuards}
use Rattle.region_capture.specs.CapturedRegions.{CapturesRegion, bound_at}
use Rattle.region_capture.specs.declared.captured.Captured.{Captured}
use Rattle.region_capture.specs.declared.captured.CapturedAlternative.{CapturedAlternative}
use Rattle.region_capture.specs.declared.captured.CapturedChoice.{CapturedChoice}
use Rattle.region_capture.specs.declared.captured.CapturedKind.{CapturedKind}
use Rattle.region_capture.specs.declared.captured.CapturedKind.TheVariants.{Choice, Catch, Findall}
use Rattle.task_publishing.specs.OwnEntries.{deferred_over, placement_of, StandsForOwn, AreTakenOff, OwnEntriesAreTaken, OwnEntriesAreOverFloor}
use Rattle.task_publishing.proofs.HeightLemmas.{groups, groups_more, stacked_more, captured_heights}
use Rattle.task_publishing.proofs.JoinedLemmas.{NumbersUpTo, entry_joined, groups_joined}
use Rattle.task_publishing.proofs.FloorEndLemmas.{none_over_floor, last_end}

-- numbers of choice points
numbers_up : (next cut many : ℕ) → cut ≤ many → (i : Item ℕ) → IsItemOver next cut i → HasNumbersUpTo many i
numbers_up next cut many le (GoalItem t c) h = let l = h.1 in omega (arith, l, le)
numbers_up next cut many le (CatchMark c) h = let l : c < cut = h in omega (arith, l, le)
numbers_up next cut many le (CollectMark t c) h = let l = h.1 in omega (arith, l, le)
numbers_up next cut many le (RemovalItem number) h = tt

own_numbers : (lists : ItemLists) (s : Substitution) (first cut many : ℕ) (a : CapturedAlternative) (m : MeantAlternative) → cut ≤ many
    → MeansAlternative lists s first cut a m → NumbersUpTo many m
own_numbers lists s first cut many a m le k = each-more (IsItemOver a.next cut) (HasNumbersUpTo many) (numbers_up a.next cut many le) m.items k.over

all_numbers : (lists : ItemLists) (s : Substitution) (first cut many : ℕ) (taken : List CapturedAlternative) (ms : List MeantAlternative) → cut ≤ many
    → AreMeant lists s first cut taken ms → Each (NumbersUpTo many) ms
all_numbers lists s first cut many [] [] le k = tt
all_numbers lists s first cut many [] (m ∷ ms) le k = elim k [ ]
all_numbers lists s first cut many (a ∷ taken) [] le k = elim k [ ]
all_numbers lists s first cut many (a ∷ taken) (m ∷ ms) le k =
    (own_numbers lists s first cut many a m le k.0, all_numbers lists s first cut many taken ms le k.1)

choice_numbers : (lists : ItemLists) (start : BoundThen) (cut many : ℕ) (cs : List CapturedChoice) (ms : List MeantChoice) → cut + length ms ≤ many
    → CaptureChoices lists start cut cs ms → Each (λ m. Each (NumbersUpTo many) m.alternatives) ms
choice_numbers lists start cut many [] [] le k = tt
choice_numbers lists start cut many [] (m ∷ ms) le k = elim k [ ]
choice_numbers lists start cut many (c ∷ cs) [] le k = elim k [ ]
choice_numbers lists start cut many (c ∷ cs) (m ∷ ms) le k = (
  all_numbers lists m.came.bound c.next (cut + length ms) many c.alternatives.items m.alternatives (omega (arith, le)) k.0.alternatives,
  choice_numbers lists start cut many cs ms (omega (arith, le)) k.1,
)

-- what a catch or a findall has is below the next number of what follows it
below_test : (next v : ℕ) → v ≤ next → nat_le v next ≡ true
below_test next v le = grind (arith, nat_tests)

results_below : (next : ℕ) (ts : List _) → Each (λ t. var_bound t ≤ next) ts → list_all (is_term_below next) ts ≡ true
results_below next [] h = refl
results_below next (t ∷ ts) h = ap₂ (λ a b. a && b) (below_test next (var_bound t) h.0) (results_below next ts h.1)

guard_below : (next : ℕ) (kind : CapturedKind) → IsKindBelow next kind → is_guard_settled next (published_kind kind) ≡ true
guard_below next Choice h = refl
guard_below next (Catch catcher recovery) h = ap₂ (λ a b. a && b) (below_test next (var_bound catcher) h.0) (below_test next (var_bound recovery) h.1)
guard_below next (Findall list results) h = ap₂ (λ a b. a && b) (results_below next results.items h.1) (below_test next (var_bound list) h.0)

abbrev IsGuardBelow : CapturedKind → MeantAlternative → Type 0
IsGuardBelow kind a = is_guard_settled a.next (published_kind kind) ≡ true

any_below : (ms : List MeantAlternative) → Each (IsGuardBelow Choice) ms
any_below [] = tt
any_below (m ∷ ms) = (refl, any_below ms)

one_below : (kind : CapturedKind) (lists : ItemLists) (s : Substitution) (first cut : ℕ) (taken : List CapturedAlternative) (ms : List MeantAlternative)
    → AreMeant lists s first cut taken ms → length ms ≡ 1 → ((a : CapturedAlternative) → taken ≡ a ∷ [] → IsKindBelow a.next kind)
    → Each (IsGuardBelow kind) ms
one_below kind lists s first cut taken [] k one terms = absurd (omega (arith, one))
one_below kind lists s first cut taken (m ∷ (o ∷ ms)) k one terms = absurd (omega (arith, one))
one_below kind lists s first cut [] (m ∷ []) k one terms = elim k [ ]
one_below kind lists s first cut (a ∷ (b ∷ taken)) (m ∷ []) k one terms = elim k.1 [ ]
one_below kind lists s first cut (a ∷ []) (m ∷ []) k one terms =
    (subst (λ n. is_guard_settled n (published_kind kind) ≡ true) (sym k.0.next) (guard_below a.next kind (terms a refl)), tt)

kind_below : (kind : CapturedKind) (lists : ItemLists) (s : Substitution) (first cut : ℕ) (taken : List CapturedAlternative) (ms : List MeantAlternative)
    → AreMeant lists s first cut taken ms → IsAloneOf kind (length ms) → ((a : CapturedAlternative) → taken ≡ a ∷ [] → IsKindBelow a.next kind)
    → Each (IsGuardBelow kind) ms
kind_below Choice lists s first cut taken ms k one terms = any_below ms
kind_below (Catch catcher recovery) lists s first cut taken ms k one terms = one_below (Catch catcher recovery) lists s first cut taken ms k one terms
kind_below (Findall list results) lists s first cut taken ms k one terms = one_below (Findall list results) lists s first cut taken ms k one terms

guards_below : (lists : ItemLists) (start : BoundThen) (cut : ℕ) (cs : List CapturedChoice) (ms : List MeantChoice) → CaptureChoices lists start cut cs ms
    → Each (λ m. Each (IsGuardBelow m.kind) m.alternatives) ms
guards_below lists start cut [] [] k = tt
guards_below lists start cut [] (m ∷ ms) k = elim k [ ]
guards_below lists start cut (c ∷ cs) [] k = elim k [ ]
guards_below lists start cut (c ∷ cs) (m ∷ ms) k = (
  kind_below m.kind lists m.came.bound c.next (cut + length ms) c.alternatives.items m.alternatives k.0.alternatives k.0.alone k.0.terms,
  guards_below lists start cut cs ms k.1,
)

-- nothing comes behind what stands for deferred items
nothing_mapped : {X Y : Type 0} (f : X → Y) (xs : List X) → map f xs ≡ [] → xs ≡ []
nothing_mapped f [] e = refl
nothing_mapped f (x ∷ xs) e = absurd cc

ends_deferred : (floor : ℕ) (heights : List ℕ) (s : Substitution) (xs : List (Item ℕ)) → AreOwnItems floor (map (resolve_item s) (map (by_height heights) xs))
    → EndsDeferred xs
ends_deferred floor heights s [] h = tt
ends_deferred floor heights s (GoalItem t n ∷ xs) h = ends_deferred floor heights s xs h
ends_deferred floor heights s (CatchMark n ∷ xs) h = ends_deferred floor heights s xs h.1
ends_deferred floor heights s (CollectMark t n ∷ xs) h = ends_deferred floor heights s xs h.1
ends_deferred floor heights s (RemovalItem number ∷ xs) h = nothing_mapped (by_height heights) xs (nothing_mapped (resolve_item s) _ h)

abbrev HasEndsDeferred : MeantAlternative → Type 0
HasEndsDeferred a = EndsDeferred a.items

entry_ends : (floor : ℕ) (heights : List ℕ) (named : List NamedTerm) (kind : CapturedKind) (a : MeantAlternative) → IsOwnEntry floor (meant_entry kind heights named a)
    → HasEndsDeferred a
entry_ends floor heights named Choice a h = ends_deferred floor heights a.bound a.items h
entry_ends floor heights named (Catch catcher recovery) a h = ends_deferred floor heights a.bound a.items h
entry_ends floor heights named (Findall list results) a h = ends_deferred floor heights a.bound a.items h

each_parts : {X : Type 0} (P : X → Type 0) (xs ys : List X) → Each P (xs ++ ys) → Each P xs × Each P ys
each_parts P [] ys h = (tt, h)
each_parts P (x ∷ xs) ys h = let r = each_parts P xs ys h.1 in ((h.0, r.0), r.1)

group_ends : (floor : ℕ) (heights : List ℕ) (named : List NamedTerm) (kind : CapturedKind) (ms : List MeantAlternative)
    → AreOwn floor (map (meant_entry kind heights named) ms) → Each HasEndsDeferred ms
group_ends floor heights named kind [] h = tt
group_ends floor heights named kind (a ∷ ms) h = (entry_ends floor heights named kind a h.0, group_ends floor heights named kind ms h.1)

groups_end : (floor : ℕ) (heights : List ℕ) (named : List NamedTerm) (ms : List MeantChoice) → AreOwn floor (meant_entries heights named ms)
    → Each (λ m. Each HasEndsDeferred m.alternatives) ms
groups_end floor heights named [] h = tt
groups_end floor heights named (m ∷ ms) h =
    let parts = each_parts (IsOwnEntry floor) (group_entries heights named m) (meant_entries heights named ms) h in
    (group_ends floor heights named m.kind m.alternatives parts.0, groups_end floor heights named ms parts.1)

-- a guard is alone in its group
module _ (group : MeantChoice → List Entry) (same : (m : MeantChoice) → length (group m) ≡ length m.alternatives) where
  got_seam : (xs : Groups) (g : List Entry) (ys : Groups) → slice_get (xs ++ g ∷ ys) (length xs) ≡ Some g
  got_seam [] g ys = refl
  got_seam (x ∷ xs) g ys = got_seam xs g ys

  reversed : (newer : List MeantChoice) (m : MeantChoice) (older : List MeantChoice)
      → (later : Groups) × (map group (reverse (newer ++ m ∷ older)) ≡ map group (reverse older) ++ group m ∷ later)
  reversed [] m older = ([], groups_more group m older)
  reversed (n ∷ newer) m older =
      let r = reversed newer m older in (
        r.0 ++ group n ∷ [],
        groups_more group n (newer ++ m ∷ older)
            ∙ (ap (λ (gs : Groups). gs ++ group n ∷ []) r.1 ∙ regroup (map group (reverse older)) (group m) r.0 (group n)),
      )
    where
      regroup : (xs : Groups) (g : List Entry) (ys : Groups) (h : List Entry) → (xs ++ g ∷ ys) ++ h ∷ [] ≡ xs ++ g ∷ (ys ++ h ∷ [])
      regroup [] g ys h = refl
      regroup (x ∷ xs) g ys h = ap (λ (gs : Groups). x ∷ gs) (regroup xs g ys h)

  one_alone : (g : List Entry) → length g ≡ 1 → (e : Entry) × (g ≡ e ∷ [])
  one_alone [] l = absurd (omega (arith, l))
  one_alone (e ∷ []) l = (e, refl)
  one_alone (e ∷ (d ∷ es)) l = absurd (omega (arith, l))

  marked_over : (cut : ℕ) (ms : List MeantChoice) (over : ℕ) → IsGuardOver cut ms over → CanBeMarked cut (map group (reverse ms)) over
  marked_over cut ms over g =
      let r = reversed g.newer g.guard g.older in
      let one = one_alone (group g.guard) (same g.guard ∙ g.alone) in
      let place : length (map group (reverse g.older)) ≡ over - cut = let p = g.place in let l = length-map (reverse g.older) group ∙ turned g.older in omega (arith, p, l) in
      inr (
        (let p = g.place in omega (arith, p)),
        record {
          entry = one.0;
          is = ap (λ (xs : List MeantChoice). slice_get (map group (reverse xs)) (over - cut)) g.are
              ∙ (ap (λ (gs : Groups). slice_get gs (over - cut)) r.1
              ∙ (ap (slice_get (map group (reverse g.older) ++ group g.guard ∷ r.0)) (sym place)
              ∙ (got_seam (map group (reverse g.older)) (group g.guard) r.0 ∙ ap (λ (es : List Entry). Some es) one.1)));
        },
      )

  mark_over : (cut : ℕ) (ms : List MeantChoice) (i : Item ℕ) → MarksGuard cut ms i → IsOverChoices cut (map group (reverse ms)) i
  mark_over cut ms (GoalItem t c) h = tt
  mark_over cut ms (CatchMark over) (inl lt) = inl lt
  mark_over cut ms (CatchMark over) (inr g) = marked_over cut ms over g
  mark_over cut ms (CollectMark t over) (inl lt) = inl lt
  mark_over cut ms (CollectMark t over) (inr g) = marked_over cut ms over g
  mark_over cut ms (RemovalItem number) h = tt

  pub marks_over : (cut : ℕ) (ms : List MeantChoice) (a : MeantAlternative) → MarkGuards cut ms a → Each (IsOverChoices cut (map group (reverse ms))) a.items
  marks_over cut ms a h = each-more (MarksGuard cut ms) (IsOverChoices cut (map group (reverse ms))) (mark_over cut ms) a.items h

same_start : (old new : RegionView) (p : Position) (levels : List Level) (c : Captured) (k : CapturesRegion old new (length levels) p c) (start : Moment)
    → slice_get old.store.marks (length levels - 1) ≡ Some start → k.start ≡ start
same_start old new p levels c k start at = let both : Some k.start ≡ Some start = sym k.marked ∙ at in cc

-- all of it together
module _ (levels : List Level) (number : ℕ) (named : List NamedTerm) (items : List BranchItem) (old new : RegionView) (p : Position) (own : List Entry)
    (c : Captured) (stands : StandsForOwn levels named items old p own) (k : CapturesRegion old new (length levels) p c)
    (names : Each (NamesLevels levels) (items_meant items))
    (named_below : Each (IsNamedBelow k.start.next) (carried named (items_over_floor levels (items_meant items)))) (bound_now : IsBoundNow) (tops : TopsAreOwn) (ends : EndsAreFloor) (stay : FloorItemsStay) where
  abbrev floor : ℕ
  floor = length levels

  abbrev all_named : List NamedTerm
  all_named = carried named (items_over_floor levels (items_meant items))

  abbrev heights : List ℕ
  heights = heights_of all_named old

  abbrev whole : Deferred
  whole = deferred_over levels named items

  top : IsOwnTop levels own (continuation_here all_named old p) (entries_of all_named old)
  top = tops levels own (continuation_here all_named old p) (entries_of all_named old) (sym stands.entries)

  are_own : AreOwn floor (PlainEntry (continuation_here all_named old p) ∷ top.below)
  are_own = subst (AreOwn floor) top.own_is stands.are_own

  over : IsOverFloor floor all_named old
  over = ends all_named old levels top.below stands.ends stands.marks are_own.1 top.entries

  base_height : (ms : List MeantChoice) (others : ℕ) → AreHeightsOf heights all_named floor others ms → height_of_cut heights floor ≡ others
  base_height [] others h = h
  base_height (m ∷ ms) others h = base_height ms others h.1

  others_are : length (entries_of all_named new) ≡ floor
  others_are =
      let e = base_height k.choices (length (entries_of all_named new)) (k.heights all_named) in
      let b = over.below floor (omega arith) in
      omega (arith, e, b)

  same_ends : {X : Type 0} (xs ys zs ws : List X) → xs ++ ys ≡ zs ++ ws → length ys ≡ length ws → xs ≡ zs
  same_ends [] ys [] ws e l = refl
  same_ends [] ys (z ∷ zs) ws e l = absurd (let m = ap length e in let n = length-append zs ws in omega (arith, m, n, l))
  same_ends (x ∷ xs) ys [] ws e l = absurd (let m = ap length e in let n = length-append xs ys in omega (arith, m, n, l))
  same_ends {X} (x ∷ xs) ys (z ∷ zs) ws e l =
      let first : x ≡ z = cc in
      let rest : xs ++ ys ≡ zs ++ ws = cc in
      ap₂ (λ (v : X) (vs : List X). v ∷ vs) first (same_ends xs ys zs ws rest l)

  below_is : top.below ≡ meant_entries heights all_named k.choices
  below_is =
      same_ends top.below (bare_floor floor) (meant_entries heights all_named k.choices) (entries_of all_named new) (sym top.entries ∙ k.entries all_named named_below)
      (let b = bare-size floor in let o = others_are in omega (arith, b, o))

  abbrev group : MeantChoice → List Entry
  group m = map (joined_entry whole) (group_entries heights all_named m)

  group_many : (m : MeantChoice) → length (group m) ≡ length (group_entries heights all_named m)
  group_many m = length-map (group_entries heights all_named m) (joined_entry whole)

  group_size : (m : MeantChoice) → length (group m) ≡ length m.alternatives
  group_size m = group_many m ∙ length-map m.alternatives (meant_entry m.kind heights all_named)

  abbrev gs : Groups
  gs = groups group k.choices

  abbrev place : Placement
  place = placement_of levels number named gs

  many : length old.choices ≡ floor + length k.choices
  many = k.many

  same_heights : (n : ℕ) → n ≤ length old.choices → height_of_cut heights n ≡ choice_height floor gs n
  same_heights n le =
      captured_heights group heights all_named group_many floor k.choices over.below
      (subst (λ o. AreHeightsOf heights all_named floor o k.choices) others_are (k.heights all_named)) n (let m = many in omega (arith, m, le))

  stays : items_by_heights floor gs (items_over_floor levels (items_meant items)) ≡ items_over_floor levels (items_meant items)
  stays = (stay number levels gs (items_meant items) names).heights

  numbers : Each (λ m. Each (NumbersUpTo (length old.choices)) m.alternatives) k.choices
  numbers = choice_numbers c.items (bound_at k.start) floor (length old.choices) c.choices.items k.choices (let m = many in omega (arith, m)) k.captured

  own_number : NumbersUpTo (length old.choices) k.current
  own_number = own_numbers c.items (bound_under (bound_at k.start) k.choices).bound (bound_under (bound_at k.start) k.choices).next (length old.choices)
      (length old.choices) c.current k.current (omega arith) k.goes_on

  top_is : PlainEntry (continuation_here all_named old p) ≡ PlainEntry (meant_continuation heights all_named k.current)
  top_is = k.entry all_named named_below

  can_be : (kind : CapturedKind) (a : MeantAlternative) → EndsDeferred a.items → MarkGuards floor k.choices a → is_guard_settled a.next (published_kind kind) ≡ true
      → CanBeBranch place kind a
  can_be kind a last marks guard = record { last = last; over = marks_over group group_size floor k.choices a marks; guard = guard }

  can_each : (kind : CapturedKind) (ms : List MeantAlternative) → Each HasEndsDeferred ms → Each (MarkGuards floor k.choices) ms → Each (IsGuardBelow kind) ms
      → Each (CanBeBranch place kind) ms
  can_each kind [] l m g = tt
  can_each kind (a ∷ ms) l m g = (can_be kind a l.0 m.0 g.0, can_each kind ms l.1 m.1 g.1)

  can_all : (ms : List MeantChoice) → Each (λ m. Each HasEndsDeferred m.alternatives) ms → Each (λ m. Each (MarkGuards floor k.choices) m.alternatives) ms
      → Each (λ m. Each (IsGuardBelow m.kind) m.alternatives) ms → Each (λ m. Each (CanBeBranch place m.kind) m.alternatives) ms
  can_all [] l m g = tt
  can_all (x ∷ xs) l m g = (can_each x.kind x.alternatives l.0 m.0 g.0, can_all xs l.1 m.1 g.1)

  taken_there : IsTakenOff place items (bound_at k.start) c k.current k.choices
  taken_there = record {
    captured = k.captured;
    goes_on = let under = bound_under (bound_at k.start) k.choices in subst (λ n. MeansAlternative c.items under.bound under.next n c.current k.current) many
        k.goes_on;
    on_top = can_be Choice k.current (entry_ends floor heights all_named Choice k.current (subst (IsOwnEntry floor) top_is are_own.0)) k.marks refl;
    each = can_all k.choices (groups_end floor heights all_named k.choices (subst (AreOwn floor) below_is are_own.1)) k.choice_marks
        (guards_below c.items (bound_at k.start) floor c.choices.items k.choices k.captured);
    groups = groups_joined levels number named items gs heights (length old.choices) same_heights stays bound_now (reverse k.choices)
        (each_turned (λ (m : MeantChoice). Each (NumbersUpTo (length old.choices)) m.alternatives) k.choices numbers);
  }

  stacked_groups : (ms : List MeantChoice) → map (joined_entry whole) (meant_entries heights all_named ms) ≡ stacked (groups group ms)
  stacked_groups [] = refl
  stacked_groups (m ∷ ms) =
      map-append (joined_entry whole) (group_entries heights all_named m) (meant_entries heights all_named ms)
      ∙ (ap (λ es. group m ++ es) (stacked_groups ms) ∙ (sym (stacked_more (groups group ms) (group m)) ∙ ap stacked (sym (groups_more group m ms))))

  entries_there : map (joined_entry whole) own ≡ published_entry place items Choice k.current ∷ stacked gs
  entries_there =
      ap (map (joined_entry whole)) top.own_is
      ∙ ap₂ (λ (e : Entry) (es : List Entry). e ∷ es)
      (ap (joined_entry whole) top_is
      ∙ entry_joined levels number named items gs heights (length old.choices) same_heights stays bound_now Choice k.current own_number)
      (ap (map (joined_entry whole)) below_is ∙ stacked_groups k.choices)

  pub own_taken : (start : Moment) → slice_get old.store.marks (floor - 1) ≡ Some start → AreTakenOff levels number named items (bound_at start) c own
  own_taken start at = record {
    groups = gs;
    current = k.current;
    choices = k.choices;
    taken = subst (λ (m : Moment). IsTakenOff place items (bound_at m) c k.current k.choices) (same_start old new p levels c k start at) taken_there;
    entries = entries_there;
  }

pub own_entries_taken : IsBoundNow → TopsAreOwn → EndsAreFloor → FloorItemsStay → OwnEntriesAreTaken
own_entries_taken bound_now tops ends stay levels number named items old new p own c start stands names k at below =
    own_taken levels number named items old new p own c stands k names
    (subst (λ (m : Moment). Each (IsNamedBelow m.next) (carried named (items_over_floor levels (items_meant items))))
    (sym (same_start old new p levels c k start at)) below)
    bound_now tops ends stay start at

pub own_over_floor : TopsAreOwn → EndsAreFloor → OwnEntriesAreOverFloor
own_over_floor tops ends levels named items r p own stands some =
    let all_named : List NamedTerm = carried named (items_over_floor levels (items_meant items)) in
    let top = tops levels own (continuation_here all_named r p) (entries_of all_named r) (sym stands.entries) in
    let are_own = subst (AreOwn (length levels)) top.own_is stands.are_own in
    let over = ends all_named r levels top.below stands.ends stands.marks are_own.1 top.entries in
    record {
      floor_is = record {
        some = some;
        many = over.many;
        own = none_over_floor all_named r levels top.below stands.ends stands.marks are_own.1 top.entries;
      };
      newest = last_end all_named r levels top.below stands.ends stands.marks are_own.1 top.entries some;
    }
