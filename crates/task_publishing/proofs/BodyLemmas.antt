-- Bodies that are made of what was taken off a task's region.
use Rattle.std.proofs.Common.{◌≡◌, ℕ, zero, suc, ◌+◌, ◌-◌, ◌<◌, ◌≤◌, true, IfOk, Result, Ok, Err, get_or, List, [], ◌∷◌, ◌++◌, length, map, reverse, slice_get, take, Option, Some, None, refl, sym, ap, ◌∙◌, subst, arith}
use Rattle.std.specs.Prelude.{is_some, IsSomeAnd}
use Rattle.std.specs.Option.{option_map}
use Rattle.std.specs.List.{list_all}
use Rattle.au_term.proofs.LogicLemmas.{both, false_true}
use Rattle.au_term.specs.Term.{Term, var_bound}
use Rattle.std.proofs.lemmas.Bool.Decides.{nat_tests}
use Rattle.au_model.specs.Terms.Each.{Each}
use Rattle.au_model.proofs.EachLemmas.{each-append}
use Rattle.run_model.specs.Laws.Numbering.{IsNamedBelow}
use Rattle.region_floor.specs.Deferred.{carried_term}
use Rattle.clause_compile.specs.declared.item.Item.TheVariants.{Goal, CatchEnd, Collect, Remove, End}
use Rattle.au_model.specs.Terms.Named.{NamedTerm}
use Rattle.run_model.specs.Machine.Entries.{Entry}
use Rattle.run_model.specs.Machine.Items.{Item}
use Rattle.run_model.specs.Programs.Jobs.{Job}
use Rattle.clause_compile.specs.declared.event.Branch.{Branch}
use Rattle.clause_compile.specs.declared.item.Item.{Item as BranchItem}
use Rattle.cell_store.specs.StoreView.{Moment}
use Rattle.region_split.specs.ClauseTrials.{entries_at}
use Rattle.region_split.specs.QueryEnds.{IsEnd, AreEndsAtFloor, AreEndsOldest}
use Rattle.region_split.specs.declared.choice.ChoicePoint.{ChoicePoint}
use Rattle.region_split.specs.Regions.{RegionView, entries_of}
use Rattle.region_split.specs.declared.frame.Position.{Position}
use Rattle.task_region.specs.TaskViews.{TaskView, carried, position_stack, task_stack}
use Rattle.tree_model.specs.Levels.{Level, Place, plug, place_at}
use Rattle.tree_model.specs.Nodes.{Status}
use Rattle.tree_nodes.specs.Bodies.{Body, Branching, Reading}
use Rattle.tree_nodes.specs.Rows.{StoredNode, Rows, row_of_node}
use Rattle.tree_nodes.specs.TreeTables.{NodesView, IsTableOf, IsWayTo}
use Rattle.branch_reading.specs.BranchSegments.{above_in_query, own_segments, binding_equations, bindings_on, segments_on, next_number}
use Rattle.branch_reading.specs.Readings.{items_meant, named_of, query_on}
use Rattle.branch_reading.specs.SettledWays.{branch_items, is_item_settled, is_term_below, items_on, is_way_settled}
use Rattle.branch_bindings.specs.ExtensionLaws.{UnifiersStandForOlder, UnifiersAreFinal}
use Rattle.task_region.specs.PlacesUp.{AreAllUp, AreNumbersUp, PlacesAreLevels}
use Rattle.branch_shapes.specs.FloorItems.{items_over_floor}
use Rattle.task_publishing.specs.LiveChoices.{IsBoundAtStart}
use Rattle.task_publishing.specs.PublishedRuns.{IsDeferredAt, MeanPublished, published_entry}
use Rattle.region_capture.specs.CapturedRegions.{CapturesRegion, IsCaptureFloor, bound_at}
use Rattle.region_capture.specs.declared.captured.Captured.{Captured}
use Rattle.region_capture.specs.declared.captured.CapturedKind.TheVariants.{Choice}
use Rattle.task_publishing.specs.OwnEntries.{IsOverEnds, placement_of, StandsForOwn, AreTakenOff, OwnEntriesAreTaken, OwnEntriesAreOverFloor}
use Rattle.task_region.specs.TaskLoads.{IsBoundOnBranch}
use Rattle.task_publishing.specs.OwnBodies.{HasOwn, HasSomeOwn, IsTakenOffTask, IsBranchAt, CanBePublished, MeanOwn, MeanFromStart, MeanTask, LeavesBodies}
use Rattle.task_publishing.proofs.NodesDownLemmas.{numbers, nodes_down}

-- a term is below a number
settled_below : (next : ℕ) (t : Term) → is_term_below next t ≡ true → var_bound t ≤ next
settled_below next t h = grind (arith, nat_tests)

-- the way to a branch has its goals and its next number
module _ (rows : Rows) (v : Level) (up : List Level) (way : Branching) (goals : List BranchItem) (base : ℕ) (on : IsWayTo rows (v ∷ up) way)
    (b : IsBranchAt rows (place_at v) goals base) where
  same_body : on.0.body ≡ b.row.body
  same_body = let both_rows : Some on.0 ≡ Some b.row = sym on.1.1.0 ∙ b.is in let same : on.0 ≡ b.row = cc in ap (λ (r : StoredNode). r.body) same

  here : slice_get on.0.body.branches (length v.left) ≡ Some b.branch
  here = ap (λ (x : Body). slice_get x.branches (length v.left)) same_body ∙ b.there

  pub goals_on : goals ≡ items_on way
  goals_on = b.goals_are ∙ sym (ap (λ (w : Branching). items_on w) on.1.1.1 ∙ ap branch_items here)

  pub base_on : base ≡ next_number (segments_on way)
  base_on =
      b.base_is
      ∙ sym (ap (λ (w : Branching). next_number (segments_on w)) on.1.1.1
      ∙ ap (λ o. next_number (own_segments o ++ on.0.body.segment ∷ above_in_query on.0.body.kind (segments_on on.1.0))) here)

-- there is a mark for each choice point of the floor
got : {X : Type 0} (xs : List X) (n : ℕ) → n < length xs → (x : X) × (slice_get xs n ≡ Some x)
got [] n lt = absurd (omega (arith, lt))
got (x ∷ xs) zero lt = (x, refl)
got (x ∷ xs) (suc n) lt = got xs n (omega (arith, lt))

-- the first ones of a list stay in their places
taken_at : {X : Type 0} (xs : List X) (n k : ℕ) → k < n → slice_get (take n xs) k ≡ slice_get xs k
taken_at xs zero k lt = absurd (omega (arith, lt))
taken_at [] (suc n) k lt = refl
taken_at (x ∷ xs) (suc n) zero lt = refl
taken_at (x ∷ xs) (suc n) (suc k) lt = taken_at xs n k (omega (arith, lt))

-- where a task goes on, its region stands for what it stands for
stands_there : (t : TaskView) (p : Position) (levels : List Level) (named : List NamedTerm) (items : List BranchItem) (own : List Entry) → HasOwn levels named items t own
    → t.next ≡ Some p → AreEndsOldest t.region.choices → length t.region.store.marks ≡ length t.region.choices → StandsForOwn levels named items t.region p own
stands_there t p levels named items own has next ends marks =
    let stack : task_stack named t ≡ position_stack named (items_over_floor levels (items_meant items)) t.region p
    = ap (λ (o : Option Position). entries_at (carried named t.deferred) t.region o ++ entries_of (carried named t.deferred) t.region) next
    ∙ ap (λ (xs : List (Item ℕ)). position_stack named xs t.region p) has.deferred in
    record { are_own = has.are_own; entries = sym stack ∙ has.entries; ends = ends; marks = marks }

-- as it is once the task was taken apart
module _ (t : TaskView) (r : RegionView) (floor : ℕ) (p : Position) (law : OwnEntriesAreOverFloor) (h : HasSomeOwn t) (same : r ≡ t.region) (floor_is : floor ≡ t.floor)
    (next : t.next ≡ Some p) (ends : AreEndsOldest r.choices) (floors : AreEndsAtFloor r.store.floor r.choices r.store.marks)
    (marks : length r.store.marks ≡ length r.choices) where
  ends_there : AreEndsOldest t.region.choices
  ends_there = subst (λ (x : RegionView). AreEndsOldest x.choices) same ends

  floors_there : AreEndsAtFloor t.region.store.floor t.region.choices t.region.store.marks
  floors_there = subst (λ (x : RegionView). AreEndsAtFloor x.store.floor x.choices x.store.marks) same floors

  marks_there : length t.region.store.marks ≡ length t.region.choices
  marks_there = subst (λ (x : RegionView). length x.store.marks ≡ length x.choices) same marks

  own_floor : IsOverEnds t.floor t.region
  own_floor =
      subst (λ n. IsOverEnds n t.region) h.has.floor
      (law h.levels h.named h.items t.region p h.own (stands_there t p h.levels h.named h.items h.own h.has next ends_there marks_there)
      (let s = h.some in let f = h.has.floor in omega (arith, s, f)))

  pub floor_there : IsCaptureFloor floor r
  floor_there = subst (λ n. IsCaptureFloor n r) (sym floor_is) (subst (IsCaptureFloor t.floor) (sym same) own_floor.floor_is)

  -- the newest end that is left came at the floor, before and after
  same_floor : (new : RegionView) (c : Captured) → CapturesRegion t.region new t.floor p c
      → AreEndsAtFloor new.store.floor new.choices new.store.marks → new.store.floor ≡ t.region.store.floor
  same_floor new c k floors_left =
      let some = own_floor.floor_is.some in
      let lt : t.floor - 1 < t.floor = omega (arith, some) in
      let end = subst (λ o. IsSomeAnd o (λ (x : ChoicePoint). IsEnd x.alternatives))
      (sym (ap (λ (xs : List ChoicePoint). slice_get xs (t.floor - 1)) k.left ∙ taken_at t.region.choices t.floor (t.floor - 1) lt)) own_floor.newest in
      let mark = ap (λ (xs : List Moment). slice_get xs (t.floor - 1)) k.left_marks
      ∙ (taken_at t.region.store.marks t.floor (t.floor - 1) lt ∙ k.marked) in
      sym (floors_left (t.floor - 1) k.start end mark) ∙ floors_there (t.floor - 1) k.start own_floor.newest k.marked

  pub is_off : (new : RegionView) (c : Captured) → CapturesRegion r new floor p c → AreEndsAtFloor new.store.floor new.choices new.store.marks
      → IsTakenOffTask t new c
  is_off new c k floors_left =
      let captures : CapturesRegion t.region new t.floor p c
      = subst (λ n. CapturesRegion t.region new n p c) floor_is (subst (λ (x : RegionView). CapturesRegion x new floor p c) same k) in
      record {
        position = p;
        next = next;
        captures = captures;
        floor = own_floor;
        ends = ends_there;
        at_floor = floors_there;
        marks = marks_there;
        same_floor = same_floor new c captures floors_left;
      }

-- an alternative that is there has a branch
pub within : {X : Type 0} (xs : List X) (i : ℕ) → is_some (slice_get xs i) ≡ true → i < length xs
within [] i h = absurd (cc h)
within (x ∷ xs) zero h = omega arith
within (x ∷ xs) (suc i) h = let l = within xs i h in omega (arith, l)

-- what is deferred has variables below the next number
carried_below : (next : ℕ) (levels : List Level) (items : List BranchItem) → list_all (is_item_settled next) items ≡ true
    → Each (IsNamedBelow next) (map carried_term (items_over_floor levels (items_meant items)))
carried_below next levels [] h = tt
carried_below next levels (Goal term cut ∷ items) h = let k = both _ _ h in (settled_below next term k.0, carried_below next levels items k.1)
carried_below next levels (CatchEnd scope ∷ items) h = (omega arith, carried_below next levels items h)
carried_below next levels (Collect template scope ∷ items) h = let k = both _ _ h in (settled_below next template k.0, carried_below next levels items k.1)
carried_below next levels (Remove id ∷ items) h = (omega arith, carried_below next levels items h)
carried_below next levels (End ball ∷ items) h = false_true h

-- a task's region goes on at a position
module _ (nodes : NodesView) (a : Place) (t : TaskView) (left : RegionView) (c : Captured) (bodies : List Body) (branch : List ℕ) (goals : List BranchItem) (base : ℕ)
    (law : OwnEntriesAreTaken) (older : UnifiersStandForOlder) (last : UnifiersAreFinal) (placed : PlacesAreLevels) (off : IsTakenOffTask t left c)
    (made : MeanPublished c goals base branch (length nodes.rows) bodies)
    (up : AreNumbersUp nodes.rows a branch) (there : IsBranchAt nodes.rows a goals base) where
  module _ (job : Job) (read : Reading) (v : Level) (above : List Level) (was : Status) (way : Branching) (own : List Entry) (at : place_at v ≡ a)
      (table : IsTableOf nodes read (plug (v ∷ above) was)) (on : IsWayTo nodes.rows (v ∷ above) way) (can : CanBePublished job (v ∷ above) way)
      (has : HasOwn (v ∷ above) (named_of (query_on job way)) (items_on way) t own) where
    abbrev levels : List Level
    levels = v ∷ above

    abbrev items : List BranchItem
    items = items_on way

    abbrev named : List NamedTerm
    named = named_of (query_on job way)

    numbers_are : branch ≡ numbers levels
    numbers_are =
        up.are
        ∙ ap (λ (ps : List Place). reverse (map (λ (q : Place). q.node) ps))
        (placed nodes read v above was way up.places table on (subst (λ q. AreAllUp nodes.rows q up.places) (sym at) up.up)).levels_are

    branch_there : IsBranchAt nodes.rows (place_at v) goals base
    branch_there = subst (λ q. IsBranchAt nodes.rows q goals base) (sym at) there

    goals_are : goals ≡ items
    goals_are = goals_on nodes.rows v above way goals base on branch_there

    base_is : base ≡ next_number (segments_on way)
    base_is = base_on nodes.rows v above way goals base on branch_there

    start : (m : Moment) × (slice_get t.region.store.marks (t.floor - 1) ≡ Some m)
    start = got t.region.store.marks (t.floor - 1) (let m = off.marks in let s = off.floor.floor_is.some in let l = off.floor.floor_is.many in omega (arith, m, s, l))

    settled_on : (w : Branching) → is_way_settled w ≡ true → list_all (is_item_settled (next_number (segments_on w))) (items_on w) ≡ true
    settled_on [] h = false_true h
    settled_on ((b, i) ∷ w) h = (both _ _ (both _ _ h).1).0

    below : IsBoundOnBranch way start.0 → Each (IsNamedBelow start.0.next) (carried named (items_over_floor levels (items_meant items)))
    below bound =
        subst (λ n. Each (IsNamedBelow n) (carried named (items_over_floor levels (items_meant items)))) (sym bound.next)
        (each-append (IsNamedBelow (next_number (segments_on way))) named (map carried_term (items_over_floor levels (items_meant items))) can.named
        (carried_below (next_number (segments_on way)) levels items (settled_on way can.settled)))

    taken : IsBoundOnBranch way start.0 → AreTakenOff levels (length nodes.rows) named items (bound_at start.0) c own
    taken bound =
        law levels (length nodes.rows) named items t.region left off.position own c start.0
        (stands_there t off.position levels named items own has off.next off.ends off.marks) can.scoped
        (subst (λ n. CapturesRegion t.region left n off.position c) (sym has.floor) off.captures)
        (ap (λ n. slice_get t.region.store.marks (n - 1)) has.floor ∙ start.1) (below bound)

    made_here : MeanPublished c items (next_number (segments_on way)) (numbers levels) (length nodes.rows) bodies
    made_here =
        subst (λ (ns : List ℕ). MeanPublished c items (next_number (segments_on way)) ns (length nodes.rows) bodies) numbers_are
        (subst (λ n. MeanPublished c items n branch (length nodes.rows) bodies) base_is
        (subst (λ (xs : List BranchItem). MeanPublished c xs base branch (length nodes.rows) bodies) goals_are made))

    mean_own : IsBoundOnBranch way start.0 → MeanOwn job (length nodes.rows) levels way start.0.bound bodies own
    mean_own bound =
        let off_here = taken bound in
        let place = placement_of levels (length nodes.rows) named off_here.groups in
        let eqs = binding_equations (bindings_on (segments_on way)) in
        let bound_there : IsBoundAtStart (next_number (segments_on way)) (bound_at start.0)
        = record { number = bound.next; older = older eqs start.0.bound bound.bound; applied = last eqs start.0.bound bound.bound } in
        let deferred : IsDeferredAt place items (next_number (segments_on way)) (numbers levels) (length nodes.rows)
        = record { nodes = nodes_down levels; number = refl; names = can.scoped; settled = settled_on way can.settled } in
        record {
          current = published_entry place items Choice off_here.current;
          groups = off_here.groups;
          entries = off_here.entries;
          means = made_here place (bound_at start.0) off_here.current off_here.choices bound_there deferred off_here.taken;
        }

    pub means_from_start : MeanFromStart job (length nodes.rows) levels way t bodies own
    means_from_start bound =
        let same : start.0 ≡ t.region.store.floor = off.at_floor (t.floor - 1) start.0 off.floor.newest start.1 in
        subst (λ (m : Moment). MeanOwn job (length nodes.rows) levels way m.bound bodies own) same (mean_own (subst (IsBoundOnBranch way) (sym same) bound))

  bodies_mean : MeanTask nodes a t bodies
  bodies_mean job read v above was way own at table on can has = means_from_start job read v above was way own at table on can has

  pub leaves_bodies : LeavesBodies nodes a t bodies left
  leaves_bodies = record { mean = bodies_mean; floor = off.same_floor; text = off.captures.text }

pub branch_at : (nodes : NodesView) (a : Place) (body : Body) (branch : Branch) (goals : List BranchItem) (base : ℕ)
    → option_map (λ (r : StoredNode). r.body) (row_of_node nodes.rows a.node) ≡ Some body → slice_get body.branches a.index ≡ Some branch → goals ≡ branch.goals
    → base ≡ branch.segment.base + branch.segment.vars → IsBranchAt nodes.rows a goals base
branch_at nodes a body branch goals base is there goals_are base_is = by_row (row_of_node nodes.rows a.node) refl
  where
    by_row : (o : Option StoredNode) → row_of_node nodes.rows a.node ≡ o → IsBranchAt nodes.rows a goals base
    by_row None e = let wrong : None ≡ Some body = sym (ap (option_map (λ (r : StoredNode). r.body)) e) ∙ is in absurd cc
    by_row (Some r) e =
        let same : Some r.body ≡ Some body = sym (ap (option_map (λ (r : StoredNode). r.body)) e) ∙ is in
        let body_is : r.body ≡ body = cc in
        record {
          row = r;
          is = e;
          branch = branch;
          there = ap (λ (b : Body). slice_get b.branches a.index) body_is ∙ there;
          goals_are = goals_are;
          base_is = base_is;
        }

-- what is there has its place
pub got_or : {X : Type 0} (xs : List X) (i : ℕ) (x d : X) → i < length xs → x ≡ get_or xs i d → slice_get xs i ≡ Some x
got_or [] i x d lt e = absurd (omega (arith, lt))
got_or (y ∷ xs) zero x d lt e = ap (λ z. Some z) (sym e)
got_or (y ∷ xs) (suc i) x d lt e = got_or xs i x d (omega (arith, lt)) e

pub if_ok : {A E : Type 0} (r : Result A E) (P Q : A → Type 0) → IfOk r P → ((a : A) → P a → Q a) → IfOk r Q
if_ok (Ok a) P Q h f = f a h
if_ok (Err e) P Q h f = tt
