-- A region with the bindings of a branch stands at the start of what the branch reads as.
use Rattle.std.proofs.Common.{◌≡◌, ℕ, ◌<◌, ◌==◌, Bool, true, false, cond, List, [], ◌∷◌, ◌++◌, map, take, length, Option, Some, None, refl, sym, ap, ap₂, ◌∙◌, subst, arith}
use Rattle.std.specs.List.{list_all}
use Rattle.std.specs.Prelude.{slice_get}
use Rattle.au_term.proofs.LogicLemmas.{both, not-true, false_true, le_by}
use Rattle.au_term.specs.Term.{Term, var_bound}
use Rattle.au_term.specs.declared.segment.Segment.{Segment}
use Rattle.au_model.proofs.ApplyLemmas.{apply-same}
use Rattle.au_model.specs.Terms.Each.{Each}
use Rattle.au_model.specs.Terms.MostGeneral.{SameValues}
use Rattle.au_model.specs.Terms.Named.{NamedTerm}
use Rattle.au_model.specs.Terms.Substitutions.{Substitution, value_of}
use Rattle.run_model.specs.Machine.Entries.{Entry, PlainEntry}
use Rattle.run_model.specs.Machine.Items.{Item, GoalItem, CatchMark, CollectMark, RemovalItem, Continuation, resolve_item, resolve_named, resolve_continuation}
use Rattle.run_model.specs.Programs.Clauses.{Clause}
use Rattle.run_model.specs.Programs.Jobs.{Job}
use Rattle.clause_compile.specs.declared.event.Branch.{Branch}
use Rattle.clause_compile.specs.declared.item.Item.{Item as BranchItem}
use Rattle.clause_compile.specs.declared.item.Item.TheVariants.{Goal, CatchEnd, Collect, Remove, End}
use Rattle.region_floor.proofs.RegionRunLemmas.{entries_by_heights}
use Rattle.region_floor.specs.Deferred.{all_deferred}
use Rattle.region_floor.specs.NextNumbers.{NumbersFrom}
use Rattle.region_floor.specs.RegionRuns.{StandsAfter, by_heights}
use Rattle.region_split.specs.Regions.{RegionView}
use Rattle.region_split.specs.Texts.{TextView}
use Rattle.task_region.specs.DeferredItems.{IsDeferredOver}
use Rattle.task_region.specs.TaskStandings.{StandsOnRun}
use Rattle.task_region.specs.TaskStarts.{StartsTask}
use Rattle.task_region.specs.TaskViews.{TaskView, task_stack}
use Rattle.tree_model.specs.Floors.{with_heights}
use Rattle.tree_model.specs.Levels.{Level, Place, place_at, plug}
use Rattle.tree_model.specs.Nodes.{Status}
use Rattle.tree_nodes.specs.Bodies.{BodyKind, ChoiceBody, ConditionBody, CatchBody, FindallBody, QueryBody, Branching, Reading}
use Rattle.tree_nodes.specs.Rows.{Rows, scope_number}
use Rattle.tree_nodes.specs.TreeTables.{NodesView, IsTableOf, IsWayTo}
use Rattle.branch_reading.specs.BranchSegments.{own_segments, segments_on, bindings_on, bound_by, next_number}
use Rattle.branch_reading.specs.Readings.{entry_meant, entry_if, entry_on, entry_beside, guard_meant, continuation_on, named_of, or_nothing, query_on, reading}
use Rattle.branch_reading.specs.SettledWays.{branch_items, items_on, is_item_settled, are_bindings_settled, is_way_settled}
use Rattle.task_region.specs.MadeInTurn.{IsMadeBy, CanMake, Makes}
use Rattle.task_region.specs.PlacesUp.{AreAllUp, body_at, branching_at, segments_above, segments_at, IsQueryPart}
use Rattle.task_region.specs.ScopeHeights.{items_over}
use Rattle.task_region.specs.TaskLoads.{is_task_at, CanBeLoaded, HasLoadableBranch, run_on_branch, LoadsTask, IsBoundOnBranch}
use Rattle.task_region.proofs.MadeLemmas.{nothing_made}
use Rattle.task_region.proofs.HeightLemmas.{length-places, items_same, height-within}
use Rattle.task_region.proofs.PlaceUpLemmas.{places_are_levels}

-- by the same values
same_items : (s u : Substitution) → ((n : ℕ) → value_of s n ≡ value_of u n) → (items : List (Item ℕ)) → map (resolve_item s) items ≡ map (resolve_item u) items
same_items s u h [] = refl
same_items s u h (GoalItem t n ∷ items) = ap₂ (λ r rs. GoalItem r n ∷ rs) (apply-same (value_of s) (value_of u) h t) (same_items s u h items)
same_items s u h (CatchMark n ∷ items) = ap (λ rs. CatchMark n ∷ rs) (same_items s u h items)
same_items s u h (CollectMark t n ∷ items) = ap₂ (λ r rs. CollectMark r n ∷ rs) (apply-same (value_of s) (value_of u) h t) (same_items s u h items)
same_items s u h (RemovalItem n ∷ items) = ap (λ rs. RemovalItem n ∷ rs) (same_items s u h items)

same_named : (s u : Substitution) → ((n : ℕ) → value_of s n ≡ value_of u n) → (vs : List NamedTerm) → map (resolve_named s) vs ≡ map (resolve_named u) vs
same_named s u h [] = refl
same_named s u h (v ∷ vs) = ap₂ (λ (r : Term) rs. record v { term = r } ∷ rs) (apply-same (value_of s) (value_of u) h v.term) (same_named s u h vs)

same_continuation : (s u : Substitution) → ((n : ℕ) → value_of s n ≡ value_of u n) → (f : Continuation ℕ) → resolve_continuation s f ≡ resolve_continuation u f
same_continuation s u h f = ap₂ (λ items named. record { items = items; named = named; next = f.next }) (same_items s u h f.items) (same_named s u h f.named)

pub or_nothing_same : (o : Option Substitution) (s : Substitution) → SameValues o (Some s) → (n : ℕ) → value_of (or_nothing o) n ≡ value_of s n
or_nothing_same None s h = absurd h
or_nothing_same (Some u) s h = h

-- what a settled branch reads as
pub no_end_meant : (next : ℕ) (items : List BranchItem) (e : Entry) → list_all (is_item_settled next) items ≡ true → entry_meant items e ≡ e
no_end_meant next [] e h = refl
no_end_meant next (End ball ∷ items) e h = false_true h
no_end_meant next (Goal t s ∷ items) e h = refl
no_end_meant next (CatchEnd s ∷ items) e h = refl
no_end_meant next (Collect t s ∷ items) e h = refl
no_end_meant next (Remove n ∷ items) e h = refl

cond_same : (b : Bool) (e : Entry) → cond b e e ≡ e
cond_same true e = refl
cond_same false e = refl

plain_beside : (kind : BodyKind) (i : ℕ) (s : Substitution) (f : Continuation ℕ) → is_task_at kind i ≡ true → entry_beside kind i s f ≡ PlainEntry f
plain_beside ChoiceBody i s f h = cond_same (i == 1) (PlainEntry f)
plain_beside ConditionBody i s f h = cond_same (i == 1) (PlainEntry f)
plain_beside (CatchBody catcher recovery) i s f h =
    ap (λ b. cond b (guard_meant (CatchBody catcher recovery) s f) (PlainEntry f)) (not-true (i == 1) h)
plain_beside (FindallBody results list) i s f h = ap (λ b. cond b (guard_meant (FindallBody results list) s f) (PlainEntry f)) (not-true (i == 1) h)
plain_beside QueryBody i s f h = cond_same (i == 1) (PlainEntry f)

pub settled_bindings : (way : Branching) → is_way_settled way ≡ true → are_bindings_settled (next_number (segments_on way))
    (bindings_on (segments_on way)) ≡ true
settled_bindings [] h = false_true h
settled_bindings ((b, i) ∷ way) h = (both _ _ h).0

pub settled_items : (way : Branching) → is_way_settled way ≡ true → list_all (is_item_settled (next_number (segments_on way))) (items_on way) ≡ true
settled_items [] h = false_true h
settled_items ((b, i) ∷ way) h = (both _ _ (both _ _ h).1).0

pub reads_settled : (job : Job) (way : Branching) → is_way_settled way ≡ true → reading job way ≡ entry_on job way
reads_settled job [] settled = false_true settled
reads_settled job ((b, i) ∷ way) settled =
    let here = (b, i) ∷ way in
    ap (λ is. entry_meant (items_on here) (entry_if is (entry_on job here))) settled
    ∙ no_end_meant (next_number (segments_on here)) (items_on here) (entry_on job here) (settled_items here settled)

reads_plain : (job : Job) (way : Branching) → CanBeLoaded way
    → reading job way ≡ PlainEntry (resolve_continuation (or_nothing (bound_by (segments_on way))) (continuation_on job way))
reads_plain job [] can = false_true can.settled
reads_plain job ((b, i) ∷ way) can =
    let s = or_nothing (bound_by (segments_on ((b, i) ∷ way))) in
    reads_settled job ((b, i) ∷ way) can.settled ∙ plain_beside b.kind i s (resolve_continuation s (continuation_on job ((b, i) ∷ way))) can.task

-- the first place
pub first_place : (rows : Rows) (a : Place) (places : List Place) → AreAllUp rows a places → (above : List Place) × (places ≡ a ∷ above)
first_place rows a [] h = absurd (cc h)
first_place rows a (p ∷ places) h = let same : a ≡ p = cc h.0 in (places, ap (λ (q : Place). q ∷ places) (sym same))

-- has the next number
next_above : (rows : Rows) (p : Place) (above : List Segment) → next_number (segments_above rows p above) ≡ next_number (segments_above rows p [])
next_above rows p above = by_own (slice_get (body_at rows p).branches p.index)
  where
    by_own : (o : Option Branch) → next_number (own_segments o ++ (body_at rows p).segment ∷ above) ≡ next_number
        (own_segments o ++ (body_at rows p).segment ∷ [])
    by_own None = refl
    by_own (Some b) = refl

next_on : (rows : Rows) (p : Place) (above : List Place) → next_number (segments_on (branching_at rows (p ∷ above))) ≡ next_number (segments_at rows (p ∷ []))
next_on rows p above = next_above rows p _

pub next_first : (rows : Rows) (a : Place) (places : List Place) → AreAllUp rows a places
    → next_number (segments_on (branching_at rows places)) ≡ next_number (segments_at rows (a ∷ []))
next_first rows a places h =
    let k = first_place rows a places h in
    ap (λ ps. next_number (segments_on (branching_at rows ps))) k.1 ∙ next_on rows a k.0

pub items_first : (rows : Rows) (a : Place) (places : List Place) → AreAllUp rows a places
    → items_on (branching_at rows places) ≡ branch_items (slice_get (body_at rows a).branches a.index)
items_first rows a places h = ap (λ ps. items_on (branching_at rows ps)) (first_place rows a places h).1

-- all bindings can be made in a region with the branch's variables
module _ (rows : Rows) (a : Place) (places : List Place) (own : ℕ) (f : RegionView) (settled : is_way_settled (branching_at rows places) ≡ true)
    (leads : AreAllUp rows a places) (part : IsQueryPart rows places own) (free : f.store.now.bound ≡ [])
    (next : f.store.now.next ≡ next_number (segments_at rows (a ∷ []))) where
  next_is : f.store.now.next ≡ next_number (segments_on (branching_at rows places))
  next_is = next ∙ sym (next_first rows a places leads)

  settled_all : are_bindings_settled f.store.now.next (bindings_on (segments_at rows (take own places))) ≡ true
  settled_all = ap₂ are_bindings_settled next_is (ap bindings_on (sym part)) ∙ settled_bindings (branching_at rows places) settled

  none_made : IsMadeBy [] f.store.now.bound
  none_made = subst (IsMadeBy []) (sym free) nothing_made

  pub can_make_all : CanMake f (bindings_on (segments_at rows (take own places)))
  can_make_all = record { before = []; made = none_made; settled = settled_all }

  pub all_bound : (r : RegionView) → Makes f r (bindings_on (segments_at rows (take own places))) → IsBoundOnBranch (branching_at rows places) r.store.now
  all_bound r makes =
      let made = subst (λ segments. IsMadeBy (bindings_on segments) r.store.now.bound) (sym part) (makes.made [] none_made settled_all) in
      record { bound = made.unified; free = made.free; next = makes.next ∙ next_is }

-- all items can be deferred
deferred_over : (places : List Place) (next : ℕ) → 0 < length places → (items : List BranchItem) → list_all (is_item_settled next) items ≡ true
    → Each (IsDeferredOver next (length places)) (items_over places items)
deferred_over places next some [] h = tt
deferred_over places next some (Goal t s ∷ items) h =
    let k = both _ _ h in ((le_by (var_bound t) next k.0, height-within places (scope_number s)), deferred_over places next some items k.1)
deferred_over places next some (CatchEnd s ∷ items) h =
    let within = height-within places (scope_number s) in (omega arith, deferred_over places next some items h)
deferred_over places next some (Collect t s ∷ items) h =
    let k = both _ _ h in let within = height-within places (scope_number s) in
    ((le_by (var_bound t) next k.0, omega arith), deferred_over places next some items k.1)
deferred_over places next some (Remove n ∷ items) h = (tt, deferred_over places next some items h)
deferred_over places next some (End ball ∷ items) h = false_true h

pub all_deferred_over : (rows : Rows) (a : Place) (places : List Place) (next : ℕ) → HasLoadableBranch rows a → AreAllUp rows a places
    → next ≡ next_number (segments_on (branching_at rows places))
    → Each (IsDeferredOver next (length places)) (items_over places (branch_items (slice_get (body_at rows a).branches a.index)))
all_deferred_over rows a places next loadable leads e =
    let k = first_place rows a places leads in
    let some : 0 < length places = subst (λ (ps : List Place). 0 < length ps) (sym k.1) (omega arith) in
    deferred_over places next some (branch_items (slice_get (body_at rows a).branches a.index))
    (ap₂ (λ n items. list_all (is_item_settled n) items) e (sym (items_first rows a places leads))
    ∙ settled_items (branching_at rows places) (loadable places leads).settled)

-- what was made of a place's branch in a region, before its floor is laid
pub record IsPrepared (rows : Rows) (a : Place) (places : List Place) (r : RegionView) (items : List (Item ℕ)) : Type 0 where
  pub leads : AreAllUp rows a places
  pub bound : IsBoundOnBranch (branching_at rows places) r.store.now
  pub items_are : items ≡ items_over places (branch_items (slice_get (body_at rows a).branches a.index))

module _ (nodes : NodesView) (a : Place) (places : List Place) (r : RegionView) (items : List (Item ℕ)) (t : TaskView)
    (loadable : HasLoadableBranch nodes.rows a) (prepared : IsPrepared nodes.rows a places r items) (starts : StartsTask r (length places) items t) where
  module _ (job : Job) (read : Reading) (v : Level) (up : List Level) (was : Status) (way : Branching) (at : place_at v ≡ a)
      (stands : IsTableOf nodes read (plug (v ∷ up) was)) (on : IsWayTo nodes.rows (v ∷ up) way) where
    leads_here : AreAllUp nodes.rows (place_at v) places
    leads_here = subst (λ p. AreAllUp nodes.rows p places) (sym at) prepared.leads

    levels_are : places ≡ map place_at (v ∷ up)
    levels_are = (places_are_levels nodes read v up was way places stands on leads_here).levels_are

    way_is : branching_at nodes.rows places ≡ way
    way_is = (places_are_levels nodes read v up was way places stands on leads_here).way_is

    can : CanBeLoaded way
    can = subst CanBeLoaded way_is (loadable places prepared.leads)

    unified : SameValues (bound_by (segments_on way)) (Some r.store.now.bound)
    unified = subst (λ w. SameValues (bound_by (segments_on w)) (Some r.store.now.bound)) way_is prepared.bound.bound

    left : Continuation ℕ
    left = by_heights (v ∷ up) (continuation_on job way)

    entry_is : with_heights (v ∷ up) (reading job way) ≡ PlainEntry (resolve_continuation r.store.now.bound left)
    unfolding left
    entry_is =
        let s = or_nothing (bound_by (segments_on way)) in
        ap (with_heights (v ∷ up)) (reads_plain job way can)
        ∙ (entries_by_heights (v ∷ up) s (continuation_on job way)
        ∙ ap PlainEntry (same_continuation s r.store.now.bound (or_nothing_same (bound_by (segments_on way)) r.store.now.bound unified)
        (by_heights (v ∷ up) (continuation_on job way))))

    as_many : length (v ∷ up) ≡ length places
    as_many = sym (ap length levels_are ∙ length-places (v ∷ up))

    items_left : left.items ≡ items
    unfolding left
    items_left =
        sym (items_same (v ∷ up) (items_on way))
        ∙ (ap₂ items_over (sym levels_are) (ap items_on (sym way_is) ∙ items_first nodes.rows a places prepared.leads) ∙ sym prepared.items_are)

    next_left : left.next ≡ r.store.now.next
    unfolding left
    next_left = ap (λ w. next_number (segments_on w)) (sym way_is) ∙ sym prepared.bound.next

    stands_there : (clauses : List Clause) → StandsAfter (run_on_branch clauses (v ∷ up) job way) 0 (task_stack (named_of (query_on job way)) t)
    unfolding left
    stands_there clauses =
        subst (λ (e : Entry). StandsAfter (record { clauses = clauses; levels = v ∷ up; entry = e; deferred = all_deferred left }) 0
        (task_stack left.named t)) (sym entry_is)
        (starts.stands clauses (v ∷ up) left as_many items_left next_left)

    numbers_from : NumbersFrom t.variables (with_heights (v ∷ up) (reading job way))
    numbers_from = subst (NumbersFrom t.variables) (sym entry_is) (omega (arith, starts.variables, next_left))

    stands_on : (text : TextView) → r.text ≡ text → StandsOnRun (run_on_branch text.clauses (v ∷ up) job way) 0 (named_of (query_on job way)) t
    unfolding left
    stands_on text same = record {
      own = record {
        clauses = ap (λ (x : TextView). x.clauses) (sym (starts.text ∙ same));
        levels = as_many ∙ sym starts.floor_is;
        named_are = refl;
        items = items_left ∙ sym starts.deferred;
        numbers = numbers_from;
      };
      stands = stands_there text.clauses;
    }

    bound_there : IsBoundOnBranch way t.region.store.floor
    unfolding left
    bound_there = subst (IsBoundOnBranch way) (sym starts.start) (subst (λ w. IsBoundOnBranch w r.store.now) way_is prepared.bound)

  pub loads : (text : TextView) → r.text ≡ text → LoadsTask nodes a text t
  loads text same = record {
    stands = λ job read v up was way at stands on. stands_on job read v up was way at stands on text same;
    start = λ job read v up was way at stands on. bound_there job read v up was way at stands on;
    going = starts.going;
    text_is = starts.text ∙ same;
  }
