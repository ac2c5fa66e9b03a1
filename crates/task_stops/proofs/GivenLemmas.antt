-- The result that an alternative gives, by what its task's store has bound.
use Rattle.std.proofs.Common.{◌≡◌, ◌⊎◌, inl, inr, ℕ, ◌-◌, ◌≤◌, Bool, true, false, cond, List, [], ◌∷◌, ◌++◌, length, map, drop, Some, refl, sym, ap, ◌∙◌, subst, arith}
use Rattle.std.proofs.lemmas.List.{length-map}
use Rattle.std.specs.List.{slice_get}
use Rattle.std.specs.Prelude.{nat_lt}
use Rattle.au_term.specs.Term.{Term}
use Rattle.au_model.specs.Terms.Named.{NamedTerm}
use Rattle.au_model.specs.Terms.Substitutions.{Substitution, resolve}
use Rattle.run_model.specs.Machine.Entries.{Entry, PlainEntry, CatchEntry, FindallEntry, EndEntry, collected}
use Rattle.run_model.specs.Machine.Items.{Item, GoalItem, CatchMark, CollectMark, RemovalItem, Continuation, before, resolve_item, resolve_named, with_items, without_marks}
use Rattle.region_split.specs.Regions.{entries_of}
use Rattle.region_floor.specs.BareFloors.{AreOwn, bare_stack}
use Rattle.region_floor.specs.Deferred.{carried_term, deferred_now, joined_continuation, joined_entry}
use Rattle.region_floor.specs.RegionRuns.{RegionRun, ComesToResult, by_heights, run_after}
use Rattle.region_floor.proofs.JoinedLemmas.{bound_now}
use Rattle.region_floor.proofs.RunLemmas.{tops_are_own}
use Rattle.tree_model.specs.Credits.{Credit}
use Rattle.tree_model.specs.Effects.{results_of, result_of}
use Rattle.tree_model.specs.Legality.{run_gives_result}
use Rattle.tree_model.specs.Floors.{floor_of}
use Rattle.tree_model.specs.Levels.{Level}
use Rattle.tree_model.specs.PrivateRuns.{own_at_rest, own_free_step, own_free_steps, private_run}
use Rattle.tree_nodes.specs.Bodies.{Branching}
use Rattle.public_tree.specs.declared.closing.TaskEnd.TheVariants.{Result}
use Rattle.task_region.specs.TaskLoads.{run_on_branch}
use Rattle.branch_reading.specs.Readings.{continuation_on, named_of, query_on}
use Rattle.run_model.specs.Programs.Clauses.{Clause}
use Rattle.run_model.specs.Programs.Jobs.{Job}
use Rattle.task_region.specs.GoalLoads.{nothing_here}
use Rattle.task_region.specs.TaskResults.{IsResultNow}
use Rattle.task_region.specs.TaskStops.{IsNextFor, StopsTask}
use Rattle.task_region.specs.TaskViews.{TaskView, carried, task_stack}
use Rattle.task_region.specs.declared.running.TaskStop.TheVariants.{Collect}
use Rattle.task_region.proofs.FoundLemmas.{items_from}
use Rattle.task_region.proofs.ResultLemmas.{nothing_over_floor}
use Rattle.task_stops.specs.EndLaws.{IsAllLeft, TaskResultsAreGiven}
use Rattle.task_stops.specs.TaskEnds.{EndsWith}
use Rattle.task_stops.proofs.EndLemmas.{run_is, stopped, there}

module _ (clauses : List Clause) (levels : List Level) (job : Job) (way : Branching) (k : ℕ) (task : TaskView) (number : ℕ) (next : IsNextFor (Collect number) task)
    (alone : IsAllLeft k task) (stops : StopsTask (run_on_branch clauses levels job way) k (named_of (query_on job way)) task (Collect number)) where
  abbrev run : RegionRun
  run = run_on_branch clauses levels job way

  abbrev named : List NamedTerm
  named = named_of (query_on job way)

  abbrev all : List NamedTerm
  all = carried named task.deferred

  abbrev start : Continuation ℕ
  start = by_heights levels (continuation_on job way)

  abbrev bound : Substitution
  bound = task.region.store.now.bound

  -- what is next, which is all that is left
  abbrev top : Continuation ℕ
  top = before (RemovalItem number ∷ []) (nothing_here all task.region)

  result_is_left : ComesToResult run k (task_stack named task)
  result_is_left = stops.2

  -- a run has at most one entry at its start
  at_start : (e : Entry) → length (own_at_rest (floor_of levels) (e ∷ [])) ≤ 1
  at_start (CatchEntry c r f) = omega arith
  at_start (FindallEntry results l f) = omega arith
  at_start (EndEntry b) = omega arith
  at_start (PlainEntry f) = by_items (without_marks f.items)
    where
      by_items : (items : List (Item ℕ)) → length (own_free_step items f [] (floor_of levels) (own_free_steps (floor_of levels) 0)) ≤ 1
      by_items [] = omega arith
      by_items (GoalItem t h ∷ items) = omega arith
      by_items (CatchMark h ∷ items) = omega arith
      by_items (RemovalItem n ∷ items) = omega arith
      by_items (CollectMark t h ∷ items) = by_test (nat_lt h (length (floor_of levels)))
        where
          by_test : (b : Bool) → length (cond b (PlainEntry (with_items (CollectMark t h ∷ items) f) ∷ []) (collected (h - length (floor_of levels)) t [])) ≤ 1
          by_test true = omega arith
          by_test false = omega arith

  one_at_start : (below : List Entry) → k ≡ 0 → run_after run k ≡ Some (map (joined_entry run.deferred) (PlainEntry top ∷ below)) → below ≡ []
  unfolding private_run
  one_at_start below none runs =
      let here : Some (own_at_rest (floor_of levels) (run.entry ∷ [])) ≡ Some (map (joined_entry run.deferred) (PlainEntry top ∷ below))
      = ap (run_after run) (sym none) ∙ runs in
      let both : own_at_rest (floor_of levels) (run.entry ∷ []) ≡ map (joined_entry run.deferred) (PlainEntry top ∷ below) = cc in
      none_more below (let short = at_start run.entry in let e = ap length both in let n = length-map below (joined_entry run.deferred) in omega (arith, short, e, n))
    where
      none_more : (es : List Entry) → length es ≡ 0 → es ≡ []
      none_more [] e = refl
      none_more (x ∷ es) e = absurd (omega (arith, e))

  own_is : result_is_left.own ≡ PlainEntry top ∷ []
  own_is =
      let r = result_is_left in
      let stack : task_stack named task ≡ PlainEntry top ∷ entries_of all task.region = ap (λ es. es ++ entries_of all task.region) (next.1 all) in
      let own = tops_are_own levels r.own top (entries_of all task.region) (sym r.entries ∙ stack) in
      own.own_is ∙ ap (λ es. PlainEntry top ∷ es) (nothing_under own.below own.own_is own.entries alone)
    where
      nothing_under : (below : List Entry) → result_is_left.own ≡ PlainEntry top ∷ below → entries_of all task.region ≡ bare_stack levels below → IsAllLeft k task → below ≡ []
      nothing_under below is entries (inl none) = one_at_start below none (result_is_left.run ∙ ap (λ es. Some (map (joined_entry run.deferred) es)) is)
      nothing_under below is entries (inr ends) =
          nothing_over_floor all task.region levels below ends (subst (AreOwn (length levels)) is result_is_left.are_own).1 entries

  run_left : run_after run k ≡ Some (PlainEntry (joined_continuation run.deferred top) ∷ [])
  run_left = result_is_left.run ∙ ap (λ es. Some (map (joined_entry run.deferred) es)) own_is

  gives : run_gives_result (run_after run k) ≡ true
  gives = ap run_gives_result result_is_left.run ∙ result_is_left.gives (ap length own_is)

  -- what is deferred, as it is bound
  same_items : start.items ≡ task.deferred
  same_items = stops.0.own.items

  top_named : top.named ≡ map (resolve_named bound) (start.named ++ map carried_term start.items)
  top_named = ap (λ (is : List (Item ℕ)). map (resolve_named bound) (carried named is)) (sym same_items)

  now_is : deferred_now run.deferred top ≡ map (resolve_item bound) task.deferred
  now_is = bound_now bound start top top_named ∙ ap (map (resolve_item bound)) same_items

  records : (template : Term) (h : ℕ) → slice_get task.deferred number ≡ Some (CollectMark template h) → results_of (run_after run k) ≡ resolve bound template ∷ []
  records template h is =
      ap results_of run_left
      ∙ ap (λ (now : List (Item ℕ)). result_of (drop number now ++ [])) now_is
      ∙ ap (λ (is : List (Item ℕ)). result_of (is ++ [])) (items_from (resolve_item bound) task.deferred number (CollectMark template h) is)

  pub ends_with : (result : Term) → IsResultNow task number result → EndsWith Result (Some result) k (run_after run k)
  ends_with result now = record {
    ends = gives;
    credit =
        ap (λ (ts : List Term). let c : Credit = record { inferences = k; answers = 0; records = ts } in c)
        (records now.0 now.1 now.2 ∙ ap (λ (t : Term). t ∷ []) (sym now.3));
  }

pub results_are_given : TaskResultsAreGiven
results_are_given v w k a task number result stand legal stops next alone now s taken =
    let out = there v w k a stand legal s taken in
    let h = stopped v w k a stand legal s taken task (Collect number) stops in
    subst (EndsWith Result (Some result) k) (sym (run_is v w k a stand legal s taken))
    (ends_with _ _ v.history.job out.way k task number next alone h.stops result now)
