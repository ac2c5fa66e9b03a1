-- What a task that stops before its first inference tells of the front.
use Rattle.std.proofs.Common.{◌≡◌, ℕ, suc, List, [], ◌∷◌, ◌++◌, map, drop, Some, refl, sym, ap, ◌∙◌, subst}
use Rattle.std.proofs.lemmas.List.{append-nil}
use Rattle.au_model.specs.Terms.Named.{NamedTerm, variable_meant}
use Rattle.au_model.specs.Terms.Substitutions.{Substitution}
use Rattle.au_model.specs.declared.types.VarName.{VarName}
use Rattle.task_region.specs.TaskLoads.{run_on_branch}
use Rattle.branch_reading.specs.Readings.{continuation_on, named_of, query_on, reading}
use Rattle.cell_store.specs.StoreView.{StoreView}
use Rattle.region_floor.specs.Deferred.{carried_term, deferred_now, joined_continuation, joined_items}
use Rattle.region_floor.specs.RegionRuns.{RegionRun, StandsAtGate, by_heights}
use Rattle.region_split.specs.ClauseTrials.{entries_at}
use Rattle.region_split.specs.Regions.{entries_of}
use Rattle.run_model.specs.Machine.Entries.{PlainEntry}
use Rattle.run_model.specs.Machine.Items.{Item, GoalItem, CatchMark, CollectMark, RemovalItem, Continuation, before, resolve_item, resolve_named}
use Rattle.run_model.specs.Programs.Clauses.{Clause}
use Rattle.run_model.specs.Programs.Jobs.{Job, own_terms}
use Rattle.task_region.specs.GoalLoads.{nothing_here}
use Rattle.task_region.specs.TaskStandings.{IsOwnRun, StandsOnRun}
use Rattle.task_region.specs.TaskStops.{StandForNothing, StopsTask}
use Rattle.task_region.specs.TaskViews.{TaskView, carried, task_stack}
use Rattle.task_region.specs.declared.running.TaskStop.{TaskStop}
use Rattle.task_region.specs.declared.running.TaskStop.TheVariants.{Removal, Answer}
use Rattle.task_region.proofs.FoundLemmas.{items_from, nothing_from}
use Rattle.tree_model.specs.Effects.{spot_stack}
use Rattle.tree_model.specs.Floors.{floor_of, with_heights}
use Rattle.tree_model.specs.Legality.{taken_at}
use Rattle.tree_model.specs.Levels.{Level, Place, Spot, levels_of}
use Rattle.tree_model.specs.Nodes.{Pending, WorldGate}
use Rattle.tree_model.specs.TreeStates.{TreeState}
use Rattle.tree_model.specs.Ways.{IsAwake}
use Rattle.tree_nodes.specs.Bodies.{Branching}
use Rattle.tree_nodes.specs.TreeTables.{NodesView}
use Rattle.task_world.specs.FrontItems.{HasLeft, terms_named, value_named}
use Rattle.task_world.specs.FrontsTold.{AnswersAreTold, AreItsNames, IsTreeAt, RemovalsAreTold, StopsAtOnce}
use Rattle.task_world.proofs.SpotLemmas.{at, awake, on, reads, table, way}
use Rattle.task_world.proofs.TopLemmas.{ComesFrom, deferred_is, front_told, named_is}

-- the names of a query with what they stand for
names_bound : (st : StoreView) (names : List VarName) → map (resolve_named st.now.bound) (own_terms (map variable_meant names)) ≡ terms_named st names
names_bound st [] = refl
names_bound st (v ∷ names) = ap (λ (vs : List NamedTerm). record { name = (variable_meant v).name; term = value_named st v } ∷ vs) (names_bound st names)

-- what stands for nothing that is deferred
nothing_joined : (s : Substitution) (deferred items : List (Item ℕ)) → StandForNothing deferred items → joined_items (map (resolve_item s) deferred) items ≡ []
nothing_joined s deferred [] h = refl
nothing_joined s deferred (RemovalItem n ∷ []) h = ap (λ (is : List (Item ℕ)). is ++ []) (nothing_from (resolve_item s) deferred n h)
nothing_joined s deferred (RemovalItem n ∷ (i ∷ items)) h = absurd h
nothing_joined s deferred (GoalItem t n ∷ items) h = absurd h
nothing_joined s deferred (CatchMark n ∷ items) h = absurd h
nothing_joined s deferred (CollectMark t n ∷ items) h = absurd h

abbrev bound : TaskView → Substitution
bound task = task.region.store.now.bound

module _ (job : Job) (nodes : NodesView) (t : TreeState) (w : ℕ) (a : Place) (clauses : List Clause) (task : TaskView) (tree : IsTreeAt job nodes t) (s : Spot)
    (taken : taken_at w a t ≡ Some s) where
  abbrev levels : List Level
  levels = levels_of s

  abbrev pub here : Branching
  here = way job nodes t w a tree.placed s taken

  abbrev pub named : List NamedTerm
  named = named_of (query_on job here)

  abbrev pub start : Continuation ℕ
  start = by_heights levels (continuation_on job here)

  abbrev pub run : RegionRun
  run = run_on_branch clauses levels job here

  -- the task stops there
  pub stopped : (stop : TaskStop) → StopsAtOnce nodes a clauses task stop → StopsTask run 0 named task stop
  stopped stop stops =
      stops job (reading job) s.level s.above (Pending s.hold s.entry) here (at job nodes t w a tree.placed s taken) (table job nodes t w a tree.placed s taken)
      (on job nodes t w a tree.placed s taken)

  -- with this continuation on top
  module _ (stands : StandsOnRun run 0 named task) (gate : StandsAtGate run 0 (task_stack named task) WorldGate) (f : Continuation ℕ)
      (next : entries_at (carried named task.deferred) task.region task.next ≡ PlainEntry f ∷ []) where
    pub told : ComesFrom (joined_continuation run.deferred f) (with_heights levels (reading job here))
    told =
        front_told clauses levels (reading job here) run.deferred (task_stack named task) WorldGate gate f (entries_of (carried named task.deferred) task.region)
        (ap (λ es. es ++ entries_of (carried named task.deferred) task.region) next)
        (subst IsAwake (reads job nodes t w a tree.placed s taken) (awake job nodes t w a tree.placed s taken tree.legal))

    pub stack : spot_stack s ≡ PlainEntry told.front ∷ floor_of levels
    stack =
        ap (λ e. with_heights levels e ∷ floor_of levels) (reads job nodes t w a tree.placed s taken)
        ∙ ap (λ e. e ∷ floor_of levels) told.plain

    -- which is what is left
    pub has_left : (items : List (Item ℕ)) → (joined_continuation run.deferred f).items ≡ items → HasLeft s items
    has_left items is = record {
      front = told.front;
      stack = stack;
      left = ap (λ (c : Continuation ℕ). c.items) (sym told.rest) ∙ is;
    }

    pub front_named : (items : List (Item ℕ)) (is : (joined_continuation run.deferred f).items ≡ items)
        → (has_left items is).front.named ≡ (joined_continuation run.deferred f).named
    unfolding has_left told
    front_named items is = ap (λ (c : Continuation ℕ). c.named) (sym told.rest)

    pub front_next : (items : List (Item ℕ)) (is : (joined_continuation run.deferred f).items ≡ items) → (has_left items is).front.next ≡ f.next
    unfolding has_left told
    front_next items is = ap (λ (c : Continuation ℕ). c.next) (sym told.rest)

  -- what is deferred, as it is bound
  module _ (own : IsOwnRun run named task) (items : List (Item ℕ)) where
    abbrev pub top : Continuation ℕ
    top = before items (nothing_here (carried named task.deferred) task.region)

    same_items : start.items ≡ task.deferred
    same_items = own.items

    top_named : top.named ≡ map (resolve_named task.region.store.now.bound) (start.named ++ map carried_term start.items)
    top_named = ap (λ (is : List (Item ℕ)). map (resolve_named task.region.store.now.bound) (carried named is)) (sym same_items)

    pub now_is : deferred_now run.deferred top ≡ map (resolve_item task.region.store.now.bound) task.deferred
    now_is = deferred_is start task.region.store.now.bound top top_named ∙ ap (map (resolve_item task.region.store.now.bound)) same_items

    names_are : (joined_continuation run.deferred top).named ≡ map (resolve_named task.region.store.now.bound) named
    names_are = named_is start task.region.store.now.bound top top_named

    -- nothing of it is left at an answer, and the query's names have what the store has bound
    pub answer_items : StandForNothing task.deferred items → (joined_continuation run.deferred top).items ≡ []
    answer_items nothing =
        ap (joined_items (deferred_now run.deferred top)) (append-nil items)
        ∙ ap (λ (now : List (Item ℕ)). joined_items now items) now_is
        ∙ nothing_joined (bound task) task.deferred items nothing

    pub answer_named : (names : List VarName) → AreItsNames job nodes.rows names w a t → (joined_continuation run.deferred top).named ≡ terms_named task.region.store names
    answer_named names are = names_are ∙ ap (map (resolve_named (bound task))) (sym (are s here taken (on job nodes t w a tree.placed s taken))) ∙ names_bound task.region.store names

-- a removal
pub removals_are_told : RemovalsAreTold
removals_are_told job nodes t w a clauses task number tree stops s taken =
    let k = stopped job nodes t w a clauses task tree s taken (Removal number) stops.stops in
    let at_item = stops.next.0 in
    let items : List (Item ℕ) = RemovalItem at_item ∷ [] in
    let behind : List (Item ℕ) = drop (suc at_item) (map (resolve_item (bound task)) task.deferred) ++ [] in
    record {
      behind = behind;
      has = has_left job nodes t w a clauses task tree s taken k.0 k.1 (top job nodes t w a clauses task tree s taken k.0.own items)
          (stops.next.2 (carried (named job nodes t w a clauses task tree s taken) task.deferred)) (RemovalItem number ∷ behind)
          (ap (λ (now : List (Item ℕ)). drop at_item now ++ []) (now_is job nodes t w a clauses task tree s taken k.0.own items)
          ∙ ap (λ (is : List (Item ℕ)). is ++ []) (items_from (resolve_item (bound task)) task.deferred at_item (RemovalItem number) stops.next.1));
    }

-- an answer
pub answers_are_told : AnswersAreTold
answers_are_told job nodes t w a clauses task names tree stops are s taken =
    let k = stopped job nodes t w a clauses task tree s taken Answer stops.stops in
    let items = stops.next.0 in
    let f = top job nodes t w a clauses task tree s taken k.0.own items in
    let next = stops.next.2 (carried (named job nodes t w a clauses task tree s taken) task.deferred) in
    let is = answer_items job nodes t w a clauses task tree s taken k.0.own items stops.next.1 in
    record {
      has = has_left job nodes t w a clauses task tree s taken k.0 k.1 f next [] is;
      named_are =
          front_named job nodes t w a clauses task tree s taken k.0 k.1 f next [] is
          ∙ answer_named job nodes t w a clauses task tree s taken k.0.own items names are;
    }
