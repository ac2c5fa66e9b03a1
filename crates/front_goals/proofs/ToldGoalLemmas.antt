-- What a task that has stopped at a goal of the world tells of its alternative.
use Rattle.std.proofs.Common.{◌≡◌, ℕ, List, [], ◌∷◌, map, Some, None, refl, sym, ap, ap₂, ◌∙◌, subst}
use Rattle.std.specs.Prelude.{IsSome, Option}
use Rattle.au_term.specs.Term.{Term}
use Rattle.au_model.specs.Terms.Named.{NamedTerm}
use Rattle.au_model.specs.Terms.Substitutions.{Substitution}
use Rattle.binding_array.specs.declared.cell.BindingCell.{BindingCell}
use Rattle.task_region.specs.TaskLoads.{run_on_branch, StartsOnBranch}
use Rattle.branch_reading.specs.Readings.{named_of, query_on, reading}
use Rattle.cell_store.specs.StoreView.{IsComposition, IsValidStore, meaning, text_in}
use Rattle.region_control.specs.declared.control.GoalPlace.{GoalPlace}
use Rattle.region_control.specs.Ahead.{goal_entry}
use Rattle.region_floor.specs.Deferred.{Deferred, deferred_now, joined_continuation, joined_items}
use Rattle.region_floor.proofs.JoinedLemmas.{joined-resolved}
use Rattle.region_split.specs.ChoicePoints.{by_height, height_of_cut}
use Rattle.region_split.specs.ClauseTrials.{entries_at}
use Rattle.region_split.specs.Frames.{items_at, scoped_item}
use Rattle.region_split.specs.Regions.{RegionView, continuation_here, heights_of}
use Rattle.region_split.specs.declared.frame.FrameItem.{FrameItem}
use Rattle.region_split.specs.declared.frame.FrameItem.TheVariants as item
use Rattle.region_split.specs.declared.frame.Position.{Position}
use Rattle.region_split.proofs.TrialLemmas.{items_twice, named_twice}
use Rattle.run_model.specs.Goals.GoalOutcomes.{outcome_of}
use Rattle.run_model.specs.Machine.Entries.{Entry, PlainEntry}
use Rattle.run_model.specs.Machine.Items.{Item, GoalItem, Continuation, before, resolve_continuation, resolve_item, resolve_named, with_items}
use Rattle.run_model.specs.Programs.Clauses.{Clause}
use Rattle.run_model.specs.Programs.Jobs.{Job}
use Rattle.task_region.specs.TaskStops.{IsWorldNext, StopsTask}
use Rattle.task_region.specs.TaskViews.{TaskView, carried}
use Rattle.task_region.specs.declared.running.TaskStop.TheVariants.{World}
use Rattle.tree_model.specs.Legality.{taken_at}
use Rattle.tree_model.specs.Levels.{Place, Spot, levels_of}
use Rattle.tree_model.specs.Nodes.{Pending}
use Rattle.tree_model.specs.TreeStates.{TreeState}
use Rattle.tree_nodes.specs.Bodies.{Branching}
use Rattle.tree_nodes.specs.TreeTables.{NodesView, IsTableOf}
use Rattle.branch_shapes.proofs.OutLemmas.{out_at}
use Rattle.task_world.specs.FrontItems.{HasLeft}
use Rattle.task_world.specs.FrontsTold.{IsTreeAt, StopsAtFront}
use Rattle.task_world.proofs.SpotLemmas.{way}
use Rattle.task_world.proofs.ToldLemmas.{front_named, front_next, has_left, stopped}
use Rattle.front_goals.specs.RepliesNext.{AsksNext, IsBoundThere}
use Rattle.front_goals.proofs.AskedItemLemmas.{asks_itself}

-- a goal stands next at a position
pub next_there : (r : RegionView) (next : Option Position) (i : FrameItem) (g : GoalPlace) → IsWorldNext r next i g → IsSome next
next_there r None i g h = let wrong : ◌≡◌ {A = List Entry} [] (goal_entry [] r i g ∷ []) = h.entry [] in absurd cc
next_there r (Some p) i g h = refl

-- what is bound has all of it applied
module _ (r : RegionView) (valid : IsValidStore r.store) where
  abbrev bound : Substitution
  bound = r.store.now.bound

  once : IsComposition bound bound bound
  once n = sym (valid.final n)

  bound_twice : (f : Continuation ℕ) → resolve_continuation bound (resolve_continuation bound f) ≡ resolve_continuation bound f
  bound_twice f =
      ap₂ (λ is vs. (let g : Continuation ℕ = record { items = is; named = vs; next = f.next } in g)) (sym (items_twice bound bound bound once f.items))
      (sym (named_twice bound bound bound once f.named))

  joined_bound : (d : Deferred) (f g : Continuation ℕ) → f ≡ resolve_continuation bound g → resolve_continuation bound (joined_continuation d f) ≡ joined_continuation d f
  joined_bound d f g is = joined-resolved bound d f ∙ ap (joined_continuation d) (ap (resolve_continuation bound) is ∙ bound_twice g ∙ sym is)

  -- behind a first item
  behind_bound : (i : Item ℕ) (behind : List (Item ℕ)) (j front : Continuation ℕ) → resolve_continuation bound j ≡ j → j.items ≡ i ∷ behind → front.named ≡ j.named
      → resolve_continuation bound (with_items behind front) ≡ with_items behind front
  behind_bound i behind j front fixed items named =
      let whole : resolve_item bound i ∷ map (resolve_item bound) behind ≡ i ∷ behind
      = sym (ap (map (resolve_item bound)) items) ∙ ap (λ (f : Continuation ℕ). f.items) fixed ∙ items in
      let tail : map (resolve_item bound) behind ≡ behind = cc whole in
      let names : map (resolve_named bound) front.named ≡ front.named
      = ap (map (resolve_named bound)) named ∙ ap (λ (f : Continuation ℕ). f.named) fixed ∙ sym named in
      ap₂ (λ is vs. (let g : Continuation ℕ = record { items = is; named = vs; next = front.next } in g)) tail names

module _ (job : Job) (nodes : NodesView) (t : TreeState) (w : ℕ) (a : Place) (clauses : List Clause) (task : TaskView) (i : FrameItem) (value : BindingCell) (g : GoalPlace)
    (is : i ≡ item.Goal value) (tree : IsTreeAt job nodes t) (stops : StopsAtFront nodes a clauses task (World i g)) (valid : IsValidStore task.region.store) (s : Spot)
    (taken : taken_at w a t ≡ Some s) where
  abbrev r : RegionView
  r = task.region

  abbrev here : Branching
  here = way job nodes t w a tree.placed s taken

  standing : StopsTask (run_on_branch clauses (levels_of s) job here) 0 (named_of (query_on job here)) task (World i g)
  standing = stopped job nodes t w a clauses task tree s taken (World i g) stops.stops

  -- the run is of the task's own clauses
  pub same_clauses : clauses ≡ r.text.clauses
  same_clauses = standing.0.own.clauses

  abbrev names : List NamedTerm
  names = carried (named_of (query_on job here)) task.deferred

  abbrev d : Deferred
  d = (run_on_branch clauses (levels_of s) job here).deferred

  abbrev goal : Term
  goal = meaning r.store value

  abbrev height : ℕ
  height = height_of_cut (heights_of names r) g.cut

  abbrev follows : Continuation ℕ
  follows = continuation_here names r g.after

  abbrev top : Continuation ℕ
  top = before (GoalItem goal height ∷ []) follows

  next_is : entries_at names r task.next ≡ PlainEntry top ∷ []
  next_is = subst (λ (x : FrameItem). entries_at names r task.next ≡ goal_entry names r x g ∷ []) is (stops.next.entry names)

  abbrev joined : Continuation ℕ
  joined = joined_continuation d top

  abbrev behind : List (Item ℕ)
  behind = joined_items (deferred_now d top) follows.items

  has : HasLeft s (GoalItem goal height ∷ behind)
  has = has_left job nodes t w a clauses task tree s taken standing.0 standing.1 top next_is (GoalItem goal height ∷ behind) refl

  number : has.front.next ≡ r.store.now.next
  unfolding has
  number = front_next job nodes t w a clauses task tree s taken standing.0 standing.1 top next_is (GoalItem goal height ∷ behind) refl

  named_is : has.front.named ≡ joined.named
  unfolding has
  named_is = front_named job nodes t w a clauses task tree s taken standing.0 standing.1 top next_is (GoalItem goal height ∷ behind) refl

  -- before anything is bound
  abbrev raw : Continuation ℕ
  raw = before (by_height (heights_of names r) (scoped_item (text_in r.store) (item.Goal value) g.cut) ∷ [])
      (record { items = map (by_height (heights_of names r)) (items_at (text_in r.store) r.text.bodies r.frames g.after); named = names; next = r.store.now.next })

  fixed : resolve_continuation r.store.now.bound joined ≡ joined
  fixed = joined_bound r valid d top raw refl

  bound_is : resolve_continuation r.store.now.bound (with_items behind has.front) ≡ with_items behind has.front
  bound_is = behind_bound r valid (GoalItem goal height) behind joined has.front fixed refl named_is

  pub told : t.job.clauses ≡ clauses → AsksNext t.job.clauses goal r.store.now s
  told job_is = record {
    height = height;
    next = record { behind = behind; has = has; number = number; bound = bound_is };
    asks = ap (λ cs. outcome_of cs goal r.store.now.next) (job_is ∙ same_clauses) ∙ (asks_itself r i value g is stops.next.asks).0;
  }

-- the floor of its store is what is bound on the branch
pub bound_there : (job : Job) (nodes : NodesView) (t : TreeState) (w : ℕ) (a : Place) (task : TaskView) → IsTableOf nodes (reading job) t.root → StartsOnBranch nodes a task
    → IsBoundThere nodes task.region.store.floor w a t
bound_there job nodes t w a task placed starts s b taken path =
    let o = out_at job nodes t w a s placed taken in
    starts job (reading job) s.level s.above (Pending s.hold s.entry) b o.at o.table path
