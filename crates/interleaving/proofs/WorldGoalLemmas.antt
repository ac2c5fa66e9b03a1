-- A goal of the world with solutions, and a removal, at the front.
use Rattle.std.proofs.Common.{◌≡◌, ℕ, suc, ◌+◌, ◌-◌, true, false, List, [], ◌∷◌, ◌++◌, map, length, Option, Some, None, refl, sym, ap}
use Rattle.std.proofs.Common.{◌∙◌, subst}
use Rattle.au_term.specs.Term.{Term}
use Rattle.au_model.specs.Terms.Substitutions.{Substitution}
use Rattle.au_model.specs.Terms.Unifier.{unifier}
use Rattle.run_model.specs.Programs.Clauses.{Clause}
use Rattle.run_model.specs.Programs.Databases.{Database, without_clause}
use Rattle.run_model.specs.Goals.Worlds.{World, world_step}
use Rattle.run_model.specs.Goals.Outcomes.{Solution, Solutions, AskWorld}
use Rattle.run_model.specs.Goals.GoalOutcomes.{outcome_of}
use Rattle.run_model.specs.Machine.Items.{Item, GoalItem, RemovalItem, Continuation, with_items, without_marks, goals_at, before, removing, with_next}
use Rattle.run_model.specs.Machine.Entries.{Entry, PlainEntry, unified, solution_entries}
use Rattle.tree_model.specs.Nodes.{ChoiceNode}
use Rattle.tree_model.specs.Levels.{Place, Spot, levels_of}
use Rattle.tree_model.specs.Floors.{height_of, floor_of, with_heights, renamed_item, renamed_continuation, node_of, with_nodes}
use Rattle.tree_model.specs.FrontGates.{world_taken, goal_at_front, removal_at_front, item_at_front, taken_at_front}
use Rattle.tree_model.specs.Events.{Event, Answer}
use Rattle.tree_model.specs.TreeStates.{TreeState}
use Rattle.tree_model.specs.Legality.{taken_at}
use Rattle.tree_model.specs.Effects.{spot_stack, world_moved, where_some, after_event}
use Rattle.tree_model.specs.PendingLists.{Way, way_of, scope_on, named_continuation, front_of, back_of}
use Rattle.tree_model.specs.Ways.{under_query, AreScoped}
use Rattle.tree_model.specs.SoundTrees.{IsSoundTree}
use Rattle.tree_model.specs.CaughtTrees.{IsCaughtTree}
use Rattle.tree_model.specs.Elements.{Name, Element, Plain, EndOf}
use Rattle.interleaving.specs.Machine.{AsksWorld, gives, free_steps, run}
use Rattle.interleaving.specs.Scopes.{Shared, ElementReplacement, act, item_act, goal_act, world_replied, removed, unified_element}
use Rattle.interleaving.specs.Scopes.{solution_elements, scoped}
use Rattle.interleaving.specs.Quiet.{records}
use Rattle.interleaving.specs.Erased.{erased}
use Rattle.interleaving.specs.HistoryInvariants.{shared_of, AnswerMoves}
use Rattle.interleaving.proofs.RoundtripLemmas.{by_heights}
use Rattle.interleaving.proofs.StackLemmas.{ArePlain, solutions_plain}
use Rattle.interleaving.proofs.EntryLemmas.{length-floor}
use Rattle.interleaving.proofs.OpenSpotLemmas.{IsOpenSpot}
use Rattle.interleaving.proofs.SoundClosingLemmas.{free_at}
use Rattle.interleaving.proofs.ClockLemmas.{IsFirst}
use Rattle.interleaving.proofs.HaltMoveLemmas.{dropped_names}
use Rattle.interleaving.proofs.PlacedNameLemmas.{olders}
use Rattle.interleaving.proofs.QuietCreditLemmas.{gives-fixed}
use Rattle.interleaving.proofs.PublishedBareLemmas.{right_of}
use Rattle.interleaving.proofs.FrontCloseLemmas.{bare}
use Rattle.interleaving.proofs.FrontHeightLemmas.{height_rest, one_same, solved_same}
use Rattle.interleaving.proofs.FrontEntriesLemmas.{left_tree, IsLeft, entries_move, none_moves}

-- where no solution unifies, only the end of a scope is left
none_solved : (clauses : List Clause) (j h : ℕ) (p : Name) (fn : Continuation Name) (fh : Continuation ℕ) → fn.next ≡ fh.next
    → (ss : List Solution) → solution_entries h fh ss ≡ [] → solution_elements j p fn ss ≡ EndOf p ∷ []
none_solved clauses j h p fn fh e [] q = refl
none_solved clauses j h p fn fh e (s ∷ ss) q = go (unifier s.equations) q (λ z. none_solved clauses (suc j) h p fn fh e ss z)
  where
    go : (o : Option Substitution) → unified o (with_next (fh.next + s.variables) (before (goals_at h s.goals) (removing s.removes fh)))
        ++ solution_entries h fh ss ≡ [] → (solution_entries h fh ss ≡ [] → solution_elements (suc j) p fn ss ≡ EndOf p ∷ [])
        → unified_element o (j ∷ p) (with_next (fn.next + s.variables) (before (goals_at p s.goals) (removing s.removes fn)))
        ++ solution_elements (suc j) p fn ss
        ≡ EndOf p ∷ []
    go None z f = f z
    go (Some o) z f = let no_way : ⊥ = cc in absurd no_way

module _ (t : TreeState) (w : ℕ) (a : Place) (s : Spot) (f : Continuation ℕ) (e : taken_at w a t ≡ Some s)
    (entry : s.entry ≡ PlainEntry f) where
  abbrev event : Event
  event = Answer w a false

  abbrev heights : ℕ → ℕ
  heights = height_of (levels_of s)

  abbrev pub fh : Continuation ℕ
  fh = renamed_continuation (height_of (levels_of s)) (λ n. height_of (levels_of s) n - 1) f

  -- the tree after the event, by what is after the marks
  pub moved_is : (items : List (Item ℕ)) → without_marks f.items ≡ items → after_event t (Answer w a false)
      ≡ record (world_moved s (item_at_front t.job.clauses (by_heights (levels_of s) items) fh (floor_of (levels_of s)) t.world) t)
      { history = t.history ++ Answer w a false ∷ [] }
  unfolding after_event
  moved_is items q =
      ap (λ o. record (where_some o t (λ r. world_moved r (taken_at_front t.job.clauses (spot_stack r) t.world) t))
      { history = t.history ++ event ∷ [] }) e
      ∙ (ap (λ x. record (world_moved s (taken_at_front t.job.clauses (with_heights (levels_of s) x ∷ floor_of (levels_of s)) t.world)
      t) { history = t.history ++ event ∷ [] }) entry
      ∙ ap (λ is. record (world_moved s (item_at_front t.job.clauses is fh (floor_of (levels_of s)) t.world) t)
      { history = t.history ++ event ∷ [] })
      (dropped_names heights (λ n. heights n - 1) f.items ∙ ap (map (renamed_item heights (λ n. heights n - 1))) q))

  module _ (answers : ℕ) (i : IsSoundTree t) (k : IsCaughtTree t) (running : t.halted ≡ None) (first : IsFirst t s)
      (asked : under_query (way_of (levels_of s)) ≡ true) where
    abbrev way : Way
    way = way_of (levels_of s)

    abbrev own : Name
    own = 0 ∷ length s.level.left ∷ s.level.number ∷ []

    open_spot : IsOpenSpot t.root s
    open_spot = record { inside = first.inside; opened = first.opened }

    abbrev sc : ℕ → Name
    sc = scope_on (way_of (levels_of s))

    abbrev given : List Element
    given = map (gives (scoped t.job.clauses) (records (front_of (levels_of s)))) (back_of (levels_of s))

    abbrev given_tail : List Element
    given_tail = map (gives (scoped t.job.clauses) (records (front_of (levels_of s)))) (right_of (levels_of s))

    given_is : given ≡ EndOf (length s.level.left ∷ s.level.number ∷ []) ∷ given_tail
    given_is = ap (λ x. x ∷ given_tail)
        (gives-fixed t.job.clauses (records (front_of (levels_of s))) (EndOf (length s.level.left ∷ s.level.number ∷ [])) tt)

    -- a goal of the world that has solutions
    pub solutions_move : (goal ask : Term) (scope : ℕ) (items : List (Item ℕ)) (after : World) (ss : List Solution)
        → without_marks f.items ≡ GoalItem goal scope ∷ items → AreScoped (way_of (levels_of s)) items
        → outcome_of t.job.clauses goal f.next ≡ AskWorld ask → world_step t.job.clauses ask f.next t.world ≡ (after, Solutions ss)
        → IsSoundTree (after_event t (Answer w a false)) → IsCaughtTree (after_event t (Answer w a false))
        → AnswerMoves t (after_event t (Answer w a false)) answers answers
    solutions_move goal ask scope items after ss q looks outcome step j r =
        let clauses = t.job.clauses in
        let hr : Continuation ℕ = record { items = by_heights (levels_of s) items; named = f.named; next = f.next } in
        let nr : Continuation Name = record { items = map (renamed_item sc sc) items; named = f.named; next = f.next } in
        let es = solution_entries (length (floor_of (levels_of s))) hr ss in
        let tree : after_event t (Answer w a false) ≡ left_tree t s es after (Answer w a false) =
        moved_is (GoalItem goal scope ∷ items) q
        ∙ (ap (λ o. record (world_moved s
        (goal_at_front clauses o (with_items (by_heights (levels_of s) items) fh) (floor_of (levels_of s)) t.world) t)
        { history = t.history ++ Answer w a false ∷ [] }) outcome
        ∙ ap (λ x. record (world_moved s (world_taken x (with_items (by_heights (levels_of s) items) fh) (floor_of (levels_of s)))
        t) { history = t.history ++ Answer w a false ∷ [] }) step) in
        let g : Shared → Shared × ElementReplacement = λ v. world_replied (world_step clauses ask f.next v.world) own nr v in
        let named = named_continuation way f in
        let ws : without_marks named.items ≡ GoalItem goal (sc scope) ∷ map (renamed_item sc sc) items = dropped_names sc sc f.items
        ∙ ap (map (renamed_item sc sc)) q in
        let asks : act clauses (bare clauses own named)
        ≡ AsksWorld g = ap (λ is. item_act clauses is own (with_items (without_marks named.items) named)) ws
        ∙ ap (λ o. goal_act clauses o own (sc scope) nr) outcome in
        subst (λ new. AnswerMoves t new answers answers) (sym tree) (go es refl (subst IsSoundTree tree j) (subst IsCaughtTree tree r) asks)
      where
        is_left : (es : List Entry) → act t.job.clauses (bare t.job.clauses own (named_continuation way f))
            ≡ AsksWorld (λ v. world_replied (world_step t.job.clauses ask f.next v.world) own
            (record { items = map (renamed_item sc sc) items; named = f.named; next = f.next }) v)
            → IsLeft t s f after (Answer w a false) answers i k running first entry asked
            (λ v. world_replied (world_step t.job.clauses ask f.next v.world) own
            (record { items = map (renamed_item sc sc) items; named = f.named; next = f.next }) v)
            (left_tree t s es after (Answer w a false))
            (solution_elements 0 own (record { items = map (renamed_item sc sc) items; named = f.named; next = f.next }) ss)
        is_left es asks =
            let nr : Continuation Name = record { items = map (renamed_item sc sc) items; named = f.named; next = f.next } in
            record {
              asks = asks;
              place = ap (λ x. (world_replied x own nr (shared_of answers t)).1) step;
              world = ap
                  (λ x. (world_replied x own nr (shared_of answers t)).0) step ∙ left_world es;
            }
          where
            left_world : (es : List Entry) → (record (shared_of answers t) { world = after; halted = None })
                ≡ shared_of answers (left_tree t s es after (Answer w a false))
            left_world [] = ap (λ h. record { world = after; queries = t.queries; answers = answers; halted = h }) (sym running)
            left_world (x ∷ es) = ap (λ h. record { world = after; queries = t.queries; answers = answers; halted = h }) (sym running)

        go : (es : List Entry) → solution_entries (length (floor_of (levels_of s)))
            (height_rest s.level s.above t.next (free_at t s i open_spot) [] f items looks) ss ≡ es
            → IsSoundTree (left_tree t s es after (Answer w a false)) → IsCaughtTree (left_tree t s es after (Answer w a false))
            → act t.job.clauses (bare t.job.clauses own (named_continuation way f))
            ≡ AsksWorld (λ v. world_replied (world_step t.job.clauses ask f.next v.world) own
            (record { items = map (renamed_item sc sc) items; named = f.named; next = f.next }) v)
            → AnswerMoves t (left_tree t s es after (Answer w a false)) answers answers
        go [] eq j r asks =
            let nr : Continuation Name = record { items = map (renamed_item sc sc) items; named = f.named; next = f.next } in
            let hr : Continuation ℕ = record { items = by_heights (levels_of s) items; named = f.named; next = f.next } in
            none_moves t s f after (Answer w a false) answers i k running first entry asked
            (λ v. world_replied (world_step t.job.clauses ask f.next v.world) own nr v) (solution_elements 0 own nr ss) (is_left [] asks)
            (λ v n. ap (λ l. run (scoped t.job.clauses) n v (free_steps (scoped t.job.clauses) [] (l ++ given)))
            (none_solved t.job.clauses 0 (length (floor_of (levels_of s))) own nr hr refl ss eq)) j r
        go (x ∷ es) eq j r asks =
            let nr : Continuation Name = record { items = map (renamed_item sc sc) items; named = f.named; next = f.next } in
            entries_move t s f after (Answer w a false) answers i k running first entry asked
            (λ v. world_replied (world_step t.job.clauses ask f.next v.world) own nr v) x es (solution_elements 0 own nr ss)
            (subst ArePlain eq (solutions_plain _ _ ss)) (is_left (x ∷ es) asks)
            (subst (λ l. erased (solution_elements 0 own nr ss ++ given)
            ≡ erased (olders way t.next ChoiceNode 0 (map (with_nodes (node_of (levels_of s))) l) ++ given)) eq
            (subst (λ l. erased (solution_elements 0 own nr ss ++ l)
            ≡ erased (olders way t.next ChoiceNode 0
            (map (with_nodes (node_of (levels_of s)))
            (solution_entries (length (floor_of (levels_of s)))
            (record { items = by_heights (levels_of s) items; named = f.named; next = f.next }) ss)) ++ l)) (sym given_is)
            (solved_same s.level s.above t.next (free_at t s i open_spot) given_tail f items looks 0 0 (length (floor_of (levels_of s)))
            (length-floor (levels_of s)) ss))) j r

    -- a clause is removed, or has been
    pub removal_moves : (number : ℕ) (items : List (Item ℕ)) → without_marks f.items ≡ RemovalItem number ∷ items
        → AreScoped (way_of (levels_of s)) items
        → IsSoundTree (after_event t (Answer w a false)) → IsCaughtTree (after_event t (Answer w a false))
        → AnswerMoves t (after_event t (Answer w a false)) answers answers
    removal_moves number items q looks j r =
        let named = named_continuation way f in
        let ws : without_marks named.items ≡ RemovalItem number ∷ map (renamed_item sc sc) items = dropped_names sc sc f.items
        ∙ ap (map (renamed_item sc sc)) q in
        let asks : act t.job.clauses (bare t.job.clauses own named)
        ≡ AsksWorld (λ v. removed (without_clause number v.world.database) own
        (record { items = map (renamed_item sc sc) items; named = f.named; next = f.next }) v) = ap
        (λ is. item_act t.job.clauses is own (with_items (without_marks named.items) named)) ws in
        go (without_clause number t.world.database) refl asks
      where
        tree_is : (o : Option Database) → without_clause number t.world.database ≡ o → after_event t (Answer w a false)
            ≡ record (world_moved s (removal_at_front o (with_items (by_heights (levels_of s) items) fh) t.world) t)
            { history = t.history ++ Answer w a false ∷ [] }
        tree_is o z = moved_is (RemovalItem number ∷ items) q
            ∙ ap (λ d. record (world_moved s (removal_at_front d (with_items (by_heights (levels_of s) items) fh) t.world) t)
            { history = t.history ++ Answer w a false ∷ [] }) z

        go : (o : Option Database) → without_clause number t.world.database ≡ o
            → act t.job.clauses (bare t.job.clauses own (named_continuation way f))
            ≡ AsksWorld (λ v. removed (without_clause number v.world.database) own
            (record { items = map (renamed_item sc sc) items; named = f.named; next = f.next }) v)
            → AnswerMoves t (after_event t (Answer w a false)) answers answers
        go None z asks =
            let is = tree_is None z in
            let nr : Continuation Name = record { items = map (renamed_item sc sc) items; named = f.named; next = f.next } in
            subst (λ new. AnswerMoves t new answers answers) (sym is)
            (none_moves t s f t.world (Answer w a false) answers i k running first entry asked
            (λ v. removed (without_clause number v.world.database) own nr v) []
            (record {
              asks = asks;
              place = ap (λ d. (removed d own nr (shared_of answers t)).1) z;
              world = ap
                  (λ d. (removed d own nr (shared_of answers t)).0) z;
            }) (λ v n. refl) (subst IsSoundTree is j) (subst IsCaughtTree is r))
        go (Some db) z asks =
            let is = tree_is (Some db) z in
            let nr : Continuation Name = record { items = map (renamed_item sc sc) items; named = f.named; next = f.next } in
            let hr : Continuation ℕ = record { items = by_heights (levels_of s) items; named = f.named; next = f.next } in
            subst (λ new. AnswerMoves t new answers answers) (sym is)
            (entries_move t s f (record t.world { database = db }) (Answer w a false) answers i k running first entry asked
            (λ v. removed (without_clause number v.world.database) own nr v) (PlainEntry hr) [] (Plain own nr ∷ []) tt
            (record {
              asks = asks;
              place = ap (λ d. (removed d own nr (shared_of answers t)).1) z;
              world = ap
                  (λ d. (removed d own nr (shared_of answers t)).0) z;
            })
            (subst (λ l. erased (Plain own nr ∷ l)
            ≡ erased (olders way t.next ChoiceNode 0 (map (with_nodes (node_of (levels_of s))) (PlainEntry hr ∷ [])) ++ l))
            (sym given_is)
            (one_same s.level s.above t.next (free_at t s i open_spot) given_tail f items looks own)) (subst IsSoundTree is j)
            (subst IsCaughtTree is r))
