-- What wakes below a branch reads as what slept there, with the records.
use Rattle.std.proofs.Common.{◌≡◌, ◌⊎◌, inl, inr, ℕ, ◌+◌, ◌≤◌, ◌&&◌, true, List, [], ◌∷◌, ◌++◌, map, Option, Some, slice_get, refl, sym, ap, ap₂, ◌∙◌, subst, arith}
use Rattle.std.proofs.lemmas.Bool.Decides.{nat_tests}
use Rattle.std.specs.List.{list_all}
use Rattle.std.specs.Prelude.{codes}
use Rattle.au_term.proofs.LogicLemmas.{and-left, and-right, and-both}
use Rattle.au_term.specs.Term.{Term, var_bound}
use Rattle.au_model.specs.Terms.Each.{Each}
use Rattle.au_model.specs.Terms.Forms.{binary, list_term}
use Rattle.au_model.specs.Terms.Substitutions.{Substitution, resolve}
use Rattle.clause_compile.specs.declared.event.Branch.{Branch}
use Rattle.clause_compile.specs.declared.item.Item.{Item as BranchItem}
use Rattle.clause_compile.specs.declared.item.Item.TheVariants.{Goal, CatchEnd, Collect, Remove, End}
use Rattle.run_model.specs.Machine.Entries.{Entry, PlainEntry, FindallEntry, EndEntry}
use Rattle.run_model.specs.Machine.Items.{Item, GoalItem, Continuation, before, with_next, resolve_item, resolve_continuation}
use Rattle.run_model.specs.Programs.Jobs.{Job}
use Rattle.tree_model.specs.Closing.{findall_goes_on, with_results}
use Rattle.tree_nodes.specs.Bodies.{Body, BodyKind, ChoiceBody, ConditionBody, CatchBody, FindallBody, QueryBody, Branching}
use Rattle.tree_closing.specs.Closings.{woken_entry}
use Rattle.tree_closing.specs.Sleeping.{IsSleeping}
use Rattle.tree_closing.proofs.SleeperLemmas.{sleeping_of}
use Rattle.branch_reading.specs.BranchSegments.{above_in_query, next_number, own_segments, segments_on}
use Rattle.branch_reading.specs.NumberedReadings.{IsEndOn}
use Rattle.branch_reading.specs.Readings.{continuation_on, entry_if, entry_meant, entry_on, guard_meant, items_meant, named_of, query_on, reading}
use Rattle.branch_reading.specs.SettledWays.{branch_items, is_branch_settled, is_guard_settled, is_item_settled, is_term_below, is_way_settled, items_on}
use Rattle.region_split.specs.ResultLists.{ResultsView}
use Rattle.task_stops.specs.GatheredResults.{gathered, unifying_item}
use Rattle.task_stops.specs.WokenBodies.{quiet_body, same_body, following_body, woken_by}
use Rattle.task_stops.proofs.GatheredLemmas.{gathered_entry, gathered_below, gathered_more, gathered_bound, list_resolved, list_bound}
use Rattle.task_stops.proofs.QuietLemmas.{BranchLaws, bound_on, free_from_next, quiet_reads}
use Rattle.task_region.proofs.BranchLoadLemmas.{no_end_meant}

term_below : (n : ℕ) (t : Term) → is_term_below n t ≡ true → var_bound t ≤ n
term_below n t h = grind (arith, nat_tests)

below_term : (n : ℕ) (t : Term) → var_bound t ≤ n → is_term_below n t ≡ true
below_term n t h = grind (arith, nat_tests)

all_below : (n : ℕ) (ts : List Term) → list_all (is_term_below n) ts ≡ true → Each (λ t. var_bound t ≤ n) ts
all_below n [] h = tt
all_below n (t ∷ ts) h = (term_below n t (and-left _ _ h), all_below n ts (and-right (is_term_below n t) _ h))

still_below : (n m : ℕ) (t : Term) → n ≤ m → is_term_below n t ≡ true → is_term_below m t ≡ true
still_below n m t le h = let k = term_below n t h in below_term m t (omega (arith, k, le))

item_below : (n m : ℕ) (i : BranchItem) → n ≤ m → is_item_settled n i ≡ true → is_item_settled m i ≡ true
item_below n m (Goal term cut) le h = still_below n m term le h
item_below n m (CatchEnd scope) le h = refl
item_below n m (Collect template scope) le h = still_below n m template le h
item_below n m (Remove id) le h = refl
item_below n m (End ball) le h = h

items_below : (n m : ℕ) (is : List BranchItem) → n ≤ m → list_all (is_item_settled n) is ≡ true → list_all (is_item_settled m) is ≡ true
items_below n m [] le h = refl
items_below n m (i ∷ is) le h = and-both _ _ (item_below n m i le (and-left _ _ h)) (items_below n m is le (and-right (is_item_settled n i) _ h))

module _ (laws : BranchLaws) (job : Job) (b : Body) (above : Branching) (second : Branch) (there : slice_get b.branches 1 ≡ Some second) (n : ℕ) (records : List Term) where
  abbrev way : Branching
  way = (b, 1) ∷ above

  abbrev next : ℕ
  next = next_number (segments_on way)

  items_are : items_on way ≡ second.goals
  items_are = ap branch_items there

  next_is : next ≡ second.segment.base + second.segment.vars
  next_is = ap (λ (o : Option Branch). next_number (own_segments o ++ b.segment ∷ above_in_query b.kind (segments_on above))) there

  -- the end of a query
  end_reads : IsEndOn way → (ball : Option Term) × (reading job way ≡ EndEntry ball)
  end_reads end = (end.0, ap (λ items. entry_meant items (entry_if (is_way_settled way) (entry_on job way))) end.1)

  end_wakes : IsEndOn way → reading job ((same_body second, 0) ∷ way) ≡ woken_entry n records (reading job way)
  unfolding end_reads
  end_wakes end =
      let down : Branching = (same_body second, 0) ∷ way in
      let same : reading job down ≡ EndEntry end.0 = ap (λ items. entry_meant items (entry_if (is_way_settled down) (entry_on job down))) (sym items_are ∙ end.1) in
      same ∙ ap (woken_entry n records) (sym (end_reads end).1)

  module _ (settled : is_way_settled way ≡ true) where
    abbrev s : Substitution
    s = bound_on laws way settled

    own_items : list_all (is_item_settled next) (items_on way) ≡ true
    own_items = and-left _ (is_guard_settled next b.kind) (and-right _ (is_branch_settled next b.kind 1 (items_on way)) settled)

    abbrev following : Continuation ℕ
    following = resolve_continuation s (continuation_on job way)

    sleeper_reads : (k : BodyKind) → b.kind ≡ k → reading job way ≡ guard_meant k s following
    sleeper_reads k e =
        ap (λ is. entry_meant (items_on way) (entry_if is (entry_on job way))) settled
        ∙ (no_end_meant next (items_on way) (entry_on job way) own_items ∙ ap (λ x. guard_meant x s following) e)

    module _ (results : List Term) (list : Term) (kind : b.kind ≡ FindallBody results list) where
      abbrev all : ResultsView
      all = gathered records (record { terms = results; next = next })

      -- with what the branch binds
      abbrev read : ResultsView
      read = gathered records (record { terms = map (resolve s) results; next = next })

      guard_settled : (list_all (is_term_below next) results && is_term_below next list) ≡ true
      guard_settled =
          ap (is_guard_settled next) (sym kind)
          ∙ and-right (list_all (is_item_settled next) (items_on way)) (is_guard_settled next b.kind)
          (and-right _ (is_branch_settled next b.kind 1 (items_on way)) settled)

      terms_below : Each (λ t. var_bound t ≤ all.next) all.terms
      terms_below = gathered_below records (record { terms = results; next = next }) (all_below next results (and-left _ (is_term_below next list) guard_settled))

      more : next ≤ all.next
      more = gathered_more records (record { terms = results; next = next })

      goal_below : is_term_below all.next (binary (codes "=") list (list_term all.terms)) ≡ true
      goal_below =
          let a : var_bound list ≤ next = term_below next list (and-right (list_all (is_term_below next) results) _ guard_settled) in
          let c : var_bound (list_term all.terms) ≤ all.next = list_bound all.next all.terms terms_below in
          let m : next ≤ all.next = more in
          below_term all.next (binary (codes "=") list (list_term all.terms)) (omega (arith, a, c, m))

      goals_below : list_all (is_item_settled all.next) (unifying_item n list all.terms ∷ second.goals) ≡ true
      goals_below =
          and-both _ _ goal_below
          (items_below next all.next second.goals more (subst (λ is. list_all (is_item_settled next) is ≡ true) items_are own_items))

      read_is : read ≡ record { terms = map (resolve s) all.terms; next = all.next }
      read_is = gathered_bound s records (record { terms = results; next = next }) (free_from_next laws way settled)

      list_read : resolve s (list_term all.terms) ≡ list_term read.terms
      list_read = list_resolved s all.terms ∙ ap (λ (r : ResultsView). list_term r.terms) (sym read_is)

      same_next : all.next ≡ read.next
      same_next = ap (λ (r : ResultsView). r.next) (sym read_is)

      abbrev made : Continuation ℕ
      made = record { items = items_meant (unifying_item n list all.terms ∷ second.goals); named = named_of (query_on job way); next = all.next }

      body_is : following_body n list second (gathered records (record { terms = results; next = second.segment.base + second.segment.vars }))
          ≡ quiet_body next (unifying_item n list all.terms ∷ second.goals) all.next
      body_is = ap (λ m. (let g = gathered records (record { terms = results; next = m }) in quiet_body m (unifying_item n list g.terms ∷ second.goals) g.next)) (sym next_is)

      made_is : resolve_continuation s made ≡ before (GoalItem (binary (codes "=") (resolve s list) (list_term read.terms)) n ∷ []) (with_next read.next following)
      made_is =
          ap₂ (λ (t : Term) (is : List (Item ℕ)). (let f : Continuation ℕ = record { items = GoalItem (binary (codes "=") (resolve s list) t) n ∷ map (resolve_item s) is; named = following.named; next = all.next } in f))
          list_read (ap items_meant (sym items_are))
          ∙ ap (λ m. before (GoalItem (binary (codes "=") (resolve s list) (list_term read.terms)) n ∷ []) (with_next m following)) same_next

      goes_on : findall_goes_on n (with_results records (FindallEntry (map (resolve s) results) (resolve s list) following))
          ≡ PlainEntry (before (GoalItem (binary (codes "=") (resolve s list) (list_term read.terms)) n ∷ []) (with_next read.next following))
      goes_on = ap (findall_goes_on n) (gathered_entry records (record { terms = map (resolve s) results; next = next }) (resolve s list) following)

      pub findall_wakes : reading job ((following_body n list second (gathered records (record { terms = results; next = second.segment.base + second.segment.vars })), 0) ∷ way)
          ≡ woken_entry n records (reading job way)
      findall_wakes =
          ap (λ (x : Body). reading job ((x, 0) ∷ way)) body_is
          ∙ (quiet_reads laws way settled job (unifying_item n list all.terms ∷ second.goals) all.next more goals_below
          ∙ (ap PlainEntry made_is
          ∙ (sym goes_on ∙ ap (woken_entry n records) (sym (sleeper_reads (FindallBody results list) kind)))))

  -- whatever sleeps there, but a recovery
  module _ (e : Entry) (reads : e ≡ reading job way) (settled : (is_way_settled way ≡ true) ⊎ IsEndOn way) where
    no_end : (rs : List Term) (l : Term) (f : Continuation ℕ) → Some e ≡ Some (FindallEntry rs l f) → IsEndOn way → ⊥
    no_end rs l f is end = let wrong : Some (EndEntry (end_reads end).0) ≡ Some (FindallEntry rs l f) = ap Some (sym (end_reads end).1 ∙ sym reads) ∙ is in cc

    no_plain : (ball : Option Term) (f : Continuation ℕ) → Some e ≡ Some (EndEntry ball) → reading job way ≡ PlainEntry f → ⊥
    no_plain ball f is plain = let wrong : Some (PlainEntry f) ≡ Some (EndEntry ball) = ap Some (sym plain ∙ sym reads) ∙ is in cc

    by_kind : (k : BodyKind) → b.kind ≡ k → IsSleeping (sleeping_of k) (Some e) → ((catcher recovery : Term) → k ≡ CatchBody catcher recovery → ⊥)
        → reading job ((woken_by n records k second, 0) ∷ way) ≡ woken_entry n records (reading job way)
    by_kind ChoiceBody is asleep none = absurd (cc asleep)
    by_kind ConditionBody is asleep none = absurd (cc asleep)
    by_kind (CatchBody catcher recovery) is asleep none = absurd (none catcher recovery refl)
    by_kind (FindallBody results list) is asleep none = by_case settled
      where
        by_case : (is_way_settled way ≡ true) ⊎ IsEndOn way → reading job ((woken_by n records (FindallBody results list) second, 0) ∷ way) ≡ woken_entry n records (reading job way)
        by_case (inl h) = findall_wakes h results list is
        by_case (inr end) = absurd (no_end asleep.0 asleep.1.0 asleep.1.1.0 asleep.1.1.1 end)
    by_kind QueryBody is asleep none = by_case settled
      where
        by_case : (is_way_settled way ≡ true) ⊎ IsEndOn way → reading job ((woken_by n records QueryBody second, 0) ∷ way) ≡ woken_entry n records (reading job way)
        by_case (inl h) = absurd (no_plain asleep.0 (following h) asleep.1 (sleeper_reads h QueryBody is))
        by_case (inr end) = end_wakes end

    pub woken_reads : IsSleeping (sleeping_of b.kind) (Some e) → ((catcher recovery : Term) → b.kind ≡ CatchBody catcher recovery → ⊥)
        → reading job ((woken_by n records b.kind second, 0) ∷ way) ≡ woken_entry n records (reading job way)
    woken_reads = by_kind b.kind refl
