-- The recovery of a catch that takes a ball reads as what the ball leaves.
use Rattle.std.proofs.Common.{◌≡◌, ℕ, suc, ◌+◌, ◌-◌, ◌<◌, ◌≤◌, ◌&&◌, true, List, [], ◌∷◌, map, length, Option, Some, None, refl, sym, ap, ap₂, ◌∙◌, subst, arith}
use Rattle.std.proofs.lemmas.Bool.Decides.{nat_tests}
use Rattle.std.specs.List.{list_all}
use Rattle.au_term.proofs.LogicLemmas.{and-left, and-right, and-both}
use Rattle.au_term.specs.Term.{Term}
use Rattle.au_model.proofs.ApplyLemmas.{apply-apply, apply-same}
use Rattle.au_model.specs.Terms.Copies.{copy_takes}
use Rattle.au_model.specs.Terms.Each.{Each}
use Rattle.au_model.specs.Terms.MostGeneral.{SameValues}
use Rattle.au_model.specs.Terms.Named.{NamedTerm}
use Rattle.au_model.specs.Terms.Substitutions.{Substitution, resolve, value_of}
use Rattle.cell_store.specs.StoreView.{IsComposition}
use Rattle.branch_bindings.specs.ExtensionLaws.{IsFinal}
use Rattle.branch_bindings.proofs.ExtendedUnifierLemmas.{unifiers_are_final}
use Rattle.clause_compile.specs.declared.event.Branch.{Branch}
use Rattle.clause_compile.specs.declared.item.Item.{Item as BranchItem}
use Rattle.clause_compile.specs.declared.item.Item.TheVariants.{Goal}
use Rattle.clause_compile.specs.declared.item.Scope.TheVariants.{Node}
use Rattle.run_model.specs.Machine.Entries.{Entry, PlainEntry}
use Rattle.run_model.specs.Machine.Items.{Item, GoalItem, CatchMark, CollectMark, RemovalItem, Continuation, resolve_item, resolve_named, resolve_continuation}
use Rattle.run_model.specs.Programs.Bodies.{call_of}
use Rattle.run_model.specs.Programs.Jobs.{Job}
use Rattle.tree_model.specs.Floors.{height_of, node_of, renamed_item, with_nodes}
use Rattle.tree_model.specs.Levels.{Level, Place, place_at}
use Rattle.tree_model.specs.Nodes.{single}
use Rattle.tree_nodes.specs.Bodies.{Body, CatchBody, Branching, new_node}
use Rattle.tree_nodes.specs.Rows.{StoredNode, Rows, row_of_node}
use Rattle.tree_nodes.specs.TreeTables.{IsWayTo, above_of, stored_body}
use Rattle.tree_closing.specs.Closings.{HangTogether}
use Rattle.prune_ops.specs.Falls.{ReadsBeside}
use Rattle.branch_reading.specs.BranchSegments.{bound_by, next_number, segments_on, binding_equations, bindings_on}
use Rattle.branch_reading.specs.Readings.{items_meant, named_of, or_nothing, query_on, reading}
use Rattle.branch_reading.specs.SettledWays.{are_segments_settled, branch_items, is_branch_settled, is_guard_settled, is_item_settled, is_term_below, is_way_settled, items_on}
use Rattle.branch_shapes.specs.ExtendedWays.{WayBinds, BranchLeadsOn, number_after}
use Rattle.branch_shapes.specs.FloorItems.{NamesLevels}
use Rattle.branch_shapes.proofs.FloorItemLemmas.{has_height}
use Rattle.interleaving.proofs.EntryLemmas.{own_height}
use Rattle.task_region.specs.PlacesUp.{missing_body, body_at, branching_at}
use Rattle.task_stops.specs.Landings.{bound_on, taken_on, way_beside}
use Rattle.task_stops.specs.BranchLandings.{continuation_bound, recovered_by, IsTakenAt}
use Rattle.task_stops.specs.LandingBodies.{body_with, node_above, IsRecoveryBody}
use Rattle.task_stops.proofs.QuietLemmas.{BranchLaws}
use Rattle.task_publishing.proofs.GoalLemmas.{settled_more}
use Rattle.task_stops.proofs.SameWayLemmas.{ways_same}
use Rattle.task_region.proofs.BranchLoadLemmas.{or_nothing_same}
use Rattle.branch_shapes.proofs.RestReadingLemmas.{segments_settled}

-- one substitution after another
resolved_after : (s o after : Substitution) → IsComposition s o after → (t : Term) → resolve after t ≡ resolve o (resolve s t)
resolved_after s o after c t = apply-same (value_of after) (λ n. resolve o (value_of s n)) c t ∙ sym (apply-apply (value_of o) (value_of s) t)

named_after : (s o after : Substitution) → IsComposition s o after → (vs : List NamedTerm)
    → map (resolve_named after) vs ≡ map (resolve_named o) (map (resolve_named s) vs)
named_after s o after c [] = refl
named_after s o after c (v ∷ vs) = ap₂ (λ (r : Term) rs. record v { term = r } ∷ rs) (resolved_after s o after c v.term) (named_after s o after c vs)

module _ (levels up : List Level) (nodes_up : (h : ℕ) → h < suc (length up) → node_of levels h ≡ node_of up h) (s o after : Substitution) (c : IsComposition s o after) where
  -- heights over the levels above lead back to the nodes that items name
  back_to : (n : ℕ) → NamesLevels up (CatchMark n) → node_of levels (height_of up n) ≡ n
  back_to n on = let h = has_height up n on in let low = h.low in nodes_up (height_of up n) (omega (arith, low)) ∙ h.back

  mark_back : (n : ℕ) → NamesLevels up (CatchMark n) → node_of levels (suc (height_of up n - 1)) ≡ n
  mark_back n on =
      let h = has_height up n on in
      let some = h.some in
      ap (node_of levels) (let e : suc (height_of up n - 1) ≡ height_of up n = omega (arith, some) in e) ∙ back_to n on

  abbrev as_left : Item ℕ → Item ℕ
  as_left i = renamed_item (node_of levels) (λ h. node_of levels (suc h)) (resolve_item o (renamed_item (height_of up) (λ n. height_of up n - 1) (resolve_item s i)))

  item_back : (i : Item ℕ) → NamesLevels up i → resolve_item after i ≡ as_left i
  item_back (GoalItem t n) on = ap₂ GoalItem (resolved_after s o after c t) (sym (back_to n on))
  item_back (CatchMark n) on = ap CatchMark (sym (mark_back n on))
  item_back (CollectMark t n) on = ap₂ CollectMark (resolved_after s o after c t) (sym (mark_back n on))
  item_back (RemovalItem n) on = refl

  pub items_back : (items : List (Item ℕ)) → Each (NamesLevels up) items
      → map (resolve_item after) items
      ≡ map (renamed_item (node_of levels) (λ h. node_of levels (suc h))) (map (resolve_item o) (map (renamed_item (height_of up) (λ n. height_of up n - 1)) (map (resolve_item s) items)))
  items_back [] names = refl
  items_back (i ∷ items) names = ap₂ (λ (x : Item ℕ) xs. x ∷ xs) (item_back i names.0) (items_back items names.1)

node_above_is : (levels up : List Level) → ((h : ℕ) → h < suc (length up) → node_of levels h ≡ node_of up h) → node_above (map place_at up) ≡ node_of levels (length up)
node_above_is levels [] back = sym (back 0 (omega arith))
node_above_is levels (u ∷ us) back = sym (back (suc (length us)) (omega arith) ∙ own_height u us)

abbrev row_or : StoredNode → Option StoredNode → StoredNode
row_or r None = r
row_or r (Some x) = x

call_below : (n m : ℕ) (t : Term) → n ≤ m → is_term_below n t ≡ true → is_term_below m (call_of t) ≡ true
call_below n m t le h = grind (arith, nat_tests)

module _ (laws : BranchLaws) (job : Job) (rows : Rows) (levels : List Level) (p : Place) (above : List Place) (ball : Term) (stack : List Entry) (body : Body)
    (h : IsTakenAt job rows ball levels p above stack) (m : IsRecoveryBody rows p above ball body) where
  abbrev way : Branching
  way = way_beside rows p above

  abbrev s : Substitution
  s = bound_on way

  abbrev next : ℕ
  next = next_number (segments_on way)

  abbrev goals : List BranchItem
  goals = Goal (call_of m.recovery) (Node (node_above above)) ∷ m.second.goals

  kinds : CatchBody h.catcher h.recovery ≡ CatchBody m.catcher m.recovery
  kinds = sym h.kind ∙ m.kind

  catcher_same : h.catcher ≡ m.catcher
  catcher_same = cc kinds

  recovery_same : h.recovery ≡ m.recovery
  recovery_same = cc kinds

  unifier_same : h.unifier ≡ m.unifier
  unifier_same = let k : Some h.unifier ≡ Some m.unifier = sym h.takes ∙ (ap (λ t. taken_on way t ball) catcher_same ∙ m.takes) in cc k

  before : WayBinds way m.before
  before = laws.bind (segments_on way) m.before (segments_settled way h.settled) m.same

  final : IsFinal m.before
  final = unifiers_are_final (binding_equations (bindings_on (segments_on way))) m.before before.unified

  abbrev branch : Branch
  branch = record { goals = goals; segment = m.segment }

  leads : BranchLeadsOn m.before m.before m.after next (body_with next m.segment goals) 0 branch
  leads = record {
    is = refl;
    no_query = tt;
    shared = laws.empty m.before next (record { base = next; vars = 0; bindings = [] }) final refl (omega arith);
    own = record { numbers = let n = m.leads.numbers in omega (arith, n); extends = m.leads.extends };
  }

  items_are : items_on way ≡ m.second.goals
  items_are = ap branch_items m.there

  branch_settled : is_branch_settled next (body_at rows p).kind 1 (items_on way) ≡ true
  branch_settled = and-right _ (is_branch_settled next (body_at rows p).kind 1 (items_on way)) h.settled

  guard_settled : (is_term_below next m.catcher && is_term_below next m.recovery) ≡ true
  guard_settled = ap (is_guard_settled next) (sym m.kind) ∙ and-right (list_all (is_item_settled next) (items_on way)) (is_guard_settled next (body_at rows p).kind) branch_settled

  more : next ≤ number_after branch.segment
  more = let n = m.leads.numbers in omega (arith, n)

  goals_below : list_all (is_item_settled (number_after branch.segment)) goals ≡ true
  goals_below =
      and-both _ _ (call_below next (number_after branch.segment) m.recovery more (and-right (is_term_below next m.catcher) _ guard_settled))
      (settled_more next (number_after branch.segment) m.second.goals more
      (subst (λ is. list_all (is_item_settled next) is ≡ true) items_are (and-left _ (is_guard_settled next (body_at rows p).kind) branch_settled)))

  below : is_branch_settled (number_after branch.segment) (body_with next m.segment goals).kind 0 goals ≡ true
  below = and-both _ _ goals_below refl

  abbrev made_items : List (Item ℕ)
  made_items = items_meant goals

  reads : reading job ((body_with next m.segment goals, 0) ∷ way)
      ≡ PlainEntry (resolve_continuation m.after (record { items = made_items; named = named_of (query_on job way); next = number_after branch.segment }))
  reads = laws.read job m.before m.before m.after way (body_with next m.segment goals) 0 branch before leads below

  abbrev entry : Entry
  entry = PlainEntry (recovered_by h.unifier ball (resolve s h.recovery) h.up (continuation_bound job way))

  composed : IsComposition s h.unifier m.after
  composed = subst (λ o. IsComposition s o m.after) (sym unifier_same) (λ n. m.composed n ∙ ap (resolve m.unifier) (sym (or_nothing_same (bound_by (segments_on way)) m.before m.same n)))

  first_back : resolve m.after (call_of m.recovery) ≡ resolve h.unifier (call_of (resolve s h.recovery))
  first_back = resolved_after s h.unifier m.after composed (call_of m.recovery) ∙ ap (λ t. resolve h.unifier (call_of (resolve s t))) (sym recovery_same)

  above_back : node_above above ≡ node_of levels (length h.up)
  above_back = ap node_above h.above_are ∙ node_above_is levels h.up h.nodes_up

  rest_back : map (resolve_item m.after) (items_meant m.second.goals)
      ≡ map (renamed_item (node_of levels) (λ n. node_of levels (suc n)))
      (map (resolve_item h.unifier) (map (renamed_item (height_of h.up) (λ n. height_of h.up n - 1)) (map (resolve_item s) (items_meant (items_on way)))))
  rest_back =
      ap (λ is. map (resolve_item m.after) (items_meant is)) (sym items_are)
      ∙ items_back levels h.up h.nodes_up s h.unifier m.after composed (items_meant (items_on way)) h.names

  abbrev entry_of : List (Item ℕ) → List NamedTerm → ℕ → Entry
  entry_of items named n = PlainEntry (let f : Continuation ℕ = record { items = items; named = named; next = n } in f)

  number_back : number_after branch.segment ≡ next + copy_takes ball
  number_back = let n = m.numbers in omega (arith, n)

  entry_is : reading job ((body_with next m.segment goals, 0) ∷ way) ≡ with_nodes (node_of levels) entry
  entry_is =
      reads
      ∙ (ap (λ n. entry_of (map (resolve_item m.after) made_items) (map (resolve_named m.after) (named_of (query_on job way))) n) number_back
      ∙ ap₂ (λ is ns. entry_of is ns (next + copy_takes ball))
      (ap₂ (λ (x : Item ℕ) xs. x ∷ xs) (ap₂ GoalItem first_back above_back) rest_back)
      (named_after s h.unifier m.after composed (named_of (query_on job way))))

  -- below whatever way the rows say
  same_way : (r : StoredNode) (up : List Level) (b : Branching) → row_of_node rows p.node ≡ Some r → above_of up ≡ r.parent → IsWayTo rows up b → HangTogether rows up
      → ◌≡◌ {A = Branching} ((r.body, 1) ∷ b) way
  same_way r up b is parent on hang =
      let rows_same : r ≡ h.row = ap (row_or r) (sym is ∙ h.row_is) in
      let b_is : b ≡ branching_at rows above = ways_same rows up h.up b (branching_at rows above) on h.on hang h.hang (parent ∙ (ap (λ (x : StoredNode). x.parent) rows_same ∙ h.parent)) in
      ap₂ (λ (x : Body) (xs : Branching). (x, 1) ∷ xs) (ap (stored_body missing_body) (sym is)) b_is

  recovery_reads : ReadsBeside (reading job) rows (record { node = p.node; index = 0 }) body (with_nodes (node_of levels) entry)
  recovery_reads r up b is parent on hang n =
      ap₂ (λ (w : Branching) (x : Body). new_node (reading job) w n x) (same_way r up b is parent on hang) m.made ∙ ap (single n) entry_is

  pub reads_at : (scope : ℕ) → scope ≡ p.node → ReadsBeside (reading job) rows (record { node = scope; index = 0 }) body (with_nodes (node_of levels) entry)
  reads_at scope is = subst (λ n. ReadsBeside (reading job) rows (record { node = n; index = 0 }) body (with_nodes (node_of levels) entry)) (sym is) recovery_reads
