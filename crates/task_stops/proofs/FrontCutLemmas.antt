-- The cut that comes first at an alternative, and what it leaves.
use Rattle.std.proofs.Common.{◌≡◌, ◌⊎◌, inl, inr, ℕ, Bool, true, false, cond, List, [], ◌∷◌, length, Some, None, refl, sym, ap, ◌∙◌, subst}
use Rattle.std.specs.Prelude.{nat_lt, is_some, IsSome}
use Rattle.std.specs.List.{list_all}
use Rattle.au_model.specs.Terms.Each.{Each}
use Rattle.au_model.specs.Terms.Substitutions.{Substitution}
use Rattle.clause_compile.specs.declared.item.Item.{Item as BranchItem}
use Rattle.clause_compile.specs.declared.item.Item.TheVariants.{Goal, CatchEnd, Collect, Remove, End}
use Rattle.clause_compile.specs.declared.item.Scope.{Scope}
use Rattle.run_model.specs.Programs.Clauses.{Clause}
use Rattle.run_model.specs.Programs.Jobs.{Job}
use Rattle.run_model.specs.Goals.Outcomes.{Solutions, Ball, HaltNumber, GoesOnWith, EitherOf, TestOf, CutToScope, CatchOf, FindallOf, Outcome, Replies, Controls, AskWorld}
use Rattle.run_model.specs.Machine.Balls.{unwound}
use Rattle.run_model.specs.Machine.Entries.{Entry, PlainEntry, CatchEntry, FindallEntry, EndEntry}
use Rattle.run_model.specs.Machine.Items.{Continuation, first_mark, without_marks}
use Rattle.tree_model.specs.Floors.{floor_of, height_of, node_of, with_heights}
use Rattle.tree_model.specs.Gates.{ball_scope, gate_on, goal_gate, is_caught_above, item_gate}
use Rattle.tree_model.specs.LegalTrees.{IsLegalTree}
use Rattle.tree_model.specs.Legality.{gate_of, taken_at}
use Rattle.tree_model.specs.Levels.{Level, Place, Spot, levels_of}
use Rattle.tree_model.specs.Nodes.{BallGate, CutGate}
use Rattle.tree_model.specs.PendingLists.{way_of}
use Rattle.tree_model.specs.TreeStates.{TreeState}
use Rattle.tree_model.specs.Ways.{IsAsked, IsOnWay}
use Rattle.tree_nodes.specs.Bodies.{Body, ChoiceBody, Branching}
use Rattle.tree_nodes.specs.Rows.{row_of_node, scope_number}
use Rattle.tree_nodes.specs.TreeTables.{NodesView, IsTableOf, IsWayTo}
use Rattle.branch_reading.specs.BranchSegments.{bound_by, next_number, segments_on}
use Rattle.branch_reading.specs.NumberedReadings.{IsEndOn, IsSettledReading, NumberedTreesAreSettled}
use Rattle.branch_reading.specs.Readings.{entry_if, entry_meant, entry_on, items_meant, or_nothing, reading}
use Rattle.branch_reading.specs.SettledWays.{is_item_settled, is_way_settled, items_on}
use Rattle.task_region.specs.PlacesUp.{items_at_place, number_left}
use Rattle.task_region.proofs.AtPlaceLemmas.{items_at, number_at, row_there}
use Rattle.branch_shapes.specs.FloorItems.{NamesLevels, ScopedItemsNameLevels}
use Rattle.branch_shapes.proofs.OutLemmas.{IsOutAt, out_at, awake_at, names_back, spot_out}
use Rattle.branch_shapes.proofs.FloorItemLemmas.{has_height}
use Rattle.branch_shapes.specs.CutReadings.{CutsAreRead, IsAtCut, IsPlainOn}
use Rattle.branch_shapes.specs.RestBodies.{IsRestBody, items_behind, quiet_segment}
use Rattle.branch_shapes.proofs.PlainItemLemmas.{above, bound, high, stack_is}
use Rattle.branch_shapes.proofs.PlainReadingLemmas.{bound_continuation, plain_reading}
use Rattle.branch_shapes.proofs.RestReadingLemmas.{items_settled}
use Rattle.public_tree.specs.PublicPruning.{CutsAs}
use Rattle.task_stops.specs.FrontCuts.{scope_in_front}
use Rattle.task_stops.specs.StopGates.{IsBeforeCut}

-- the node of an alternative that is out is there
pub row_out : (job : Job) (nodes : NodesView) (t : TreeState) (w : ℕ) (a : Place) → IsTableOf nodes (reading job) t.root → IsLegalTree t
    → is_some (taken_at w a t) ≡ true → IsSome (row_of_node nodes.rows a.node)
row_out job nodes t w a placed legal out =
    let s = spot_out (taken_at w a t) out in
    let there = out_at job nodes t w a s.0 placed s.1 in
    subst (λ (p : Place). IsSome (row_of_node nodes.rows p.node)) there.at (row_there nodes.rows s.0.level s.0.above there.way there.on)

-- a goal at the gate of a cut has its scope
gate_height : (levels : List Level) (o : Outcome) (h n : ℕ) (f : Continuation ℕ) (es : List Entry) → goal_gate levels o h f es ≡ Some (CutGate n) → node_of levels h ≡ n
gate_height levels (Replies (Solutions ss)) h n f es k = absurd cc
gate_height levels (Replies (HaltNumber j)) h n f es k = absurd cc
gate_height levels (Replies (Ball b)) h n f es k = by_test (is_caught_above levels (unwound b (first_mark f.items) es)) k
  where
    by_test : (c : Bool) → cond c None (Some (BallGate (ball_scope levels (unwound b (first_mark f.items) es)))) ≡ Some (CutGate n) → node_of levels h ≡ n
    by_test true e = absurd cc
    by_test false e = absurd cc
gate_height levels (Controls CutToScope) h n f es k = by_test (nat_lt h (length levels)) k
  where
    by_test : (c : Bool) → cond c (Some (CutGate (node_of levels h))) None ≡ Some (CutGate n) → node_of levels h ≡ n
    by_test true e = cc
    by_test false e = absurd cc
gate_height levels (Controls (GoesOnWith gs)) h n f es k = absurd cc
gate_height levels (Controls (EitherOf gs others)) h n f es k = absurd cc
gate_height levels (Controls (TestOf gs thens others)) h n f es k = absurd cc
gate_height levels (Controls (CatchOf goal catcher recovery)) h n f es k = absurd cc
gate_height levels (Controls (FindallOf template goal list)) h n f es k = absurd cc
gate_height levels (AskWorld goal) h n f es k = absurd cc

-- the cut that comes first has the scope of the gate
pub record IsScopeInFront (items : List BranchItem) (n : ℕ) : Type 0 where
  pub scope : Scope
  pub front : scope_in_front items ≡ Some scope
  pub number : scope_number scope ≡ n

scope_first : (clauses : List Clause) (levels : List Level) (s : Substitution) (f : Continuation ℕ) (es : List Entry) (n next : ℕ) (items : List BranchItem)
    → list_all (is_item_settled next) items ≡ true → Each (NamesLevels levels) (items_meant items)
    → item_gate clauses levels (without_marks (high levels s items)) f es ≡ Some (CutGate n) → IsScopeInFront items n
scope_first clauses levels s f es n next [] settled on gate = absurd cc
scope_first clauses levels s f es n next (Goal term cut ∷ items) settled on gate = record {
  scope = cut;
  front = refl;
  number = sym (has_height levels (scope_number cut) on.0).back ∙ gate_height levels _ (height_of levels (scope_number cut)) n _ es gate;
}
scope_first clauses levels s f es n next (CatchEnd scope ∷ items) settled on gate =
    let k = scope_first clauses levels s f es n next items settled on.1 gate in
    record { scope = k.scope; front = k.front; number = k.number }
scope_first clauses levels s f es n next (Collect template scope ∷ items) settled on gate = absurd cc
scope_first clauses levels s f es n next (Remove id ∷ items) settled on gate = absurd cc
scope_first clauses levels s f es n next (End ball ∷ items) settled on gate = absurd cc

-- an entry at the gate of a cut is plain
plain_there : (clauses : List Clause) (levels : List Level) (e : Entry) (n : ℕ) → gate_on clauses levels (with_heights levels e ∷ floor_of levels) ≡ Some (CutGate n)
    → (f : Continuation ℕ) × (e ≡ PlainEntry f)
plain_there clauses levels (PlainEntry f) n gate = (f, refl)
plain_there clauses levels (CatchEntry c r f) n gate = absurd cc
plain_there clauses levels (FindallEntry results l f) n gate = absurd cc
plain_there clauses levels (EndEntry b) n gate = absurd cc

plain_is_no_end : (job : Job) (way : Branching) (f : Continuation ℕ) → reading job way ≡ PlainEntry f → IsEndOn way → ⊥
plain_is_no_end job [] f e end = absurd cc
plain_is_no_end job ((b, i) ∷ way) f e end =
    let here = (b, i) ∷ way in
    let ends : reading job here ≡ EndEntry end.0 = ap (λ items. entry_meant items (entry_if (is_way_settled here) (entry_on job here))) end.1 in
    let wrong : EndEntry end.0 ≡ PlainEntry f = sym ends ∙ e in
    cc

-- a body of what is left behind the first goal, whatever that is
abbrev rest_of : Branching → Body
rest_of way =
    let segment = quiet_segment (next_number (segments_on way)) in
    record { kind = ChoiceBody; segment = segment; branches = record { goals = items_behind (items_on way); segment = segment } ∷ [] }

rest_is : (way : Branching) → IsRestBody (items_behind (items_on way)) (next_number (segments_on way)) (rest_of way)
rest_is way = record { kind = refl; segment = refl; branches = refl }

module _ (job : Job) (nodes : NodesView) (t : TreeState) (w : ℕ) (a : Place) (placed : IsTableOf nodes (reading job) t.root) (legal : IsLegalTree t)
    (settled : NumberedTreesAreSettled) (scoped : ScopedItemsNameLevels) (before : IsBeforeCut w a t) where
  module _ (s : Spot) (way : Branching) (taken : taken_at w a t ≡ Some s) (path : IsWayTo nodes.rows (levels_of s) way) where
    abbrev levels : List Level
    levels = levels_of s

    abbrev node : ℕ
    node = (before s taken).0

    there : IsOutAt job nodes t w a s
    there = out_at job nodes t w a s placed taken

    known : IsSettledReading job way s.entry
    known = settled job nodes t.root placed legal.numbered s.level s.above s.hold s.entry there.in_tree way path

    gate_is : gate_on t.job.clauses levels (with_heights levels s.entry ∷ floor_of levels) ≡ Some (CutGate node)
    unfolding gate_of
    gate_is = (before s taken).1

    plain : (f : Continuation ℕ) × (s.entry ≡ PlainEntry f)
    plain = plain_there t.job.clauses levels s.entry node gate_is

    way_settled : is_way_settled way ≡ true
    way_settled = by_case known.settled
      where
        by_case : (is_way_settled way ≡ true) ⊎ IsEndOn way → is_way_settled way ≡ true
        by_case (inl h) = h
        by_case (inr end) = absurd (plain_is_no_end job way plain.0 (sym known.reads ∙ plain.1) end)

    names : Each (NamesLevels levels) (items_meant (items_on way))
    names =
        let bound_here = or_nothing (bound_by (segments_on way)) in
        let same : bound_continuation job way ≡ plain.0 = plain_reading job way plain.0 way_settled (sym known.reads ∙ plain.1) in
        let asked : IsAsked (way_of levels) plain.0.items = subst (IsOnWay (way_of levels)) plain.1 (awake_at job nodes t w a s legal there).asked in
        let bound_names : Each (NamesLevels levels) plain.0.items = scoped levels plain.0.items asked.scoped in
        names_back levels bound_here (items_meant (items_on way)) (subst (λ (f : Continuation ℕ). Each (NamesLevels levels) f.items) (sym same) bound_names)

    pub is_plain : IsPlainOn job s way
    is_plain = record { reads = known.reads; settled = way_settled; plain = plain; scoped = names }

    pub in_front : IsScopeInFront (items_on way) node
    in_front =
        let rb = rest_is way in
        let f = above job (rest_of way) s way is_plain rb in
        scope_first t.job.clauses levels (bound job (rest_of way) s way is_plain rb) f (floor_of levels) node (next_number (segments_on way)) (items_on way)
        (items_settled way way_settled) names
        (sym (ap (gate_on t.job.clauses levels) (stack_is job (rest_of way) s way is_plain rb)) ∙ gate_is)

    left_there : items_on way ≡ items_at_place nodes.rows a
    left_there = items_at nodes.rows s.level s.above way path ∙ ap (items_at_place nodes.rows) there.at

    pub is_at_cut : (scope : Scope) → scope_in_front (items_at_place nodes.rows a) ≡ Some scope → IsAtCut job (scope_number scope) t s way
    unfolding gate_of
    is_at_cut scope front =
        let k = in_front in
        let both_scopes : Some k.scope ≡ Some scope = sym k.front ∙ (ap scope_in_front left_there ∙ front) in
        let same : k.scope ≡ scope = cc both_scopes in
        let number : node ≡ scope_number scope = sym k.number ∙ ap scope_number same in
        record { on = is_plain; gate = gate_is ∙ ap (λ n. Some (CutGate n)) number }

    pub is_rest : (body : Body) → IsRestBody (items_behind (items_at_place nodes.rows a)) (number_left nodes.rows a) body
        → IsRestBody (items_behind (items_on way)) (next_number (segments_on way)) body
    is_rest body h =
        let number : next_number (segments_on way) ≡ number_left nodes.rows a
        = number_at nodes.rows s.level s.above way path ∙ ap (number_left nodes.rows) there.at in
        subst (λ n. IsRestBody (items_behind (items_on way)) n body) (sym number)
        (subst (λ (xs : List BranchItem). IsRestBody (items_behind xs) (number_left nodes.rows a) body) (sym left_there) h)

  -- at the place itself
  pub front_out : is_some (taken_at w a t) ≡ true → is_some (scope_in_front (items_at_place nodes.rows a)) ≡ true
  front_out out =
      let s = spot_out (taken_at w a t) out in
      let there = out_at job nodes t w a s.0 placed s.1 in
      let k = in_front s.0 there.way s.1 there.on in
      ap is_some (ap scope_in_front (sym (left_there s.0 there.way s.1 there.on)) ∙ k.front)

  pub cuts_out : (scope : Scope) (body : Body) → scope_in_front (items_at_place nodes.rows a) ≡ Some scope
      → IsRestBody (items_behind (items_at_place nodes.rows a)) (number_left nodes.rows a) body → CutsAreRead → CutsAs nodes.rows (scope_number scope) body w a (reading job) t
  cuts_out scope body front rest law =
      law job nodes.rows (scope_number scope) body w a t
      (λ s way taken path. (is_at_cut s way taken path scope front, is_rest s way taken path body rest))
      (λ s taken. let there = out_at job nodes t w a s placed taken in (there.way, there.on))

  pub gate_out : (scope : Scope) → scope_in_front (items_at_place nodes.rows a) ≡ Some scope → (s : Spot) → taken_at w a t ≡ Some s
      → gate_of t s ≡ Some (CutGate (scope_number scope))
  gate_out scope front s taken =
      let there = out_at job nodes t w a s placed taken in
      (is_at_cut s there.way taken there.on scope front).gate
