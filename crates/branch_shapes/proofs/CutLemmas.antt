-- What a cut to a node of the branch leaves.
use Rattle.std.proofs.Common.{◌≡◌, ℕ, suc, ◌-◌, Bool, true, false, cond, List, [], ◌∷◌, map, length, Option, Some, None, refl, sym, ap, ap₂, ◌∙◌, subst, arith}
use Rattle.std.specs.Prelude.{nat_le, nat_lt}
use Rattle.std.specs.List.{list_all}
use Rattle.au_term.specs.Term.{Term}
use Rattle.au_model.specs.Terms.Each.{Each}
use Rattle.au_model.specs.Terms.MostGeneral.{SameValues}
use Rattle.au_model.specs.Terms.Substitutions.{Substitution, resolve}
use Rattle.clause_compile.specs.declared.item.Item.{Item as BranchItem}
use Rattle.clause_compile.specs.declared.item.Item.TheVariants.{Goal, CatchEnd, Collect, Remove, End}
use Rattle.run_model.specs.Programs.Clauses.{Clause}
use Rattle.run_model.specs.Programs.Jobs.{Job}
use Rattle.run_model.specs.Goals.Outcomes.{Solutions, Ball, HaltNumber, GoesOnWith, EitherOf, TestOf, CutToScope, CatchOf, FindallOf, Outcome, Replies, Controls, AskWorld}
use Rattle.run_model.specs.Goals.GoalOutcomes.{outcome_of}
use Rattle.run_model.specs.Machine.Balls.{unwound}
use Rattle.run_model.specs.Machine.Entries.{Entry, PlainEntry, CatchEntry, FindallEntry, EndEntry, lowest}
use Rattle.run_model.specs.Machine.Items.{Item, GoalItem, CatchMark, CollectMark, RemovalItem, Continuation, first_mark, resolve_item, with_items, without_marks}
use Rattle.tree_model.specs.Effects.{or_none, spot_stack}
use Rattle.tree_model.specs.Floors.{floor_of, height_of, node_of, renamed_continuation, renamed_item, with_heights, with_nodes}
use Rattle.tree_model.specs.Gates.{ball_gate, gate_on, goal_gate, item_gate}
use Rattle.tree_model.specs.Legality.{gate_of, taken_at}
use Rattle.tree_model.specs.Levels.{Level, Place, Spot, levels_of}
use Rattle.tree_model.specs.Nodes.{Gate, BallGate, CutGate, WorldGate, single}
use Rattle.tree_model.specs.PendingLists.{way_of}
use Rattle.tree_model.specs.Ways.{is_on}
use Rattle.tree_model.specs.PrivateRuns.{goal_alone, item_alone, taken_alone}
use Rattle.tree_model.specs.TreeStates.{TreeState}
use Rattle.tree_nodes.specs.Bodies.{Body, ChoiceBody, Branching, new_node}
use Rattle.tree_nodes.specs.Rows.{Rows}
use Rattle.tree_nodes.specs.TreeTables.{IsWayTo}
use Rattle.branch_reading.specs.BranchSegments.{bound_by, next_number, segments_on}
use Rattle.branch_reading.specs.Readings.{continuation_on, items_meant, or_nothing, reading}
use Rattle.branch_reading.specs.SettledWays.{is_item_settled, is_way_settled, items_on}
use Rattle.branch_shapes.specs.FloorItems.{NamesLevels}
use Rattle.branch_shapes.proofs.FloorItemLemmas.{has_height}
use Rattle.public_tree.specs.PublicPruning.{CutsAs, ReadsAsTop}
use Rattle.branch_shapes.specs.CutReadings.{CutsAreRead, IsAtCut}
use Rattle.branch_shapes.specs.RestBodies.{IsRestBody, items_behind, quiet_segment, rest_continuation}
use Rattle.branch_shapes.proofs.PlainItemLemmas.{high, bound, above, left, stack_is, node}
use Rattle.branch_shapes.proofs.RestReadingLemmas.{bound_there, items_settled, rest_bodies_read}

-- a goal whose gate is that of a cut cuts
ball_is_no_cut : (levels : List Level) (es : List Entry) (n : ℕ) → ball_gate levels es ≡ Some (CutGate n) → ⊥
ball_is_no_cut levels [] n h = cc
ball_is_no_cut levels (CatchEntry c r f ∷ es) n h = cc
ball_is_no_cut levels (FindallEntry results l f ∷ es) n h = cc
ball_is_no_cut levels (EndEntry b ∷ es) n h = cc
ball_is_no_cut levels (PlainEntry f ∷ es) n h = by_test (nat_le (length levels) (length es)) h
  where
    by_test : (b : Bool) → cond b None (Some (BallGate (node_of levels (suc (length es))))) ≡ Some (CutGate n) → ⊥
    by_test true k = cc
    by_test false k = cc

cuts : (levels : List Level) (o : Outcome) (h n : ℕ) (f : Continuation ℕ) (es : List Entry) → goal_gate levels o h f es ≡ Some (CutGate n) → o ≡ Controls CutToScope
cuts levels (Replies (Solutions ss)) h n f es k = absurd cc
cuts levels (Replies (Ball b)) h n f es k = absurd (ball_is_no_cut levels (unwound b (first_mark f.items) es) n k)
cuts levels (Replies (HaltNumber j)) h n f es k = absurd cc
cuts levels (Controls CutToScope) h n f es k = refl
cuts levels (Controls (GoesOnWith gs)) h n f es k = absurd cc
cuts levels (Controls (EitherOf gs others)) h n f es k = absurd cc
cuts levels (Controls (TestOf gs thens others)) h n f es k = absurd cc
cuts levels (Controls (CatchOf goal catcher recovery)) h n f es k = absurd cc
cuts levels (Controls (FindallOf template goal list)) h n f es k = absurd cc
cuts levels (AskWorld goal) h n f es k = absurd cc

module _ (clauses : List Clause) (levels : List Level) (s : Substitution) (f : Continuation ℕ) (es : List Entry) (n next : ℕ) where
  -- a cut is first past the ends of catches, and this is behind it
  record CutsFirst (items : List BranchItem) : Type 0 where
    pub goal : Term
    pub height : ℕ
    pub first : without_marks (high levels s items) ≡ GoalItem goal height ∷ high levels s (items_behind items)
    pub outcome : outcome_of clauses goal f.next ≡ Controls CutToScope

  cut_first : (items : List BranchItem) → list_all (is_item_settled next) items ≡ true
      → item_gate clauses levels (without_marks (high levels s items)) f es ≡ Some (CutGate n) → CutsFirst items
  cut_first [] settled gate = absurd cc
  cut_first (Goal term cut ∷ items) settled gate = record {
    goal = _;
    height = _;
    first = refl;
    outcome = cuts levels _ _ n _ es gate;
  }
  cut_first (CatchEnd scope ∷ items) settled gate =
      let k = cut_first items settled gate in
      record { goal = k.goal; height = k.height; first = k.first; outcome = k.outcome }
  cut_first (Collect template scope ∷ items) settled gate = absurd cc
  cut_first (Remove id ∷ items) settled gate = absurd cc
  cut_first (End ball ∷ items) settled gate = absurd cc

module _ (job : Job) (n : ℕ) (body : Body) (t : TreeState) (s : Spot) (way : Branching) (h : IsAtCut job n t s way) (rb : IsRestBody (items_behind (items_on way)) (next_number (segments_on way)) body) where
  abbrev levels : List Level
  levels = levels_of s

  abbrev f : Continuation ℕ
  f = above job body s way h.on rb

  gate_is : item_gate t.job.clauses levels (without_marks f.items) f (floor_of levels) ≡ Some (CutGate n)
  unfolding gate_of
  gate_is = sym (ap (gate_on t.job.clauses levels) (stack_is job body s way h.on rb)) ∙ h.gate

  first : CutsFirst t.job.clauses levels (bound job body s way h.on rb) f (floor_of levels) n (next_number (segments_on way)) (items_on way)
  first = cut_first t.job.clauses levels (bound job body s way h.on rb) f (floor_of levels) n (next_number (segments_on way)) (items_on way) (items_settled way h.on.settled) gate_is

  taken : or_none (taken_alone t.job.clauses (spot_stack s)) ≡ PlainEntry (left job body s way h.on rb) ∷ lowest first.height (floor_of levels)
  taken =
      ap (λ es. or_none (taken_alone t.job.clauses es)) (stack_is job body s way h.on rb)
      ∙ (ap (λ is. or_none (item_alone t.job.clauses is f (floor_of levels))) first.first
      ∙ ap (λ o. goal_alone o first.height (left job body s way h.on rb) (floor_of levels)) first.outcome)

  pub reads_as_top : ReadsAsTop (reading job) way body levels (or_none (taken_alone t.job.clauses (spot_stack s)))
  reads_as_top = record { entry = PlainEntry (left job body s way h.on rb); under = lowest first.height (floor_of levels); top = taken; node = node job body s way h.on rb }

pub cuts_are_read : CutsAreRead
cuts_are_read job rows n body w a t at there s taken =
    let found = there s taken in
    ((at s found.0 taken found.1).0.gate, λ way path. let k = at s way taken path in reads_as_top job n body t s way k.0 k.1)
