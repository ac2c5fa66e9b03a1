-- What a ball leaves of an alternative whose first goal throws it, by what the nodes on its branch were made from.
use Rattle.std.proofs.Common.{◌≡◌, ◌⊎◌, inl, inr, ℕ, ◌-◌, Bool, true, false, cond, List, [], ◌∷◌, drop, Some, None, refl, sym, ap, ◌∙◌, subst}
use Rattle.au_term.specs.Term.{Term}
use Rattle.au_model.specs.Terms.Each.{Each}
use Rattle.au_model.specs.Terms.Substitutions.{Substitution}
use Rattle.clause_compile.specs.declared.item.Item.{Item as BranchItem}
use Rattle.clause_compile.specs.declared.item.Item.TheVariants.{Goal, CatchEnd, Collect, Remove, End}
use Rattle.run_model.specs.Goals.GoalOutcomes.{outcome_of}
use Rattle.run_model.specs.Goals.Outcomes.{Ball, Replies}
use Rattle.run_model.specs.Machine.Balls.{unwound}
use Rattle.run_model.specs.Machine.Entries.{Entry, PlainEntry, CatchEntry, FindallEntry, EndEntry}
use Rattle.run_model.specs.Machine.Items.{GoalItem, Continuation, first_mark, with_items, without_marks}
use Rattle.run_model.specs.Programs.Jobs.{Job}
use Rattle.tree_model.specs.Effects.{or_none, spot_stack}
use Rattle.tree_model.specs.Floors.{floor_of, height_of, renamed_continuation, with_heights}
use Rattle.tree_model.specs.Gates.{ball_gate, ball_scope, gate_on, goal_gate, is_caught_above, item_gate}
use Rattle.tree_model.specs.LegalTrees.{IsLegalTree}
use Rattle.tree_model.specs.Legality.{gate_of, taken_at}
use Rattle.tree_model.specs.Levels.{Level, Place, Spot, levels_of}
use Rattle.tree_model.specs.Nodes.{BallGate}
use Rattle.tree_model.specs.PendingLists.{way_of}
use Rattle.tree_model.specs.PrivateRuns.{goal_alone, item_alone, taken_alone}
use Rattle.tree_model.specs.TreeStates.{TreeState}
use Rattle.tree_model.specs.Ways.{IsOnWay}
use Rattle.tree_nodes.specs.Bodies.{Branching}
use Rattle.tree_nodes.specs.TreeTables.{NodesView, IsTableOf}
use Rattle.branch_reading.specs.BranchSegments.{bound_by, next_number, segments_on}
use Rattle.branch_reading.specs.NumberedReadings.{IsEndOn, IsSettledReading, NumberedTreesAreSettled}
use Rattle.branch_reading.specs.Readings.{items_meant, or_nothing, reading}
use Rattle.branch_reading.specs.SettledWays.{is_way_settled, items_on}
use Rattle.branch_shapes.specs.FloorItems.{NamesLevels, ScopedItemsNameLevels}
use Rattle.branch_shapes.proofs.OutLemmas.{IsOutAt, out_at, awake_at, end_read, names_back}
use Rattle.branch_shapes.specs.RestBodies.{items_behind}
use Rattle.branch_shapes.proofs.PlainItemLemmas.{behind, high, names_left}
use Rattle.branch_shapes.proofs.PlainReadingLemmas.{bound_continuation, plain_reading}
use Rattle.branch_shapes.proofs.RestReadingLemmas.{items_settled}
use Rattle.task_stops.specs.BranchLandings.{height_of_mark, IsMarkOver}
use Rattle.task_stops.specs.LandingBodies.{left_by_ball}
use Rattle.task_stops.specs.Landings.{innermost_catch}
use Rattle.task_stops.specs.ThrownBalls.{IsAtBall}

-- the first mark of items is the innermost catch, by its height
pub mark_high : (levels : List Level) (s : Substitution) (items : List BranchItem) → first_mark (high levels s items) ≡ height_of_mark levels (innermost_catch items)
mark_high levels s [] = refl
mark_high levels s (Goal term cut ∷ items) = mark_high levels s items
mark_high levels s (CatchEnd scope ∷ items) = refl
mark_high levels s (Collect template scope ∷ items) = mark_high levels s items
mark_high levels s (Remove id ∷ items) = mark_high levels s items
mark_high levels s (End ball ∷ items) = mark_high levels s items

pub mark_over : (levels : List Level) (items : List BranchItem) → Each (NamesLevels levels) (items_meant items) → IsMarkOver levels (innermost_catch items)
mark_over levels [] names = tt
mark_over levels (Goal term cut ∷ items) names = mark_over levels items names.1
mark_over levels (CatchEnd scope ∷ items) names = names.0
mark_over levels (Collect template scope ∷ items) names = mark_over levels items names.1
mark_over levels (Remove id ∷ items) names = mark_over levels items names.1
mark_over levels (End ball ∷ items) names = mark_over levels items names

-- heights leave what kind of entry it is
plain_under : (levels : List Level) (e : Entry) (top : Continuation ℕ) (floor under : List Entry) → ◌≡◌ {A = List Entry} (with_heights levels e ∷ floor) (PlainEntry top ∷ under)
    → (f : Continuation ℕ) × (e ≡ PlainEntry f)
plain_under levels (PlainEntry f) top floor under h = (f, refl)
plain_under levels (CatchEntry c r f) top floor under h = absurd cc
plain_under levels (FindallEntry results l f) top floor under h = absurd cc
plain_under levels (EndEntry b) top floor under h = absurd cc

-- the gate of a ball is its scope
scope_is : (levels : List Level) (es : List Entry) (n : ℕ) → ball_gate levels es ≡ Some (BallGate n) → ball_gate levels es ≡ Some (BallGate (ball_scope levels es))
scope_is levels es n = by_test (is_caught_above levels es)
  where
    by_test : (b : Bool) → cond b None (Some (BallGate (ball_scope levels es))) ≡ Some (BallGate n)
        → cond b None (Some (BallGate (ball_scope levels es))) ≡ Some (BallGate (ball_scope levels es))
    by_test true h = absurd cc
    by_test false h = refl

module _ (job : Job) (nodes : NodesView) (t : TreeState) (w : ℕ) (a : Place) (placed : IsTableOf nodes (reading job) t.root) (legal : IsLegalTree t)
    (numbered : NumberedTreesAreSettled) (scoped : ScopedItemsNameLevels) (s : Spot) (taken : taken_at w a t ≡ Some s) (ball : Term) (there : IsAtBall t s ball) where
  abbrev levels : List Level
  levels = levels_of s

  pub out : IsOutAt job nodes t w a s
  out = out_at job nodes t w a s placed taken

  abbrev pub way : Branching
  way = out.way

  abbrev bound : Substitution
  bound = or_nothing (bound_by (segments_on way))

  abbrev rest : List BranchItem
  rest = items_behind (items_on way)

  plain : (f : Continuation ℕ) × (s.entry ≡ PlainEntry f)
  plain = plain_under levels s.entry there.throws.top (floor_of levels) there.throws.under there.throws.entries

  known : IsSettledReading job way s.entry
  known = numbered job nodes t.root placed legal.numbered s.level s.above s.hold s.entry out.in_tree way out.on

  settled : is_way_settled way ≡ true
  settled = by_case known.settled
    where
      by_case : (is_way_settled way ≡ true) ⊎ IsEndOn way → is_way_settled way ≡ true
      by_case (inl h) = h
      by_case (inr end) =
          let e = end_read job way end in
          let wrong : PlainEntry plain.0 ≡ EndEntry e.0 = sym plain.1 ∙ known.reads ∙ e.1 in
          absurd (cc wrong)

  read : bound_continuation job way ≡ plain.0
  read = plain_reading job way plain.0 settled (sym known.reads ∙ plain.1)

  names : Each (NamesLevels levels) (items_meant (items_on way))
  names =
      let asked = subst (IsOnWay (way_of levels)) plain.1 (awake_at job nodes t w a s legal out).asked in
      names_back levels bound (items_meant (items_on way))
      (subst (λ (f : Continuation ℕ). Each (NamesLevels levels) f.items) (sym read) (scoped levels plain.0.items asked.scoped))

  pub rest_over : IsMarkOver levels (innermost_catch rest)
  rest_over = mark_over levels rest (names_left levels (items_on way) names)

  -- the goal in front, and what follows it
  abbrev front : Continuation ℕ
  front = renamed_continuation (height_of levels) (λ r. height_of levels r - 1) (bound_continuation job way)

  stack : spot_stack s ≡ PlainEntry front ∷ floor_of levels
  stack = ap (λ (e : Entry). with_heights levels e ∷ floor_of levels) (plain.1 ∙ ap PlainEntry (sym read))

  top_is : there.throws.top ≡ front
  top_is = let both : PlainEntry there.throws.top ∷ there.throws.under ≡ PlainEntry front ∷ floor_of levels = sym there.throws.entries ∙ stack in cc

  first : without_marks front.items ≡ GoalItem there.throws.goal there.throws.height ∷ there.throws.behind
  first = ap (λ (f : Continuation ℕ). without_marks f.items) (sym top_is) ∙ there.throws.first

  outcome : outcome_of t.job.clauses there.throws.goal front.next ≡ Replies (Ball there.thrown)
  outcome = ap (λ (f : Continuation ℕ). outcome_of t.job.clauses there.throws.goal f.next) (sym top_is) ∙ there.throws.outcome

  behind_is : there.throws.behind ≡ high levels bound rest
  behind_is = sym (ap (drop 1) first) ∙ behind levels bound (next_number (segments_on way)) (items_on way) (items_settled way settled)

  abbrev left : List Entry
  left = left_by_ball there.thrown (innermost_catch rest) levels

  unwinds : unwound there.thrown (first_mark there.throws.behind) (floor_of levels) ≡ left
  unwinds = ap (λ m. unwound there.thrown m (floor_of levels)) (ap first_mark behind_is ∙ mark_high levels bound rest)

  pub leaves : or_none (taken_alone t.job.clauses (spot_stack s)) ≡ left
  leaves =
      ap (λ es. or_none (taken_alone t.job.clauses es)) stack
      ∙ (ap (λ is. or_none (item_alone t.job.clauses is front (floor_of levels))) first
      ∙ (ap (λ o. goal_alone o there.throws.height (with_items there.throws.behind front) (floor_of levels)) outcome ∙ unwinds))

  gate_there : gate_of t s ≡ ball_gate levels left
  unfolding gate_of
  gate_there =
      ap (gate_on t.job.clauses levels) stack
      ∙ (ap (λ is. item_gate t.job.clauses levels is front (floor_of levels)) first
      ∙ (ap (λ o. goal_gate levels o there.throws.height (with_items there.throws.behind front) (floor_of levels)) outcome ∙ ap (ball_gate levels) unwinds))

  pub gate_is : gate_of t s ≡ Some (BallGate (ball_scope levels left))
  gate_is = gate_there ∙ scope_is levels left there.node (sym gate_there ∙ there.gate)
