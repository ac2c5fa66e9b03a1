-- The items of a plain alternative by heights and by nodes, and a node of what is left of them.
use Rattle.std.proofs.Common.{◌≡◌, ℕ, suc, ◌-◌, Bool, true, false, cond, List, [], ◌∷◌, map, length, drop, Option, Some, None, refl, sym, ap, ap₂, ◌∙◌, subst, arith}
use Rattle.std.specs.Prelude.{nat_le, nat_lt}
use Rattle.std.specs.List.{list_all}
use Rattle.au_term.specs.Term.{Term}
use Rattle.au_model.specs.Terms.Each.{Each}
use Rattle.au_model.specs.Terms.MostGeneral.{SameValues}
use Rattle.au_model.specs.Terms.Substitutions.{Substitution, resolve}
use Rattle.clause_compile.specs.declared.item.Item.{Item as BranchItem}
use Rattle.clause_compile.specs.declared.item.Item.TheVariants.{Goal, CatchEnd, Collect, Remove, End}
use Rattle.run_model.specs.Programs.Clauses.{Clause}
use Rattle.run_model.specs.Programs.Jobs.{Job}
use Rattle.run_model.specs.Goals.Outcomes.{Solutions, Ball, HaltNumber, GoesOnWith, EitherOf, TestOf, CutToScope, CatchOf, FindallOf, Outcome, Replies, Controls, AskWorld}
use Rattle.run_model.specs.Goals.GoalOutcomes.{outcome_of}
use Rattle.run_model.specs.Machine.Balls.{unwound}
use Rattle.run_model.specs.Machine.Entries.{Entry, PlainEntry, CatchEntry, FindallEntry, EndEntry, lowest}
use Rattle.run_model.specs.Machine.Items.{Item, GoalItem, CatchMark, CollectMark, RemovalItem, Continuation, first_mark, resolve_item, with_items, without_marks}
use Rattle.tree_model.specs.Effects.{or_none, spot_stack}
use Rattle.tree_model.specs.Floors.{floor_of, height_of, node_of, renamed_continuation, renamed_item, with_heights, with_nodes}
use Rattle.tree_model.specs.Gates.{ball_gate, gate_on, goal_gate, item_gate}
use Rattle.tree_model.specs.Legality.{gate_of, taken_at}
use Rattle.tree_model.specs.Levels.{Level, Place, Spot, levels_of}
use Rattle.tree_model.specs.Nodes.{Gate, BallGate, CutGate, WorldGate, single}
use Rattle.tree_model.specs.PendingLists.{way_of}
use Rattle.tree_model.specs.Ways.{is_on}
use Rattle.tree_model.specs.PrivateRuns.{goal_alone, item_alone, taken_alone}
use Rattle.tree_model.specs.TreeStates.{TreeState}
use Rattle.tree_nodes.specs.Bodies.{Body, ChoiceBody, Branching, new_node}
use Rattle.tree_nodes.specs.Rows.{Rows}
use Rattle.tree_nodes.specs.TreeTables.{IsWayTo}
use Rattle.branch_reading.specs.BranchSegments.{bound_by, next_number, segments_on}
use Rattle.branch_reading.specs.Readings.{continuation_on, items_meant, or_nothing, reading}
use Rattle.branch_reading.specs.SettledWays.{is_item_settled, is_way_settled, items_on}
use Rattle.branch_shapes.specs.FloorItems.{NamesLevels}
use Rattle.branch_shapes.proofs.FloorItemLemmas.{has_height}
use Rattle.public_tree.specs.PublicPruning.{CutsAs, ReadsAsTop}
use Rattle.branch_shapes.specs.CutReadings.{IsPlainOn}
use Rattle.branch_shapes.specs.RestBodies.{IsRestBody, items_behind, quiet_segment, rest_continuation}
use Rattle.branch_shapes.proofs.PlainReadingLemmas.{bound_continuation, plain_reading}
use Rattle.branch_shapes.proofs.RestReadingLemmas.{bound_there, items_settled, rest_bodies_read}

-- a node of the branch is at its height, and so is one that a mark names
node_height : (levels : List Level) (r : ℕ) → is_on (way_of levels) r ≡ true → node_of levels (height_of levels r) ≡ r
node_height levels r on = (has_height levels r on).back

mark_height : (levels : List Level) (r : ℕ) → is_on (way_of levels) r ≡ true → node_of levels (suc (height_of levels r - 1)) ≡ r
mark_height levels r on =
    let k = has_height levels r on in
    let some = k.some in
    let same : suc (height_of levels r - 1) ≡ height_of levels r = omega arith in
    ap (node_of levels) same ∙ k.back

module _ (levels : List Level) (s : Substitution) where
  -- items by heights, as they are bound
  abbrev pub high : List BranchItem → List (Item ℕ)
  high items = map (renamed_item (height_of levels) (λ r. height_of levels r - 1)) (map (resolve_item s) (items_meant items))

  -- and by nodes again
  abbrev pub back : List (Item ℕ) → List (Item ℕ)
  back items = map (renamed_item (node_of levels) (λ h. node_of levels (suc h))) items

  pub round : (items : List BranchItem) → Each (NamesLevels levels) (items_meant items) → back (high items) ≡ map (resolve_item s) (items_meant items)
  round [] on = refl
  round (Goal term cut ∷ items) on = ap₂ (λ m is. GoalItem (resolve s term) m ∷ is) (node_height levels _ on.0) (round items on.1)
  round (CatchEnd scope ∷ items) on = ap₂ (λ m is. CatchMark m ∷ is) (mark_height levels _ on.0) (round items on.1)
  round (Collect template scope ∷ items) on = ap₂ (λ m is. CollectMark (resolve s template) m ∷ is) (mark_height levels _ on.0) (round items on.1)
  round (Remove id ∷ items) on = ap (λ is. RemovalItem id.0 ∷ is) (round items on.1)
  round (End ball ∷ items) on = round items on

  -- behind the first item are the others, and they name nodes of the branch
  pub behind : (next : ℕ) (items : List BranchItem) → list_all (is_item_settled next) items ≡ true → drop 1 (without_marks (high items)) ≡ high (items_behind items)
  behind next [] settled = refl
  behind next (Goal term cut ∷ items) settled = refl
  behind next (CatchEnd scope ∷ items) settled = behind next items settled
  behind next (Collect template scope ∷ items) settled = refl
  behind next (Remove id ∷ items) settled = refl
  behind next (End ball ∷ items) settled = absurd cc

pub names_left : (levels : List Level) (items : List BranchItem) → Each (NamesLevels levels) (items_meant items) → Each (NamesLevels levels) (items_meant (items_behind items))
names_left levels [] on = on
names_left levels (Goal term cut ∷ items) on = on.1
names_left levels (CatchEnd scope ∷ items) on = names_left levels items on.1
names_left levels (Collect template scope ∷ items) on = on.1
names_left levels (Remove id ∷ items) on = on.1
names_left levels (End ball ∷ items) on = on

module _ (job : Job) (body : Body) (s : Spot) (way : Branching) (h : IsPlainOn job s way) (rb : IsRestBody (items_behind (items_on way)) (next_number (segments_on way)) body) where
  abbrev pub levels : List Level
  levels = levels_of s

  abbrev pub bound : Substitution
  bound = or_nothing (bound_by (segments_on way))

  abbrev pub here : Continuation ℕ
  here = bound_continuation job way

  abbrev pub above : Continuation ℕ
  above = renamed_continuation (height_of levels) (λ r. height_of levels r - 1) here

  entry_is : s.entry ≡ PlainEntry here
  entry_is = h.plain.1 ∙ ap PlainEntry (sym (plain_reading job way h.plain.0 h.settled (sym h.reads ∙ h.plain.1)))

  pub stack_is : spot_stack s ≡ PlainEntry above ∷ floor_of levels
  stack_is = ap (λ e. with_heights levels e ∷ floor_of levels) entry_is

  abbrev pub left : Continuation ℕ
  left = with_items (high levels bound (items_behind (items_on way))) above

  abbrev made : Body
  made = record { segment = quiet_segment (next_number (segments_on way)); branches = record { goals = items_behind (items_on way); segment = quiet_segment (next_number (segments_on way)) } ∷ []; kind = ChoiceBody }

  body_is : body ≡ made
  body_is = ap₂ (λ sg bs. (let b : Body = record { segment = sg; branches = bs; kind = body.kind } in b)) rb.segment rb.branches ∙ ap (λ k. record made { kind = k }) rb.kind

  reads : reading job ((body, 0) ∷ way) ≡ with_nodes (node_of levels) (PlainEntry left)
  reads =
      rest_bodies_read job way bound body h.settled (bound_there way h.settled) rb
      ∙ ap (λ is. PlainEntry (with_items is here)) (sym (round levels bound (items_behind (items_on way)) (names_left levels (items_on way) h.scoped)))

  pub node : (m : ℕ) → new_node (reading job) way m body ≡ single m (with_nodes (node_of levels) (PlainEntry left))
  node m = ap (new_node (reading job) way m) body_is ∙ ap (single m) (ap (λ b. reading job ((b, 0) ∷ way)) (sym body_is) ∙ reads)
