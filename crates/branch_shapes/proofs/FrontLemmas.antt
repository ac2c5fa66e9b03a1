-- What an item at the front leaves that holds once.
use Rattle.std.proofs.Common.{◌≡◌, ℕ, suc, ◌-◌, Bool, true, false, cond, List, [], ◌∷◌, ◌++◌, ◌+◌, map, length, Option, Some, None, refl, sym, ap, ap₂, ◌∙◌, subst, arith}
use Rattle.std.specs.Prelude.{nat_le, nat_lt}
use Rattle.std.specs.List.{list_all}
use Rattle.au_term.specs.Term.{Term}
use Rattle.au_model.specs.Terms.Each.{Each}
use Rattle.au_model.specs.Terms.Named.{NamedTerm}
use Rattle.au_model.proofs.EquationsInTurnLemmas.{resolve-nothing}
use Rattle.au_model.proofs.UnifierLemmas.{unifier_goes}
use Rattle.au_model.specs.Terms.Substitutions.{Substitution, resolve}
use Rattle.clause_compile.specs.declared.item.Item.{Item as BranchItem}
use Rattle.clause_compile.specs.declared.item.Item.TheVariants.{Goal, CatchEnd, Collect, Remove, End}
use Rattle.run_model.specs.Programs.Clauses.{Clause}
use Rattle.run_model.specs.Programs.Jobs.{Job}
use Rattle.run_model.specs.Goals.Outcomes.{Solutions, Ball, HaltNumber, GoesOnWith, EitherOf, TestOf, CutToScope, CatchOf, FindallOf, Outcome, Replies, Controls, AskWorld}
use Rattle.run_model.specs.Goals.GoalOutcomes.{outcome_of}
use Rattle.run_model.specs.Machine.Balls.{unwound}
use Rattle.run_model.specs.Machine.Entries.{Entry, PlainEntry, CatchEntry, FindallEntry, EndEntry, lowest, unified}
use Rattle.run_model.specs.Machine.Items.{Item, GoalItem, CatchMark, CollectMark, RemovalItem, Continuation, resolve_item, resolve_named, with_items, without_marks}
use Rattle.tree_model.specs.Effects.{or_none, spot_stack}
use Rattle.tree_model.specs.Floors.{floor_of, height_of, node_of, renamed_continuation, renamed_item, with_heights, with_nodes}
use Rattle.tree_model.specs.FrontGates.{Continues}
use Rattle.tree_model.specs.Gates.{ball_gate, gate_on, goal_gate, item_gate}
use Rattle.tree_model.specs.Legality.{gate_of, taken_at}
use Rattle.tree_model.specs.Levels.{Level, Place, Spot, levels_of}
use Rattle.tree_model.specs.Nodes.{Gate, BallGate, CutGate, WorldGate, single}
use Rattle.tree_model.specs.PendingLists.{way_of}
use Rattle.tree_model.specs.Ways.{is_on}
use Rattle.tree_model.specs.PrivateRuns.{goal_alone, item_alone, taken_alone}
use Rattle.tree_model.specs.TreeStates.{TreeState}
use Rattle.tree_nodes.specs.Bodies.{Body, ChoiceBody, Branching, new_node}
use Rattle.tree_nodes.specs.Rows.{Rows}
use Rattle.tree_nodes.specs.TreeTables.{IsWayTo}
use Rattle.branch_reading.specs.BranchSegments.{bound_by, next_number, segments_on}
use Rattle.branch_reading.specs.Readings.{continuation_on, items_meant, or_nothing, reading}
use Rattle.branch_reading.specs.SettledWays.{is_item_settled, is_way_settled, items_on}
use Rattle.branch_shapes.specs.FloorItems.{NamesLevels}
use Rattle.branch_shapes.proofs.FloorItemLemmas.{has_height}
use Rattle.public_tree.specs.Answering.{ReadsAsLeft, taken_as}
use Rattle.branch_shapes.specs.FrontReadings.{FrontsAreRead, HoldsAtFront, OnceLeaves, behind_first}
use Rattle.branch_shapes.specs.RestBodies.{IsRestBody, items_behind, quiet_segment, rest_continuation}
use Rattle.branch_shapes.proofs.PlainItemLemmas.{above, behind, bound, left, node, stack_is}
use Rattle.branch_shapes.proofs.RestReadingLemmas.{items_settled}

module _ (job : Job) (body : Body) (t : TreeState) (s : Spot) (way : Branching) (h : HoldsAtFront job t s way) (rb : IsRestBody (items_behind (items_on way)) (next_number (segments_on way)) body) where
  abbrev levels : List Level
  levels = levels_of s

  abbrev f : Continuation ℕ
  f = above job body s way h.on rb

  goes_on : taken_as t s ≡ Continues (PlainEntry (left job body s way h.on rb) ∷ [])
  goes_on =
      h.leaves f (stack_is job body s way h.on rb)
      ∙ ap (λ is. Continues (PlainEntry (with_items is f) ∷ [])) (behind levels (bound job body s way h.on rb) (next_number (segments_on way)) (items_on way) (items_settled way h.on.settled))

  pub reads_as_left : ReadsAsLeft (reading job) way body levels (taken_as t s)
  reads_as_left = record { entry = PlainEntry (left job body s way h.on rb); under = []; goes_on = goes_on; node = node job body s way h.on rb }

pub fronts_are_read : FrontsAreRead
fronts_are_read job rows body w a t at there s taken =
    let found = there s taken in
    ((at s found.0 taken found.1).0.gate, λ way path. let k = at s way taken path in reads_as_left job body t s way k.0 k.1)

-- with nothing bound what follows is as it was
items_same : (items : List (Item ℕ)) → map (resolve_item []) items ≡ items
items_same [] = refl
items_same (GoalItem t h ∷ items) = ap₂ (λ u is. GoalItem u h ∷ is) (resolve-nothing t) (items_same items)
items_same (CatchMark h ∷ items) = ap (λ is. CatchMark h ∷ is) (items_same items)
items_same (CollectMark t h ∷ items) = ap₂ (λ u is. CollectMark u h ∷ is) (resolve-nothing t) (items_same items)
items_same (RemovalItem number ∷ items) = ap (λ is. RemovalItem number ∷ is) (items_same items)

named_same : (named : List NamedTerm) → map (resolve_named []) named ≡ named
named_same [] = refl
named_same (v ∷ named) = ap₂ (λ t vs. record v { term = t } ∷ vs) (resolve-nothing v.term) (named_same named)

pub once_leaves : OnceLeaves
once_leaves f es =
    let next : f.next + 0 ≡ f.next = omega arith in
    let whole : Continuation ℕ → List Entry = λ g. PlainEntry g ∷ [] in
    let after : Continuation ℕ = record { items = f.items; named = f.named; next = f.next + 0 } in
    ap (λ u. Continues (unified u after ++ [])) unifier_goes.none_left
    ∙ ap Continues (ap₂ (λ is vs. whole (record { items = is; named = vs; next = f.next + 0 })) (items_same f.items) (named_same f.named) ∙ ap (λ n. whole (record { items = f.items; named = f.named; next = n })) next)
