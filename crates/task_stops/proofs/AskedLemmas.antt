-- The catch beside a place, asked in a region with what is bound there.
use Rattle.std.proofs.Common.{◌≡◌, ℕ, ◌<◌, ◌≤◌, ◌==◌, ◌&&◌, true, List, [], ◌∷◌, length, slice_get, Option, Some, None, sym, ap, ap₂, ◌∙◌, arith}
use Rattle.std.specs.List.{list_all}
use Rattle.std.specs.Option.{option_map}
use Rattle.au_term.proofs.LogicLemmas.{and-left, and-right, both, le_by}
use Rattle.au_term.specs.Term.{Term, var_bound}
use Rattle.au_term.specs.declared.segment.Segment.{Segment}
use Rattle.au_model.proofs.ApplyLemmas.{apply-same}
use Rattle.au_model.specs.Terms.Copies.{copied}
use Rattle.au_model.specs.Terms.Substitutions.{value_of}
use Rattle.au_model.specs.Terms.Unifier.{unifier}
use Rattle.clause_compile.specs.declared.event.Branch.{Branch}
use Rattle.clause_compile.specs.declared.item.Item.{Item as BranchItem}
use Rattle.clause_compile.specs.declared.item.Item.TheVariants.{Goal}
use Rattle.clause_compile.specs.declared.item.Scope.TheVariants.{Node}
use Rattle.run_model.specs.Programs.Bodies.{call_of}
use Rattle.region_split.specs.Regions.{RegionView}
use Rattle.region_split.specs.Texts.{TextView}
use Rattle.tree_model.specs.Levels.{Place}
use Rattle.tree_nodes.specs.Bodies.{Body, BodyKind, ChoiceBody, CatchBody, Branching}
use Rattle.tree_nodes.specs.Rows.{StoredNode, Rows, alternatives_at, row_of_node}
use Rattle.tree_nodes.specs.TreeTables.{stored_body}
use Rattle.tree_closing.specs.Sleeping.{right_of}
use Rattle.branch_reading.specs.BranchSegments.{bound_by, next_number, segments_on}
use Rattle.branch_reading.specs.SettledWays.{is_branch_settled, is_guard_settled, is_item_settled, is_term_below, is_way_settled, items_on}
use Rattle.task_region.specs.PlacesUp.{missing_body, body_at}
use Rattle.task_region.specs.TaskLoads.{IsBoundOver}
use Rattle.task_stops.proofs.WokenLemmas.{second_within}
use Rattle.task_stops.specs.Landings.{IsReadableBeside, PassesOn, bound_on, is_beside_sleeper, taken_on, way_beside}
use Rattle.task_stops.specs.LandingBodies.{IsRecoveryBody, body_with, node_above}
use Rattle.task_stops.specs.TakenBalls.{LeadsToTaken, taken_over}
use Rattle.task_region.proofs.BranchLoadLemmas.{or_nothing_same}

pub stored_is : (o : Option StoredNode) (b : Body) → option_map (λ (r : StoredNode). r.body) o ≡ Some b → stored_body missing_body o ≡ b
stored_is None b e = absurd (cc e)
stored_is (Some r) b e = cc e

module _ (rows : Rows) (p : Place) (above : List Place) (body : Body) (catcher recovery : Term) (row : option_map (λ (r : StoredNode). r.body) (row_of_node rows p.node) ≡ Some body)
    (kind : body.kind ≡ CatchBody catcher recovery) (asleep : is_beside_sleeper rows p ≡ true) (readable : IsReadableBeside rows p above)
    (text : TextView) (region : RegionView) (bound : IsBoundOver rows (right_of p ∷ above) text region) where
  abbrev way : Branching
  way = way_beside rows p above

  body_is : body_at rows p ≡ body
  body_is = stored_is (row_of_node rows p.node) body row

  kind_there : (body_at rows p).kind ≡ CatchBody catcher recovery
  kind_there = ap (λ (b : Body). b.kind) body_is ∙ kind

  settled : is_way_settled way ≡ true
  settled = readable catcher recovery asleep kind_there

  next_is : region.store.now.next ≡ next_number (segments_on way)
  next_is = bound.bound.next

  guard : (is_term_below (next_number (segments_on way)) catcher && is_term_below (next_number (segments_on way)) recovery) ≡ true
  guard =
      ap (is_guard_settled (next_number (segments_on way))) (sym kind_there)
      ∙ and-right (list_all (is_item_settled (next_number (segments_on way))) (items_on way)) (is_guard_settled (next_number (segments_on way)) (body_at rows p).kind)
      (and-right _ (is_branch_settled (next_number (segments_on way)) (body_at rows p).kind 1 (items_on way)) settled)

  pub catcher_below : var_bound catcher ≤ region.store.now.next
  catcher_below =
      let a = le_by (var_bound catcher) (next_number (segments_on way)) (and-left (is_term_below (next_number (segments_on way)) catcher) _ guard) in
      let b = next_is in
      omega (arith, a, b)

  value_is : (n : ℕ) → value_of (bound_on way) n ≡ value_of region.store.now.bound n
  value_is = or_nothing_same (bound_by (segments_on way)) region.store.now.bound bound.bound.bound

  asked_alike : (ball : Term) → taken_on way catcher ball ≡ taken_over region.store.now catcher ball
  asked_alike ball =
      ap₂ (λ t n. unifier ((t, copied ball n) ∷ [])) (apply-same (value_of (bound_on way)) (value_of region.store.now.bound) value_is catcher) (sym next_is)

  pub passes_on : (ball : Term) → taken_over region.store.now catcher ball ≡ None → PassesOn rows p above ball
  passes_on ball none c r also is =
      let same : CatchBody c r ≡ CatchBody catcher recovery = sym is ∙ kind_there in
      let catcher_same : c ≡ catcher = cc same in
      ap (λ t. taken_on way t ball) catcher_same ∙ (asked_alike ball ∙ none)

  pub recovers : (ball : Term) (second : Branch) (segment : Segment) (made : Body) → slice_get body.branches 1 ≡ Some second → LeadsToTaken region.store.now catcher ball segment
      → made ≡ body_with segment.base segment (Goal (call_of recovery) (Node (node_above above)) ∷ second.goals) → IsRecoveryBody rows p above ball made
  recovers ball second segment made there l is = record {
    catcher = catcher;
    recovery = recovery;
    kind = kind_there;
    second = second;
    there = ap (λ (b : Body). slice_get b.branches 1) body_is ∙ there;
    unifier = l.unifier;
    takes = asked_alike ball ∙ l.takes;
    before = region.store.now.bound;
    same = bound.bound.bound;
    after = l.after;
    composed = l.composed;
    segment = segment;
    leads = record { numbers = let a = l.leads.numbers in let b = next_is in omega (arith, a, b); extends = l.leads.extends };
    numbers = let a = l.numbers in let b = next_is in omega (arith, a, b);
    made = is ∙ ap (λ n. body_with n segment (Goal (call_of recovery) (Node (node_above above)) ∷ second.goals)) (l.base ∙ next_is);
  }

-- the branch of what sleeps is there
pub second_there : (rows : Rows) (p : Place) (branches : List Branch) → is_beside_sleeper rows p ≡ true → length (alternatives_at (row_of_node rows p.node)) ≤ length branches
    → 1 < length branches
second_there rows p branches asleep many =
    let least = second_within (alternatives_at (row_of_node rows p.node)) (both (p.index == 0) _ asleep).1 in omega (arith, least, many)

-- a body of one branch
abbrev made_of : Segment → List Branch → BodyKind → Body
made_of s bs k = record { segment = s; branches = bs; kind = k }

pub made_with : (base : ℕ) (segment : Segment) (goals : List BranchItem) (made : Body) → made.kind ≡ ChoiceBody → made.branches ≡ record { goals = goals; segment = segment } ∷ []
    → made.segment ≡ record { base = base; vars = 0; bindings = [] } → made ≡ body_with base segment goals
made_with base segment goals made k b s = ap (λ g. made_of g made.branches made.kind) s ∙ ap₂ (made_of (record { base = base; vars = 0; bindings = [] })) b k
