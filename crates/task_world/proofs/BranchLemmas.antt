-- The goals and the next number of an alternative are those on the way to it.
use Rattle.std.proofs.Common.{◌≡◌, ℕ, zero, suc, ◌+◌, ◌<◌, true, get_or, IfOk, Result, Ok, Err, List, [], ◌∷◌, ◌++◌, length, slice_get, Option, Some, None, sym, ap, ◌∙◌, refl, subst, arith}
use Rattle.std.specs.Prelude.{is_some}
use Rattle.std.specs.Option.{option_map}
use Rattle.clause_compile.specs.declared.event.Branch.{Branch}
use Rattle.tree_model.specs.Levels.{Level, Place, place_at}
use Rattle.tree_nodes.specs.Bodies.{Body, Branching}
use Rattle.tree_nodes.specs.Rows.{StoredNode, Rows, row_of_node}
use Rattle.tree_nodes.specs.TreeTables.{NodesView, IsWayTo}
use Rattle.branch_reading.specs.BranchSegments.{above_in_query, own_segments, segments_on, next_number}
use Rattle.branch_reading.specs.SettledWays.{branch_items, items_on}
use Rattle.branch_shapes.specs.RestBodies.{IsRestBody, items_behind}
use Rattle.task_world.specs.FrontSteps.{LeavesBehind}

module _ (rows : Rows) (v : Level) (up : List Level) (way : Branching) (body : Body) (on : IsWayTo rows (v ∷ up) way) (l : LeavesBehind rows (place_at v) body) where
  same_body : on.0.body ≡ l.row.body
  same_body = let both_rows : Some on.0 ≡ Some l.row = sym on.1.1.0 ∙ l.is in let same : on.0 ≡ l.row = cc in ap (λ (r : StoredNode). r.body) same

  here : slice_get on.0.body.branches (length v.left) ≡ Some l.branch
  here = ap (λ (x : Body). slice_get x.branches (length v.left)) same_body ∙ l.there

  goals_on : l.branch.goals ≡ items_on way
  goals_on = sym (ap (λ (w : Branching). items_on w) on.1.1.1 ∙ ap branch_items here)

  base_on : l.branch.segment.base + l.branch.segment.vars ≡ next_number (segments_on way)
  base_on =
      sym (ap (λ (w : Branching). next_number (segments_on w)) on.1.1.1
      ∙ ap (λ o. next_number (own_segments o ++ on.0.body.segment ∷ above_in_query on.0.body.kind (segments_on on.1.0))) here)

  rest_here : IsRestBody (items_behind (items_on way)) (next_number (segments_on way)) body
  rest_here =
      subst (λ n. IsRestBody (items_behind (items_on way)) n body) base_on
      (subst (λ is. IsRestBody (items_behind is) (l.branch.segment.base + l.branch.segment.vars) body) goals_on l.rest)

-- so a body of what is left is one of what is left on the way
pub rest_on : (rows : Rows) (v : Level) (up : List Level) (way : Branching) (a : Place) (body : Body) → place_at v ≡ a → IsWayTo rows (v ∷ up) way
    → LeavesBehind rows a body → IsRestBody (items_behind (items_on way)) (next_number (segments_on way)) body
rest_on rows v up way a body at on l = rest_here rows v up way body on (subst (λ p. LeavesBehind rows p body) (sym at) l)

-- an alternative that is there has a branch
pub within : {X : Type 0} (xs : List X) (i : ℕ) → is_some (slice_get xs i) ≡ true → i < length xs
within [] i h = absurd (cc h)
within (x ∷ xs) zero h = omega arith
within (x ∷ xs) (suc i) h = let l = within xs i h in omega (arith, l)

-- a body of what is left there
pub left_behind : (nodes : NodesView) (a : Place) (at : Body) (branch : Branch) (body : Body) → option_map (λ (r : StoredNode). r.body) (row_of_node nodes.rows a.node) ≡ Some at
    → slice_get at.branches a.index ≡ Some branch → IsRestBody (items_behind branch.goals) (branch.segment.base + branch.segment.vars) body → LeavesBehind nodes.rows a body
left_behind nodes a at branch body is there rest = by_row (row_of_node nodes.rows a.node) refl
  where
    by_row : (o : Option StoredNode) → row_of_node nodes.rows a.node ≡ o → LeavesBehind nodes.rows a body
    by_row None e = let wrong : None ≡ Some at = sym (ap (option_map (λ (r : StoredNode). r.body)) e) ∙ is in absurd cc
    by_row (Some r) e =
        let same : Some r.body ≡ Some at = sym (ap (option_map (λ (r : StoredNode). r.body)) e) ∙ is in
        let body_is : r.body ≡ at = cc in
        record { row = r; is = e; branch = branch; there = ap (λ (b : Body). slice_get b.branches a.index) body_is ∙ there; rest = rest }

-- what is there has its place
pub got_or : {X : Type 0} (xs : List X) (i : ℕ) (x d : X) → i < length xs → x ≡ get_or xs i d → slice_get xs i ≡ Some x
got_or [] i x d lt e = absurd (omega (arith, lt))
got_or (y ∷ xs) zero x d lt e = ap (λ z. Some z) (sym e)
got_or (y ∷ xs) (suc i) x d lt e = got_or xs i x d (omega (arith, lt)) e

pub if_ok : {A E : Type 0} (r : Result A E) (P Q : A → Type 0) → IfOk r P → ((a : A) → P a → Q a) → IfOk r Q
if_ok (Ok a) P Q h f = f a h
if_ok (Err e) P Q h f = tt
