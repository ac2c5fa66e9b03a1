-- The names of an alternative's query, by how many were opened on the way up from it.
use Rattle.std.proofs.Common.{◌≡◌, ℕ, suc, ◌+◌, ◌<◌, true, List, [], ◌∷◌, map, drop, length, get_or, add-one, Option, Some, None, refl, sym, ap, ◌∙◌, subst, arith}
use Rattle.std.proofs.Math.Seq.{drop-cons}
use Rattle.std.specs.Option.{option_map}
use Rattle.std.specs.Prelude.{IsSome, is_some, slice_get}
use Rattle.au_model.specs.Terms.Named.{variable_meant}
use Rattle.au_model.specs.declared.types.VarName.{VarName}
use Rattle.task_region.specs.PlacesUp.{AreAllUp, PlacesAreLevels, body_at, branching_at, missing_body}
use Rattle.branch_reading.specs.Readings.{named_of, own_query, queries_on, query_count, query_on, reading}
use Rattle.task_region.proofs.AtPlaceLemmas.{row_there}
use Rattle.branch_shapes.proofs.OutLemmas.{out_at, spot_out}
use Rattle.run_model.specs.Programs.Jobs.{Job, Query, own_terms}
use Rattle.scheduler.specs.QueryNames.{AreOpenedOn, last_opened}
use Rattle.task_world.specs.FrontsTold.{AreItsNames}
use Rattle.tree_core.specs.Histories.{TreeView, NodesStand, state_of}
use Rattle.tree_model.specs.EventViews.{place_view}
use Rattle.tree_model.specs.Legality.{taken_at}
use Rattle.tree_model.specs.Levels.{Place}
use Rattle.tree_model.specs.Nodes.{Pending}
use Rattle.tree_model.specs.declared.places.AltRef.{AltRef}
use Rattle.tree_nodes.specs.Bodies.{Body, Branching, BodyKind, ChoiceBody, ConditionBody, CatchBody, FindallBody, QueryBody}
use Rattle.tree_nodes.specs.Rows.{StoredNode, Rows, row_of_node}
use Rattle.tree_nodes.specs.TreeTables.{stored_body}

-- the body of a node that is there
pub stored : (o : Option StoredNode) (body : Body) → option_map (λ (r : StoredNode). r.body) o ≡ Some body → stored_body missing_body o ≡ body
stored None body e = absurd cc
stored (Some r) body e = cc

-- by indexes
module _ (rows : Rows) (xs : List AltRef) (i : ℕ) (d : AltRef) (within : i < length xs) (count : ℕ)
    (counted : queries_on (branching_at rows (map place_view xs)) ≡ count + queries_on (branching_at rows (map place_view (drop i xs)))) where
  pub one_more : queries_on (branching_at rows (map place_view xs))
      ≡ count + query_count (body_at rows (place_view (get_or xs i d))).kind + queries_on (branching_at rows (map place_view (drop (i + 1) xs)))
  one_more =
      let from_here = ap (λ ys. queries_on (branching_at rows (map place_view ys))) (drop-cons xs i d within) in
      let next = ap (λ n. queries_on (branching_at rows (map place_view (drop n xs)))) (add-one i) in
      omega (arith, counted, from_here, next)

-- the query of a branch is the last of those that were opened on it
by_kind : (kind : BodyKind) (queries : List Query) (n : ℕ) (above : Option Query) → above ≡ last_opened n queries
    → own_query kind (slice_get queries n) above ≡ last_opened (query_count kind + n) queries
by_kind ChoiceBody queries n above e = e ∙ ap (λ m. last_opened m queries) (let z : n ≡ 0 + n = omega arith in z)
by_kind ConditionBody queries n above e = e ∙ ap (λ m. last_opened m queries) (let z : n ≡ 0 + n = omega arith in z)
by_kind (CatchBody catcher recovery) queries n above e = e ∙ ap (λ m. last_opened m queries) (let z : n ≡ 0 + n = omega arith in z)
by_kind (FindallBody results list) queries n above e = e ∙ ap (λ m. last_opened m queries) (let z : n ≡ 0 + n = omega arith in z)
by_kind QueryBody queries n above e = ap (λ m. last_opened m queries) (let z : suc n ≡ 1 + n = omega arith in z)

last_on : (job : Job) (way : Branching) → query_on job way ≡ last_opened (queries_on way) job.queries
last_on job [] = refl
last_on job ((b, i) ∷ way) = by_kind b.kind job.queries (queries_on way) (query_on job way) (last_on job way)

pub its_names : (v : TreeView) (w : ℕ) (a : Place) (names : List VarName) (queries : List Query) (count : ℕ) → NodesStand v → PlacesAreLevels
    → AreOpenedOn v.nodes.rows a count → queries ≡ v.history.job.queries → own_terms (map variable_meant names) ≡ named_of (last_opened count queries)
    → AreItsNames v.history.job v.nodes.rows names w a (state_of v.history)
its_names v w a names queries count stand law opened same are s way taken path =
    let job = v.history.job in
    let there = out_at job v.nodes (state_of v.history) w a s stand.placed taken in
    let up = subst (λ (p : Place). AreAllUp v.nodes.rows p opened.places) (sym there.at) opened.up in
    let levels = law v.nodes (reading job) s.level s.above (Pending s.hold s.entry) way opened.places there.table path up in
    are
    ∙ ap (λ qs. named_of (last_opened count qs)) same
    ∙ ap (λ n. named_of (last_opened n job.queries)) (opened.count_is ∙ ap queries_on levels.way_is)
    ∙ ap named_of (sym (last_on job way))

-- the node of an alternative that is out is there
pub row_out : (v : TreeView) (w : ℕ) (a : Place) → NodesStand v → is_some (taken_at w a (state_of v.history)) ≡ true → IsSome (row_of_node v.nodes.rows a.node)
row_out v w a stand out =
    let s = spot_out (taken_at w a (state_of v.history)) out in
    let there = out_at v.history.job v.nodes (state_of v.history) w a s.0 stand.placed s.1 in
    subst (λ (p : Place). IsSome (row_of_node v.nodes.rows p.node)) there.at (row_there v.nodes.rows s.0.level s.0.above there.way there.on)
