-- What the branch of an alternative that was taken off a region means.
use Rattle.std.proofs.Common.{◌≡◌, ℕ, ◌≤◌, ◌==◌, true, cond, List, length, slice_get, Some, sym, ap, ◌∙◌, subst, arith}
use Rattle.std.specs.List.{list_all}
use Rattle.std.proofs.lemmas.Option.{slice_get_within}
use Rattle.au_model.specs.Terms.Each.{Each}
use Rattle.au_model.specs.Terms.Substitutions.{Substitution}
use Rattle.au_term.specs.declared.segment.Binding.{Binding}
use Rattle.branch_bindings.specs.Extensions.{ExtendsBy}
use Rattle.run_model.specs.Machine.Entries.{Entry}
use Rattle.run_model.specs.Machine.Items.{Item, resolve_continuation}
use Rattle.clause_compile.specs.declared.event.Branch.{Branch}
use Rattle.clause_compile.specs.declared.item.Item.{Item as BranchItem}
use Rattle.tree_nodes.specs.Bodies.{BodyKind}
use Rattle.branch_reading.specs.Readings.{items_meant, entry_beside}
use Rattle.branch_reading.specs.SettledWays.{is_item_settled, is_guard_settled}
use Rattle.branch_shapes.specs.ChoiceScopes.{choice_scope}
use Rattle.branch_shapes.specs.ExtendedWays.{number_after}
use Rattle.branch_shapes.specs.FloorItems.{NamesLevels}
use Rattle.branch_shapes.specs.MeantBranches.{Placement, continuation_in, GoalsMean}
use Rattle.region_capture.specs.CapturedItems.{ItemLists}
use Rattle.region_capture.specs.CapturedMeanings.{captured_bindings, MeantAlternative, MeansAlternative}
use Rattle.region_capture.specs.declared.captured.CapturedAlternative.{CapturedAlternative}
use Rattle.region_capture.specs.declared.captured.CapturedKind.{CapturedKind}
use Rattle.task_publishing.specs.BranchGoals.{branch_goals, AreGoalsOf}
use Rattle.task_publishing.specs.MadeBodies.{IsBranchOf}
use Rattle.task_publishing.specs.PublishedRuns.{items_left, published_continuation, CanBeBranch}
use Rattle.au_term.proofs.LogicLemmas.{and-both}
use Rattle.task_publishing.proofs.GoalLemmas.{goals_meant, goals_settled, joined_over}

-- goals for the numbers of items, wherever they are put
pub record GoalsAre (p : Placement) (deferred : List BranchItem) (base : ℕ) (lists : ItemLists) (goals : List (List BranchItem)) : Type 0 where
  pub scope : ℕ → ℕ
  pub scoped : (n : ℕ) → scope n ≡ choice_scope p.number p.levels p.groups n
  pub names : Each (NamesLevels p.levels) (items_meant deferred)
  pub settled : list_all (is_item_settled base) deferred ≡ true
  pub many : length goals ≡ length lists
  pub are : AreGoalsOf lists scope deferred goals

module _ (p : Placement) (deferred : List BranchItem) (base : ℕ) (lists : ItemLists) (goals : List (List BranchItem))
    (g : GoalsAre p deferred base lists goals) where
  own_goals : (n : ℕ) (a : CapturedAlternative) (b : Branch) (xs : List (Item ℕ)) → IsBranchOf goals n a b → slice_get lists a.first ≡ Some xs
      → b.goals ≡ branch_goals g.scope deferred xs
  own_goals n a b xs i h = i.own (branch_goals g.scope deferred xs) (g.are.each a.first xs
      (let w = slice_get_within lists a.first xs h in let m = g.many in omega (arith, w, m)) h)

  pub branch_means : (before : Substitution) (n cut : ℕ) (a : CapturedAlternative) (m : MeantAlternative) (b : Branch) (kind : BodyKind) (i : ℕ)
      (own : CapturedKind) (e : Entry)
      → base ≤ n → IsBranchOf goals n a b → MeansAlternative lists before n cut a m → CanBeBranch p own m
      → cond (i == 1) (is_guard_settled m.next kind) true ≡ true
      → e ≡ entry_beside kind i m.bound (published_continuation p deferred m) → GoalsMean p before n kind i b e
  branch_means before n cut a m b kind i own e from k h can guard is =
      let end : number_after b.segment ≡ m.next = let f = k.from in let v = k.variables in let q = h.next in let o = h.more in omega
      (arith, f, v, q, o) in
      let last : number_after b.segment ≡ a.next = end ∙ h.next in
      let mine = own_goals n a b m.items k h.items in
      record {
        now = m.bound;
        items = items_left p deferred m;
        leads = record {
          numbers = let o = h.more in omega (arith, last, o);
          extends = subst (λ x. ExtendsBy before m.bound x (captured_bindings b.segment.bindings)) (sym last)
              (subst (λ (bs : List Binding). ExtendsBy before m.bound a.next (captured_bindings bs)) (sym k.bindings) h.extends);
        };
        below = and-both (list_all (is_item_settled (number_after b.segment)) b.goals)
            (cond (i == 1) (is_guard_settled (number_after b.segment) kind) true)
            (subst (λ x. list_all (is_item_settled x) b.goals ≡ true) (sym last)
            (subst (λ (xs : List BranchItem). list_all (is_item_settled a.next) xs ≡ true) (sym mine)
            (goals_settled p deferred base g.scope g.scoped g.names g.settled a.next cut m.items (let o = h.more in omega (arith, from, o)) h.over)))
            (subst (λ x. cond (i == 1) (is_guard_settled x kind) true ≡ true) (sym end) guard);
        over = joined_over p deferred base g.scope g.scoped g.names g.settled m.items can.over;
        goals = ap items_meant mine ∙ goals_meant p deferred base g.scope g.scoped g.names g.settled m.items can.last;
        means = is ∙ ap (λ x. entry_beside kind i m.bound (resolve_continuation m.bound (continuation_in p x (items_left p deferred m)))) (sym end);
      }
