-- What is made of a region that was taken off means its run.
use Rattle.std.proofs.Common.{◌≡◌, ℕ, ◌+◌, ◌≤◌, List, [], ◌∷◌, ◌++◌, length, map, reverse, refl, sym, ap, ◌∙◌, subst, arith}
use Rattle.std.proofs.lemmas.List.{map-append}
use Rattle.au_model.specs.Terms.Each.{Each}
use Rattle.au_model.proofs.EachLemmas.{each-append}
use Rattle.au_term.specs.declared.segment.Binding.{Binding}
use Rattle.branch_bindings.specs.Extensions.{ExtendsBy}
use Rattle.branch_bindings.proofs.ExtensionLemmas.{extensions_compose}
use Rattle.run_model.specs.Machine.Entries.{Entry}
use Rattle.clause_compile.specs.declared.item.Item.{Item as BranchItem}
use Rattle.tree_nodes.specs.Bodies.{BodyKind, Body}
use Rattle.branch_shapes.specs.ChoiceScopes.{choice_scope}
use Rattle.branch_shapes.specs.Groups.{or_alone, node_groups}
use Rattle.branch_shapes.specs.ShownBodies.{AllShow}
use Rattle.branch_shapes.specs.MeantBranches.{Placement, floor_in, GoalsMean, BranchMeans}
use Rattle.branch_shapes.specs.MeantRuns.{MeanRun}
use Rattle.region_capture.specs.CapturedItems.{ItemLists}
use Rattle.region_capture.specs.CapturedMeanings.{captured_bindings, MeantAlternative, MeansAlternative}
use Rattle.region_capture.specs.CapturedChoices.{BoundThen, MeantChoice, bound_under}
use Rattle.region_capture.specs.declared.captured.Captured.{Captured}
use Rattle.region_capture.specs.declared.captured.CapturedAlternative.{CapturedAlternative}
use Rattle.region_capture.specs.declared.captured.CapturedChoice.{CapturedChoice}
use Rattle.region_capture.specs.declared.captured.CapturedKind.TheVariants.{Choice}
use Rattle.task_publishing.specs.declared.steps.LiveChoice.{LiveChoice}
use Rattle.task_publishing.specs.declared.steps.LiveChoices.{LiveChoices}
use Rattle.task_publishing.specs.KeptScopes.{AreScopesOf, AreGroupsOf, scope_at}
use Rattle.task_publishing.specs.BranchGoals.{AreGoalsOf}
use Rattle.task_publishing.specs.LiveChoices.{ChoicesMean, MeanLive, LiveMean, IsBoundAtStart, AreLive, live_meant, live_before}
use Rattle.task_publishing.specs.MadeBodies.{IsBranchOf, MakeBodies}
use Rattle.task_publishing.specs.PublishedRuns.{IsDeferredAt, IsTakenOff, published_entry, published_group}
use Rattle.task_publishing.proofs.ScopeLemmas.{scope_is}
use Rattle.task_publishing.proofs.BranchMeaningLemmas.{GoalsAre, branch_means}
use Rattle.task_publishing.proofs.ChainLemmas.{CanBeBody}
use Rattle.task_publishing.proofs.WholeLemmas.{reverse-cons, oldest_first, groups_are, live_groups}
use Rattle.task_publishing.proofs.AllLemmas.{all_show}

pub each_turned : {X : Type 0} (P : X → Type 0) (xs : List X) → Each P xs → Each P (reverse xs)
each_turned P [] e = tt
each_turned P (x ∷ xs) e = subst (λ ys. Each P ys) (sym (reverse-cons x xs)) (each-append P (reverse xs) (x ∷ []) (each_turned P xs e.1) (e.0, tt))

each_live : (P : MeantChoice → Type 0) (ms : List MeantChoice) → Each P ms → Each P (live_meant ms)
each_live P [] e = tt
each_live P (m ∷ ms) e = by_case m.alternatives (each_live P ms e.1)
  where
    by_case : (xs : List MeantAlternative) → Each P (live_meant ms) → Each P (live_before xs m (live_meant ms))
    by_case [] h = h
    by_case (x ∷ xs) h = (e.0, h)

live_later : (lists : ItemLists) (under end : BoundThen) (cs : List LiveChoice) (ms : List MeantChoice) → MeanLive lists under cs ms end
    → under.next ≤ end.next
live_later lists under end [] [] k = let e = ap (λ (t : BoundThen). t.next) k in omega (arith, e)
live_later lists under end [] (m ∷ ms) k = elim k [ ]
live_later lists under end (c ∷ cs) [] k = elim k [ ]
live_later lists under end (c ∷ cs) (m ∷ ms) k = let h = live_later lists m.came end cs ms k.1 in let o = k.0.lead.more in omega (arith, h, o)

-- with what leads to it from the newest choice point that has alternatives
goes_on_there : (lists : ItemLists) (start end : BoundThen) (cut : ℕ) (live : LiveChoices) (ms : List MeantChoice) (a : CapturedAlternative)
    (m : MeantAlternative) (l : LiveMean lists start live ms end)
    → MeansAlternative lists end.bound end.next cut a m
    → MeansAlternative lists l.newest.bound l.newest.next cut (record {
      first = a.first;
      bindings = live.since.bindings ++ a.bindings;
      next = a.next;
    })
    m
goes_on_there lists start end cut live ms a m l k = record {
  items = k.items;
  extends = subst (λ xs. ExtendsBy l.newest.bound m.bound a.next xs) (sym (map-append (λ (b : Binding). (b.var, b.value)) live.since.bindings
      a.bindings))
      (extensions_compose l.newest.bound end.bound m.bound end.next a.next (captured_bindings live.since.bindings) (captured_bindings a.bindings)
      l.older l.since.extends k.extends k.more);
  next = k.next;
  more = let o = l.since.more in let q = k.more in omega (arith, o, q);
  over = k.over;
}

pub run_means : (p : Placement) (deferred : List BranchItem) (base next : ℕ) (branch : List ℕ) (c : Captured) (start : BoundThen)
    (current : MeantAlternative) (choices : List MeantChoice)
    (oldest : List CapturedChoice) (scopes : List ℕ) (goals : List (List BranchItem)) (live : LiveChoices) (bodies : List Body)
    → oldest ≡ reverse c.choices.items → IsBoundAtStart base start → IsDeferredAt p deferred base branch next → IsTakenOff p deferred start c current choices
    → AreScopesOf branch oldest next scopes → length goals ≡ length c.items → AreGoalsOf c.items (scope_at scopes) deferred goals
    → AreLive base oldest live → MakeBodies goals live c.current bodies
    → MeanRun p base start.bound bodies (published_entry p deferred Choice current)
run_means p deferred base next branch c start current choices oldest scopes goals live bodies turned s d t a many are lives made =
    let lists : ItemLists = c.items in
    let end : BoundThen = bound_under start choices in
    let meant : ChoicesMean lists start (floor_in p) oldest (reverse choices) end
    = subst (λ (xs : List CapturedChoice). ChoicesMean lists start (floor_in p) xs (reverse choices) end) (sym turned)
    (oldest_first lists start (floor_in p) c.choices.items choices t.captured) in
    let groups : AreGroupsOf oldest p.groups = subst (λ gs. AreGroupsOf oldest gs) (sym t.groups)
    (groups_are p deferred lists start end (floor_in p) oldest (reverse choices) meant) in
    let g : GoalsAre p deferred base lists goals = record {
      scope = scope_at scopes;
      scoped = λ n. scope_is next p.levels p.groups scopes (a.kept p.levels p.groups d.nodes groups) n
          ∙ ap (λ x. choice_scope x p.levels p.groups n) (sym d.number);
      names = d.names;
      settled = d.settled;
      many = many;
      are = are;
    } in
    let l : LiveMean lists start live (live_meant (reverse choices)) end = lives lists start end (floor_in p) (reverse choices) s meant in
    let later = live_later lists start l.newest live.choices.items (live_meant (reverse choices)) l.choices in
    let own = goes_on_there lists start end (floor_in p + length choices) live (live_meant (reverse choices)) c.current current l t.goes_on in
    let e : Entry = published_entry p deferred Choice current in
    let first = subst (λ n. IsBranchOf goals n (record {
      first = c.current.first;
      bindings = live.since.bindings ++ c.current.bindings;
      next = c.current.next;
    }) made.branch) l.since.base made.is in
    let top : (kind : BodyKind) → GoalsMean p l.newest.bound l.newest.next kind 0 made.branch e
    = λ kind. branch_means p deferred base lists goals g l.newest.bound l.newest.next (floor_in p + length choices)
    (record { first = c.current.first; bindings = live.since.bindings ++ c.current.bindings; next = c.current.next }) current made.branch kind 0
    Choice
    e
    (let n = s.number in omega (arith, later, n)) first own t.on_top refl refl in
    let nodes : node_groups p.groups ≡ or_alone (map (published_group p deferred) (live_meant (reverse choices)))
    = ap (λ gs. node_groups gs) t.groups ∙ ap (λ gs. or_alone gs) (live_groups p deferred (reverse choices)) in
    let can = each_live (CanBeBody p) (reverse choices) (each_turned (CanBeBody p) choices t.each) in
    subst (λ gs. AllShow (BranchMeans p) e base start.bound bodies gs) (sym nodes)
    (subst (λ n. AllShow (BranchMeans p) e n start.bound bodies (or_alone (map (published_group p deferred) (live_meant (reverse choices))))) s.number
    (all_show p deferred base lists goals g made.branch live.since.base e l.newest top l.since.base start live.choices.items
    (live_meant (reverse choices)) bodies s made.ends l.choices can))
