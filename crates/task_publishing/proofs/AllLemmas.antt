-- All bodies of a run show it.
use Rattle.std.proofs.Common.{◌≡◌, ℕ, ◌+◌, true, false, List, [], ◌∷◌, map, slice_get, sym, ap, ◌∙◌, subst, arith}
use Rattle.au_model.specs.Terms.Each.{Each}
use Rattle.branch_bindings.proofs.ExtensionLemmas.{nothing_extends}
use Rattle.run_model.specs.Machine.Entries.{Entry}
use Rattle.clause_compile.specs.declared.event.Branch.{Branch}
use Rattle.clause_compile.specs.declared.item.Item.{Item as BranchItem}
use Rattle.tree_nodes.specs.Bodies.{BodyKind, Body, guards_kind}
use Rattle.branch_shapes.specs.ExtendedWays.{IsNoQuery, LeadsOn, number_after}
use Rattle.branch_shapes.specs.Groups.{or_alone}
use Rattle.branch_shapes.specs.ShownBodies.{AllShow}
use Rattle.branch_shapes.specs.MeantBranches.{Placement, GoalsMean, BranchMeans}
use Rattle.branch_shapes.proofs.MeantBodyLemmas.{meant_bodies_show}
use Rattle.region_capture.specs.CapturedItems.{ItemLists}
use Rattle.region_capture.specs.CapturedChoices.{BoundThen, MeantChoice}
use Rattle.task_publishing.specs.declared.steps.LiveChoice.{LiveChoice}
use Rattle.task_publishing.specs.LiveChoices.{MeanLive, IsBoundAtStart}
use Rattle.task_publishing.specs.MadeBodies.{IsAloneBody, EndIn}
use Rattle.task_publishing.specs.PublishedRuns.{published_group}
use Rattle.task_publishing.proofs.BranchMeaningLemmas.{GoalsAre}
use Rattle.task_publishing.proofs.ChainLemmas.{CanBeBody, bodies_show}

module _ (p : Placement) (deferred : List BranchItem) (base : ℕ) (lists : ItemLists) (goals : List (List BranchItem))
    (g : GoalsAre p deferred base lists goals)
    (branch : Branch) (from : ℕ) (e : Entry) (newest : BoundThen) (top : (kind : BodyKind) → GoalsMean p newest.bound newest.next kind 0 branch e)
    (there : from ≡ newest.next) where
  alone_shows : (start : BoundThen) (b : Body) → IsBoundAtStart base start → start ≡ newest → IsAloneBody from branch b
      → AllShow (BranchMeans p) e start.next start.bound (b ∷ []) ([] ∷ [])
  alone_shows start b s r i =
      let same : from ≡ start.next = there ∙ ap (λ (t : BoundThen). t.next) (sym r) in
      let end : number_after b.segment ≡ newest.next = ap number_after i.segment ∙ (omega (arith, there)) in (
        start.bound,
        (
          meant_bodies_show p start.next start.bound start.bound b [] (record {
            no_query = subst IsNoQuery (sym i.kind) tt;
            guard = λ t. let h : false ≡ true = ap guards_kind (sym i.kind) ∙ t in absurd cc;
            first = branch;
            others = [];
            branches = i.branches;
            leads = subst (λ x. LeadsOn start.bound start.bound start.next x) (sym i.segment)
                (record { numbers = omega (arith, same); extends = nothing_extends start.bound (from + 0) s.applied });
            further = tt;
          }),
          record {
            branch = branch;
            is = ap (λ (xs : List Branch). slice_get xs 0) i.branches;
            goals = subst (λ n. GoalsMean p start.bound n b.kind 0 branch e) (sym end)
                (subst (λ (t : BoundThen). GoalsMean p t.bound newest.next b.kind 0 branch e) (sym r) (top b.kind));
          },
        ),
      )

  pub all_show : (start : BoundThen) (choices : List LiveChoice) (ms : List MeantChoice) (bodies : List Body) → IsBoundAtStart base start
      → EndIn goals branch from choices bodies
      → MeanLive lists start choices ms newest → Each (CanBeBody p) ms → AllShow (BranchMeans p) e start.next start.bound bodies
      (or_alone (map (published_group p deferred) ms))
  all_show start [] [] [] s i r can = elim i [ ]
  all_show start [] [] (b ∷ []) s i r can = alone_shows start b s r i
  all_show start [] [] (b ∷ (d ∷ bodies)) s i r can = elim i [ ]
  all_show start [] (m ∷ ms) bodies s i r can = elim r [ ]
  all_show start (c ∷ choices) [] bodies s i r can = elim r [ ]
  all_show start (c ∷ []) (m ∷ ms) [] s i r can = elim i [ ]
  all_show start (c ∷ (f ∷ choices)) (m ∷ ms) [] s i r can = elim i [ ]
  all_show start (c ∷ choices) (m ∷ ms) (b ∷ bodies) s i r can =
      bodies_show p deferred base lists goals g branch from e newest top start c choices m ms b bodies (let n = s.number in omega (arith, n)) s.older
      i
      r.0 r.1 can.0 can.1
