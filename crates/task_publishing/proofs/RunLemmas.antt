-- The bodies of all choice points mean the run.
use Rattle.std.proofs.Common.{◌≡◌, ℕ, suc, ◌≤◌, ◌==◌, Bool, true, false, cond, List, [], ◌∷◌, length, map, refl, arith}
use Rattle.au_model.specs.Terms.Each.{Each}
use Rattle.au_model.specs.Terms.Substitutions.{Substitution}
use Rattle.run_model.specs.Machine.Entries.{PlainEntry}
use Rattle.run_model.specs.Machine.Items.{Continuation}
use Rattle.clause_compile.specs.declared.event.Branch.{Branch}
use Rattle.clause_compile.specs.declared.item.Item.{Item as BranchItem}
use Rattle.tree_nodes.specs.Bodies.{ChoiceBody}
use Rattle.branch_reading.specs.Readings.{entry_beside, guard_meant}
use Rattle.branch_shapes.specs.MeantBranches.{Placement}
use Rattle.branch_shapes.specs.MeantBodies.{AlternativesMean}
use Rattle.region_capture.specs.CapturedItems.{ItemLists}
use Rattle.region_capture.specs.CapturedMeanings.{MeantAlternative, AreMeant}
use Rattle.region_capture.specs.declared.captured.CapturedAlternative.{CapturedAlternative}
use Rattle.region_capture.specs.declared.captured.CapturedKind.{CapturedKind}
use Rattle.region_capture.specs.declared.captured.CapturedKind.TheVariants.{Choice, Catch, Findall}
use Rattle.region_capture.specs.CapturedChoices.{IsAloneOf}
use Rattle.task_publishing.specs.MadeBodies.{published_kind, AreBranchesOf}
use Rattle.task_publishing.specs.PublishedRuns.{published_continuation, published_entry, CanBeBranch}
use Rattle.task_publishing.proofs.BranchMeaningLemmas.{GoalsAre, branch_means}

-- at a choice point every branch is plain
plain_beside : (i : ℕ) (s : Substitution) (f : Continuation ℕ) → PlainEntry f ≡ entry_beside ChoiceBody i s f
plain_beside i s f = by_test (i == 1)
  where
    by_test : (t : Bool) → PlainEntry f ≡ cond t (PlainEntry f) (PlainEntry f)
    by_test true = refl
    by_test false = refl

always : (t : Bool) → cond t true true ≡ true
always true = refl
always false = refl

guard_entry : (p : Placement) (deferred : List BranchItem) (own : CapturedKind) (m : MeantAlternative)
    → published_entry p deferred own m ≡ guard_meant (published_kind own) m.bound (published_continuation p deferred m)
guard_entry p deferred Choice m = refl
guard_entry p deferred (Catch catcher recovery) m = refl
guard_entry p deferred (Findall list results) m = refl

module _ (p : Placement) (deferred : List BranchItem) (base : ℕ) (lists : ItemLists) (goals : List (List BranchItem))
    (g : GoalsAre p deferred base lists goals) where
  -- further branches of a choice point
  choice_branches : (before : Substitution) (n cut i : ℕ) (taken : List CapturedAlternative) (ms : List MeantAlternative) (branches : List Branch)
      → base ≤ n
      → AreBranchesOf goals n taken branches → AreMeant lists before n cut taken ms → Each (CanBeBranch p Choice) ms
      → AlternativesMean p before n ChoiceBody i branches (map (published_entry p deferred Choice) ms)
  choice_branches before n cut i [] [] [] le b k e = tt
  choice_branches before n cut i [] [] (x ∷ branches) le b k e = elim b [ ]
  choice_branches before n cut i [] (m ∷ ms) branches le b k e = elim k [ ]
  choice_branches before n cut i (a ∷ taken) [] branches le b k e = elim k [ ]
  choice_branches before n cut i (a ∷ taken) (m ∷ ms) [] le b k e = elim b [ ]
  choice_branches before n cut i (a ∷ taken) (m ∷ ms) (x ∷ branches) le b k e = (
    branch_means p deferred base lists goals g before n cut a m x ChoiceBody i Choice (published_entry p deferred Choice m) le b.0 k.0 e.0
        (always (i == 1))
        (plain_beside i m.bound (published_continuation p deferred m)),
    choice_branches before n cut (suc i) taken ms branches le b.1 k.1 e.1,
  )

  -- the one further branch of a guard
  guard_branch : (before : Substitution) (n cut : ℕ) (own : CapturedKind) (taken : List CapturedAlternative) (ms : List MeantAlternative)
      (branches : List Branch) → base ≤ n
      → length ms ≡ 1 → AreBranchesOf goals n taken branches → AreMeant lists before n cut taken ms → Each (CanBeBranch p own) ms
      → AlternativesMean p before n (published_kind own) 1 branches (map (published_entry p deferred own) ms)
  guard_branch before n cut own taken [] branches le one b k e = absurd (omega (arith, one))
  guard_branch before n cut own taken (m ∷ (o ∷ ms)) branches le one b k e = absurd (omega (arith, one))
  guard_branch before n cut own [] (m ∷ []) branches le one b k e = elim k [ ]
  guard_branch before n cut own (a ∷ (d ∷ taken)) (m ∷ []) branches le one b k e = elim k.1 [ ]
  guard_branch before n cut own (a ∷ []) (m ∷ []) [] le one b k e = elim b [ ]
  guard_branch before n cut own (a ∷ []) (m ∷ []) (x ∷ (y ∷ branches)) le one b k e = elim b.1 [ ]
  guard_branch before n cut own (a ∷ []) (m ∷ []) (x ∷ []) le one b k e = (
    branch_means p deferred base lists goals g before n cut a m x (published_kind own) 1 own (published_entry p deferred own m) le b.0 k.0 e.0
        e.0.guard
        (guard_entry p deferred own m),
    tt,
  )

  pub further_mean : (before : Substitution) (n cut : ℕ) (own : CapturedKind) (taken : List CapturedAlternative) (ms : List MeantAlternative)
      (branches : List Branch) → base ≤ n
      → IsAloneOf own (length ms) → AreBranchesOf goals n taken branches → AreMeant lists before n cut taken ms → Each (CanBeBranch p own) ms
      → AlternativesMean p before n (published_kind own) 1 branches (map (published_entry p deferred own) ms)
  further_mean before n cut Choice taken ms branches le one b k e = choice_branches before n cut 1 taken ms branches le b k e
  further_mean before n cut (Catch catcher recovery) taken ms branches le one b k e = guard_branch before n cut (Catch catcher recovery) taken ms
      branches le one b k e
  further_mean before n cut (Findall list results) taken ms branches le one b k e = guard_branch before n cut (Findall list results) taken ms branches
      le one b k e
