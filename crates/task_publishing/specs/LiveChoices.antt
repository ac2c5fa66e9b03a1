-- The choice points that have alternatives left, and what leads from one of them to the next.
use Rattle.std.specs.Prelude.{◌≡◌, ℕ, suc, ◌≤◌, List, [], ◌∷◌, ◌++◌, length}
use Rattle.branch_bindings.specs.Extensions.{ExtendsBy}
use Rattle.branch_bindings.specs.ExtensionLaws.{StandsForOlder, IsFinal}
use Rattle.region_capture.specs.CapturedItems.{ItemLists}
use Rattle.region_capture.specs.CapturedMeanings.{captured_bindings, MeantAlternative, AreMeant}
use Rattle.region_capture.specs.CapturedChoices.{BoundThen, MeantChoice, CapturesChoice, IsAloneOf}
use Rattle.region_capture.specs.declared.captured.CapturedChoice.{CapturedChoice}
use Rattle.task_publishing.specs.declared.steps.Lead.{Lead}
use Rattle.task_publishing.specs.declared.steps.LiveChoice.{LiveChoice}
use Rattle.task_publishing.specs.declared.steps.LiveChoices.{LiveChoices}

-- choice points, the oldest first, over so many others, with what was bound last
abbrev pub ChoicesMean : ItemLists → BoundThen → ℕ → List CapturedChoice → List MeantChoice → BoundThen → Type 0
ChoicesMean lists under cut [] [] end = under ≡ end
ChoicesMean lists under cut [] (m ∷ ms) end = ⊥
ChoicesMean lists under cut (c ∷ cs) [] end = ⊥
ChoicesMean lists under cut (c ∷ cs) (m ∷ ms) end = CapturesChoice lists under cut c m × ChoicesMean lists m.came (suc cut) cs ms end

-- those that have alternatives
abbrev pub live_before : List MeantAlternative → MeantChoice → List MeantChoice → List MeantChoice
live_before [] m ms = ms
live_before (a ∷ others) m ms = m ∷ ms

abbrev pub live_meant : List MeantChoice → List MeantChoice
live_meant [] = []
live_meant (m ∷ ms) = live_before m.alternatives m (live_meant ms)

-- from what was bound at one moment bindings lead to what was bound later
pub record LeadsFrom (lead : Lead) (under now : BoundThen) : Type 0 where
  pub base : lead.base ≡ under.next
  pub more : under.next ≤ now.next
  pub extends : ExtendsBy under.bound now.bound now.next (captured_bindings lead.bindings)

-- one of them over another, or over the start
pub record MeansLive (lists : ItemLists) (under : BoundThen) (c : LiveChoice) (m : MeantChoice) : Type 0 where
  pub kind : c.kind ≡ m.kind
  pub next : c.next ≡ m.came.next
  pub lead : LeadsFrom c.lead under m.came
  pub cut : ℕ
  pub alternatives : AreMeant lists m.came.bound m.came.next cut c.alternatives.items m.alternatives
  pub alone : IsAloneOf m.kind (length m.alternatives)

abbrev pub MeanLive : ItemLists → BoundThen → List LiveChoice → List MeantChoice → BoundThen → Type 0
MeanLive lists under [] [] end = under ≡ end
MeanLive lists under [] (m ∷ ms) end = ⊥
MeanLive lists under (c ∷ cs) [] end = ⊥
MeanLive lists under (c ∷ cs) (m ∷ ms) end = MeansLive lists under c m × MeanLive lists m.came cs ms end

-- all of them, and what leads on from the newest
pub record LiveMean (lists : ItemLists) (under : BoundThen) (live : LiveChoices) (meant : List MeantChoice) (end : BoundThen) : Type 0 where
  pub newest : BoundThen
  pub choices : MeanLive lists under live.choices.items meant newest
  pub since : LeadsFrom live.since newest end
  pub older : StandsForOlder newest.bound

-- what was bound at the start has all of its bindings applied, and gives no variable a younger one
pub record IsBoundAtStart (base : ℕ) (start : BoundThen) : Type 0 where
  pub number : start.next ≡ base
  pub older : StandsForOlder start.bound
  pub applied : IsFinal start.bound

-- whatever choice points mean, those with alternatives mean the same
abbrev pub AreLive : ℕ → List CapturedChoice → LiveChoices → Type 0
AreLive base choices live = (lists : ItemLists) (start end : BoundThen) (cut : ℕ) (ms : List MeantChoice) → IsBoundAtStart base start
    → ChoicesMean lists start cut choices ms end → LiveMean lists start live (live_meant ms) end

-- with one more
abbrev pub AddsLiveChoice : LiveChoices → CapturedChoice → LiveChoices → Type 0
AddsLiveChoice before choice live = (lists : ItemLists) (start end : BoundThen) (cut : ℕ) (ms : List MeantChoice) (m : MeantChoice)
    → LiveMean lists start before ms end → CapturesChoice lists end cut choice m → LiveMean lists start live (ms ++ live_before m.alternatives m [])
    m.came
