-- Bodies as they are made of choice points with alternatives.
use Rattle.std.specs.Prelude.{◌≡◌, ℕ, ◌-◌, List, [], ◌∷◌, ◌++◌, Some, slice_get}
use Rattle.clause_compile.specs.declared.event.Branch.{Branch}
use Rattle.clause_compile.specs.declared.item.Item.{Item as BranchItem}
use Rattle.tree_nodes.specs.Bodies.{BodyKind, ChoiceBody, CatchBody, FindallBody, Body}
use Rattle.region_capture.specs.declared.captured.CapturedAlternative.{CapturedAlternative}
use Rattle.region_capture.specs.declared.captured.CapturedKind.{CapturedKind}
use Rattle.region_capture.specs.declared.captured.CapturedKind.TheVariants.{Choice, Catch, Findall}
use Rattle.task_publishing.specs.declared.steps.LiveChoice.{LiveChoice}
use Rattle.task_publishing.specs.declared.steps.LiveChoices.{LiveChoices}

abbrev pub published_kind : CapturedKind → BodyKind
published_kind Choice = ChoiceBody
published_kind (Catch catcher recovery) = CatchBody catcher recovery
published_kind (Findall list results) = FindallBody results.items list

-- a branch with the goals of an alternative, from a next number on
pub record IsBranchOf (goals : List (List BranchItem)) (base : ℕ) (a : CapturedAlternative) (b : Branch) : Type 0 where
  pub own : (list : List BranchItem) → slice_get goals a.first ≡ Some list → b.goals ≡ list
  pub from : b.segment.base ≡ base
  pub variables : b.segment.vars ≡ a.next - base
  pub bindings : b.segment.bindings ≡ a.bindings

abbrev pub AreBranchesOf : List (List BranchItem) → ℕ → List CapturedAlternative → List Branch → Type 0
AreBranchesOf goals base [] [] = Unit {0}
AreBranchesOf goals base [] (b ∷ branches) = ⊥
AreBranchesOf goals base (a ∷ alternatives) [] = ⊥
AreBranchesOf goals base (a ∷ alternatives) (b ∷ branches) = IsBranchOf goals base a b × AreBranchesOf goals base alternatives branches

-- behind a first one
pub record MakesBranches (goals : List (List BranchItem)) (base : ℕ) (first : Branch) (alternatives : List CapturedAlternative)
    (branches : List Branch) : Type 0 where
  pub others : List Branch
  pub are : branches ≡ first ∷ others
  pub each : AreBranchesOf goals base alternatives others

-- a choice point as a body
pub record IsBodyOf (goals : List (List BranchItem)) (c : LiveChoice) (first : Branch) (b : Body) : Type 0 where
  pub kind : b.kind ≡ published_kind c.kind
  pub segment : b.segment ≡ record { base = c.lead.base; vars = c.next - c.lead.base; bindings = c.lead.bindings }
  pub made : MakesBranches goals c.next first c.alternatives.items b.branches

-- a branch with no goals and no bindings
pub record IsLeading (base : ℕ) (b : Branch) : Type 0 where
  pub goals : b.goals ≡ []
  pub segment : b.segment ≡ record { base = base; vars = 0; bindings = [] }

-- bodies whose first branch leads on
pub record IsLeadingBody (goals : List (List BranchItem)) (c : LiveChoice) (b : Body) : Type 0 where
  pub first : Branch
  pub leads : IsLeading c.next first
  pub body : IsBodyOf goals c first b

abbrev pub AreBodiesOf : List (List BranchItem) → List LiveChoice → List Body → Type 0
AreBodiesOf goals [] [] = Unit {0}
AreBodiesOf goals [] (b ∷ bodies) = ⊥
AreBodiesOf goals (c ∷ choices) [] = ⊥
AreBodiesOf goals (c ∷ choices) (b ∷ bodies) = IsLeadingBody goals c b × AreBodiesOf goals choices bodies

-- a body of one branch
pub record IsAloneBody (base : ℕ) (first : Branch) (b : Body) : Type 0 where
  pub kind : b.kind ≡ ChoiceBody
  pub segment : b.segment ≡ record { base = base; vars = 0; bindings = [] }
  pub branches : b.branches ≡ first ∷ []

-- bodies of choice points, the first branch of the last for what is left to do of an alternative
abbrev pub EndIn : List (List BranchItem) → Branch → ℕ → List LiveChoice → List Body → Type 0
EndIn goals branch base [] [] = ⊥
EndIn goals branch base [] (b ∷ []) = IsAloneBody base branch b
EndIn goals branch base [] (b ∷ (d ∷ bodies)) = ⊥
EndIn goals branch base (c ∷ choices) [] = ⊥
EndIn goals branch base (c ∷ []) (b ∷ []) = IsBodyOf goals c branch b
EndIn goals branch base (c ∷ []) (b ∷ (d ∷ bodies)) = ⊥
EndIn goals branch base (c ∷ (e ∷ choices)) (b ∷ bodies) = IsLeadingBody goals c b × EndIn goals branch base (e ∷ choices) bodies

-- after what leads to it from the newest choice point
pub record MakeBodies (goals : List (List BranchItem)) (live : LiveChoices) (current : CapturedAlternative) (bodies : List Body) : Type 0 where
  pub branch : Branch
  pub is : IsBranchOf goals live.since.base (record {
    first = current.first;
    bindings = live.since.bindings ++ current.bindings;
    next = current.next;
  })
      branch
  pub ends : EndIn goals branch live.since.base live.choices.items bodies
