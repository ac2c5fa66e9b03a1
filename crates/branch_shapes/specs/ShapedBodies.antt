-- Bodies made of what choice points have left, the oldest first: one for each that has an alternative. Its own segment has all that was
-- bound since the one before it; where none is left, the branch that goes on is alone in a body.
use Rattle.std.specs.Prelude.{◌≡◌, ℕ, true, ◌≤◌, List, [], ◌∷◌, ◌++◌, length, map}
use Rattle.au_term.specs.declared.segment.Binding.{Binding}
use Rattle.au_term.specs.declared.segment.Segment.{Segment}
use Rattle.au_model.specs.Terms.Substitutions.{Substitution}
use Rattle.clause_compile.specs.declared.event.Branch.{Branch}
use Rattle.run_model.specs.Machine.Entries.{Entry}
use Rattle.tree_nodes.specs.Bodies.{BodyKind, ChoiceBody, Body, guards_kind}
use Rattle.branch_bindings.specs.Extensions.{ExtendsBy}
use Rattle.branch_bindings.specs.ExtensionLaws.{StandsForOlder, IsFinal}
use Rattle.branch_shapes.specs.Groups.{Groups}
use Rattle.branch_shapes.specs.ExtendedWays.{IsNoQuery}
use Rattle.branch_shapes.specs.MeantBodies.{AlternativesMean}
use Rattle.branch_shapes.specs.MeantBranches.{Placement, GoalsMean}
use Rattle.branch_shapes.specs.MeantRuns.{MeanRun}

-- a choice point: its kind, what was bound since the one before it, the next variable number when it came, and a branch for each
-- alternative that it has left
pub record LeftChoice : Type 0 where
  pub kind : BodyKind
  pub below : List Binding
  pub next : ℕ
  pub branches : List Branch

-- no variable was taken
abbrev pub segment_at : ℕ → List Binding → Segment
segment_at next bs = record { base = next; vars = 0; bindings = bs }

-- a branch that leads on from there
abbrev pub leading_branch : ℕ → Branch
leading_branch next = record { goals = []; segment = segment_at next [] }

-- with bindings that were made before its own
abbrev pub with_earlier : List Binding → Branch → Branch
with_earlier bs branch = record {
  goals = branch.goals;
  segment = record { base = branch.segment.base; vars = branch.segment.vars; bindings = bs ++ branch.segment.bindings };
}

-- bodies, and what is to be the first branch of one above them
pub record Shaped : Type 0 where
  pub first : Branch
  pub bodies : List Body

abbrev pub shaped_choice : ℕ → List Binding → LeftChoice → Shaped → Shaped
shaped_choice next pending c below = record {
  first = leading_branch next;
  bodies = record { segment = segment_at c.next (pending ++ c.below); branches = below.first ∷ c.branches; kind = c.kind } ∷ below.bodies;
}

abbrev pub if_left : List Branch → Shaped → Shaped → Shaped
if_left [] none some = none
if_left (x ∷ branches) none some = some

-- from a next number on, where these bindings are pending, with the branch that goes on
abbrev pub shaped_from : ℕ → List Binding → List LeftChoice → Branch → Shaped
shaped_from next pending [] current = record { first = with_earlier pending current; bodies = [] }
shaped_from next pending (c ∷ choices) current =
    if_left c.branches (shaped_from next (pending ++ c.below) choices current) (shaped_choice next pending c (shaped_from c.next [] choices current))

abbrev pub or_single_body : ℕ → Branch → List Body → List Body
or_single_body next first [] = record { segment = segment_at next []; branches = first ∷ []; kind = ChoiceBody } ∷ []
or_single_body next first (b ∷ bodies) = b ∷ bodies

abbrev pub shaped_bodies : ℕ → List LeftChoice → Branch → List Body
shaped_bodies next choices current = let s = shaped_from next [] choices current in or_single_body next s.first s.bodies

-- a choice point after what was bound, of variables below a number: its branches stand for a group
pub record ChoiceStands (p : Placement) (before came : Substitution) (next : ℕ) (c : LeftChoice) (g : List Entry) : Type 0 where
  pub no_query : IsNoQuery c.kind
  pub guard : guards_kind c.kind ≡ true → length g ≡ 1
  pub more : next ≤ c.next
  pub below : ExtendsBy before came c.next (map (λ b. (b.var, b.value)) c.below)
  pub further : AlternativesMean p came c.next c.kind 1 c.branches g

-- choice points one after another, each for its group, and a branch for the entry on top
abbrev pub ChoicesStand : Placement → Substitution → ℕ → List LeftChoice → Groups → Branch → Entry → Type 0
ChoicesStand p before next [] [] current e = GoalsMean p before next ChoiceBody 0 current e
ChoicesStand p before next [] (g ∷ gs) current e = ⊥
ChoicesStand p before next (c ∷ choices) [] current e = ⊥
ChoicesStand p before next (c ∷ choices) (g ∷ gs) current e =
    (came : Substitution) × (ChoiceStands p before came next c g × ChoicesStand p came c.next choices gs current e)

-- their bodies mean the run
abbrev pub ShapedBodiesMean : Type 0
ShapedBodiesMean = (p : Placement) (before : Substitution) (next : ℕ) (choices : List LeftChoice) (current : Branch) (e : Entry) → StandsForOlder before
    → IsFinal before → ChoicesStand p before next choices p.groups current e → MeanRun p next before (shaped_bodies next choices current) e
