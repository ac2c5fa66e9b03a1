-- What a branch of new bodies reads as, by the bindings that were made further on it.
use Rattle.std.specs.Prelude.{◌≡◌, ℕ, ◌+◌, ◌≤◌, true, List, [], ◌∷◌, ◌++◌, map, Some, slice_get}
use Rattle.au_term.specs.declared.segment.Segment.{Segment}
use Rattle.au_model.specs.Terms.MostGeneral.{SameValues}
use Rattle.au_model.specs.Terms.Named.{NamedTerm}
use Rattle.au_model.specs.Terms.Substitutions.{Substitution}
use Rattle.clause_compile.specs.declared.event.Branch.{Branch}
use Rattle.run_model.specs.Machine.Items.{Continuation, resolve_continuation}
use Rattle.run_model.specs.Programs.Jobs.{Job}
use Rattle.tree_nodes.specs.Bodies.{BodyKind, ChoiceBody, ConditionBody, CatchBody, FindallBody, QueryBody, Body, Branching}
use Rattle.branch_reading.specs.BranchSegments.{segments_on, binding_equations, bindings_on, bound_by, next_number}
use Rattle.branch_reading.specs.SettledWays.{are_segments_settled, is_branch_settled, is_way_settled}
use Rattle.branch_reading.specs.Readings.{query_on, named_of, items_meant, entry_beside, reading}
use Rattle.branch_bindings.specs.Extensions.{WrittenBindings, ExtendsBy}
use Rattle.branch_bindings.specs.ExtensionLaws.{StandsForOlder, IsFinal, AreSettledBindings}

-- what a segment binds, and the next number after it
abbrev pub written_on : Segment → WrittenBindings
written_on segment = map (λ b. (b.var, b.value)) segment.bindings

abbrev pub number_after : Segment → ℕ
number_after segment = segment.base + segment.vars

-- the bindings of segments are settled, and their unifier has these values
abbrev pub SegmentsBind : List Segment → Substitution → Type 0
SegmentsBind segments s = AreSettledBindings (next_number segments) (binding_equations (bindings_on segments)) s

-- and those on a way
abbrev pub WayBinds : Branching → Substitution → Type 0
WayBinds way s = SegmentsBind (segments_on way) s

-- from a next number on, a segment's bindings make the second substitution of the first
pub record LeadsOn (before now : Substitution) (next : ℕ) (segment : Segment) : Type 0 where
  pub numbers : next ≤ number_after segment
  pub extends : ExtendsBy before now (number_after segment) (written_on segment)

abbrev pub IsNoQuery : BodyKind → Type 0
IsNoQuery ChoiceBody = Unit {0}
IsNoQuery ConditionBody = Unit {0}
IsNoQuery (CatchBody catcher recovery) = Unit {0}
IsNoQuery (FindallBody results list) = Unit {0}
IsNoQuery QueryBody = ⊥

-- a body's own segment leads to a substitution, and that of a branch of it leads on from there
pub record BranchLeadsOn (before there now : Substitution) (next : ℕ) (b : Body) (i : ℕ) (branch : Branch) : Type 0 where
  pub is : slice_get b.branches i ≡ Some branch
  pub no_query : IsNoQuery b.kind
  pub shared : LeadsOn before there next b.segment
  pub own : LeadsOn there now (number_after b.segment) branch.segment

-- what is left to do on a branch, before bindings are applied
abbrev pub continuation_of : List NamedTerm → Branch → Continuation ℕ
continuation_of named branch = record { items = items_meant branch.goals; named = named; next = number_after branch.segment }

-- what is left to do on a branch, and what its body has, is below its next number
abbrev pub IsBranchBelow : Body → ℕ → Branch → Type 0
IsBranchBelow b i branch = is_branch_settled (number_after branch.segment) b.kind i branch.goals ≡ true

-- where segments are settled, they bind what their unifier has, and the reverse
abbrev pub SettledSegmentsBind : Type 0
SettledSegmentsBind = (segments : List Segment) (s : Substitution) → are_segments_settled segments ≡ true → SameValues (bound_by segments) (Some s)
    → SegmentsBind segments s

abbrev pub BoundSegmentsAreSettled : Type 0
BoundSegmentsAreSettled = (segments : List Segment) (s : Substitution) → SegmentsBind segments s → are_segments_settled segments ≡ true

-- the way to a branch binds what its segments lead to
abbrev pub WaysAreExtended : Type 0
WaysAreExtended = (before there now : Substitution) (way : Branching) (b : Body) (i : ℕ) (branch : Branch) → WayBinds way before
    → BranchLeadsOn before there now (next_number (segments_on way)) b i branch → WayBinds ((b, i) ∷ way) now

-- so it is settled
abbrev pub ExtendedWaysAreSettled : Type 0
ExtendedWaysAreSettled = (before there now : Substitution) (way : Branching) (b : Body) (i : ℕ) (branch : Branch) → WayBinds way before
    → BranchLeadsOn before there now (next_number (segments_on way)) b i branch → IsBranchBelow b i branch → is_way_settled ((b, i) ∷ way) ≡ true

-- and the branch reads as what is left to do on it, with that applied
abbrev pub BranchesReadBound : Type 0
BranchesReadBound = (job : Job) (before there now : Substitution) (way : Branching) (b : Body) (i : ℕ) (branch : Branch) → WayBinds way before
    → BranchLeadsOn before there now (next_number (segments_on way)) b i branch → IsBranchBelow b i branch
    → reading job ((b, i) ∷ way) ≡ entry_beside b.kind i now (resolve_continuation now (continuation_of (named_of (query_on job way)) branch))

-- a segment without bindings leads nowhere else
abbrev pub EmptySegmentsLead : Type 0
EmptySegmentsLead = (s : Substitution) (next : ℕ) (segment : Segment) → IsFinal s → segment.bindings ≡ [] → next ≤ number_after segment
    → LeadsOn s s next segment

-- one with the bindings of two leads as far as both
abbrev pub SegmentsJoin : Type 0
SegmentsJoin = (a b c : Substitution) (next : ℕ) (first second joined : Segment) → StandsForOlder a → LeadsOn a b next first
    → LeadsOn b c (number_after first) second → joined.bindings ≡ first.bindings ++ second.bindings → number_after joined ≡ number_after second
    → LeadsOn a c next joined
