-- What is bound on a branch of the shared tree.
use Rattle.std.specs.Prelude.{ℕ, ◌+◌, List, [], ◌∷◌, ◌++◌, map, Option, Some, None, slice_get}
use Rattle.au_term.specs.Term.{VarTerm}
use Rattle.au_term.specs.declared.segment.Binding.{Binding}
use Rattle.au_term.specs.declared.segment.Segment.{Segment}
use Rattle.au_model.specs.Terms.Substitutions.{Substitution}
use Rattle.au_model.specs.Terms.Unifier.{Equations, unifier}
use Rattle.clause_compile.specs.declared.event.Branch.{Branch}
use Rattle.tree_nodes.specs.Bodies.{BodyKind, ChoiceBody, ConditionBody, CatchBody, FindallBody, QueryBody, Branching}

-- each query's variables are numbered from 0: nothing above its node binds one
abbrev pub above_in_query : BodyKind → List Segment → List Segment
above_in_query ChoiceBody above = above
above_in_query ConditionBody above = above
above_in_query (CatchBody catcher recovery) above = above
above_in_query (FindallBody results list) above = above
above_in_query QueryBody above = []

abbrev pub own_segments : Option Branch → List Segment
own_segments None = []
own_segments (Some b) = b.segment ∷ []

-- the segments of a branch from its query on, the innermost first
abbrev pub segments_on : Branching → List Segment
segments_on [] = []
segments_on ((b, i) ∷ way) = own_segments (slice_get b.branches i) ++ b.segment ∷ above_in_query b.kind (segments_on way)

-- a bound variable is the same as what it is bound to
abbrev pub binding_equations : List Binding → Equations
binding_equations bs = map (λ b. (VarTerm b.var, b.value)) bs

-- the bindings of segments, in the order in which they were made
abbrev pub bindings_on : List Segment → List Binding
bindings_on [] = []
bindings_on (s ∷ above) = bindings_on above ++ s.bindings

-- what is bound on a branch, if it can be
abbrev pub bound_by : List Segment → Option Substitution
bound_by segments = unifier (binding_equations (bindings_on segments))

-- the next variable number after those that a branch took
abbrev pub next_number : List Segment → ℕ
next_number [] = 0
next_number (s ∷ above) = s.base + s.vars
