-- Which branches of the shared tree can be read: their variables are below the next number, no variable is bound twice or to a
-- younger one, and what is bound has a unifier.
use Rattle.std.specs.Prelude.{ℕ, ◌==◌, nat_le, nat_lt, Bool, true, false, not, ◌&&◌, cond, List, [], ◌∷◌, Option, Some, None, is_some, slice_get}
use Rattle.std.specs.List.{list_all, list_any}
use Rattle.au_model.specs.Terms.Unifier.{unifier}
use Rattle.au_term.specs.Term.{Term, VarTerm, IntTerm, AtomTerm, Compound, var_bound}
use Rattle.au_term.specs.declared.segment.Binding.{Binding}
use Rattle.au_term.specs.declared.segment.Segment.{Segment}
use Rattle.clause_compile.specs.declared.event.Branch.{Branch}
use Rattle.clause_compile.specs.declared.item.Item.{Item as BranchItem}
use Rattle.clause_compile.specs.declared.item.Item.TheVariants.{Goal, CatchEnd, Collect, Remove, End}
use Rattle.tree_nodes.specs.Bodies.{BodyKind, ChoiceBody, ConditionBody, CatchBody, FindallBody, QueryBody, Branching}
use Rattle.branch_reading.specs.BranchSegments.{segments_on, binding_equations, bindings_on, next_number}

-- the variables of a term are below a number
abbrev pub is_term_below : ℕ → Term → Bool
is_term_below next t = nat_le (var_bound t) next

-- a variable is bound to no younger one, and not to itself
abbrev pub is_bound_back : ℕ → Term → Bool
is_bound_back v (VarTerm w) = nat_lt w v
is_bound_back v (IntTerm z) = true
is_bound_back v (AtomTerm a) = true
is_bound_back v (Compound f ts) = true

abbrev pub is_binding_settled : ℕ → Binding → Bool
is_binding_settled next b = nat_lt b.var next && (is_term_below next b.value && is_bound_back b.var b.value)

abbrev pub binds_variable : ℕ → List Binding → Bool
binds_variable v bs = list_any (λ b. b.var == v) bs

abbrev pub are_bound_once : List Binding → Bool
are_bound_once [] = true
are_bound_once (b ∷ bs) = not (binds_variable b.var bs) && are_bound_once bs

-- below a number, and with a unifier
abbrev pub are_bindings_settled : ℕ → List Binding → Bool
are_bindings_settled next bs = list_all (is_binding_settled next) bs && (are_bound_once bs && is_some (unifier (binding_equations bs)))

abbrev pub are_segments_settled : List Segment → Bool
are_segments_settled segments = are_bindings_settled (next_number segments) (bindings_on segments)

-- the end of a query is no item beside others
abbrev pub is_item_settled : ℕ → BranchItem → Bool
is_item_settled next (Goal term cut) = is_term_below next term
is_item_settled next (CatchEnd scope) = true
is_item_settled next (Collect template scope) = is_term_below next template
is_item_settled next (Remove id) = true
is_item_settled next (End ball) = false

-- what a guard has
abbrev pub is_guard_settled : ℕ → BodyKind → Bool
is_guard_settled next ChoiceBody = true
is_guard_settled next ConditionBody = true
is_guard_settled next (CatchBody catcher recovery) = is_term_below next catcher && is_term_below next recovery
is_guard_settled next (FindallBody results list) = list_all (is_term_below next) results && is_term_below next list
is_guard_settled next QueryBody = true

abbrev pub branch_items : Option Branch → List BranchItem
branch_items None = []
branch_items (Some b) = b.goals

-- the items of the innermost branch
abbrev pub items_on : Branching → List BranchItem
items_on [] = []
items_on ((b, i) ∷ way) = branch_items (slice_get b.branches i)

-- by its number: the second alternative alone stands for the guard
abbrev pub is_branch_settled : ℕ → BodyKind → ℕ → List BranchItem → Bool
is_branch_settled next kind i items = list_all (is_item_settled next) items && cond (i == 1) (is_guard_settled next kind) true

abbrev pub is_way_settled : Branching → Bool
is_way_settled [] = false
is_way_settled ((b, i) ∷ way) = are_segments_settled (segments_on ((b, i) ∷ way))
    && is_branch_settled (next_number (segments_on ((b, i) ∷ way))) b.kind i (items_on ((b, i) ∷ way))
