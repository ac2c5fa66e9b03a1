-- Where a ball lands on a branch, by what its nodes were made from (ISO/IEC 13211-1, 7.8.9 and 7.8.10).
use Rattle.std.specs.Prelude.{◌≡◌, ℕ, ◌==◌, ◌&&◌, Bool, true, cond, List, [], ◌∷◌, Option, Some, None}
use Rattle.au_term.specs.Term.{Term}
use Rattle.au_model.specs.Terms.Copies.{copied}
use Rattle.au_model.specs.Terms.Substitutions.{Substitution, resolve}
use Rattle.au_model.specs.Terms.Unifier.{unifier}
use Rattle.clause_compile.specs.declared.item.Item.{Item}
use Rattle.clause_compile.specs.declared.item.Item.TheVariants.{Goal, CatchEnd, Collect, Remove, End}
use Rattle.tree_model.specs.Levels.{Place}
use Rattle.tree_nodes.specs.Bodies.{BodyKind, ChoiceBody, ConditionBody, CatchBody, FindallBody, QueryBody, Branching}
use Rattle.tree_nodes.specs.Rows.{Rows, cell_at, scope_number}
use Rattle.tree_closing.specs.Sleeping.{right_of, is_asleep_at}
use Rattle.branch_reading.specs.BranchSegments.{bound_by, next_number, segments_on}
use Rattle.branch_reading.specs.Readings.{or_nothing}
use Rattle.branch_reading.specs.SettledWays.{is_way_settled}
use Rattle.task_region.specs.PlacesUp.{body_at, branching_at, items_at_place}

-- the node of the catch whose guarded goals end first among these items
abbrev pub innermost_catch : List Item → Option ℕ
innermost_catch [] = None
innermost_catch (Goal term cut ∷ items) = innermost_catch items
innermost_catch (CatchEnd scope ∷ items) = Some (scope_number scope)
innermost_catch (Collect template scope ∷ items) = innermost_catch items
innermost_catch (Remove id ∷ items) = innermost_catch items
innermost_catch (End ball ∷ items) = innermost_catch items

-- the way to the second alternative of a place's node, and what is bound on a way
abbrev pub way_beside : Rows → Place → List Place → Branching
way_beside rows p above = (body_at rows p, 1) ∷ branching_at rows above

abbrev pub bound_on : Branching → Substitution
bound_on way = or_nothing (bound_by (segments_on way))

-- the unifier by which a catch on a way takes a copy of a ball
abbrev pub taken_on : Branching → Term → Term → Option Substitution
taken_on way catcher ball = unifier ((resolve (bound_on way) catcher, copied ball (next_number (segments_on way))) ∷ [])

-- whether something sleeps beside a place
abbrev pub is_beside_sleeper : Rows → Place → Bool
is_beside_sleeper rows p = (p.index == 0) && is_asleep_at (cell_at rows (right_of p))

abbrev pub here_or : Option Substitution → List Place → List Place → List Place
here_or (Some s) here further = here
here_or None here further = further

-- the places up from a catch: these where it takes the ball; else those further up
abbrev pub at_node : BodyKind → Branching → Term → List Place → List Place → List Place
at_node ChoiceBody way ball here further = []
at_node ConditionBody way ball here further = []
at_node (CatchBody catcher recovery) way ball here further = here_or (taken_on way catcher ball) here further
at_node (FindallBody results list) way ball here further = []
at_node QueryBody way ball here further = []

-- of the places up from an alternative those from the catch on that takes a ball, from catch to catch; none where none does
abbrev pub landing : Rows → Term → Option ℕ → List Place → List Place
landing rows ball mark [] = []
landing rows ball None (p ∷ above) = []
landing rows ball (Some n) (p ∷ above) =
    cond (p.node == n)
    (cond (is_beside_sleeper rows p)
    (at_node (body_at rows p).kind (way_beside rows p above) ball (p ∷ above) (landing rows ball (innermost_catch (items_at_place rows (right_of p))) above))
    [])
    (landing rows ball (Some n) above)

-- the catch that is looked for above the one of a node, where that does not take the ball
abbrev pub next_by_kind : BodyKind → Option ℕ → Option ℕ
next_by_kind ChoiceBody mark = None
next_by_kind ConditionBody mark = None
next_by_kind (CatchBody catcher recovery) mark = mark
next_by_kind (FindallBody results list) mark = None
next_by_kind QueryBody mark = None

abbrev pub next_catch : Rows → Place → Option ℕ
next_catch rows p = cond (is_beside_sleeper rows p) (next_by_kind (body_at rows p).kind (innermost_catch (items_at_place rows (right_of p)))) None

-- what sleeps beside a place, if anything does, does not take a ball
abbrev pub PassesOn : Rows → Place → List Place → Term → Type 0
PassesOn rows p above ball = (catcher recovery : Term) → is_beside_sleeper rows p ≡ true → (body_at rows p).kind ≡ CatchBody catcher recovery
    → taken_on (way_beside rows p above) catcher ball ≡ None

-- the catch of a place, if one sleeps beside it, can be read on the way up
abbrev pub IsReadableBeside : Rows → Place → List Place → Type 0
IsReadableBeside rows p above = (catcher recovery : Term) → is_beside_sleeper rows p ≡ true → (body_at rows p).kind ≡ CatchBody catcher recovery
    → is_way_settled (way_beside rows p above) ≡ true

abbrev pub AreReadableBeside : Rows → List Place → Type 0
AreReadableBeside rows [] = Unit {0}
AreReadableBeside rows (p ∷ above) = IsReadableBeside rows p above × AreReadableBeside rows above
