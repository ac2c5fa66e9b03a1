-- What is left of an alternative behind its first goal, as a node of one branch.
use Rattle.std.specs.Prelude.{◌≡◌, ℕ, Bool, true, false, List, [], ◌∷◌, Some}
use Rattle.au_model.specs.Terms.MostGeneral.{SameValues}
use Rattle.au_model.specs.Terms.Substitutions.{Substitution}
use Rattle.au_term.specs.declared.segment.Segment.{Segment}
use Rattle.clause_compile.specs.declared.item.Item.{Item as BranchItem}
use Rattle.clause_compile.specs.declared.item.Item.TheVariants.{Goal, CatchEnd, Collect, Remove, End}
use Rattle.run_model.specs.Machine.Items.{Continuation, resolve_continuation}
use Rattle.run_model.specs.Machine.Entries.{PlainEntry}
use Rattle.run_model.specs.Programs.Jobs.{Job}
use Rattle.tree_nodes.specs.Bodies.{Body, ChoiceBody, Branching}
use Rattle.branch_reading.specs.BranchSegments.{bound_by, next_number, segments_on}
use Rattle.branch_reading.specs.Readings.{items_meant, named_of, query_on, reading}
use Rattle.branch_reading.specs.SettledWays.{is_way_settled, items_on}

-- the end of what a catch guards
abbrev pub is_mark_item : BranchItem → Bool
is_mark_item (Goal term cut) = false
is_mark_item (CatchEnd scope) = true
is_mark_item (Collect template scope) = false
is_mark_item (Remove id) = false
is_mark_item (End ball) = false

-- the items behind the first one that is none
abbrev pub items_behind : List BranchItem → List BranchItem
items_behind [] = []
items_behind (Goal term cut ∷ items) = items
items_behind (CatchEnd scope ∷ items) = items_behind items
items_behind (Collect template scope ∷ items) = items
items_behind (Remove id ∷ items) = items
items_behind (End ball ∷ items) = items

-- nothing is taken or bound from a number on
abbrev pub quiet_segment : ℕ → Segment
quiet_segment next = record { base = next; vars = 0; bindings = [] }

-- a body of one branch that has these items and does nothing else
pub record IsRestBody (items : List BranchItem) (next : ℕ) (body : Body) : Type 0 where
  pub kind : body.kind ≡ ChoiceBody
  pub segment : body.segment ≡ quiet_segment next
  pub branches : body.branches ≡ record { goals = items; segment = quiet_segment next } ∷ []

-- what is left to do behind the first goal of a branch, its bindings not applied
abbrev pub rest_continuation : Job → Branching → Continuation ℕ
rest_continuation job way = record {
  items = items_meant (items_behind (items_on way));
  named = named_of (query_on job way);
  next = next_number (segments_on way);
}

abbrev pub RestBodiesRead : Type 0
RestBodiesRead = (job : Job) (way : Branching) (s : Substitution) (body : Body) → is_way_settled way ≡ true → SameValues (bound_by (segments_on way)) (Some s)
    → IsRestBody (items_behind (items_on way)) (next_number (segments_on way)) body
    → reading job ((body, 0) ∷ way) ≡ PlainEntry (resolve_continuation s (rest_continuation job way))
