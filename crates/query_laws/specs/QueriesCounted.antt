-- How many queries a tree has opened, and which are left.
use Rattle.std.specs.Prelude.{◌≡◌, ◌⊎◌, ◌≤◌, ℕ, ◌+◌, true, false, List, [], ◌∷◌, drop, Option, Some, slice_get}
use Rattle.au_term.specs.Term.{Term}
use Rattle.run_model.specs.Programs.Jobs.{Query, Job}
use Rattle.run_model.specs.Machine.Entries.{EndEntry}
use Rattle.tree_model.specs.Credits.{greatest}
use Rattle.tree_model.specs.Nodes.{Kind, ChoiceNode, CatchNode, FindallNode, QueryNode, Node, Numbered, Alternatives, none, alternative}
use Rattle.tree_model.specs.Nodes.{Status, Pending, Inner, Closed}
use Rattle.tree_model.specs.Levels.{Level, plug, Place, Spot, levels_of}
use Rattle.tree_model.specs.Events.{Event, Answer}
use Rattle.tree_model.specs.TreeStates.{TreeState}
use Rattle.tree_model.specs.Legality.{taken_at, is_legal}
use Rattle.tree_model.specs.Effects.{after_event}
use Rattle.tree_model.specs.Histories.{tree_after, IsLegalHistory}
use Rattle.tree_model.specs.LegalTrees.{IsLegalTree}

abbrev pub one_for : Kind → ℕ
one_for QueryNode = 1
one_for ChoiceNode = 0
one_for CatchNode = 0
one_for FindallNode = 0

-- how many nodes of queries there are
abbrev mutual
  pub queries_in : Node → ℕ
  queries_in (Numbered n kind alternatives) = one_for kind + queries_among alternatives

  pub queries_among : Alternatives → ℕ
  queries_among none = 0
  queries_among (alternative spent status others) = queries_below status + queries_among others

  pub queries_below : Status → ℕ
  queries_below (Pending hold entry) = 0
  queries_below (Inner node) = queries_in node
  queries_below (Closed credit) = 0

-- how many are on the way down to a place
abbrev pub queries_above : List Level → ℕ
queries_above [] = 0
queries_above (v ∷ up) = one_for v.kind + queries_above up

-- what is pending in a tree
abbrev pub IsPendingIn : TreeState → Spot → Type 0
IsPendingIn t s = plug (levels_of s) (Pending s.hold s.entry) ≡ t.root

-- as long as queries are left, they are those of the job after as many as there are nodes of queries
abbrev pub CountsQueries : Job → TreeState → Type 0
CountsQueries job t = (q : Query) (further : List Query) → t.queries ≡ q ∷ further → drop (queries_below t.root) job.queries ≡ q ∷ further

abbrev pub AllAreAbove : Type 0
AllAreAbove = (t : TreeState) (s : Spot) → IsLegalTree t → IsPendingIn t s → queries_below t.root ≡ queries_above (levels_of s)

abbrev pub EventsCountQueries : Type 0
EventsCountQueries = (job : Job) (t : TreeState) (e : Event) → IsLegalTree t → CountsQueries job t → is_legal t e ≡ true
    → CountsQueries job (after_event t e)

-- a worker takes the end of a query that is out to it
pub record TakesEnd (t : TreeState) (e : Event) : Type 0 where
  pub worker : ℕ
  pub place : Place
  pub spot : Spot
  pub ball : Option Term
  pub out : taken_at worker place t ≡ Some spot
  pub ends : spot.entry ≡ EndEntry ball
  pub is : e ≡ Answer worker place false

-- no other event opens a query
abbrev pub EndsOpenQueries : Type 0
EndsOpenQueries = (t : TreeState) (e : Event) → IsLegalTree t → is_legal t e ≡ true → ((after_event t e).queries ≡ t.queries) ⊎ TakesEnd t e

-- of every budget that a count can reach
abbrev pub HistoriesCountQueries : Type 0
HistoriesCountQueries = (job : Job) (budget window : ℕ) (es : List Event) → budget ≤ greatest → IsLegalHistory job budget window es
    → CountsQueries job (tree_after job budget window es)

-- the number of the next query
abbrev pub NextIsTold : Type 0
NextIsTold =
    (job : Job) (budget window : ℕ) (es : List Event) (s : Spot) (q : Query) (further : List Query) → budget ≤ greatest
    → IsLegalHistory job budget window es → IsPendingIn (tree_after job budget window es) s
    → (tree_after job budget window es).queries ≡ q ∷ further → slice_get job.queries (queries_above (levels_of s)) ≡ Some q
