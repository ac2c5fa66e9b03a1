-- The list for which a tree stands, from left to right: credits and entries, each alternative ending its scope.
use Rattle.std.specs.Prelude.{◌≡◌, ℕ, suc, ◌==◌, cond, List, [], ◌∷◌, ◌++◌, map, length, Option}
use Rattle.au_model.specs.Terms.Each.{Each}
use Rattle.run_model.specs.Machine.Items.{Continuation}
use Rattle.run_model.specs.Machine.Entries.{Entry, PlainEntry, CatchEntry, FindallEntry, EndEntry}
use Rattle.tree_model.specs.Credits.{Credit}
use Rattle.tree_model.specs.Nodes.{Kind, Node, Numbered, Alternatives, none, alternative, Status, Pending, Inner, Closed, Hold, Ready}
use Rattle.tree_model.specs.Nodes.{TakenBy, Waiting, Dormant}
use Rattle.tree_model.specs.Levels.{Level, plug}
use Rattle.tree_model.specs.Floors.{renamed_continuation}
use Rattle.tree_model.specs.Orders.{is_node}
use Rattle.tree_model.specs.Pruning.{is_findall}
use Rattle.tree_model.specs.Elements.{Name, Element, Credit as CreditElement, Plain, EndOf, Catch, Findall, End}

-- one step of a way down: a node, the index of the alternative that is taken, the node's kind
pub record Step : Type 0 where
  pub node : ℕ
  pub index : ℕ
  pub kind : Kind

-- the steps down to a place, the innermost first
abbrev pub Way : Type 0
Way = List Step

abbrev pub step_of : Level → Step
step_of v = record { node = v.number; index = length v.left; kind = v.kind }

abbrev pub way_of : List Level → Way
way_of levels = map step_of levels

abbrev pub step_name : Step → Name
step_name s = s.index ∷ s.node ∷ []

-- the scope that a node is for what is below it: it ends where the alternative ends that leads there
abbrev pub scope_on : Way → ℕ → Name
scope_on [] s = s ∷ []
scope_on (a ∷ way) s = cond (a.node == s) (step_name a) (scope_on way s)

-- the findall goal to which records on a way belong
abbrev pub goal_side_name : ℕ → ℕ → Name → Name
goal_side_name n index other = cond (index == 0) (0 ∷ n ∷ []) other

abbrev pub findall_on : Way → Name
findall_on [] = []
findall_on (a ∷ way) = cond (is_findall a.kind) (goal_side_name a.node a.index (findall_on way)) (findall_on way)

abbrev pub named_continuation : Way → Continuation ℕ → Continuation Name
named_continuation way f = renamed_continuation (scope_on way) (scope_on way) f

-- the entry of the alternative at which a way ends; what it makes is named below its own name
abbrev pub element_at : ℕ → ℕ → Way → Entry → Element
element_at n i way (PlainEntry f) = Plain (0 ∷ i ∷ n ∷ []) (named_continuation way f)
element_at n i way (CatchEntry c r f) = Catch (0 ∷ n ∷ []) (i ∷ n ∷ []) c r (0 ∷ i ∷ n ∷ []) (named_continuation way f)
element_at n i way (FindallEntry results l f) = Findall (0 ∷ n ∷ []) (i ∷ n ∷ []) results l (0 ∷ i ∷ n ∷ []) (named_continuation way f)
element_at n i way (EndEntry b) = End (0 ∷ i ∷ n ∷ []) b

abbrev pub element_on : Way → Entry → Element
element_on [] e = element_at 0 0 [] e
element_on (a ∷ way) e = element_at a.node a.index (a ∷ way) e

abbrev pub balance_on : Way → Credit → Element
balance_on way c = CreditElement c.inferences (map (λ t. (findall_on way, t)) c.records)

-- what was spent on an entry; a dormant one has spent nothing, and the scope of what it guards ends right above it
abbrev pub own_credit : Hold → ℕ → List Element
own_credit Dormant spent = []
own_credit Ready spent = CreditElement spent [] ∷ []
own_credit (TakenBy w) spent = CreditElement spent [] ∷ []
own_credit (Waiting g) spent = CreditElement spent [] ∷ []

abbrev mutual
  pub list_in : Way → Node → List Element
  list_in way (Numbered n kind alternatives) = list_among way n kind 0 alternatives

  pub list_among : Way → ℕ → Kind → ℕ → Alternatives → List Element
  list_among way n kind i none = []
  list_among way n kind i (alternative spent status others) =
      list_below (record { node = n; index = i; kind = kind } ∷ way) spent status
      ++ (EndOf (i ∷ n ∷ []) ∷ list_among way n kind (suc i) others)

  pub list_below : Way → ℕ → Status → List Element
  list_below way spent (Pending hold entry) = own_credit hold spent ++ element_on way entry ∷ []
  list_below way spent (Inner node) = CreditElement spent [] ∷ list_in way node
  list_below way spent (Closed credit) = balance_on way credit ∷ []

-- the list of a whole tree
abbrev pub pending_list : Status → List Element
pending_list root = list_below [] 0 root

-- what of the list is left of a place, and right of it
abbrev pub list_left : Way → ℕ → Kind → List (ℕ × Status) → List Element
list_left way n kind [] = []
list_left way n kind (a ∷ left) =
    list_left way n kind left ++ (list_below (record { node = n; index = length left; kind = kind } ∷ way) a.0 a.1 ++ EndOf
    (length left ∷ n ∷ []) ∷ [])

abbrev pub list_right : Way → Level → List Element
list_right way v = EndOf (length v.left ∷ v.number ∷ []) ∷ list_among way v.number v.kind (suc (length v.left)) v.right

-- what was spent on the alternative of the innermost level
abbrev pub spent_at : List Level → ℕ
spent_at [] = 0
spent_at (v ∷ up) = v.spent

abbrev pub level_front : List Level → Level → List Element
level_front up v = CreditElement (spent_at up) [] ∷ list_left (way_of up) v.number v.kind v.left

abbrev pub front_of : List Level → List Element
front_of [] = []
front_of (v ∷ up) = front_of up ++ level_front up v

abbrev pub back_of : List Level → List Element
back_of [] = []
back_of (v ∷ up) = list_right (way_of up) v ++ back_of up

-- the levels from a scope on up, and what of the front is below the scope; nothing and all where none is named
abbrev pub levels_from : Option ℕ → List Level → List Level
levels_from scope [] = []
levels_from scope (v ∷ up) = cond (is_node scope v.number) (v ∷ up) (levels_from scope up)

abbrev pub front_below : Option ℕ → List Level → List Element
front_below scope [] = []
front_below scope (v ∷ up) = cond (is_node scope v.number) [] (front_below scope up ++ level_front up v)

-- the list of a tree is what is left of a place, what the place stands for, and what is right of it
abbrev pub ListIsAround : List Level → Status → Type 0
ListIsAround levels status = pending_list (plug levels status)
    ≡ front_of levels ++ (list_below (way_of levels) (spent_at levels) status ++ back_of levels)

-- credits and ends
abbrev pub IsCreditOrEnd : Element → Type 0
IsCreditOrEnd (CreditElement k rs) = Unit {0}
IsCreditOrEnd (EndOf s) = Unit {0}
IsCreditOrEnd (Plain p f) = ⊥
IsCreditOrEnd (Catch s u c r p f) = ⊥
IsCreditOrEnd (Findall s u rs l p f) = ⊥
IsCreditOrEnd (End p b) = ⊥

-- the front is that of the levels from a scope on up, and then credits and ends alone
pub record FrontIsQuiet (scope : Option ℕ) (levels : List Level) : Type 0 where
  pub joined : front_of levels ≡ front_of (levels_from scope levels) ++ front_below scope levels
  pub quiet : Each IsCreditOrEnd (front_below scope levels)
