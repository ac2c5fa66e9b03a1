-- The search tree (Warren's SRI model, 1987): nodes stand for choice points, and their alternatives are explored by
-- several workers at once.
use Rattle.std.specs.Prelude.{ℕ, ◌+◌, List, [], ◌∷◌}
use Rattle.run_model.specs.Machine.Entries.{Entry}
use Rattle.tree_model.specs.Credits.{Credit, no_credit, added}

pub data Kind : Type 0 where
  ChoiceNode : Kind
  -- the goal that is guarded, and the recovery
  CatchNode : Kind
  -- the goal whose solutions are gathered, and what comes after
  FindallNode : Kind
  -- a query's goals, and its end
  QueryNode : Kind

-- what a worker must wait for before it goes on: a cut or a ball, to the node that is its scope; or that all to the
-- left has closed
pub data Gate : Type 0 where
  CutGate : ℕ → Gate
  BallGate : ℕ → Gate
  WorldGate : Gate
  -- the inferences above alone reach the budget
  FrozenGate : Gate

-- who has the entry of an alternative
pub data Hold : Type 0 where
  Ready : Hold
  TakenBy : ℕ → Hold
  Waiting : Gate → Hold
  -- a recovery, what follows a findall, or the end of a query, while the first alternative is open
  Dormant : Hold

mutual
  -- number, kind and alternatives
  pub data Node : Type 0 where
    Numbered : ℕ → Kind → Alternatives → Node

  -- from left to right, each with the inferences taken on it since it was handed out
  pub data Alternatives : Type 0 where
    none : Alternatives
    alternative : ℕ → Status → Alternatives → Alternatives

  pub data Status : Type 0 where
    -- one entry, its scopes and marks being node numbers
    Pending : Hold → Entry → Status
    Inner : Node → Status
    Closed : Credit → Status

-- how many nodes there are
abbrev mutual
  pub nodes_in : Node → ℕ
  nodes_in (Numbered n kind alternatives) = 1 + nodes_among alternatives

  pub nodes_among : Alternatives → ℕ
  nodes_among none = 0
  nodes_among (alternative spent status others) = nodes_below status + nodes_among others

  pub nodes_below : Status → ℕ
  nodes_below (Pending hold entry) = 0
  nodes_below (Inner node) = nodes_in node
  nodes_below (Closed credit) = 0

-- the credits that are at and below an alternative, added in order
abbrev mutual
  pub credits_in : Node → Credit
  credits_in (Numbered n kind alternatives) = credits_among alternatives

  pub credits_among : Alternatives → Credit
  credits_among none = no_credit
  credits_among (alternative spent status others) = added (credits_below status) (credits_among others)

  pub credits_below : Status → Credit
  credits_below (Pending hold entry) = no_credit
  credits_below (Inner node) = credits_in node
  credits_below (Closed credit) = credit

-- alternatives that are Ready or Dormant
abbrev pub entry_alternatives : Hold → List Entry → Alternatives
entry_alternatives hold [] = none
entry_alternatives hold (e ∷ es) = alternative 0 (Pending hold e) (entry_alternatives hold es)

-- a node with one alternative
abbrev pub single : ℕ → Entry → Node
single n e = Numbered n ChoiceNode (alternative 0 (Pending Ready e) none)
