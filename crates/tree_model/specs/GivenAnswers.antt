-- The answers of a tree, and that none stands to the right of what is not closed.
use Rattle.std.specs.Prelude.{◌≡◌, ◌⊎◌, ℕ, ◌+◌, true}
use Rattle.tree_model.specs.Nodes.{Node, Numbered, Alternatives, none, alternative, Status, Pending, Inner, Closed}
use Rattle.tree_model.specs.Orders.{is_closed}

-- so many answers were given below a status
abbrev mutual
  pub answers_in : Status → ℕ
  answers_in (Pending hold entry) = 0
  answers_in (Inner node) = answers_of_node node
  answers_in (Closed credit) = credit.answers

  pub answers_of_node : Node → ℕ
  answers_of_node (Numbered n kind alternatives) = answers_among alternatives

  pub answers_among : Alternatives → ℕ
  answers_among none = 0
  answers_among (alternative spent status others) = answers_in status + answers_among others

-- answers are given from left to right
abbrev mutual
  pub AreInOrder : Status → Type 0
  AreInOrder (Pending hold entry) = Unit {0}
  AreInOrder (Inner node) = NodeInOrder node
  AreInOrder (Closed credit) = Unit {0}

  pub NodeInOrder : Node → Type 0
  NodeInOrder (Numbered n kind alternatives) = AmongInOrder alternatives

  pub AmongInOrder : Alternatives → Type 0
  AmongInOrder none = Unit {0}
  AmongInOrder (alternative spent status others) = AreInOrder status × ((is_closed status ≡ true) ⊎ (answers_among others ≡ 0))
      × AmongInOrder others
