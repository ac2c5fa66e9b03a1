-- The variables of each entry of a tree are below its next number, so that a new one is new.
use Rattle.run_model.specs.Laws.Numbering.{IsEntryNumbered}
use Rattle.tree_model.specs.Nodes.{Node, Numbered, Alternatives, none, alternative, Status, Pending, Inner, Closed}
use Rattle.tree_model.specs.TreeStates.{TreeState}

abbrev mutual
  pub IsNumberedStatus : Status → Type 0
  IsNumberedStatus (Pending hold entry) = IsEntryNumbered entry
  IsNumberedStatus (Inner node) = IsNumberedNode node
  IsNumberedStatus (Closed credit) = Unit {0}

  pub IsNumberedNode : Node → Type 0
  IsNumberedNode (Numbered n kind alternatives) = AreNumbered alternatives

  pub AreNumbered : Alternatives → Type 0
  AreNumbered none = Unit {0}
  AreNumbered (alternative spent status others) = IsNumberedStatus status × AreNumbered others

abbrev pub IsNumberedTree : TreeState → Type 0
IsNumberedTree t = IsNumberedStatus t.root
