-- A private run that leaves nothing, or a result, takes its place in the list to a credit.
use Rattle.std.specs.Prelude.{◌≡◌, ℕ, true, List, None}
use Rattle.run_model.specs.Programs.Clauses.{Clause}
use Rattle.tree_model.specs.Credits.{credit_of}
use Rattle.tree_model.specs.Nodes.{Closed}
use Rattle.tree_model.specs.Levels.{Spot, plug, levels_of}
use Rattle.tree_model.specs.Elements.{Element}
use Rattle.tree_model.specs.TreeStates.{TreeState}
use Rattle.tree_model.specs.Legality.{run_of, run_is_empty, run_gives_result}
use Rattle.tree_model.specs.Effects.{results_of}
use Rattle.tree_model.specs.PendingLists.{pending_list}
use Rattle.tree_model.specs.SoundTrees.{IsOpen, profile, IsSoundTree}
use Rattle.tree_model.specs.CaughtTrees.{IsCaughtTree}
use Rattle.interleaving.specs.Sound.{IsSound}
use Rattle.interleaving.specs.Follows.{Follows}
use Rattle.tree_model.specs.Nodes.{Pending}

-- the list of the tree whose place has closed follows that of the tree, and has sound names
pub record Reaches (clauses : List Clause) (xs ys : List Element) : Type 0 where
  pub follows : Follows clauses xs ys
  pub sound : IsSound ys

-- an open place of a tree
pub record IsOpenPlace (t : TreeState) (s : Spot) : Type 0 where
  pub inside : plug (levels_of s) (Pending s.hold s.entry) ≡ t.root
  pub opened : profile (Pending s.hold s.entry) ≡ IsOpen

abbrev pub EmptyReaches : Type 0
EmptyReaches = (t : TreeState) (s : Spot) (k : ℕ) → IsSoundTree t → IsCaughtTree t → IsSound (pending_list t.root) → IsOpenPlace t s
    → t.halted ≡ None → run_is_empty (run_of t s k) ≡ true → Reaches t.job.clauses (pending_list t.root)
    (pending_list (plug (levels_of s) (Closed (credit_of k))))

abbrev pub CollectedReaches : Type 0
CollectedReaches =
    (t : TreeState) (s : Spot) (k : ℕ) → IsSoundTree t → IsCaughtTree t → IsSound (pending_list t.root) → IsOpenPlace t s → t.halted
    ≡ None → run_gives_result (run_of t s k) ≡ true
    → Reaches t.job.clauses (pending_list t.root)
    (pending_list (plug (levels_of s) (Closed (record { inferences = k; answers = 0; records = results_of (run_of t s k) }))))
