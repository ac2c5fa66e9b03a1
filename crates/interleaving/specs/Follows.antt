-- How the list of a tree may change from one event to the next.
use Rattle.std.specs.Prelude.{◌≡◌, ℕ, ◌+◌, ◌≤◌, true, List, [], ◌∷◌}
use Rattle.run_model.specs.Programs.Clauses.{Clause}
use Rattle.tree_model.specs.Credits.{greatest}
use Rattle.tree_model.specs.Elements.{Element, Credit, Plain, EndOf, Catch, Findall, End}
use Rattle.interleaving.specs.Machine.{free_steps, run, seen}
use Rattle.interleaving.specs.Scopes.{Shared, scoped}
use Rattle.interleaving.specs.Sound.{IsSound}
use Rattle.tree_model.specs.Levels.{Place}
use Rattle.tree_model.specs.Events.{Nodes}
use Rattle.tree_model.specs.TreeStates.{TreeState}
use Rattle.tree_model.specs.Legality.{is_legal}
use Rattle.tree_model.specs.Effects.{after_event}
use Rattle.tree_model.specs.PendingLists.{pending_list}
use Rattle.tree_model.specs.SoundTrees.{IsSoundTree}

-- the inferences of the credits in front of the first entry that is to be taken
abbrev pub lead : List Element → ℕ
lead [] = 0
lead (Credit k rs ∷ xs) = k + lead xs
lead (EndOf s ∷ xs) = lead xs
lead (Catch s u c r p f ∷ xs) = lead xs
lead (Plain p f ∷ xs) = 0
lead (Findall s u results list p f ∷ xs) = 0
lead (End p b ∷ xs) = 0

-- the new list runs like the old one as far as counts go, and no fewer inferences are in front of it
pub record Follows (clauses : List Clause) (xs ys : List Element) : Type 0 where
  pub alike : (n : ℕ) (w : Shared) → n ≤ greatest → seen (run (scoped clauses) n w (free_steps (scoped clauses) [] xs))
      ≡ seen (run (scoped clauses) n w (free_steps (scoped clauses) [] ys))
  pub lead : (m : ℕ) → m ≤ greatest → m ≤ lead xs → m ≤ lead ys

-- an alternative becomes the nodes of its private run
abbrev pub PublishChangesList : Type 0
PublishChangesList =
    (t : TreeState) (w : ℕ) (a : Place) (k : ℕ) (sizes : List ℕ) → IsSoundTree t → IsSoundTree (after_event t (Nodes w a k sizes))
    → IsSound (pending_list t.root) → IsSound (pending_list (after_event t (Nodes w a k sizes)).root) → is_legal t (Nodes w a k sizes)
    ≡ true
    → Follows t.job.clauses (pending_list t.root) (pending_list (after_event t (Nodes w a k sizes)).root)
