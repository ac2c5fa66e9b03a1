-- Where something wakes as a closing comes to rest.
use Rattle.std.specs.Prelude.{◌≡◌, true, List, [], ◌∷◌}
use Rattle.tree_model.specs.Credits.{Credit}
use Rattle.tree_model.specs.Levels.{Level, Place, plug, place_at}
use Rattle.tree_model.specs.Nodes.{Status}
use Rattle.tree_model.specs.SoundTrees.{IsSound}
use Rattle.tree_nodes.specs.Bodies.{Reading}
use Rattle.tree_nodes.specs.TreeTables.{NodesView, IsTableOf}
use Rattle.tree_closing.specs.Closings.{ComesToRest, is_waking}
use Rattle.tree_closing.specs.Sleeping.{IsBesideSleeper}
use Rattle.tree_closing.specs.declared.way_up.Beside.{Beside}
use Rattle.task_stops.specs.WokenBodies.{IsNoCatch}

-- what sleeps there is no recovery
abbrev pub WakingClosingsAreNoCatch : Type 0
WakingClosingsAreNoCatch =
    (nodes : NodesView) (read : Reading) (v : Level) (up : List Level) (was : Status) (a b : Place) (c total : Credit) (beside : Beside)
    → place_at v ≡ a → IsTableOf nodes read (plug (v ∷ up) was) → IsSound [] (plug (v ∷ up) was) → ComesToRest nodes a c b total beside
    → is_waking beside ≡ true → IsBesideSleeper nodes.rows b → IsNoCatch nodes.rows b
