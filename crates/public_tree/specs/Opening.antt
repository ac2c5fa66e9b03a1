-- A tree that is opened for a job.
use Rattle.std.specs.Prelude.{◌≡◌, List, [], ◌∷◌, length, Option, Some, None}
use Rattle.std.specs.Arc.{arc_value}
use Rattle.std.specs.Global.{Global}
use Rattle.std.specs.declared.sync.Arc.{Arc}
use Rattle.run_model.specs.Programs.Jobs.{Query, Job}
use Rattle.tree_model.specs.Credits.{no_credit}
use Rattle.tree_model.specs.Nodes.{Inner, Closed}
use Rattle.tree_model.specs.TreeStates.{opened_node}
use Rattle.tree_nodes.specs.declared.body.NodeBody.{NodeBody}
use Rattle.tree_nodes.specs.Bodies.{Body, Reading, IsWhole, body_view, new_node}
use Rattle.tree_nodes.specs.TreeTables.{NodesView, IsTableOf}
use Rattle.public_tree.specs.PublicTrees.{PublicView}
use Rattle.public_tree.specs.Following.{IsOpened}

abbrev pub opening_body : Option (Arc NodeBody Global) → Option Body
opening_body None = None
opening_body (Some b) = Some (body_view (arc_value b))

abbrev pub IsWholeBody : Option Body → Type 0
IsWholeBody None = Unit {0}
IsWholeBody (Some body) = IsWhole body

-- a first node, or none
pub record IsFirstNode (body : Body) (nodes : NodesView) : Type 0 where
  pub stands : (read : Reading) → IsTableOf nodes read (Inner (new_node read [] 0 body))
  pub one : length nodes.rows ≡ 1

pub record HasNoNode (nodes : NodesView) : Type 0 where
  pub stands : (read : Reading) → IsTableOf nodes read (Closed no_credit)
  pub none_drawn : length nodes.rows ≡ 0

abbrev pub StandsFirst : Option Body → NodesView → Type 0
StandsFirst None nodes = HasNoNode nodes
StandsFirst (Some body) nodes = IsFirstNode body nodes

-- the branches of the first node read as the goals and the end of the first query
abbrev pub Opens : Option Body → PublicView → Type 0
Opens None p = (job : Job) (read : Reading) → job.queries ≡ [] → IsOpened job read p
Opens (Some body) p =
    (job : Job) (read : Reading) (q : Query) (qs : List Query) → job.queries ≡ q ∷ qs → new_node read [] 0 body ≡ opened_node 0 q → IsOpened job read p
