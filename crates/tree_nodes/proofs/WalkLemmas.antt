-- Levels of a tree on the way up, as the table has them.
use Rattle.std.proofs.Common.{◌≡◌, ◌<◌, ℕ, List, [], ◌∷◌, ◌++◌, Option, Some, None, refl, sym, ap, ◌∙◌, subst}
use Rattle.std.specs.Option.{option_map}
use Rattle.std.specs.Prelude.{IsSome, is_some}
use Rattle.tree_model.specs.Nodes.{Numbered, Status, Pending, Inner, Closed}
use Rattle.tree_model.specs.Levels.{Level, plug, Place, place_at}
use Rattle.tree_nodes.specs.Bodies.{Reading}
use Rattle.tree_nodes.specs.Rows.{AlternativeCell, StoredNode, row_of_node, node_parent, alternatives_at, cell_at}
use Rattle.tree_nodes.specs.TreeTables.{cell_of, cells_of, IsIn, NodesView, IsTableOf, Stand, above_of}
use Rattle.tree_nodes.specs.RowViews.{inner_of}
use Rattle.tree_nodes.specs.Puts.{inner_at}
use Rattle.tree_nodes.specs.Folds.{IsDeeper}
use Rattle.tree_nodes.proofs.LocateLemmas.{IsAt, located}
use Rattle.tree_nodes.proofs.PlaceLemmas.{left_cells, taken_out}
use Rattle.tree_nodes.proofs.PutLemmas.{cell_there, is_some_cell}

-- the cells of the node at a place, and what is at the place
pub cells_beside : (nodes : NodesView) (read : Reading) (v : Level) (up : List Level) (was : Status) → IsTableOf nodes read (plug (v ∷ up) was)
    → alternatives_at (row_of_node nodes.rows v.number) ≡ left_cells v.left ++ (v.spent, cell_of was) ∷ cells_of v.right
cells_beside nodes read v up was s = let k = taken_out nodes.rows read (v ∷ up) was s.placed in ap alternatives_at k.around.1.1.1.row

pub cell_here : (nodes : NodesView) (read : Reading) (v : Level) (up : List Level) (was : Status) → IsTableOf nodes read (plug (v ∷ up) was)
    → cell_at nodes.rows (place_at v) ≡ Some (v.spent, cell_of was)
cell_here nodes read v up was s = let k = taken_out nodes.rows read (v ∷ up) was s.placed in cell_there nodes.rows read v up k.way (cell_of was) k.around

-- the parent of a node is the alternative of the level above
pub parent_here : (nodes : NodesView) (read : Reading) (v : Level) (up : List Level) (was : Status) (parent : Option Place)
    → IsTableOf nodes read (plug (v ∷ up) was) → node_parent nodes.rows v.number ≡ Some parent → above_of up ≡ parent
parent_here nodes read v up was parent s e =
    let k = taken_out nodes.rows read (v ∷ up) was s.placed in
    let same : Some (above_of up) ≡ Some parent = sym (ap (λ (o : Option StoredNode). option_map (λ r. r.parent) o) k.around.1.1.1.row) ∙ e in
    cc same

-- one level up
pub record IsUp (v : Level) (up : List Level) (a : Place) : Type 0 where
  pub level : Level
  pub above : List Level
  pub is : up ≡ level ∷ above
  pub at : place_at level ≡ a

pub one_level_up : (v : Level) (up : List Level) (a : Place) → above_of up ≡ Some a → IsUp v up a
one_level_up v [] a e = absurd (cc e)
one_level_up v (u ∷ up) a e = record { level = u; above = up; is = refl; at = cc e }

pub no_level_up : (up : List Level) → above_of up ≡ None → up ≡ []
no_level_up [] e = refl
no_level_up (u ∷ up) e = absurd (cc e)

-- the node below an alternative is there
module _ (nodes : NodesView) (read : Reading) (root : Status) (a : Place) (s : IsTableOf nodes read root) (k : IsAt root a) where
  below_status : (there : Status) → k.status ≡ there → IsDeeper nodes.rows a.node (inner_of (cell_of there))
  below_status (Pending hold entry) e = tt
  below_status (Closed credit) e = tt
  below_status (Inner (Numbered m kind others)) e =
      let t = taken_out nodes.rows read (k.level ∷ k.above) k.status (subst (IsIn nodes.rows read [] None) k.is s.placed) in
      let h : IsIn nodes.rows read t.way (Some (place_at k.level)) (Inner (Numbered m kind others)) = subst (IsIn nodes.rows read t.way (Some (place_at k.level))) e t.inside in
      (ap is_some h.1.0, subst (λ (p : Place). p.node < m) k.at h.1.2)

  pub cell_at_place : cell_at nodes.rows a ≡ Some (k.level.spent, cell_of k.status)
  cell_at_place = ap (cell_at nodes.rows) (sym k.at) ∙ cell_here nodes read k.level k.above k.status (subst (IsTableOf nodes read) k.is s)

pub below_there : (nodes : NodesView) (a : Place) → Stand nodes → IsSome (cell_at nodes.rows a) → IsDeeper nodes.rows a.node (inner_at (cell_at nodes.rows a))
below_there nodes a st there =
    let c = is_some_cell (cell_at nodes.rows a) there in
    let k = located nodes st.read st.root a c.0 st.stands c.1 in
    subst (λ (o : Option (ℕ × AlternativeCell)). IsDeeper nodes.rows a.node (inner_at o)) (sym (cell_at_place nodes st.read st.root a st.stands k))
    (below_status nodes st.read st.root a st.stands k k.status refl)
