-- A cut: a new node below a place, with an inference more, and everything to the right.
use Rattle.std.proofs.Common.{◌≡◌, ℕ, ◌+◌, true, ◌∷◌, length, Option, Some, None, refl, sym, ap, ◌∙◌, subst}
use Rattle.std.specs.Option.{option_map}
use Rattle.std.specs.Prelude.{IsSome, is_some}
use Rattle.tree_model.specs.Nodes.{Status, Inner}
use Rattle.tree_model.specs.Levels.{plug, Place}
use Rattle.tree_model.specs.Pruning.{pruned}
use Rattle.tree_nodes.specs.Bodies.{Body, new_node}
use Rattle.tree_nodes.specs.Rows.{AlternativeCell, InnerCell, cell_at}
use Rattle.tree_nodes.specs.Changes.{SetsCell, Adds, is_pending}
use Rattle.tree_nodes.specs.TreeTables.{cell_of, NodesView, IsTableOf, Stand}
use Rattle.tree_nodes.proofs.AddLemmas.{way_to}
use Rattle.tree_nodes.proofs.LocateLemmas.{IsAt, located}
use Rattle.tree_nodes.proofs.PlaceLemmas.{IsPlaced, taken_out}
use Rattle.tree_nodes.proofs.PutLemmas.{is_some_cell}
use Rattle.tree_nodes.proofs.WalkLemmas.{cell_here}
use Rattle.prune_ops.specs.Prunes.{PrunesRight}
use Rattle.prune_ops.specs.Cuts.{CutsAt}

pub open_there : (o : Option (ℕ × AlternativeCell)) → is_pending o ≡ true → IsSome o
open_there None h = absurd cc
open_there (Some c) h = refl

-- the new node is below the place
module _ (old mid : NodesView) (a : Place) (st : Stand old) (there : IsSome (cell_at old.rows a)) (n : ℕ) (body : Body) (adds : Adds old mid (Some a) n body) where
  abbrev here : IsAt st.root a
  here = let c = is_some_cell (cell_at old.rows a) there in located old st.read st.root a c.0 st.stands c.1

  stands : IsTableOf old st.read (plug (here.level ∷ here.above) here.status)
  stands = subst (IsTableOf old st.read) here.is st.stands

  placed : IsPlaced old.rows st.read (here.level ∷ here.above) here.status
  placed = taken_out old.rows st.read (here.level ∷ here.above) here.status stands.placed

  abbrev node : Status
  node = Inner (new_node st.read placed.way n body)

  below : IsTableOf mid st.read (plug (here.level ∷ here.above) node)
  below = adds st.read here.level here.above here.status placed.way here.at stands (way_to old.rows st.read (here.level ∷ here.above) placed.way _ placed.around)

  pub linked : cell_at mid.rows a ≡ Some (here.level.spent, InnerCell n)
  linked = ap (cell_at mid.rows) (sym here.at) ∙ cell_here mid st.read here.level here.above node below

  pub still_there : (more : NodesView) (spent : ℕ) → SetsCell mid more a spent (InnerCell n) → IsSome (cell_at more.rows a)
  still_there more spent set =
      let now = set st.read here.level here.above node here.at below in
      ap is_some (ap (cell_at more.rows) (sym here.at) ∙ cell_here more st.read (record here.level { spent = spent }) here.above node now)

-- with one inference more, and what is to the right pruned
pub cuts : (old mid more new : NodesView) (a : Place) (scope spent : ℕ) (body : Body) (n : ℕ) → n ≡ length old.rows
    → option_map (λ c. c.0) (cell_at old.rows a) ≡ Some spent → Adds old mid (Some a) n body → SetsCell mid more a (spent + 1) (InnerCell n)
    → PrunesRight more new a scope → CutsAt old new a scope body
cuts old mid more new a scope spent body n number there adds set prunes read v up was way at s w =
    let was_spent : cell_at old.rows a ≡ Some (v.spent, cell_of was) = ap (cell_at old.rows) (sym at) ∙ cell_here old read v up was s in
    let same : Some spent ≡ Some v.spent = sym there ∙ ap (λ (o : Option (ℕ × AlternativeCell)). option_map (λ c. c.0) o) was_spent in
    let spends : spent ≡ v.spent = cc same in
    let node : Status = Inner (new_node read way n body) in
    let below = adds read v up was way at s w in
    let linked = set read v up node at below in
    let cut = prunes read (record v { spent = spent + 1 }) up node at linked in
    subst (λ (m : ℕ). IsTableOf new read (plug (pruned scope (record v { spent = v.spent + 1 } ∷ up)) (Inner (new_node read way m body)))) number
    (subst (λ (k : ℕ). IsTableOf new read (plug (pruned scope (record v { spent = k + 1 } ∷ up)) node)) spends cut)
