-- A tree to begin with.
use Rattle.std.proofs.Common.{◌≡◌, ℕ, zero, suc, ◌≤◌, false, List, [], length, Option, Some, None, refl, sym, ap, ◌∙◌, subst, arith}
use Rattle.run_model.specs.Programs.Jobs.{Query}
use Rattle.tree_model.specs.Credits.{no_credit}
use Rattle.tree_model.specs.Nodes.{Node, Inner, Closed, nodes_below}
use Rattle.tree_model.specs.TreeStates.{opening_root}
use Rattle.tree_nodes.specs.Bodies.{Body, Reading, new_node}
use Rattle.tree_nodes.specs.Rows.{row_of_node}
use Rattle.tree_nodes.specs.Changes.{AddsFirst}
use Rattle.tree_nodes.specs.TreeTables.{NodesView, IsTableOf}
use Rattle.public_tree.specs.PublicTrees.{PublicView}
use Rattle.public_tree.specs.Opening.{IsFirstNode, HasNoNode, StandsFirst, Opens}

no_row : (n : ℕ) → row_of_node [] n ≡ None
no_row zero = refl
no_row (suc n) = refl

nothing_stands : (read : Reading) → IsTableOf (record { rows = []; first = None; live = 0; spare = 0 }) read (Closed no_credit)
nothing_stands read = record {
  placed = tt;
  rooted = refl;
  distinct = λ n. let z : 0 ≤ 1 = omega arith in z;
  others = λ n e. no_row n;
  live = refl;
}

pub has_no_node : HasNoNode (record { rows = []; first = None; live = 0; spare = 0 })
has_no_node = record { stands = nothing_stands; none_drawn = refl }

pub first_node : (new : NodesView) (n : ℕ) (body : Body) → n ≡ 0 → AddsFirst (record { rows = []; first = None; live = 0; spare = 0 }) new n body
    → length new.rows ≡ 1 → IsFirstNode body new
first_node new n body e adds l = record {
  stands = λ read. subst (λ (k : ℕ). IsTableOf new read (Inner (new_node read [] k body))) e (adds read no_credit (nothing_stands read));
  one = l;
}

pub opens : (first : Option Body) (p : PublicView) → StandsFirst first p.nodes → p.lost ≡ [] → p.halted ≡ None → p.log.stopped ≡ false → p.log.events ≡ []
    → Opens first p
opens None p h lost halted stopped events = λ job read e. record {
  placed = subst (λ (qs : List Query). IsTableOf p.nodes read (opening_root qs)) (sym e) (h.stands read);
  next = h.none_drawn ∙ ap (λ (qs : List Query). nodes_below (opening_root qs)) (sym e);
  lost = lost;
  halted = halted;
  stopped = stopped;
  events = events;
}
opens (Some body) p h lost halted stopped events = λ job read q qs e same. record {
  placed = subst (λ (ks : List Query). IsTableOf p.nodes read (opening_root ks)) (sym e)
      (subst (λ (n : Node). IsTableOf p.nodes read (Inner n)) same (h.stands read));
  next = h.one ∙ ap (λ (ks : List Query). nodes_below (opening_root ks)) (sym e);
  lost = lost;
  halted = halted;
  stopped = stopped;
  events = events;
}
