-- An alternative that gets the entry of its branch back.
use Rattle.std.proofs.Common.{◌≡◌, ℕ, ◌∷◌, refl, sym, subst}
use Rattle.tree_model.specs.Levels.{Place, plug}
use Rattle.tree_model.specs.Nodes.{TakenBy, Pending}
use Rattle.tree_nodes.specs.Bodies.{Branching}
use Rattle.tree_nodes.specs.Puts.{IsStatePut}
use Rattle.tree_nodes.specs.Rows.{PendingCell}
use Rattle.tree_nodes.specs.TakingBack.{TakesBack}
use Rattle.tree_nodes.specs.TreeTables.{cell_of, NodesView, IsTableOf}
use Rattle.tree_nodes.proofs.AddLemmas.{way_same}
use Rattle.tree_nodes.proofs.PlaceLemmas.{taken_out}
use Rattle.tree_nodes.proofs.PutLemmas.{entry_back}

pub takes_back : (old new : NodesView) (a : Place) (w spent : ℕ) → IsStatePut old.rows old.live new.rows new.live a (spent, PendingCell (TakenBy w))
    → new.first ≡ old.first → TakesBack old new a w spent
takes_back old new a w spent p f read v up was way e s down =
    let P : Place → Type 0 = λ b. IsStatePut old.rows old.live new.rows new.live b (spent, PendingCell (TakenBy w)) in
    let k = taken_out old.rows read (v ∷ up) was s.placed in
    subst (λ (x : Branching). IsTableOf new read (plug (record v { spent = spent } ∷ up) (Pending (TakenBy w) (read x))))
    (way_same old.rows read (v ∷ up) k.way way (cell_of was) k.around down)
    (entry_back old new read v up was (spent, PendingCell (TakenBy w)) s (subst P (sym e) p) f (TakenBy w) refl)
