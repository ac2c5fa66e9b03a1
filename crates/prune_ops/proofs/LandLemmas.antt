-- A ball that lands.
use Rattle.std.proofs.Common.{◌≡◌, ℕ, List, [], ◌∷◌, length, Some, refl, sym, ap, ◌∙◌, subst}
use Rattle.run_model.specs.Machine.Entries.{Entry}
use Rattle.tree_model.specs.Credits.{Credit}
use Rattle.tree_model.specs.Nodes.{Dormant, Node, none, Status, Pending, Inner, single}
use Rattle.tree_model.specs.Levels.{Level, plug, Place, place_at}
use Rattle.tree_model.specs.Closing.{with_right, wakes}
use Rattle.tree_nodes.specs.Bodies.{Body, Branching, Reading, new_node}
use Rattle.tree_nodes.specs.Changes.{SetsCell, Adds}
use Rattle.tree_nodes.specs.Rows.{InnerCell, row_of_node}
use Rattle.tree_nodes.specs.TreeTables.{NodesView, IsTableOf}
use Rattle.tree_nodes.proofs.AddLemmas.{way_to}
use Rattle.tree_nodes.proofs.PlaceLemmas.{taken_out}
use Rattle.tree_closing.specs.Sleeping.{right_of, IsBesideSleeper}
use Rattle.tree_closing.specs.Closings.{ClosesHere}
use Rattle.tree_closing.proofs.SleeperLemmas.{Guards, one_beside}
use Rattle.tree_closing.proofs.ChangeLemmas.{as_sleeper, back_again, hang_together}
use Rattle.prune_ops.specs.Falls.{ReadsBeside, LandsBeside}

module _ (old mid more new : NodesView) (b : Place) (total : Credit) (body : Body) (n : ℕ) (sleeper : IsBesideSleeper old.rows b)
    (adds : Adds old mid (Some (right_of b)) n body) (set : SetsCell mid more (right_of b) 0 (InnerCell n)) (closed : ClosesHere more new b total) where
  module _ (read : Reading) (v : Level) (up : List Level) (was : Status) (e slept : Entry) (p : place_at v ≡ b) (s : IsTableOf old read (plug (v ∷ up) was))
      (g : Guards v slept) (reads : ReadsBeside read old.rows b body e) where
    abbrev w : Level
    w = record { number = v.number; kind = v.kind; left = (v.spent, was) ∷ []; spent = g.spent; right = none }

    asleep : IsTableOf old read (plug (w ∷ up) (Pending Dormant slept))
    asleep = subst (IsTableOf old read) (as_sleeper v up was slept g) s

    woken : IsTableOf new read (wakes n v up total e).root
    woken =
        let t = taken_out old.rows read (w ∷ up) (Pending Dormant slept) asleep.placed in
        let below = adds read w up (Pending Dormant slept) t.way (ap right_of p) asleep (way_to old.rows read (w ∷ up) t.way _ t.around) in
        let row = ap (row_of_node old.rows) (ap (λ (q : Place). q.node) (sym p)) ∙ t.around.1.1.1.row in
        let node : new_node read t.way n body ≡ single n e = ap (λ (x : Branching). new_node read x n body) t.around.1.1.0
        ∙ reads _ up t.around.1.0 row refl (way_to old.rows read up t.around.1.0 _ t.around.1.1.2) (hang_together old.rows read up t.around.1.0 _ t.around.1.1.2) n in
        let named = subst (λ (x : Node). IsTableOf mid read (plug (w ∷ up) (Inner x))) node below in
        let linked = set read w up (Inner (single n e)) (ap right_of p) named in
        let back = subst (IsTableOf more read) (back_again v up was slept g (Inner (single n e))) linked in
        closed read (with_right (Inner (single n e)) v) up was p back

  pub lands_beside : n ≡ length old.rows → LandsBeside old new b total body
  lands_beside number read v up was e p s snd reads =
      let g = one_beside old b read v up was p s sleeper.first sleeper.asleep snd in
      subst (λ (k : ℕ). IsTableOf new read (wakes k v up total e).root) number (woken read v up was e g.entry p s g.asleep reads)
