-- A tree that has grown by an event.
use Rattle.std.proofs.Common.{◌≡◌, true, sym, ap, ◌∙◌, subst}
use Rattle.tree_model.specs.Closing.{Grown}
use Rattle.tree_model.specs.Effects.{grown, after_allowed, after_event}
use Rattle.tree_model.specs.Events.{Event}
use Rattle.tree_model.specs.Legality.{is_legal}
use Rattle.tree_model.specs.TreeStates.{TreeState}
use Rattle.tree_nodes.specs.Bodies.{Reading}
use Rattle.tree_nodes.specs.TreeTables.{IsTableOf}
use Rattle.interleaving.proofs.LegalLemmas.{event_sound}
use Rattle.public_tree.specs.PublicTrees.{PublicView, IsRooted, IsPublicOf}
use Rattle.public_tree.specs.PublicClosing.{IsGrownTo}
use Rattle.public_tree.proofs.HandOutLemmas.{KeepsOthers}

-- the nodes have grown, and nothing else is different
pub stands_grown : (old new : PublicView) (e : Event) (read : Reading) (t : TreeState) (g : Grown) → KeepsOthers old new → new.log.stopped ≡ old.log.stopped
    → IsGrownTo new.nodes read g → IsPublicOf old read t → after_allowed t e ≡ grown g t → is_legal t e ≡ true → IsPublicOf new read (after_event t e)
unfolding after_event
stands_grown old new e read t g others stopped now h is legal =
    record {
      placed = subst (λ (x : TreeState). IsTableOf new.nodes read x.root) (sym is) now.placed;
      next = now.next ∙ ap (λ (x : TreeState). x.next) (sym is);
      lost = others.lost ∙ (h.lost ∙ ap (λ (x : TreeState). x.lost) (sym is));
      halted = others.halted ∙ (h.halted ∙ ap (λ (x : TreeState). x.halted) (sym is));
      budget = others.budget ∙ (h.budget ∙ ap (λ (x : TreeState). x.budget) (sym is));
      window = others.window ∙ (h.window ∙ ap (λ (x : TreeState). x.window) (sym is));
      stopped = stopped ∙ (h.stopped ∙ ap (λ (x : TreeState). x.stopped) (sym is));
      sound = event_sound t e h.sound legal;
      rooted = subst (λ (x : TreeState). IsRooted x.root) (sym is) now.rooted;
    }
