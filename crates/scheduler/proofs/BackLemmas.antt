-- What comes back by one event, where the tree goes on.
use Rattle.std.proofs.Common.{◌≡◌, ℕ, Bool, true, false, cond, refl, ap, ◌∙◌}
use Rattle.std.specs.Prelude.{◌&&◌, not, is_none}
use Rattle.interleaving.proofs.UnchangedPlaceLemmas.{place_self}
use Rattle.public_tree.specs.PublicClosing.{closing_event}
use Rattle.public_tree.specs.PublicTrees.{is_going}
use Rattle.public_tree.specs.declared.closing.TaskEnd.TheVariants.{Nothing, Result}
use Rattle.public_tree.specs.declared.prune.Pruning.TheVariants as pruning
use Rattle.task_publishing.specs.TaskRuns.{Publishes}
use Rattle.scheduler.specs.GivenBack.{IsGivenBackAlone}
use Rattle.tree_core.specs.Histories.{History, state_of, while_going, with_event}
use Rattle.tree_core.specs.Turns.{pruning_of, where_legal}
use Rattle.tree_model.specs.Events.{Event, Nodes, Prune, Suspend}
use Rattle.tree_model.specs.Legality.{is_allowed, is_legal}
use Rattle.tree_model.specs.Levels.{Place}
use Rattle.tree_model.specs.TreeStates.{ended}
use Rattle.task_world.proofs.EventLemmas.{and_apart}

pub noted_going : (h new : History) (e : Event) → is_going (state_of h) ≡ true → new ≡ while_going e h → new ≡ with_event e h
noted_going h new e going noted = noted ∙ ap (λ (b : Bool). cond b (with_event e h) h) going

module _ (h new : History) (w : ℕ) (a : Place) (going : is_going (state_of h) ≡ true) where
  pub waits : new ≡ while_going (Suspend w a false) h → IsGivenBackAlone h new a
  waits noted = record { back = Suspend w a false; noted = noted_going h new (Suspend w a false) going noted; gives = place_self a; alone = refl }

  pub publishes : (k : ℕ) → Publishes h new w a k → IsGivenBackAlone h new a
  publishes k p = record { back = Nodes w a k p.sizes; noted = noted_going h new (Nodes w a k p.sizes) going p.noted; gives = place_self a; alone = refl }

  pub closes : (k : ℕ) → new ≡ while_going (closing_event Nothing w a k) h → IsGivenBackAlone h new a
  closes k noted = record { back = closing_event Nothing w a k; noted = noted_going h new (closing_event Nothing w a k) going noted; gives = place_self a; alone = refl }

  pub collects : (k : ℕ) → new ≡ while_going (closing_event Result w a k) h → IsGivenBackAlone h new a
  collects k noted = record { back = closing_event Result w a k; noted = noted_going h new (closing_event Result w a k) going noted; gives = place_self a; alone = refl }

  -- a cut or a ball was taken
  pruned_legal : (b : Bool) → pruning.Taken ≡ cond b pruning.Taken pruning.NotCleared → b ≡ true
  pruned_legal true e = refl
  pruned_legal false e = absurd cc

  pub legal_where : (e : Event) → is_allowed (state_of h) e ≡ true → is_legal (state_of h) e ≡ true
  unfolding is_legal
  legal_where e allowed =
      let t = state_of h in
      and_apart (not t.stopped) (is_none (ended t)) (is_allowed t e) ∙ ap (λ (b : Bool). b && is_allowed t e) going ∙ allowed

  pub prunes : pruning.Taken ≡ pruning_of (Prune w a) (state_of h) → new ≡ where_legal (Prune w a) h → IsGivenBackAlone h new a
  prunes taken noted =
      let e = Prune w a in
      let here : pruning.Taken ≡ cond (is_allowed (state_of h) e) pruning.Taken pruning.NotCleared
      = taken ∙ ap (λ (b : Bool). cond b (cond (is_allowed (state_of h) e) pruning.Taken pruning.NotCleared) pruning.HasEnded) going in
      let legal = legal_where e (pruned_legal (is_allowed (state_of h) e) here) in
      record { back = e; noted = noted ∙ ap (λ (b : Bool). cond b (with_event e h) h) legal; gives = place_self a; alone = refl }

  pub never_ended : pruning.HasEnded ≡ pruning_of (Prune w a) (state_of h) → ⊥
  never_ended ended =
      let e = Prune w a in
      by_test (is_allowed (state_of h) e)
      (ended ∙ ap (λ (b : Bool). cond b (cond (is_allowed (state_of h) e) pruning.Taken pruning.NotCleared) pruning.HasEnded) going)
    where
      by_test : (b : Bool) → pruning.HasEnded ≡ cond b pruning.Taken pruning.NotCleared → ⊥
      by_test true e = cc
      by_test false e = cc
