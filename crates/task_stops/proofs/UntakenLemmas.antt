-- A cut that is not taken leaves the tree as it was.
use Rattle.std.proofs.Common.{◌≡◌, Bool, true, false, cond, refl, ap, ◌∙◌}
use Rattle.std.specs.Prelude.{◌&&◌, not, is_none, Result, Ok, Err, IfOk}
use Rattle.tree_model.specs.Events.{Event}
use Rattle.tree_model.specs.Legality.{is_allowed, is_legal}
use Rattle.tree_model.specs.TreeStates.{ended, TreeState}
use Rattle.public_tree.specs.PublicTrees.{is_going}
use Rattle.public_tree.specs.declared.prune.Pruning.{Pruning}
use Rattle.public_tree.specs.declared.prune.Pruning.TheVariants.{Taken, NotCleared, HasEnded}
use Rattle.tree_core.specs.Histories.{History, state_of, with_event}
use Rattle.tree_core.specs.Turns.{pruning_of, where_legal}
use Rattle.task_stops.specs.StopGates.{IsKeptUntaken}

legal_is : (t : TreeState) (e : Event) → is_legal t e ≡ (is_going t && is_allowed t e)
unfolding is_legal
legal_is t e = by_parts (not t.stopped) (is_none (ended t)) (is_allowed t e)
  where
    by_parts : (a b c : Bool) → (a && (b && c)) ≡ ((a && b) && c)
    by_parts true b c = refl
    by_parts false b c = refl

kept_by : (h : History) (e : Event) (p : Pruning) (going allowed : Bool) → p ≡ cond going (cond allowed Taken NotCleared) HasEnded
    → IsKeptUntaken p h (cond (going && allowed) (with_event e h) h)
kept_by h e Taken going allowed is = tt
kept_by h e NotCleared true true is = absurd cc
kept_by h e NotCleared true false is = refl
kept_by h e NotCleared false allowed is = absurd cc
kept_by h e HasEnded true true is = absurd cc
kept_by h e HasEnded true false is = absurd cc
kept_by h e HasEnded false allowed is = refl

moved : (h new other : History) (p : Pruning) → new ≡ other → IsKeptUntaken p h other → IsKeptUntaken p h new
moved h new other Taken same k = tt
moved h new other NotCleared same k = same ∙ k
moved h new other HasEnded same k = same ∙ k

pub kept_untaken : {E : Type 0} (h new : History) (e : Event) (r : Result Pruning E) → IfOk r (λ p. p ≡ pruning_of e (state_of h))
    → IfOk r (λ p. new ≡ where_legal e h) → IfOk r (λ p. IsKeptUntaken p h new)
kept_untaken h new e (Ok p) answer moves =
    moved h new (cond (is_going (state_of h) && is_allowed (state_of h) e) (with_event e h) h) p
    (moves ∙ ap (λ b. cond b (with_event e h) h) (legal_is (state_of h) e))
    (kept_by h e p (is_going (state_of h)) (is_allowed (state_of h) e) answer)
kept_untaken h new e (Err x) answer moves = tt
