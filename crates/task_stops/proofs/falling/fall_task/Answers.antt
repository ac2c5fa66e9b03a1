use Rattle.std.proofs.Common.{◌≡◌, Bool, true, false, cond, sym, subst}
use Rattle.std.specs.Prelude.{◌&&◌, not, is_none, Result, Ok, Err, IfOk}
use Rattle.tree_model.specs.EventViews.{place_view}
use Rattle.tree_model.specs.Events.{Event, Prune}
use Rattle.tree_model.specs.Legality.{is_allowed, is_legal}
use Rattle.tree_model.specs.TreeStates.{ended}
use Rattle.public_tree.specs.declared.prune.Pruning.{Pruning}
use Rattle.public_tree.specs.declared.prune.Pruning.TheVariants.{Taken, NotCleared, HasEnded}
use Rattle.tree_core.specs.Histories.{History, state_of, with_event}
use Rattle.tree_core.specs.Turns.{pruning_of, where_legal}
use Rattle.task_stops.specs.StopGates.{IsKeptUntaken}
use Rattle.task_stops.proofs.falling.fall_task.Goals as goal

-- what was not taken has moved nothing
by_tests : (h new moved : History) (p : Pruning) (a b c : Bool) → p ≡ cond (a && b) (cond c Taken NotCleared) HasEnded → new ≡ cond (a && (b && c)) moved h
    → IsKeptUntaken p h new
by_tests h new moved p true true true e m = subst (λ q. IsKeptUntaken q h new) (sym e) tt
by_tests h new moved p true true false e m = subst (λ q. IsKeptUntaken q h new) (sym e) m
by_tests h new moved p true false c e m = subst (λ q. IsKeptUntaken q h new) (sym e) m
by_tests h new moved p false b c e m = subst (λ q. IsKeptUntaken q h new) (sym e) m

kept : {E : Type 0} (h new : History) (e : Event) (r : Result Pruning E) → IfOk r (λ p. p ≡ pruning_of e (state_of h)) → IfOk r (λ p. new ≡ where_legal e h)
    → IfOk r (λ p. IsKeptUntaken p h new)
unfolding is_legal
kept h new e (Ok p) answer moves =
    let t = state_of h in
    by_tests h new (with_event e h) p (not t.stopped) (is_none (ended t)) (is_allowed t e) answer moves
kept h new e (Err x) answer moves = tt

pub returns-clause-kept : goal.returns-clause-kept
returns-clause-kept g c =
    kept c.args.tree.now.history c.fall.new.self.history (Prune c.args.worker (place_view c.args.at)) c.fall.result c.fall.ensures.answer c.fall.ensures.fallen
