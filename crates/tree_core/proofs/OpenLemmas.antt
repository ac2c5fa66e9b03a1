-- A tree that was opened for a job.
use Rattle.std.proofs.Common.{◌≡◌, ℕ, ◌≤◌, List, [], ◌∷◌, length, Option, Some, None, refl, sym, ap, subst}
use Rattle.std.specs.Prelude.{slice_get}
use Rattle.run_model.specs.Programs.Jobs.{Query, Job}
use Rattle.tree_model.specs.Credits.{greatest}
use Rattle.tree_model.specs.Events.{Event}
use Rattle.tree_nodes.specs.Bodies.{Body}
use Rattle.branch_reading.specs.Readings.{reading}
use Rattle.public_tree.specs.PublicTrees.{PublicView}
use Rattle.public_tree.specs.Following.{IsOpened}
use Rattle.public_tree.specs.Opening.{Opens}
use Rattle.public_tree.proofs.FollowingLemmas.{opening_follows}
use Rattle.tree_core.specs.declared.query.QueryGoals.{QueryGoals}
use Rattle.tree_core.specs.TasksOut.{out_after}
use Rattle.tree_core.specs.Openings.{IsFirstOf, IsMadeFirst}
use Rattle.tree_core.proofs.MoveLemmas.{Moves}

opened_by : (job : Job) (p : PublicView) (qs : List Query) → job.queries ≡ qs → (first : Option QueryGoals) (body : Option Body) → IsFirstOf qs first
    → IsMadeFirst first body → Opens body p → IsOpened job (reading job) p
opened_by job p [] e None None f m o = o job (reading job) e
opened_by job p [] e None (Some body) f m o = absurd m
opened_by job p [] e (Some given) body f m o = absurd f
opened_by job p (q ∷ qs) e None body f m o = absurd f
opened_by job p (q ∷ qs) e (Some given) None f m o = absurd m
opened_by job p (q ∷ qs) e (Some given) (Some body) f m o =
    o job (reading job) q qs e (m job [] 0 q (ap (λ (xs : List Query). slice_get xs 0) e) f.goals f.vars)

pub opened : (job : Job) (p : PublicView) (first : Option QueryGoals) (body : Option Body) (budget window : ℕ) → IsFirstOf job.queries first
    → IsMadeFirst first body → Opens body p → p.budget ≡ budget → p.window ≡ window → budget ≤ greatest
    → 0 ≤ p.log.promised → Moves job p (record { job = job; budget = budget; window = window; events = [] })
opened job p first body budget window f m o b w l z =
    let k = opened_by job p job.queries refl first body f m o in
    let events = k.events in
    record {
      kept = record { follows = opening_follows job (reading job) p k; countable = subst (λ (n : ℕ). n ≤ greatest) (sym b) l; room = room events };
      history = cc events;
    }
  where
    room : p.log.events ≡ [] → length (out_after p.log.events []) ≤ p.log.promised
    room e = subst (λ (es : List Event). length (out_after es []) ≤ p.log.promised) (sym e) z
