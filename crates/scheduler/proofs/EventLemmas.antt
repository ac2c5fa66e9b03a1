-- What events leave as it was: all but what is taken at the front, the world and the queries.
use Rattle.std.proofs.Common.{◌≡◌, ℕ, true, List, [], ◌∷◌, Option, Some, None, refl, ap, ◌∙◌}
use Rattle.interleaving.proofs.UnchangedPlaceLemmas.{after-last}
use Rattle.run_model.specs.Machine.Entries.{Entry}
use Rattle.scheduler.specs.GivenBack.{leaves_world}
use Rattle.tree_core.specs.Histories.{History, state_of, with_event}
use Rattle.tree_model.specs.Effects.{after_allowed, after_event, ball_falls, cut_at, gate_pruned, or_none, run_placed, spot_stack, where_some}
use Rattle.tree_model.specs.Events.{Event, Claim, Nodes, Empty, Collected, Lost, Suspend, Resume, Prune, Answer, Stop}
use Rattle.tree_model.specs.Legality.{claimable, gate_of, resumable, run_of, taken_at}
use Rattle.tree_model.specs.Levels.{Spot}
use Rattle.tree_model.specs.Nodes.{Gate, CutGate, BallGate, WorldGate, FrozenGate}
use Rattle.tree_model.specs.PrivateRuns.{taken_alone}
use Rattle.tree_model.specs.TreeStates.{TreeState, opening_tree}

pub record SameOutside (old new : TreeState) : Type 0 where
  pub world : new.world ≡ old.world
  pub queries : new.queries ≡ old.queries

nothing : (t : TreeState) → SameOutside t t
nothing t = record { world = refl; queries = refl }

same_where : (t : TreeState) (o : Option Spot) (new : Spot → TreeState) → ((s : Spot) → SameOutside t (new s)) → SameOutside t (where_some o t new)
same_where t None new f = nothing t
same_where t (Some s) new f = f s

placed_same : (t : TreeState) (s : Spot) (k : ℕ) (sizes : List ℕ) (o : Option (List Entry)) → SameOutside t (run_placed s k sizes o t)
placed_same t s k sizes None = nothing t
placed_same t s k sizes (Some es) = record { world = refl; queries = refl }

cut_same : (t : TreeState) (s : Spot) (n : ℕ) (es : List Entry) → SameOutside t (cut_at s n es t)
cut_same t s n [] = nothing t
cut_same t s n (e ∷ es) = record { world = refl; queries = refl }

fall_same : (t : TreeState) (s : Spot) (es : List Entry) → SameOutside t (ball_falls s es t)
fall_same t s [] = nothing t
fall_same t s (e ∷ es) = record { world = refl; queries = refl }

pruned_same : (t : TreeState) (s : Spot) (g : Option Gate) (es : List Entry) → SameOutside t (gate_pruned s g es t)
pruned_same t s (Some (CutGate n)) es = cut_same t s n es
pruned_same t s (Some (BallGate n)) es = fall_same t s es
pruned_same t s (Some WorldGate) es = nothing t
pruned_same t s (Some FrozenGate) es = nothing t
pruned_same t s None es = nothing t

allowed_same : (t : TreeState) (e : Event) → leaves_world e ≡ true → SameOutside t (after_allowed t e)
allowed_same t (Claim w a) h = same_where t (claimable t) _ (λ s. record { world = refl; queries = refl })
allowed_same t (Resume w a) h = same_where t (resumable t) _ (λ s. record { world = refl; queries = refl })
allowed_same t (Nodes w a k sizes) h = same_where t (taken_at w a t) _ (λ s. placed_same t s k sizes (run_of t s k))
allowed_same t (Empty w a k) h = same_where t (taken_at w a t) _ (λ s. record { world = refl; queries = refl })
allowed_same t (Collected w a k) h = same_where t (taken_at w a t) _ (λ s. record { world = refl; queries = refl })
allowed_same t (Lost w a) h = record { world = refl; queries = refl }
allowed_same t (Suspend w a frozen) h = same_where t (taken_at w a t) _ (λ s. record { world = refl; queries = refl })
allowed_same t (Prune w a) h = same_where t (taken_at w a t) _ (λ s. pruned_same t s (gate_of t s) (or_none (taken_alone t.job.clauses (spot_stack s))))
allowed_same t (Answer w a frozen) h = absurd (cc h)
allowed_same t (Stop w) h = record { world = refl; queries = refl }

event_same : (t : TreeState) (e : Event) → leaves_world e ≡ true → SameOutside t (after_event t e)
unfolding after_event
event_same t e h = let k = allowed_same t e h in record { world = k.world; queries = k.queries }

-- the tree after one event more
pub state_after : (h : History) (e : Event) → state_of (with_event e h) ≡ after_event (state_of h) e
state_after h e = after-last (opening_tree h.job h.budget h.window) h.events e

pub noted_same : (h new : History) (e : Event) → leaves_world e ≡ true → new ≡ with_event e h → SameOutside (state_of h) (state_of new)
noted_same h new e alone noted =
    let k = event_same (state_of h) e alone in
    let now : state_of new ≡ after_event (state_of h) e = ap state_of noted ∙ state_after h e in
    record {
      world = ap (λ (t : TreeState). t.world) now ∙ k.world;
      queries = ap (λ (t : TreeState). t.queries) now ∙ k.queries;
    }
