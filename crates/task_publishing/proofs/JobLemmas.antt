-- The tree after a history is of the job with which it was opened.
use Rattle.std.proofs.Common.{◌≡◌, ℕ, List, [], ◌∷◌, Option, Some, None, refl, ◌∙◌}
use Rattle.run_model.specs.Machine.Entries.{Entry}
use Rattle.run_model.specs.Programs.Jobs.{Query}
use Rattle.tree_model.specs.Effects.{ball_falls, gate_pruned, query_opens, front_taken, run_placed, where_some, or_none, spot_stack, after_allowed, after_event}
use Rattle.tree_model.specs.Events.{Event, Claim, Nodes, Empty, Collected, Lost, Suspend, Resume, Prune, Answer, Stop}
use Rattle.tree_model.specs.FrontGates.{Taken, Continues, Answered, Raises, Halts, QueryEnds, taken_at_front}
use Rattle.tree_model.specs.Histories.{after_events}
use Rattle.tree_model.specs.Legality.{claimable, resumable, taken_at, gate_of, run_of}
use Rattle.tree_model.specs.Levels.{Spot}
use Rattle.tree_model.specs.Nodes.{Gate, CutGate, BallGate, WorldGate, FrozenGate}
use Rattle.tree_model.specs.PrivateRuns.{taken_alone}
use Rattle.tree_model.specs.TreeStates.{TreeState}
use Rattle.tree_core.specs.Histories.{History, state_of}

abbrev SameJob : TreeState → TreeState → Type 0
SameJob t new = new.job ≡ t.job

at_some : (t : TreeState) (o : Option Spot) (new : Spot → TreeState) → ((s : Spot) → SameJob t (new s)) → SameJob t (where_some o t new)
at_some t None new f = refl
at_some t (Some s) new f = f s

falls : (t : TreeState) (s : Spot) (es : List Entry) → SameJob t (ball_falls s es t)
falls t s [] = refl
falls t s (e ∷ es) = refl

pruned : (t : TreeState) (s : Spot) (g : Option Gate) (es : List Entry) → SameJob t (gate_pruned s g es t)
pruned t s (Some (CutGate n)) (e ∷ es) = refl
pruned t s (Some (CutGate n)) [] = refl
pruned t s (Some (BallGate n)) es = falls t s es
pruned t s (Some WorldGate) es = refl
pruned t s (Some FrozenGate) es = refl
pruned t s None es = refl

opens : (t : TreeState) (s : Spot) (qs : List Query) → SameJob t (query_opens s qs t)
opens t s [] = refl
opens t s (q ∷ qs) = refl

at_front : (t : TreeState) (s : Spot) (x : Taken) → SameJob t (front_taken s x t)
at_front t s (Continues []) = refl
at_front t s (Continues (e ∷ es)) = refl
at_front t s Answered = refl
at_front t s (Raises es) = falls t s es
at_front t s (Halts k) = refl
at_front t s QueryEnds = opens t s t.queries

placed : (t : TreeState) (s : Spot) (k : ℕ) (sizes : List ℕ) (o : Option (List Entry)) → SameJob t (run_placed s k sizes o t)
placed t s k sizes None = refl
placed t s k sizes (Some es) = refl

after : (t : TreeState) (e : Event) → SameJob t (after_allowed t e)
after t (Claim w a) = at_some t (claimable t) _ (λ s. refl)
after t (Resume w a) = at_some t (resumable t) _ (λ s. refl)
after t (Nodes w a k sizes) = at_some t (taken_at w a t) _ (λ s. placed t s k sizes (run_of t s k))
after t (Empty w a k) = at_some t (taken_at w a t) _ (λ s. refl)
after t (Collected w a k) = at_some t (taken_at w a t) _ (λ s. refl)
after t (Lost w a) = refl
after t (Suspend w a frozen) = at_some t (taken_at w a t) _ (λ s. refl)
after t (Prune w a) = at_some t (taken_at w a t) _ (λ s. pruned t s (gate_of t s) (or_none (taken_alone t.job.clauses (spot_stack s))))
after t (Answer w a frozen) =
    at_some t (taken_at w a t) _
    (λ s. at_front (record t { world = (taken_at_front t.job.clauses (spot_stack s) t.world).0 }) s
    (taken_at_front t.job.clauses (spot_stack s) t.world).1)
after t (Stop w) = refl

after_one : (t : TreeState) (e : Event) → SameJob t (after_event t e)
unfolding after_event
after_one t e = after t e

after_all : (t : TreeState) (es : List Event) → SameJob t (after_events t es)
after_all t [] = refl
after_all t (e ∷ es) = after_all (after_event t e) es ∙ after_one t e

pub job_of_state : (h : History) → (state_of h).job ≡ h.job
job_of_state h = after_all _ h.events
