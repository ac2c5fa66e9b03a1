-- What no event changes: the job and the budget.
use Rattle.std.proofs.Common.{◌≡◌, ℕ, List, [], ◌∷◌, Option, Some, None, refl}
use Rattle.run_model.specs.Machine.Entries.{Entry}
use Rattle.run_model.specs.Programs.Jobs.{Query}
use Rattle.tree_model.specs.Nodes.{Gate, CutGate, BallGate, WorldGate, FrozenGate}
use Rattle.tree_model.specs.Levels.{Spot}
use Rattle.tree_model.specs.FrontGates.{Taken, Continues, Answered, Raises, Halts, QueryEnds, taken_at_front}
use Rattle.tree_model.specs.Events.{Event, Claim, Nodes, Empty, Collected, Lost, Suspend, Resume, Prune, Answer, Stop}
use Rattle.tree_model.specs.TreeStates.{TreeState}
use Rattle.tree_model.specs.Legality.{claimable, resumable, taken_at, gate_of, run_of}
use Rattle.tree_model.specs.Effects.{ball_falls, gate_pruned, query_opens, front_taken, run_placed, where_some, or_none, spot_stack}
use Rattle.tree_model.specs.Effects.{after_allowed, after_event}
use Rattle.tree_model.specs.PrivateRuns.{taken_alone}

some_stays : {A : Type 0} → (of : TreeState → A) (t : TreeState) (o : Option Spot) (new : Spot → TreeState)
    → ((s : Spot) → of (new s) ≡ of t) → of (where_some o t new) ≡ of t
some_stays of t None new f = refl
some_stays of t (Some s) new f = f s

-- the job
falls_job : (t : TreeState) (s : Spot) (es : List Entry) → (ball_falls s es t).job ≡ t.job
falls_job t s [] = refl
falls_job t s (e ∷ es) = refl

prunes_job : (t : TreeState) (s : Spot) (g : Option Gate) (es : List Entry) → (gate_pruned s g es t).job ≡ t.job
prunes_job t s None es = refl
prunes_job t s (Some (CutGate n)) [] = refl
prunes_job t s (Some (CutGate n)) (e ∷ es) = refl
prunes_job t s (Some (BallGate n)) es = falls_job t s es
prunes_job t s (Some WorldGate) es = refl
prunes_job t s (Some FrozenGate) es = refl

places_job : (t : TreeState) (s : Spot) (k : ℕ) (sizes : List ℕ) (o : Option (List Entry)) → (run_placed s k sizes o t).job ≡ t.job
places_job t s k sizes None = refl
places_job t s k sizes (Some es) = refl

opens_job : (t : TreeState) (s : Spot) (qs : List Query) → (query_opens s qs t).job ≡ t.job
opens_job t s [] = refl
opens_job t s (q ∷ qs) = refl

front_job : (t : TreeState) (s : Spot) (x : Taken) → (front_taken s x t).job ≡ t.job
front_job t s (Continues []) = refl
front_job t s (Continues (e ∷ es)) = refl
front_job t s Answered = refl
front_job t s (Raises es) = falls_job t s es
front_job t s (Halts k) = refl
front_job t s QueryEnds = opens_job t s t.queries

allowed_job : (t : TreeState) (e : Event) → (after_allowed t e).job ≡ t.job
allowed_job t (Claim w a) = some_stays (λ x. x.job) t (claimable t) _ (λ s. refl)
allowed_job t (Resume w a) = some_stays (λ x. x.job) t (resumable t) _ (λ s. refl)
allowed_job t (Nodes w a k sizes) = some_stays (λ x. x.job) t (taken_at w a t) _ (λ s. places_job t s k sizes (run_of t s k))
allowed_job t (Empty w a k) = some_stays (λ x. x.job) t (taken_at w a t) _ (λ s. refl)
allowed_job t (Collected w a k) = some_stays (λ x. x.job) t (taken_at w a t) _ (λ s. refl)
allowed_job t (Lost w a) = refl
allowed_job t (Suspend w a frozen) = some_stays (λ x. x.job) t (taken_at w a t) _ (λ s. refl)
allowed_job t (Prune w a) = some_stays (λ x. x.job) t (taken_at w a t) _
    (λ s. prunes_job t s (gate_of t s) (or_none (taken_alone t.job.clauses (spot_stack s))))
allowed_job t (Answer w a frozen) = some_stays (λ x. x.job) t (taken_at w a t) _
    (λ s. front_job (record t { world = (taken_at_front t.job.clauses (spot_stack s) t.world).0 }) s
    (taken_at_front t.job.clauses (spot_stack s) t.world).1)
allowed_job t (Stop w) = refl

pub event_job : (t : TreeState) (e : Event) → (after_event t e).job ≡ t.job
unfolding after_event
event_job t e = allowed_job t e

-- the budget
falls_budget : (t : TreeState) (s : Spot) (es : List Entry) → (ball_falls s es t).budget ≡ t.budget
falls_budget t s [] = refl
falls_budget t s (e ∷ es) = refl

prunes_budget : (t : TreeState) (s : Spot) (g : Option Gate) (es : List Entry) → (gate_pruned s g es t).budget ≡ t.budget
prunes_budget t s None es = refl
prunes_budget t s (Some (CutGate n)) [] = refl
prunes_budget t s (Some (CutGate n)) (e ∷ es) = refl
prunes_budget t s (Some (BallGate n)) es = falls_budget t s es
prunes_budget t s (Some WorldGate) es = refl
prunes_budget t s (Some FrozenGate) es = refl

places_budget : (t : TreeState) (s : Spot) (k : ℕ) (sizes : List ℕ) (o : Option (List Entry)) → (run_placed s k sizes o t).budget ≡ t.budget
places_budget t s k sizes None = refl
places_budget t s k sizes (Some es) = refl

opens_budget : (t : TreeState) (s : Spot) (qs : List Query) → (query_opens s qs t).budget ≡ t.budget
opens_budget t s [] = refl
opens_budget t s (q ∷ qs) = refl

front_budget : (t : TreeState) (s : Spot) (x : Taken) → (front_taken s x t).budget ≡ t.budget
front_budget t s (Continues []) = refl
front_budget t s (Continues (e ∷ es)) = refl
front_budget t s Answered = refl
front_budget t s (Raises es) = falls_budget t s es
front_budget t s (Halts k) = refl
front_budget t s QueryEnds = opens_budget t s t.queries

allowed_budget : (t : TreeState) (e : Event) → (after_allowed t e).budget ≡ t.budget
allowed_budget t (Claim w a) = some_stays (λ x. x.budget) t (claimable t) _ (λ s. refl)
allowed_budget t (Resume w a) = some_stays (λ x. x.budget) t (resumable t) _ (λ s. refl)
allowed_budget t (Nodes w a k sizes) = some_stays (λ x. x.budget) t (taken_at w a t) _ (λ s. places_budget t s k sizes (run_of t s k))
allowed_budget t (Empty w a k) = some_stays (λ x. x.budget) t (taken_at w a t) _ (λ s. refl)
allowed_budget t (Collected w a k) = some_stays (λ x. x.budget) t (taken_at w a t) _ (λ s. refl)
allowed_budget t (Lost w a) = refl
allowed_budget t (Suspend w a frozen) = some_stays (λ x. x.budget) t (taken_at w a t) _ (λ s. refl)
allowed_budget t (Prune w a) = some_stays (λ x. x.budget) t (taken_at w a t) _
    (λ s. prunes_budget t s (gate_of t s) (or_none (taken_alone t.job.clauses (spot_stack s))))
allowed_budget t (Answer w a frozen) = some_stays (λ x. x.budget) t (taken_at w a t) _
    (λ s. front_budget (record t { world = (taken_at_front t.job.clauses (spot_stack s) t.world).0 }) s
    (taken_at_front t.job.clauses (spot_stack s) t.world).1)
allowed_budget t (Stop w) = refl

pub event_budget : (t : TreeState) (e : Event) → (after_event t e).budget ≡ t.budget
unfolding after_event
event_budget t e = allowed_budget t e
