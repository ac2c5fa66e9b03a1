-- Only a stop stops a tree.
use Rattle.std.proofs.Common.{◌≡◌, ◌||◌, Bool, true, false, List, [], ◌∷◌, Option, Some, None, refl, ◌∙◌}
use Rattle.std.specs.List.{list_any}
use Rattle.run_model.specs.Machine.Entries.{Entry}
use Rattle.run_model.specs.Programs.Jobs.{Query}
use Rattle.tree_model.specs.Events.{Event, Claim, Nodes, Empty, Collected, Lost, Suspend, Resume, Prune, Answer, Stop}
use Rattle.tree_model.specs.Effects.{after_allowed, after_event, ball_falls, cut_at, front_taken, gate_pruned, left_at, or_none, query_opens, run_placed, where_some}
use Rattle.tree_model.specs.Effects.{closed_with, gate_or_frozen, results_of, with_status, world_moved, spot_stack}
use Rattle.tree_model.specs.FrontGates.{Taken, Continues, Answered, Raises, Halts, QueryEnds, taken_at_front}
use Rattle.tree_model.specs.Histories.{after_events}
use Rattle.tree_model.specs.Legality.{claimable, resumable, taken_at, gate_of, run_of}
use Rattle.tree_model.specs.Levels.{Spot, levels_of}
use Rattle.tree_model.specs.Nodes.{Gate, CutGate, BallGate, WorldGate, FrozenGate}
use Rattle.tree_model.specs.PrivateRuns.{taken_alone}
use Rattle.tree_model.specs.TreeStates.{TreeState, opening_tree}
use Rattle.hand_out_laws.specs.HandedBack.{OnlyStopsStop, is_stop}

-- a tree was stopped where another one was
abbrev SameStop : TreeState → TreeState → Type 0
SameStop new t = new.stopped ≡ t.stopped

where_some_same : (o : Option Spot) (t : TreeState) (go : Spot → TreeState) → ((s : Spot) → SameStop (go s) t) → SameStop (where_some o t go) t
where_some_same None t go h = refl
where_some_same (Some s) t go h = h s

run_same : (s : Spot) (k : _) (sizes : _) (o : Option (List Entry)) (t : TreeState) → SameStop (run_placed s k sizes o t) t
run_same s k sizes None t = refl
run_same s k sizes (Some es) t = refl

left_same : (s : Spot) (es : List Entry) (t : TreeState) → SameStop (left_at s es t) t
left_same s [] t = refl
left_same s (e ∷ es) t = refl

ball_same : (s : Spot) (es : List Entry) (t : TreeState) → SameStop (ball_falls s es t) t
ball_same s [] t = refl
ball_same s (e ∷ es) t = refl

cut_same : (s : Spot) (n : _) (es : List Entry) (t : TreeState) → SameStop (cut_at s n es t) t
cut_same s n [] t = refl
cut_same s n (e ∷ es) t = refl

gate_same : (s : Spot) (g : Option Gate) (es : List Entry) (t : TreeState) → SameStop (gate_pruned s g es t) t
gate_same s (Some (CutGate n)) es t = cut_same s n es t
gate_same s (Some (BallGate n)) es t = ball_same s es t
gate_same s (Some WorldGate) es t = refl
gate_same s (Some FrozenGate) es t = refl
gate_same s None es t = refl

query_same : (s : Spot) (qs : List Query) (t : TreeState) → SameStop (query_opens s qs t) t
query_same s [] t = refl
query_same s (q ∷ qs) t = refl

front_same : (s : Spot) (taken : Taken) (t : TreeState) → SameStop (front_taken s taken t) t
front_same s (Continues es) t = left_same s es t
front_same s Answered t = refl
front_same s (Raises es) t = ball_same s es t
front_same s (Halts k) t = refl
front_same s QueryEnds t = query_same s t.queries t

allowed_same : (t : TreeState) (e : Event) → is_stop e ≡ false → SameStop (after_allowed t e) t
allowed_same t (Claim w a) h = where_some_same (claimable t) t _ (λ s. refl)
allowed_same t (Resume w a) h = where_some_same (resumable t) t _ (λ s. refl)
allowed_same t (Nodes w a k sizes) h = where_some_same (taken_at w a t) t _ (λ s. run_same s k sizes (run_of t s k) t)
allowed_same t (Empty w a k) h = where_some_same (taken_at w a t) t _ (λ s. refl)
allowed_same t (Collected w a k) h = where_some_same (taken_at w a t) t _ (λ s. refl)
allowed_same t (Lost w a) h = refl
allowed_same t (Suspend w a frozen) h = where_some_same (taken_at w a t) t _ (λ s. refl)
allowed_same t (Prune w a) h = where_some_same (taken_at w a t) t _
    (λ s. gate_same s (gate_of t s) (or_none (taken_alone t.job.clauses (spot_stack s))) t)
allowed_same t (Answer w a frozen) h = where_some_same (taken_at w a t) t _
    (λ s. let r = taken_at_front t.job.clauses (spot_stack s) t.world in front_same s r.1 (record t { world = r.0 }))
allowed_same t (Stop w) h = let no_way : ⊥ = cc in absurd no_way

event_same : (t : TreeState) (e : Event) → is_stop e ≡ false → SameStop (after_event t e) t
unfolding after_event
event_same t e h = allowed_same t e h

neither : (a b : Bool) → (a || b) ≡ false → (a ≡ false) × (b ≡ false)
neither false b h = (refl, h)
neither true b h = let no_way : ⊥ = cc in absurd no_way

events_same : (t : TreeState) (es : List Event) → list_any is_stop es ≡ false → SameStop (after_events t es) t
events_same t [] h = refl
events_same t (e ∷ es) h =
    let parts = neither (is_stop e) (list_any is_stop es) h in
    events_same (after_event t e) es parts.1 ∙ event_same t e parts.0

pub only_stops : OnlyStopsStop
only_stops job budget window es h = events_same (opening_tree job budget window) es h
