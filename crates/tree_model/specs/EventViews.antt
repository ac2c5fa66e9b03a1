-- The events that code notes, as the definitions have them.
use Rattle.std.specs.Prelude.{◌≡◌, ◌⊎◌, ℕ, ◌==◌, List, [], ◌∷◌, ◌++◌, map, filter}
use Rattle.tree_model.specs.declared.places.AltRef.{AltRef}
use Rattle.tree_model.specs.declared.events.Event.{Event as Noted}
use Rattle.tree_model.specs.declared.events.Event.TheVariants as noted
use Rattle.tree_model.specs.Levels.{Place}
use Rattle.tree_model.specs.Events.{Event, Claim, Nodes, Empty, Collected, Lost, Suspend, Resume, Prune, Answer, Stop, worker_of}

abbrev pub place_view : AltRef → Place
place_view a = record { node = a.node; index = a.alternative }

abbrev pub event_view : Noted → Event
event_view (noted.Claim worker at) = Claim worker (place_view at)
event_view (noted.Nodes worker at count sizes) = Nodes worker (place_view at) count sizes
event_view (noted.Empty worker at count) = Empty worker (place_view at) count
event_view (noted.Collected worker at count) = Collected worker (place_view at) count
event_view (noted.Lost worker at) = Lost worker (place_view at)
event_view (noted.Suspend worker at frozen) = Suspend worker (place_view at) frozen
event_view (noted.Resume worker at) = Resume worker (place_view at)
event_view (noted.Prune worker at) = Prune worker (place_view at)
event_view (noted.Answer worker at frozen) = Answer worker (place_view at) frozen
event_view (noted.Stop worker) = Stop worker

abbrev pub history_view : List Noted → List Event
history_view log = map event_view log

-- the noted events of a worker, in their order
abbrev pub own_noted : ℕ → List Noted → List Noted
own_noted worker log = filter (λ e. worker_of (event_view e) == worker) log

-- a history, with at most one event of this worker added
abbrev pub IsGrownHistory : ℕ → List Noted → List Noted → Type 0
IsGrownHistory worker before after = (after ≡ before) ⊎ ((e : Noted) × (worker_of (event_view e) ≡ worker) × (after ≡ before ++ e ∷ []))
