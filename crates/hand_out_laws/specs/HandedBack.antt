-- What holds of a job's tree where all that was handed out has come back.
use Rattle.std.specs.Prelude.{◌≡◌, ◌≢◌, ◌⊎◌, ℕ, Bool, true, false, List, [], ◌∷◌, ◌++◌, None}
use Rattle.std.specs.List.{list_any}
use Rattle.run_model.specs.Programs.Jobs.{Job}
use Rattle.tree_model.specs.Events.{Event, Claim, Nodes, Empty, Collected, Lost, Suspend, Resume, Prune, Answer, Stop}
use Rattle.tree_model.specs.Histories.{tree_after, IsLegalHistory}
use Rattle.tree_model.specs.Legality.{claimable, resumable}
use Rattle.tree_model.specs.Levels.{Place, same_place}
use Rattle.tree_model.specs.Promises.{tasks_out}
use Rattle.tree_model.specs.TreeStates.{TreeState, ended}
use Rattle.public_tree.specs.PublicTrees.{is_going}
use Rattle.tree_core.specs.TasksOut.{out_after}

-- nobody has a task of a legal history's tree, unless it was halted: that leaves the alternative with the worker that took it
abbrev pub AllBack : Type 0
AllBack = (job : Job) (budget window : ℕ) (es : List Event) → IsLegalHistory job budget window es
    → (tree_after job budget window es).halted ≡ None → out_after es [] ≡ [] → tasks_out (tree_after job budget window es) ≡ []

abbrev pub AllBackWhileGoing : Type 0
AllBackWhileGoing = (job : Job) (budget window : ℕ) (es : List Event) → IsLegalHistory job budget window es
    → is_going (tree_after job budget window es) ≡ true → out_after es [] ≡ [] → tasks_out (tree_after job budget window es) ≡ []

abbrev pub OffersSomething : TreeState → Type 0
OffersSomething t = claimable t ≢ None ⊎ resumable t ≢ None

abbrev pub HasEndedOrOffers : TreeState → Type 0
HasEndedOrOffers t = ended t ≢ None ⊎ (t.stopped ≡ true ⊎ OffersSomething t)

abbrev pub GoesOnOrEnds : Type 0
GoesOnOrEnds = (job : Job) (budget window : ℕ) (es : List Event) → IsLegalHistory job budget window es → out_after es [] ≡ []
    → HasEndedOrOffers (tree_after job budget window es)

-- the events by which an alternative goes out to a worker
abbrev pub hands_out : Place → Event → Bool
hands_out a (Claim w b) = same_place a b
hands_out a (Resume w b) = same_place a b
hands_out a (Suspend w b frozen) = false
hands_out a (Nodes w b k sizes) = false
hands_out a (Empty w b k) = false
hands_out a (Collected w b k) = false
hands_out a (Lost w b) = false
hands_out a (Prune w b) = false
hands_out a (Answer w b frozen) = false
hands_out a (Stop w) = false

-- the events by which a worker gives it back, to wait or for good
abbrev pub gives_back : Place → Event → Bool
gives_back a (Suspend w b frozen) = same_place a b
gives_back a (Nodes w b k sizes) = same_place a b
gives_back a (Empty w b k) = same_place a b
gives_back a (Collected w b k) = same_place a b
gives_back a (Lost w b) = same_place a b
gives_back a (Prune w b) = same_place a b
gives_back a (Answer w b frozen) = same_place a b
gives_back a (Claim w b) = false
gives_back a (Resume w b) = false
gives_back a (Stop w) = false

abbrev pub OneGoesOut : Type 0
OneGoesOut = (es : List Event) (a : Place) (out : Event) → out_after es [] ≡ [] → hands_out a out ≡ true → out_after (es ++ out ∷ []) [] ≡ a ∷ []

abbrev pub OneComesBack : Type 0
OneComesBack = (es : List Event) (a : Place) (back : Event) → out_after es [] ≡ a ∷ [] → gives_back a back ≡ true
    → out_after (es ++ back ∷ []) [] ≡ []

abbrev pub is_stop : Event → Bool
is_stop (Stop w) = true
is_stop (Claim w a) = false
is_stop (Resume w a) = false
is_stop (Suspend w a frozen) = false
is_stop (Nodes w a k sizes) = false
is_stop (Empty w a k) = false
is_stop (Collected w a k) = false
is_stop (Lost w a) = false
is_stop (Prune w a) = false
is_stop (Answer w a frozen) = false

-- a tree was stopped by nothing else
abbrev pub OnlyStopsStop : Type 0
OnlyStopsStop = (job : Job) (budget window : ℕ) (es : List Event) → list_any is_stop es ≡ false → (tree_after job budget window es).stopped ≡ false

-- an alternative goes out, and comes back by the next event
pub record IsOutAndBack (out back : Event) : Type 0 where
  pub place : Place
  pub goes_out : hands_out place out ≡ true
  pub comes_back : gives_back place back ≡ true

abbrev pub TurnsBack : Type 0
TurnsBack = (es : List Event) (out back : Event) → out_after es [] ≡ [] → IsOutAndBack out back → out_after (es ++ out ∷ back ∷ []) [] ≡ []

-- so one after another
abbrev pub AreOutAndBack : List Event → Type 0
AreOutAndBack [] = Unit {0}
AreOutAndBack (out ∷ []) = ⊥
AreOutAndBack (out ∷ back ∷ es) = IsOutAndBack out back × AreOutAndBack es

abbrev pub AllTurnBack : Type 0
AllTurnBack = (es more : List Event) → out_after es [] ≡ [] → AreOutAndBack more → out_after (es ++ more) [] ≡ []
