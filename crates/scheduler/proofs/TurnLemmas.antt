-- Turns keep what a driven tree has.
use Rattle.std.proofs.Common.{◌≡◌, ◌≢◌, ◌||◌, inl, inr, ℕ, append_assoc, Bool, true, false, cond, List, [], ◌∷◌, ◌++◌, Option, Some, None, refl, sym, ap, ◌∙◌}
use Rattle.std.specs.List.{list_any}
use Rattle.std.specs.Option.{option_map}
use Rattle.tree_model.specs.Events.{Event, Claim, Nodes, Empty, Collected, Lost, Suspend, Resume, Prune, Answer, Stop}
use Rattle.tree_model.specs.Levels.{Place, Spot, place_of_spot}
use Rattle.tree_model.specs.TreeStates.{TreeState, ended}
use Rattle.public_tree.specs.PublicTrees.{is_going}
use Rattle.tree_core.specs.HandOuts.{offered_at}
use Rattle.tree_core.specs.Histories.{History, state_of}
use Rattle.tree_core.specs.TasksOut.{out_after}
use Rattle.hand_out_laws.specs.HandedBack.{hands_out, gives_back, is_stop, OneGoesOut, OneComesBack, OnlyStopsStop, TurnsBack}
use Rattle.interleaving.proofs.UnchangedPlaceLemmas.{place_self}
use Rattle.public_tree.specs.AnsweringAtOnce.{answer_sizes, leaf_place}
use Rattle.scheduler.specs.GivenBack.{IsAnsweredBack, IsGivenBack, IsGivenBackOnce, leaves_world}
use Rattle.scheduler.specs.JobRuns.{EventsLeaveRuns, IsJobRun}
use Rattle.scheduler.specs.declared.job_run.JobRun.{JobRun}
use Rattle.scheduler.specs.Driving.{GoesOut, IsDriven}
use Rattle.au_term.proofs.LogicLemmas.{neither}

-- while a tree goes on, what is not offered is not there
pub not_there : (offer : TreeState → Option Spot) (t : TreeState) → is_going t ≡ true → None ≡ offered_at offer t → offer t ≢ None → ⊥
not_there offer t going none some = by_spot (offer t) refl
  where
    offered : option_map place_of_spot (offer t) ≡ None
    offered = ap (λ (b : Bool). option_map place_of_spot (cond b (offer t) None)) (sym going) ∙ sym none

    by_spot : (o : Option Spot) → offer t ≡ o → ⊥
    by_spot None e = some e
    by_spot (Some s) e = let no_way : ⊥ = cc in no_way

goes_no_stop : (a : Place) (e : Event) → hands_out a e ≡ true → is_stop e ≡ false
goes_no_stop a (Claim w b) h = refl
goes_no_stop a (Resume w b) h = refl
goes_no_stop a (Suspend w b frozen) h = refl
goes_no_stop a (Nodes w b k sizes) h = refl
goes_no_stop a (Empty w b k) h = refl
goes_no_stop a (Collected w b k) h = refl
goes_no_stop a (Lost w b) h = refl
goes_no_stop a (Prune w b) h = refl
goes_no_stop a (Answer w b frozen) h = refl
goes_no_stop a (Stop w) h = let no_way : ⊥ = cc in absurd no_way

back_no_stop : (a : Place) (e : Event) → gives_back a e ≡ true → is_stop e ≡ false
back_no_stop a (Claim w b) h = refl
back_no_stop a (Resume w b) h = refl
back_no_stop a (Suspend w b frozen) h = refl
back_no_stop a (Nodes w b k sizes) h = refl
back_no_stop a (Empty w b k) h = refl
back_no_stop a (Collected w b k) h = refl
back_no_stop a (Lost w b) h = refl
back_no_stop a (Prune w b) h = refl
back_no_stop a (Answer w b frozen) h = refl
back_no_stop a (Stop w) h = let no_way : ⊥ = cc in absurd no_way

no_stop_more : (es : List Event) (e : Event) → list_any is_stop es ≡ false → is_stop e ≡ false → list_any is_stop (es ++ e ∷ []) ≡ false
no_stop_more [] e h k = ap (λ (b : Bool). b || false) k
no_stop_more (x ∷ es) e h k =
    let parts = neither (is_stop x) (list_any is_stop es) h in
    ap (λ (b : Bool). b || list_any is_stop (es ++ e ∷ [])) parts.0 ∙ no_stop_more es e parts.1 k

-- what goes out is out alone
pub out_alone : OneGoesOut → (old new : History) (a : Place) → IsDriven old → is_going (state_of old) ≡ true → GoesOut old new a → out_after new.events [] ≡ a ∷ []
out_alone one old new a d going g = ap (λ (h : History). out_after h.events []) g.noted ∙ one old.events a g.out (d.back going) g.goes

pub out_unstopped : (old new : History) (a : Place) → IsDriven old → GoesOut old new a → list_any is_stop new.events ≡ false
out_unstopped old new a d g =
    ap (λ (h : History). list_any is_stop h.events) g.noted ∙ no_stop_more old.events g.out d.unstopped (goes_no_stop a g.out g.goes)

-- a tree that has ended as something went out
pub over : (old new : History) (a : Place) → IsDriven old → GoesOut old new a → is_going (state_of new) ≡ false → IsDriven new
over old new a d g ends = record { unstopped = out_unstopped old new a d g; back = λ goes. let no_way : ⊥ = cc in absurd no_way }

-- and it comes back, by its own events
with_three : (es : List Event) (x y z : Event) → es ++ x ∷ y ∷ z ∷ [] ≡ (es ++ x ∷ []) ++ y ∷ z ∷ []
with_three es x y z = sym (append_assoc es (x ∷ []) (y ∷ z ∷ []))

module _ (one : OneGoesOut) (back : OneComesBack) (turn : TurnsBack) (old out new : History) (a : Place) (d : IsDriven old) (going : is_going (state_of old) ≡ true)
    (g : GoesOut old out a) where
  back_once : IsGivenBackOnce out new a → IsDriven new
  back_once b = record {
    unstopped = ap (λ (h : History). list_any is_stop h.events) b.noted ∙ no_stop_more out.events b.back (out_unstopped old out a d g) (back_no_stop a b.back b.gives);
    back = λ goes. ap (λ (h : History). out_after h.events []) b.noted ∙ back out.events a b.back (out_alone one old out a d going g) b.gives;
  }

  module _ (b : IsAnsweredBack out new a) where
    abbrev sizes : List ℕ
    sizes = answer_sizes b.recoveries

    abbrev leaf : Place
    leaf = leaf_place (state_of out).next b.recoveries

    abbrev publishing : Event
    publishing = Nodes b.worker a b.inferences sizes

    abbrev claiming : Event
    claiming = Claim b.worker leaf

    abbrev answering : Event
    answering = Answer b.worker leaf false

    events_are : new.events ≡ (out.events ++ publishing ∷ []) ++ claiming ∷ answering ∷ []
    events_are = ap (λ (h : History). h.events) b.noted ∙ with_three out.events publishing claiming answering

    public_unstopped : list_any is_stop (out.events ++ publishing ∷ []) ≡ false
    public_unstopped = no_stop_more out.events publishing (out_unstopped old out a d g) refl

    all_unstopped : list_any is_stop ((out.events ++ publishing ∷ []) ++ claiming ∷ answering ∷ []) ≡ false
    all_unstopped =
        ap (list_any is_stop) (sym (append_assoc (out.events ++ publishing ∷ []) (claiming ∷ []) (answering ∷ [])))
        ∙ no_stop_more ((out.events ++ publishing ∷ []) ++ claiming ∷ []) answering
        (no_stop_more (out.events ++ publishing ∷ []) claiming public_unstopped refl) refl

    public_back : out_after (out.events ++ publishing ∷ []) [] ≡ []
    public_back = back out.events a publishing (out_alone one old out a d going g) (place_self a)

    back_answered : IsDriven new
    back_answered = record {
      unstopped = ap (list_any is_stop) events_are ∙ all_unstopped;
      back = λ goes.
          ap (λ es. out_after es []) events_are
          ∙ turn (out.events ++ publishing ∷ []) claiming answering public_back
          (record { place = leaf; goes_out = place_self leaf; comes_back = place_self leaf });
    }

  pub back_again : IsGivenBack out new a → IsDriven new
  back_again (inl b) = back_once b
  back_again (inr b) = back_answered b

-- one that has not ended goes on
pub goes_on : OnlyStopsStop → (h : History) → IsDriven h → ended (state_of h) ≡ None → is_going (state_of h) ≡ true
goes_on only h d e = let s = only h.job h.budget h.window h.events d.unstopped in cc

goes_alone : (a : Place) (e : Event) → hands_out a e ≡ true → leaves_world e ≡ true
goes_alone a (Claim w b) h = refl
goes_alone a (Resume w b) h = refl
goes_alone a (Suspend w b frozen) h = refl
goes_alone a (Nodes w b k sizes) h = refl
goes_alone a (Empty w b k) h = refl
goes_alone a (Collected w b k) h = refl
goes_alone a (Lost w b) h = refl
goes_alone a (Prune w b) h = refl
goes_alone a (Answer w b frozen) h = let no_way : ⊥ = cc in absurd no_way
goes_alone a (Stop w) h = refl

-- what a job is run with stays that of a tree out of which an alternative goes
pub run_goes_out : EventsLeaveRuns → (old new : History) (a : Place) (run : JobRun) → GoesOut old new a → IsJobRun old run → IsJobRun new run
run_goes_out leaves old new a run g k = leaves old new g.out run (goes_alone a g.out g.goes) g.noted k
