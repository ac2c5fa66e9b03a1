-- What goes out and comes back again.
use Rattle.std.proofs.Common.{◌≡◌, Bool, true, cond, List, [], ◌∷◌, ◌++◌, refl, sym, ap, ◌∙◌}
use Rattle.tree_model.specs.Events.{Event, Claim, Nodes, Empty, Collected, Lost, Suspend, Resume, Prune, Answer, Stop}
use Rattle.tree_model.specs.Levels.{Place, same_place}
use Rattle.interleaving.proofs.UnchangedPlaceLemmas.{same_place-is, place_self}
use Rattle.au_term.proofs.LogicLemmas.{false_true}
use Rattle.tree_core.specs.TasksOut.{without_place, out_by, out_after}
use Rattle.hand_out_laws.specs.HandedBack.{hands_out, gives_back, OneGoesOut, OneComesBack, IsOutAndBack, TurnsBack, AreOutAndBack, AllTurnBack}

out_then : (es ds : List Event) (places : List Place) → out_after (es ++ ds) places ≡ out_after ds (out_after es places)
out_then [] ds places = refl
out_then (e ∷ es) ds places = out_then es ds (out_by e places)

goes_out : (a : Place) (e : Event) (places : List Place) → hands_out a e ≡ true → out_by e places ≡ a ∷ places
goes_out a (Claim w b) places h = ap (λ (p : Place). p ∷ places) (sym (same_place-is a b h))
goes_out a (Resume w b) places h = ap (λ (p : Place). p ∷ places) (sym (same_place-is a b h))
goes_out a (Suspend w b frozen) places h = false_true h
goes_out a (Nodes w b k sizes) places h = false_true h
goes_out a (Empty w b k) places h = false_true h
goes_out a (Collected w b k) places h = false_true h
goes_out a (Lost w b) places h = false_true h
goes_out a (Prune w b) places h = false_true h
goes_out a (Answer w b frozen) places h = false_true h
goes_out a (Stop w) places h = false_true h

taken_back : (a b : Place) (places : List Place) → same_place a b ≡ true → without_place b (a ∷ places) ≡ places
taken_back a b places h =
    let same = same_place-is a b h in
    ap (λ (x : Bool). cond x places (a ∷ without_place b places)) (ap (λ (p : Place). same_place p a) (sym same) ∙ place_self a)

comes_back : (a : Place) (e : Event) (places : List Place) → gives_back a e ≡ true → out_by e (a ∷ places) ≡ places
comes_back a (Suspend w b frozen) places h = taken_back a b places h
comes_back a (Nodes w b k sizes) places h = taken_back a b places h
comes_back a (Empty w b k) places h = taken_back a b places h
comes_back a (Collected w b k) places h = taken_back a b places h
comes_back a (Lost w b) places h = taken_back a b places h
comes_back a (Prune w b) places h = taken_back a b places h
comes_back a (Answer w b frozen) places h = taken_back a b places h
comes_back a (Claim w b) places h = false_true h
comes_back a (Resume w b) places h = false_true h
comes_back a (Stop w) places h = false_true h

pub one_out : OneGoesOut
one_out es a out e h = out_then es (out ∷ []) [] ∙ (ap (out_by out) e ∙ goes_out a out [] h)

pub one_back : OneComesBack
one_back es a back e h = out_then es (back ∷ []) [] ∙ (ap (out_by back) e ∙ comes_back a back [] h)

turned : (out back : Event) → IsOutAndBack out back → out_by back (out_by out []) ≡ []
turned out back k = ap (out_by back) (goes_out k.place out [] k.goes_out) ∙ comes_back k.place back [] k.comes_back

pub turn_back : TurnsBack
turn_back es out back e k = out_then es (out ∷ back ∷ []) [] ∙ (ap (λ (places : List Place). out_by back (out_by out places)) e ∙ turned out back k)

all_turned : (more : List Event) → AreOutAndBack more → out_after more [] ≡ []
all_turned [] h = refl
all_turned (out ∷ []) h = absurd h
all_turned (out ∷ back ∷ es) h = ap (out_after es) (turned out back h.0) ∙ all_turned es h.1

pub turns_back : AllTurnBack
turns_back es more e h = out_then es more [] ∙ (ap (out_after more) e ∙ all_turned more h)
