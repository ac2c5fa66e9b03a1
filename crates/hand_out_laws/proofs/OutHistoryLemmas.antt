-- Where all that a legal history has handed out has come back, nobody has a task.
use Rattle.std.proofs.Common.{◌≡◌, inl, inr, ℕ, ◌+◌, ◌≤◌, Bool, true, false, List, [], ◌∷◌, Option, Some, None, refl, sym, ap, ◌∙◌, arith}
use Rattle.std.specs.Prelude.{not, is_none}
use Rattle.run_model.specs.declared.ending.RunEnding.{RunEnding}
use Rattle.run_model.specs.Programs.Jobs.{Query, Job}
use Rattle.tree_model.specs.Levels.{Place, same_place, Spot}
use Rattle.tree_model.specs.Pruning.{Task, tasks_below}
use Rattle.tree_model.specs.Events.{Event}
use Rattle.tree_model.specs.TreeStates.{TreeState, opening_root, opening_tree, leftmost, end_by, ended}
use Rattle.tree_model.specs.Legality.{is_legal}
use Rattle.tree_model.specs.Effects.{after_event}
use Rattle.tree_model.specs.Histories.{after_events, are_legal, tree_after}
use Rattle.tree_model.specs.Promises.{tasks_out, NeverStuck}
use Rattle.tree_model.specs.SoundTrees.{one_if}
use Rattle.interleaving.proofs.UnchangedPlaceLemmas.{place_self}
use Rattle.au_term.proofs.LogicLemmas.{and-left, and-right}
use Rattle.tree_core.specs.TasksOut.{out_by, out_after}
use Rattle.hand_out_laws.specs.HandedBack.{AllBack, AllBackWhileGoing, HasEndedOrOffers, GoesOnOrEnds}
use Rattle.hand_out_laws.proofs.TaskCountLemmas.{tasks_at, tasks_append}
use Rattle.hand_out_laws.proofs.OutEventLemmas.{times_among, AreAmong, allowed_among}

-- a tree that goes on was not halted
not_halted : (o : Option ℕ) (first : Option Spot) (budget : ℕ) → is_none (end_by o first budget) ≡ true → o ≡ None
not_halted None first budget h = refl
not_halted (Some k) first budget h = let no_way : ⊥ = cc in absurd no_way

event_among : (t : TreeState) (e : Event) (places : List Place) → (t.halted ≡ None → AreAmong t places) → is_legal t e ≡ true
    → (after_event t e).halted ≡ None → AreAmong (after_event t e) (out_by e places)
unfolding is_legal after_event
event_among t e places among h n =
    let rest = and-right (not t.stopped) _ h in
    let open_tree = not_halted t.halted (leftmost t) t.budget (and-left (is_none (ended t)) _ rest) in
    allowed_among t places (among open_tree) e (and-right (is_none (ended t)) _ rest) n

events_among : (t : TreeState) (es : List Event) (places : List Place) → (t.halted ≡ None → AreAmong t places) → are_legal t es ≡ true
    → (after_events t es).halted ≡ None → AreAmong (after_events t es) (out_after es places)
events_among t [] places among h n = among n
events_among t (e ∷ es) places among h n =
    events_among (after_event t e) es (out_by e places) (event_among t e places among (and-left (is_legal t e) _ h)) (and-right (is_legal t e) _ h) n

opening_among : (job : Job) (budget window : ℕ) → AreAmong (opening_tree job budget window) []
opening_among job budget window a = by_queries job.queries
  where
    by_queries : (qs : List Query) → tasks_at a (tasks_below 0 0 (opening_root qs)) + 0 ≤ 0
    by_queries [] = omega arith
    by_queries (q ∷ qs) = omega arith

-- a list without a task at any place
no_task : (tasks : List Task) → ((a : Place) → tasks_at a tasks ≤ 0) → tasks ≡ []
no_task [] h = refl
no_task (task ∷ tasks) h =
    let l = h task.at in
    let one : one_if (same_place task.at task.at) ≡ 1 = ap one_if (place_self task.at) in
    let no_way : ⊥ = omega (arith, l, one) in
    absurd no_way

pub all_back : AllBack
all_back job budget window es h n back =
    let t = tree_after job budget window es in
    no_task (tasks_out t) (λ a.
    let among = events_among (opening_tree job budget window) es [] (λ o. opening_among job budget window) h n a in
    let none_out = ap (times_among a) back in
    let s = tasks_append a (tasks_below 0 0 t.root) t.lost in
    omega (arith, among, none_out, s))

pub all_back_going : AllBackWhileGoing
all_back_going job budget window es h going back =
    let t = tree_after job budget window es in
    all_back job budget window es h (not_halted t.halted (leftmost t) t.budget (and-right (not t.stopped) _ going)) back

pub goes_on : NeverStuck → GoesOnOrEnds
goes_on never job budget window es h back = by_end (ended t) refl
  where
    t : TreeState
    t = tree_after job budget window es

    some_none : (x : RunEnding) → Some x ≡ None → ⊥
    some_none x z = cc

    by_stop : ended t ≡ None → (b : Bool) → t.stopped ≡ b → HasEndedOrOffers t
    by_stop e true s = inr (inl s)
    by_stop e false s = inr (inr (never job budget window es h e s
        (all_back job budget window es h (not_halted t.halted (leftmost t) t.budget (ap is_none e)) back)))

    by_end : (o : Option RunEnding) → ended t ≡ o → HasEndedOrOffers t
    by_end None e = by_stop e t.stopped refl
    by_end (Some x) e = inl (λ z. some_none x (sym e ∙ z))
