-- A run that ends in an answer is made public, and its answer taken, at once.
use Rattle.std.proofs.Common.{◌≡◌, ◌≢◌, ℕ, zero, suc, ◌+◌, ◌-◌, ◌<◌, ◌≤◌, max, Bool, true, false, cond, List, [], ◌∷◌, ◌++◌, length, map, Option, Some, None, refl, sym, ap, ◌∙◌, subst, arith}
use Rattle.std.proofs.lemmas.List.{length-replicate}
use Rattle.std.specs.Prelude.{◌&&◌, not, is_some, is_none, nat_lt, find, replicate}
use Rattle.au_model.specs.Terms.Each.{Each}
use Rattle.au_term.proofs.LogicLemmas.{both, number_same}
use Rattle.run_model.specs.declared.ending.RunEnding.{RunEnding}
use Rattle.run_model.specs.Machine.Entries.{Entry}
use Rattle.tree_model.specs.CaughtTrees.{IsCaughtTree}
use Rattle.tree_model.specs.Closing.{closes}
use Rattle.tree_model.specs.Effects.{spending, after_event}
use Rattle.tree_model.specs.Events.{Event, Claim, Nodes, Answer}
use Rattle.tree_model.specs.EventViews.{place_view}
use Rattle.tree_model.specs.Histories.{after_events, are_legal}
use Rattle.tree_model.specs.Legality.{is_taken_by, is_spot_at, taken_at, is_legal}
use Rattle.tree_model.specs.Levels.{plug, Place, same_place, Spot, levels_of, place_of_spot}
use Rattle.tree_model.specs.Nodes.{Hold, TakenBy, Pending}
use Rattle.tree_model.specs.Orders.{clock_of}
use Rattle.tree_model.specs.SoundTrees.{IsSound, IsSoundTree}
use Rattle.tree_model.specs.TreeStates.{TreeState, pending_spots, first_spot, leftmost, ended}
use Rattle.tree_nodes.specs.Bodies.{Body, Reading}
use Rattle.tree_nodes.specs.Rows.{AlternativeCell, PendingCell, InnerCell, ClosedCell, cell_at}
use Rattle.tree_nodes.specs.TreeTables.{IsTableOf}
use Rattle.tree_nodes.proofs.WalkLemmas.{cell_here}
use Rattle.tree_closing.specs.declared.way_up.Closing.{Closing}
use Rattle.interleaving.proofs.LegalLemmas.{event_sound}
use Rattle.interleaving.proofs.OpenSpotLemmas.{taken_at_open}
use Rattle.interleaving.proofs.PluggedLemmas.{IsIn, all_in}
use Rattle.interleaving.proofs.UnchangedPlaceLemmas.{place_self, same_place-is}
use Rattle.answered_runs.specs.AnswersAtOnce.{answer_shape, answer_events, RunsToAnswer, answered_at_once, AnswersAreLegal, AnswersCloseAtOnce}
use Rattle.public_tree.specs.declared.answering_at_once.RunAnswering.{RunAnswering}
use Rattle.public_tree.specs.declared.answering_at_once.RunAnswering.TheVariants as answering
use Rattle.public_tree.specs.AnsweringAtOnce.{answer_sizes, leaf_place, run_events, run_credit, RunAnswersAs, lasts_at, lasts, run_answering, RunRestsIn}
use Rattle.public_tree.specs.Answering.{is_first_at}
use Rattle.public_tree.specs.PublicClosing.{IsGrownTo}
use Rattle.public_tree.specs.PublicTrees.{PublicView, IsPublicOf, Answers, NotesAllIn, is_going, IsOut}
use Rattle.public_tree.proofs.HandOutLemmas.{KeepsOthers, taken_place}
use Rattle.public_tree.proofs.PruningLemmas.{table_out}
use Rattle.public_tree.proofs.PublishingLemmas.{hold_out}

-- the sizes by how many recoveries there are
map_size : (over : List Entry) → map {B = ℕ} (λ e. 2) over ≡ replicate {A = ℕ} (length over) 2
map_size [] = refl
map_size (e ∷ over) = ap (λ (sizes : List ℕ). 2 ∷ sizes) (map_size over)

pub shape_sizes : (over : List Entry) → answer_shape over ≡ answer_sizes (length over)
shape_sizes [] = refl
shape_sizes (e ∷ over) = ap (λ (sizes : List ℕ). 2 ∷ sizes) (map_size over)

pub length-sizes : (n : ℕ) → length (answer_sizes n) ≡ max n 1
length-sizes zero = refl
length-sizes (suc n) = let h = length-replicate {A = ℕ} n 2 in omega (arith, h)

-- and the events
abbrev events_of : ℕ → ℕ → Place → ℕ → List ℕ → List Event
events_of next w a k sizes =
    Nodes w a k sizes ∷ Claim w (record { node = (next + length sizes) - 1; index = 0 })
    ∷ Answer w (record { node = (next + length sizes) - 1; index = 0 }) false ∷ []

pub same_events : (next w : ℕ) (a : Place) (k : ℕ) (over : List Entry) (n : ℕ) → length over ≡ n
    → answer_events next w a k over ≡ run_events next w a k n
same_events next w a k over n e = ap (events_of next w a k) (shape_sizes over ∙ ap answer_sizes e)

-- what is noted of them
pub told_events : (mid new old : List Event) (w : ℕ) (a : Place) (k n : ℕ) (sizes : List ℕ) (leaf : Place) (drawn next : ℕ)
    → new ≡ mid ++ Nodes w a k sizes ∷ Claim w leaf ∷ Answer w leaf false ∷ [] → mid ≡ old → sizes ≡ answer_sizes n → leaf ≡ leaf_place drawn n
    → drawn ≡ next → new ≡ old ++ run_events next w a k n
told_events mid new old w a k n sizes leaf drawn next e logged shape at numbers =
    e
    ∙ (ap (λ (es : List Event). es ++ Nodes w a k sizes ∷ Claim w leaf ∷ Answer w leaf false ∷ []) logged
    ∙ (ap (λ (x : List ℕ). old ++ Nodes w a k x ∷ Claim w leaf ∷ Answer w leaf false ∷ []) shape
    ∙ ap (λ (p : Place). old ++ Nodes w a k (answer_sizes n) ∷ Claim w p ∷ Answer w p false ∷ []) (at ∙ ap (λ (m : ℕ). leaf_place m n) numbers)))

pub sound_after : (t : TreeState) (es : List Event) → IsSoundTree t → are_legal t es ≡ true → IsSoundTree (after_events t es)
sound_after t [] h l = h
sound_after t (e ∷ es) h l =
    let parts = both (is_legal t e) (are_legal (after_event t e) es) l in
    sound_after (after_event t e) es (event_sound t e h parts.0) parts.1

-- what an answer says of a tree
answer_parts : (g f l : Bool) → answering.Taken ≡ cond g (cond f (cond l answering.Taken answering.OverBudget) answering.NotLeftmost) answering.HasEnded
    → (g ≡ true) × ((f ≡ true) × (l ≡ true))
answer_parts true true true e = (refl, (refl, refl))
answer_parts true true false e = absurd (cc e)
answer_parts true false l e = absurd (cc e)
answer_parts false f l e = absurd (cc e)

not_stopped : (b : Bool) → not b ≡ true → b ≡ false
not_stopped false e = refl
not_stopped true e = absurd (cc e)

no_ending : (o : Option RunEnding) → is_none o ≡ true → o ≡ None
no_ending None e = refl
no_ending (Some x) e = absurd (cc e)

abbrev hold_in : Hold → AlternativeCell → Hold
hold_in other (PendingCell hold) = hold
hold_in other (InnerCell n) = other
hold_in other (ClosedCell credit) = other

abbrev hold_at : Hold → Option (ℕ × AlternativeCell) → Hold
hold_at other None = other
hold_at other (Some c) = hold_in other c.1

same_hold : (m n : ℕ) (x y : Hold) → ◌≡◌ {A = Option (ℕ × AlternativeCell)} (Some (m, PendingCell x)) (Some (n, PendingCell y)) → x ≡ y
same_hold m n x y e = ap (hold_at x) e

-- what is out to a worker, where the leftmost entry is, is that one
taken_first : (w : ℕ) (a : Place) (p : PublicView) (read : Reading) (t : TreeState) (s : Spot) → IsPublicOf p read t → taken_at w a t ≡ Some s
    → is_first_at a t ≡ true → leftmost t ≡ Some s
taken_first w a p read t s h e f = by_spots (pending_spots t) refl
  where
    by_spots : (spots : List Spot) → pending_spots t ≡ spots → leftmost t ≡ Some s
    by_spots [] q = absurd (let z = ap (λ (x : List Spot). is_spot_at a (first_spot x)) (sym q) ∙ f in cc z)
    by_spots (r ∷ spots) q =
        let at : same_place a (place_of_spot r) ≡ true = ap (λ (x : List Spot). is_spot_at a (first_spot x)) (sym q) ∙ f in
        let inside = (subst (Each (IsIn t.root)) q (all_in t.root)).0 in
        let here = cell_here p.nodes read r.level r.above (Pending r.hold r.entry) (subst (IsTableOf p.nodes read) (sym inside) h.placed) in
        let there = cell_here p.nodes read s.level s.above (Pending s.hold s.entry) (table_out p.nodes w a read t s h.placed e) in
        let places : place_of_spot r ≡ place_of_spot s = sym (same_place-is a (place_of_spot r) at) ∙ sym (taken_place w a t s e) in
        let hold : r.hold ≡ TakenBy w
        = same_hold r.level.spent s.level.spent r.hold s.hold (sym here ∙ (ap (cell_at p.nodes.rows) places ∙ there)) ∙ hold_out w a t s e in
        let passes : (is_taken_by w r.hold && same_place a (place_of_spot r)) ≡ true
        = ap (λ (x : Hold). is_taken_by w x && same_place a (place_of_spot r)) hold
        ∙ (ap (λ (b : Bool). b && same_place a (place_of_spot r)) (number_same w) ∙ at) in
        let first : taken_at w a t ≡ Some r
        = ap (find (λ x. is_taken_by w x.hold && same_place a (place_of_spot x))) q
        ∙ ap (λ (b : Bool). cond b (Some r) (find (λ x. is_taken_by w x.hold && same_place a (place_of_spot x)) spots)) passes in
        ap first_spot q ∙ (sym first ∙ e)

module _ (w : ℕ) (old new : PublicView) (a : Place) (k n : ℕ) (closing : Closing) (body : Option Body) (legal : AnswersAreLegal) (close : AnswersCloseAtOnce)
    (free : Answers old (run_answering a k) answering.Taken) (out : IsOut old w a) (some : 1 ≤ k)
    (rested : RunRestsIn old.nodes new.nodes a k (max n 1) closing body) (others : KeepsOthers old new) (stopped : new.log.stopped ≡ old.log.stopped)
    (read : Reading) (t : TreeState) (h : IsPublicOf old read t) (caught : IsCaughtTree t) (known : RunAnswersAs old.nodes closing body w a k n read t) where
  abbrev events : List Event
  events = run_events t.next w a k n

  module _ (s : Spot) (at : taken_at w a t ≡ Some s) where
    runs : RunsToAnswer t w a k s (known.runs s at).answer (known.runs s at).over
    runs =
        let parts = answer_parts (is_going t) (is_first_at a t) (lasts k t) (free read t h) in
        let going = both (not t.stopped) (is_none (ended t)) parts.0 in
        let first : leftmost t ≡ Some s = taken_first w a old read t s h at parts.1.0 in
        let more : nat_lt (clock_of (levels_of s) + k) t.budget ≡ true = ap (lasts_at k t.budget) (sym first) ∙ parts.1.1 in
        let r = known.runs s at in
        record {
          out = at;
          first = first;
          some = some;
          run = r.run;
          answers = r.answers;
          spent = r.spent;
          running = not_stopped t.stopped going.0;
          going = no_ending (ended t) going.1;
          lasts = grind (arith, more);
        }

    abbrev over : List Entry
    over = (known.runs s at).over

    same : answer_events t.next w a k over ≡ events
    same = same_events t.next w a k over n (known.runs s at).many

    legal_at : are_legal t events ≡ true
    legal_at = subst (λ (es : List Event). are_legal t es ≡ true) same (legal t w a k s (known.runs s at).answer over h.sound runs)

    abbrev after : TreeState
    after = answered_at_once t w a k s (known.runs s at).answer over

    is_after : after_events t events ≡ after
    is_after = ap (after_events t) (sym same) ∙ close t w a k s (known.runs s at).answer over h.sound caught runs

    now : IsGrownTo new.nodes read (closes (t.next + length (answer_shape over)) (spending k (levels_of s)) (run_credit k))
    now =
        let spot = taken_at_open w a t s at in
        let table : IsTableOf old.nodes read (plug (levels_of s) (Pending s.hold s.entry)) = subst (IsTableOf old.nodes read) (sym spot.inside) h.placed in
        let sound : IsSound [] (plug (levels_of s) (Pending s.hold s.entry)) = subst (IsSound []) (sym spot.inside) h.sound.sound in
        let shape : length (answer_shape over) ≡ max n 1 = ap length (shape_sizes over ∙ ap answer_sizes (known.runs s at).many) ∙ length-sizes n in
        let drawn : length old.nodes.rows + max n 1 ≡ t.next + length (answer_shape over) = (let e = h.next in omega (arith, e, shape)) in
        subst (λ (m : ℕ). IsGrownTo new.nodes read (closes m (spending k (levels_of s)) (run_credit k))) drawn
        (rested read s.level s.above (Pending s.hold s.entry) known.rests (taken_place w a t s at) table sound known.given)

    stands_after : IsPublicOf new read after
    stands_after = record {
      placed = now.placed;
      next = now.next;
      lost = others.lost ∙ h.lost;
      halted = others.halted ∙ h.halted;
      budget = others.budget ∙ h.budget;
      window = others.window ∙ h.window;
      stopped = stopped ∙ h.stopped;
      sound = subst IsSoundTree is_after (sound_after t events h.sound legal_at);
      rooted = now.rooted;
    }

    stands_at : IsPublicOf new read (after_events t events)
    stands_at = subst (IsPublicOf new read) (sym is_after) stands_after

  by_spot : {A : Type 0} → (o : Option Spot) → taken_at w a t ≡ o → is_some o ≡ true → ((s : Spot) → taken_at w a t ≡ Some s → A) → A
  by_spot None is f go = absurd (cc f)
  by_spot (Some s) is f go = go s is

  pub run_taken : new.log.events ≡ old.log.events ++ events → NotesAllIn old new events read t
  run_taken noted = record {
    noted = noted;
    budget = others.budget;
    window = others.window;
    legal = by_spot (taken_at w a t) refl (out read t h) legal_at;
    stands = by_spot (taken_at w a t) refl (out read t h) stands_at;
  }
