-- What is out closes, in the tree for which the nodes stand.
use Rattle.std.proofs.Common.{◌≡◌, ◌⊎◌, inl, inr, ℕ, suc, ◌+◌, Bool, true, false, List, [], ◌∷◌, ◌++◌, length, Option, Some, None, refl, sym, ap, ◌∙◌, subst, arith}
use Rattle.std.specs.Prelude.{is_some}
use Rattle.run_model.specs.Machine.Entries.{Entry}
use Rattle.tree_model.specs.Closing.{Grown, with_right, wakes, closes}
use Rattle.tree_model.specs.Credits.{Credit, no_credit, credit_of, without_records}
use Rattle.tree_model.specs.Effects.{closed_with, results_of, where_some, after_allowed, after_event}
use Rattle.tree_model.specs.Events.{Event}
use Rattle.tree_model.specs.EventViews.{place_view}
use Rattle.tree_model.specs.Legality.{taken_at, at_spot, run_of, run_is_empty, run_gives_result, is_allowed, is_legal}
use Rattle.tree_model.specs.Levels.{Level, plug, Place, Spot, levels_of}
use Rattle.tree_model.specs.Nodes.{Pending, Inner, Closed, single}
use Rattle.tree_model.specs.SoundTrees.{IsSound}
use Rattle.tree_model.specs.TreeStates.{TreeState}
use Rattle.tree_nodes.specs.Bodies.{Body, Reading}
use Rattle.tree_nodes.specs.Changes.{KeepsNumbers, IsLonger}
use Rattle.tree_nodes.specs.Rows.{credit_view}
use Rattle.tree_nodes.specs.TreeTables.{NodesView, IsTableOf}
use Rattle.tree_closing.specs.Closings.{RestsAs, Rests, RestsWoken, is_waking, woken_entry}
use Rattle.tree_closing.specs.declared.way_up.Beside.{Beside}
use Rattle.tree_closing.specs.declared.way_up.Beside.TheVariants.{Same, Closes, Gathers, Ends}
use Rattle.tree_closing.specs.declared.way_up.Closing.{Closing}
use Rattle.interleaving.proofs.OpenSpotLemmas.{taken_at_open}
use Rattle.public_tree.specs.PublicTrees.{PublicView, IsRooted, IsPublicOf, Answers, NotesIn, is_going, IsOut}
use Rattle.public_tree.specs.PublicClosing.{closing_event, ends_run, end_credit, ReadsAs, RunEndsAs, IsGrownTo, RestsIn}
use Rattle.public_tree.specs.declared.closing.TaskEnd.{TaskEnd}
use Rattle.public_tree.specs.declared.closing.TaskEnd.TheVariants.{Nothing, Result}
use Rattle.public_tree.proofs.HandOutLemmas.{KeepsOthers, legal_while_going, rooted_round, taken_place}
use Rattle.public_tree.proofs.GrownLemmas.{stands_grown}

pub is_quiet : (x : Beside) → (x ≡ Same) ⊎ (x ≡ Closes) → is_waking x ≡ false
is_quiet x (inl e) = ap is_waking e
is_quiet x (inr e) = ap is_waking e

pub is_woken : (x : Beside) → (x ≡ Gathers) ⊎ (x ≡ Ends) → is_waking x ≡ true
is_woken x (inl e) = ap is_waking e
is_woken x (inr e) = ap is_waking e

-- where nothing wakes, no number is drawn
quiet_numbers : (sort : Beside) → is_waking sort ≡ false → (next : ℕ) (x : Level) (above : List Level) (k : Credit) (g : Grown) → RestsAs sort next x above k g
    → (g.next ≡ next) × IsRooted g.root
quiet_numbers Same q next x above k g r =
    (ap (λ (y : Grown). y.next) r, subst (λ (y : Grown). IsRooted y.root) (sym r) (rooted_round x above (Closed k)))
quiet_numbers Closes q next x above k g r =
    (ap (λ (y : Grown). y.next) r, subst (λ (y : Grown). IsRooted y.root) (sym r) (rooted_round (with_right (Closed no_credit) x) above (Closed k)))
quiet_numbers Gathers q next x above k g r = absurd (cc q)
quiet_numbers Ends q next x above k g r = absurd (cc q)

waking_rooted : (next : ℕ) (x : Level) (above : List Level) (k : Credit) (e : Entry) → IsRooted (wakes next x above k e).root
waking_rooted next x above k e = rooted_round (with_right (Inner (single next e)) x) above (Closed k)

-- where something does, one is
woken_numbers : (sort : Beside) → is_waking sort ≡ true → (next : ℕ) (x : Level) (above : List Level) (k : Credit) (g : Grown) → RestsAs sort next x above k g
    → (g.next ≡ suc next) × IsRooted g.root
woken_numbers Same q next x above k g r = absurd (cc q)
woken_numbers Closes q next x above k g r = absurd (cc q)
woken_numbers Gathers q next x above k g r =
    (ap (λ (y : Grown). y.next) r.1.1, subst (λ (y : Grown). IsRooted y.root) (sym r.1.1) (waking_rooted next x above (without_records k) (woken_entry x.number k.records r.0)))
woken_numbers Ends q next x above k g r =
    (ap (λ (y : Grown). y.next) r.1.1, subst (λ (y : Grown). IsRooted y.root) (sym r.1.1) (waking_rooted next x above k (woken_entry x.number k.records r.0)))

pub rests_quietly : (old new : NodesView) (b : Place) (total : Credit) (beside : Beside) (body : Option Body) → is_waking beside ≡ false
    → Rests old new b total beside → KeepsNumbers old new → RestsIn old new b total beside body
rests_quietly old new b total beside body quiet rests numbers = λ a c read v up was k p s snd reads.
    let n = length old.rows in
    let r = k read v up was n p s snd in
    let drawn = quiet_numbers beside quiet n r.reached.level r.reached.above total (closes n (v ∷ up) c) r.rests in
    record { placed = rests a c k read v up was n p s snd; next = numbers.length ∙ sym drawn.0; rooted = drawn.1 }

pub rests_waking : (old new : NodesView) (b : Place) (total : Credit) (beside : Beside) (body : Body) (n : ℕ) → is_waking beside ≡ true → n ≡ length old.rows
    → RestsWoken old new b total beside body n → IsLonger old new → RestsIn old new b total beside (Some body)
rests_waking old new b total beside body n waking number rests longer = λ a c read v up was k p s snd reads.
    let m = length old.rows in
    let r = k read v up was m p s snd in
    let drawn = woken_numbers beside waking m r.reached.level r.reached.above total (closes m (v ∷ up) c) r.rests in
    let woken = rests a c k read v up was p s snd (subst (λ (x : Bool). ReadsAs read old.rows b total.records x (Some body)) waking reads) in
    let one : length old.rows + 1 ≡ suc m = omega arith in
    record {
      placed = subst (λ (x : ℕ). IsTableOf new read (closes x (v ∷ up) c).root) number woken;
      next = longer.length ∙ (one ∙ sym drawn.0);
      rooted = drawn.1;
    }

-- the event by which it closes
module _ (w : ℕ) (a : Place) (k : ℕ) (t : TreeState) (s : Spot) (at : taken_at w a t ≡ Some s) where
  end_allowed : (e : TaskEnd) → ends_run e (run_of t s k) ≡ true → is_allowed t (closing_event e w a k) ≡ true
  end_allowed Nothing h = ap (λ (o : Option Spot). at_spot o (λ r. run_is_empty (run_of t r k))) at ∙ h
  end_allowed Result h = ap (λ (o : Option Spot). at_spot o (λ r. run_gives_result (run_of t r k))) at ∙ h

  end_after : (e : TaskEnd) → after_allowed t (closing_event e w a k) ≡ closed_with s (end_credit e k (run_of t s k)) t
  end_after Nothing = ap (λ (o : Option Spot). where_some o t (λ r. closed_with r (credit_of k) t)) at
  end_after Result =
      ap (λ (o : Option Spot). where_some o t (λ r. closed_with r (record { inferences = k; answers = 0; records = results_of (run_of t r k) }) t)) at

-- what is out to a worker closes
module _ (w : ℕ) (old new : PublicView) (a : Place) (k : ℕ) (e : TaskEnd) (closing : Closing) (body : Option Body) (going : Answers old is_going true)
    (out : IsOut old w a) (closed : RestsIn old.nodes new.nodes (place_view closing.end) (credit_view closing.credit) closing.beside body)
    (others : KeepsOthers old new) (stopped : new.log.stopped ≡ old.log.stopped) (read : Reading) (t : TreeState) (h : IsPublicOf old read t)
    (known : RunEndsAs old.nodes e closing body w a k read t) where
  abbrev event : Event
  event = closing_event e w a k

  legal_at : (s : Spot) → taken_at w a t ≡ Some s → is_legal t event ≡ true
  legal_at s at = legal_while_going t event (sym (going read t h)) (end_allowed w a k t s at e (known.ends s at))

  stands_at : (s : Spot) → taken_at w a t ≡ Some s → IsPublicOf new read (after_event t event)
  stands_at s at =
      let spot = taken_at_open w a t s at in
      let table : IsTableOf old.nodes read (plug (levels_of s) (Pending s.hold s.entry)) = subst (IsTableOf old.nodes read) (sym spot.inside) h.placed in
      let sound : IsSound [] (plug (levels_of s) (Pending s.hold s.entry)) = subst (IsSound []) (sym spot.inside) h.sound.sound in
      let c = end_credit e k (run_of t s k) in
      let now = closed a c read s.level s.above (Pending s.hold s.entry) (known.rests s at) (taken_place w a t s at) table sound known.given in
      stands_grown old new event read t (closes t.next (levels_of s) c) others stopped
      (subst (λ (n : ℕ). IsGrownTo new.nodes read (closes n (levels_of s) c)) h.next now) h (end_after w a k t s at e) (legal_at s at)

  by_spot : {A : Type 0} → (o : Option Spot) → taken_at w a t ≡ o → is_some o ≡ true → ((s : Spot) → taken_at w a t ≡ Some s → A) → A
  by_spot None is f go = absurd (cc f)
  by_spot (Some s) is f go = go s is

  pub closed_out : new.log.events ≡ old.log.events ++ event ∷ [] → NotesIn old new event read t
  closed_out events = record {
    noted = events;
    budget = others.budget;
    window = others.window;
    legal = by_spot (taken_at w a t) refl (out read t h) legal_at;
    stands = by_spot (taken_at w a t) refl (out read t h) stands_at;
  }
