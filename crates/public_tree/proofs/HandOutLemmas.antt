-- What is handed out, in the tree for which the nodes stand.
use Rattle.std.proofs.Common.{◌≡◌, ℕ, ◌<◌, ◌≤◌, Bool, true, false, cond, List, [], ◌∷◌, ◌++◌, length, Option, Some, None, refl, sym, ap, ◌∙◌, subst, arith}
use Rattle.std.specs.List.{list_any}
use Rattle.std.specs.Option.{option_map}
use Rattle.std.specs.Prelude.{nat_le, ◌&&◌, not, is_none, is_some}
use Rattle.run_model.specs.declared.ending.RunEnding.TheVariants.{Budget}
use Rattle.run_model.specs.Machine.Entries.{Entry}
use Rattle.au_term.proofs.LogicLemmas.{both}
use Rattle.tree_model.specs.Events.{Event, Lost, Suspend, Stop}
use Rattle.tree_model.specs.Effects.{without_task, gate_or_frozen, with_status, where_some, after_allowed, after_event}
use Rattle.tree_model.specs.Legality.{is_task, is_spot_at, is_taken_by, taken_at, at_spot, gate_of, is_frozen, is_allowed, is_legal}
use Rattle.tree_model.specs.Nodes.{Gate, CutGate, BallGate, WorldGate, FrozenGate, Hold, TakenBy, Waiting, Status, Pending, Inner}
use Rattle.tree_model.specs.Levels.{Level, level_node, plug, Place, same_place, Spot, levels_of, place_of_spot, pending_of}
use Rattle.tree_model.specs.Orders.{first_open, clock_of}
use Rattle.tree_model.specs.SoundTrees.{IsSound}
use Rattle.tree_model.specs.TreeStates.{TreeState, first_spot, end_by, ended, leftmost}
use Rattle.tree_nodes.specs.Bodies.{Reading}
use Rattle.tree_nodes.specs.Changes.{SetsCell}
use Rattle.tree_nodes.specs.Rows.{AlternativeCell, PendingCell, cell_at}
use Rattle.tree_nodes.proofs.WalkLemmas.{cell_here}
use Rattle.interleaving.proofs.OpenSpotLemmas.{IsOpenSpot, taken_at_open}
use Rattle.interleaving.proofs.LegalLemmas.{event_sound}
use Rattle.interleaving.proofs.UnchangedPlaceLemmas.{same_place-is, place_self}
use Rattle.interleaving.proofs.AppendLemmas.{found}
use Rattle.tree_nodes.specs.TreeTables.{NodesView, IsTableOf}
use Rattle.branch_order.specs.Leftmosts.{IsLeftmost}
use Rattle.branch_order.specs.Clocks.{HasClock}
use Rattle.interleaving.proofs.FrontLemmas.{leftmost_front}
use Rattle.interleaving.proofs.PluggedLemmas.{IsIn, all_in}
use Rattle.au_model.specs.Terms.Each.{Each}
use Rattle.public_tree.specs.PublicTrees.{PublicView, IsRooted, IsPublicOf, Answers, Offers, IsHeldAt, Notes, NotesIn, is_going, IsOut, is_frozen_gate, IsGateAt, IsItsGate}

-- the leftmost entry of a sound tree: all to its left has closed
pub record IsFirstSpot (root : Status) (a : Place) : Type 0 where
  pub spot : Spot
  pub is : first_spot (pending_of root) ≡ Some spot
  pub at : place_of_spot spot ≡ a
  pub clear : first_open (levels_of spot) ≡ None
  pub plugged : root ≡ plug (levels_of spot) (Pending spot.hold spot.entry)

pub first_spot_at : (root : Status) (a : Place) → IsSound [] root → option_map place_of_spot (first_spot (pending_of root)) ≡ Some a → IsFirstSpot root a
first_spot_at root a h e = by_spots (pending_of root) refl
  where
    by_spots : (spots : List Spot) → pending_of root ≡ spots → IsFirstSpot root a
    by_spots [] p = absurd (let z : None ≡ Some a = ap (λ (x : List Spot). option_map place_of_spot (first_spot x)) (sym p) ∙ e in cc z)
    by_spots (s ∷ ss) p =
        let f = leftmost_front root h s ss p in
        let first : first_spot (pending_of root) ≡ Some f.first = ap first_spot f.joined in
        let at : Some (place_of_spot f.first) ≡ Some a = ap (option_map place_of_spot) (sym first) ∙ e in
        let inside = subst (Each (IsIn root)) f.joined (all_in root) in
        record { spot = f.first; is = first; at = cc at; clear = f.clear; plugged = sym inside.0 }

-- neither halted, nor without entries: the leftmost clock decides
module _ (p : PublicView) (a : Place) (k : ℕ) (read : Reading) (t : TreeState) (h : IsPublicOf p read t) (halted : p.halted ≡ None)
    (first : IsLeftmost p.nodes (Some a)) (clock : HasClock p.nodes a k) where
  leftmost_spot : IsFirstSpot t.root a
  leftmost_spot = first_spot_at t.root a h.sound.sound (first read t.root h.placed h.sound.sound)

  clock_is : k ≡ clock_of (levels_of leftmost_spot.spot)
  clock_is = clock read leftmost_spot.spot.level leftmost_spot.spot.above (Pending leftmost_spot.spot.hold leftmost_spot.spot.entry) leftmost_spot.at
      (subst (IsTableOf p.nodes read) leftmost_spot.plugged h.placed) leftmost_spot.clear

  ended_is : ended t ≡ cond (nat_le p.budget k) (Some Budget) None
  ended_is =
      ap (λ (o : Option ℕ). end_by o (leftmost t) t.budget) (sym h.halted ∙ halted)
      ∙ (ap (λ (o : Option Spot). end_by None o t.budget) leftmost_spot.is
      ∙ (ap (λ (b : ℕ). cond (nat_le b (clock_of (levels_of leftmost_spot.spot))) (Some Budget) None) (sym h.budget)
      ∙ ap (λ (c : ℕ). cond (nat_le p.budget c) (Some Budget) None) (sym clock_is)))

  pub ended_by_budget : p.budget ≤ k → Some Budget ≡ ended t
  ended_by_budget l =
      let b : nat_le p.budget k ≡ true = grind (arith, l) in
      sym (ended_is ∙ ap (λ (x : Bool). cond x (Some Budget) None) b)

  pub not_ended : k < p.budget → None ≡ ended t
  not_ended l =
      let b : nat_le p.budget k ≡ false = grind (arith, l) in
      sym (ended_is ∙ ap (λ (x : Bool). cond x (Some Budget) None) b)

-- an entry is held by another, and nothing else is different
pub held_at : (old new : NodesView) (a : Place) (spent : ℕ) (hold : Hold) → SetsCell old new a spent (PendingCell hold)
    → option_map (λ c. c.0) (cell_at old.rows a) ≡ Some spent → IsHeldAt old new a hold
held_at old new a spent hold set sp read v up was entry at s =
    let k = set read v up (Pending was entry) at s in
    let here : cell_at old.rows a ≡ Some (v.spent, PendingCell was) = ap (cell_at old.rows) (sym at) ∙ cell_here old read v up (Pending was entry) s in
    let spends : Some spent ≡ Some v.spent = sym sp ∙ ap (λ (o : Option (ℕ × AlternativeCell)). option_map (λ c. c.0) o) here in
    let spent_is : spent ≡ v.spent = cc spends in
    subst (λ (n : ℕ). IsTableOf new read (plug (record v { spent = n } ∷ up) (Pending hold entry))) spent_is
    (subst (λ (e : Entry). IsTableOf new read (plug (record v { spent = spent } ∷ up) (Pending hold e))) k.1.0 k.1.1)

-- while the tree goes on, what is allowed is legal
pub legal_while_going : (t : TreeState) (e : Event) → is_going t ≡ true → is_allowed t e ≡ true → is_legal t e ≡ true
unfolding is_legal
legal_while_going t e g a =
    let parts = both (not t.stopped) (is_none (ended t)) g in
    ap (λ (b : Bool). b && (is_none (ended t) && is_allowed t e)) parts.0
    ∙ (ap (λ (b : Bool). b && is_allowed t e) parts.1 ∙ a)

-- nothing else of the tree is different
pub record KeepsOthers (old new : PublicView) : Type 0 where
  pub lost : new.lost ≡ old.lost
  pub halted : new.halted ≡ old.halted
  pub budget : new.budget ≡ old.budget
  pub window : new.window ≡ old.window

-- what is different where an entry is held by another
pub record HoldsBy (old new : PublicView) (a : Place) (hold : Hold) : Type 0 where
  pub held : IsHeldAt old.nodes new.nodes a hold
  pub rows : length new.nodes.rows ≡ length old.nodes.rows
  pub others : KeepsOthers old new
  pub stopped : new.log.stopped ≡ old.log.stopped

-- a place is in a node
pub rooted_round : (v : Level) (up : List Level) (status : Status) → IsRooted (plug (v ∷ up) status)
rooted_round v [] status = tt
rooted_round v (u ∷ up) status = rooted_round u up (Inner (level_node v status))

stands_held : (old new : PublicView) (a : Place) (hold : Hold) (e : Event) (read : Reading) (t : TreeState) (s : Spot) → HoldsBy old new a hold
    → IsPublicOf old read t → IsOpenSpot t.root s → place_of_spot s ≡ a → after_allowed t e ≡ with_status s (Pending hold s.entry) t
    → is_legal t e ≡ true → IsPublicOf new read (after_event t e)
unfolding after_event
stands_held old new a hold e read t s k h spot at is legal =
    let table : IsTableOf old.nodes read (plug (levels_of s) (Pending s.hold s.entry))
    = subst (IsTableOf old.nodes read) (sym spot.inside) h.placed in
    let now : IsTableOf new.nodes read (plug (levels_of s) (Pending hold s.entry)) = k.held read s.level s.above s.hold s.entry at table in
    record {
      placed = subst (λ (x : TreeState). IsTableOf new.nodes read x.root) (sym is) now;
      next = k.rows ∙ (h.next ∙ ap (λ (x : TreeState). x.next) (sym is));
      lost = k.others.lost ∙ (h.lost ∙ ap (λ (x : TreeState). x.lost) (sym is));
      halted = k.others.halted ∙ (h.halted ∙ ap (λ (x : TreeState). x.halted) (sym is));
      budget = k.others.budget ∙ (h.budget ∙ ap (λ (x : TreeState). x.budget) (sym is));
      window = k.others.window ∙ (h.window ∙ ap (λ (x : TreeState). x.window) (sym is));
      stopped = k.stopped ∙ (h.stopped ∙ ap (λ (x : TreeState). x.stopped) (sym is));
      sound = event_sound t e h.sound legal;
      rooted = subst (λ (x : TreeState). IsRooted x.root) (sym is) (rooted_round s.level s.above (Pending hold s.entry));
    }

-- what is offered is handed out
pub handed : (event : Place → Event) (offer : TreeState → Option Spot) (w : ℕ) (old new : PublicView) (a : Place)
    → ((t : TreeState) → is_allowed t (event a) ≡ is_spot_at a (offer t))
    → ((t : TreeState) → after_allowed t (event a) ≡ where_some (offer t) t (λ s. with_status s (Pending (TakenBy w) s.entry) t))
    → ((t : TreeState) (s : Spot) → offer t ≡ Some s → IsOpenSpot t.root s) → Answers old is_going true → Offers offer old (Some a)
    → HoldsBy old new a (TakenBy w) → new.log.events ≡ old.log.events ++ event a ∷ [] → Notes old new (event a)
handed event offer w old new a allows after opens going offers holds events =
    record {
      noted = events;
      budget = holds.others.budget;
      window = holds.others.window;
      legal = λ read t h. legal read t h;
      stands = λ read t h. by_spot read t h (offer t) refl (offers read t h);
    }
  where
    allowed : (t : TreeState) (o : Option Spot) → offer t ≡ o → option_map place_of_spot o ≡ Some a → is_allowed t (event a) ≡ true
    allowed t None e f = absurd (cc f)
    allowed t (Some s) e f =
        let at : place_of_spot s ≡ a = cc f in
        allows t ∙ (ap (is_spot_at a) e ∙ (ap (same_place a) at ∙ place_self a))

    legal : (read : Reading) (t : TreeState) → IsPublicOf old read t → is_legal t (event a) ≡ true
    legal read t h = legal_while_going t (event a) (sym (going read t h)) (allowed t (offer t) refl (offers read t h))

    by_spot : (read : Reading) (t : TreeState) → IsPublicOf old read t → (o : Option Spot) → offer t ≡ o → option_map place_of_spot o ≡ Some a
        → IsPublicOf new read (after_event t (event a))
    by_spot read t h None e f = absurd (cc f)
    by_spot read t h (Some s) e f =
        let is : after_allowed t (event a) ≡ with_status s (Pending (TakenBy w) s.entry) t
        = after t ∙ ap (λ (o : Option Spot). where_some o t (λ r. with_status r (Pending (TakenBy w) r.entry) t)) e in
        stands_held old new a (TakenBy w) (event a) read t s holds h (opens t s e) (cc f) is (legal read t h)

-- what is out to a worker is given back to wait
pub taken_place : (w : ℕ) (a : Place) (t : TreeState) (s : Spot) → taken_at w a t ≡ Some s → place_of_spot s ≡ a
taken_place w a t s e =
    let f = found (IsIn t.root) (λ r. is_taken_by w r.hold && same_place a (place_of_spot r)) (pending_of t.root) s (all_in t.root) e in
    sym (same_place-is a (place_of_spot s) (both (is_taken_by w s.hold) (same_place a (place_of_spot s)) f.passes).1)

gate_allowed : (t : TreeState) (w : ℕ) (a : Place) (s : Spot) (g : Gate) → taken_at w a t ≡ Some s → IsGateAt t s g
    → is_allowed t (Suspend w a (is_frozen_gate g)) ≡ true
gate_allowed t w a s FrozenGate e h = ap (λ (o : Option Spot). at_spot o (is_frozen t)) e ∙ h
gate_allowed t w a s (CutGate n) e h = ap (λ (o : Option Spot). at_spot o (λ r. is_some (gate_of t r))) e ∙ ap is_some h
gate_allowed t w a s (BallGate n) e h = ap (λ (o : Option Spot). at_spot o (λ r. is_some (gate_of t r))) e ∙ ap is_some h
gate_allowed t w a s WorldGate e h = ap (λ (o : Option Spot). at_spot o (λ r. is_some (gate_of t r))) e ∙ ap is_some h

gate_after : (t : TreeState) (w : ℕ) (a : Place) (s : Spot) (g : Gate) → taken_at w a t ≡ Some s → IsGateAt t s g
    → after_allowed t (Suspend w a (is_frozen_gate g)) ≡ with_status s (Pending (Waiting g) s.entry) t
gate_after t w a s g e h =
    ap (λ (o : Option Spot). where_some o t (λ r. with_status r (Pending (gate_or_frozen (is_frozen_gate g) (gate_of t r)) r.entry) t)) e
    ∙ ap (λ (k : Hold). with_status s (Pending k s.entry) t) (by_gate g h)
  where
    by_gate : (g : Gate) → IsGateAt t s g → gate_or_frozen (is_frozen_gate g) (gate_of t s) ≡ Waiting g
    by_gate FrozenGate h = refl
    by_gate (CutGate n) h = ap (gate_or_frozen false) h
    by_gate (BallGate n) h = ap (gate_or_frozen false) h
    by_gate WorldGate h = ap (gate_or_frozen false) h

pub given_back : (w : ℕ) (old new : PublicView) (a : Place) (g : Gate) → Answers old is_going true → IsOut old w a
    → HoldsBy old new a (Waiting g) → new.log.events ≡ old.log.events ++ Suspend w a (is_frozen_gate g) ∷ []
    → (read : Reading) (t : TreeState) → IsPublicOf old read t → IsItsGate g w a t → NotesIn old new (Suspend w a (is_frozen_gate g)) read t
given_back w old new a g going out holds events read t h gates = by_spot (taken_at w a t) refl (out read t h)
  where
    by_spot : (o : Option Spot) → taken_at w a t ≡ o → is_some o ≡ true → NotesIn old new (Suspend w a (is_frozen_gate g)) read t
    by_spot None e f = absurd (cc f)
    by_spot (Some s) e f =
        let gate : IsGateAt t s g = gates s e in
        let legal : is_legal t (Suspend w a (is_frozen_gate g)) ≡ true
        = legal_while_going t (Suspend w a (is_frozen_gate g)) (sym (going read t h)) (gate_allowed t w a s g e gate) in
        record {
          noted = events;
          budget = holds.others.budget;
          window = holds.others.window;
          legal = legal;
          stands = stands_held old new a (Waiting g) (Suspend w a (is_frozen_gate g)) read t s holds h (taken_at_open w a t s e) (taken_place w a t s e)
              (gate_after t w a s g e gate) legal;
        }

-- the tree stops
pub stops : (w : ℕ) (old new : PublicView) → Answers old is_going true → new.nodes ≡ old.nodes → KeepsOthers old new → new.log.stopped ≡ true
    → new.log.events ≡ old.log.events ++ Stop w ∷ [] → Notes old new (Stop w)
unfolding after_event
stops w old new going nodes others stopped events = record { noted = events; budget = others.budget; window = others.window; legal = λ read t h. legal read t h; stands = λ read t h. stands read t h }
  where
    legal : (read : Reading) (t : TreeState) → IsPublicOf old read t → is_legal t (Stop w) ≡ true
    legal read t h = legal_while_going t (Stop w) (sym (going read t h)) refl

    stands : (read : Reading) (t : TreeState) → IsPublicOf old read t → IsPublicOf new read (after_event t (Stop w))
    stands read t h = record {
      placed = subst (λ (x : NodesView). IsTableOf x read t.root) (sym nodes) h.placed;
      next = ap (λ (x : NodesView). length x.rows) nodes ∙ h.next;
      lost = others.lost ∙ h.lost;
      halted = others.halted ∙ h.halted;
      budget = others.budget ∙ h.budget;
      window = others.window ∙ h.window;
      stopped = stopped;
      sound = event_sound t (Stop w) h.sound (legal read t h);
      rooted = h.rooted;
    }

-- a task that was pruned is given back
pub given_up : (w : ℕ) (old new : PublicView) (a : Place) → Answers old is_going true → list_any (is_task w a) old.lost ≡ true → new.nodes ≡ old.nodes
    → new.lost ≡ without_task w a old.lost → new.halted ≡ old.halted → new.budget ≡ old.budget → new.window ≡ old.window
    → new.log.stopped ≡ old.log.stopped → new.log.events ≡ old.log.events ++ Lost w a ∷ [] → Notes old new (Lost w a)
unfolding after_event
given_up w old new a going there nodes lost halted budget window stopped events =
    record { noted = events; budget = budget; window = window; legal = λ read t h. legal read t h; stands = λ read t h. stands read t h }
  where
    legal : (read : Reading) (t : TreeState) → IsPublicOf old read t → is_legal t (Lost w a) ≡ true
    legal read t h = legal_while_going t (Lost w a) (sym (going read t h)) (ap (list_any (is_task w a)) (sym h.lost) ∙ there)

    stands : (read : Reading) (t : TreeState) → IsPublicOf old read t → IsPublicOf new read (after_event t (Lost w a))
    stands read t h = record {
      placed = subst (λ (x : NodesView). IsTableOf x read t.root) (sym nodes) h.placed;
      next = ap (λ (x : NodesView). length x.rows) nodes ∙ h.next;
      lost = lost ∙ ap (without_task w a) h.lost;
      halted = halted ∙ h.halted;
      budget = budget ∙ h.budget;
      window = window ∙ h.window;
      stopped = stopped ∙ h.stopped;
      sound = event_sound t (Lost w a) h.sound (legal read t h);
      rooted = h.rooted;
    }
