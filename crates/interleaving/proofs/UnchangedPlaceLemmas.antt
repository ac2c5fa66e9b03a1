-- Promises that rest on sound trees alone.
use Rattle.std.proofs.Common.{◌≡◌, ◌≢◌, ◌⊎◌, inl, inr, ℕ, ◌==◌, Bool, true, false, List, [], ◌∷◌, ◌++◌, Option, Some, None, refl, sym, ap}
use Rattle.std.proofs.Common.{◌∙◌, subst, arith}
use Rattle.std.specs.Prelude.{◌&&◌, ◌||◌, not, nat_lt, find, is_none}
use Rattle.run_model.specs.Machine.Entries.{Entry}
use Rattle.au_model.specs.Terms.Each.{Each}
use Rattle.tree_model.specs.Nodes.{Gate, CutGate, BallGate, WorldGate, FrozenGate, Hold, Ready, TakenBy, Waiting, Dormant, Pending}
use Rattle.tree_model.specs.Levels.{plug, Place, same_place, Spot, levels_of, place_of_spot}
use Rattle.tree_model.specs.Gates.{scope_of}
use Rattle.tree_model.specs.Orders.{first_open, is_cleared}
use Rattle.tree_model.specs.Pruning.{Task, tasks_below}
use Rattle.tree_model.specs.Events.{Event, Claim, Nodes, Empty, Collected, Lost, Suspend, Resume, Prune, Answer, Stop}
use Rattle.tree_model.specs.TreeStates.{TreeState, pending_spots, first_spot, leftmost, live, end_by, ended, opening_tree}
use Rattle.tree_model.specs.Legality.{is_ready, may_resume, is_spot_at, if_room, claimable, resumable, taken_at, gate_of, run_of}
use Rattle.tree_model.specs.Legality.{is_world_gate, at_spot, is_allowed, is_legal}
use Rattle.tree_model.specs.Effects.{ball_falls, cut_at, gate_pruned, run_placed, where_some, after_allowed, after_event}
use Rattle.tree_model.specs.Histories.{after_events, are_legal, tree_after}
use Rattle.tree_model.specs.Promises.{IsFrontAnswer, NoPrunedEffect, tasks_out, NeverStuck}
use Rattle.tree_model.specs.SoundTrees.{IsOpen, profile, IsSoundTree}
use Rattle.interleaving.proofs.WayLemmas.{cond-true}
use Rattle.interleaving.proofs.PluggedLemmas.{IsIn, all_in}
use Rattle.tree_model.proofs.OrderLemmas.{none_below}
use Rattle.interleaving.proofs.FrontLemmas.{leftmost_front, tasks_plug}
use Rattle.interleaving.proofs.LegalLemmas.{legal_sound}
use Rattle.au_term.proofs.LogicLemmas.{and-right, and-left, number_same}

-- a history with one event more
pub after-last : (t : TreeState) (es : List Event) (e : Event) → after_events t (es ++ e ∷ []) ≡ after_event (after_events t es) e
after-last t [] e = refl
after-last t (d ∷ es) e = after-last (after_event t d) es e

legal-last : (t : TreeState) (es : List Event) (e : Event) → are_legal t (es ++ e ∷ []) ≡ true → is_legal (after_events t es) e ≡ true
legal-last t [] e h = and-left (is_legal t e) true h
legal-last t (d ∷ es) e h = legal-last (after_event t d) es e (and-right (is_legal t d) _ h)

-- what leaves the world as it is
some_world : (t : TreeState) (o : Option Spot) (new : Spot → TreeState) → ((s : Spot) → (new s).world ≡ t.world)
    → (where_some o t new).world ≡ t.world
some_world t None new f = refl
some_world t (Some s) new f = f s

placed_world : (t : TreeState) (s : Spot) (k : ℕ) (sizes : List ℕ) (o : Option (List Entry)) → (run_placed s k sizes o t).world ≡ t.world
placed_world t s k sizes None = refl
placed_world t s k sizes (Some es) = refl

falls_world : (t : TreeState) (s : Spot) (es : List Entry) → (ball_falls s es t).world ≡ t.world
falls_world t s [] = refl
falls_world t s (e ∷ es) = refl

cut_world : (t : TreeState) (s : Spot) (n : ℕ) (es : List Entry) → (cut_at s n es t).world ≡ t.world
cut_world t s n [] = refl
cut_world t s n (e ∷ es) = refl

pruned_world : (t : TreeState) (s : Spot) (g : Option Gate) (es : List Entry) → (gate_pruned s g es t).world ≡ t.world
pruned_world t s (Some (CutGate n)) es = cut_world t s n es
pruned_world t s (Some (BallGate n)) es = falls_world t s es
pruned_world t s (Some WorldGate) es = refl
pruned_world t s (Some FrozenGate) es = refl
pruned_world t s None es = refl

pub same_place-is : (a b : Place) → same_place a b ≡ true → a ≡ b
same_place-is a b h =
    let n : a.node ≡ b.node = number (a.node) (b.node) (and-left (a.node == b.node) _ h) in
    let i : a.index ≡ b.index = number (a.index) (b.index) (and-right (a.node == b.node) _ h) in
    ap (λ m. record { node = m; index = a.index }) n ∙ ap (λ m. record { node = b.node; index = m }) i
  where
    number : (m n : ℕ) → (m == n) ≡ true → m ≡ n
    number m n e = grind arith

front_answer : (t : TreeState) (w : ℕ) (a : Place) → is_spot_at a (leftmost t) ≡ true → IsFrontAnswer t (Answer w a false)
front_answer t w a h = go (leftmost t) refl h
  where
    go : (o : Option Spot) → leftmost t ≡ o → is_spot_at a o ≡ true → IsFrontAnswer t (Answer w a false)
    go None e k = let no_way : ⊥ = cc in absurd no_way
    go (Some s) e k = record {
      worker = w;
      spot = s;
      is_leftmost = e;
      is_answer = ap (λ p. Answer w p false)
          (same_place-is a (place_of_spot s) k);
    }

answer_front : (t : TreeState) (a : Place) (o : Option Spot) → at_spot o (λ s. is_world_gate (gate_of t s) && is_spot_at a (leftmost t))
    ≡ true → is_spot_at a (leftmost t) ≡ true
answer_front t a None h = let no_way : ⊥ = cc in absurd no_way
answer_front t a (Some s) h = and-right (is_world_gate (gate_of t s)) _ h

event_world : (t : TreeState) (e : Event) → is_allowed t e ≡ true → (after_allowed t e).world ≡ t.world ⊎ IsFrontAnswer t e
event_world t (Claim w a) h = inl (some_world t (claimable t) _ (λ s. refl))
event_world t (Resume w a) h = inl (some_world t (resumable t) _ (λ s. refl))
event_world t (Nodes w a k sizes) h = inl (some_world t (taken_at w a t) _ (λ s. placed_world t s k sizes (run_of t s k)))
event_world t (Empty w a k) h = inl (some_world t (taken_at w a t) _ (λ s. refl))
event_world t (Collected w a k) h = inl (some_world t (taken_at w a t) _ (λ s. refl))
event_world t (Lost w a) h = inl refl
event_world t (Suspend w a frozen) h = inl (some_world t (taken_at w a t) _ (λ s. refl))
event_world t (Prune w a) h = inl (some_world t (taken_at w a t) _ (λ s. pruned_world t s (gate_of t s) _))
event_world t (Answer w a true) h = let no_way : ⊥ = cc in absurd no_way
event_world t (Answer w a false) h = inr (front_answer t w a (answer_front t a (taken_at w a t) h))
event_world t (Stop w) h = inl refl

legal_world : (t : TreeState) (e : Event) → is_legal t e ≡ true → (after_event t e).world ≡ t.world ⊎ IsFrontAnswer t e
unfolding is_legal after_event
legal_world t e h = event_world t e (and-right (is_none (ended t)) _ (and-right (not t.stopped) _ h))

pub no_pruned_effect : NoPrunedEffect
no_pruned_effect job budget window es e h =
    let t = tree_after job budget window es in
    let same = after-last (opening_tree job budget window) es e in
    go same (legal_world t e (legal-last (opening_tree job budget window) es e h))
  where
    go : after_events (opening_tree job budget window) (es ++ e ∷ []) ≡ after_event (tree_after job budget window es) e →
        (after_event (tree_after job budget window es) e).world ≡ (tree_after job budget window es).world ⊎ IsFrontAnswer
        (tree_after job budget window es) e →
        (tree_after job budget window (es ++ e ∷ [])).world ≡ (tree_after job budget window es).world ⊎ IsFrontAnswer
        (tree_after job budget window es) e
    go s (inl w) = inl (ap (λ t. t.world) s ∙ w)
    go s (inr a) = inr a

-- never stuck
some_none : (s : Spot) → Some s ≡ None → ⊥
some_none s h = cc

pub place_self : (a : Place) → same_place a a ≡ true
place_self a = ap (λ b. b && (a.index == a.index)) (number_same a.node) ∙ number_same a.index

first_found : (test : Spot → Bool) (spots : List Spot) (s : Spot) (ss : List Spot) → spots ≡ s ∷ ss → test s ≡ true → find test spots
    ≡ Some s
first_found test spots s ss e h = ap (find test) e ∙ cond-true (test s) (Some s) (find test ss) h

may_go : (t : TreeState) (s : Spot) (ss : List Spot) (hold : Hold) → s.hold ≡ hold → pending_spots t ≡ s ∷ ss
    → plug (levels_of s) (Pending s.hold s.entry) ≡ t.root → first_open (levels_of s) ≡ None → profile (Pending s.hold s.entry) ≡ IsOpen
    → tasks_out t ≡ [] → claimable t ≢ None ⊎ resumable t ≢ None
may_go t s ss Ready e p i c o k =
    let ready : find (λ r. is_ready r.hold) (pending_spots t)
    ≡ Some s = first_found (λ r. is_ready r.hold) (pending_spots t) s ss p (ap is_ready e) in
    let left : leftmost t ≡ Some s = ap first_spot p in
    let here : is_spot_at (place_of_spot s) (leftmost t) ≡ true = ap (is_spot_at (place_of_spot s)) left ∙ place_self (place_of_spot s) in
    let room : if_room t (Some s) ≡ Some s = cond-true _ (Some s) None (ap (λ b. b || nat_lt (live t) t.window) here) in
    let claim : claimable t ≡ Some s = ap (if_room t) ready ∙ room in
    inl (λ none. some_none s (sym claim ∙ none))
may_go t s ss (Waiting g) e p i c o k =
    let clear : is_cleared (scope_of g) (levels_of s) ≡ true = ap is_none (none_below (scope_of g) (levels_of s) c) in
    let goes : may_resume s s.hold ≡ true = ap (may_resume s) e ∙ clear in
    let found : resumable t ≡ Some s = first_found (λ r. may_resume r r.hold) (pending_spots t) s ss p goes in
    inr (λ none. some_none s (sym found ∙ none))
may_go t s ss (TakenBy w) e p i c o k = absurd
    (tasks_plug (levels_of s) (Pending s.hold s.entry) (λ n j h. taken n j h) 0 0
    (ap (tasks_below 0 0) i ∙ front (tasks_below 0 0 t.root) t.lost k))
  where
    front : (xs ys : List Task) → xs ++ ys ≡ [] → xs ≡ []
    front [] ys z = refl
    front (x ∷ xs) ys z = let no_way : ⊥ = cc in absurd no_way

    clash : (n j : ℕ) → tasks_below n j (Pending (TakenBy w) s.entry) ≡ [] → ⊥
    clash n j z = cc

    taken : (n j : ℕ) → tasks_below n j (Pending s.hold s.entry) ≡ [] → ⊥
    taken n j h = clash n j (ap (λ hold. tasks_below n j (Pending hold s.entry)) (sym e) ∙ h)
may_go t s ss Dormant e p i c o k = absurd (clash (sym (ap (λ hold. profile (Pending hold s.entry)) e) ∙ o))
  where
    clash : profile (Pending Dormant s.entry) ≡ IsOpen → ⊥
    clash z = cc

goes_on : (t : TreeState) → IsSoundTree t → ended t ≡ None → tasks_out t ≡ [] → claimable t ≢ None ⊎ resumable t ≢ None
goes_on t h e k = go (pending_spots t) refl e
  where
    no_end : (o : Option ℕ) → end_by o None t.budget ≡ None → ⊥
    no_end None z = cc
    no_end (Some n) z = cc

    go : (spots : List Spot) → pending_spots t ≡ spots → end_by t.halted (first_spot (pending_spots t)) t.budget ≡ None
        → claimable t ≢ None ⊎ resumable t ≢ None
    go [] p z = absurd (no_end t.halted (sym (ap (λ spots. end_by t.halted (first_spot spots) t.budget) p) ∙ z))
    go (s ∷ ss) p z =
        let f = leftmost_front t.root h.sound s ss p in
        may_go t f.first f.others f.first.hold refl f.joined (first_in f.first f.others f.joined) f.clear f.opened k
      where
        first_in : (s : Spot) (ss : List Spot) → pending_spots t ≡ s ∷ ss → IsIn t.root s
        first_in s ss q = (subst (Each (IsIn t.root)) q (all_in t.root)).0

pub never_stuck : NeverStuck
never_stuck job budget window es h e s k = goes_on (tree_after job budget window es) (legal_sound job budget window es h) e k
