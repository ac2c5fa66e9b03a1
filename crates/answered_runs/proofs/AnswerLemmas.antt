-- The three events of an answer over recoveries.
use Rattle.std.proofs.Common.{◌≡◌, ℕ, suc, ◌+◌, ◌-◌, ◌<◌, ◌≤◌, ◌&&◌, Bool, true, false, List, [], ◌∷◌, ◌++◌, map, length, Option, Some, None, refl}
use Rattle.std.proofs.Common.{sym, ap, ◌∙◌, subst, arith, append_assoc}
use Rattle.std.specs.Prelude.{min, not, is_none, nat_le}
use Rattle.std.specs.List.{list_all}
use Rattle.std.proofs.lemmas.Bool.Decides.{nat_tests}
use Rattle.au_term.proofs.LogicLemmas.{and-both, number_same}
use Rattle.au_model.specs.Writing.Lines.{answer_line}
use Rattle.run_model.specs.Goals.Worlds.{World, writes}
use Rattle.run_model.specs.Machine.Items.{Item, GoalItem, CatchMark, CollectMark, RemovalItem, Continuation, without_marks}
use Rattle.run_model.specs.Machine.Entries.{Entry, PlainEntry, CatchEntry, FindallEntry, EndEntry}
use Rattle.tree_model.specs.Credits.{added, credit_of, greatest}
use Rattle.tree_model.specs.Nodes.{WorldGate, Hold, Ready, TakenBy, Status, Pending}
use Rattle.tree_model.specs.Levels.{Level, plug, Place, same_place, Spot, levels_of, place_of_spot, pending_of}
use Rattle.tree_model.specs.Floors.{floor_of, height_of, renamed_item, renamed_continuation, with_heights, with_nodes}
use Rattle.tree_model.specs.Gates.{item_gate}
use Rattle.tree_model.specs.Orders.{first_open, clock_of, credits_left}
use Rattle.tree_model.specs.Closing.{closes}
use Rattle.tree_model.specs.Shapes.{fits_shape, placed_scope, placed_status, placed}
use Rattle.tree_model.specs.FrontGates.{item_at_front, taken_at_front}
use Rattle.tree_model.specs.Events.{Event, Claim, Nodes, Answer}
use Rattle.tree_model.specs.TreeStates.{TreeState, pending_spots, leftmost, end_by, ended}
use Rattle.tree_model.specs.Legality.{claimable, taken_at, gate_of, run_of, run_fits, is_world_gate, is_spot_at, at_spot, is_allowed, is_legal}
use Rattle.tree_model.specs.Effects.{with_status, grown, spending, run_placed, spot_stack, world_moved, where_some, after_event}
use Rattle.tree_model.specs.Histories.{after_events, are_legal}
use Rattle.answered_runs.specs.AnswersAtOnce.{is_recovery, answer_shape, answer_place, answer_events, RunsToAnswer, one_answer}
use Rattle.answered_runs.specs.AnswersAtOnce.{answered_at_once}
use Rattle.interleaving.proofs.UnchangedPlaceLemmas.{place_self}
use Rattle.answered_runs.proofs.ShapeLemmas.{answers_fit}
use Rattle.answered_runs.proofs.LeafLemmas.{IsLeaf, leaf_of}
use Rattle.answered_runs.proofs.PendingLemmas.{Begins, first_at, is_first, first_place, may_be_claimed, is_taken, goes_on}

-- entries under other names
named_recoveries : (node : ℕ → ℕ) (es : List Entry) → list_all is_recovery es ≡ true → list_all is_recovery (map (with_nodes node) es) ≡ true
named_recoveries node [] h = refl
named_recoveries node (CatchEntry c r f ∷ es) h = named_recoveries node es h
named_recoveries node (PlainEntry f ∷ es) h = let no_way : ⊥ = cc in absurd no_way
named_recoveries node (FindallEntry results l f ∷ es) h = let no_way : ⊥ = cc in absurd no_way
named_recoveries node (EndEntry b ∷ es) h = let no_way : ⊥ = cc in absurd no_way

named_answer : (scope mark : ℕ → ℕ) (items : List (Item ℕ)) → without_marks items ≡ []
    → without_marks (map (renamed_item scope mark) items) ≡ []
named_answer scope mark [] h = refl
named_answer scope mark (CatchMark s ∷ items) h = named_answer scope mark items h
named_answer scope mark (GoalItem t s ∷ items) h = let no_way : ⊥ = cc in absurd no_way
named_answer scope mark (CollectMark t s ∷ items) h = let no_way : ⊥ = cc in absurd no_way
named_answer scope mark (RemovalItem n ∷ items) h = let no_way : ⊥ = cc in absurd no_way

shape_named : (node : ℕ → ℕ) (es : List Entry) → answer_shape (map (with_nodes node) es) ≡ answer_shape es
shape_named node [] = refl
shape_named node (e ∷ es) = ap (λ sizes. 2 ∷ sizes) (go es)
  where
    go : (es : List Entry) → map {B = ℕ} (λ e. 2) (map (with_nodes node) es) ≡ map (λ e. 2) es
    go [] = refl
    go (e ∷ es) = ap (λ sizes. 2 ∷ sizes) (go es)

at_least : (m n : ℕ) → m ≤ n → nat_le m n ≡ true
at_least m n h = grind (arith, nat_tests)

not_halted : (h : Option ℕ) (o : Option Spot) (budget : ℕ) → end_by h o budget ≡ None → h ≡ None
not_halted None o budget e = refl
not_halted (Some n) o budget e = let no_way : ⊥ = cc in absurd no_way

-- what a run spends passes on the clock
pub spent_clock : (s : Spot) (k : ℕ) → clock_of (spending k (levels_of s)) ≤ clock_of (levels_of s) + k
spent_clock s k = go (clock_of s.above) (credits_left s.level.left).inferences s.level.spent
  where
    go : (a b c : ℕ) → min greatest (a + min greatest (b + (c + k))) ≤ min greatest (a + min greatest (b + c)) + k
    go a b c = omega arith

module _ (t : TreeState) (w : ℕ) (a : Place) (k : ℕ) (s : Spot) (f : Continuation ℕ) (es : List Entry) (r : RunsToAnswer t w a k s f es)
    (clear : first_open (levels_of s) ≡ None) where
  abbrev names : ℕ → ℕ
  names = placed_scope t.next (answer_shape es) (levels_of s)

  abbrev marks : ℕ → ℕ
  marks h = placed_scope t.next (answer_shape es) (levels_of s) (suc h)

  abbrev answer : Continuation ℕ
  answer = renamed_continuation names marks f

  abbrev spent : Level
  spent = record s.level { spent = s.level.spent + k }

  leaf : IsLeaf ((t.next + length (answer_shape es)) - 1) spent s.above (PlainEntry answer) (placed t.next (answer_shape es) (levels_of s) (PlainEntry f ∷ es))
  leaf = subst (λ sizes. IsLeaf ((t.next + length sizes) - 1) spent s.above (PlainEntry answer)
      (placed_status t.next sizes (PlainEntry answer ∷ map (with_nodes names) es))) (shape_named names es)
      (leaf_of t.next spent s.above (PlainEntry answer) (map (with_nodes names) es) (named_recoveries names es r.spent))

  abbrev spot : Hold → Spot
  spot h = record { level = leaf.level; above = leaf.above; hold = h; entry = PlainEntry answer }

  abbrev published : TreeState
  published = record t {
    root = plug (levels_of (spot Ready)) (Pending Ready (PlainEntry answer));
    next = t.next + length (answer_shape es);
    history = t.history ++ Nodes w a k (answer_shape es) ∷ [];
  }

  abbrev handed_out : TreeState
  handed_out = record published {
    root = plug (levels_of (spot Ready)) (Pending (TakenBy w) (PlainEntry answer));
    history = published.history ++ Claim w (answer_place t.next es) ∷ [];
  }

  here : (h : Hold) → place_of_spot (spot h) ≡ answer_place t.next es
  here h = ap (λ n. record { node = n; index = length leaf.level.left }) leaf.numbered
      ∙ ap (λ (l : List (ℕ × Status)). record { node = (t.next + length (answer_shape es)) - 1; index = length l }) leaf.leftmost

  place_is : same_place (answer_place t.next es) (place_of_spot (spot Ready)) ≡ true
  place_is = ap (λ p. same_place p (place_of_spot (spot Ready))) (sym (here Ready)) ∙ place_self (place_of_spot (spot Ready))

  begins : (h : Hold) → Begins (pending_of (plug (levels_of (spot Ready)) (Pending h (PlainEntry answer)))) (spot h)
  begins h = first_at leaf.level leaf.above h (PlainEntry answer) (leaf.clear clear)

  pub unhalted : t.halted ≡ None
  unhalted = not_halted t.halted (leftmost t) t.budget r.going

  early : clock_of (levels_of (spot Ready)) < t.budget
  early =
      let passed : clock_of (spending k (levels_of s)) ≤ clock_of (levels_of s) + k = spent_clock s k in
      let same : clock_of (levels_of (spot Ready)) ≡ clock_of (spending k (levels_of s)) = leaf.clock in
      let l = r.lasts in
      omega (arith, passed, same, l)

  -- the three events
  may_publish : is_legal t (Nodes w a k (answer_shape es)) ≡ true
  unfolding is_legal
  may_publish = and-both _ _ (ap not r.running) (and-both _ _ (ap is_none r.going)
      (ap (λ o. at_spot o (λ x. nat_le 1 k && run_fits (length (levels_of x)) (answer_shape es) (run_of t x k))) r.out
      ∙ and-both _ _ (at_least 1 k r.some) (ap (run_fits (length (levels_of s)) (answer_shape es)) r.run
      ∙ answers_fit (length (levels_of s)) f es r.spent)))

  after_publishing : after_event t (Nodes w a k (answer_shape es)) ≡ published
  unfolding after_event
  after_publishing =
      let noted = t.history ++ Nodes w a k (answer_shape es) ∷ [] in
      ap (λ o. record (where_some o t (λ x. run_placed x k (answer_shape es) (run_of t x k) t)) { history = noted }) r.out
      ∙ (ap (λ o. record (run_placed s k (answer_shape es) o t) { history = noted }) r.run
      ∙ ap (λ root. record t { root = root; next = t.next + length (answer_shape es); history = noted }) leaf.inside)

  may_be_handed_out : is_legal published (Claim w (answer_place t.next es)) ≡ true
  unfolding is_legal
  may_be_handed_out = and-both _ _ (ap not r.running) (and-both _ _
      (ap is_none (goes_on published (spot Ready) (begins Ready) unhalted early))
      (ap (is_spot_at (answer_place t.next es)) (may_be_claimed published (spot Ready) (begins Ready) refl) ∙ place_is))

  after_handing_out : after_event published (Claim w (answer_place t.next es)) ≡ handed_out
  unfolding after_event
  after_handing_out = ap (λ o. record (where_some o published (λ x. with_status x (Pending (TakenBy w) x.entry) published))
      { history = published.history ++ Claim w (answer_place t.next es) ∷ [] }) (may_be_claimed published (spot Ready) (begins Ready) refl)

  out : taken_at w (answer_place t.next es) handed_out ≡ Some (spot (TakenBy w))
  out = subst (λ p. taken_at w p handed_out ≡ Some (spot (TakenBy w))) (here (TakenBy w))
      (is_taken handed_out (spot (TakenBy w)) (begins (TakenBy w)) w (number_same w))

  bare : (levels : List Level) → without_marks (map (renamed_item (height_of levels) (λ n. height_of levels n - 1)) answer.items) ≡ []
  bare levels = named_answer (height_of levels) (λ n. height_of levels n - 1) answer.items (named_answer names marks f.items r.answers)

  at_gate : is_world_gate (gate_of handed_out (spot (TakenBy w))) ≡ true
  unfolding gate_of
  at_gate = ap (λ items. is_world_gate (item_gate t.job.clauses (levels_of (spot (TakenBy w))) items
      (renamed_continuation (height_of (levels_of (spot (TakenBy w)))) (λ n. height_of (levels_of (spot (TakenBy w))) n - 1) answer)
      (floor_of (levels_of (spot (TakenBy w)))))) (bare (levels_of (spot (TakenBy w))))

  may_answer : is_legal handed_out (Answer w (answer_place t.next es) false) ≡ true
  unfolding is_legal
  may_answer = and-both _ _ (ap not r.running) (and-both _ _
      (ap is_none (goes_on handed_out (spot (TakenBy w)) (begins (TakenBy w)) unhalted early))
      (ap (λ o. at_spot o (λ x. is_world_gate (gate_of handed_out x) && is_spot_at (answer_place t.next es) (leftmost handed_out))) out
      ∙ and-both _ _ at_gate (ap (is_spot_at (answer_place t.next es)) (is_first handed_out (spot (TakenBy w)) (begins (TakenBy w)))
      ∙ place_is)))

  -- the tree in which the answer's line is written
  abbrev written : TreeState
  written = record handed_out { world = writes (answer_line t.world.operators f.named) t.world }

  abbrev answered : TreeState
  answered = record (grown (closes handed_out.next (levels_of (spot Ready)) one_answer) written)
      { history = handed_out.history ++ Answer w (answer_place t.next es) false ∷ [] }

  after_answering : after_event handed_out (Answer w (answer_place t.next es) false) ≡ answered
  unfolding after_event
  after_answering =
      let levels = levels_of (spot Ready) in
      let noted = handed_out.history ++ Answer w (answer_place t.next es) false ∷ [] in
      ap (λ o. record (where_some o handed_out (λ x. world_moved x (taken_at_front t.job.clauses (spot_stack x) t.world) handed_out))
      { history = noted }) out
      ∙ ap (λ items. record (world_moved (spot (TakenBy w)) (item_at_front t.job.clauses items
      (renamed_continuation (height_of levels) (λ n. height_of levels n - 1) answer) (floor_of levels) t.world) handed_out)
      { history = noted }) (bare levels)

  handed_out_is : after_event (after_event t (Nodes w a k (answer_shape es))) (Claim w (answer_place t.next es)) ≡ handed_out
  handed_out_is = ap (λ x. after_event x (Claim w (answer_place t.next es))) after_publishing ∙ after_handing_out

  pub are_all_legal : are_legal t (answer_events t.next w a k es) ≡ true
  are_all_legal = and-both _ _ may_publish (and-both _ _
      (ap (λ x. is_legal x (Claim w (answer_place t.next es))) after_publishing ∙ may_be_handed_out)
      (and-both _ _ (ap (λ x. is_legal x (Answer w (answer_place t.next es) false)) handed_out_is ∙ may_answer) refl))

  -- nothing was spent before
  pub closes_at_once : s.level.spent ≡ 0 → after_events t (answer_events t.next w a k es) ≡ answered_at_once t w a k s f es
  closes_at_once new =
      let spent_is : s.level.spent + k ≡ k = omega arith in
      let closed : closes handed_out.next (levels_of (spot Ready)) one_answer ≡ closes (t.next + length (answer_shape es))
      (spending k (levels_of s)) (added (credit_of k) one_answer) = leaf.closing handed_out.next
      ∙ ap (λ n. closes (t.next + length (answer_shape es)) (spending k (levels_of s)) (added (credit_of n) one_answer)) spent_is in
      let noted : answered.history ≡ t.history ++ answer_events t.next w a k es =
      append_assoc published.history (Claim w (answer_place t.next es) ∷ []) (Answer w (answer_place t.next es) false ∷ [])
      ∙ append_assoc t.history (Nodes w a k (answer_shape es) ∷ []) _ in
      ap (λ x. after_event x (Answer w (answer_place t.next es) false)) handed_out_is ∙ (after_answering
      ∙ (ap (λ g. record (grown g written) { history = answered.history }) closed
      ∙ ap (λ events. record (grown (closes (t.next + length (answer_shape es)) (spending k (levels_of s)) (added (credit_of k) one_answer))
      written) { history = events }) noted))
