-- Each event hands out and takes back in order.
use Rattle.std.proofs.Common.{◌≡◌, ◌≢◌, ℕ, ◌==◌, Bool, true, false, List, [], ◌∷◌, length, Option, Some, None, refl, sym, ap, ◌∙◌, subst}
use Rattle.std.specs.Prelude.{◌&&◌, nat_le, find}
use Rattle.run_model.specs.Programs.Clauses.{Clause}
use Rattle.run_model.specs.Programs.Databases.{Database, without_clause}
use Rattle.run_model.specs.Goals.Outcomes.{Reply, Solutions, Ball, HaltNumber, GoesOnWith, EitherOf, TestOf, CutToScope, CatchOf, FindallOf}
use Rattle.run_model.specs.Goals.Outcomes.{Outcome, Replies, Controls, AskWorld}
use Rattle.run_model.specs.Goals.GoalOutcomes.{outcome_of}
use Rattle.run_model.specs.Goals.Worlds.{World, world_step}
use Rattle.run_model.specs.Machine.Balls.{unwound}
use Rattle.run_model.specs.Machine.Items.{Item, GoalItem, CatchMark, CollectMark, RemovalItem, Continuation, with_items, without_marks}
use Rattle.run_model.specs.Machine.Items.{first_mark}
use Rattle.run_model.specs.Machine.Entries.{Entry, PlainEntry, CatchEntry, FindallEntry, EndEntry}
use Rattle.tree_model.specs.Nodes.{Gate, CutGate, BallGate, WorldGate, FrozenGate, Hold, Ready, TakenBy, Waiting, Dormant, Pending}
use Rattle.tree_model.specs.Levels.{Level, Place, same_place, Spot, levels_of, place_of_spot}
use Rattle.tree_model.specs.Gates.{goal_gate, item_gate, gate_on}
use Rattle.tree_model.specs.PrivateRuns.{goal_alone, item_alone, taken_alone}
use Rattle.tree_model.specs.Pruning.{Task}
use Rattle.tree_model.specs.FrontGates.{Taken, Continues, Answered, Raises, Halts, QueryEnds, reply_taken, goal_at_front}
use Rattle.tree_model.specs.FrontGates.{removal_at_front, item_at_front, taken_at_front}
use Rattle.tree_model.specs.TreeStates.{TreeState, pending_spots}
use Rattle.tree_model.specs.Legality.{is_ready, is_taken_by, is_spot_at, claimable, may_resume, taken_at, run_fits, may_prune, at_spot}
use Rattle.tree_model.specs.Effects.{with_status, or_none, gate_pruned, front_taken, run_placed, where_some}
use Rattle.tree_model.specs.HandOuts.{Handed, Never, Away, Over, claimed, given_back}
use Rattle.tree_model.specs.SoundTrees.{IsSoundTree}
use Rattle.interleaving.proofs.AppendLemmas.{found}
use Rattle.interleaving.proofs.WayLemmas.{cond-true}
use Rattle.interleaving.proofs.PluggedLemmas.{IsIn, all_in}
use Rattle.interleaving.proofs.BallLemmas.{IsLow, ball_scope_low}
use Rattle.interleaving.proofs.PlacedSoundLemmas.{two_not_one}
use Rattle.interleaving.proofs.HandOutCountLemmas.{handed}
use Rattle.interleaving.proofs.UnchangedPlaceLemmas.{same_place-is}
use Rattle.interleaving.proofs.OpenSpotLemmas.{if_room-some}
use Rattle.interleaving.proofs.OnceLemmas.{IsGoing, IsPreserved, moved_at, here, all_defined, IsThere, there, IsMoved, moved_going}
use Rattle.interleaving.proofs.OncePlaceLemmas.{hold_going}
use Rattle.interleaving.proofs.OnceChangeLemmas.{closed_moved, left_moved, cut_moved, fall_moved, opens_moved, placed_moved}
use Rattle.au_term.proofs.LogicLemmas.{and-right, and-left}

-- a tree after a closing event, unless it was halted
pub record Moves (F : Place → Option Handed) (t new : TreeState) (s : Spot) : Type 0 where
  pub gone : List Task
  pub moved : IsMoved F t new s gone

pub taken_out : (w : ℕ) (x : Handed) (hold : Hold) → is_taken_by w hold ≡ true → given_back x w (handed hold) ≡ Some x
taken_out w x (TakenBy v) h = cond-true (w == v) (Some x) None h
taken_out w x Ready h = let no_way : ⊥ = cc in absurd no_way
taken_out w x (Waiting g) h = let no_way : ⊥ = cc in absurd no_way
taken_out w x Dormant h = let no_way : ⊥ = cc in absurd no_way

-- what is out to a worker at a place
pub record IsTaken (w : ℕ) (a : Place) (t : TreeState) (s : Spot) : Type 0 where
  pub inside : IsIn t.root s
  pub held : is_taken_by w s.hold ≡ true
  pub here_is : a ≡ place_of_spot s

pub taken_here : (w : ℕ) (a : Place) (t : TreeState) (s : Spot) → taken_at w a t ≡ Some s → IsTaken w a t s
taken_here w a t s e =
    let f = found (IsIn t.root) (λ r. is_taken_by w r.hold && same_place a (place_of_spot r)) (pending_spots t) s (all_in t.root) e in
    record {
      inside = f.holds;
      held = and-left (is_taken_by w s.hold) _ f.passes;
      here_is = same_place-is a (place_of_spot s)
          (and-right (is_taken_by w s.hold) _ f.passes);
    }

pub closing : (G : Place → Option Handed) (t : TreeState) (w : ℕ) (a : Place) (test : Spot → Bool) (new : Spot → TreeState)
    → IsPreserved G t
    → t.halted ≡ None → IsSoundTree t → (o : Option Spot) → taken_at w a t ≡ o → at_spot o test ≡ true
    → IsSoundTree (where_some o t new) →
    ((s : Spot) → test s ≡ true → IsGoing G t → IsThere G t s → (new s).halted ≡ None
    → Moves (moved_at G (place_of_spot s) (given_back Over w)) t (new s) s)
    → IsPreserved (moved_at G a (given_back Over w)) (where_some o t new)
closing G t w a test new k z st None e h sn f = let no_way : ⊥ = cc in absurd no_way
closing G t w a test new k z st (Some s) e h sn f =
    let i = taken_here w a t s e in
    let g = k.going z in
    let th = there G t s g st i.inside in
    let q = taken_out w Over s.hold i.held in
    subst (λ p. IsPreserved (moved_at G p (given_back Over w)) (new s)) (sym i.here_is) (record {
      defined = all_defined G (place_of_spot s) (given_back Over w) Over k.defined
          (here G (place_of_spot s) (given_back Over w) (handed s.hold) Over th.mine q);
      going = λ y. let m = f s h g th y in moved_going G t (new s) s (given_back Over w) Over m.gone k.defined g st th q sn m.moved;
    })

-- something is left where a cut or a ball is taken
abbrev LeavesSome : List Entry → Type 0
LeavesSome [] = ⊥
LeavesSome (e ∷ es) = Unit {0}

low_some : (n : ℕ) (es : List Entry) → IsLow n es → LeavesSome es
low_some n [] h = h
low_some n (e ∷ es) h = tt

goal_some : (levels : List Level) (o : Outcome) (h : ℕ) (f : Continuation ℕ) (es : List Entry)
    → may_prune levels (goal_gate levels o h f es) ≡ true → LeavesSome (goal_alone o h f es)
goal_some levels (Replies (Ball b)) h f es e = low_some (length es) (unwound b (first_mark f.items) es)
    (ball_scope_low b (first_mark f.items) es)
goal_some levels (Replies (Solutions ss)) h f es e = let no_way : ⊥ = cc in absurd no_way
goal_some levels (Replies (HaltNumber k)) h f es e = let no_way : ⊥ = cc in absurd no_way
goal_some levels (Controls CutToScope) h f es e = tt
goal_some levels (Controls (GoesOnWith gs)) h f es e = tt
goal_some levels (Controls (EitherOf gs others)) h f es e = tt
goal_some levels (Controls (TestOf gs thens others)) h f es e = tt
goal_some levels (Controls (CatchOf g c r)) h f es e = tt
goal_some levels (Controls (FindallOf x g l)) h f es e = tt
goal_some levels (AskWorld goal) h f es e = let no_way : ⊥ = cc in absurd no_way

item_some : (clauses : List Clause) (levels : List Level) (items : List (Item ℕ)) (f : Continuation ℕ) (es : List Entry)
    → may_prune levels (item_gate clauses levels items f es) ≡ true → LeavesSome (or_none (item_alone clauses items f es))
item_some clauses levels [] f es e = let no_way : ⊥ = cc in absurd no_way
item_some clauses levels (CatchMark h ∷ items) f es e = let no_way : ⊥ = cc in absurd no_way
item_some clauses levels (CollectMark t h ∷ items) f es e = let no_way : ⊥ = cc in absurd no_way
item_some clauses levels (RemovalItem n ∷ items) f es e = let no_way : ⊥ = cc in absurd no_way
item_some clauses levels (GoalItem t h ∷ items) f es e = goal_some levels (outcome_of clauses t f.next) h (with_items items f) es e

pub stack_some : (clauses : List Clause) (levels : List Level) (es : List Entry) → may_prune levels (gate_on clauses levels es) ≡ true
    → LeavesSome (or_none (taken_alone clauses es))
stack_some clauses levels [] e = let no_way : ⊥ = cc in absurd no_way
stack_some clauses levels (PlainEntry f ∷ es) e = item_some clauses levels (without_marks f.items) f es e
stack_some clauses levels (EndEntry b ∷ es) e = let no_way : ⊥ = cc in absurd no_way
stack_some clauses levels (CatchEntry c r f ∷ es) e = let no_way : ⊥ = cc in absurd no_way
stack_some clauses levels (FindallEntry results l f ∷ es) e = let no_way : ⊥ = cc in absurd no_way

pub prune_moves : (G : Place → Option Handed) (t : TreeState) (s : Spot) (w : ℕ) (d : (a : Place) → G a ≢ None) → IsGoing G t
    → IsThere G t s → (g : Option Gate) → may_prune (levels_of s) g ≡ true → (es : List Entry) → LeavesSome es
    → Moves (moved_at G (place_of_spot s) (given_back Over w)) t (gate_pruned s g es t) s
prune_moves G t s w d g th q p [] l = absurd l
prune_moves G t s w d g th (Some (CutGate n)) p (e ∷ es) l = record { gone = _; moved = cut_moved G t s (given_back Over w) d g th n e es }
prune_moves G t s w d g th (Some (BallGate n)) p (e ∷ es) l = record
    { gone = _; moved = fall_moved G t s (given_back Over w) d g th e es t.world }
prune_moves G t s w d g th (Some WorldGate) p (e ∷ es) l = let no_way : ⊥ = cc in absurd no_way
prune_moves G t s w d g th (Some FrozenGate) p (e ∷ es) l = let no_way : ⊥ = cc in absurd no_way
prune_moves G t s w d g th None p (e ∷ es) l = let no_way : ⊥ = cc in absurd no_way

-- a ball leaves something
abbrev IsWhole : Taken → Type 0
IsWhole (Raises es) = LeavesSome es
IsWhole (Continues es) = Unit {0}
IsWhole Answered = Unit {0}
IsWhole (Halts k) = Unit {0}
IsWhole QueryEnds = Unit {0}

reply_whole : (r : Reply) (f : Continuation ℕ) (es : List Entry) → IsWhole (reply_taken r f es)
reply_whole (Solutions ss) f es = tt
reply_whole (Ball b) f es = low_some (length es) (unwound b (first_mark f.items) es) (ball_scope_low b (first_mark f.items) es)
reply_whole (HaltNumber k) f es = tt

goal_whole : (clauses : List Clause) (o : Outcome) (f : Continuation ℕ) (es : List Entry) (w : World)
    → IsWhole (goal_at_front clauses o f es w).1
goal_whole clauses (AskWorld goal) f es w = reply_whole (world_step clauses goal f.next w).1 f es
goal_whole clauses (Replies r) f es w = reply_whole r f es
goal_whole clauses (Controls form) f es w = tt

removal_whole : (db : Option Database) (f : Continuation ℕ) (w : World) → IsWhole (removal_at_front db f w).1
removal_whole None f w = tt
removal_whole (Some db) f w = tt

item_whole : (clauses : List Clause) (items : List (Item ℕ)) (f : Continuation ℕ) (es : List Entry) (w : World)
    → IsWhole (item_at_front clauses items f es w).1
item_whole clauses [] f es w = tt
item_whole clauses (CatchMark h ∷ items) f es w = tt
item_whole clauses (CollectMark t h ∷ items) f es w = tt
item_whole clauses (RemovalItem n ∷ items) f es w = removal_whole (without_clause n w.database) (with_items items f) w
item_whole clauses (GoalItem t h ∷ items) f es w = goal_whole clauses (outcome_of clauses t f.next) (with_items items f) es w

pub front_whole : (clauses : List Clause) (es : List Entry) (w : World) → IsWhole (taken_at_front clauses es w).1
front_whole clauses [] w = tt
front_whole clauses (PlainEntry f ∷ es) w = item_whole clauses (without_marks f.items) f es w
front_whole clauses (EndEntry b ∷ es) w = tt
front_whole clauses (CatchEntry c r f ∷ es) w = tt
front_whole clauses (FindallEntry results l f ∷ es) w = tt

pub answer_moves : (G : Place → Option Handed) (t : TreeState) (s : Spot) (w : ℕ) (d : (a : Place) → G a ≢ None) → IsGoing G t
    → IsThere G t s → (v : World) (r : Taken) → IsWhole r → (front_taken s r (record t { world = v })).halted ≡ None
    → Moves (moved_at G (place_of_spot s) (given_back Over w)) t (front_taken s r (record t { world = v })) s
answer_moves G t s w d g th v (Continues es) h n = record { gone = []; moved = left_moved G t s (given_back Over w) d g th es v }
answer_moves G t s w d g th v Answered h n = record { gone = []; moved = closed_moved G t s (given_back Over w) d g th _ v }
answer_moves G t s w d g th v (Raises []) h n = absurd h
answer_moves G t s w d g th v (Raises (e ∷ es)) h n = record { gone = _; moved = fall_moved G t s (given_back Over w) d g th e es v }
answer_moves G t s w d g th v (Halts k) h n = let no_way : ⊥ = cc in absurd no_way
answer_moves G t s w d g th v QueryEnds h n = record { gone = []; moved = opens_moved G t s (given_back Over w) d g th t.queries v }

pub nodes_move : (G : Place → Option Handed) (t : TreeState) (s : Spot) (w k : ℕ) (sizes : List ℕ) (d : (a : Place) → G a ≢ None)
    → IsGoing G t → IsThere G t s → (o : Option (List Entry)) → (nat_le 1 k && run_fits (length (levels_of s)) sizes o) ≡ true
    → Moves (moved_at G (place_of_spot s) (given_back Over w)) t (run_placed s k sizes o t) s
nodes_move G t s w k sizes d g th None h = let no_way : ⊥ = clash (and-right (nat_le 1 k) false h) in absurd no_way
  where
    clash : false ≡ true → ⊥
    clash z = cc
nodes_move G t s w k (size ∷ sizes) d g th (Some es) h = record
    { gone = []; moved = placed_moved G t s (given_back Over w) d g th k size sizes es }
nodes_move G t s w k [] d g th (Some []) h = let no_way : ⊥ = clash (and-right (nat_le 1 k) false h) in absurd no_way
  where
    clash : false ≡ true → ⊥
    clash z = cc
nodes_move G t s w k [] d g th (Some (e ∷ [])) h = let no_way : ⊥ = clash (and-right (nat_le 1 k) false h) in absurd no_way
  where
    clash : false ≡ true → ⊥
    clash z = cc
nodes_move G t s w k [] d g th (Some (e ∷ x ∷ es)) h = let no_way : ⊥ = clash
    (sym (two_not_one e x es) ∙ and-right (nat_le 1 k) _ h) in absurd no_way
  where
    clash : false ≡ true → ⊥
    clash z = cc

-- handing out
ready_never : (h : Hold) → is_ready h ≡ true → handed h ≡ Never
ready_never Ready e = refl
ready_never (TakenBy w) e = let no_way : ⊥ = cc in absurd no_way
ready_never (Waiting g) e = let no_way : ⊥ = cc in absurd no_way
ready_never Dormant e = let no_way : ⊥ = cc in absurd no_way

pub waiting_away : (s : Spot) (h : Hold) → may_resume s h ≡ true → handed h ≡ Away
waiting_away s (Waiting g) e = refl
waiting_away s Ready e = let no_way : ⊥ = cc in absurd no_way
waiting_away s (TakenBy w) e = let no_way : ⊥ = cc in absurd no_way
waiting_away s Dormant e = let no_way : ⊥ = cc in absurd no_way

pub spot_is : (a : Place) (s : Spot) → is_spot_at a (Some s) ≡ true → a ≡ place_of_spot s
spot_is a s h = same_place-is a (place_of_spot s) h

pub holding : (G : Place → Option Handed) (t : TreeState) (a : Place) (tr : Handed → Option Handed) (hold : Hold) (s : Spot)
    → IsPreserved G t
    → t.halted ≡ None → IsSoundTree t → a ≡ place_of_spot s → IsIn t.root s → tr (handed s.hold) ≡ Some (handed hold)
    → IsPreserved (moved_at G a tr) (with_status s (Pending hold s.entry) t)
holding G t a tr hold s k z st e i q =
    let g = k.going z in
    let th = there G t s g st i in
    subst (λ p. IsPreserved (moved_at G p tr) (with_status s (Pending hold s.entry) t)) (sym e) (record {
      defined = all_defined G (place_of_spot s) tr (handed hold) k.defined
          (here G (place_of_spot s) tr (handed s.hold) (handed hold) th.mine q);
      going = λ y. hold_going G t s tr hold k.defined g th q;
    })

pub claim_preserved : (G : Place → Option Handed) (t : TreeState) (w : ℕ) (a : Place) → IsPreserved G t → t.halted ≡ None → IsSoundTree t
    → (o : Option Spot) → claimable t ≡ o → is_spot_at a o ≡ true
    → IsPreserved (moved_at G a (claimed w)) (where_some o t (λ s. with_status s (Pending (TakenBy w) s.entry) t))
claim_preserved G t w a k z st None e h = let no_way : ⊥ = cc in absurd no_way
claim_preserved G t w a k z st (Some s) e h =
    let f = found (IsIn t.root) (λ r. is_ready r.hold) (pending_spots t) s (all_in t.root)
    (if_room-some t (find (λ r. is_ready r.hold) (pending_spots t)) s e) in
    holding G t a (claimed w) (TakenBy w) s k z st (spot_is a s h) f.holds (ap (claimed w) (ready_never s.hold f.passes))
