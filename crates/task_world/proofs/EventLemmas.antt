-- The event by which what is out is taken at the front: when it is legal, and the world after it.
use Rattle.std.proofs.Common.{◌≡◌, ℕ, Bool, true, false, cond, List, [], ◌∷◌, Option, Some, None, refl, sym, ap, ◌∙◌}
use Rattle.std.specs.Prelude.{◌&&◌, not, is_none}
use Rattle.au_term.proofs.LogicLemmas.{and-false}
use Rattle.run_model.specs.Machine.Entries.{Entry}
use Rattle.run_model.specs.Programs.Jobs.{Query}
use Rattle.tree_model.specs.Effects.{after_event, ball_falls, front_taken, query_opens, spot_stack, where_some, world_moved}
use Rattle.tree_model.specs.FrontGates.{Taken, Continues, Answered, Raises, Halts, QueryEnds, taken_at_front}
use Rattle.tree_model.specs.Legality.{at_spot, gate_of, is_allowed, is_legal, is_spot_at, is_world_gate, taken_at}
use Rattle.tree_model.specs.Levels.{Place, Spot}
use Rattle.tree_model.specs.Nodes.{WorldGate}
use Rattle.tree_model.specs.TreeStates.{TreeState, ended, leftmost, opening_tree}
use Rattle.interleaving.proofs.UnchangedPlaceLemmas.{after-last}
use Rattle.public_tree.specs.Answering.{is_first_at}
use Rattle.public_tree.specs.PublicTrees.{is_going}
use Rattle.public_tree.specs.declared.answering.Answering.TheVariants as answering
use Rattle.tree_core.specs.Histories.{History, state_of, with_event}
use Rattle.tree_core.specs.Turns.{answering_of, where_legal}
use Rattle.run_model.specs.Goals.Worlds.{World}
use Rattle.tree_core.specs.Histories.{TreeView}
use Rattle.task_world.specs.FrontSteps.{ComesAbout, IsWorldAfter, front_event}
use Rattle.task_world.specs.declared.step.FrontStep.TheVariants.{Done}

pub and_apart : (x y z : Bool) → (x && (y && z)) ≡ ((x && y) && z)
and_apart true y z = refl
and_apart false y z = refl

module _ (h : History) (w : ℕ) (a : Place) where
  abbrev t : TreeState
  t = state_of h

  legal_is : is_legal t (front_event w a) ≡ (is_going t && is_allowed t (front_event w a))
  unfolding is_legal
  legal_is = and_apart (not t.stopped) (is_none (ended t)) (is_allowed t (front_event w a))

  still : is_legal t (front_event w a) ≡ false → where_legal (front_event w a) h ≡ h
  still n = ap (λ (b : Bool). cond b (with_event (front_event w a) h) h) n

  -- not where the tree has ended or was stopped
  pub ended_still : is_going t ≡ false → where_legal (front_event w a) h ≡ h
  ended_still n = still (legal_is ∙ ap (λ (b : Bool). b && is_allowed t (front_event w a)) n)

  pub ended_answer : is_going t ≡ false → answering.HasEnded ≡ answering_of (front_event w a) t
  ended_answer n = sym (ap (λ (b : Bool). cond b (cond (is_allowed t (front_event w a)) answering.Taken answering.NotLeftmost) answering.HasEnded) n)

  -- nor where this is not the leftmost entry
  not_allowed : is_first_at a t ≡ false → is_allowed t (front_event w a) ≡ false
  not_allowed n = by_spot (taken_at w a t)
    where
      by_spot : (o : Option Spot) → at_spot o (λ s. is_world_gate (gate_of t s) && is_spot_at a (leftmost t)) ≡ false
      by_spot None = refl
      by_spot (Some s) = ap (λ (b : Bool). is_world_gate (gate_of t s) && b) n ∙ and-false (is_world_gate (gate_of t s))

  pub later_still : is_first_at a t ≡ false → where_legal (front_event w a) h ≡ h
  later_still n = still (legal_is ∙ ap (λ (b : Bool). is_going t && b) (not_allowed n) ∙ and-false (is_going t))

  pub later_answer : is_going t ≡ true → is_first_at a t ≡ false → answering.NotLeftmost ≡ answering_of (front_event w a) t
  later_answer g n =
      sym (ap (λ (b : Bool). cond b (cond (is_allowed t (front_event w a)) answering.Taken answering.NotLeftmost) answering.HasEnded) g
      ∙ ap (λ (b : Bool). cond b answering.Taken answering.NotLeftmost) (not_allowed n))

  -- but at a gate of the world
  module _ (s : Spot) (taken : taken_at w a t ≡ Some s) (gate : gate_of t s ≡ Some WorldGate) (going : is_going t ≡ true) (first : is_first_at a t ≡ true) where
    pub allowed : is_allowed t (front_event w a) ≡ true
    allowed =
        ap (λ (o : Option Spot). at_spot o (λ r. is_world_gate (gate_of t r) && is_spot_at a (leftmost t))) taken
        ∙ ap (λ g. is_world_gate g && is_spot_at a (leftmost t)) gate ∙ first

    pub legal : is_legal t (front_event w a) ≡ true
    legal = legal_is ∙ ap (λ (b : Bool). b && is_allowed t (front_event w a)) going ∙ allowed

    falls : (x : TreeState) (es : List Entry) → (ball_falls s es x).world ≡ x.world
    falls x [] = refl
    falls x (e ∷ es) = refl

    opens : (x : TreeState) (qs : List Query) → (query_opens s qs x).world ≡ x.world
    opens x [] = refl
    opens x (q ∷ qs) = refl

    world_kept : (x : TreeState) (front : Taken) → (front_taken s front x).world ≡ x.world
    world_kept x (Continues []) = refl
    world_kept x (Continues (e ∷ es)) = refl
    world_kept x Answered = refl
    world_kept x (Raises es) = falls x es
    world_kept x (Halts k) = refl
    world_kept x QueryEnds = opens x x.queries

    after : (after_event t (front_event w a)).world ≡ (taken_at_front t.job.clauses (spot_stack s) t.world).0
    unfolding after_event
    after =
        let r = taken_at_front t.job.clauses (spot_stack s) t.world in
        ap (λ (o : Option Spot). (where_some o t (λ q. world_moved q (taken_at_front t.job.clauses (spot_stack q) t.world) t)).world) taken
        ∙ world_kept (record t { world = r.0 }) r.1

    pub is_world_after : IsWorldAfter h w a (taken_at_front t.job.clauses (spot_stack s) t.world).0
    is_world_after =
        sym after
        ∙ sym (ap (λ (x : TreeState). x.world) (after-last (opening_tree h.job h.budget h.window) h.events (front_event w a)))
        ∙ sym (ap (λ (b : Bool). (state_of (cond b (with_event (front_event w a) h) h)).world) legal)

-- where nothing happens
module _ (v : TreeView) (w : ℕ) (a : Place) where
  abbrev now : TreeState
  now = state_of v.history

  pub ended_comes : is_going now ≡ false → ComesAbout v v w a (Done answering.HasEnded)
  ended_comes n = (ended_answer v.history w a n, sym (ended_still v.history w a n))

  pub ended_world : (world : World) → world ≡ now.world → is_going now ≡ false → IsWorldAfter v.history w a world
  ended_world world same n = same ∙ sym (ap (λ (h : History). (state_of h).world) (ended_still v.history w a n))

  pub later_comes : is_going now ≡ true → is_first_at a now ≡ false → ComesAbout v v w a (Done answering.NotLeftmost)
  later_comes g n = (later_answer v.history w a g n, sym (later_still v.history w a n))

  pub later_world : (world : World) → world ≡ now.world → is_first_at a now ≡ false → IsWorldAfter v.history w a world
  later_world world same n = same ∙ sym (ap (λ (h : History). (state_of h).world) (later_still v.history w a n))
