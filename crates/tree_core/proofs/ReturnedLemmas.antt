-- What workers give back to a job's tree.
use Rattle.std.proofs.Common.{◌≡◌, ℕ, ◌+◌, ◌≤◌, ◌<◌, Bool, true, false, Option, Some, None, inl, inr, refl, sym, ap, ◌∙◌}
use Rattle.std.specs.Prelude.{is_some, IsSome}
use Rattle.std.specs.List.{list_any}
use Rattle.run_model.specs.Programs.Jobs.{Job}
use Rattle.tree_model.specs.Events.{Suspend, Lost}
use Rattle.tree_model.specs.Legality.{is_task, taken_at, at_spot, gate_of, is_frozen, is_allowed, is_legal}
use Rattle.tree_model.specs.Levels.{Place, Spot}
use Rattle.tree_model.specs.Nodes.{Gate, CutGate, BallGate, WorldGate, FrozenGate}
use Rattle.tree_model.specs.Promises.{Once}
use Rattle.tree_model.specs.TreeStates.{TreeState}
use Rattle.tree_nodes.specs.Rows.{AlternativeCell, cell_at}
use Rattle.branch_reading.specs.Readings.{reading}
use Rattle.public_tree.specs.PublicTrees.{PublicView, is_going, IsOut, is_taken_at, IsItsGate, is_frozen_gate, Suspends, GivesUp}
use Rattle.public_tree.specs.Following.{tree_of}
use Rattle.public_tree.proofs.FoundLemmas.{out_is}
use Rattle.public_tree.proofs.HandOutLemmas.{legal_while_going}
use Rattle.tree_core.specs.Histories.{while_going, history_of, IsTreeOf}
use Rattle.tree_core.proofs.MoveLemmas.{Moves, here, suspend_back, lost_back, room_to_come_back, comes_back}

-- what is out in the job's tree is out in each tree for which the public tree stands
pub out_of_each : (job : Job) (p : PublicView) (w : ℕ) (a : Place) → IsTreeOf job p → is_some (taken_at w a (tree_of job p)) ≡ true → IsOut p w a
out_of_each job p w a h out read t s =
    sym (out_is p.nodes w a read t.root s.placed) ∙ (out_is p.nodes w a (reading job) (tree_of job p).root h.follows.stands.placed ∙ out)

pub out_is_there : (job : Job) (p : PublicView) (w : ℕ) (a : Place) → IsTreeOf job p → is_some (taken_at w a (tree_of job p)) ≡ true
    → IsSome (cell_at p.nodes.rows a)
out_is_there job p w a h out = by_cell (cell_at p.nodes.rows a) (out_is p.nodes w a (reading job) (tree_of job p).root h.follows.stands.placed ∙ out)
  where
    by_cell : (o : Option (ℕ × AlternativeCell)) → is_taken_at w o ≡ true → IsSome o
    by_cell None e = absurd (cc e)
    by_cell (Some c) e = refl

-- what holds of what is out
pub at_out : (t : TreeState) (w : ℕ) (a : Place) (test : Spot → Bool) → is_some (taken_at w a t) ≡ true → ((s : Spot) → taken_at w a t ≡ Some s → test s ≡ true)
    → at_spot (taken_at w a t) test ≡ true
at_out t w a test out holds = by_spot (taken_at w a t) refl out
  where
    by_spot : (o : Option Spot) → taken_at w a t ≡ o → is_some o ≡ true → at_spot o test ≡ true
    by_spot None e f = absurd (cc f)
    by_spot (Some s) e f = holds s e

suspend_allowed : (t : TreeState) (w : ℕ) (a : Place) (g : Gate) → is_some (taken_at w a t) ≡ true → IsItsGate g w a t
    → is_allowed t (Suspend w a (is_frozen_gate g)) ≡ true
suspend_allowed t w a FrozenGate out gates = at_out t w a (is_frozen t) out gates
suspend_allowed t w a (CutGate n) out gates = at_out t w a (λ s. is_some (gate_of t s)) out (λ s e. ap is_some (gates s e))
suspend_allowed t w a (BallGate n) out gates = at_out t w a (λ s. is_some (gate_of t s)) out (λ s e. ap is_some (gates s e))
suspend_allowed t w a WorldGate out gates = at_out t w a (λ s. is_some (gate_of t s)) out (λ s e. ap is_some (gates s e))

suspend_legal : (t : TreeState) (w : ℕ) (a : Place) (g : Gate) → is_going t ≡ true → is_some (taken_at w a t) ≡ true → IsItsGate g w a t
    → is_legal t (Suspend w a (is_frozen_gate g)) ≡ true
suspend_legal t w a g going out gates = legal_while_going t (Suspend w a (is_frozen_gate g)) going (suspend_allowed t w a g out gates)

module _ (once : Once) (job : Job) (p : PublicView) (w : ℕ) (a : Place) (h : IsTreeOf job p) (going : is_going (tree_of job p) ≡ true) where
  module _ (g : Gate) (out : is_some (taken_at w a (tree_of job p)) ≡ true) (gates : IsItsGate g w a (tree_of job p)) where
    pub room_to_suspend : 0 < p.log.promised
    room_to_suspend = room_to_come_back once job p h (Suspend w a (is_frozen_gate g)) w a (suspend_back w a (is_frozen_gate g))
        (suspend_legal (tree_of job p) w a g going out gates)

    pub suspended : (new : PublicView) → Suspends p new w a g → p.log.promised ≤ new.log.promised + 1
        → Moves job new (while_going (Suspend w a (is_frozen_gate g)) (history_of job p))
    suspended new (inl k) l = comes_back once job p h (Suspend w a (is_frozen_gate g)) w a (suspend_back w a (is_frozen_gate g))
        (suspend_legal (tree_of job p) w a g going out gates) new going (k (reading job) (tree_of job p) h.follows.stands gates) l
    suspended new (inr k) l = absurd (let stuck = k.1 (reading job) (tree_of job p) h.follows.stands in let no : true ≡ false = sym going ∙ stuck in cc no)

  module _ (lost : list_any (is_task w a) (tree_of job p).lost ≡ true) where
    pub room_to_give_up : 0 < p.log.promised
    room_to_give_up = room_to_come_back once job p h (Lost w a) w a (lost_back w a) (legal_while_going (tree_of job p) (Lost w a) going lost)

    pub given_up : (new : PublicView) → GivesUp p new w a → p.log.promised ≤ new.log.promised + 1 → Moves job new (while_going (Lost w a) (history_of job p))
    given_up new (inl k) l = comes_back once job p h (Lost w a) w a (lost_back w a) (legal_while_going (tree_of job p) (Lost w a) going lost) new going
        (here job p new h (Lost w a) k) l
    given_up new (inr k) l = absurd (let stuck = k.1 (reading job) (tree_of job p) h.follows.stands in let no : true ≡ false = sym going ∙ stuck in cc no)
