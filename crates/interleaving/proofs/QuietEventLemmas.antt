-- Events that leave the list as it is.
use Rattle.std.proofs.Common.{◌≡◌, ℕ, Bool, true, false, [], ◌∷◌, ◌++◌, Option, Some, None, refl, sym, ap, ◌∙◌}
use Rattle.tree_model.specs.Nodes.{Gate, Hold, TakenBy, Pending}
use Rattle.tree_model.specs.Levels.{plug, Place, Spot, levels_of}
use Rattle.tree_model.specs.Events.{Event, Claim, Lost, Suspend, Resume, Stop}
use Rattle.tree_model.specs.TreeStates.{TreeState, leftmost}
use Rattle.tree_model.specs.Legality.{claimable, resumable, taken_at, gate_of}
use Rattle.tree_model.specs.Effects.{with_status, gate_or_frozen, where_some, after_allowed, after_event}
use Rattle.tree_model.specs.PendingLists.{pending_list}
use Rattle.tree_model.specs.SoundTrees.{IsOpen, profile, IsSoundTree}
use Rattle.interleaving.specs.Follows.{Follows}
use Rattle.interleaving.specs.HistoryInvariants.{ListFollows}
use Rattle.interleaving.proofs.StepsTakenLemmas.{hold_list}
use Rattle.interleaving.proofs.OpenSpotLemmas.{IsOpenSpot, claimable_open, resumable_open, taken_at_open}
use Rattle.interleaving.proofs.LeadLemmas.{follows_same}
use Rattle.interleaving.proofs.ClockLemmas.{leftmost_known}
use Rattle.interleaving.proofs.EndLemmas.{has_end, end_pending, first_end}

-- a list in which the end of a query is still to come
pub list_follows : (t new : TreeState) → IsSoundTree new → new.world ≡ t.world → new.queries ≡ t.queries → new.halted ≡ t.halted
    → Follows t.job.clauses (pending_list t.root) (pending_list new.root)
    → ((s : Spot) → leftmost t ≡ Some s → has_end (pending_list new.root) ≡ true) → ListFollows t new
list_follows t new i w q h f e = record { world = w; queries = q; halted = h; follows = f; pending = λ s l n. end_pending new i (e s l) n }

pub list_stays : (t new : TreeState) → IsSoundTree t → IsSoundTree new → new.world ≡ t.world → new.queries ≡ t.queries → new.halted
    ≡ t.halted → pending_list t.root ≡ pending_list new.root → ListFollows t new
list_stays t new i j w q h e = list_follows t new j w q h (follows_same t.job.clauses (pending_list t.root) (pending_list new.root) e)
    (λ s l. ap has_end (sym e) ∙ first_end t s i (leftmost_known t i s l))

-- the tree whose spot is held by another
hold_root : (t : TreeState) (s : Spot) (k : Hold) → IsOpenSpot t.root s → profile (Pending k s.entry) ≡ IsOpen → pending_list t.root
    ≡ pending_list (plug (levels_of s) (Pending k s.entry))
hold_root t s k o p = ap pending_list (sym o.inside) ∙ hold_list (levels_of s) s.hold k s.entry o.opened p

module _ (t : TreeState) (i : IsSoundTree t) where
  -- the new tree is apart from its history
  abbrev noted : TreeState → Event → TreeState
  noted x e = record x { history = t.history ++ e ∷ [] }

  holds : (e : Event) (o : Option Spot) (k : Spot → Hold) → ((s : Spot) → o ≡ Some s → IsOpenSpot t.root s)
      → ((s : Spot) → profile (Pending (k s) s.entry) ≡ IsOpen)
      → IsSoundTree (noted (where_some o t (λ s. with_status s (Pending (k s) s.entry) t)) e)
      → ListFollows t (noted (where_some o t (λ s. with_status s (Pending (k s) s.entry) t)) e)
  holds e None k f p j = list_stays t (noted t e) i j refl refl refl refl
  holds e (Some s) k f p j = list_stays t (noted (with_status s (Pending (k s) s.entry) t) e) i j refl refl refl
      (hold_root t s (k s) (f s refl) (p s))

  pub claim_follows : (w : ℕ) (a : Place) → IsSoundTree (after_event t (Claim w a)) → ListFollows t (after_event t (Claim w a))
  unfolding after_event
  claim_follows w a j = holds (Claim w a) (claimable t) (λ s. TakenBy w) (λ s e. claimable_open t s e) (λ s. refl) j

  pub resume_follows : (w : ℕ) (a : Place) → IsSoundTree (after_event t (Resume w a)) → ListFollows t (after_event t (Resume w a))
  unfolding after_event
  resume_follows w a j = holds (Resume w a) (resumable t) (λ s. TakenBy w) (λ s e. resumable_open t s e) (λ s. refl) j

  pub suspend_follows : (w : ℕ) (a : Place) (frozen : Bool) → IsSoundTree (after_event t (Suspend w a frozen))
      → ListFollows t (after_event t (Suspend w a frozen))
  unfolding after_event
  suspend_follows w a frozen j = holds (Suspend w a frozen) (taken_at w a t) (λ s. gate_or_frozen frozen (gate_of t s))
      (λ s e. taken_at_open w a t s e) (λ s. waits frozen (gate_of t s) s) j
    where
      waits : (b : Bool) (g : Option Gate) (s : Spot) → profile (Pending (gate_or_frozen b g) s.entry) ≡ IsOpen
      waits true g s = refl
      waits false (Some g) s = refl
      waits false None s = refl

  pub lost_follows : (w : ℕ) (a : Place) → IsSoundTree (after_event t (Lost w a)) → ListFollows t (after_event t (Lost w a))
  unfolding after_event
  lost_follows w a j = list_stays t (noted (after_allowed t (Lost w a)) (Lost w a)) i j refl refl refl refl

  pub stop_follows : (w : ℕ) → IsSoundTree (after_event t (Stop w)) → ListFollows t (after_event t (Stop w))
  unfolding after_event
  stop_follows w j = list_stays t (noted (after_allowed t (Stop w)) (Stop w)) i j refl refl refl refl
