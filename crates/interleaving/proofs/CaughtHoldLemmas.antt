-- What takes another's place in a tree and keeps what list names need.
use Rattle.std.proofs.Common.{◌≡◌, ℕ, Bool, true, false, [], ◌∷◌, ◌++◌, Option, Some, None, refl, sym, ◌∙◌, subst}
use Rattle.run_model.specs.Machine.Entries.{Entry}
use Rattle.tree_model.specs.Nodes.{Gate, Hold, Ready, TakenBy, Waiting, Dormant, Alternatives, alternative, Pending}
use Rattle.tree_model.specs.Levels.{Place, Spot, levels_of}
use Rattle.tree_model.specs.Events.{Event, Claim, Lost, Suspend, Resume, Stop}
use Rattle.tree_model.specs.TreeStates.{TreeState}
use Rattle.tree_model.specs.Legality.{claimable, resumable, taken_at, gate_of}
use Rattle.tree_model.specs.Effects.{with_status, gate_or_frozen, where_some, after_event}
use Rattle.tree_model.specs.SoundTrees.{IsOpen, profile}
use Rattle.tree_model.specs.CaughtTrees.{catch_right, IsCaught, IsLastQuery, IsUnspent, IsCaughtTree}
use Rattle.interleaving.proofs.CaughtContextLemmas.{caught_plug, Rests, rests_plug, unspent_nodes}
use Rattle.interleaving.proofs.OpenSpotLemmas.{IsOpenSpot, claimable_open, resumable_open, taken_at_open}

-- an entry held by another
pub open_right : (h : Hold) (e : Entry) → profile (Pending h e) ≡ IsOpen → (spent : ℕ) (others : Alternatives)
    → catch_right (alternative spent (Pending h e) others) ≡ false
open_right Ready e o spent others = refl
open_right (TakenBy w) e o spent others = refl
open_right (Waiting g) e o spent others = refl
open_right Dormant e o spent others = let no_way : ⊥ = cc in absurd no_way

module _ (t : TreeState) (q : IsCaughtTree t) where
  abbrev noted : TreeState → Event → TreeState
  noted x e = record x { history = t.history ++ e ∷ [] }

  hold_caught : (e : Event) (o : Option Spot) (k : Spot → Hold) → ((s : Spot) → o ≡ Some s → IsOpenSpot t.root s)
      → ((s : Spot) → profile (Pending (k s) s.entry) ≡ IsOpen)
      → IsCaughtTree (noted (where_some o t (λ s. with_status s (Pending (k s) s.entry) t)) e)
  hold_caught e None k f p = record { caught = q.caught; last = q.last; unspent = q.unspent }
  hold_caught e (Some s) k f p =
      let o = f s refl in
      let old = Pending s.hold s.entry in
      let new = Pending (k s) s.entry in
      let rests : Rests old new = record { no_query = λ c. c; no_node = λ c. c; closed = λ c. c; last = λ c. c } in
      record {
        caught = caught_plug (levels_of s) old new
            (λ spent others. open_right s.hold s.entry o.opened spent others ∙ sym (open_right (k s) s.entry (p s) spent others))
            (λ c. c) (subst (λ root. IsCaught (λ m. false) false false root) (sym o.inside) q.caught);
        last = (rests_plug (levels_of s) old new rests).last (subst IsLastQuery (sym o.inside) q.last);
        unspent = λ h. unspent_nodes (levels_of s) old new (λ sp c. c) (subst (IsUnspent 0) (sym o.inside) (q.unspent h));
      }

  pub claim_caught : (w : ℕ) (a : Place) → IsCaughtTree (after_event t (Claim w a))
  unfolding after_event
  claim_caught w a = hold_caught (Claim w a) (claimable t) (λ s. TakenBy w) (λ s e. claimable_open t s e) (λ s. refl)

  pub resume_caught : (w : ℕ) (a : Place) → IsCaughtTree (after_event t (Resume w a))
  unfolding after_event
  resume_caught w a = hold_caught (Resume w a) (resumable t) (λ s. TakenBy w) (λ s e. resumable_open t s e) (λ s. refl)

  pub suspend_caught : (w : ℕ) (a : Place) (frozen : Bool) → IsCaughtTree (after_event t (Suspend w a frozen))
  unfolding after_event
  suspend_caught w a frozen = hold_caught (Suspend w a frozen) (taken_at w a t) (λ s. gate_or_frozen frozen (gate_of t s))
      (λ s e. taken_at_open w a t s e) (λ s. waits frozen (gate_of t s) s)
    where
      waits : (b : Bool) (g : Option Gate) (s : Spot) → profile (Pending (gate_or_frozen b g) s.entry) ≡ IsOpen
      waits true g s = refl
      waits false (Some g) s = refl
      waits false None s = refl

  pub lost_caught : (w : ℕ) (a : Place) → IsCaughtTree (after_event t (Lost w a))
  unfolding after_event
  lost_caught w a = record { caught = q.caught; last = q.last; unspent = q.unspent }

  pub stop_caught : (w : ℕ) → IsCaughtTree (after_event t (Stop w))
  unfolding after_event
  stop_caught w = record { caught = q.caught; last = q.last; unspent = q.unspent }
