-- A prune, a cut or a ball: the list runs as before.
use Rattle.std.proofs.Common.{◌≡◌, true, false, [], ◌∷◌, ◌++◌, Option, Some, None, refl, sym, subst}
use Rattle.run_model.specs.Machine.Entries.{Entry, PlainEntry, CatchEntry, FindallEntry, EndEntry}
use Rattle.tree_model.specs.Nodes.{Pending}
use Rattle.tree_model.specs.Levels.{Spot, levels_of}
use Rattle.tree_model.specs.Floors.{floor_of, with_heights}
use Rattle.tree_model.specs.Gates.{gate_on}
use Rattle.tree_model.specs.PrivateRuns.{taken_alone}
use Rattle.tree_model.specs.Events.{Prune, Claim, Nodes, Empty, Collected, Lost, Suspend, Resume, Answer, Stop}
use Rattle.tree_model.specs.TreeStates.{TreeState}
use Rattle.tree_model.specs.Legality.{may_prune, taken_at, gate_of, at_spot}
use Rattle.tree_model.specs.Effects.{or_none, gate_pruned, spot_stack, where_some, after_event}
use Rattle.tree_model.specs.PendingLists.{way_of, pending_list}
use Rattle.tree_model.specs.Ways.{IsOnWay}
use Rattle.tree_model.specs.SoundTrees.{IsSoundTree}
use Rattle.tree_model.specs.CaughtTrees.{EntryCaught, IsCaught, IsCaughtTree}
use Rattle.interleaving.specs.Sound.{IsSound}
use Rattle.interleaving.specs.HistoryInvariants.{ListFollows, IsPrune, EventFollows}
use Rattle.interleaving.proofs.OpenSpotLemmas.{IsOpenSpot, taken_at_open}
use Rattle.interleaving.proofs.PlacedEntryLemmas.{at_spot as known_at}
use Rattle.interleaving.proofs.GoingLemmas.{going, legal_parts}
use Rattle.interleaving.proofs.ClockLemmas.{none_left}
use Rattle.interleaving.proofs.ListScopeLemmas.{dormant_on}
use Rattle.interleaving.proofs.ListsSoundLemmas.{lists_are_sound}
use Rattle.interleaving.proofs.CaughtContextLemmas.{caught_down}
use Rattle.interleaving.proofs.PrunedBallLemmas.{PruneMoves, falls_so}
use Rattle.interleaving.proofs.CutHeightLemmas.{cut_moves}
use Rattle.interleaving.proofs.PruneCasesLemmas.{plain_moves}
use Rattle.au_term.proofs.LogicLemmas.{false_true}

-- at any alternative that is out
module _ (t : TreeState) (i : IsSoundTree t) (k : IsCaughtTree t) (running : t.halted ≡ None) (s : Spot) (o : IsOpenSpot t.root s) where
  abbrev Pruned : Entry → Type 0
  Pruned e = may_prune (levels_of s) (gate_on t.job.clauses (levels_of s) (with_heights (levels_of s) e ∷ floor_of (levels_of s))) ≡ true
      → IsSound (pending_list (gate_pruned s
      (gate_on t.job.clauses (levels_of s) (with_heights (levels_of s) e ∷ floor_of (levels_of s)))
      (or_none (taken_alone t.job.clauses (with_heights (levels_of s) e ∷ floor_of (levels_of s)))) t).root)
      → PruneMoves t (gate_pruned s (gate_on t.job.clauses (levels_of s) (with_heights (levels_of s) e ∷ floor_of (levels_of s)))
      (or_none (taken_alone t.job.clauses (with_heights (levels_of s) e ∷ floor_of (levels_of s)))) t)

  pub entry_moves : (e : Entry) → s.entry ≡ e → IsOnWay (way_of (levels_of s)) e → EntryCaught (dormant_on (levels_of s)) e → Pruned e
  entry_moves (EndEntry b) e h m l = false_true l
  entry_moves (CatchEntry c r f) e h m l = false_true l
  entry_moves (FindallEntry results list f) e h m l = false_true l
  entry_moves (PlainEntry f) e h m l = plain_moves t i k running s o f e (λ x. IsSound (pending_list x.root) → PruneMoves t x)
      (falls_so t i k running s o f e)
      (λ n reach below items part all g gn gx clear es takes. cut_moves t i k running s o f e n reach below items part all g gn gx clear
      es takes) h m l

pub prune_follows : EventFollows IsPrune
unfolding after_event gate_of
prune_follows t (Prune w a) ok i q j r l = go (taken_at w a t) refl (legal_parts t (Prune w a) l).1
    (going t (legal_parts t (Prune w a) l).0).halted j (lists_are_sound (after_event t (Prune w a)) j r)
  where
    go : (x : Option Spot) → taken_at w a t ≡ x → at_spot x (λ s. may_prune (levels_of s) (gate_of t s)) ≡ true → t.halted ≡ None
        → IsSoundTree (record (where_some x t (λ s. gate_pruned s (gate_of t s) (or_none (taken_alone t.job.clauses (spot_stack s))) t))
        { history = t.history ++ Prune w a ∷ [] })
        → IsSound (pending_list (where_some x t
        (λ s. gate_pruned s (gate_of t s) (or_none (taken_alone t.job.clauses (spot_stack s))) t)).root)
        → ListFollows t (record (where_some x t (λ s. gate_pruned s (gate_of t s) (or_none (taken_alone t.job.clauses (spot_stack s))) t))
        { history = t.history ++ Prune w a ∷ [] })
    go None e x running j y = false_true x
    go (Some s) e x running j y =
        let at = known_at w a t s i e in
        let o = taken_at_open w a t s e in
        let caught = subst (λ z. IsCaught (λ n. false) false false z) (sym o.inside) q.caught in
        let p = entry_moves t i q running s o s.entry refl at.placed.entry.0 (caught_down (levels_of s) (Pending s.hold s.entry) caught)
        x y in
        record {
          world = p.world;
          queries = p.queries;
          halted = p.halted;
          follows = p.follows;
          pending = λ z l n.
              p.going (none_left _ j n);
        }
prune_follows t (Claim w a) ok i q j r l = absurd ok
prune_follows t (Nodes w a n sizes) ok i q j r l = absurd ok
prune_follows t (Empty w a n) ok i q j r l = absurd ok
prune_follows t (Collected w a n) ok i q j r l = absurd ok
prune_follows t (Lost w a) ok i q j r l = absurd ok
prune_follows t (Suspend w a frozen) ok i q j r l = absurd ok
prune_follows t (Resume w a) ok i q j r l = absurd ok
prune_follows t (Answer w a frozen) ok i q j r l = absurd ok
prune_follows t (Stop w) ok i q j r l = absurd ok
