-- A prune, an answer, and a run that closes keep the marks, records and queries of a tree.
use Rattle.std.proofs.Common.{◌≡◌, inl, inr, ℕ, true, false, [], ◌∷◌, ◌++◌, Option, Some, None, refl, sym, ◌∙◌, subst}
use Rattle.tree_model.specs.Credits.{Credit, credit_of}
use Rattle.tree_model.specs.Nodes.{Pending}
use Rattle.tree_model.specs.Levels.{plug, Spot, levels_of}
use Rattle.tree_model.specs.PrivateRuns.{taken_alone}
use Rattle.tree_model.specs.FrontGates.{taken_at_front}
use Rattle.tree_model.specs.TreeStates.{TreeState}
use Rattle.tree_model.specs.Legality.{may_prune}
use Rattle.tree_model.specs.Effects.{closed_with, or_none, gate_pruned, world_moved}
use Rattle.tree_model.specs.CaughtTrees.{IsCaught, IsLastQuery, IsUnspent, IsCaughtTree}
use Rattle.interleaving.proofs.PlacedEntryLemmas.{IsAt}
use Rattle.interleaving.proofs.CaughtContextLemmas.{IsCaughtRoot}
use Rattle.interleaving.proofs.CaughtClosingLemmas.{RecordsUnder}
use Rattle.interleaving.proofs.GoingLemmas.{going, legal_parts}
use Rattle.interleaving.proofs.OpenSpotLemmas.{IsOpenSpot, taken_at_open}
use Rattle.interleaving.proofs.PlacedEntryLemmas.{at_spot as known_at}
use Rattle.interleaving.proofs.SpotsApartLemmas.{taken_first}
use Rattle.interleaving.proofs.ClockLemmas.{leftmost_known}
use Rattle.interleaving.proofs.CaughtHoldLemmas.{open_right}
use Rattle.interleaving.proofs.CollectedRunLemmas.{result_under}
use Rattle.interleaving.proofs.CaughtContextLemmas.{caught_down}
use Rattle.interleaving.proofs.CaughtPruneLemmas.{closed_preserved, stack_pruned}
use Rattle.tree_model.specs.Events.{Event, Empty, Collected, Prune, Answer}
use Rattle.tree_model.specs.Levels.{Place}
use Rattle.tree_model.specs.TreeStates.{leftmost}
use Rattle.tree_model.specs.Legality.{is_world_gate, is_spot_at, taken_at, gate_of, at_spot, is_legal, run_of, run_is_empty}
use Rattle.tree_model.specs.Legality.{run_gives_result}
use Rattle.tree_model.specs.Effects.{spot_stack, where_some, after_event, results_of}
use Rattle.tree_model.specs.SoundTrees.{IsSoundTree}
use Rattle.std.specs.Prelude.{◌&&◌}
use Rattle.interleaving.proofs.CaughtFrontLemmas.{stack_preserved}
use Rattle.au_term.proofs.LogicLemmas.{and-right, false_true}

-- the events
pub root_at : (t : TreeState) (s : Spot) → IsCaughtTree t → t.halted ≡ None → IsOpenSpot t.root s
    → IsCaughtRoot (plug (levels_of s) (Pending s.hold s.entry))
root_at t s q running o = subst IsCaughtRoot (sym o.inside) (record { caught = q.caught; last = q.last; unspent = q.unspent running })

pub same_caught : (t new : TreeState) → new.root ≡ t.root → new.halted ≡ t.halted → IsCaughtTree t → IsCaughtTree new
same_caught t new r k q = record {
  caught = subst (λ x. IsCaught (λ m. false) false false x) (sym r) q.caught;
  last = subst IsLastQuery (sym r) q.last;
  unspent =
      λ z. subst (IsUnspent 0) (sym r) (q.unspent (sym k ∙ z));
}

module _ (t : TreeState) (i : IsSoundTree t) (q : IsCaughtTree t) where
  pub prune_caught : (w : ℕ) (a : Place) → is_legal t (Prune w a) ≡ true → IsCaughtTree (after_event t (Prune w a))
  unfolding after_event gate_of
  prune_caught w a l = go (taken_at w a t) refl (legal_parts t (Prune w a) l).1 (going t (legal_parts t (Prune w a) l).0).halted
    where
      go : (o : Option Spot) → taken_at w a t ≡ o → at_spot o (λ s. may_prune (levels_of s) (gate_of t s)) ≡ true → t.halted ≡ None
          → IsCaughtTree (record (where_some o t
          (λ s. gate_pruned s (gate_of t s) (or_none (taken_alone t.job.clauses (spot_stack s))) t))
          { history = t.history ++ Prune w a ∷ [] })
      go None e x running = false_true x
      go (Some s) e x running =
          let at = known_at w a t s i e in
          let o = taken_at_open w a t s e in
          let root = root_at t s q running o in
          same_caught (gate_pruned s (gate_of t s) (or_none (taken_alone t.job.clauses (spot_stack s))) t) _ refl refl
          (stack_pruned t s at (Pending s.hold s.entry) (λ sp others. open_right s.hold s.entry o.opened sp others) refl root
          t.job.clauses s.entry q at.placed.entry.0 (caught_down (levels_of s) (Pending s.hold s.entry) root.caught) x)

  pub answer_caught : (w : ℕ) (a : Place) → is_legal t (Answer w a false) ≡ true → IsCaughtTree (after_event t (Answer w a false))
  unfolding after_event
  answer_caught w a l = go (taken_at w a t) refl (legal_parts t (Answer w a false) l).1
      (going t (legal_parts t (Answer w a false) l).0).halted
    where
      go : (o : Option Spot) → taken_at w a t ≡ o → at_spot o (λ s. is_world_gate (gate_of t s) && is_spot_at a (leftmost t)) ≡ true
          → t.halted ≡ None → IsCaughtTree
          (record (where_some o t (λ s. world_moved s (taken_at_front t.job.clauses (spot_stack s) t.world) t))
          { history = t.history ++ Answer w a false ∷ [] })
      go None e x running = false_true x
      go (Some s) e x running =
          let at = known_at w a t s i e in
          let o = taken_at_open w a t s e in
          let root = root_at t s q running o in
          let known = leftmost_known t i s (taken_first t w a s i e (and-right (is_world_gate (gate_of t s)) _ x)) in
          same_caught (world_moved s (taken_at_front t.job.clauses (spot_stack s) t.world) t) _ refl refl
          (stack_preserved s o.opened known.clear root t
          (λ v. record {
            sound = record { distinct = i.distinct; fresh = i.fresh; sound = i.sound };
            opened = at.opened;
            placed =
                at.placed;
            free = at.free;
          }) t.job.clauses s.entry t.world refl at.placed.entry.0
          (caught_down (levels_of s) (Pending s.hold s.entry) root.caught))

  closing_caught : (e : Event) (s : Spot) (c : Credit) → IsAt t s → IsOpenSpot t.root s → t.halted ≡ None → RecordsUnder (levels_of s) c
      → IsCaughtTree (record (closed_with s c t) { history = t.history ++ e ∷ [] })
  closing_caught e s c at o running r = same_caught (closed_with s c t) _ refl refl
      (closed_preserved t s at (Pending s.hold s.entry) (λ sp others. open_right s.hold s.entry o.opened sp others) refl
      (root_at t s q running o) c r)

  pub empty_caught : (w : ℕ) (a : Place) (n : ℕ) → is_legal t (Empty w a n) ≡ true → IsCaughtTree (after_event t (Empty w a n))
  unfolding after_event
  empty_caught w a n l = go (taken_at w a t) refl (legal_parts t (Empty w a n) l).1 (going t (legal_parts t (Empty w a n) l).0).halted
    where
      go : (o : Option Spot) → taken_at w a t ≡ o → at_spot o (λ s. run_is_empty (run_of t s n)) ≡ true → t.halted ≡ None
          → IsCaughtTree (record (where_some o t (λ s. closed_with s (credit_of n) t)) { history = t.history ++ Empty w a n ∷ [] })
      go None e x running = false_true x
      go (Some s) e x running = closing_caught (Empty w a n) s (credit_of n) (known_at w a t s i e) (taken_at_open w a t s e) running
          (inl refl)

  pub collected_caught : (w : ℕ) (a : Place) (n : ℕ) → is_legal t (Collected w a n) ≡ true → IsCaughtTree (after_event t (Collected w a n))
  unfolding after_event
  collected_caught w a n l = go (taken_at w a t) refl (legal_parts t (Collected w a n) l).1
      (going t (legal_parts t (Collected w a n) l).0).halted
    where
      go : (o : Option Spot) → taken_at w a t ≡ o → at_spot o (λ s. run_gives_result (run_of t s n)) ≡ true → t.halted ≡ None
          → IsCaughtTree (record (where_some o t
          (λ s. closed_with s (record { inferences = n; answers = 0; records = results_of (run_of t s n) }) t))
          { history = t.history ++ Collected w a n ∷ [] })
      go None e x running = false_true x
      go (Some s) e x running = closing_caught (Collected w a n) s _ (known_at w a t s i e) (taken_at_open w a t s e) running
          (inr (result_under t s n i (taken_at_open w a t s e) x))
