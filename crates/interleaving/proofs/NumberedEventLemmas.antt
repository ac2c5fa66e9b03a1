-- Every event keeps the variables of each entry below its next number.
use Rattle.std.proofs.Common.{◌≡◌, ℕ, List, [], ◌∷◌, map, Option, Some, None, refl, sym, subst}
use Rattle.au_model.proofs.EachLemmas.{IfFound}
use Rattle.run_model.specs.Programs.Jobs.{Query, Job}
use Rattle.run_model.specs.Machine.Entries.{Entry}
use Rattle.run_model.specs.Laws.Numbering.{IsEntryNumbered, AreEntriesNumbered}
use Rattle.run_model.proofs.NumberingLemmas.{query-numbered}
use Rattle.tree_model.specs.Credits.{Credit, credit_of}
use Rattle.tree_model.specs.Nodes.{Gate, CutGate, BallGate, WorldGate, FrozenGate, Hold, TakenBy, Ready, Pending}
use Rattle.tree_model.specs.Nodes.{Inner}
use Rattle.tree_model.specs.Levels.{Spot, levels_of}
use Rattle.tree_model.specs.Floors.{node_of, with_nodes}
use Rattle.tree_model.specs.Gates.{ball_scope}
use Rattle.tree_model.specs.PrivateRuns.{taken_alone}
use Rattle.tree_model.specs.Pruning.{pruned}
use Rattle.tree_model.specs.FrontGates.{Taken, Continues, Answered, Raises, Halts, QueryEnds, taken_at_front}
use Rattle.tree_model.specs.Events.{Event, Claim, Nodes, Empty, Collected, Lost, Suspend, Resume, Prune, Answer, Stop}
use Rattle.tree_model.specs.TreeStates.{TreeState, opened_node, opening_root, opening_tree}
use Rattle.tree_model.specs.Legality.{claimable, resumable, taken_at, gate_of, run_of}
use Rattle.tree_model.specs.Effects.{with_status, closed_with, left_at, ball_falls, cut_at, or_none, gate_pruned, query_opens, front_taken}
use Rattle.tree_model.specs.Effects.{spot_stack, world_moved, run_placed, results_of, where_some, gate_or_frozen, after_allowed}
use Rattle.tree_model.specs.Effects.{after_event}
use Rattle.tree_model.specs.Effects.{spending}
use Rattle.tree_model.specs.Histories.{after_events, tree_after}
use Rattle.tree_model.specs.NumberedTrees.{IsNumberedStatus, IsNumberedTree}
use Rattle.interleaving.proofs.OpenSpotLemmas.{IsOpenSpot, claimable_open, resumable_open, taken_at_open}
use Rattle.interleaving.proofs.NumberedPlaceLemmas.{AreLevelsNumbered, numbered_out, numbered_in, spending_numbered, closes_numbered}
use Rattle.interleaving.proofs.NumberedPlaceLemmas.{ball_closes_numbered, pruned_numbered}
use Rattle.interleaving.proofs.NumberedRunLemmas.{IsTakenNumbered, renamed_numbered, floor_numbered, alone_numbered, private_numbered}
use Rattle.interleaving.proofs.NumberedRunLemmas.{alternatives_numbered, nodes_numbered, placed_numbered, front_numbered}

-- a query's node
opened_numbered : (n : ℕ) (q : Query) → IsNumberedStatus (Inner (opened_node n q))
opened_numbered n q = (query-numbered n q, (tt, tt))

-- a place, and the entry there
module _ (s : Spot) (v : AreLevelsNumbered (levels_of s)) where
  stack_numbered : IsEntryNumbered s.entry → AreEntriesNumbered (spot_stack s)
  stack_numbered h = (renamed_numbered _ _ s.entry h, floor_numbered (levels_of s) v)

  closed_numbered : (c : Credit) (t : TreeState) → IsNumberedTree (closed_with s c t)
  closed_numbered c t = closes_numbered t.next (levels_of s) c v

  left_numbered : (es : List Entry) (t : TreeState) → AreEntriesNumbered es → IsNumberedTree (left_at s es t)
  left_numbered [] t h = closed_numbered (credit_of 1) t
  left_numbered (e ∷ es) t h = numbered_in (spending 1 (levels_of s)) _ (spending_numbered 1 (levels_of s) v)
      (alternatives_numbered Ready (map (with_nodes (node_of (levels_of s))) (e ∷ es)) (nodes_numbered (node_of (levels_of s)) (e ∷ es) h))

  falls_numbered : (es : List Entry) (t : TreeState) → IsNumberedTree t → AreEntriesNumbered es → IsNumberedTree (ball_falls s es t)
  falls_numbered [] t r h = r
  falls_numbered (e ∷ es) t r h = ball_closes_numbered t.next (ball_scope (levels_of s) (e ∷ es)) (levels_of s) (credit_of 1)
      (with_nodes (node_of (levels_of s)) e) v (renamed_numbered _ _ e h.0)

  cut_numbered : (scope : ℕ) (es : List Entry) (t : TreeState) → IsNumberedTree t → AreEntriesNumbered es
      → IsNumberedTree (cut_at s scope es t)
  cut_numbered scope [] t r h = r
  cut_numbered scope (e ∷ es) t r h = numbered_in (pruned scope (spending 1 (levels_of s))) _
      (pruned_numbered scope (spending 1 (levels_of s)) (spending_numbered 1 (levels_of s) v)) (renamed_numbered _ _ e h.0, tt)

  gate_numbered : (g : Option Gate) (es : List Entry) (t : TreeState) → IsNumberedTree t → AreEntriesNumbered es
      → IsNumberedTree (gate_pruned s g es t)
  gate_numbered None es t r h = r
  gate_numbered (Some WorldGate) es t r h = r
  gate_numbered (Some FrozenGate) es t r h = r
  gate_numbered (Some (CutGate n)) es t r h = cut_numbered n es t r h
  gate_numbered (Some (BallGate n)) es t r h = falls_numbered es t r h

  opens_numbered : (qs : List Query) (t : TreeState) → IsNumberedTree (query_opens s qs t)
  opens_numbered [] t = closed_numbered (credit_of 1) t
  opens_numbered (q ∷ qs) t = numbered_in (spending 1 (levels_of s)) _ (spending_numbered 1 (levels_of s) v) (opened_numbered t.next q)

  taken_numbered : (x : Taken) (t : TreeState) → IsNumberedTree t → IsEntryNumbered s.entry → IsTakenNumbered x
      → IsNumberedTree (front_taken s x t)
  taken_numbered (Continues es) t r h k = left_numbered es t k
  taken_numbered Answered t r h k = closed_numbered _ t
  taken_numbered (Raises es) t r h k = falls_numbered es t r k
  taken_numbered (Halts n) t r h k = numbered_in (spending 1 (levels_of s)) _ (spending_numbered 1 (levels_of s) v) h
  taken_numbered QueryEnds t r h k = opens_numbered t.queries t

  run_numbered : (k : ℕ) (sizes : List ℕ) (o : Option (List Entry)) (t : TreeState) → IsNumberedTree t → IfFound AreEntriesNumbered o
      → IsNumberedTree (run_placed s k sizes o t)
  run_numbered k sizes None t r h = r
  run_numbered k sizes (Some es) t r h = numbered_in (spending k (levels_of s)) _ (spending_numbered k (levels_of s) v)
      (placed_numbered t.next sizes (levels_of s) es h)

or_none_numbered : (o : Option (List Entry)) → IfFound AreEntriesNumbered o → AreEntriesNumbered (or_none o)
or_none_numbered None h = tt
or_none_numbered (Some es) h = h

module _ (t : TreeState) (h : IsNumberedTree t) where
  at_place : (s : Spot) → IsOpenSpot t.root s → AreLevelsNumbered (levels_of s) × IsEntryNumbered s.entry
  at_place s o = numbered_out (levels_of s) (Pending s.hold s.entry) (subst IsNumberedStatus (sym o.inside) h)

  somewhere : (o : Option Spot) (new : Spot → TreeState) → ((s : Spot) → o ≡ Some s → IsOpenSpot t.root s)
      → ((s : Spot) → AreLevelsNumbered (levels_of s) → IsEntryNumbered s.entry → IsNumberedTree (new s))
      → IsNumberedTree (where_some o t new)
  somewhere None new f g = h
  somewhere (Some s) new f g = let p = at_place s (f s refl) in g s p.0 p.1

  -- held by another, or by nobody
  hold_numbered : (hold : Spot → Hold) (s : Spot) → AreLevelsNumbered (levels_of s) → IsEntryNumbered s.entry
      → IsNumberedTree (with_status s (Pending (hold s) s.entry) t)
  hold_numbered hold s v k = numbered_in (levels_of s) (Pending (hold s) s.entry) v k

  pruned_at : (s : Spot) → AreLevelsNumbered (levels_of s) → IsEntryNumbered s.entry
      → IsNumberedTree (gate_pruned s (gate_of t s) (or_none (taken_alone t.job.clauses (spot_stack s))) t)
  pruned_at s v k = gate_numbered s v (gate_of t s) _ t h
      (or_none_numbered (taken_alone t.job.clauses (spot_stack s)) (alone_numbered t.job.clauses (spot_stack s) (stack_numbered s v k)))

  answered_at : (s : Spot) → AreLevelsNumbered (levels_of s) → IsEntryNumbered s.entry
      → IsNumberedTree (world_moved s (taken_at_front t.job.clauses (spot_stack s) t.world) t)
  answered_at s v k = taken_numbered s v _ (record t { world = (taken_at_front t.job.clauses (spot_stack s) t.world).0 }) h k
      (front_numbered t.job.clauses (spot_stack s) t.world (stack_numbered s v k))

  placed_at_spot : (n : ℕ) (sizes : List ℕ) (s : Spot) → AreLevelsNumbered (levels_of s) → IsEntryNumbered s.entry
      → IsNumberedTree (run_placed s n sizes (run_of t s n) t)
  unfolding run_of
  placed_at_spot n sizes s v k = run_numbered s v n sizes (run_of t s n) t h
      (private_numbered t.job.clauses (levels_of s) _ n v (renamed_numbered _ _ s.entry k))

  allowed_numbered : (e : Event) → IsNumberedTree (after_allowed t e)
  allowed_numbered (Claim w a) = somewhere (claimable t) (λ s. with_status s (Pending (TakenBy w) s.entry) t) (claimable_open t)
      (hold_numbered (λ s. TakenBy w))
  allowed_numbered (Resume w a) = somewhere (resumable t) (λ s. with_status s (Pending (TakenBy w) s.entry) t) (resumable_open t)
      (hold_numbered (λ s. TakenBy w))
  allowed_numbered (Nodes w a k sizes) = somewhere (taken_at w a t) (λ s. run_placed s k sizes (run_of t s k) t) (taken_at_open w a t)
      (placed_at_spot k sizes)
  allowed_numbered (Empty w a k) = somewhere (taken_at w a t) (λ s. closed_with s (credit_of k) t) (taken_at_open w a t)
      (λ s v x. closed_numbered s v (credit_of k) t)
  allowed_numbered (Collected w a k) = somewhere (taken_at w a t)
      (λ s. closed_with s (record { inferences = k; answers = 0; records = results_of (run_of t s k) }) t) (taken_at_open w a t)
      (λ s v x. closed_numbered s v _ t)
  allowed_numbered (Lost w a) = h
  allowed_numbered (Suspend w a frozen) = somewhere (taken_at w a t)
      (λ s. with_status s (Pending (gate_or_frozen frozen (gate_of t s)) s.entry) t) (taken_at_open w a t)
      (hold_numbered (λ s. gate_or_frozen frozen (gate_of t s)))
  allowed_numbered (Prune w a) = somewhere (taken_at w a t)
      (λ s. gate_pruned s (gate_of t s) (or_none (taken_alone t.job.clauses (spot_stack s))) t) (taken_at_open w a t) pruned_at
  allowed_numbered (Answer w a frozen) = somewhere (taken_at w a t)
      (λ s. world_moved s (taken_at_front t.job.clauses (spot_stack s) t.world) t) (taken_at_open w a t) answered_at
  allowed_numbered (Stop w) = h

  pub event_numbered : (e : Event) → IsNumberedTree (after_event t e)
  unfolding after_event
  event_numbered e = allowed_numbered e

events_numbered : (t : TreeState) (es : List Event) → IsNumberedTree t → IsNumberedTree (after_events t es)
events_numbered t [] h = h
events_numbered t (e ∷ es) h = events_numbered (after_event t e) es (event_numbered t h e)

pub history_numbered : (job : Job) (budget window : ℕ) (es : List Event) → IsNumberedTree (tree_after job budget window es)
history_numbered job budget window es = events_numbered (opening_tree job budget window) es (go job.queries)
  where
    go : (qs : List Query) → IsNumberedTree (record (opening_tree job budget window) { root = opening_root qs })
    go [] = tt
    go (q ∷ qs) = opened_numbered 0 q
