-- How an event changes what is out.
use Rattle.std.proofs.Common.{◌≡◌, ◌≢◌, ℕ, suc, ◌+◌, ◌≤◌, List, [], ◌∷◌, ◌++◌, map, Option, Some, None, refl, sym, ap, ◌∙◌, subst, arith}
use Rattle.au_model.specs.Terms.Each.{Each}
use Rattle.run_model.specs.Machine.Entries.{Entry}
use Rattle.run_model.specs.Programs.Jobs.{Query}
use Rattle.run_model.specs.Goals.Worlds.{World}
use Rattle.tree_model.specs.Credits.{Credit, credit_of}
use Rattle.tree_model.specs.Nodes.{ChoiceNode, Ready, Numbered, Status, Inner, single, entry_alternatives}
use Rattle.tree_model.specs.Levels.{Level, plug, Place, Spot, levels_of, place_of_spot}
use Rattle.tree_model.specs.Gates.{ball_scope}
use Rattle.tree_model.specs.Pruning.{Task, pruned, tasks_pruned}
use Rattle.tree_model.specs.Shapes.{placed_scope, placed_status}
use Rattle.tree_model.specs.Floors.{node_of, with_nodes}
use Rattle.tree_model.specs.TreeStates.{TreeState, opened_node}
use Rattle.tree_model.specs.Effects.{spending, closed_with, left_at, ball_falls, cut_at, query_opens, run_placed}
use Rattle.tree_model.specs.HandOuts.{Handed}
use Rattle.interleaving.proofs.HandOutCountLemmas.{at, Agrees, AgreesAround, occurrences, occurrences_around, occurrences_plug, node_here}
use Rattle.interleaving.proofs.HandOutCountLemmas.{index_here}
use Rattle.interleaving.proofs.HandOutCountLemmas.{agrees_in, NewIn, one_place}
use Rattle.interleaving.proofs.HandOutPlaceLemmas.{closes_agreed, tasks_at, IsOut, pruned_out, pruned_agrees, pruned_occurs}
use Rattle.interleaving.proofs.HandOutPlaceLemmas.{ball_closes_agreed}
use Rattle.interleaving.proofs.OnceLemmas.{IsGoing, moved_at, IsThere, IsMoved}
use Rattle.interleaving.proofs.OncePlaceLemmas.{around_here, new_here, closes_next, ball_closes_next}
use Rattle.interleaving.proofs.OncePlaceLemmas.{append-none, new_agrees, new_occurs, first_node, first_occurs}

-- what closings do
module _ (G : Place → Option Handed) (t : TreeState) (s : Spot) (tr : Handed → Option Handed) (d : (a : Place) → G a ≢ None)
    (g : IsGoing G t) (th : IsThere G t s) where
  round : AgreesAround (moved_at G (place_of_spot s) tr) (levels_of s)
  round = around_here G t s tr d th

  fresh : NewIn (moved_at G (place_of_spot s) tr) t.next
  fresh = new_here G t s tr d g th

  pub closed_moved : (c : Credit) (w : World) → IsMoved (moved_at G (place_of_spot s) tr) t (closed_with s c (record t { world = w })) s []
  closed_moved c w = record {
    agreed = closes_agreed (moved_at G (place_of_spot s) tr) t.next (levels_of s) c (λ a. occurrences_around a (levels_of s)) fresh round
        (λ a. omega arith);
    lost = append-none t.lost;
    out = tt;
    next = closes_next t.next (levels_of s) c;
    gone_low = λ a. omega arith;
  }

  -- a node below the place
  pub below_moved : (new : TreeState) (levels : List Level) (status : Status) (gone : List Task) → new.root ≡ plug levels status
      → new.lost ≡ t.lost ++ gone → t.next ≤ new.next → AgreesAround (moved_at G (place_of_spot s) tr) levels
      → Agrees (moved_at G (place_of_spot s) tr) (node_here levels) (index_here levels) status →
      Each (IsOut (moved_at G (place_of_spot s) tr)) gone
      → ((a : Place) → occurrences_around a levels + tasks_at a gone ≤ occurrences_around a (levels_of s))
      → ((a : Place) → suc a.node ≤ t.next → occurrences a (node_here levels) (index_here levels) status ≡ 0)
      → IsMoved (moved_at G (place_of_spot s) tr) t new s gone
  below_moved new levels status gone r l n h k o m z = record {
    agreed = record {
      agrees = subst (Agrees (moved_at G (place_of_spot s) tr) 0 0) (sym r)
          (agrees_in (moved_at G (place_of_spot s) tr) levels status h k);
      few = λ a j. few_at a j;
    };
    lost = l;
    out = o;
    next = n;
    gone_low = λ a. low_at a;
  }
    where
      few_at : (a : Place) → suc a.node ≤ t.next → occurrences a 0 0 new.root + tasks_at a gone ≤ occurrences_around a (levels_of s)
      few_at a j = omega (arith, ap (occurrences a 0 0) r ∙ occurrences_plug a levels status, z a j, m a)

      low_at : (a : Place) → tasks_at a gone ≤ occurrences_around a (levels_of s)
      low_at a = omega (arith, m a)

  pub left_moved : (es : List Entry) (w : World) → IsMoved (moved_at G (place_of_spot s) tr) t (left_at s es (record t { world = w })) s []
  left_moved [] w = closed_moved (credit_of 1) w
  left_moved (e ∷ es) w =
      below_moved (left_at s (e ∷ es) (record t { world = w })) (spending 1 (levels_of s))
      (Inner (Numbered t.next ChoiceNode (entry_alternatives Ready (map (with_nodes (node_of (levels_of s))) (e ∷ es))))) [] refl
      (append-none t.lost) (omega arith) round
      (new_agrees (moved_at G (place_of_spot s) tr) t.next fresh Ready refl t.next 0 (map (with_nodes (node_of (levels_of s))) (e ∷ es))
      (omega arith)) tt (λ a. omega arith)
      (λ a l. new_occurs a Ready t.next 0 (map (with_nodes (node_of (levels_of s))) (e ∷ es)) l)

  pub cut_moved : (scope : ℕ) (e : Entry) (es : List Entry) → IsMoved (moved_at G (place_of_spot s) tr) t (cut_at s scope (e ∷ es) t) s
      (tasks_pruned scope (levels_of s))
  cut_moved scope e es =
      below_moved (cut_at s scope (e ∷ es) t) (pruned scope (spending 1 (levels_of s)))
      (Inner (single t.next (with_nodes (node_of (levels_of s)) e))) (tasks_pruned scope (levels_of s)) refl refl (omega arith)
      (pruned_agrees (moved_at G (place_of_spot s) tr) scope (spending 1 (levels_of s)) round) (fresh (at t.next 0) (omega arith), tt)
      (pruned_out (moved_at G (place_of_spot s) tr) scope (levels_of s) round)
      (λ a. pruned_occurs a scope (spending 1 (levels_of s))) (λ a l. omega (arith, one_place a t.next 0 l))

  pub fall_moved : (e : Entry) (es : List Entry) (w : World) → IsMoved (moved_at G (place_of_spot s) tr) t
      (ball_falls s (e ∷ es) (record t { world = w })) s (tasks_pruned (ball_scope (levels_of s) (e ∷ es)) (levels_of s))
  fall_moved e es w =
      let scope = ball_scope (levels_of s) (e ∷ es) in
      let k = ball_closes_agreed (moved_at G (place_of_spot s) tr) t.next scope (levels_of s) (credit_of 1)
      (with_nodes (node_of (levels_of s)) e) (λ a. 0) (λ a. occurrences_around a (levels_of s)) fresh round (λ a. omega arith) in
      record {
        agreed = record { agrees = k.agrees; few = λ a l. omega (arith, k.few a l) };
        lost = refl;
        out = pruned_out (moved_at G (place_of_spot s) tr) scope (levels_of s) round;
        next = ball_closes_next t.next scope (levels_of s) (credit_of 1) (with_nodes (node_of (levels_of s)) e);
        gone_low = λ a. omega (arith, pruned_occurs a scope (levels_of s));
      }

  pub opens_moved : (qs : List Query) (w : World) → IsMoved (moved_at G (place_of_spot s) tr) t
      (query_opens s qs (record t { world = w })) s []
  opens_moved [] w = closed_moved (credit_of 1) w
  opens_moved (q ∷ qs) w =
      below_moved (query_opens s (q ∷ qs) (record t { world = w })) (spending 1 (levels_of s)) (Inner (opened_node t.next q)) [] refl
      (append-none t.lost) (omega arith) round
      (fresh (at t.next 0) (omega arith), (fresh (at t.next 1) (omega arith), tt)) tt (λ a. omega arith)
      (λ a l. omega (arith, one_place a t.next 0 l, one_place a t.next 1 l))

  pub placed_moved : (k size : ℕ) (sizes : List ℕ) (es : List Entry) → IsMoved (moved_at G (place_of_spot s) tr) t
      (run_placed s k (size ∷ sizes) (Some es) t) s []
  placed_moved k size sizes es =
      let mapped = map (with_nodes (placed_scope t.next (size ∷ sizes) (levels_of s))) es in
      below_moved (run_placed s k (size ∷ sizes) (Some es) t) (spending k (levels_of s)) (placed_status t.next (size ∷ sizes) mapped) []
      refl (append-none t.lost) (omega arith) round
      (first_node t.next size sizes mapped (moved_at G (place_of_spot s) tr) fresh (node_here (levels_of s)) (index_here (levels_of s)))
      tt (λ a. omega arith) (λ a l. first_occurs a t.next size sizes mapped (node_here (levels_of s)) (index_here (levels_of s)) l)
