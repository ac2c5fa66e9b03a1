-- Where a place under a query closes, the end of the query is still to come.
use Rattle.std.proofs.Common.{◌≡◌, ℕ, ◌⊎◌, inl, inr, true, false, List, [], ◌∷◌, Option, Some, None, refl, sym, subst}
use Rattle.au_term.specs.Term.{Term}
use Rattle.run_model.specs.Machine.Entries.{Entry, PlainEntry, CatchEntry, FindallEntry, EndEntry}
use Rattle.tree_model.specs.Credits.{Credit, no_credit, without_records}
use Rattle.tree_model.specs.Nodes.{Alternatives, Status, Inner, Closed, single}
use Rattle.tree_model.specs.Levels.{Level}
use Rattle.tree_model.specs.Closing.{Grown, dormant_right, guarded, with_right, all_closed, folds, wakes, findall_goes_on, with_results}
use Rattle.tree_model.specs.Closing.{goal_side_closes, closes}
use Rattle.tree_model.specs.PendingLists.{way_of, list_right, pending_list, back_of}
use Rattle.tree_model.specs.Ways.{under_query, is_query}
use Rattle.tree_model.specs.SoundTrees.{IsOpen}
use Rattle.interleaving.proofs.ContextLemmas.{IsAround}
use Rattle.interleaving.proofs.EndLemmas.{has_end, end_after, end_before, HasQueryEnd, query_here, back_end, round_end}
use Rattle.au_term.proofs.LogicLemmas.{false_true}

abbrev Ends : Grown → Type 0
Ends g = has_end (pending_list g.root) ≡ true

folds_end : (next : ℕ) (v : Level) (up : List Level) (c : Credit) (o : Option Credit) (go : Credit → Grown) → has_end (back_of (v ∷ up))
    ≡ true → ((d : Credit) → (up ≡ [] → ⊥) → Ends (go d)) → Ends (folds next v up c o go)
folds_end next v up c None go h f = round_end (v ∷ up) (Closed c) h
folds_end next v [] c (Some d) go h f = round_end (v ∷ []) (Closed c) h
folds_end next v (u ∷ up) c (Some d) go h f = f _ (λ e. let no_way : ⊥ = cc in no_way)

-- what sleeps after a query's goals is its end
pub guards_end : (v : Level) → HasQueryEnd v → (b : Option Term) × guarded v ≡ Some (EndEntry b)
guards_end v h = (
  h.ball,
  subst (λ l. Guards l v.right) (sym h.left)
      (subst (λ r. dormant_right r ≡ Some (EndEntry h.ball)) (sym h.right) refl),
)
  where
    Guards : List (ℕ × Status) → Alternatives → Type 0
    Guards l r = elim l as (λ x. Option Entry) [ [] ↦ dormant_right r | a ∷ left ↦ None ] ≡ Some (EndEntry h.ball)

end_wakes : (next : ℕ) (v : Level) (up : List Level) (c : Credit) (b : Option Term) → Ends (wakes next v up c (EndEntry b))
end_wakes next v up c b = round_end (with_right (Inner (single next (EndEntry b))) v ∷ up) (Closed c)
    (end_before (list_right (way_of up) (with_right (Inner (single next (EndEntry b))) v)) (back_of up) refl)

pub closes_end : (next : ℕ) (levels : List Level) (c : Credit) → IsAround levels IsOpen → under_query (way_of levels) ≡ true
    → Ends (closes next levels c)
closes_end next [] c h u = false_true u
closes_end next (v ∷ up) c h u = pick (query_here v up h.0 u) (λ d q. closes_end next up d h.1 q)
  where
    below : has_end (back_of (v ∷ up)) ≡ true
    below = back_end (v ∷ up) h u

    above : (w : Level) → has_end (back_of up) ≡ true → has_end (back_of (w ∷ up)) ≡ true
    above w z = end_after (list_right (way_of up) w) (back_of up) z

    other : (o : Option Entry) → (under_query (way_of up) ≡ true) → ((d : Credit) → Ends (closes next up d))
        → Ends (goal_side_closes next v up c o (closes next up))
    other None q f = folds_end next v up c (all_closed v c) (closes next up) below (λ d n. f d)
    other (Some (PlainEntry g)) q f = folds_end next v up c (all_closed v c) (closes next up) below (λ d n. f d)
    other (Some (EndEntry b)) q f = end_wakes next v up c b
    other (Some (CatchEntry k r g)) q f = let gone = with_right (Closed no_credit) v in folds_end next gone up c (all_closed gone c)
        (closes next up) (above gone (back_end up h.1 q)) (λ d n. f d)
    other (Some (FindallEntry results l g)) q f = let woken = with_right
        (Inner (single next (findall_goes_on v.number (with_results c.records (FindallEntry results l g))))) v in round_end (woken ∷ up)
        (Closed (without_records c)) (above woken (back_end up h.1 q))

    pick : (is_query v.kind ≡ true × HasQueryEnd v) ⊎ ((is_query v.kind ≡ false) × (under_query (way_of up) ≡ true))
        → ((d : Credit) → under_query (way_of up) ≡ true → Ends (closes next up d)) → Ends (closes next (v ∷ up) c)
    pick (inl q) f = let g = guards_end v q.1 in subst (λ o. Ends (goal_side_closes next v up c o (closes next up))) (sym g.1)
        (end_wakes next v up c g.0)
    pick (inr q) f = other (guarded v) q.1 (λ d. f d q.1)
