-- The variables of the entries round a place stay below their next numbers where the place closes, and where a ball lands.
use Rattle.std.proofs.Common.{◌≡◌, ℕ, ◌==◌, Bool, true, false, cond, List, [], ◌∷◌, Option, Some, None, refl, subst}
use Rattle.au_term.specs.Term.{Term}
use Rattle.run_model.specs.Machine.Entries.{Entry, PlainEntry, CatchEntry, FindallEntry, EndEntry}
use Rattle.run_model.specs.Laws.Numbering.{IsEntryNumbered}
use Rattle.run_model.proofs.NumberingLemmas.{findall-numbered, result-numbered}
use Rattle.tree_model.specs.Credits.{Credit, no_credit, without_records}
use Rattle.tree_model.specs.Nodes.{Ready, TakenBy, Waiting, Dormant, Alternatives, none, alternative, Status, Pending, Inner, Closed}
use Rattle.tree_model.specs.Nodes.{single}
use Rattle.tree_model.specs.Levels.{Level, put_left, level_node, plug}
use Rattle.tree_model.specs.Closing.{Grown, dormant_right, guarded, with_right, with_results, findall_goes_on, all_closed, folds, wakes}
use Rattle.tree_model.specs.Closing.{goal_side_closes, closes}
use Rattle.tree_model.specs.Pruning.{emptied, pruned, left_after, ball_closes}
use Rattle.tree_model.specs.Effects.{spending}
use Rattle.tree_model.specs.NumberedTrees.{IsNumberedStatus, AreNumbered}

abbrev pub AreNumberedLeft : List (ℕ × Status) → Type 0
AreNumberedLeft [] = Unit {0}
AreNumberedLeft (a ∷ left) = IsNumberedStatus a.1 × AreNumberedLeft left

abbrev pub AreLevelsNumbered : List Level → Type 0
AreLevelsNumbered [] = Unit {0}
AreLevelsNumbered (v ∷ up) = AreNumberedLeft v.left × AreNumbered v.right × AreLevelsNumbered up

out_left : (left : List (ℕ × Status)) (others : Alternatives) → AreNumbered (put_left left others)
    → AreNumberedLeft left × AreNumbered others
out_left [] others h = (tt, h)
out_left (a ∷ left) others h = let k = out_left left (alternative a.0 a.1 others) h in ((k.1.0, k.0), k.1.1)

in_left : (left : List (ℕ × Status)) (others : Alternatives) → AreNumberedLeft left → AreNumbered others
    → AreNumbered (put_left left others)
in_left [] others h k = k
in_left (a ∷ left) others h k = in_left left (alternative a.0 a.1 others) h.1 (h.0, k)

-- round a place, and there
pub numbered_out : (levels : List Level) (status : Status) → IsNumberedStatus (plug levels status)
    → AreLevelsNumbered levels × IsNumberedStatus status
numbered_out [] status h = (tt, h)
numbered_out (v ∷ up) status h =
    let k = numbered_out up (Inner (level_node v status)) h in
    let p = out_left v.left (alternative v.spent status v.right) k.1 in
    ((p.0, p.1.1, k.0), p.1.0)

pub numbered_in : (levels : List Level) (status : Status) → AreLevelsNumbered levels → IsNumberedStatus status
    → IsNumberedStatus (plug levels status)
numbered_in [] status h k = k
numbered_in (v ∷ up) status h k = numbered_in up (Inner (level_node v status)) h.2
    (in_left v.left (alternative v.spent status v.right) h.0 (k, h.1))

pub spending_numbered : (n : ℕ) (levels : List Level) → AreLevelsNumbered levels → AreLevelsNumbered (spending n levels)
spending_numbered n [] h = h
spending_numbered n (v ∷ up) h = h

-- what sleeps to the right of a first alternative
guarded_numbered : (v : Level) (e : Entry) → AreNumbered v.right → guarded v ≡ Some e → IsEntryNumbered e
guarded_numbered v e h q = go v.left v.right h q
  where
    go : (left : List (ℕ × Status)) (right : Alternatives) → AreNumbered right
        → elim left as (λ l. Option Entry) [ [] ↦ dormant_right right | a ∷ rest ↦ None ] ≡ Some e → IsEntryNumbered e
    go (a ∷ left) right h q = let no_way : ⊥ = cc in absurd no_way
    go [] none h q = let no_way : ⊥ = cc in absurd no_way
    go [] (alternative sp (Inner node) others) h q = let no_way : ⊥ = cc in absurd no_way
    go [] (alternative sp (Closed c) others) h q = let no_way : ⊥ = cc in absurd no_way
    go [] (alternative sp (Pending Ready x) others) h q = let no_way : ⊥ = cc in absurd no_way
    go [] (alternative sp (Pending (TakenBy w) x) others) h q = let no_way : ⊥ = cc in absurd no_way
    go [] (alternative sp (Pending (Waiting g) x) others) h q = let no_way : ⊥ = cc in absurd no_way
    go [] (alternative sp (Pending Dormant x) others) h q = let same : x ≡ e = cc in subst IsEntryNumbered same h.0

-- a findall with its results
results_numbered : (ts : List Term) (e : Entry) → IsEntryNumbered e → IsEntryNumbered (with_results ts e)
results_numbered [] e h = h
results_numbered (t ∷ ts) e h = results_numbered ts _ (result-numbered t e h)

goes_on_numbered : (n : ℕ) (e : Entry) → IsEntryNumbered e → IsEntryNumbered (findall_goes_on n e)
goes_on_numbered n (PlainEntry f) h = h
goes_on_numbered n (CatchEntry c r f) h = h
goes_on_numbered n (EndEntry b) h = h
goes_on_numbered n (FindallEntry results l f) h = let k = findall-numbered results l f [] h.0 h.1 h.2 in record
    { items = k.items; named = k.named }

pub wakes_numbered : (next : ℕ) (v : Level) (up : List Level) (c : Credit) (e : Entry) → AreLevelsNumbered (v ∷ up) → IsEntryNumbered e
    → IsNumberedStatus (wakes next v up c e).root
wakes_numbered next v up c e h k = numbered_in (with_right (Inner (single next e)) v ∷ up) (Closed c) (h.0, ((k, tt), tt), h.2) tt

folds_numbered : (next : ℕ) (v : Level) (up : List Level) (c : Credit) (o : Option Credit) (go : Credit → Grown)
    → AreLevelsNumbered (v ∷ up) → ((d : Credit) → IsNumberedStatus (go d).root) → IsNumberedStatus (folds next v up c o go).root
folds_numbered next v up c None go h f = numbered_in (v ∷ up) (Closed c) h tt
folds_numbered next v [] c (Some total) go h f = numbered_in (v ∷ []) (Closed c) h tt
folds_numbered next v (u ∷ up) c (Some total) go h f = f _

-- a place that closes
pub closes_numbered : (next : ℕ) (levels : List Level) (c : Credit) → AreLevelsNumbered levels
    → IsNumberedStatus (closes next levels c).root
closes_numbered next [] c h = tt
closes_numbered next (v ∷ up) c h = pick (guarded v) refl (λ d. closes_numbered next up d h.2)
  where
    pick : (o : Option Entry) → guarded v ≡ o → ((d : Credit) → IsNumberedStatus (closes next up d).root)
        → IsNumberedStatus (goal_side_closes next v up c o (closes next up)).root
    pick None e f = folds_numbered next v up c (all_closed v c) (closes next up) h f
    pick (Some (PlainEntry x)) e f = folds_numbered next v up c (all_closed v c) (closes next up) h f
    pick (Some (EndEntry b)) e f = wakes_numbered next v up c (EndEntry b) h tt
    pick (Some (CatchEntry k r x)) e f = let gone = with_right (Closed no_credit) v in folds_numbered next gone up c (all_closed gone c)
        (closes next up) (h.0, (tt, tt), h.2) f
    pick (Some (FindallEntry results l x)) e f =
        let sleeper = guarded_numbered v (FindallEntry results l x) h.1 e in
        wakes_numbered next v up (without_records c) _ h
        (goes_on_numbered v.number _ (results_numbered c.records (FindallEntry results l x) sleeper))

-- where a ball lands
pub ball_closes_numbered : (next scope : ℕ) (levels : List Level) (c : Credit) (e : Entry) → AreLevelsNumbered levels → IsEntryNumbered e
    → IsNumberedStatus (ball_closes next scope levels c e).root
ball_closes_numbered next scope [] c e h k = tt
ball_closes_numbered next scope (v ∷ up) c e h k = go (v.number == scope) (ball_closes_numbered next scope up (left_after v c) e h.2 k)
  where
    go : (b : Bool) → IsNumberedStatus (ball_closes next scope up (left_after v c) e).root
        → IsNumberedStatus (cond b (wakes next v up (left_after v c) e) (ball_closes next scope up (left_after v c) e)).root
    go true f = wakes_numbered next v up (left_after v c) e h k
    go false f = f

-- what a cut leaves
emptied_numbered : (others : Alternatives) → AreNumbered (emptied others)
emptied_numbered none = tt
emptied_numbered (alternative sp status others) = (tt, emptied_numbered others)

pub pruned_numbered : (scope : ℕ) (levels : List Level) → AreLevelsNumbered levels → AreLevelsNumbered (pruned scope levels)
pruned_numbered scope [] h = tt
pruned_numbered scope (v ∷ up) h = go (v.number == scope) (pruned_numbered scope up h.2)
  where
    go : (b : Bool) → AreLevelsNumbered (pruned scope up)
        → AreLevelsNumbered (cond b (v ∷ up) (record v { right = emptied v.right } ∷ pruned scope up))
    go true k = h
    go false k = (h.0, emptied_numbered v.right, k)
