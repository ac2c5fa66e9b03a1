-- How many nodes are left where an alternative closes: a recovery that sleeps beside it does not wake.
use Rattle.std.proofs.Common.{◌≡◌, ℕ, ◌+◌, ◌≤◌, true, List, [], ◌∷◌, Option, Some, None, sym, ap, ◌∙◌, subst, arith}
use Rattle.std.specs.Option.{option_map}
use Rattle.au_term.specs.Term.{Term}
use Rattle.run_model.specs.Machine.Entries.{Entry, PlainEntry, CatchEntry, FindallEntry, EndEntry}
use Rattle.run_model.specs.Machine.Items.{Continuation}
use Rattle.tree_model.specs.Closing.{Grown, guarded, with_right, with_results, findall_goes_on, all_closed, folds, wakes, goal_side_closes, closes}
use Rattle.tree_model.specs.Credits.{Credit, no_credit, added, credit_of, without_records}
use Rattle.tree_model.specs.Levels.{Level}
use Rattle.tree_model.specs.Nodes.{Inner, Closed, single, nodes_below}
use Rattle.tree_model.specs.SoundTrees.{IsSound}
use Rattle.tree_nodes.specs.Bodies.{BodyKind, CatchBody}
use Rattle.tree_nodes.specs.Rows.{StoredNode}
use Rattle.tree_nodes.specs.TreeTables.{IsTableOf}
use Rattle.tree_nodes.proofs.PlaceLemmas.{nodes_around, nodes_left, nodes_plug}
use Rattle.tree_closing.specs.Closings.{RestsAs, Wakes, credit_after, is_waking, woken_entry}
use Rattle.tree_closing.specs.Sleeping.{IsSleeping}
use Rattle.tree_closing.specs.declared.way_up.Beside.{Beside}
use Rattle.tree_closing.specs.declared.way_up.Beside.TheVariants.{Same, Closes, Gathers, Ends}
use Rattle.tree_closing.proofs.SleeperLemmas.{one_sleeps, sleeping_of}
use Rattle.task_stops.specs.WakingPlaces.{WakingClosingsAreNoCatch}

folds_few : (next : ℕ) (v : Level) (up : List Level) (c : Credit) (o : Option Credit) (most : ℕ) → nodes_around (v ∷ up) ≤ most → nodes_around up + 1 ≤ most
    → ((x : Credit) → nodes_below (closes next up x).root ≤ nodes_around up + 1) → nodes_below (folds next v up c o (closes next up)).root ≤ most
folds_few next v up c None most here above ih = let n = nodes_plug (v ∷ up) (Closed c) in omega (arith, n, here)
folds_few next v [] c (Some total) most here above ih = let n = nodes_plug (v ∷ []) (Closed c) in omega (arith, n, here)
folds_few next v (u ∷ up) c (Some total) most here above ih = let n = ih (added (credit_of u.spent) total) in omega (arith, n, above)

wakes_few : (next : ℕ) (v : Level) (up : List Level) (c : Credit) (e : Entry) → nodes_below (wakes next v up c e).root ≡ nodes_around up + (1 + (nodes_left v.left + 1))
wakes_few next v up c e = let n = nodes_plug (with_right (Inner (single next e)) v ∷ up) (Closed c) in omega (arith, n)

-- at most one node more, by what sleeps beside the innermost level
few_by : (next : ℕ) (v : Level) (up : List Level) (c : Credit) → ((x : Credit) → nodes_below (closes next up x).root ≤ nodes_around up + 1) → (o : Option Entry)
    → nodes_below (goal_side_closes next v up c o (closes next up)).root ≤ nodes_around (v ∷ up) + 1
few_by next v up c ih None = folds_few next v up c (all_closed v c) (nodes_around (v ∷ up) + 1) (omega arith) (omega arith) ih
few_by next v up c ih (Some (PlainEntry f)) = folds_few next v up c (all_closed v c) (nodes_around (v ∷ up) + 1) (omega arith) (omega arith) ih
few_by next v up c ih (Some (CatchEntry catcher recovery f)) =
    let gone = with_right (Closed no_credit) v in folds_few next gone up c (all_closed gone c) (nodes_around (v ∷ up) + 1) (omega arith) (omega arith) ih
few_by next v up c ih (Some (FindallEntry results l f)) =
    let n = wakes_few next v up (without_records c) (findall_goes_on v.number (with_results c.records (FindallEntry results l f))) in omega (arith, n)
few_by next v up c ih (Some (EndEntry b)) = let n = wakes_few next v up c (EndEntry b) in omega (arith, n)

closes_few : (next : ℕ) (levels : List Level) (c : Credit) → nodes_below (closes next levels c).root ≤ nodes_around levels + 1
closes_few next [] c = omega arith
closes_few next (v ∷ up) c = few_by next v up c (closes_few next up) (guarded v)

-- beside a recovery there are no more
catch_closes : (next : ℕ) (v : Level) (up : List Level) (c : Credit) (catcher recovery : Term) (f : Continuation ℕ) → guarded v ≡ Some (CatchEntry catcher recovery f)
    → nodes_below (closes next (v ∷ up) c).root ≤ nodes_around up + (1 + nodes_left v.left)
catch_closes next v up c catcher recovery f e =
    let gone = with_right (Closed no_credit) v in
    subst (λ (o : Option Entry). nodes_below (goal_side_closes next v up c o (closes next up)).root ≤ nodes_around up + (1 + nodes_left v.left)) (sym e)
    (folds_few next gone up c (all_closed gone c) (nodes_around up + (1 + nodes_left v.left)) (omega arith) (omega arith) (closes_few next up))

waking_wakes : (sort : Beside) → is_waking sort ≡ true → (next : ℕ) (x : Level) (above : List Level) (k : Credit) (g : Grown) → RestsAs sort next x above k g
    → Wakes sort next x above k g
waking_wakes Same w next x above k g r = absurd (cc w)
waking_wakes Closes w next x above k g r = absurd (cc w)
waking_wakes Gathers w next x above k g r = r
waking_wakes Ends w next x above k g r = r

recovery_of : (k : BodyKind) (catcher recovery : Term) → k ≡ CatchBody catcher recovery → (o : Option Entry) → IsSleeping (sleeping_of k) o
    → (c : Term) × ((r : Term) × ((f : Continuation ℕ) × (o ≡ Some (CatchEntry c r f))))
recovery_of k catcher recovery e o h = subst (λ (x : BodyKind). IsSleeping (sleeping_of x) o) e h

pub waking_no_catch : WakingClosingsAreNoCatch
waking_no_catch nodes read v up was a b c total beside at table sound comes waking asleep row is catcher recovery kind =
    let rest = comes read v up was 0 at table sound in
    let q = rest.reached in
    let here = subst (IsTableOf nodes read) q.same table in
    let sound_here = subst (IsSound []) q.same sound in
    let sleeps = one_sleeps nodes b row.body asleep.first asleep.asleep (ap (option_map (λ (r : StoredNode). r.body)) is) read q.level q.above q.status q.at here sound_here in
    let caught = recovery_of row.body.kind catcher recovery kind (guarded q.level) sleeps in
    let woken = waking_wakes beside waking 0 q.level q.above total (closes 0 (v ∷ up) c) rest.rests in
    let few = catch_closes 0 q.level q.above total caught.0 caught.1.0 caught.1.1.0 caught.1.1.1 in
    let many = wakes_few 0 q.level q.above (credit_after beside total) (woken_entry q.level.number total.records woken.0) in
    let same : nodes_below (closes 0 (q.level ∷ q.above) total).root ≡ nodes_below (wakes 0 q.level q.above (credit_after beside total) (woken_entry q.level.number total.records woken.0)).root
    = ap (λ (g : Grown). nodes_below g.root) (sym q.closes ∙ woken.1.1) in
    absurd (omega (arith, few, many, same))
