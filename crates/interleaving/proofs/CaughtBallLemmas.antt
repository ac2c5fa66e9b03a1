-- A ball keeps the marks, records and queries of a tree.
use Rattle.std.proofs.Common.{◌≡◌, ◌⊎◌, inl, inr, ℕ, suc, ◌+◌, ◌≤◌, ◌==◌, Bool, true, false, cond, List, [], ◌∷◌, map, length, Option}
use Rattle.std.proofs.Common.{Some, None, refl, sym, ap, ◌∙◌, subst, arith}
use Rattle.std.specs.Prelude.{◌&&◌}
use Rattle.au_term.specs.Term.{Term}
use Rattle.au_model.specs.Terms.Substitutions.{Substitution}
use Rattle.run_model.specs.Programs.Bodies.{call_of}
use Rattle.run_model.specs.Machine.Items.{Item, GoalItem, CatchMark, CollectMark, RemovalItem, Continuation, resolve_item}
use Rattle.run_model.specs.Machine.Entries.{Entry, PlainEntry, CatchEntry, EndEntry}
use Rattle.tree_model.specs.Credits.{credit_of}
use Rattle.tree_model.specs.Nodes.{Kind, ChoiceNode, CatchNode, FindallNode, QueryNode, Alternatives, alternative, Status}
use Rattle.tree_model.specs.Levels.{Level, plug}
use Rattle.tree_model.specs.Floors.{floor_of, node_of, with_nodes, query_node}
use Rattle.tree_model.specs.Orders.{levels_below}
use Rattle.tree_model.specs.Closing.{dormant_right, guarded}
use Rattle.tree_model.specs.Pruning.{is_findall, ball_closes}
use Rattle.tree_model.specs.PendingLists.{way_of}
use Rattle.tree_model.specs.Ways.{is_on, is_query, IsAsked}
use Rattle.tree_model.specs.SoundTrees.{IsOpen}
use Rattle.tree_model.specs.CaughtTrees.{catch_right, with_catch, MarksCaught, is_side}
use Rattle.tree_model.proofs.CountLemmas.{count_around}
use Rattle.interleaving.proofs.ContextLemmas.{IsAround}
use Rattle.interleaving.proofs.RoundtripLemmas.{by_nodes, by_heights}
use Rattle.interleaving.proofs.EntryLemmas.{length-floor}
use Rattle.interleaving.proofs.WayLemmas.{off_way}
use Rattle.interleaving.proofs.ClosingSoundLemmas.{IsFree}
use Rattle.interleaving.proofs.ClockLemmas.{AreClear}
use Rattle.interleaving.proofs.ClosingListLemmas.{Guards, no_side}
use Rattle.interleaving.proofs.ListEndLemmas.{levels_down}
use Rattle.interleaving.proofs.ListScopeLemmas.{dormant_on}
use Rattle.interleaving.proofs.ListMarkLemmas.{around-down}
use Rattle.interleaving.proofs.CaughtContextLemmas.{IsCaughtRoot}
use Rattle.interleaving.proofs.CaughtClosingLemmas.{RecordsAt, wake_caught, marks_other, off_numbers, dormant_there}
use Rattle.interleaving.proofs.CatchingLemmas.{IsCatcher}
use Rattle.interleaving.proofs.BallLevelLemmas.{ball_credit, wakes_in, ball_closes_at, ball_credit_under, FirstShut, under_top}
use Rattle.interleaving.proofs.BallPlaceLemmas.{names_above, scope_down, QueryAt}
use Rattle.au_term.proofs.LogicLemmas.{false_true}

-- bindings change no mark
pub marks_resolved : (sleeps : ℕ → Bool) (node : ℕ → ℕ) (o : Substitution) (items : List (Item ℕ))
    → MarksCaught sleeps (by_nodes node items) → MarksCaught sleeps (by_nodes node (map (resolve_item o) items))
marks_resolved sleeps node o [] h = tt
marks_resolved sleeps node o (GoalItem t s ∷ items) h = marks_resolved sleeps node o items h
marks_resolved sleeps node o (CatchMark s ∷ items) h = (h.0, marks_resolved sleeps node o items h.1)
marks_resolved sleeps node o (CollectMark t s ∷ items) h = marks_resolved sleeps node o items h
marks_resolved sleeps node o (RemovalItem n ∷ items) h = marks_resolved sleeps node o items h

-- what is guarded
pub guarded_by : (w : Level) (e : Entry) → Guards w e → guarded w ≡ Some e
guarded_by w e g = subst (λ l. Shows l w.right) (sym g.left) (subst (λ r. dormant_right r ≡ Some e) (sym g.right) refl)
  where
    Shows : List (ℕ × Status) → Alternatives → Type 0
    Shows l r = elim l as (λ x. Option Entry) [ [] ↦ dormant_right r | a ∷ left ↦ None ] ≡ Some e

-- the node of a catch, or of a query, is no findall's
pub catch_no_side : (w : Level) (up : List Level) → IsAround (w ∷ up) IsOpen → (catcher r : Term) (f : Continuation ℕ)
    → Guards w (CatchEntry catcher r f) → is_side w.kind (length w.left) ≡ false
catch_no_side w up a catcher r f g = no_side w up a.0 (Some (CatchEntry catcher r f)) (guarded_by w (CatchEntry catcher r f) g) tt

pub query_no_side : (w : Level) → is_query w.kind ≡ true → is_side w.kind (length w.left) ≡ false
query_no_side w q = go w.kind q
  where
    go : (k : Kind) → is_query k ≡ true → (is_findall k && (length w.left == 0)) ≡ false
    go QueryNode e = refl
    go ChoiceNode e = false_true e
    go CatchNode e = false_true e
    go FindallNode e = false_true e

records_at : (w : Level) (up : List Level) (s : ℕ) (levels : List Level) (status : Status) → is_side w.kind (length w.left) ≡ false
    → levels_down levels s ≡ w ∷ up → ((ball_credit s levels (credit_of 1)).records ≡ []) ⊎ (under_top (levels_down levels s) ≡ true)
    → RecordsAt up w (ball_credit s levels (credit_of 1))
records_at w up s levels status off e (inl z) = inl z
records_at w up s levels status off e (inr z) = inr (off, sym (ap under_top e) ∙ z)

pub part_counts : (m : ℕ) (levels : List Level) (s : ℕ) → count_around m (levels_down levels s) ≤ count_around m levels
part_counts m [] s = omega arith
part_counts m (v ∷ up) s = go (v.number == s) (part_counts m up s)
  where
    go : (b : Bool) → count_around m (levels_down up s) ≤ count_around m up → count_around m (cond b (v ∷ up) (levels_down up s)) ≤
        count_around m (v ∷ up)
    go true h = omega arith
    go false h = omega (arith, h)

-- a ball that is caught
pub recovery_caught : (next : ℕ) (levels : List Level) (status : Status) (w : Level) (up : List Level) (r : Term) (f : Continuation ℕ)
    (o : Substitution) (ball : Term) (g : Continuation ℕ) → g.items
    ≡ map (resolve_item o) (GoalItem (call_of r) (length (floor_of up)) ∷ by_heights up f.items)
    → IsAround levels IsOpen → IsFree next levels
    → ((sp : ℕ) (others : Alternatives) → catch_right (alternative sp status others) ≡ false)
    → AreClear (levels_below (Some w.number) levels) → IsCatcher ball levels w up r f o → IsCaughtRoot (plug levels status)
    → IsCaughtRoot (ball_closes next (node_of levels (suc (length (floor_of up)))) levels (credit_of 1)
    (with_nodes (node_of levels) (PlainEntry g))).root
recovery_caught next levels status w up r f o ball g is a free first clear c h =
    let s = w.number in
    let around : IsAround (w ∷ up) IsOpen = subst (λ l. IsAround l IsOpen) c.down (around-down levels s a) in
    let e = with_nodes (node_of levels) (PlainEntry g) in
    let l = ball_closes_at next s levels status (credit_of 1) e in
    let root : IsCaughtRoot (plug (w ∷ up) l.below) = subst (λ d. IsCaughtRoot (plug d l.below)) c.down (subst IsCaughtRoot l.inside h) in
    let records = ball_credit_under s levels status (credit_of 1) clear (subst FirstShut (sym c.down) c.sleeper.left) h.caught (inl refl) in
    let asked : IsAsked (way_of up) f.items = dormant_there w up IsOpen c.sleeper.spent
    (CatchEntry c.catcher r f) around.0 c.sleeper.right in
    let scope : node_of levels (suc (length (floor_of up))) ≡ s = ap (λ n. node_of levels (suc n)) (length-floor up)
    ∙ scope_down levels s w up c.down c.on in
    let off_next : is_on (way_of up) next
    ≡ false = off_way next up (let z = free.fresh next (omega arith) in let y = part_counts next levels s in let x : count_around
    next up + 0 ≤ count_around next (levels_down levels s) = subst (λ d. count_around next up + 0 ≤ count_around next d)
    (sym c.down) (omega arith) in omega (arith, x, y, z)) in
    let names : by_nodes (node_of levels) (by_heights up f.items) ≡ f.items = names_above levels s w up f.items c.down asked in
    let marks : MarksCaught (with_catch w.number false (dormant_on up)) f.items
    → MarksCaught (with_catch next false (with_catch w.number false (dormant_on up))) (by_nodes (node_of levels) g.items) = λ k.
    subst (λ items. MarksCaught (with_catch next false (with_catch w.number false (dormant_on up)))
    (by_nodes (node_of levels) items)) (sym is)
    (marks_resolved _ (node_of levels) o (GoalItem (call_of r) (length (floor_of up)) ∷ by_heights up f.items)
    (subst (MarksCaught (with_catch next false (with_catch w.number false (dormant_on up)))) (sym names)
    (marks_other _ next false (way_of up) f.items (off_numbers (way_of up) next off_next) asked.scoped k))) in
    let woken = wake_caught next w up l.below (ball_credit s levels (credit_of 1)) c.sleeper.spent (CatchEntry c.catcher r f) e
    c.sleeper.right (l.first first w.spent w.right)
    (records_at w up s levels status (catch_no_side w up around c.catcher r f c.sleeper) c.down records) (λ k. tt) marks root in
    subst (λ n. IsCaughtRoot (ball_closes next n levels (credit_of 1) e).root) (sym scope)
    (subst (λ x. IsCaughtRoot x.root) (sym (l.ball_closes ∙ ap (λ d. wakes_in next d (ball_credit s levels (credit_of 1)) e) c.down)) woken)

-- a ball that nothing takes
pub lost_caught : (next : ℕ) (levels : List Level) (status : Status) (b : Option Term) → IsAround levels IsOpen → IsFree next levels
    → ((sp : ℕ) (others : Alternatives) → catch_right (alternative sp status others) ≡ false)
    → AreClear (levels_below (Some (query_node levels)) levels) → QueryAt levels → IsCaughtRoot (plug levels status)
    → IsCaughtRoot (ball_closes next (query_node levels) levels (credit_of 1) (EndEntry b)).root
lost_caught next levels status b a free first clear q h =
    let s = query_node levels in
    let e = EndEntry b in
    let l = ball_closes_at next s levels status (credit_of 1) e in
    let root : IsCaughtRoot (plug (q.level ∷ q.above) l.below) = subst (λ d. IsCaughtRoot (plug d l.below)) q.down
    (subst IsCaughtRoot l.inside h) in
    let records = ball_credit_under s levels status (credit_of 1) clear (subst FirstShut (sym q.down) q.end.left) h.caught (inl refl) in
    let woken = wake_caught next q.level q.above l.below (ball_credit s levels (credit_of 1)) q.end.spent
    (EndEntry q.end.ball) e q.end.right
    (l.first first q.level.spent q.level.right)
    (records_at q.level q.above s levels status (query_no_side q.level q.query) q.down records) (λ k. k) (λ k. tt) root in
    subst (λ g. IsCaughtRoot g.root) (sym (l.ball_closes ∙ ap (λ d. wakes_in next d (ball_credit s levels (credit_of 1)) e) q.down)) woken
