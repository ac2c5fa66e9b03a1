-- The tree after a run was answered at once.
use Rattle.std.proofs.Common.{◌≡◌, ◌≤◌, ◌<◌, ℕ, ◌+◌, ◌-◌, Bool, true, false, cond, List, [], ◌∷◌, ◌++◌, length, Option, Some, None, refl, sym, ap, ◌∙◌, subst, arith}
use Rattle.std.specs.Prelude.{◌&&◌, not, is_none, nat_lt, find}
use Rattle.std.proofs.lemmas.Bool.Decides.{nat_tests}
use Rattle.std.proofs.lemmas.Simd.{splat_is_map}
use Rattle.au_term.proofs.LogicLemmas.{both, number_same, same_number}
use Rattle.au_model.specs.Terms.Each.{Each}
use Rattle.au_model.specs.Terms.Named.{NamedTerm}
use Rattle.au_model.specs.Writing.Lines.{answer_line}
use Rattle.answered_runs.specs.AnswersAtOnce.{AnswersCloseAtOnce, RunsToAnswer, answer_events, answer_shape, answered_at_once}
use Rattle.interleaving.proofs.AppendLemmas.{found}
use Rattle.interleaving.proofs.PluggedLemmas.{IsIn, all_in}
use Rattle.interleaving.proofs.UnchangedPlaceLemmas.{same_place-is}
use Rattle.public_tree.specs.Answering.{is_first_at}
use Rattle.public_tree.specs.AnsweringAtOnce.{answer_sizes, lasts, lasts_at, run_answering, run_events}
use Rattle.public_tree.specs.PublicTrees.{is_going}
use Rattle.public_tree.proofs.HandOutLemmas.{taken_place}
use Rattle.public_tree.proofs.PruningLemmas.{table_out}
use Rattle.public_tree.specs.declared.answering_at_once.RunAnswering.{RunAnswering}
use Rattle.public_tree.specs.declared.answering_at_once.RunAnswering.TheVariants.{Taken, NotLeftmost, HasEnded, OverBudget}
use Rattle.run_model.specs.Goals.Worlds.{World, writes}
use Rattle.run_model.specs.Machine.Entries.{Entry}
use Rattle.run_model.specs.declared.ending.RunEnding.{RunEnding}
use Rattle.tree_core.specs.Histories.{History, state_of, with_events}
use Rattle.tree_core.specs.Turns.{where_taken}
use Rattle.tree_model.specs.Effects.{after_event}
use Rattle.tree_model.specs.Events.{Event, Claim, Nodes, Answer}
use Rattle.tree_model.specs.Histories.{after_events}
use Rattle.tree_model.specs.Legality.{is_spot_at, is_taken_by, taken_at}
use Rattle.tree_model.specs.LegalTrees.{IsLegalTree}
use Rattle.tree_model.specs.Levels.{Place, same_place, Spot, levels_of, place_of_spot}
use Rattle.tree_model.specs.Nodes.{Hold, Ready, TakenBy, Waiting, Dormant, Pending}
use Rattle.tree_model.specs.Orders.{clock_of}
use Rattle.tree_model.specs.TreeStates.{TreeState, ended, first_spot, leftmost, opening_tree, pending_spots}
use Rattle.tree_nodes.specs.Bodies.{Reading}
use Rattle.tree_nodes.specs.Rows.{AlternativeCell, PendingCell, InnerCell, ClosedCell, cell_at}
use Rattle.tree_nodes.specs.TreeTables.{NodesView, IsTableOf}
use Rattle.tree_nodes.proofs.WalkLemmas.{cell_here}
use Rattle.answered_tasks.specs.AnsweredTasks.{AnswersAlone}

lt_by : (m n : ℕ) → nat_lt m n ≡ true → m < n
lt_by m n h = grind (arith, nat_tests)

-- what a run that may be taken tells
record MayAnswer (going first lasting : Bool) : Type 0 where
  goes : going ≡ true
  leads : first ≡ true
  lasts_so : lasting ≡ true

may_answer : (g f l : Bool) → cond g (cond f (cond l Taken OverBudget) NotLeftmost) HasEnded ≡ Taken → MayAnswer g f l
may_answer true true true h = record { goes = refl; leads = refl; lasts_so = refl }
may_answer true true false h = absurd cc
may_answer true false l h = absurd cc
may_answer false f l h = absurd cc

going_parts : (stopped : Bool) (end : Option RunEnding) → (not stopped && is_none end) ≡ true → (stopped ≡ false) × (end ≡ None)
going_parts true end h = absurd cc
going_parts false None h = (refl, refl)
going_parts false (Some e) h = absurd cc

after_more : (t : TreeState) (es more : List Event) → after_events t (es ++ more) ≡ after_events (after_events t es) more
after_more t [] more = refl
after_more t (e ∷ es) more = after_more (after_event t e) es more

-- the shape of an answer by the number of recoveries
shape_is : (over : List Entry) → answer_sizes (length over) ≡ answer_shape over
shape_is [] = refl
shape_is (r ∷ over) = ap (λ ns. 2 ∷ ns) (splat_is_map over (length over) 2 refl)

events_are : (next w : ℕ) (a : Place) (k : ℕ) (over : List Entry) (recoveries : ℕ) → length over ≡ recoveries → run_events next w a k recoveries ≡ answer_events next w a k over
events_are next w a k over recoveries many =
    ap (run_events next w a k) (sym many)
    ∙ ap
    (λ (sizes : List ℕ).
    (let leaf : Place = record { node = (next + length sizes) - 1; index = 0 } in
    let es : List Event = Nodes w a k sizes ∷ Claim w leaf ∷ Answer w leaf false ∷ [] in
    es))
    (shape_is over)

-- what a taken run notes
pub taken_noted : (h new : History) (w : ℕ) (a : Place) (k recoveries : ℕ) (r : RunAnswering) → run_answering a k (state_of h) ≡ Taken → r ≡ run_answering a k (state_of h)
    → new ≡ where_taken r (run_events (state_of h).next w a k recoveries) h → new ≡ with_events (run_events (state_of h).next w a k recoveries) h
taken_noted h new w a k recoveries r may is noted =
    noted ∙ ap (λ (x : RunAnswering). where_taken x (run_events (state_of h).next w a k recoveries) h) (is ∙ may)

abbrev hold_in : Hold → AlternativeCell → Hold
hold_in other (PendingCell hold) = hold
hold_in other (InnerCell n) = other
hold_in other (ClosedCell credit) = other

abbrev hold_at : Hold → Option (ℕ × AlternativeCell) → Hold
hold_at other None = other
hold_at other (Some c) = hold_in other c.1

same_hold : (m n : ℕ) (x y : Hold) → ◌≡◌ {A = Option (ℕ × AlternativeCell)} (Some (m, PendingCell x)) (Some (n, PendingCell y)) → x ≡ y
same_hold m n x y e = ap (hold_at x) e

taken_hold : (w : ℕ) (hold : Hold) → is_taken_by w hold ≡ true → hold ≡ TakenBy w
taken_hold w (TakenBy v) e = ap TakenBy (sym (same_number w v e))
taken_hold w Ready e = absurd (cc e)
taken_hold w (Waiting g) e = absurd (cc e)
taken_hold w Dormant e = absurd (cc e)

hold_out : (w : ℕ) (a : Place) (t : TreeState) (s : Spot) → taken_at w a t ≡ Some s → s.hold ≡ TakenBy w
hold_out w a t s e =
    let spot = found (IsIn t.root) (λ r. is_taken_by w r.hold && same_place a (place_of_spot r)) (pending_spots t) s (all_in t.root) e in
    taken_hold w s.hold (both (is_taken_by w s.hold) (same_place a (place_of_spot s)) spot.passes).0

-- what is out to a worker, where the leftmost entry is, is that one
taken_first : (nodes : NodesView) (read : Reading) (t : TreeState) (w : ℕ) (a : Place) (s : Spot) → IsTableOf nodes read t.root → taken_at w a t ≡ Some s
    → is_first_at a t ≡ true → leftmost t ≡ Some s
taken_first nodes read t w a s placed e f = by_spots (pending_spots t) refl
  where
    by_spots : (spots : List Spot) → pending_spots t ≡ spots → leftmost t ≡ Some s
    by_spots [] q = absurd (let z = ap (λ (x : List Spot). is_spot_at a (first_spot x)) (sym q) ∙ f in cc z)
    by_spots (r ∷ spots) q =
        let at : same_place a (place_of_spot r) ≡ true = ap (λ (x : List Spot). is_spot_at a (first_spot x)) (sym q) ∙ f in
        let inside = (subst (Each (IsIn t.root)) q (all_in t.root)).0 in
        let here = cell_here nodes read r.level r.above (Pending r.hold r.entry) (subst (IsTableOf nodes read) (sym inside) placed) in
        let there = cell_here nodes read s.level s.above (Pending s.hold s.entry) (table_out nodes w a read t s placed e) in
        let places : place_of_spot r ≡ place_of_spot s = sym (same_place-is a (place_of_spot r) at) ∙ sym (taken_place w a t s e) in
        let hold : r.hold ≡ TakenBy w
        = same_hold r.level.spent s.level.spent r.hold s.hold (sym here ∙ (ap (cell_at nodes.rows) places ∙ there)) ∙ hold_out w a t s e in
        let passes : (is_taken_by w r.hold && same_place a (place_of_spot r)) ≡ true
        = ap (λ (x : Hold). is_taken_by w x && same_place a (place_of_spot r)) hold
        ∙ (ap (λ (b : Bool). b && same_place a (place_of_spot r)) (number_same w) ∙ at) in
        let first : taken_at w a t ≡ Some r
        = ap (find (λ x. is_taken_by w x.hold && same_place a (place_of_spot x))) q
        ∙ ap (λ (b : Bool). cond b (Some r) (find (λ x. is_taken_by w x.hold && same_place a (place_of_spot x)) spots)) passes in
        ap first_spot q ∙ (sym first ∙ e)

module _ (nodes : NodesView) (read : Reading) (h new : History) (placed : IsTableOf nodes read (state_of h).root) (w : ℕ) (a : Place) (k recoveries : ℕ) (legal : IsLegalTree (state_of h)) (may : run_answering a k (state_of h) ≡ Taken) (some : 1 ≤ k)
    (named : List NamedTerm) (s : Spot) (taken : taken_at w a (state_of h) ≡ Some s) (alone : AnswersAlone (state_of h) s k recoveries named)
    (law : AnswersCloseAtOnce) (noted : new ≡ with_events (run_events (state_of h).next w a k recoveries) h) where
  abbrev t : TreeState
  t = state_of h

  may_be : MayAnswer (is_going t) (is_first_at a t) (lasts k t)
  may_be = may_answer (is_going t) (is_first_at a t) (lasts k t) may

  first : leftmost t ≡ Some s
  first = taken_first nodes read t w a s placed taken may_be.leads

  runs : RunsToAnswer t w a k s alone.runs.answer alone.runs.over
  runs = record {
    out = taken;
    first = first;
    some = some;
    run = alone.runs.run;
    answers = alone.runs.answers;
    spent = alone.runs.spent;
    running = (going_parts t.stopped (ended t) may_be.goes).0;
    going = (going_parts t.stopped (ended t) may_be.goes).1;
    lasts = lt_by (clock_of (levels_of s) + k) t.budget (ap (lasts_at k t.budget) (sym first) ∙ may_be.lasts_so);
  }

  state_after : state_of new ≡ answered_at_once t w a k s alone.runs.answer alone.runs.over
  state_after =
      ap state_of noted
      ∙ after_more (opening_tree h.job h.budget h.window) h.events (run_events t.next w a k recoveries)
      ∙ ap (after_events t) (events_are t.next w a k alone.runs.over recoveries alone.runs.many)
      ∙ law t w a k s alone.runs.answer alone.runs.over legal.sound legal.caught runs

  -- the world has the line of the answer, and no query was opened
  pub answered_queries : (state_of new).queries ≡ t.queries
  answered_queries = ap (λ (x : TreeState). x.queries) state_after

  pub answered_world : (before after : World) → before ≡ t.world → after ≡ writes (answer_line before.operators named) before → after ≡ (state_of new).world
  answered_world before after same written =
      written
      ∙ ap (λ (x : World). writes (answer_line x.operators named) x) same
      ∙ ap (λ (vs : List NamedTerm). writes (answer_line t.world.operators vs) t.world) (sym alone.named_are)
      ∙ ap (λ (x : TreeState). x.world) (sym state_after)
