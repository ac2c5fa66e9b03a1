-- The next variable number never falls along a private run.
use Rattle.std.proofs.Common.{◌≡◌, ℕ, zero, suc, ◌-◌, ◌+◌, ◌≤◌, ◌<◌, ◌==◌, Bool, true, false, cond, List, [], ◌∷◌, ◌++◌, map, length, take, drop, Option, Some, None, refl, sym, ap, ◌∙◌, subst, arith}
use Rattle.std.specs.Prelude.{nat_lt}
use Rattle.std.proofs.lemmas.List.{append-nil}
use Rattle.au_term.specs.Term.{Term}
use Rattle.au_term.proofs.LogicLemmas.{less}
use Rattle.au_model.specs.Terms.Each.{Each}
use Rattle.au_model.specs.Terms.Substitutions.{Substitution}
use Rattle.au_model.specs.Terms.Unifier.{unifier}
use Rattle.au_model.proofs.EachLemmas.{IfFound, each-append, each-drop}
use Rattle.run_model.specs.Programs.Clauses.{Clause}
use Rattle.run_model.specs.Goals.Outcomes.{Solution, Solutions, Ball, HaltNumber, Reply, ControlForm, GoesOnWith, EitherOf, TestOf, CutToScope, CatchOf, FindallOf, Outcome, Replies, Controls, AskWorld}
use Rattle.run_model.specs.Goals.GoalOutcomes.{outcome_of}
use Rattle.run_model.specs.Machine.Items.{Item, GoalItem, CatchMark, CollectMark, RemovalItem, Continuation, before, with_items, with_next, without_marks, goals_at, removing, first_mark}
use Rattle.run_model.specs.Machine.Entries.{Entry, PlainEntry, CatchEntry, FindallEntry, EndEntry, unified, solution_entry, solution_entries, with_result, collected}
use Rattle.run_model.specs.Machine.Balls.{taken_by, next_mark, recovered, unwound}
use Rattle.run_model.specs.Machine.FreeSteps.{HaveNoMarkFirst}
use Rattle.run_model.specs.Machine.Heights.{after_reply, after_control}
use Rattle.tree_model.specs.Nodes.{Gate}
use Rattle.tree_model.specs.Levels.{Level}
use Rattle.tree_model.specs.Floors.{floor_of}
use Rattle.tree_model.specs.Gates.{gate_on}
use Rattle.tree_model.specs.PrivateRuns.{own_free_step, own_free_steps, own_at_rest, own_part, goal_alone, item_alone, taken_alone, if_no_gate, own_after, one_more, if_any, private_run}
use Rattle.region_floor.specs.Deferred.{deferred_now, joined_items, joined_continuation, joined_entry}
use Rattle.region_floor.specs.BareFloors.{AreOwn, AreOwnItems, IsOuterMark, true_rest}
use Rattle.region_floor.specs.NextNumbers.{NumbersFrom, NextNeverFalls}
use Rattle.region_floor.proofs.FloorSizeLemmas.{floor-size}
use Rattle.region_floor.proofs.OwnBallLemmas.{now-outer}
use Rattle.region_floor.proofs.RunLemmas.{tops_are_own}

-- so do the entries from a height on
abbrev NumberAbove : ℕ → ℕ → List Entry → Type 0
NumberAbove n m [] = Unit {0}
NumberAbove n m (e ∷ es) = (m ≤ length es → NumbersFrom n e) × NumberAbove n m es

-- the first item is no result for an own findall
abbrev IsOuterFirst : ℕ → List (Item ℕ) → Type 0
IsOuterFirst m [] = Unit {0}
IsOuterFirst m (GoalItem t h ∷ items) = Unit {0}
IsOuterFirst m (CatchMark h ∷ items) = Unit {0}
IsOuterFirst m (CollectMark t h ∷ items) = h < m
IsOuterFirst m (RemovalItem number ∷ items) = Unit {0}

first-outer : (m : ℕ) (items : List (Item ℕ)) → Each (IsOuterMark m) items → IsOuterFirst m (without_marks items)
first-outer m [] h = tt
first-outer m (GoalItem t k ∷ items) h = tt
first-outer m (CatchMark k ∷ items) h = first-outer m items h.1
first-outer m (CollectMark t k ∷ items) h = h.0
first-outer m (RemovalItem k ∷ items) h = tt

module _ (n : ℕ) where
  abbrev From : Entry → Type 0
  From e = NumbersFrom n e

  -- free steps
  result-from : (t : Term) (e : Entry) → From e → From (with_result t e)
  result-from t (PlainEntry f) h = h
  result-from t (CatchEntry c r f) h = h
  result-from t (FindallEntry results l f) h = omega (arith, h)
  result-from t (EndEntry b) h = h

  collected-from : (k : ℕ) (t : Term) (es : List Entry) → Each From es → Each From (collected k t es)
  collected-from k t [] h = tt
  collected-from k t (e ∷ es) h = go (length es == k) (result-from t e h.0) (collected-from k t es h.1)
    where
      go : (b : Bool) → From (with_result t e) → Each From (collected k t es) → Each From (cond b (with_result t e ∷ es) (e ∷ collected k t es))
      go true p q = (p, h.1)
      go false p q = (h.0, q)

  step-from : (js : List (Item ℕ)) (f : Continuation ℕ) (es floor : List Entry) (go : List Entry → List Entry) → Each From (PlainEntry f ∷ es)
      → ((xs : List Entry) → Each From xs → Each From (go xs)) → Each From (own_free_step js f es floor go)
  step-from [] f es floor go h g = h
  step-from (GoalItem t k ∷ js) f es floor go h g = h
  step-from (CatchMark k ∷ js) f es floor go h g = h
  step-from (RemovalItem k ∷ js) f es floor go h g = h
  step-from (CollectMark t k ∷ js) f es floor go h g = by_test (nat_lt k (length floor))
    where
      by_test : (b : Bool)
          → Each From (cond b (PlainEntry (with_items (CollectMark t k ∷ js) f) ∷ es) (go (collected (k - length floor) t es)))
      by_test true = h
      by_test false = g (collected (k - length floor) t es) (collected-from (k - length floor) t es h.1)

  steps-from : (floor : List Entry) (k : ℕ) (es : List Entry) → Each From es → Each From (own_free_steps floor k es)
  steps-from floor zero es h = h
  steps-from floor (suc k) [] h = tt
  steps-from floor (suc k) (CatchEntry c r f ∷ es) h = steps-from floor k es h.1
  steps-from floor (suc k) (FindallEntry results l f ∷ es) h = h
  steps-from floor (suc k) (EndEntry b ∷ es) h = h
  steps-from floor (suc k) (PlainEntry f ∷ es) h =
      step-from (without_marks f.items) f es floor (own_free_steps floor k) h (λ xs g. steps-from floor k xs g)

  -- solutions
  unified-from : (o : Option Substitution) (f : Continuation ℕ) → n ≤ f.next → Each From (unified o f)
  unified-from None f h = tt
  unified-from (Some s) f h = (h, tt)

  solutions-from : (k : ℕ) (f : Continuation ℕ) (ss : List Solution) → n ≤ f.next → Each From (solution_entries k f ss)
  solutions-from k f [] h = tt
  solutions-from k f (s ∷ ss) h =
      each-append From (solution_entry k f s) (solution_entries k f ss)
      (unified-from (unifier s.equations) (with_next (f.next + s.variables) (before (goals_at k s.goals) (removing s.removes f))) (omega (arith, h)))
      (solutions-from k f ss h)

  module _ (m : ℕ) where
    abbrev Above : List Entry → Type 0
    Above es = NumberAbove n m es

    above-append : (xs es : List Entry) → Each From xs → Above es → Above (xs ++ es)
    above-append [] es h a = a
    above-append (x ∷ xs) es h a = (λ l. h.0, above-append xs es h.1 a)

    above-drop : (k : ℕ) (es : List Entry) → Above es → Above (drop k es)
    above-drop zero es a = a
    above-drop (suc k) [] a = a
    above-drop (suc k) (e ∷ es) a = above-drop k es a.1

    above-short : (es : List Entry) → length es ≤ m → Above es
    above-short [] l = tt
    above-short (e ∷ es) l = (λ k. absurd (omega (arith, l, k)), above-short es (omega (arith, l)))

    part-from : (es : List Entry) → Above es → Each From (take (length es - m) es)
    part-from [] a = each-none (0 - m)
      where
        each-none : (k : ℕ) → Each From (take k [])
        each-none zero = tt
        each-none (suc k) = tt
    part-from (e ∷ es) a = go (suc (length es) - m) refl (part-from es a.1)
      where
        go : (k : ℕ) → suc (length es) - m ≡ k → Each From (take (length es - m) es) → Each From (take k (e ∷ es))
        go zero q h = tt
        go (suc k) q h = (a.0 (omega (arith, q)), subst (λ j. Each From (take j es)) (omega (arith, q)) h)

    -- what takes the place of a goal
    recovered-above : (o : Option Substitution) (b r : Term) (f : Continuation ℕ) (es further : List Entry) → (m ≤ length es → n ≤ f.next) → Above es
        → Above further → Above (recovered o b r f es further)
    recovered-above None b r f es further h a g = g
    recovered-above (Some s) b r f es further h a g = (λ l. let low = h l in omega (arith, low), a)

    unwound-above : (b : Term) (mark : Option ℕ) (es : List Entry) → Above es → Above (unwound b mark es)
    unwound-above b mark [] a = (λ l. tt, tt)
    unwound-above b mark (PlainEntry f ∷ es) a = unwound-above b mark es a.1
    unwound-above b mark (FindallEntry results l f ∷ es) a = unwound-above b mark es a.1
    unwound-above b mark (EndEntry e ∷ es) a = unwound-above b mark es a.1
    unwound-above b mark (CatchEntry c r f ∷ es) a =
        recovered-above (taken_by mark (length es) b c f) b r f es (unwound b (next_mark mark (length es) f) es) a.0 a.1
        (unwound-above b (next_mark mark (length es) f) es a.1)

    reply-above : (r : Reply) (f : Continuation ℕ) (es : List Entry) → n ≤ f.next → Above es → Above (after_reply r f es)
    reply-above (Solutions ss) f es h a = above-append (solution_entries (length es) f ss) es (solutions-from (length es) f ss h) a
    reply-above (Ball b) f es h a = unwound-above b (first_mark f.items) es a
    reply-above (HaltNumber k) f es h a = tt

    control-above : (form : ControlForm) (k : ℕ) (f : Continuation ℕ) (es : List Entry) → n ≤ f.next → Above es → Above (after_control form k f es)
    control-above (GoesOnWith gs) k f es h a = (λ l. h, a)
    control-above (EitherOf gs others) k f es h a = (λ l. h, (λ l. h, a))
    control-above (TestOf gs thens others) k f es h a = (λ l. h, (λ l. h, a))
    control-above CutToScope k f es h a = (λ l. h, above-drop (length es - k) es a)
    control-above (CatchOf goal c r) k f es h a = (λ l. h, (λ l. h, a))
    control-above (FindallOf t goal l) k f es h a = (λ l. h, (λ l. h, a))

    alone-above : (o : Outcome) (k : ℕ) (f : Continuation ℕ) (es : List Entry) → n ≤ f.next → Above es → Above (goal_alone o k f es)
    alone-above (Replies r) k f es h a = reply-above r f es h a
    alone-above (Controls form) k f es h a = control-above form k f es h a
    alone-above (AskWorld goal) k f es h a = tt

    item-above : (clauses : List Clause) (js : List (Item ℕ)) (f : Continuation ℕ) (es : List Entry) → n ≤ f.next → Above es
        → IfFound Above (item_alone clauses js f es)
    item-above clauses [] f es h a = tt
    item-above clauses (GoalItem g k ∷ js) f es h a = alone-above (outcome_of clauses g f.next) k (with_items js f) es h a
    item-above clauses (CatchMark k ∷ js) f es h a = tt
    item-above clauses (CollectMark t k ∷ js) f es h a = tt
    item-above clauses (RemovalItem k ∷ js) f es h a = tt

    taken-above : (clauses : List Clause) (e : Entry) (es : List Entry) → From e → Above es → IfFound Above (taken_alone clauses (e ∷ es))
    taken-above clauses (PlainEntry f) es h a = item-above clauses (without_marks f.items) f es h a
    taken-above clauses (CatchEntry c r f) es h a = tt
    taken-above clauses (FindallEntry results l f) es h a = tt
    taken-above clauses (EndEntry b) es h a = tt

  -- the run
  more-from : (clauses : List Clause) (levels : List Level) (es left : List Entry) → Each From es → one_more clauses levels es ≡ Some left
      → Each From left
  more-from clauses levels [] left h e = absurd cc
  more-from clauses levels (x ∷ es) left h e =
      let floor = floor_of levels in
      go (gate_on clauses levels (x ∷ es ++ floor)) (taken_alone clauses (x ∷ es ++ floor))
      (taken-above (length floor) clauses x (es ++ floor) h.0
      (above-append (length floor) es floor h.1 (above-short (length floor) floor (omega arith)))) e
    where
      go : (g : Option Gate) (t : Option (List Entry)) → IfFound (NumberAbove n (length (floor_of levels))) t
          → own_after (floor_of levels) (if_no_gate g t) ≡ Some left → Each From left
      go (Some g) t a q = absurd cc
      go None None a q = absurd cc
      go None (Some st) a q =
          let floor = floor_of levels in
          let same : own_at_rest floor (own_part floor st) ≡ left = cc in
          subst (Each From) same (steps-from floor (length (own_part floor st)) (own_part floor st) (part-from (length floor) st a))

  run-from : (clauses : List Clause) (levels : List Level) (e : Entry) (k : ℕ) (own : List Entry) → From e → private_run clauses levels e k ≡ Some own
      → Each From own
  unfolding private_run
  run-from clauses levels e zero own h q =
      let same : own_at_rest (floor_of levels) (e ∷ []) ≡ own = cc in subst (Each From) same (steps-from (floor_of levels) 1 (e ∷ []) (h, tt))
  run-from clauses levels e (suc k) own h q =
      go (private_run clauses levels e k) (λ es p. run-from clauses levels e k es h p) q
    where
      go : (o : Option (List Entry)) → ((es : List Entry) → o ≡ Some es → Each From es) → if_any o (one_more clauses levels) ≡ Some own
          → Each From own
      go None p q = absurd cc
      go (Some es) p q = more-from clauses levels es own (p es refl) q

  -- an entry that stays on top
  stays-from : (js : List (Item ℕ)) (f : Continuation ℕ) (es floor : List Entry) (go : List Entry → List Entry) → IsOuterFirst (length floor) js
      → Each From (own_free_step js f es floor go) → n ≤ f.next
  stays-from [] f es floor go o h = h.0
  stays-from (GoalItem t k ∷ js) f es floor go o h = h.0
  stays-from (CatchMark k ∷ js) f es floor go o h = h.0
  stays-from (RemovalItem k ∷ js) f es floor go o h = h.0
  stays-from (CollectMark t k ∷ js) f es floor go o h =
      (subst (λ b. Each From (cond b (PlainEntry (with_items (CollectMark t k ∷ js) f) ∷ es) (go (collected (k - length floor) t es))))
      (less k (length floor) o) h).0

joined-first : (m : ℕ) (now items : List (Item ℕ)) → Each (IsOuterMark m) now → AreOwnItems m items → HaveNoMarkFirst items
    → IsOuterFirst m (without_marks (joined_items now items))
joined-first m now [] outer o h = tt
joined-first m now (GoalItem t k ∷ items) outer o h = tt
joined-first m now (CatchMark k ∷ items) outer o h = absurd h
joined-first m now (CollectMark t k ∷ items) outer o h = absurd h
joined-first m now (RemovalItem k ∷ items) outer o h =
    subst (λ l. IsOuterFirst m (without_marks l)) (sym (ap (λ l. drop k now ++ joined_items now l) o ∙ append-nil (drop k now)))
    (first-outer m (drop k now) (each-drop (IsOuterMark m) k now outer))

pub next_never_falls : NextNeverFalls
next_never_falls r k n f es outer start first h =
    let d = r.deferred in
    let m = length r.levels in
    let floor = floor_of r.levels in
    let top = tops_are_own r.levels h.own f es (sym h.entries) in
    let rest = map (joined_entry d) top.below in
    let own : AreOwn m (PlainEntry f ∷ top.below) = subst (AreOwn m) top.own_is h.are_own in
    let now = deferred_now d f in
    let run = run-from n r.clauses r.levels r.entry k (true_rest d r.levels (PlainEntry f ∷ top.below)) start
    (h.run ∙ ap (λ l. Some (true_rest d r.levels l)) top.own_is) in
    stays-from n (without_marks (joined_items now f.items)) (joined_continuation d f) rest floor (own_free_steps floor (length rest))
    (subst (λ j. IsOuterFirst j (without_marks (joined_items now f.items))) (sym (floor-size r.levels))
    (joined-first m now f.items (now-outer m d.items (drop d.named f.named) outer) own.0 first)) run
