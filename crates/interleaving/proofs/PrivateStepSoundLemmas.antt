-- One private step keeps its entries on their ways.
use Rattle.std.proofs.Common.{◌≡◌, ℕ, zero, suc, ◌+◌, ◌-◌, ◌==◌, Bool, true, false, cond, List, [], ◌∷◌, ◌++◌, length, take, Option, Some}
use Rattle.std.proofs.Common.{None, refl, sym, ap, ◌∙◌, subst, arith}
use Rattle.std.specs.Prelude.{codes, nat_lt}
use Rattle.std.proofs.lemmas.List.{length-append}
use Rattle.au_term.specs.Term.{Term}
use Rattle.au_model.specs.Terms.Forms.{binary, list_term}
use Rattle.run_model.specs.Programs.Clauses.{Clause}
use Rattle.run_model.specs.Goals.Outcomes.{Outcome, Replies, Controls, AskWorld}
use Rattle.run_model.specs.Goals.GoalOutcomes.{outcome_of}
use Rattle.run_model.specs.Machine.Items.{Item, GoalItem, CatchMark, CollectMark, RemovalItem, Continuation, with_items, without_marks}
use Rattle.run_model.specs.Machine.Entries.{Entry, PlainEntry, CatchEntry, FindallEntry, EndEntry, with_result, collected}
use Rattle.tree_model.specs.Nodes.{Gate}
use Rattle.tree_model.specs.Levels.{Level}
use Rattle.tree_model.specs.Floors.{floor_of}
use Rattle.tree_model.specs.Gates.{goal_gate, item_gate}
use Rattle.tree_model.specs.PrivateRuns.{own_free_step, own_free_steps, own_at_rest, own_part, goal_alone, item_alone, if_no_gate}
use Rattle.tree_model.specs.PrivateRuns.{own_after, one_more}
use Rattle.tree_model.specs.Shapes.{guard_kind}
use Rattle.tree_model.specs.PendingLists.{Way}
use Rattle.tree_model.specs.Ways.{IsAsked}
use Rattle.interleaving.proofs.EntryLemmas.{length-floor}
use Rattle.interleaving.proofs.CollapseLemmas.{as_scopes}
use Rattle.interleaving.proofs.StackLemmas.{counted_path, entry_step, stack_way, counted_stack, IsOver, AreOver, marks_scopes, top_goals}
use Rattle.interleaving.proofs.PrivateSoundLemmas.{IsOwn, IsFloor, stack_length, IsGoal, form_own, reply_own}
use Rattle.run_model.proofs.FreeStepLemmas.{length-collected}

goal_own : (w : Way) (floor es : List Entry) (o : Outcome) (h : ℕ) (f : Continuation ℕ) → IsFloor w floor → IsGoal w es h f.items
    → (levels : List Level) → length levels ≡ length floor → goal_gate levels o h f (es ++ floor) ≡ None
    → IsOwn w floor (goal_alone o h f (es ++ floor))
goal_own w floor es (Replies r) h f k g levels l q = reply_own w floor es r h f k g levels l q
goal_own w floor es (Controls o) h f k g levels l q = form_own w floor es o h f k g levels l q
goal_own w floor es (AskWorld goal) h f k g levels l q = let no_way : ⊥ = cc in absurd no_way

-- the free steps
with_result_over : (way : Way) (t : Term) (e : Entry) → IsOver way e → IsOver way (with_result t e)
with_result_over way t (PlainEntry f) h = h
with_result_over way t (CatchEntry c r f) h = h
with_result_over way t (FindallEntry results l f) h = record { asked = h.asked; scoped = h.scoped }
with_result_over way t (EndEntry b) h = h

with_result_kind : (t : Term) (e : Entry) → guard_kind (with_result t e ∷ []) ≡ guard_kind (e ∷ [])
with_result_kind t (PlainEntry f) = refl
with_result_kind t (CatchEntry c r f) = refl
with_result_kind t (FindallEntry results l f) = refl
with_result_kind t (EndEntry b) = refl

collected_way : (h : ℕ) (t : Term) (es : List Entry) (w : Way) → stack_way (collected h t es) w ≡ stack_way es w
collected_way h t [] w = refl
collected_way h t (e ∷ es) w = go (length es == h) (collected_way h t es w)
  where
    go : (b : Bool) → stack_way (collected h t es) w ≡ stack_way es w → stack_way (cond b (with_result t e ∷ es) (e ∷ collected h t es))
        w ≡ stack_way (e ∷ es) w
    go true k = ap (λ kind. record { node = suc (length es + length w); index = 0; kind = kind } ∷ stack_way es w) (with_result_kind t e)
    go false k =
        let lengths : length (collected h t es) ≡ length es = length-collected h t es in
        ap (λ n. entry_step e (n + length w) ∷ stack_way (collected h t es) w) lengths
        ∙ ap (λ way. entry_step e (length es + length w) ∷ way) k

collected_over : (w : Way) (h : ℕ) (t : Term) (es : List Entry) → AreOver w es → AreOver w (collected h t es)
collected_over w h t [] o = o
collected_over w h t (e ∷ es) o = go (length es == h) (collected_over w h t es o.1)
  where
    go : (b : Bool) → AreOver w (collected h t es) → AreOver w (cond b (with_result t e ∷ es) (e ∷ collected h t es))
    go true k = (with_result_over (stack_way es w) t e o.0, o.1)
    go false k = (subst (λ way. IsOver way e) (sym (collected_way h t es w)) o.0, k)

plain_step_over : (w : Way) (floor es : List Entry) (items : List (Item ℕ)) (f : Continuation ℕ) (go : List Entry → List Entry)
    → IsAsked (stack_way es w) (as_scopes items) → AreOver w es → ((ds : List Entry) → AreOver w ds → AreOver w (go ds))
    → AreOver w (own_free_step items f es floor go)
plain_step_over w floor es [] f go i o g = (i, o)
plain_step_over w floor es (GoalItem t h ∷ items) f go i o g = (i, o)
plain_step_over w floor es (CatchMark h ∷ items) f go i o g = (i, o)
plain_step_over w floor es (RemovalItem number ∷ items) f go i o g = (i, o)
plain_step_over w floor es (CollectMark t h ∷ items) f go i o g = pick (nat_lt h (length floor))
  where
    pick : (b : Bool) → AreOver w (cond b (PlainEntry (with_items (CollectMark t h ∷ items) f) ∷ es)
        (go (collected (h - length floor) t es)))
    pick true = (i, o)
    pick false = g (collected (h - length floor) t es) (collected_over w (h - length floor) t es o)

pub free_steps_over : (w : Way) (floor : List Entry) → IsFloor w floor → (k : ℕ) (es : List Entry) → AreOver w es
    → AreOver w (own_free_steps floor k es)
free_steps_over w floor c zero es o = o
free_steps_over w floor c (suc k) [] o = tt
free_steps_over w floor c (suc k) (CatchEntry x r f ∷ es) o = free_steps_over w floor c k es o.1
free_steps_over w floor c (suc k) (FindallEntry results l f ∷ es) o = (
  record {
    asked = o.0.asked;
    scoped = top_goals (stack_way es w) (length (es ++ floor)) (counted_stack es w c.counted)
        (stack_length w floor es c) o.0.asked (binary (codes "=") l (list_term results) ∷ []) f.items o.0.scoped;
  },
  o.1,
)
free_steps_over w floor c (suc k) (PlainEntry f ∷ es) o =
    plain_step_over w floor es (without_marks f.items) f (own_free_steps floor k)
    (record {
      asked = o.0.asked;
      scoped = marks_scopes (stack_way es w) f.items
          (counted_path (stack_way es w) (counted_stack es w c.counted)) o.0.scoped;
    }) o.1 (free_steps_over w floor c k)
free_steps_over w floor c (suc k) (EndEntry b ∷ es) o = o

-- the own part of a stack
take-own : (xs ys : List Entry) → take (length xs) (xs ++ ys) ≡ xs
take-own [] ys = refl
take-own (x ∷ xs) ys = ap (λ l. x ∷ l) (take-own xs ys)

own_part-join : (floor xs : List Entry) → own_part floor (xs ++ floor) ≡ xs
own_part-join floor xs =
    let n : length (xs ++ floor) - length floor ≡ length xs = omega (arith, length-append xs floor) in
    ap (λ m. take m (xs ++ floor)) n ∙ take-own xs floor

-- one more inference
after_over : (w : Way) (floor result es : List Entry) → IsFloor w floor → IsOwn w floor result → own_after floor (Some result) ≡ Some es
    → AreOver w es
after_over w floor result es k o e =
    let own : own_part floor result ≡ o.own = ap (own_part floor) o.joined ∙ own_part-join floor o.own in
    let same : own_at_rest floor (own_part floor result) ≡ es = some_same e in
    subst (AreOver w) same (subst (λ xs. AreOver w (own_at_rest floor xs)) (sym own) (free_steps_over w floor k (length o.own) o.own o.over))
  where
    some_same : {a b : List Entry} → Some a ≡ Some b → a ≡ b
    some_same h = cc

item_over : (clauses : List Clause) (levels : List Level) (w : Way) (floor es : List Entry) (items : List (Item ℕ)) (f : Continuation ℕ)
    → IsFloor w floor → length levels ≡ length floor → IsAsked (stack_way es w) (as_scopes items) → AreOver w es → (ds : List Entry) →
    own_after floor (if_no_gate (item_gate clauses levels items f (es ++ floor)) (item_alone clauses items f (es ++ floor))) ≡ Some ds
    → AreOver w ds
item_over clauses levels w floor es [] f k l i o ds e = let no_way : ⊥ = cc in absurd no_way
item_over clauses levels w floor es (CatchMark h ∷ items) f k l i o ds e = let no_way : ⊥ = cc in absurd no_way
item_over clauses levels w floor es (CollectMark t h ∷ items) f k l i o ds e = let no_way : ⊥ = cc in absurd no_way
item_over clauses levels w floor es (RemovalItem number ∷ items) f k l i o ds e = let no_way : ⊥ = cc in absurd no_way
item_over clauses levels w floor es (GoalItem t h ∷ items) f k l i o ds e = go
    (goal_gate levels (outcome_of clauses t f.next) h (with_items items f) (es ++ floor)) refl e
  where
    goal : IsGoal w es h (with_items items f).items
    goal = record { asked = i.asked; reach = i.scoped.0; rest = i.scoped.1; over = o }

    go : (g : Option Gate) → goal_gate levels (outcome_of clauses t f.next) h (with_items items f) (es ++ floor) ≡ g
        → own_after floor (if_no_gate g (Some (goal_alone (outcome_of clauses t f.next) h (with_items items f) (es ++ floor))))
        ≡ Some ds → AreOver w ds
    go (Some g) q z = let no_way : ⊥ = cc in absurd no_way
    go None q z = after_over w floor (goal_alone (outcome_of clauses t f.next) h (with_items items f) (es ++ floor)) ds k
        (goal_own w floor es (outcome_of clauses t f.next) h (with_items items f) k goal levels l q) z

pub one_more_over : (clauses : List Clause) (levels : List Level) (w : Way) (es ds : List Entry) → IsFloor w (floor_of levels)
    → AreOver w es → one_more clauses levels es ≡ Some ds → AreOver w ds
one_more_over clauses levels w [] ds k o e = let no_way : ⊥ = cc in absurd no_way
one_more_over clauses levels w (CatchEntry c r f ∷ es) ds k o e = let no_way : ⊥ = cc in absurd no_way
one_more_over clauses levels w (FindallEntry results l f ∷ es) ds k o e = let no_way : ⊥ = cc in absurd no_way
one_more_over clauses levels w (EndEntry b ∷ es) ds k o e = let no_way : ⊥ = cc in absurd no_way
one_more_over clauses levels w (PlainEntry f ∷ es) ds k o e =
    item_over clauses levels w (floor_of levels) es (without_marks f.items) f k (sym (length-floor levels))
    (record {
      asked = o.0.asked;
      scoped = marks_scopes (stack_way es w) f.items
          (counted_path (stack_way es w) (counted_stack es w k.counted)) o.0.scoped;
    }) o.1 ds e
