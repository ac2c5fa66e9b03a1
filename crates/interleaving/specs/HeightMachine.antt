-- The sequential machine with heights once more, with credits among its entries.
use Rattle.std.specs.Prelude.{ℕ, zero, suc, ◌+◌, ◌-◌, ◌==◌, cond, List, [], ◌∷◌, ◌++◌, map, length, drop, Option, Some, None, codes}
use Rattle.au_term.specs.Term.{Term}
use Rattle.run_model.specs.Programs.Bodies.{call_of}
use Rattle.au_model.specs.Terms.Substitutions.{Substitution}
use Rattle.au_model.specs.Terms.Copies.{copied, copy_takes}
use Rattle.run_model.specs.Programs.Clauses.{Clause}
use Rattle.run_model.specs.Programs.Databases.{Database, without_clause}
use Rattle.au_model.specs.Writing.Lines.{answer_line, end_line}
use Rattle.run_model.specs.Goals.Worlds.{World, world_step, writes}
use Rattle.run_model.specs.Goals.Outcomes.{Reply, Solutions, Ball, HaltNumber, ControlForm, GoesOnWith, EitherOf, TestOf, CutToScope}
use Rattle.run_model.specs.Goals.Outcomes.{CatchOf}
use Rattle.run_model.specs.Goals.Outcomes.{FindallOf, Outcome, Replies, Controls, AskWorld}
use Rattle.run_model.specs.Goals.GoalOutcomes.{outcome_of}
use Rattle.run_model.specs.Machine.Items.{Item, GoalItem, CatchMark, CollectMark, RemovalItem, Continuation, resolve_continuation}
use Rattle.run_model.specs.Machine.Items.{with_items}
use Rattle.run_model.specs.Machine.Items.{with_next, before, without_marks, first_mark}
use Rattle.run_model.specs.Machine.Entries.{Entry, PlainEntry, CatchEntry, FindallEntry, EndEntry, solution_entries, with_result}
use Rattle.run_model.specs.Machine.Balls.{taken_by, next_mark}
use Rattle.run_model.specs.Machine.Heights.{goals_entry, test_items, guarded_goal}
use Rattle.au_model.specs.Terms.Forms.{binary, list_term}
use Rattle.run_model.specs.Machine.States.{opened, halt_number, remaining_queries}
use Rattle.interleaving.specs.Scopes.{Shared}

pub data HeightElement : Type 0 where
  -- inferences that change nothing, and records with the heights of their findall entries
  HeightCredit : ℕ → List (ℕ × Term) → HeightElement
  HeightEntry : Entry → HeightElement

abbrev pub height_entries : List Entry → List HeightElement
height_entries es = map HeightEntry es

-- the lowest of them, so many
abbrev pub height_lowest : ℕ → List HeightElement → List HeightElement
height_lowest h xs = drop (length xs - h) xs

abbrev pub height_recovered : Option Substitution → Term → Term → Continuation ℕ → List HeightElement → List HeightElement
    → List HeightElement
height_recovered (Some s) ball r f xs further =
    HeightEntry (PlainEntry (resolve_continuation s
    (with_next (f.next + copy_takes ball) (before (GoalItem (call_of r) (length xs) ∷ []) f)))) ∷ xs
height_recovered None ball r f xs further = further

abbrev pub height_unwound : Term → Option ℕ → List HeightElement → List HeightElement
height_unwound ball mark [] = HeightEntry (EndEntry (Some (copied ball 0))) ∷ []
height_unwound ball mark (HeightEntry (CatchEntry c r f) ∷ xs) =
    height_recovered (taken_by mark (length xs) ball c f) ball r f xs (height_unwound ball (next_mark mark (length xs) f) xs)
height_unwound ball mark (HeightEntry (PlainEntry f) ∷ xs) = height_unwound ball mark xs
height_unwound ball mark (HeightEntry (FindallEntry results l f) ∷ xs) = height_unwound ball mark xs
height_unwound ball mark (HeightEntry (EndEntry b) ∷ xs) = height_unwound ball mark xs
height_unwound ball mark (HeightCredit k rs ∷ xs) = height_unwound ball mark xs

abbrev pub height_reply : Reply → Continuation ℕ → List HeightElement → List HeightElement
height_reply (Solutions ss) f xs = height_entries (solution_entries (length xs) f ss) ++ xs
height_reply (Ball b) f xs = height_unwound b (first_mark f.items) xs
height_reply (HaltNumber k) f xs = []

abbrev pub height_control : ControlForm → ℕ → Continuation ℕ → List HeightElement → List HeightElement
height_control (GoesOnWith gs) h f xs = HeightEntry (goals_entry (length xs) gs f) ∷ xs
height_control (EitherOf gs others) h f xs = HeightEntry (goals_entry h gs f) ∷ HeightEntry (goals_entry h others f) ∷ xs
height_control (TestOf condition thens others) h f xs =
    HeightEntry (PlainEntry (before (test_items (length xs) h condition thens) f)) ∷ HeightEntry (goals_entry h others f) ∷ xs
height_control CutToScope h f xs = HeightEntry (PlainEntry f) ∷ height_lowest h xs
height_control (CatchOf goal catcher recovery) h f xs =
    HeightEntry (PlainEntry (before (guarded_goal (length xs) goal ∷ CatchMark (length xs) ∷ []) f)) ∷ HeightEntry
    (CatchEntry catcher recovery f) ∷ xs
height_control (FindallOf template goal list) h f xs =
    HeightEntry (PlainEntry (before (guarded_goal (length xs) goal ∷ CollectMark template (length xs) ∷ []) f)) ∷ HeightEntry
    (FindallEntry [] list f) ∷ xs

abbrev pub HeightState : Type 0
HeightState = Shared × List HeightElement

abbrev pub height_replied : World × Reply → Continuation ℕ → List HeightElement → Shared → HeightState
height_replied r f xs w = (record w { world = r.0; halted = halt_number r.1 }, height_reply r.1 f xs)

abbrev pub height_goal : List Clause → Outcome → ℕ → Continuation ℕ → List HeightElement → Shared → HeightState
height_goal clauses (Replies (Solutions ss)) h f xs w = (w, height_reply (Solutions ss) f xs)
height_goal clauses (Replies (Ball b)) h f xs w = (w, height_reply (Ball b) f xs)
height_goal clauses (Replies (HaltNumber k)) h f xs w = height_replied (w.world, HaltNumber k) f xs w
height_goal clauses (Controls form) h f xs w = (w, height_control form h f xs)
height_goal clauses (AskWorld goal) h f xs w = height_replied (world_step clauses goal f.next w.world) f xs w

abbrev pub height_removed : Option Database → Continuation ℕ → List HeightElement → Shared → HeightState
height_removed (Some db) f xs w = (record w { world = record w.world { database = db } }, HeightEntry (PlainEntry f) ∷ xs)
height_removed None f xs w = (w, xs)

abbrev pub height_answered : Continuation ℕ → List HeightElement → Shared → HeightState
height_answered f xs w = (record w { world = writes (answer_line w.world.operators f.named) w.world; answers = w.answers + 1 }, xs)

abbrev pub height_query_ended : Option Term → Shared → HeightState
height_query_ended ball w = (
  record w { world = writes (end_line w.world.operators ball) w.world; queries = remaining_queries w.queries },
  height_entries (opened w.queries),
)

abbrev pub height_item : List Clause → List (Item ℕ) → Continuation ℕ → List HeightElement → Shared → HeightState
height_item clauses [] f xs w = height_answered f xs w
height_item clauses (GoalItem g h ∷ items) f xs w = height_goal clauses (outcome_of clauses g f.next) h (with_items items f) xs w
height_item clauses (RemovalItem number ∷ items) f xs w = height_removed (without_clause number w.world.database) (with_items items f) xs w
height_item clauses (CatchMark h ∷ items) f xs w = (w, HeightEntry (PlainEntry f) ∷ xs)
height_item clauses (CollectMark t h ∷ items) f xs w = (w, HeightEntry (PlainEntry f) ∷ xs)

-- by the top alone; where a free step is on top there is no inference to take
abbrev pub height_taken : List Clause → Shared → List HeightElement → HeightState
height_taken clauses w [] = (w, [])
height_taken clauses w (HeightCredit zero rs ∷ xs) = (w, HeightCredit zero rs ∷ xs)
height_taken clauses w (HeightCredit (suc k) rs ∷ xs) = (w, HeightCredit k rs ∷ xs)
height_taken clauses w (HeightEntry (PlainEntry f) ∷ xs) = height_item clauses f.items f xs w
height_taken clauses w (HeightEntry (EndEntry ball) ∷ xs) = height_query_ended ball w
height_taken clauses w (HeightEntry (CatchEntry c r f) ∷ xs) = (w, HeightEntry (CatchEntry c r f) ∷ xs)
height_taken clauses w (HeightEntry (FindallEntry results l f) ∷ xs) = (w, HeightEntry (FindallEntry results l f) ∷ xs)

-- records given to the findall entries of their heights
abbrev pub height_with_result : Term → HeightElement → HeightElement
height_with_result t (HeightEntry e) = HeightEntry (with_result t e)
height_with_result t (HeightCredit k rs) = HeightCredit k rs

abbrev pub height_collected : ℕ → Term → List HeightElement → List HeightElement
height_collected h t [] = []
height_collected h t (x ∷ xs) = cond (length xs == h) (height_with_result t x ∷ xs) (x ∷ height_collected h t xs)

abbrev pub height_collected_all : List (ℕ × Term) → List HeightElement → List HeightElement
height_collected_all [] xs = xs
height_collected_all (r ∷ rs) xs = height_collected_all rs (height_collected r.0 r.1 xs)

abbrev pub height_findall_ends : List Term → Term → Continuation ℕ → List HeightElement → Entry
height_findall_ends results l f xs = PlainEntry (before (GoalItem (binary (codes "=") l (list_term results)) (length xs) ∷ []) f)

abbrev pub height_plain_free_step : List (Item ℕ) → Continuation ℕ → List HeightElement → (List HeightElement → List HeightElement)
    → List HeightElement
height_plain_free_step (CollectMark t h ∷ items) f xs go = go (height_collected h t xs)
height_plain_free_step items f xs go = HeightEntry (PlainEntry (with_items items f)) ∷ xs

-- the free steps: a credit without inferences gives its records
abbrev pub height_free_steps_within : ℕ → List HeightElement → List HeightElement
height_free_steps_within zero xs = xs
height_free_steps_within (suc n) [] = []
height_free_steps_within (suc n) (HeightCredit zero rs ∷ xs) = height_free_steps_within n (height_collected_all rs xs)
height_free_steps_within (suc n) (HeightCredit (suc k) rs ∷ xs) = HeightCredit (suc k) rs ∷ xs
height_free_steps_within (suc n) (HeightEntry (CatchEntry c r f) ∷ xs) = height_free_steps_within n xs
height_free_steps_within (suc n) (HeightEntry (FindallEntry results l f) ∷ xs) = HeightEntry (height_findall_ends results l f xs) ∷ xs
height_free_steps_within (suc n) (HeightEntry (PlainEntry f) ∷ xs) = height_plain_free_step (without_marks f.items) f xs
    (height_free_steps_within n)
height_free_steps_within (suc n) (HeightEntry (EndEntry b) ∷ xs) = HeightEntry (EndEntry b) ∷ xs

abbrev pub height_at_rest : List HeightElement → List HeightElement
height_at_rest xs = height_free_steps_within (length xs) xs

-- one inference and the free steps after it
abbrev pub height_inference : List Clause → HeightState → HeightState
height_inference clauses s = let t = height_taken clauses s.0 s.1 in (t.0, height_at_rest t.1)

-- so many inferences
abbrev pub height_run : List Clause → ℕ → HeightState → HeightState
height_run clauses zero s = s
height_run clauses (suc n) s = height_run clauses n (height_inference clauses s)
