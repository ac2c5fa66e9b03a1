-- The machine over the list, with scopes by their names: the same table of goals as by heights, read a second time.
use Rattle.std.specs.Prelude.{ℕ, zero, suc, ◌+◌, cond, List, [], ◌∷◌, ◌++◌, Option, Some, None, codes}
use Rattle.au_term.specs.Term.{Term, AtomTerm}
use Rattle.au_model.specs.Terms.Forms.{binary, list_term}
use Rattle.run_model.specs.Programs.Bodies.{call_of}
use Rattle.au_model.specs.Terms.Substitutions.{Substitution}
use Rattle.au_model.specs.Terms.Unifier.{unifier}
use Rattle.au_model.specs.Terms.Copies.{copied, copy_takes}
use Rattle.run_model.specs.Programs.Clauses.{Clause}
use Rattle.run_model.specs.Programs.Databases.{Database, without_clause}
use Rattle.au_model.specs.Writing.Lines.{answer_line, end_line}
use Rattle.run_model.specs.Goals.Worlds.{World, world_step, writes}
use Rattle.run_model.specs.Goals.Outcomes.{Solution, Reply, Solutions, Ball, HaltNumber, ControlForm, GoesOnWith, EitherOf, TestOf}
use Rattle.run_model.specs.Goals.Outcomes.{CutToScope}
use Rattle.run_model.specs.Goals.Outcomes.{CatchOf, FindallOf, Outcome, Replies, Controls, AskWorld}
use Rattle.run_model.specs.Goals.GoalOutcomes.{outcome_of}
use Rattle.run_model.specs.Machine.Items.{Item, GoalItem, CatchMark, CollectMark, RemovalItem, Continuation, resolve_continuation, goals_at}
use Rattle.run_model.specs.Machine.Items.{with_items, with_next, before, removing, without_marks, first_mark}
use Rattle.run_model.specs.Programs.Jobs.{Query, Job, own_terms, query_bound}
use Rattle.run_model.specs.Goals.Worlds.{first_world}
use Rattle.run_model.specs.Machine.States.{State, halt_number, remaining_queries}
use Rattle.interleaving.specs.Machine.{Machine, Act, Drops, Becomes, Infers, AsksWorld, Look, On, Here, Replacement, Put, Only, Seek}
use Rattle.tree_model.specs.Elements.{Name, same, Record, Element, Credit, Plain, EndOf, Catch, Findall, End}

-- what all goals of a run share: the world, the queries left, the answers so far, and by which number the run was halted
pub record Shared : Type 0 where
  pub world : World
  pub queries : List Query
  pub answers : ℕ
  pub halted : Option ℕ

-- what a cut or a ball looks for: the end of a scope, under which this element goes on; the scope of the first catch
-- mark, if there is one; the Catch entry of this scope. A ball that is lost ends the query, under the last name
pub data Sought : Type 0 where
  Scope : Name → Element → Sought
  Thrown : Term → Option Name → Name → Sought
  Caught : Term → Name → Name → Sought

abbrev pub Does : Type 0
Does = Act Shared Element Sought Record

abbrev pub ElementReplacement : Type 0
ElementReplacement = Replacement Element Sought

-- the entries of solutions, named in their order, their goals in the scope of this entry
abbrev pub unified_element : Option Substitution → Name → Continuation Name → List Element
unified_element None p f = []
unified_element (Some s) p f = Plain p (resolve_continuation s f) ∷ []

abbrev pub solution_elements : ℕ → Name → Continuation Name → List Solution → List Element
solution_elements n p f [] = EndOf p ∷ []
solution_elements n p f (s ∷ ss) = unified_element (unifier s.equations) (n ∷ p)
    (with_next (f.next + s.variables) (before (goals_at p s.goals) (removing s.removes f))) ++ solution_elements (suc n) p f ss

abbrev pub reply_place : Reply → Name → Continuation Name → ElementReplacement
reply_place (Solutions ss) p f = Put (solution_elements zero p f ss)
reply_place (Ball b) p f = Seek (Thrown b (first_mark f.items) p)
reply_place (HaltNumber k) p f = Only []

-- the world after a goal, and what takes the goal's place
abbrev pub world_replied : World × Reply → Name → Continuation Name → Shared → Shared × ElementReplacement
world_replied r p f w = (record w { world = r.0; halted = halt_number r.1 }, reply_place r.1 p f)

-- goals before what follows
abbrev pub goals_first : Name → List Term → Continuation Name → Continuation Name
goals_first h gs f = before (goals_at h gs) f

-- the items of a condition in its scope n, of its cut to p, and of what comes then
abbrev pub named_test_items : Name → Name → Name → List Term → List Term → List (Item Name)
named_test_items n p h condition thens = goals_at n condition ++ GoalItem (AtomTerm (codes "!")) p ∷ goals_at h thens

-- what takes the place of a goal in scope h of the entry p, f following it
abbrev pub control_place : ControlForm → Name → Name → Continuation Name → ElementReplacement
control_place (GoesOnWith gs) p h f = Put (Plain (0 ∷ p) (goals_first p gs f) ∷ EndOf p ∷ [])
control_place (EitherOf gs others) p h f = Put (Plain (0 ∷ p) (goals_first h gs f) ∷ Plain (1 ∷ p) (goals_first h others f) ∷ [])
control_place (TestOf condition thens others) p h f =
    Put (Plain (0 ∷ p) (before (named_test_items (2 ∷ p) p h condition thens) f) ∷ EndOf (2 ∷ p) ∷ Plain (1 ∷ p) (goals_first h others f)
    ∷ EndOf p ∷ [])
control_place CutToScope p h f = Seek (Scope h (Plain p f))
control_place (CatchOf goal catcher recovery) p h f =
    Put (Plain (0 ∷ p) (before (GoalItem (call_of goal) (2 ∷ p) ∷ CatchMark (2 ∷ p) ∷ []) f) ∷ EndOf (2 ∷ p) ∷ Catch (2 ∷ p) p catcher
    recovery (1 ∷ p) f ∷ EndOf p ∷ [])
control_place (FindallOf template goal list) p h f =
    Put (Plain (0 ∷ p) (before (GoalItem (call_of goal) (2 ∷ p) ∷ CollectMark template (2 ∷ p) ∷ []) f) ∷ EndOf (2 ∷ p) ∷ Findall
    (2 ∷ p) p [] list (1 ∷ p) f ∷ EndOf p ∷ [])

-- a halt changes what is shared; so does whatever asks the world
abbrev pub reply_act : Reply → Name → Continuation Name → Does
reply_act (Solutions ss) p f = Infers (reply_place (Solutions ss) p f)
reply_act (Ball b) p f = Infers (reply_place (Ball b) p f)
reply_act (HaltNumber k) p f = AsksWorld (λ w. world_replied (w.world, HaltNumber k) p f w)

abbrev pub goal_act : List Clause → Outcome → Name → Name → Continuation Name → Does
goal_act clauses (Replies r) p h f = reply_act r p f
goal_act clauses (Controls form) p h f = Infers (control_place form p h f)
goal_act clauses (AskWorld goal) p h f = AsksWorld (λ w. world_replied (world_step clauses goal f.next w.world) p f w)

abbrev pub removed : Option Database → Name → Continuation Name → Shared → Shared × ElementReplacement
removed (Some db) p f w = (record w { world = record w.world { database = db } }, Put (Plain p f ∷ []))
removed None p f w = (w, Put [])

abbrev pub answer_taken : Continuation Name → Shared → Shared × ElementReplacement
answer_taken f w = (record w { world = writes (answer_line w.world.operators f.named) w.world; answers = w.answers + 1 }, Put [])

-- the items after the catch marks in front
abbrev pub unmarked : List (Item Name) → Name → Continuation Name → Does
unmarked (CollectMark t s ∷ items) p f = Drops ((s, t) ∷ [])
unmarked items p f = Becomes (Plain p (with_items items f))

abbrev pub item_act : List Clause → List (Item Name) → Name → Continuation Name → Does
item_act clauses [] p f = AsksWorld (answer_taken f)
item_act clauses (GoalItem g h ∷ items) p f = goal_act clauses (outcome_of clauses g f.next) p h (with_items items f)
item_act clauses (RemovalItem number ∷ items) p f = AsksWorld
    (λ w. removed (without_clause number w.world.database) p (with_items items f) w)
item_act clauses (CatchMark s ∷ items) p f = unmarked (without_marks items) p f
item_act clauses (CollectMark t s ∷ items) p f = Drops ((s, t) ∷ [])

-- the next query's goals on its end, a cut in them keeping the end alone
abbrev pub opened_elements : Name → List Query → List Element
opened_elements p [] = []
opened_elements p (q ∷ qs) =
    Plain (0 ∷ p) (record { items = goals_at p q.goals; named = own_terms q.names; next = query_bound q }) ∷ EndOf p ∷ End (1 ∷ p) None ∷ []

abbrev pub query_end_taken : Option Term → Name → Shared → Shared × ElementReplacement
query_end_taken ball p w = (
  record w { world = writes (end_line w.world.operators ball) w.world; queries = remaining_queries w.queries },
  Only
      (opened_elements p w.queries),
)

-- the list of a findall's results is unified, where no solution is left
abbrev pub results_first : List Term → Term → Name → Continuation Name → Continuation Name
results_first results list u f = before (GoalItem (binary (codes "=") list (list_term results)) u ∷ []) f

abbrev pub act : List Clause → Element → Does
act clauses (Credit zero rs) = Drops rs
act clauses (Credit (suc k) rs) = Infers (Put (Credit k rs ∷ []))
act clauses (Plain p f) = item_act clauses f.items p f
act clauses (EndOf s) = Drops []
act clauses (Catch s u c r p f) = Drops []
act clauses (Findall s u results list p f) = Becomes (Plain p (results_first results list u f))
act clauses (End p ball) = AsksWorld (query_end_taken ball p)

-- the recovery goes on before what follows the catch, or the ball goes further
abbrev pub recovery_look : Option Substitution → Term → Term → Name → Name → Continuation Name → Sought → Look Element Sought
recovery_look (Some s) ball r u p f q = Here
    (Plain p (resolve_continuation s (with_next (f.next + copy_takes ball) (before (GoalItem (call_of r) u ∷ []) f))) ∷ [])
recovery_look None ball r u p f q = On q

abbrev pub look : Sought → Element → Look Element Sought
look (Scope h x) (EndOf s) = cond (same h s) (Here (x ∷ EndOf s ∷ [])) (On (Scope h x))
look (Thrown b (Some h) o) (EndOf s) = cond (same h s) (On (Caught b h o)) (On (Thrown b (Some h) o))
look (Caught b h o) (Catch s u c r p f) =
    cond (same h s) (recovery_look (unifier ((c, copied b f.next) ∷ [])) b r u p f (Thrown b (first_mark f.items) o)) (On (Caught b h o))
look q x = On q

abbrev pub lost : Sought → List Element
lost (Scope h x) = x ∷ []
lost (Thrown b mark o) = End o (Some (copied b 0)) ∷ []
lost (Caught b h o) = End o (Some (copied b 0)) ∷ []

-- a Findall entry with one more result, as a copy with its next numbers
abbrev pub findall_with_result : Term → Name → Name → List Term → Term → Name → Continuation Name → Element
findall_with_result t s u results list p f = Findall s u (results ++ copied t f.next ∷ []) list p (with_next (f.next + copy_takes t) f)

-- a record is given to its own findall entry
abbrev pub give : Record → Element → Element
give r (Findall s u results list p f) = cond (same r.0 s) (findall_with_result r.1 s u results list p f) (Findall s u results list p f)
give r x = x

-- an entry that is left standing loses the catch marks in front
abbrev pub without_catch_marks : Element → Element
without_catch_marks (Plain p f) = Plain p (with_items (without_marks f.items) f)
without_catch_marks x = x

abbrev pub scoped : List Clause → Machine Shared Element Sought Record
scoped clauses = record { act = act clauses; look = look; lost = lost; give = give; stands = without_catch_marks }

abbrev pub shared : State → Shared
shared st = record { world = st.world; queries = st.queries; answers = st.answers; halted = st.halted }

abbrev pub first_shared : Job → Shared
first_shared job = record { world = first_world job; queries = remaining_queries job.queries; answers = 0; halted = None }
