-- What takes the place of a goal, with scopes by heights (ISO/IEC 13211-1, 7.7 and 7.8): h is the height that the goal
-- carries, f what follows it, and es the entries under it.
use Rattle.std.specs.Prelude.{ℕ, suc, List, [], ◌∷◌, ◌++◌, length, codes}
use Rattle.au_term.specs.Term.{Term, AtomTerm}
use Rattle.run_model.specs.Programs.Bodies.{call_of}
use Rattle.run_model.specs.Goals.Outcomes.{Reply, Solutions, Ball, HaltNumber, ControlForm, GoesOnWith, EitherOf, TestOf, CutToScope, CatchOf, FindallOf}
use Rattle.run_model.specs.Machine.Items.{Item, GoalItem, CatchMark, CollectMark, Continuation, before, goals_at, first_mark}
use Rattle.run_model.specs.Machine.Entries.{Entry, PlainEntry, CatchEntry, FindallEntry, lowest, solution_entries}
use Rattle.run_model.specs.Machine.Balls.{unwound}

-- goals before what follows
abbrev pub goals_entry : ℕ → List Term → Continuation ℕ → Entry
goals_entry h gs f = PlainEntry (before (goals_at h gs) f)

abbrev pub after_reply : Reply → Continuation ℕ → List Entry → List Entry
after_reply (Solutions ss) f es = solution_entries (length es) f ss ++ es
after_reply (Ball b) f es = unwound b (first_mark f.items) es
after_reply (HaltNumber k) f es = []

-- the items of a condition, of its cut, and of what comes then
abbrev pub test_items : ℕ → ℕ → List Term → List Term → List (Item ℕ)
test_items n h condition thens = goals_at (suc n) condition ++ GoalItem (AtomTerm (codes "!")) n ∷ goals_at h thens

-- the goal that a catch guards or a findall runs through
abbrev pub guarded_goal : ℕ → Term → Item ℕ
guarded_goal n goal = GoalItem (call_of goal) (suc n)

abbrev pub after_control : ControlForm → ℕ → Continuation ℕ → List Entry → List Entry
after_control (GoesOnWith gs) h f es = goals_entry (length es) gs f ∷ es
after_control (EitherOf gs others) h f es = goals_entry h gs f ∷ goals_entry h others f ∷ es
after_control (TestOf condition thens others) h f es = PlainEntry (before (test_items (length es) h condition thens) f) ∷ goals_entry h others f ∷ es
after_control CutToScope h f es = PlainEntry f ∷ lowest h es
after_control (CatchOf goal catcher recovery) h f es =
    PlainEntry (before (guarded_goal (length es) goal ∷ CatchMark (length es) ∷ []) f) ∷ CatchEntry catcher recovery f ∷ es
after_control (FindallOf template goal list) h f es =
    PlainEntry (before (guarded_goal (length es) goal ∷ CollectMark template (length es) ∷ []) f) ∷ FindallEntry [] list f ∷ es
