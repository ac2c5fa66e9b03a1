-- What trying clauses comes to.
use Rattle.std.specs.Prelude.{◌≡◌, ℕ, ◌+◌, true, false, List, [], ◌∷◌, ◌++◌}
use Rattle.au_term.specs.Term.{Term, argument_count}
use Rattle.au_model.specs.Terms.Unifier.{unifier}
use Rattle.au_model.specs.Terms.Forms.{name_of, is_callable}
use Rattle.run_model.specs.Programs.Clauses.{Clause, renamed_head, renamed_goals, clause_takes, is_clause_of}
use Rattle.run_model.specs.Goals.Outcomes.{clause_solution, alternatives_of}
use Rattle.run_model.specs.Machine.Items.{Continuation, before, goals_at, with_next}
use Rattle.run_model.specs.Machine.Entries.{unified, solution_entry, solution_entries}

-- what the first clause gives: its goals before what follows, where the goal and its renamed head unify
abbrev pub FirstClauseTried : Type 0
FirstClauseTried = (c : Clause) (cs : List Clause) (goal : Term) (h : ℕ) (f : Continuation ℕ) →
    solution_entries h f (alternatives_of (c ∷ cs) goal f.next)
    ≡ unified (unifier ((goal, renamed_head c f.next) ∷ [])) (with_next (f.next + clause_takes c) (before (goals_at h (renamed_goals c f.next)) f)) ++ solution_entries h f (alternatives_of cs goal f.next)

-- a clause of another procedure gives nothing
abbrev pub OthersGiveNothing : Type 0
OthersGiveNothing = (c : Clause) (goal : Term) (h : ℕ) (f : Continuation ℕ) → is_callable goal ≡ true → is_callable c.head ≡ true →
    is_clause_of (name_of goal) (argument_count goal) c ≡ false → solution_entry h f (clause_solution goal f.next c) ≡ []
