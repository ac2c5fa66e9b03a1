-- The entries of the sequential machine (the stack of ISO/IEC 13211-1, 7.7.2): what is left to do, with a scope by its
-- height, the number of entries under it.
use Rattle.std.specs.Prelude.{ℕ, ◌+◌, ◌-◌, cond, List, [], ◌∷◌, ◌++◌, Option, Some, None, ◌==◌, length, drop}
use Rattle.au_term.specs.Term.{Term}
use Rattle.au_model.specs.Terms.Unifier.{unifier}
use Rattle.au_model.specs.Terms.Substitutions.{Substitution}
use Rattle.au_model.specs.Terms.Copies.{copied, copy_takes}
use Rattle.run_model.specs.Goals.Outcomes.{Solution}
use Rattle.run_model.specs.Machine.Items.{Continuation, before, removing, with_next, goals_at, resolve_continuation}

pub data Entry : Type 0 where
  PlainEntry : Continuation ℕ → Entry
  -- what is caught, the recovery, and what follows the catch
  CatchEntry : Term → Term → Continuation ℕ → Entry
  -- the results so far, what their list is unified with, and what follows the findall
  FindallEntry : List Term → Term → Continuation ℕ → Entry
  -- the end of a query, with its uncaught ball if there is one
  EndEntry : Option Term → Entry

-- the lowest entries, so many of them
abbrev pub lowest : ℕ → List Entry → List Entry
lowest h es = drop (length es - h) es

-- the entry of a solution, where its equations unify
abbrev pub unified : Option Substitution → Continuation ℕ → List Entry
unified None f = []
unified (Some s) f = PlainEntry (resolve_continuation s f) ∷ []

abbrev pub solution_entry : ℕ → Continuation ℕ → Solution → List Entry
solution_entry h f s = unified (unifier s.equations) (with_next (f.next + s.variables) (before (goals_at h s.goals) (removing s.removes f)))

-- the entries of solutions, in their order, their goals cutting to this height
abbrev pub solution_entries : ℕ → Continuation ℕ → List Solution → List Entry
solution_entries h f [] = []
solution_entries h f (s ∷ ss) = solution_entry h f s ++ solution_entries h f ss

-- a result added to a findall entry, as a copy with its next numbers
abbrev pub with_result : Term → Entry → Entry
with_result t (FindallEntry results l f) = FindallEntry (results ++ copied t f.next ∷ []) l (with_next (f.next + copy_takes t) f)
with_result t e = e

-- a result added to the findall entry of this height
abbrev pub collected : ℕ → Term → List Entry → List Entry
collected h t [] = []
collected h t (e ∷ es) = cond (length es == h) (with_result t e ∷ es) (e ∷ collected h t es)
