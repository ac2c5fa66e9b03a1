-- No solution of a goal that asks no world removes a clause.
use Rattle.std.proofs.Common.{◌≡◌, ℕ, Bool, true, false, cond, List, [], ◌∷◌, Option, Some, None, refl}
use Rattle.std.specs.Prelude.{codes, nat_lt}
use Rattle.au_term.specs.Term.{Term, VarTerm, IntTerm, AtomTerm, Compound, Terms, term_at, drop_terms, arguments, argument_count}
use Rattle.au_model.specs.Terms.Each.{Each}
use Rattle.au_model.specs.Terms.Forms.{name_of}
use Rattle.au_model.specs.Terms.ErrorTerms.{representation_error}
use Rattle.au_model.proofs.EachLemmas.{IfFound, found_row}
use Rattle.run_model.specs.Programs.Bodies.{called_goals}
use Rattle.run_model.specs.Programs.Clauses.{Clause, is_defined}
use Rattle.run_model.specs.Goals.Outcomes.{alternatives_of}
use Rattle.run_model.specs.Goals.Control.{Construct, is_named, construct_of, raises, with_arguments, called, call_outcome, throw_outcome, call_row, control_constructs}
use Rattle.run_model.specs.Goals.Builtins.{builtins}
use Rattle.run_model.specs.Goals.Worlds.{is_world_goal}
use Rattle.run_model.specs.Goals.GoalOutcomes.{by_procedure, by_world_goal, by_builtin, by_construct, named_outcome, outcome_of}
use Rattle.region_floor.specs.PrivateLaws.{RemovesNothing, KeepsClauses}
use Rattle.region_floor.proofs.KeptAnswerLemmas.{IsRowKept}
use Rattle.region_floor.proofs.KeptBuiltinLemmas.{builtins_kept}

called-kept : (arity : ℕ) (g : Term) (o : Option (List Term)) → KeepsClauses (called arity g o)
called-kept arity g None = tt
called-kept arity g (Some gs) = tt

checked-kept : (arity : ℕ) (g : Term) (b : Bool)
    → KeepsClauses (cond b (raises (representation_error (codes "max_arity")) (codes "call") arity) (called arity g (called_goals g)))
checked-kept arity g true = tt
checked-kept arity g false = called-kept arity g (called_goals g)

call-kept : (arity : ℕ) (t : Term) (us : Terms) → KeepsClauses (call_outcome arity t us)
call-kept arity (VarTerm n) us = tt
call-kept arity (IntTerm z) us = tt
call-kept arity (AtomTerm a) us = let goal = with_arguments (AtomTerm a) us in checked-kept arity goal (nat_lt 65535 (argument_count goal))
call-kept arity (Compound f ts) us = let goal = with_arguments (Compound f ts) us in checked-kept arity goal (nat_lt 65535 (argument_count goal))

throw-kept : (t : Term) → KeepsClauses (throw_outcome t)
throw-kept (VarTerm n) = tt
throw-kept (IntTerm z) = tt
throw-kept (AtomTerm a) = tt
throw-kept (Compound f ts) = tt

call_row-kept : (arity : ℕ) → IsRowKept (call_row arity)
call_row-kept arity = λ ts next. call-kept arity (term_at 0 ts) (drop_terms 1 ts)

calls-kept : Each IsRowKept (call_row 1 ∷ call_row 2 ∷ call_row 3 ∷ call_row 4 ∷ call_row 5 ∷ call_row 6 ∷ call_row 7 ∷ call_row 8 ∷ [])
calls-kept = (
  call_row-kept 1,
  (
    call_row-kept 2,
    (call_row-kept 3, (call_row-kept 4, (call_row-kept 5, (call_row-kept 6, (call_row-kept 7, (call_row-kept 8, tt)))))),
  ),
)

controls_kept : Each IsRowKept control_constructs
controls_kept = (
  λ ts next. tt,
  (
    λ ts next. tt,
    (
      λ ts next. tt,
      (
        λ ts next. tt,
        (
          λ ts next. tt,
          (
            λ ts next. tt,
            (λ ts next. tt, (λ ts next. tt, (λ ts next. throw-kept (term_at 0 ts), (λ ts next. tt, (λ ts next. tt, calls-kept))))),
          ),
        ),
      ),
    ),
  ),
)

-- clauses, and any goal
clauses-kept : (clauses : List Clause) (goal : Term) (next : ℕ) → Each RemovesNothing (alternatives_of clauses goal next)
clauses-kept [] goal next = tt
clauses-kept (c ∷ cs) goal next = (refl, clauses-kept cs goal next)

procedure-kept : (b : Bool) (clauses : List Clause) (g : Term) (next : ℕ) → KeepsClauses (by_procedure b clauses g next)
procedure-kept true clauses g next = clauses-kept clauses g next
procedure-kept false clauses g next = tt

world-kept : (b : Bool) (clauses : List Clause) (g : Term) (next : ℕ) → KeepsClauses (by_world_goal b clauses g next)
world-kept true clauses g next = tt
world-kept false clauses g next = procedure-kept (is_defined clauses (name_of g) (argument_count g)) clauses g next

abbrev IsFound : Term → Option Construct → Type 0
IsFound g o = IfFound (λ c. IsRowKept c × (is_named (name_of g) (argument_count g) c ≡ true)) o

builtin-kept : (o : Option Construct) (clauses : List Clause) (g : Term) (next : ℕ) → IsFound g o → KeepsClauses (by_builtin o clauses g next)
builtin-kept None clauses g next r = world-kept (is_world_goal (name_of g) (argument_count g)) clauses g next
builtin-kept (Some c) clauses g next r = r.0 (arguments g) next

construct-kept : (o : Option Construct) (clauses : List Clause) (g : Term) (next : ℕ) → IsFound g o → KeepsClauses (by_construct o clauses g next)
construct-kept None clauses g next r =
    builtin-kept (construct_of builtins (name_of g) (argument_count g)) clauses g next
    (found_row IsRowKept (is_named (name_of g) (argument_count g)) builtins builtins_kept)
construct-kept (Some c) clauses g next r = r.0 (arguments g) next

named-kept : (clauses : List Clause) (g : Term) (next : ℕ) → KeepsClauses (named_outcome clauses g next)
named-kept clauses g next =
    construct-kept (construct_of control_constructs (name_of g) (argument_count g)) clauses g next
    (found_row IsRowKept (is_named (name_of g) (argument_count g)) control_constructs controls_kept)

pub outcome-kept : (clauses : List Clause) (g : Term) (next : ℕ) → KeepsClauses (outcome_of clauses g next)
unfolding outcome_of
outcome-kept clauses (VarTerm n) next = tt
outcome-kept clauses (IntTerm z) next = tt
outcome-kept clauses (AtomTerm a) next = named-kept clauses (AtomTerm a) next
outcome-kept clauses (Compound f ts) next = named-kept clauses (Compound f ts) next
