-- What compiling a clause and calling a term answer.
use Rattle.std.specs.Prelude.{◌≡◌, ℕ, ℤ, max, true, List, ◌++◌, map, Option, Some, None, Result, Ok, Err}
use Rattle.std.specs.Option.{option_map}
use Rattle.std.specs.Arc.{arc_value}
use Rattle.std.specs.Global.{Global}
use Rattle.std.specs.declared.sync.Arc.{Arc}
use Rattle.au_term.specs.Term.{Term, VarTerm, IntTerm, var_bound}
use Rattle.au_model.specs.Terms.Forms.{is_callable}
use Rattle.run_model.specs.Programs.Bodies.{body_of, called_goals}
use Rattle.run_model.specs.Programs.Clauses.{Clause as ClauseTerms, numbered}
use Rattle.run_model.specs.Programs.Databases.{NumberedClause}
use Rattle.clause_compile.specs.declared.item.ClauseId.{ClauseId}
use Rattle.clause_compile.specs.declared.item.Scope.{Scope}
use Rattle.clause_compile.specs.declared.item.Item.{Item}
use Rattle.clause_compile.specs.declared.item.Item.TheVariants.{Goal}
use Rattle.clause_compile.specs.declared.clause.Clause.{Clause}
use Rattle.clause_compile.specs.declared.clause.Part.TheVariants.{Head, Body}
use Rattle.clause_compile.specs.declared.clause.ClauseRefusal.{ClauseRefusal}
use Rattle.clause_compile.specs.declared.clause.ClauseRefusal.TheVariants.{NoHead, NotCallable, NoMemory}

-- the least number above all variables of a clause
abbrev pub clause_bound : ClauseTerms → ℕ
clause_bound c = max (var_bound c.head) (var_bound c.body)

-- goals that cut to one scope
abbrev pub goal_items : Scope → List Term → List Item
goal_items cut goals = map (λ g. Goal g cut) goals

-- a clause is the numbered one of this head and the body that it has
abbrev pub IsNumberedClause : Term → Option Term → ClauseTerms → Type 0
IsNumberedClause head None c = ⊥
IsNumberedClause head (Some body) c = c ≡ numbered (record { head = head; body = body })

-- a clause and its number as they are handed out
abbrev pub shown : ClauseId × Arc Clause Global → NumberedClause
shown p = record { number = p.0.0; clause = arc_value p.1 }

-- a head and a body make a clause, or the answer says why not
abbrev pub IsCompiled : Term → Term → Result (Arc Clause Global) ClauseRefusal → Type 0
IsCompiled head body (Ok c) = (is_callable head ≡ true) × IsNumberedClause head (body_of body) (arc_value c)
IsCompiled head body (Err NoHead) = (n : ℕ) × (head ≡ VarTerm n)
IsCompiled head body (Err (NotCallable Head)) = (z : ℤ) × (head ≡ IntTerm z)
IsCompiled head body (Err (NotCallable Body)) = (is_callable head ≡ true) × (body_of body ≡ None)
IsCompiled head body (Err NoMemory) = Unit {0}

-- the goals of a term that is called come before the rest, or it is no body
abbrev pub IsCalledAs : Term → Scope → List Item → Result (List Item) ClauseRefusal → Type 0
IsCalledAs body cut rest (Ok goals) = option_map (λ gs. goal_items cut gs ++ rest) (called_goals body) ≡ Some goals
IsCalledAs body cut rest (Err NoHead) = ⊥
IsCalledAs body cut rest (Err (NotCallable Head)) = ⊥
IsCalledAs body cut rest (Err (NotCallable Body)) = called_goals body ≡ None
IsCalledAs body cut rest (Err NoMemory) = Unit {0}
