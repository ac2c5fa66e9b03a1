-- What effects come to: the world after each, and its reply.
use Rattle.std.specs.Prelude.{◌≡◌, ℕ, Bool, ◌||◌, List, [], map, filter, false, Option, Some, None, codes}
use Rattle.au_term.specs.Term.{argument_count}
use Rattle.au_model.specs.Terms.ErrorTerms.{error_term}
use Rattle.au_model.specs.Terms.Faults.{error_term_of}
use Rattle.au_model.specs.Terms.Forms.{name_of}
use Rattle.au_model.specs.Terms.Unifier.{unifier}
use Rattle.au_model.specs.Syntax.OperatorChanges.{operators_changed}
use Rattle.au_model.specs.Writing.Lines.{answer_line, end_line}
use Rattle.au_model.specs.declared.types.Style.TheVariants.{Plain, Quoted, Canonical}
use Rattle.run_model.specs.Programs.Databases.{Database, NumberedClause, clauses_of, without_clause}
use Rattle.run_model.specs.Programs.DatabaseChanges.{with_first_clause, with_last_clause}
use Rattle.run_model.specs.Goals.Outcomes.{Reply, Solutions, Ball, HaltNumber, Solution, clause_solution}
use Rattle.run_model.specs.Goals.WorldConstructs.{World as WorldTerms, Statics, holds_once}
use Rattle.run_model.specs.Goals.OutputGoals.{bytes_out, term_out, line_out, character_out}
use Rattle.run_model.specs.Goals.DatabaseGoals.{asserted, retracted, abolished, clause_found, clause_match, head_in, body_in}
use Rattle.run_model.specs.Goals.OperatorGoals.{operators_left, current_operators, operator_solution}
use Rattle.run_model.specs.Goals.HaltGoals.{halted_by}
use Rattle.run_model.specs.Goals.Worlds.{is_reserved, dynamic_call}
use Rattle.clause_compile.specs.CompiledClauses.{shown}
use Rattle.clause_compile.specs.declared.event.Effect.{Effect}
use Rattle.clause_compile.specs.declared.event.Effect.TheVariants as effect
use Rattle.op_table.specs.OperatorView.{row_meant}
use Rattle.op_table.specs.declared.operator.OpRow.{OpRow}
use Rattle.term_writer.specs.AnswerParts.{named_terms}
use Rattle.dyn_clauses.specs.DatabaseView.{is_static}
use Rattle.effect_gate.specs.declared.world.World.{World}
use Rattle.effect_gate.specs.declared.world.Applied.{Applied}
use Rattle.effect_gate.specs.declared.world.Applied.TheVariants.{Went, Raise, Clauses, Fails, Rows, Halt}

-- what a world is
abbrev pub world_meant : World → WorldTerms
world_meant w = record { written = w.out.items; database = w.database.kept; operators = w.ops }

-- which procedures no goal changes
abbrev pub statics_of : World → Statics
statics_of w name arity = is_reserved name arity || is_static w.database.statics (record { name = name; arity = arity })

-- the removal of a clause holds once where the clause is still there
abbrev pub clause_removed : Option Database → WorldTerms → WorldTerms × Reply
clause_removed (Some database) w = (record w { database = database }, holds_once)
clause_removed None w = (w, Solutions [])

-- the world after an effect, and what the effect comes to, where this is the next number
abbrev pub effect_answer : Statics → Effect → ℕ → WorldTerms → WorldTerms × Reply
effect_answer statics (effect.Write t) next w = term_out Plain t w
effect_answer statics (effect.Writeq t) next w = term_out Quoted t w
effect_answer statics (effect.WriteCanonical t) next w = term_out Canonical t w
effect_answer statics effect.Nl next w = line_out w
effect_answer statics (effect.PutChar t) next w = character_out t w
effect_answer statics (effect.Asserta t) next w = asserted with_first_clause (codes "asserta") statics t w
effect_answer statics (effect.Assertz t) next w = asserted with_last_clause (codes "assertz") statics t w
effect_answer statics (effect.Retract t) next w = retracted statics t next w
effect_answer statics (effect.Abolish t) next w = abolished statics t w
effect_answer statics (effect.Clause head body) next w = clause_found statics head body next w
effect_answer statics (effect.Op priority specifier names) next w = operators_left (operators_changed w.operators priority specifier names) w
effect_answer statics (effect.CurrentOp priority specifier name) next w = current_operators priority specifier name w
effect_answer statics effect.Halt next w = (w, HaltNumber 0)
effect_answer statics (effect.HaltWith status) next w = halted_by status w
effect_answer statics (effect.Call goal) next w = (w, dynamic_call (clauses_of w.database (name_of goal) (argument_count goal)) goal next)
effect_answer statics (effect.Remove id) next w = clause_removed (without_clause id.0 w.database) w
effect_answer statics (effect.Answer names values) next w = bytes_out (answer_line w.operators (named_terms names.items values.items)) w
effect_answer statics (effect.End ball) next w = bytes_out (end_line w.operators ball) w

-- the name of the goal that raises an error, and how many arguments it has
abbrev pub effect_name : Effect → List ℕ
effect_name (effect.Write t) = codes "write"
effect_name (effect.Writeq t) = codes "writeq"
effect_name (effect.WriteCanonical t) = codes "write_canonical"
effect_name effect.Nl = codes "nl"
effect_name (effect.PutChar t) = codes "put_char"
effect_name (effect.Asserta t) = codes "asserta"
effect_name (effect.Assertz t) = codes "assertz"
effect_name (effect.Retract t) = codes "retract"
effect_name (effect.Abolish t) = codes "abolish"
effect_name (effect.Clause head body) = codes "clause"
effect_name (effect.Op priority specifier names) = codes "op"
effect_name (effect.CurrentOp priority specifier name) = codes "current_op"
effect_name effect.Halt = codes "halt"
effect_name (effect.HaltWith status) = codes "halt"
effect_name (effect.Call goal) = name_of goal
effect_name (effect.Remove id) = []
effect_name (effect.Answer names values) = []
effect_name (effect.End ball) = []

abbrev pub effect_arity : Effect → ℕ
effect_arity (effect.Write t) = 1
effect_arity (effect.Writeq t) = 1
effect_arity (effect.WriteCanonical t) = 1
effect_arity effect.Nl = 0
effect_arity (effect.PutChar t) = 1
effect_arity (effect.Asserta t) = 1
effect_arity (effect.Assertz t) = 1
effect_arity (effect.Retract t) = 1
effect_arity (effect.Abolish t) = 1
effect_arity (effect.Clause head body) = 2
effect_arity (effect.Op priority specifier names) = 3
effect_arity (effect.CurrentOp priority specifier name) = 3
effect_arity effect.Halt = 0
effect_arity (effect.HaltWith status) = 1
effect_arity (effect.Call goal) = argument_count goal
effect_arity (effect.Remove id) = 0
effect_arity (effect.Answer names values) = 0
effect_arity (effect.End ball) = 0

-- the reply is a solution for each of some clauses; the clauses that were found are these in their order, without those
-- that a test leaves out, whose equations do not unify
pub record AreFound (solution : NumberedClause → Solution) (reply : Reply) (found : List NumberedClause) : Type 0 where
  pub all : List NumberedClause
  pub may_unify : NumberedClause → Bool
  pub replies : reply ≡ Solutions (map solution all)
  pub kept : found ≡ filter may_unify all
  pub others : (c : NumberedClause) → may_unify c ≡ false → unifier (solution c).equations ≡ None

-- clauses that were found for a call, a removal or a look at them
abbrev pub AreFoundBy : Effect → ℕ → Reply → List NumberedClause → Type 0
AreFoundBy (effect.Call goal) next reply found = AreFound (λ c. clause_solution goal next c.clause) reply found
AreFoundBy (effect.Retract t) next reply found = AreFound (λ c. clause_match (Some c.number) (head_in t) (body_in t) next c.clause) reply found
AreFoundBy (effect.Clause head body) next reply found = AreFound (λ c. clause_match None head body next c.clause) reply found
AreFoundBy e next reply found = ⊥

-- rows are operators for a look at them, a solution for each
abbrev pub AreRowsFor : Effect → Reply → List OpRow → Type 0
AreRowsFor (effect.CurrentOp priority specifier name) reply rows = reply ≡ Solutions (map (operator_solution priority specifier name) (map row_meant rows))
AreRowsFor e reply rows = ⊥

-- the answer tells the reply to an effect
abbrev pub IsReplied : Effect → ℕ → Reply → Applied → Type 0
IsReplied e next reply Went = reply ≡ holds_once
IsReplied e next reply (Raise fault) = reply ≡ Ball (error_term (error_term_of fault) (effect_name e) (effect_arity e))
IsReplied e next reply (Clauses found) = AreFoundBy e next reply (map shown found.items)
IsReplied e next reply Fails = reply ≡ Solutions []
IsReplied e next reply (Rows rows) = AreRowsFor e reply rows.items
IsReplied e next reply (Halt status) = reply ≡ HaltNumber status

-- the world is the one after an effect, and the answer tells the reply
abbrev pub IsApplied : Effect → ℕ → WorldTerms × Reply → World → Applied → Type 0
IsApplied e next meant new applied = (world_meant new ≡ meant.0) × IsReplied e next meant.1 applied

-- this holds whatever the next number is
abbrev pub IsEffectApplied : Effect → World → World → Applied → Type 0
IsEffectApplied e old new applied = (next : ℕ) → IsApplied e next (effect_answer (statics_of old) e next (world_meant old)) new applied
