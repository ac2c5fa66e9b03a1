-- Clauses that were looked up by the key of a head: those that were left out do not unify.
use Rattle.std.proofs.Common.{◌≡◌, ℕ, false, List, [], ◌∷◌, map, Option, Some, None, refl, sym, ap, ◌∙◌, subst, codes}
use Rattle.std.specs.Option.{option_map}
use Rattle.au_term.specs.Term.{Term, argument_count}
use Rattle.au_model.specs.Terms.EquationsInTurn.{further_unified}
use Rattle.au_model.specs.Terms.Forms.{name_of}
use Rattle.au_model.specs.Terms.Unifier.{unifier}
use Rattle.au_model.specs.Syntax.OperatorChanges.{error_if, first_error}
use Rattle.au_model.specs.Terms.TermTypes.{is_integer}
use Rattle.au_model.specs.Terms.ErrorTerms.{type_error}
use Rattle.au_model.proofs.EquationsInTurnLemmas.{front_first}
use Rattle.run_model.specs.Programs.Clauses.{clause_renaming, renamed_head, renamed_body}
use Rattle.run_model.specs.Programs.Databases.{NumberedClause, Database, clauses_of, plain_clauses}
use Rattle.run_model.specs.Goals.Outcomes.{Reply, Solutions, Solution, clause_solution, alternatives_of}
use Rattle.run_model.specs.Goals.DatabaseGoals.{body_in, clause_error, clause_found, clause_match, clauses_for, each_clause, head_errors, head_in, modify_error, access_error, retracted, retraction_error, static_error}
use Rattle.run_model.specs.Goals.Worlds.{dynamic_call}
use Rattle.clause_compile.specs.CompiledClauses.{shown}
use Rattle.clause_compile.specs.declared.event.Effect.TheVariants as effect
use Rattle.proc_index.specs.declared.key.Key.{Key}
use Rattle.proc_index.specs.Keys.{head_key, may_match}
use Rattle.proc_index.proofs.KeyClashLemmas.{key_clash}
use Rattle.dyn_clauses.specs.DatabaseView.{matching_numbered}
use Rattle.effect_gate.specs.Effects.{AreFound, IsEffectApplied, statics_of, world_meant}
use Rattle.effect_gate.specs.Refusals.{AreLookedUp, may_unify_with}
use Rattle.effect_gate.specs.declared.world.World.{World}
use Rattle.effect_gate.specs.declared.world.Applied.{Applied}
use Rattle.effect_gate.specs.declared.world.Applied.TheVariants.{Went, Raise, Clauses, Fails, Rows, Halt}
use Rattle.effect_gate.proofs.RefusalLemmas.{front_none, one_error, passed_by, Raises, raised_by}

-- a call and a match that fail by the key
call_clash : (goal : Term) (next : ℕ) (c : NumberedClause) → may_match (head_key goal) c.clause.head ≡ false → unifier (clause_solution goal next c.clause).equations ≡ None
call_clash goal next c h = key_clash goal c.clause.head (clause_renaming c.clause next) h

match_clash : (removes : Option ℕ) (head body : Term) (next : ℕ) (c : NumberedClause) → may_match (head_key head) c.clause.head ≡ false → unifier (clause_match removes head body next c.clause).equations ≡ None
match_clash removes head body next c h =
    let first : Term × Term = (head, renamed_head c.clause next) in
    let second : Term × Term = (body, renamed_body c.clause next) in
    front_first (first ∷ []) (second ∷ []) ∙ ap (λ o. further_unified o (second ∷ [])) (key_clash head c.clause.head (clause_renaming c.clause next) h)

abbrev some_value : {A : Type 0} (x : A) (o : Option A) → A
some_value x None = x
some_value x (Some y) = y

-- clauses that were found are those of a procedure that match
looked : (key : Key) (o : Option (List NumberedClause)) (found : List NumberedClause) → option_map (matching_numbered key) o ≡ Some found → (all : List NumberedClause) × (o ≡ Some all) × (found ≡ matching_numbered key all)
looked key None found h = absurd cc
looked key (Some all) found h = (all, refl, sym (ap (some_value found) h))

unknown : (key : Key) (o : Option (List NumberedClause)) → option_map (matching_numbered key) o ≡ None → o ≡ None
unknown key None h = refl
unknown key (Some all) h = absurd cc

found_by : (solution : NumberedClause → Solution) (head : Term) (reply : Reply) (all found : List NumberedClause) → ((c : NumberedClause) → may_match (head_key head) c.clause.head ≡ false → unifier (solution c).equations ≡ None)
    → reply ≡ Solutions (map solution all) → found ≡ matching_numbered (head_key head) all → AreFound solution reply found
found_by solution head reply all found others replies kept =
    record { all = all; may_unify = λ c. may_match (head_key head) c.clause.head; replies = replies; kept = kept; others = others }

-- a clause is tried for a call as it is for one goal
pub called_once : (goal : Term) (next : ℕ) (cs : List NumberedClause) → alternatives_of (plain_clauses cs) goal next ≡ map (λ c. clause_solution goal next c.clause) cs
called_once goal next [] = refl
called_once goal next (c ∷ cs) = ap (λ ss. clause_solution goal next c.clause ∷ ss) (called_once goal next cs)

pub call_found : (db : Database) (goal : Term) (next : ℕ) (found : List NumberedClause) → Some found ≡ may_unify_with db goal
    → AreFound (λ c. clause_solution goal next c.clause) (dynamic_call (clauses_of db (name_of goal) (argument_count goal)) goal next) found
call_found db goal next found h =
    let there = looked (head_key goal) (clauses_of db (name_of goal) (argument_count goal)) found (sym h) in
    found_by (λ c. clause_solution goal next c.clause) goal (dynamic_call (clauses_of db (name_of goal) (argument_count goal)) goal next) there.0 found
    (call_clash goal next)
    (ap (λ o. dynamic_call o goal next) there.1 ∙ ap Solutions (called_once goal next there.0))
    there.2

match_found : (removes : NumberedClause → Option ℕ) (db : Database) (head body : Term) (next : ℕ) (found : List NumberedClause) → may_unify_with db head ≡ Some found
    → AreFound (λ c. clause_match (removes c) head body next c.clause) (each_clause (λ c. clause_match (removes c) head body next c.clause) (clauses_of db (name_of head) (argument_count head))) found
match_found removes db head body next found h =
    let there = looked (head_key head) (clauses_of db (name_of head) (argument_count head)) found h in
    let solution = λ (c : NumberedClause). clause_match (removes c) head body next c.clause in
    found_by solution head (each_clause solution (clauses_of db (name_of head) (argument_count head))) there.0 found
    (λ c. match_clash (removes c) head body next c)
    (ap (each_clause solution) there.1)
    there.2

none_found : (solution : NumberedClause → Solution) (db : Database) (head : Term) → may_unify_with db head ≡ None → each_clause solution (clauses_of db (name_of head) (argument_count head)) ≡ Solutions []
none_found solution db head h = ap (each_clause solution) (unknown (head_key head) (clauses_of db (name_of head) (argument_count head)) h)

-- the errors of a removal and of a look at clauses
pub retraction_raises : (old : World) (t head : Term) → head ≡ head_in t → first_error (head_errors head) ≡ None → Raises (effect.Retract t) old (static_error (statics_of old) modify_error head)
retraction_raises old t head e h fault s = λ next. raised_by (codes "retract") 1 (world_meant old) (retraction_error (statics_of old) (head_in t)) _ _
    (ap (retraction_error (statics_of old)) (sym e) ∙ (front_none (head_errors head) (static_error (statics_of old) modify_error head ∷ []) h ∙ (one_error (static_error (statics_of old) modify_error head) ∙ s)))

both_passed : (a b : Option Term) → a ≡ None → first_error (a ∷ b ∷ []) ≡ b
both_passed a b h = ap (λ x. first_error (x ∷ b ∷ [])) h ∙ one_error b

abbrev body_error : Term → Option Term
body_error body = error_if (is_integer body) (type_error (codes "callable") body)

pub look_raises : (old : World) (head body : Term) → first_error (head_errors head) ≡ None → body_error body ≡ None → Raises (effect.Clause head body) old (static_error (statics_of old) access_error head)
look_raises old head body h b fault s = λ next. raised_by (codes "clause") 2 (world_meant old) (clause_error (statics_of old) head body) _ _
    (front_none (head_errors head) (body_error body ∷ static_error (statics_of old) access_error head ∷ []) h ∙ (both_passed (body_error body) (static_error (statics_of old) access_error head) b ∙ s))

abbrev removed_by : Term → ℕ → NumberedClause → Solution
removed_by t next c = clause_match (Some c.number) (head_in t) (body_in t) next c.clause

abbrev looked_at : Term → Term → ℕ → NumberedClause → Solution
looked_at head body next c = clause_match None head body next c.clause

-- what they come to without an error
pub retraction_done : (old : World) (t head : Term) (applied : Applied) → head ≡ head_in t → first_error (head_errors head) ≡ None → static_error (statics_of old) modify_error head ≡ None
    → AreLookedUp (may_unify_with old.database.kept head) applied → IsEffectApplied (effect.Retract t) old old applied
retraction_done old t head applied e h s l = by applied (subst (λ x. AreLookedUp (may_unify_with old.database.kept x) applied) e l)
  where
    no_error : retraction_error (statics_of old) (head_in t) ≡ None
    no_error = ap (retraction_error (statics_of old)) (sym e) ∙ (front_none (head_errors head) (static_error (statics_of old) modify_error head ∷ []) h ∙ (one_error (static_error (statics_of old) modify_error head) ∙ s))

    passed : (next : ℕ) → retracted (statics_of old) t next (world_meant old) ≡ (world_meant old, each_clause (removed_by t next) (clauses_for (head_in t) (world_meant old)))
    passed next = passed_by (codes "retract") 1 (world_meant old) (retraction_error (statics_of old) (head_in t)) (world_meant old, each_clause (removed_by t next) (clauses_for (head_in t) (world_meant old))) no_error

    by : (x : Applied) → AreLookedUp (may_unify_with old.database.kept (head_in t)) x → IsEffectApplied (effect.Retract t) old old x
    by Fails k = λ next. (sym (ap (λ p. p.0) (passed next)), ap (λ p. p.1) (passed next) ∙ none_found (removed_by t next) old.database.kept (head_in t) k)
    by (Clauses cs) k = λ next. (
      sym (ap (λ p. p.0) (passed next)),
      subst (λ r. AreFound (removed_by t next) r (map shown cs.items)) (sym (ap (λ p. p.1) (passed next)))
          (match_found (λ c. Some c.number) old.database.kept (head_in t) (body_in t) next (map shown cs.items) k),
    )
    by Went k = absurd k
    by (Raise fault) k = absurd k
    by (Rows rows) k = absurd k
    by (Halt n) k = absurd k

pub look_done : (old : World) (head body : Term) (applied : Applied) → first_error (head_errors head) ≡ None → body_error body ≡ None → static_error (statics_of old) access_error head ≡ None
    → AreLookedUp (may_unify_with old.database.kept head) applied → IsEffectApplied (effect.Clause head body) old old applied
look_done old head body applied h b s l = by applied l
  where
    no_error : clause_error (statics_of old) head body ≡ None
    no_error = front_none (head_errors head) (body_error body ∷ static_error (statics_of old) access_error head ∷ []) h ∙ (both_passed (body_error body) (static_error (statics_of old) access_error head) b ∙ s)

    passed : (next : ℕ) → clause_found (statics_of old) head body next (world_meant old) ≡ (world_meant old, each_clause (looked_at head body next) (clauses_for head (world_meant old)))
    passed next = passed_by (codes "clause") 2 (world_meant old) (clause_error (statics_of old) head body) (world_meant old, each_clause (looked_at head body next) (clauses_for head (world_meant old))) no_error

    by : (x : Applied) → AreLookedUp (may_unify_with old.database.kept head) x → IsEffectApplied (effect.Clause head body) old old x
    by Fails k = λ next. (sym (ap (λ p. p.0) (passed next)), ap (λ p. p.1) (passed next) ∙ none_found (looked_at head body next) old.database.kept head k)
    by (Clauses cs) k = λ next. (
      sym (ap (λ p. p.0) (passed next)),
      subst (λ r. AreFound (looked_at head body next) r (map shown cs.items)) (sym (ap (λ p. p.1) (passed next)))
          (match_found (λ c. None) old.database.kept head body next (map shown cs.items) k),
    )
    by Went k = absurd k
    by (Raise fault) k = absurd k
    by (Rows rows) k = absurd k
    by (Halt n) k = absurd k
