-- Clauses that are added to procedures that are not static.
use Rattle.std.proofs.Common.{◌≡◌, false, [], ◌∷◌, ◌++◌, Option, Some, None, sym, ap, ap₂, ◌∙◌, subst, codes}
use Rattle.au_term.specs.Term.{Term, argument_count}
use Rattle.au_term.proofs.LogicLemmas.{or-right}
use Rattle.au_model.specs.Terms.Forms.{name_of, indicator}
use Rattle.au_model.specs.Syntax.OperatorChanges.{first_error}
use Rattle.run_model.specs.Programs.Bodies.{body_of}
use Rattle.run_model.specs.Programs.Clauses.{Clause}
use Rattle.run_model.specs.Programs.Databases.{Database}
use Rattle.run_model.specs.Programs.DatabaseChanges.{with_first_clause, with_last_clause}
use Rattle.run_model.specs.Goals.DatabaseGoals.{assertion_error, body_in, head_errors, head_in, modify_error, no_body_error, static_error, with_clause_by}
use Rattle.run_model.specs.Goals.WorldConstructs.{holds_once}
use Rattle.run_model.specs.Goals.Worlds.{is_reserved}
use Rattle.clause_compile.specs.CompiledClauses.{IsNumberedClause}
use Rattle.dyn_clauses.specs.ClauseEnds.{indicator_of}
use Rattle.dyn_clauses.specs.DatabaseView.{KnownDatabase, is_static}
use Rattle.effect_gate.specs.Effects.{IsEffectApplied, statics_of, world_meant}
use Rattle.effect_gate.specs.Refusals.{IsKeptClause, adding, assertion}
use Rattle.effect_gate.specs.declared.assertion.End.{End}
use Rattle.effect_gate.specs.declared.assertion.End.TheVariants.{First, Last}
use Rattle.effect_gate.specs.declared.world.World.{World}
use Rattle.effect_gate.specs.declared.world.Applied.TheVariants.{Went}
use Rattle.effect_gate.proofs.HeadLemmas.{procedure_kept}
use Rattle.effect_gate.proofs.RefusalLemmas.{Raises, front_none, front_some, one_error, passed_by, raised_by, test_passed}

-- a head whose procedure may be changed
pub may_be_changed : (old : World) (head body : Term) (c : Clause) → IsKeptClause head body c → static_error (statics_of old) modify_error head ≡ None → is_static old.database.statics (indicator_of c) ≡ false
may_be_changed old head body c k h =
    let names = procedure_kept head (body_of body) c k.0 k.1 in
    let free : statics_of old (name_of head) (argument_count head) ≡ false = test_passed (statics_of old (name_of head) (argument_count head)) (modify_error (indicator (name_of head) (argument_count head))) h in
    ap₂ (λ name arity. is_static old.database.statics (record { name = name; arity = arity })) names.0 names.1
    ∙ or-right (is_reserved (name_of head) (argument_count head)) (is_static old.database.statics (record { name = name_of head; arity = argument_count head })) free

-- the errors of a head and a body come before that of a static procedure
abbrev pub term_errors : Term → Term → Option Term
term_errors head body = first_error (head_errors head ++ no_body_error body ∷ [])

pub refused_terms : (old : World) (head body : Term) (e : Term) → term_errors head body ≡ Some e → assertion_error (statics_of old) head body ≡ Some e
refused_terms old head body e h = front_some (head_errors head ++ no_body_error body ∷ []) (static_error (statics_of old) modify_error head ∷ []) e h

pub taken_terms : (old : World) (head body : Term) → term_errors head body ≡ None → assertion_error (statics_of old) head body ≡ static_error (statics_of old) modify_error head
taken_terms old head body h =
    front_none (head_errors head ++ no_body_error body ∷ []) (static_error (statics_of old) modify_error head ∷ []) h
    ∙ one_error (static_error (statics_of old) modify_error head)

pub assertion_raises : (end : End) (old : World) (t head body : Term) → head ≡ head_in t → body ≡ body_in t → Raises (assertion end t) old (assertion_error (statics_of old) head body)
assertion_raises First old t head body h b fault e = λ next. raised_by (codes "asserta") 1 (world_meant old) (assertion_error (statics_of old) (head_in t) (body_in t)) _ _ (ap₂ (assertion_error (statics_of old)) (sym h) (sym b) ∙ e)
assertion_raises Last old t head body h b fault e = λ next. raised_by (codes "assertz") 1 (world_meant old) (assertion_error (statics_of old) (head_in t) (body_in t)) _ _ (ap₂ (assertion_error (statics_of old)) (sym h) (sym b) ∙ e)

added : (add : Database → Clause → Database) (head : Term) (o : Option Term) (c : Clause) (db : Database) → IsNumberedClause head o c → with_clause_by add head o db ≡ add db c
added add head None c db n = absurd n
added add head (Some body) c db n = ap (add db) (sym n)

-- the world with the clause
module _ (old : World) (database : KnownDatabase) (t head body : Term) (c : Clause) (h : head ≡ head_in t) (b : body ≡ body_in t) (no_error : assertion_error (statics_of old) head body ≡ None) (kept : IsKeptClause head body c) where
  none : assertion_error (statics_of old) (head_in t) (body_in t) ≡ None
  none = ap₂ (assertion_error (statics_of old)) (sym h) (sym b) ∙ no_error

  made : IsNumberedClause (head_in t) (body_of (body_in t)) c
  made = subst (λ x. IsNumberedClause x (body_of (body_in t)) c) h (subst (λ x. IsNumberedClause head (body_of x) c) b kept.1)

  pub assertion_done : (end : End) → database ≡ record old.database { kept = adding end old.database.kept c } → IsEffectApplied (assertion end t) old (record old { database = database }) Went
  assertion_done First d = λ next.
      let same = passed_by (codes "asserta") 1 (world_meant old) (assertion_error (statics_of old) (head_in t) (body_in t))
      (record (world_meant old) { database = with_clause_by with_first_clause (head_in t) (body_of (body_in t)) old.database.kept }, holds_once) none in (
        ap (λ (k : KnownDatabase). record (world_meant old) { database = k.kept }) d
            ∙ (ap (λ x. record (world_meant old) { database = x }) (sym (added with_first_clause (head_in t) (body_of (body_in t)) c old.database.kept made)) ∙ sym (ap (λ p. p.0) same)),
        ap (λ p. p.1) same,
      )
  assertion_done Last d = λ next.
      let same = passed_by (codes "assertz") 1 (world_meant old) (assertion_error (statics_of old) (head_in t) (body_in t))
      (record (world_meant old) { database = with_clause_by with_last_clause (head_in t) (body_of (body_in t)) old.database.kept }, holds_once) none in (
        ap (λ (k : KnownDatabase). record (world_meant old) { database = k.kept }) d
            ∙ (ap (λ x. record (world_meant old) { database = x }) (sym (added with_last_clause (head_in t) (body_of (body_in t)) c old.database.kept made)) ∙ sym (ap (λ p. p.0) same)),
        ap (λ p. p.1) same,
      )
