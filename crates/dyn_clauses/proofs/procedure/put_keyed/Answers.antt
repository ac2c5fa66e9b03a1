use Rattle.std.proofs.Common.{◌∙◌, ap, refl}
use Rattle.run_model.specs.Programs.Clauses.{Clause as ClauseTerms}
use Rattle.proc_index.specs.Keys.{head_key}
use Rattle.dyn_clauses.specs.declared.procedure.KeyedClause.{KeyedClause}
use Rattle.dyn_clauses.proofs.ProcedureLemmas.{put_is, put_placed}
use Rattle.dyn_clauses.proofs.procedure.put_keyed.Goals as goal

pub returns-clause-kept : goal.returns-clause-kept
returns-clause-kept c =
    let kept : KeyedClause = record { clause = c.args.clause; key = c.in_ok-key.key } in
    put_is c.args.clauses.now c.insert.new.self c.args.index.now c.note.new.index c.args.position c.in_ok-key.key c.requires.kept kept refl
    (c.in_ok-key.ensures ∙ (ap head_key c.head.ensures.head ∙ ap (λ (d : ClauseTerms). head_key d.head) c.deref.ensures)) c.requires.absent c.in_default.ensures.entries c.in_default.ensures.updates.0 c.in_default.ensures.ordered c.in_ok-note.ensures.ok

pub returns-clause-ok : goal.returns-clause-ok
returns-clause-ok c =
    let kept : KeyedClause = record { clause = c.args.clause; key = c.in_ok-key.key } in
    put_placed c.args.clauses.now c.insert.new.self c.args.position kept c.in_default.ensures.entries
