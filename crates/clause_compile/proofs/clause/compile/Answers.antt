use Rattle.std.proofs.Common.{◌∙◌, sym, subst}
use Rattle.std.specs.Arc.{arc_value}
use Rattle.clause_compile.specs.CompiledClauses.{IsNumberedClause}
use Rattle.clause_compile.proofs.RenumberingLemmas.{callable_by}
use Rattle.clause_compile.proofs.CompiledClauseLemmas.{own_body_of}
use Rattle.clause_compile.proofs.clause.compile.Goals as goal

pub numbered_clause-requires-clause-body : goal.numbered_clause-requires-clause-body
numbered_clause-requires-clause-body c = own_body_of c.args.body.now c.in-Some.kept (sym c.in-Some.is ∙ c.in_ok-kept.ensures)

pub returns : goal.returns
returns c = (
  callable_by c.args.head.now (λ n e. c.in_default.not-Var n (c.top.ensures ∙ e)) (λ z e. c.in_default.not-Int z (c.top.ensures ∙ e)),
  subst (λ o. IsNumberedClause c.args.head.now o (arc_value c.in_ok-new.field-0)) (sym c.in-Some.is ∙ c.in_ok-kept.ensures) (c.in_ok-new.ensures.ok ∙ c.in_ok-numbered_clause.ensures),
)
