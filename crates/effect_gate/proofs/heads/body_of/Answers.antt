use Rattle.std.proofs.Common.{◌≡◌, IfOk, subst, sym}
use Rattle.au_term.specs.Term.{argument}
use Rattle.au_term.specs.PrefixOrder.{term_of}
use Rattle.run_model.specs.Goals.DatabaseGoals.{body_in}
use Rattle.effect_gate.proofs.HeadLemmas.{copied_cells, body_there}
use Rattle.effect_gate.proofs.heads.body_of.Goals as goal

pub returns-then-has_body : goal.returns-then-has_body
returns-then-has_body c =
    let t = c.args.clause.now in
    copied_cells (argument 1 t) (body_in t) c.from_slice.result (body_there t (sym c.if-has_body.ensures)) (subst (λ cs. IfOk c.from_slice.result (λ x. x ≡ term_of cs)) c.arg.ensures.cells c.from_slice.ensures.term)
