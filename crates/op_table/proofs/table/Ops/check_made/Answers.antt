use Rattle.std.proofs.Common.{◌≡◌, ◌∙◌, map, sym, codes, refl}
use Rattle.au_term.specs.Term.{AtomTerm}
use Rattle.au_model.specs.Terms.ErrorTerms.{permission_error}
use Rattle.op_table.specs.OperatorView.{kind_meant}
use Rattle.op_table.specs.Arguments.{is_refused, making_error}
use Rattle.op_table.proofs.ArgumentLemmas.{name_passed, name_refused, names_over, refused_is}
use Rattle.op_table.proofs.table.Ops.check_made.Goals as goal

pub returns-then-is_refused : goal.returns-then-is_refused
returns-then-is_refused c =
    let error = permission_error (codes "create") (codes "operator") in
    refused_is (making_error c.args.self.now (kind_meant c.args.kind) (map AtomTerm c.args.names.now)) (error (AtomTerm c.name-item.result)) (λ u. u ≡ u) c.not_permitted.result
    (c.loop-name.invariant ∙ name_refused (is_refused c.args.self.now (kind_meant c.args.kind)) error c.args.names.now c.loop-name.name-index c.name-item.result c.loop-name-test.true c.name-item.is (sym c.is_refused.ensures ∙ c.if-is_refused.true)) c.not_permitted.ensures

pub loop-name-preserved : goal.loop-name-preserved
loop-name-preserved c =
    c.loop-name.invariant
    ∙ name_passed (is_refused c.args.self.now (kind_meant c.args.kind)) (permission_error (codes "create") (codes "operator")) c.args.names.now c.loop-name.name-index c.name-item.result c.loop-name-test.true c.name-item.is (sym c.is_refused.ensures ∙ c.if-is_refused.false)

pub returns : goal.returns
returns c =
    (c.loop-name.invariant ∙ names_over (is_refused c.args.self.now (kind_meant c.args.kind)) (permission_error (codes "create") (codes "operator")) c.args.names.now c.loop-name.name-index c.loop-name-test.false, refl)
