use Rattle.std.proofs.Common.{◌≡◌, ◌∙◌, map, sym, codes, refl}
use Rattle.au_term.specs.Term.{AtomTerm}
use Rattle.au_model.specs.Terms.Forms.{same_name, name_of}
use Rattle.au_model.specs.Terms.ErrorTerms.{permission_error}
use Rattle.op_table.specs.Arguments.{comma_error}
use Rattle.op_table.proofs.ArgumentLemmas.{name_passed, name_refused, names_over, refused_is}
use Rattle.op_table.proofs.table.check_comma.Goals as goal

pub returns-then-is_text : goal.returns-then-is_text
returns-then-is_text c =
    let error = permission_error (codes "modify") (codes "operator") in
    refused_is (comma_error (map AtomTerm c.args.names.now)) (error (AtomTerm c.name-item.result)) (λ u. u ≡ u) c.not_permitted.result
    (c.loop-name.invariant ∙ name_refused (λ name. same_name (name_of name) (codes ",")) error c.args.names.now c.loop-name.name-index c.name-item.result c.loop-name-test.true c.name-item.is (sym c.is_text.ensures ∙ c.if-is_text.true)) c.not_permitted.ensures

pub loop-name-preserved : goal.loop-name-preserved
loop-name-preserved c =
    c.loop-name.invariant
    ∙ name_passed (λ name. same_name (name_of name) (codes ",")) (permission_error (codes "modify") (codes "operator")) c.args.names.now c.loop-name.name-index c.name-item.result c.loop-name-test.true c.name-item.is (sym c.is_text.ensures ∙ c.if-is_text.false)

pub returns : goal.returns
returns c =
    (c.loop-name.invariant ∙ names_over (λ name. same_name (name_of name) (codes ",")) (permission_error (codes "modify") (codes "operator")) c.args.names.now c.loop-name.name-index c.loop-name-test.false, refl)
