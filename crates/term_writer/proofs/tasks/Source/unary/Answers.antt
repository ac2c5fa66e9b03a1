use Rattle.std.proofs.Common.{◌≡◌, ap, sym, ◌∙◌, subst}
use Rattle.au_model.specs.Writing.OperatorForms.{BracedForm, unary_form}
use Rattle.std.proofs.lemmas.Result.{on_ok_weaker}
use Rattle.term_writer.specs.NotationView.{form_meant}
use Rattle.term_writer.specs.WritingSources.{notation_of_source, OpensCompound}
use Rattle.term_writer.proofs.tasks.Source.unary.Goals as goal

pub returns-in-Braces : goal.returns-in-Braces
returns-in-Braces c =
    let n = notation_of_source c.args.self in
    let name = c.args.name.now in
    let form : BracedForm ≡ unary_form n name = sym (ap form_meant c.in-Braces.is) ∙ (c.unary_form.ensures ∙ ap (unary_form n) c.text.ensures) in
    on_ok_weaker c.braces.result (λ h. subst (λ f. OpensCompound c.args.self c.args.at f name c.args.due.now.items c.braces.new.due.items) form (h name)) c.braces.ensures
