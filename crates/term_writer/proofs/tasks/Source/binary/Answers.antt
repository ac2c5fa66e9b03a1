use Rattle.std.proofs.Common.{◌≡◌, ap, sym, ◌∙◌, subst}
use Rattle.au_model.specs.Writing.OperatorForms.{ListForm, binary_form}
use Rattle.std.proofs.lemmas.Result.{on_ok_weaker}
use Rattle.term_writer.specs.NotationView.{form_meant}
use Rattle.term_writer.specs.WritingSources.{notation_of_source, OpensCompound}
use Rattle.term_writer.proofs.tasks.Source.binary.Goals as goal

pub returns-in-List : goal.returns-in-List
returns-in-List c =
    let n = notation_of_source c.args.self in
    let name = c.args.name.now in
    let form : ListForm ≡ binary_form n name = sym (ap form_meant c.in-List.is) ∙ (c.binary_form.ensures ∙ ap (binary_form n) c.text.ensures) in
    on_ok_weaker c.list.result (λ h. subst (λ f. OpensCompound c.args.self c.args.at f name c.args.due.now.items c.list.new.due.items) form (h name)) c.list.ensures
