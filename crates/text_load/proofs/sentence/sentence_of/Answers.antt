use Rattle.std.proofs.Common.{◌∙◌, sym, ap, map}
use Rattle.au_model.specs.Terms.Named.{variable_meant}
use Rattle.text_load.specs.Sentences.{clause_of}
use Rattle.text_load.proofs.SentenceFormLemmas.{as_form, same_sentence}
use Rattle.text_load.proofs.sentence.sentence_of.Goals as goal

pub returns-in_ok-atom-in-Fact : goal.returns-in_ok-atom-in-Fact
returns-in_ok-atom-in-Fact c =
    let is = as_form (map variable_meant c.args.names.items) c.args.term _ c.top.result.now (sym c.in-Fact.is ∙ c.form_of-form.ensures) c.top.ensures in
    same_sentence c.clause-in-Fact.result _ _ (ap (clause_of c.args.term) c.in_ok-atom-in-Fact.ensures ∙ sym is) c.clause-in-Fact.ensures

pub returns-in-Rule : goal.returns-in-Rule
returns-in-Rule c =
    let is = as_form (map variable_meant c.args.names.items) c.args.term _ c.top.result.now (sym c.in-Rule.is ∙ c.form_of-form.ensures) c.top.ensures in
    same_sentence c.rule.result _ _ (sym is) c.rule.ensures

pub returns-in-Directive : goal.returns-in-Directive
returns-in-Directive c =
    let is = as_form (map variable_meant c.args.names.items) c.args.term _ c.top.result.now (sym c.in-Directive.is ∙ c.form_of-form.ensures) c.top.ensures in
    same_sentence c.directive.result _ _ (sym is) c.directive.ensures
