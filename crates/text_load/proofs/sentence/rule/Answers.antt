use Rattle.std.proofs.Common.{◌∙◌, ap, ap₂}
use Rattle.au_term.specs.Term.{argument}
use Rattle.text_load.specs.Sentences.{clause_of}
use Rattle.text_load.proofs.SentenceFormLemmas.{same_sentence}
use Rattle.text_load.proofs.sentence.rule.Goals as goal

pub returns : goal.returns
returns c =
    let head = c.in_ok-head.ensures ∙ (c.in_ok-argument.ensures ∙ ap (argument 0) c.in_ok-term.ensures) in
    let body = c.in_ok-body.ensures ∙ (c.in_ok-argument-2.ensures ∙ ap (argument 1) c.in_ok-term.ensures) in
    same_sentence c.clause.result _ _ (ap₂ clause_of head body) c.clause.ensures
