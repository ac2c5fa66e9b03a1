use Rattle.run_model.specs.Goals.AtomGoals.{with_text}
use Rattle.run_model.specs.Goals.NumberTexts.{number_in_text, numbered_answer}
use Rattle.std_builtins.specs.Meanings.{spelling_meant}
use Rattle.std_builtins.proofs.TextLemmas.{text_refused}
use Rattle.std_builtins.proofs.numbers.number_of_items.Goals as goal

pub returns-in_err-text : goal.returns-in_err-text
returns-in_err-text c =
    text_refused (with_text (spelling_meant c.args.by) c.args.items.now (λ cs. numbered_answer c.args.number.now (number_in_text cs))) (λ cs. numbered_answer c.args.number.now (number_in_text cs)) c.text_of_items.result c.in_err-text.field-0.0 c.from_residual.result
    (c.text_of_items.ensures (λ cs. numbered_answer c.args.number.now (number_in_text cs))) c.in_err-text.was c.from_residual.ensures.1
