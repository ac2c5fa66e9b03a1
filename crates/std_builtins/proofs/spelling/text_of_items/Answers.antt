use Rattle.std.proofs.Common.{sym, subst}
use Rattle.std_builtins.specs.Meanings.{spelling_meant}
use Rattle.std_builtins.specs.Texts.{AreItemsRead, IsTextOfItems}
use Rattle.run_model.specs.Goals.AtomGoals.{with_text}
use Rattle.std_builtins.proofs.TextLemmas.{codes_refused, characters_read, codes_read}
use Rattle.std_builtins.proofs.spelling.text_of_items.Goals as goal
use Rattle.std_builtins.proofs.spelling.text_of_items.Goals.{in-Characters, in-Codes+in_ok-check_each-in-Codes}

pub returns-in_err-check_each-in-Codes : goal.returns-in_err-check_each-in-Codes
returns-in_err-check_each-in-Codes c = λ answer.
    subst (λ b. IsTextOfItems (with_text (spelling_meant b) c.args.items.now answer) answer c.from_residual.result) (sym c.in-Codes.is)
    (codes_refused c.args.items.now answer c.check_each.result c.in_err-check_each-in-Codes.field-0.0 c.from_residual.result c.check_each.ensures c.in_err-check_each-in-Codes.was c.from_residual.ensures.1)

pub returns : goal.returns
returns c = λ answer. elim c.match-by.branch [
  | in-Characters w ↦ subst (λ b. IsTextOfItems (with_text (spelling_meant b) c.args.items.now answer) answer c.text_of.result) (sym w.in-Characters.is)
      (characters_read c.args.items.now answer c.text_of.result (subst (λ b. AreItemsRead b c.args.items.now c.text_of.result) w.in-Characters.is c.text_of.ensures))
  | in-Codes+in_ok-check_each-in-Codes w ↦ subst (λ b. IsTextOfItems (with_text (spelling_meant b) c.args.items.now answer) answer c.text_of.result) (sym w.in-Codes.is)
      (codes_read c.args.items.now answer c.text_of.result w.in_ok-check_each-in-Codes.ensures (subst (λ b. AreItemsRead b c.args.items.now c.text_of.result) w.in-Codes.is c.text_of.ensures))
]
