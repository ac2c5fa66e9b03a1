use Rattle.std.proofs.Common.{◌∙◌, ap, sym}
use Rattle.std.specs.Prelude.{codes}
use Rattle.au_model.specs.Syntax.Characters.{chars_from}
use Rattle.au_model.specs.Terms.Forms.{same_name}
use Rattle.token_scan.specs.NextToken.{word_of}
use Rattle.run_model.specs.Goals.NumberTexts.{number_read}
use Rattle.std_builtins.specs.Texts.{unsigned_number}
use Rattle.std_builtins.proofs.NumberTextLemmas.{as_found, sign_read, name_read}
use Rattle.std_builtins.proofs.numbers.signed.Goals as goal

pub returns-then-is_text : goal.returns-then-is_text
returns-then-is_text c =
    let w = word_of c.args.text.now c.args.name.now in
    let rest = chars_from c.args.text.now c.args.name.now.end in
    let same = ap (λ cs. same_name cs (codes "-")) (sym c.spelling.ensures) ∙ (sym c.is_text.ensures ∙ c.if-is_text.true) in
    as_found c.after_sign.result (unsigned_number rest) (number_read w rest) (sign_read w rest (sym c.requires.token.kind ∙ c.requires.name) same) c.after_sign.ensures

pub returns-else-is_text : goal.returns-else-is_text
returns-else-is_text c =
    let w = word_of c.args.text.now c.args.name.now in
    let rest = chars_from c.args.text.now c.args.name.now.end in
    let other = ap (λ cs. same_name cs (codes "-")) (sym c.spelling.ensures) ∙ (sym c.is_text.ensures ∙ c.if-is_text.false) in
    name_read w rest (sym c.requires.token.kind ∙ c.requires.name) other
