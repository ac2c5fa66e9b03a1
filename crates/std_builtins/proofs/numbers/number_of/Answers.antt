use Rattle.std.proofs.Common.{◌∙◌, ap, sym}
use Rattle.std.specs.Prelude.{option_and_then}
use Rattle.std.specs.Str.{chars}
use Rattle.std.proofs.lemmas.Str.{IsCharBoundary-start}
use Rattle.au_model.specs.Syntax.Characters.{chars_from}
use Rattle.token_scan.specs.NextToken.{word_of}
use Rattle.run_model.specs.Goals.NumberTexts.{number_found, number_read, number_in_text, without_sign}
use Rattle.std_builtins.proofs.NumberTextLemmas.{as_found, other_read}
use Rattle.std_builtins.proofs.numbers.number_of.Goals as goal
use Rattle.token_scan.proofs.WordLemmas.{next_word-found as found}

pub next_token-requires : goal.next_token-requires
next_token-requires c = IsCharBoundary-start c.args.text.now c.utf8.text

pub returns-in-Name : goal.returns-in-Name
returns-in-Name c =
    let text = c.args.text.now in
    let t = c.in-Ok.first in
    as_found c.signed.result (number_read (word_of text t) (chars_from text t.end)) (number_in_text (chars text)) (sym (ap number_found (found text 0 t c.in-Ok.ensures.token))) c.signed.ensures

pub returns-in-Some : goal.returns-in-Some
returns-in-Some c =
    let text = c.args.text.now in
    let t = c.in-Ok.first in
    let read = other_read (word_of text t) (chars_from text t.end) (λ e. c.in_default-kind.not-Name (c.in-Ok.ensures.token.token.kind ∙ e)) in
    as_found c.without_sign.result (without_sign c.in-Some.number) (number_in_text (chars text)) (ap (option_and_then without_sign) c.in-Some.ensures.number ∙ (read ∙ sym (ap number_found (found text 0 t c.in-Ok.ensures.token)))) c.without_sign.ensures

pub returns-in-None : goal.returns-in-None
returns-in-None c =
    let text = c.args.text.now in
    let t = c.in-Ok.first in
    let read = other_read (word_of text t) (chars_from text t.end) (λ e. c.in_default-kind.not-Name (c.in-Ok.ensures.token.token.kind ∙ e)) in
    ap number_found (found text 0 t c.in-Ok.ensures.token) ∙ (sym read ∙ ap (option_and_then without_sign) (sym c.in-None.ensures.number))
