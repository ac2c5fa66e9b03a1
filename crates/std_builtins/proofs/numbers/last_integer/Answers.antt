use Rattle.std.proofs.Common.{◌∙◌, ap, sym, Some}
use Rattle.std.proofs.lemmas.Str.{IsUtf8-drop}
use Rattle.std_builtins.proofs.NumberTextLemmas.{last_found, more_found, chars_over, chars_more}
use Rattle.au_model.specs.Syntax.Characters.{chars_from}
use Rattle.token_scan.specs.NextToken.{word_of}
use Rattle.std_builtins.proofs.numbers.last_integer.Goals as goal

pub returns-then-token-text-clause-number : goal.returns-then-token-text-clause-number
returns-then-token-text-clause-number c =
    let text = c.args.text.now in
    let t = c.args.token.now in
    more_found (word_of text t) (chars_from text t.end) (chars_more text t.end (IsUtf8-drop text t.end c.utf8.text c.requires.last) c.if-token-text.true)

pub returns-in-Integer-clause-number : goal.returns-in-Integer-clause-number
returns-in-Integer-clause-number c =
    let text = c.args.text.now in
    let t = c.args.token.now in
    ap Some c.integer.ensures.number ∙ last_found (word_of text t) (chars_from text t.end) (sym c.requires.kind ∙ c.in-Integer.is) (chars_over text t.end c.if-token-text.false)
