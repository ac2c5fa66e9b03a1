use Rattle.std.proofs.Common.{◌≡◌, ◌∙◌, ◌++◌, drop, sym, ap}
use Rattle.std.specs.Str.{chars}
use Rattle.std.proofs.lemmas.List.{append_cancel_right}
use Rattle.std.proofs.lemmas.List.Folds.{drop_split}
use Rattle.std.proofs.lemmas.Str.{chars-append}
use Rattle.au_model.specs.Syntax.Characters.{chars_from}
use Rattle.au_model.specs.Syntax.Words.{word_characters}
use Rattle.token_scan.specs.NextToken.{word_of}
use Rattle.token_scan.proofs.WordLemmas.{is-found, plain-is}
use Rattle.token_scan.proofs.values.spelling.Goals as goal

pub returns : goal.returns
returns c =
    let text = c.args.text.now in
    let start = c.args.token.now.start in
    let end = c.args.token.now.end in
    let seam : chars_from text start ≡ chars c.range.result.now ++ chars_from text end =
    ap chars (drop_split text start end c.requires.token.order ∙ ap (λ k. k ++ drop end text) (sym c.range.ensures.value)) ∙ chars-append c.range.result.now (drop end text) c.range.utf8 in
    let spelled : chars_from text start ≡ word_characters (word_of text c.args.token.now) ++ chars_from text end =
    plain-is (chars_from text start) (chars_from text end) c.args.token.now.kind (is-found _ _ _ _ c.requires.token.word c.requires.token.kind) c.requires.plain in
    append_cancel_right _ _ (chars_from text end) (sym seam ∙ spelled)
