use Rattle.std.proofs.Common.{◌≡◌, ◌∙◌, [], ◌∷◌, ◌++◌, IfOk, ap, subst}
use Rattle.std.specs.Str.{chars}
use Rattle.std.specs.String.{string_bytes}
use Rattle.std.proofs.lemmas.Str.{chars-nil, IsUtf8-string_bytes}
use Rattle.token_scan.proofs.QuotedItemLemmas.{chars-put}
use Rattle.term_reader.proofs.output.char_atom.Goals as goal

pub returns : goal.returns
returns c =
    let x = c.args.c in
    let e = ap chars (c.as_str.ensures.value ∙ c.in_ok-push.ensures.bytes) ∙ (chars-put (string_bytes c.new-text.result) x (IsUtf8-string_bytes c.new-text.result) c.ranges.c.0
    ∙ ap (λ ys. ys ++ x ∷ []) (ap chars c.new-text.ensures.bytes ∙ chars-nil)) in
    subst (λ ds. IfOk c.new.result (λ a. a ≡ ds)) e c.new.ensures
