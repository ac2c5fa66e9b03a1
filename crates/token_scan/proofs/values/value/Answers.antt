use Rattle.std.proofs.Common.{◌≡◌, sym, subst, IfOk}
use Rattle.std.specs.Str.{chars}
use Rattle.std.specs.String.{string_bytes}
use Rattle.token_scan.proofs.WordLemmas.{is-found, quoted_item}
use Rattle.token_scan.proofs.values.value.Goals as goal

pub characters-requires-clause-closed : goal.characters-requires-clause-closed
characters-requires-clause-closed c =
    (quoted_item _ _ _ c.in-Some.quote _ c.step.ensures.rest (is-found _ _ _ _ c.requires.token.word c.requires.token.kind) c.requires.quoted).closed

pub returns : goal.returns
returns c =
    let item = quoted_item _ _ _ c.in-Some.quote _ c.step.ensures.rest (is-found _ _ _ _ c.requires.token.word c.requires.token.kind) c.requires.quoted in
    subst (λ ds. IfOk c.characters.result (λ s. chars (string_bytes s) ≡ ds)) (sym item.characters) c.characters.ensures
