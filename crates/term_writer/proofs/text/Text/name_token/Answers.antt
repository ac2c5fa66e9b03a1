use Rattle.std.proofs.Common.{◌++◌, sym, ap₂, ◌∙◌}
use Rattle.std.proofs.lemmas.Result.{on_ok_weaker}
use Rattle.term_writer.specs.TextInProgress.{needs_space, space_text}
use Rattle.term_writer.proofs.NameTokenLemmas.{symbol_token, letter_token, solo_token}
use Rattle.term_writer.proofs.text.Text.name_token.Goals as goal

pub returns-then-is_symbol_name-clause-bytes : goal.returns-then-is_symbol_name-clause-bytes
returns-then-is_symbol_name-clause-bytes c =
    let old = c.args.self.now in
    let t = symbol_token old.style c.args.name.now c.utf8.name (sym c.is_symbol_name.ensures ∙ c.if-is_symbol_name.true) in
    on_ok_weaker c.token.result (λ e. e ∙ ap₂ (λ s bs. old.bytes.items ++ space_text (needs_space old.front s) ++ bs) (sym t.sides) (c.as_bytes.ensures.value ∙ sym t.text)) c.token.ensures.bytes

pub returns-then-is_letter_name-clause-bytes : goal.returns-then-is_letter_name-clause-bytes
returns-then-is_letter_name-clause-bytes c =
    let old = c.args.self.now in
    let t = letter_token old.style c.args.name.now c.utf8.name (sym c.is_symbol_name.ensures ∙ c.if-is_symbol_name.false) (sym c.is_letter_name.ensures ∙ c.if-is_letter_name.true) in
    on_ok_weaker c.token-then-is_letter_name.result (λ e. e ∙ ap₂ (λ s bs. old.bytes.items ++ space_text (needs_space old.front s) ++ bs) (sym t.sides) (c.as_bytes-then-is_letter_name.ensures.value ∙ sym t.text)) c.token-then-is_letter_name.ensures.bytes

pub returns-then-is_solo_name-clause-bytes : goal.returns-then-is_solo_name-clause-bytes
returns-then-is_solo_name-clause-bytes c =
    let old = c.args.self.now in
    let t = solo_token old.style c.args.name.now c.utf8.name (sym c.is_symbol_name.ensures ∙ c.if-is_symbol_name.false) (sym c.is_letter_name.ensures ∙ c.if-is_letter_name.false) (sym c.is_solo_name.ensures ∙ c.if-is_solo_name.true) in
    on_ok_weaker c.token-then-is_solo_name.result (λ e. e ∙ ap₂ (λ s bs. old.bytes.items ++ space_text (needs_space old.front s) ++ bs) (sym t.sides) (c.as_bytes-then-is_solo_name.ensures.value ∙ sym t.text)) c.token-then-is_solo_name.ensures.bytes
