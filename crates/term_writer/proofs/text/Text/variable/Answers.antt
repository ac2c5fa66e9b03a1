use Rattle.std.proofs.Common.{◌≡◌, ◌∷◌, [], ◌++◌, sym, ap, ap₂, ◌∙◌, append_assoc, refl, lit<}
use Rattle.std.specs.Fmt.{decimal}
use Rattle.std.specs.Str.{encode_utf8_all}
use Rattle.std.proofs.lemmas.Str.{encode_ascii, encodes-IsAscii}
use Rattle.std.specs.Str.{IsAscii}
use Rattle.std.proofs.Common.{subst}
use Rattle.au_model.specs.Writing.WrittenTerms.{variable_token}
use Rattle.term_writer.specs.TextInProgress.{space_text, needs_space}
use Rattle.term_writer.specs.declared.text.Side.TheVariants.{Letters}
use Rattle.term_writer.proofs.SeamLemmas.{token_put, same_text}
use Rattle.term_writer.proofs.text.Text.variable.Goals as goal

pub returns : goal.returns
returns c = λ ps.
    let n = c.args.number in
    let old = c.args.self.now in
    let front = old.bytes.items ++ space_text (needs_space old.front Letters) in
    let digits : c.as_bytes.result.now ≡ decimal n = c.as_bytes.ensures.value ∙ c.format.ensures.text in
    let ascii : encode_utf8_all (decimal n) ≡ decimal n = encodes-IsAscii (decimal n) (subst IsAscii c.format.ensures.text c.format.ensures.ascii) in
    let text : encode_utf8_all (95 ∷ decimal n) ≡ 95 ∷ decimal n = ap₂ (λ cs ds. cs ++ ds) (encode_ascii 95 (lit< tt)) ascii in
    token_put old.style _ old.bytes.items _ old.front _ (variable_token n)
    (c.in_ok-extend_from_slice.ensures.items ∙ (ap₂ (λ bs ds. bs ++ ds) c.in_ok-token.ensures.bytes digits ∙ (append_assoc front (95 ∷ []) (decimal n) ∙ ap (λ t. front ++ t) (sym (same_text old.style (variable_token n) refl ∙ text)))))
    c.token.ensures.style c.in_ok-token.ensures.front ps
