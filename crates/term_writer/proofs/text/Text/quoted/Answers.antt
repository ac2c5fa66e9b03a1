use Rattle.std.proofs.Common.{◌≡◌, ◌++◌, sym, ap, ◌∙◌}
use Rattle.std.specs.Str.{chars}
use Rattle.std.proofs.lemmas.Result.{on_ok_weaker}
use Rattle.std.proofs.lemmas.Str.{encodes-chars}
use Rattle.au_model.specs.Syntax.Tokens.{QuotedName}
use Rattle.au_model.specs.Writing.WrittenTerms.{token_text}
use Rattle.term_writer.specs.TextInProgress.{needs_space, space_text}
use Rattle.term_writer.specs.declared.text.Side.TheVariants.{Other}
use Rattle.term_writer.proofs.text.Text.quoted.Goals as goal

pub returns-in-Plain-clause-bytes : goal.returns-in-Plain-clause-bytes
returns-in-Plain-clause-bytes c =
    let old = c.args.self.now in
    let name = c.args.name.now in
    let text : token_text old.style (QuotedName (chars name)) ≡ name = rw c.in-Plain.is (encodes-chars name c.utf8.name) in
    on_ok_weaker c.token.result (λ e. e ∙ ap (λ bs. old.bytes.items ++ space_text (needs_space old.front Other) ++ bs) (c.as_bytes.ensures.value ∙ sym text)) c.token.ensures.bytes
