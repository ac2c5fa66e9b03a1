use Rattle.std.specs.Str.{chars}
use Rattle.au_model.specs.Writing.WrittenTerms.{name_token}
use Rattle.term_writer.proofs.SeamLemmas.{token_put}
use Rattle.term_writer.proofs.text.Text.word.Goals as goal

pub returns : goal.returns
returns c = λ ps.
    let old = c.args.self.now in
    token_put old.style _ old.bytes.items _ old.front _ (name_token (chars c.args.name.now)) c.in_ok-name_token.ensures.bytes c.in_ok-name_token.ensures.style c.in_ok-name_token.ensures.front ps
