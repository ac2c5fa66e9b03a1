use Rattle.std.proofs.Common.{codes, sym, ap, ◌∙◌}
use Rattle.std.proofs.lemmas.Result.{on_ok_weaker}
use Rattle.std.specs.Str.{encode_utf8_all, chars}
use Rattle.std.specs.String.{string_bytes}
use Rattle.std.proofs.lemmas.Str.{encodes-chars}
use Rattle.au_model.specs.Writing.WrittenTerms.{written_as_value}
use Rattle.term_writer.proofs.AnswerLineLemmas.{binding_text}
use Rattle.term_writer.proofs.lines.push_binding.Goals as goal

pub returns : goal.returns
returns c =
    let name = string_bytes c.args.name.now.text in
    let text = c.as_bytes.ensures.value ∙ (sym (encodes-chars c.as_str.result.now c.as_str.utf8) ∙ ap (λ b. encode_utf8_all (chars b)) c.as_str.ensures.value) in
    on_ok_weaker c.push_value.result (λ k. k ∙ binding_text c.args.line.now.items c.as_bytes.result.now (encode_utf8_all (chars name)) (codes " = ") (written_as_value c.args.ops.now c.args.value.now) c.extend_from_slice.new.self.items c.extend_from_slice-2.new.self.items text c.in_ok-extend_from_slice.ensures.items c.in_ok-extend_from_slice-2.ensures.items) c.push_value.ensures
