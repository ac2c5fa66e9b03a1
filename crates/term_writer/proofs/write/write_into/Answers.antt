use Rattle.std.proofs.Common.{[], ◌++◌, ap, ap₂, ◌∙◌}
use Rattle.au_model.specs.Writing.Pieces.{joined_pieces, NothingYet, text_of_tokens}
use Rattle.au_model.specs.Writing.WrittenTerms.{pieces, token_text}
use Rattle.term_writer.specs.TextInProgress.{bytes_with}
use Rattle.term_writer.specs.declared.text.Front.TheVariants.{Nothing}
use Rattle.term_writer.specs.NotationView.{notation_meant}
use Rattle.term_writer.proofs.TextEndLemmas.{written_after}
use Rattle.term_writer.proofs.write.write_into.Goals as goal

pub returns-clause-ok : goal.returns-clause-ok
returns-clause-ok c =
    let old = c.new-text.result in
    let new = c.write.new.text in
    let t = c.args.term.now in
    let ps = pieces (notation_meant c.notation.result) t [] in
    let text = written_after old.style new.style old.bytes.items new.bytes.items old.front new.front ps c.in_ok-write.ensures c.new-text.ensures.front in
    let start = ap₂ (λ s bs. bytes_with s bs Nothing ps) c.new-text.ensures.style c.new-text.ensures.bytes in
    let notation = ap (λ n. text_of_tokens (token_text c.args.style) (joined_pieces NothingYet (pieces n t []))) c.notation.ensures in
    c.in_ok-extend_from_slice.ensures.items ∙ ap (λ bs. c.args.out.now.items ++ bs) (c.deref.ensures.value ∙ (text ∙ (start ∙ notation)))
