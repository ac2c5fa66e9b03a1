use Rattle.std.proofs.Common.{[], ◌++◌, ap, ap₂, ◌∙◌}
use Rattle.au_model.specs.declared.types.Style.TheVariants.{Quoted}
use Rattle.au_model.specs.Writing.Pieces.{joined_pieces, NothingYet, quoted_text, text_of_tokens}
use Rattle.au_model.specs.Writing.WrittenTerms.{enclosed, pieces, notation_of}
use Rattle.term_writer.specs.NotationView.{cell_enclosed}
use Rattle.term_writer.specs.TextInProgress.{bytes_with}
use Rattle.term_writer.specs.declared.text.Front.TheVariants.{Nothing}
use Rattle.term_writer.proofs.TaskLemmas.{enclosed_by_cell}
use Rattle.term_writer.proofs.TextEndLemmas.{written_after}
use Rattle.term_writer.proofs.lines.push_value.Goals as goal

pub returns : goal.returns
returns c =
    let old = c.new-text.result in
    let new = c.write.new.text in
    let t = c.args.value.now in
    let n = notation_of Quoted c.args.ops.now in
    let is_shut = c.is_enclosed-is_enclosed.ensures ∙ (ap (cell_enclosed n 699) c.top.ensures ∙ enclosed_by_cell n 699 t) in
    let ps = enclosed c.is_enclosed-is_enclosed.result (pieces n t) [] in
    let text = written_after old.style new.style old.bytes.items new.bytes.items old.front new.front ps c.in_ok-write.ensures c.new-text.ensures.front in
    let start = ap₂ (λ s bs. bytes_with s bs Nothing ps) c.new-text.ensures.style c.new-text.ensures.bytes in
    let shut = ap (λ b. text_of_tokens quoted_text (joined_pieces NothingYet (enclosed b (pieces n t) []))) is_shut in
    c.in_ok-extend_from_slice.ensures.items ∙ ap (λ bs. c.args.line.now.items ++ bs) (c.deref.ensures.value ∙ (text ∙ (start ∙ shut)))
