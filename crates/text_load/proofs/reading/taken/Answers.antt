use Rattle.std.proofs.Common.{Err, subst}
use Rattle.text_load.specs.LoadedSentences.{IsTaken, sentence_meant}
use Rattle.text_load.specs.LoadedTexts.{taken}
use Rattle.text_load.specs.declared.loading.Untaken.{Untaken}
use Rattle.text_load.proofs.SentenceLemmas.{blamed}
use Rattle.text_load.proofs.reading.taken.Goals as goal

pub returns-in-Err-Fault : goal.returns-in-Err-Fault
returns-in-Err-Fault c =
    let bad = subst (λ (e : Untaken). IsTaken (λ l. l) (taken c.args.loading (sentence_meant c.args.sentence)) (Err e)) c.in-Err-Fault.field-0-is c.in-Err-Fault.ensures in
    blamed c.args.loading (sentence_meant c.args.sentence) c.args.text.now c.args.at c.first_token.result c.line_and_column-line.result.0 c.line_and_column-line.result.1 c.in-Err-Fault.kind bad (c.first_token.ensures.begins c.args.loading.setting) c.line_and_column-line.ensures
