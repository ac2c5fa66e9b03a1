use Rattle.std.proofs.Common.{Err, sym, subst}
use Rattle.term_reader.specs.ReadTerm.{IsTermRead}
use Rattle.text_load.specs.LoadOutcome.{IsNext}
use Rattle.text_load.specs.LoadedTexts.{Loading}
use Rattle.text_load.proofs.SentenceLemmas.{unread_from}
use Rattle.text_load.proofs.reading.next_sentence.Goals as goal

pub returns-in-Err : goal.returns-in-Err
returns-in-Err c =
    let read = subst (λ (l : Loading). IsTermRead l.setting c.args.text.now c.args.at (Err c.in-Err.refused)) c.loading.view_is c.in-Err.ensures in
    subst (λ r. IsNext c.args.loading.now c.args.text.now c.args.at (Err r)) (sym c.refusal_of.ensures) (unread_from c.args.loading.now c.args.text.now c.args.at c.in-Err.refused read)
