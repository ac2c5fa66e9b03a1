use Rattle.std.proofs.Common.{Ok, subst}
use Rattle.std.proofs.lemmas.Str.{IsCharBoundary-start}
use Rattle.text_load.specs.LoadOutcome.{IsNext}
use Rattle.text_load.proofs.SentenceLemmas.{read_none, read_all, read_on, step_fails}
use Rattle.text_load.proofs.reading.loaded.Goals as goal

pub sentences-init : goal.sentences-init
sentences-init c = record {
  place = IsCharBoundary-start c.args.text.now c.utf8.text;
  read = read_none c.args.text.now c.in_ok-loading.loading c.in_ok-loading.ensures;
}

pub returns-in-Over-clause-ok : goal.returns-in-Over-clause-ok
returns-in-Over-clause-ok c =
    let over = subst (λ n. IsNext c.sentences.loading c.args.text.now c.sentences.at (Ok n)) c.in-Over.is c.in_ok-next_sentence.ensures in
    read_all c.args.text.now c.sentences.at c.sentences.loading c.sentences.invariant.read over

pub returns-in_err-loading-in-Sentence-clause-refused : goal.returns-in_err-loading-in-Sentence-clause-refused
returns-in_err-loading-in-Sentence-clause-refused c =
    let next = subst (λ n. IsNext c.sentences.loading c.args.text.now c.sentences.at (Ok n)) c.in-Sentence.is c.in_ok-next_sentence.ensures in
    step_fails c.args.text.now c.sentences.at c.in-Sentence.end c.sentences.loading c.in-Sentence.sentence next.0 c.sentences.invariant.read next.1 c.taken.result c.from_residual-in_err-loading-in-Sentence.result c.in_err-loading-in-Sentence.field-0.0
    c.taken.ensures c.in_err-loading-in-Sentence.was c.from_residual-in_err-loading-in-Sentence.ensures.1

pub sentences-preserved : goal.sentences-preserved
sentences-preserved c =
    let next = subst (λ n. IsNext c.sentences.loading c.args.text.now c.sentences.at (Ok n)) c.in-Sentence.is c.in_ok-next_sentence.ensures in
    record {
      place = next.1.spelling.place.1;
      read = read_on c.args.text.now c.sentences.at c.in-Sentence.end c.sentences.loading c.in_ok-loading-in-Sentence.loading next.0 c.in-Sentence.sentence c.sentences.invariant.read next.1 c.in_ok-loading-in-Sentence.ensures;
    }
