use Rattle.term_reader.specs.LexemeView.{lexeme_meant}
use Rattle.term_reader.proofs.ReaderStepLemmas.{starts}
use Rattle.term_reader.proofs.steps.primary_at.Goals as goal

pub returns : goal.returns
returns c = starts c.args.source c.args.at c.args.end c.args.apart (lexeme_meant c.args.lexeme) c.in_ok-primary.primary c.requires.next c.requires.place c.in_ok-primary.ensures.primary c.in_ok-primary.ensures.place c.in_ok-primary.ensures.named
