use Rattle.std.proofs.Common.{◌∙◌, sym, ap, subst}
use Rattle.term_reader.specs.LexemeView.{lexeme_meant, scan_meant, IsScan}
use Rattle.term_reader.proofs.FaultyTokenLemmas.{found-fault, bad-fault, end-fault}
use Rattle.term_reader.proofs.refusal.refusal_of.Goals as goal

pub returns-in-Found : goal.returns-in-Found
returns-in-Found c = λ s start at e i h.
    let f = c.in-Found.found in
    let text = c.args.text.now in
    found-fault s text start at _ f.apart (lexeme_meant f.lexeme) f.start c.unexpected.result (sym e ∙ ap (scan_meant text) c.in-Found.is) (subst (IsScan text at) c.in-Found.is i).2 h c.unexpected.ensures.at c.unexpected.ensures.kind

pub returns-in-Bad : goal.returns-in-Bad
returns-in-Bad c = λ s start at e i h. bad-fault s c.args.text.now start at c.in-Bad.bad (subst (IsScan c.args.text.now at) c.in-Bad.is i) h

pub returns-in-EndOfText : goal.returns-in-EndOfText
returns-in-EndOfText c = λ s start at e i h. end-fault s c.args.text.now start at (subst (IsScan c.args.text.now at) c.in-EndOfText.is i) h
