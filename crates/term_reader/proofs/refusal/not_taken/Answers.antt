use Rattle.std.proofs.Common.{◌∙◌, sym}
use Rattle.term_reader.specs.Expectations.{may_take_operand}
use Rattle.term_reader.specs.PrimaryView.{setting_of}
use Rattle.term_reader.specs.LexemeView.{lexeme_meant}
use Rattle.term_reader.proofs.FaultyTokenLemmas.{found-fault}
use Rattle.term_reader.proofs.RefusalLemmas.{stuck-here, stuck-after}
use Rattle.term_reader.proofs.refusal.not_taken.Goals as goal

pub returns-then-is_refused_at_frame : goal.returns-then-is_refused_at_frame
returns-then-is_refused_at_frame c = λ start k l p at h.
    c.refusal_at.ensures start (stuck-after (setting_of c.args.source) c.args.source.text.now start at c.args.end k l p (may_take_operand c.args.last_operand) h.apart (lexeme_meant c.args.lexeme.now) h.read_to h.bounds h.low h.found h.refused
    (sym c.is_refused_at_frame.ensures ∙ c.if-is_refused_at_frame.true))

pub returns : goal.returns
returns c = λ start k l p at h.
    let s = setting_of c.args.source in
    let text = c.args.source.text.now in
    let x = lexeme_meant c.args.lexeme.now in
    found-fault s text start at _ h.apart x c.args.place c.unexpected.result h.found h.starts
    (stuck-here s text start at c.args.end k l p (may_take_operand c.args.last_operand) h.apart x h.read_to h.bounds h.low h.found h.refused (sym c.is_refused_at_frame.ensures ∙ c.if-is_refused_at_frame.false) h.few) c.unexpected.ensures.at c.unexpected.ensures.kind
