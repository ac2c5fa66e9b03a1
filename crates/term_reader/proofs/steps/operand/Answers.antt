use Rattle.std.proofs.Common.{◌∙◌, sym, ap, subst}
use Rattle.au_model.specs.Syntax.Characters.{chars_from}
use Rattle.term_reader.specs.PrimaryView.{setting_of}
use Rattle.term_reader.specs.LexemeView.{lexeme_meant, scan_meant, IsScan}
use Rattle.term_reader.specs.Positions.{ExpectsOperand}
use Rattle.term_reader.proofs.FaultyTokenLemmas.{bad-fault, end-fault, found-fault}
use Rattle.term_reader.proofs.NoOperandLemmas.{stuck-none}
use Rattle.term_reader.proofs.ReaderStepLemmas.{nothing-due}
use Rattle.term_reader.proofs.steps.operand.Goals as goal

pub primary_at-requires-clause-next : goal.primary_at-requires-clause-next
primary_at-requires-clause-next c = sym c.in_ok-next.ensures.scan ∙ ap (scan_meant c.args.source.text.now) c.in-Found.is

pub primary_at-requires-clause-place : goal.primary_at-requires-clause-place
primary_at-requires-clause-place c = (subst (IsScan c.args.source.text.now c.args.state.now.at) c.in-Found.is c.in_ok-next.ensures.place).0

pub returns-in_ok-primary-in-Found-clause-outcome : goal.returns-in_ok-primary-in-Found-clause-outcome
returns-in_ok-primary-in-Found-clause-outcome c = λ k st.
    c.start_primary.ensures.outcome k st (subst (IsScan c.args.source.text.now c.args.state.now.at) c.in-Found.is c.in_ok-next.ensures.place).2

pub returns-in-Bad-clause-outcome : goal.returns-in-Bad-clause-outcome
returns-in-Bad-clause-outcome c = λ k st goal w.
    nothing-due (setting_of c.args.source) k (chars_from c.args.source.text.now c.args.state.now.at) (sym c.in_ok-next.ensures.scan ∙ ap (scan_meant c.args.source.text.now) c.in-Bad.is) goal w

pub returns-in-EndOfText-clause-outcome : goal.returns-in-EndOfText-clause-outcome
returns-in-EndOfText-clause-outcome c = λ k st goal w.
    nothing-due (setting_of c.args.source) k (chars_from c.args.source.text.now c.args.state.now.at) (sym c.in_ok-next.ensures.scan ∙ ap (scan_meant c.args.source.text.now) c.in-EndOfText.is) goal w

pub returns-in_ok-primary-in-Found-clause-fault : goal.returns-in_ok-primary-in-Found-clause-fault
returns-in_ok-primary-in-Found-clause-fault c = λ first may_take_operand k st read_to.
    let text = c.args.source.text.now in
    let at = c.args.state.now.at in
    let f = c.in-Found.found in
    let found = sym c.in_ok-next.ensures.scan ∙ ap (scan_meant text) c.in-Found.is in
    let is = subst (IsScan text at) c.in-Found.is c.in_ok-next.ensures.place in
    c.start_primary.ensures.fault first may_take_operand k st read_to (λ h. found-fault (setting_of c.args.source) text first at _ f.apart (lexeme_meant f.lexeme) f.start c.unexpected-fault.result found is.2 h c.unexpected-fault.ensures.at c.unexpected-fault.ensures.kind)

pub returns-in-Bad-clause-fault : goal.returns-in-Bad-clause-fault
returns-in-Bad-clause-fault c = λ first may_take_operand k st read_to.
    let text = c.args.source.text.now in
    let none = sym c.in_ok-next.ensures.scan ∙ ap (scan_meant text) c.in-Bad.is in
    bad-fault (setting_of c.args.source) text first c.args.state.now.at c.in-Bad.bad (subst (IsScan text c.args.state.now.at) c.in-Bad.is c.in_ok-next.ensures.place)
    (stuck-none (setting_of c.args.source) text first c.args.state.now.at (ExpectsOperand k) may_take_operand read_to st.bounds tt none)

pub returns-in-EndOfText-clause-fault : goal.returns-in-EndOfText-clause-fault
returns-in-EndOfText-clause-fault c = λ first may_take_operand k st read_to.
    let text = c.args.source.text.now in
    let none = sym c.in_ok-next.ensures.scan ∙ ap (scan_meant text) c.in-EndOfText.is in
    end-fault (setting_of c.args.source) text first c.args.state.now.at (subst (IsScan text c.args.state.now.at) c.in-EndOfText.is c.in_ok-next.ensures.place)
    (stuck-none (setting_of c.args.source) text first c.args.state.now.at (ExpectsOperand k) may_take_operand read_to st.bounds tt none)
