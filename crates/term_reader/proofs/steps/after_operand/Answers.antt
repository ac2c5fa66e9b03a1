use Rattle.std.proofs.Common.{◌∙◌, sym, ap, subst}
use Rattle.au_model.specs.Syntax.Characters.{chars_from}
use Rattle.term_reader.specs.Expectations.{may_take_operand}
use Rattle.term_reader.specs.PrimaryView.{setting_of}
use Rattle.term_reader.specs.LexemeView.{scan_meant, IsScan}
use Rattle.term_reader.specs.Positions.{AfterOperand}
use Rattle.term_reader.proofs.FaultyTokenLemmas.{bad-fault, end-fault}
use Rattle.term_reader.proofs.NoOperandLemmas.{stuck-none}
use Rattle.term_reader.proofs.ReaderStepLemmas.{nothing-there}
use Rattle.term_reader.proofs.steps.after_operand.Goals as goal

pub with_token-requires-clause-next : goal.with_token-requires-clause-next
with_token-requires-clause-next c = sym c.in_ok-next.ensures.scan ∙ ap (scan_meant c.args.source.text.now) c.in-Found.is

pub with_token-requires-clause-place : goal.with_token-requires-clause-place
with_token-requires-clause-place c = (subst (IsScan c.args.source.text.now c.args.state.now.at) c.in-Found.is c.in_ok-next.ensures.place).0

pub returns-in-Bad-clause-outcome : goal.returns-in-Bad-clause-outcome
returns-in-Bad-clause-outcome c = λ k l st goal g.
    nothing-there (setting_of c.args.source) k l c.args.priority (chars_from c.args.source.text.now c.args.state.now.at) (sym c.in_ok-next.ensures.scan ∙ ap (scan_meant c.args.source.text.now) c.in-Bad.is) goal g

pub returns-in-EndOfText-clause-outcome : goal.returns-in-EndOfText-clause-outcome
returns-in-EndOfText-clause-outcome c = λ k l st goal g.
    nothing-there (setting_of c.args.source) k l c.args.priority (chars_from c.args.source.text.now c.args.state.now.at) (sym c.in_ok-next.ensures.scan ∙ ap (scan_meant c.args.source.text.now) c.in-EndOfText.is) goal g

pub returns-in-Found-clause-fault : goal.returns-in-Found-clause-fault
returns-in-Found-clause-fault c = λ first k l st read_to.
    c.with_token.ensures.fault first k l st read_to (subst (IsScan c.args.source.text.now c.args.state.now.at) c.in-Found.is c.in_ok-next.ensures.place).2

pub returns-in-Bad-clause-fault : goal.returns-in-Bad-clause-fault
returns-in-Bad-clause-fault c = λ first k l st read_to.
    let text = c.args.source.text.now in
    let none = sym c.in_ok-next.ensures.scan ∙ ap (scan_meant text) c.in-Bad.is in
    bad-fault (setting_of c.args.source) text first c.args.state.now.at c.in-Bad.bad (subst (IsScan text c.args.state.now.at) c.in-Bad.is c.in_ok-next.ensures.place)
    (stuck-none (setting_of c.args.source) text first c.args.state.now.at (AfterOperand k l c.args.priority) (may_take_operand c.args.last_operand) read_to st.bounds st.low none)

pub returns-in-EndOfText-clause-fault : goal.returns-in-EndOfText-clause-fault
returns-in-EndOfText-clause-fault c = λ first k l st read_to.
    let text = c.args.source.text.now in
    let none = sym c.in_ok-next.ensures.scan ∙ ap (scan_meant text) c.in-EndOfText.is in
    end-fault (setting_of c.args.source) text first c.args.state.now.at (subst (IsScan text c.args.state.now.at) c.in-EndOfText.is c.in_ok-next.ensures.place)
    (stuck-none (setting_of c.args.source) text first c.args.state.now.at (AfterOperand k l c.args.priority) (may_take_operand c.args.last_operand) read_to st.bounds st.low none)
