use Rattle.std.proofs.Common.{ℕ, List, IfOk, sym, subst}
use Rattle.au_model.specs.Syntax.Trees.{Tree}
use Rattle.term_reader.specs.PrimaryView.{setting_of}
use Rattle.term_reader.specs.Completion as stack
use Rattle.term_reader.specs.Refusals.{IsFaultAtFrame, RefusesFirstFault}
use Rattle.term_reader.specs.ReaderSteps.{IsFrameClosing}
use Rattle.term_reader.proofs.FrameEndLemmas.{prefix-shut, infix-shut}
use Rattle.term_reader.proofs.steps.close_frame.Goals as goal

pub returns-in-Round-clause-outcome : goal.returns-in-Round-clause-outcome
returns-in-Round-clause-outcome c = λ k l p h.
    c.close_round.ensures.outcome k l p (subst (λ f. IsFrameClosing c.args.source c.args.state.now f k l p c.args.token c.args.end) c.in-Round.is h)

pub returns-in-Curly-clause-outcome : goal.returns-in-Curly-clause-outcome
returns-in-Curly-clause-outcome c = λ k l p h.
    c.close_curly.ensures.outcome k l p (subst (λ f. IsFrameClosing c.args.source c.args.state.now f k l p c.args.token c.args.end) c.in-Curly.is h)

pub returns-in-Item-clause-outcome : goal.returns-in-Item-clause-outcome
returns-in-Item-clause-outcome c = λ k l p h.
    c.close_item.ensures.outcome k l p (subst (λ f. IsFrameClosing c.args.source c.args.state.now f k l p c.args.token c.args.end) c.in-Item.is h)

pub returns-in-Tail-clause-outcome : goal.returns-in-Tail-clause-outcome
returns-in-Tail-clause-outcome c = λ k l p h.
    c.close_tail.ensures.outcome k l p (subst (λ f. IsFrameClosing c.args.source c.args.state.now f k l p c.args.token c.args.end) c.in-Tail.is h)

pub returns-in-Argument-clause-outcome : goal.returns-in-Argument-clause-outcome
returns-in-Argument-clause-outcome c = λ k l p h.
    c.close_argument.ensures.outcome k l p (subst (λ f. IsFrameClosing c.args.source c.args.state.now f k l p c.args.token c.args.end) c.in-Argument.is h)

pub returns-in-Prefix-clause-outcome : goal.returns-in-Prefix-clause-outcome
returns-in-Prefix-clause-outcome c = λ k l p h goal g.
    prefix-shut c.args.source c.args.state.now c.args.state.now k l p c.args.token c.args.end _ _ (subst (λ f. IsFrameClosing c.args.source c.args.state.now f k l p c.args.token c.args.end) c.in-Prefix.is h)

pub returns-clause-outcome : goal.returns-clause-outcome
returns-clause-outcome c = λ k l p h goal g.
    infix-shut c.args.source c.args.state.now c.args.state.now k l p c.args.token c.args.end _ _ (subst (λ f. IsFrameClosing c.args.source c.args.state.now f k l p c.args.token c.args.end) c.in-Infix.is h)

pub returns-in-Round-clause-fault : goal.returns-in-Round-clause-fault
returns-in-Round-clause-fault c =
    subst (λ f. (first : ℕ) (k : List stack.OpenFrame) (l : Tree) (p : ℕ) (h : IsFrameClosing c.args.source c.args.state.now f k l p c.args.token c.args.end) → IsFaultAtFrame c.args.source first c.args.state.now f k l p c.args.token c.args.end h c.args.refused → RefusesFirstFault (setting_of c.args.source) c.args.source.text.now first c.close_round.result) (sym c.in-Round.is)
    (λ first k l p h refused. c.close_round.ensures.fault first k l p h refused)

pub returns-in-Curly-clause-fault : goal.returns-in-Curly-clause-fault
returns-in-Curly-clause-fault c =
    subst (λ f. (first : ℕ) (k : List stack.OpenFrame) (l : Tree) (p : ℕ) (h : IsFrameClosing c.args.source c.args.state.now f k l p c.args.token c.args.end) → IsFaultAtFrame c.args.source first c.args.state.now f k l p c.args.token c.args.end h c.args.refused → IfOk c.close_curly.result (λ t. RefusesFirstFault (setting_of c.args.source) c.args.source.text.now first t)) (sym c.in-Curly.is)
    (λ first k l p h refused. c.close_curly.ensures.fault first k l p h refused)

pub returns-in-Item-clause-fault : goal.returns-in-Item-clause-fault
returns-in-Item-clause-fault c =
    subst (λ f. (first : ℕ) (k : List stack.OpenFrame) (l : Tree) (p : ℕ) (h : IsFrameClosing c.args.source c.args.state.now f k l p c.args.token c.args.end) → IsFaultAtFrame c.args.source first c.args.state.now f k l p c.args.token c.args.end h c.args.refused → IfOk c.close_item.result (λ t. RefusesFirstFault (setting_of c.args.source) c.args.source.text.now first t)) (sym c.in-Item.is)
    (λ first k l p h refused. c.close_item.ensures.fault first k l p h refused)

pub returns-in-Tail-clause-fault : goal.returns-in-Tail-clause-fault
returns-in-Tail-clause-fault c =
    subst (λ f. (first : ℕ) (k : List stack.OpenFrame) (l : Tree) (p : ℕ) (h : IsFrameClosing c.args.source c.args.state.now f k l p c.args.token c.args.end) → IsFaultAtFrame c.args.source first c.args.state.now f k l p c.args.token c.args.end h c.args.refused → IfOk c.close_tail.result (λ t. RefusesFirstFault (setting_of c.args.source) c.args.source.text.now first t)) (sym c.in-Tail.is)
    (λ first k l p h refused. c.close_tail.ensures.fault first k l p h refused)

pub returns-in-Argument-clause-fault : goal.returns-in-Argument-clause-fault
returns-in-Argument-clause-fault c =
    subst (λ f. (first : ℕ) (k : List stack.OpenFrame) (l : Tree) (p : ℕ) (h : IsFrameClosing c.args.source c.args.state.now f k l p c.args.token c.args.end) → IsFaultAtFrame c.args.source first c.args.state.now f k l p c.args.token c.args.end h c.args.refused → IfOk c.close_argument.result (λ t. RefusesFirstFault (setting_of c.args.source) c.args.source.text.now first t)) (sym c.in-Argument.is)
    (λ first k l p h refused. c.close_argument.ensures.fault first k l p h refused)
