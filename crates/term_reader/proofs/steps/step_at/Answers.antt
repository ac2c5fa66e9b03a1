use Rattle.std.proofs.Common.{◌≡◌, ◌∙◌, ℕ, List, Some, None, IfOk, refl, sym, ap, subst}
use Rattle.au_model.specs.Syntax.Trees.{Tree}
use Rattle.term_reader.specs.PrimaryView.{setting_of}
use Rattle.term_reader.specs.Expectations.{expected_after, last_may_take}
use Rattle.term_reader.specs.Completion.{OpenFrame}
use Rattle.term_reader.specs.Positions.{Position, ExpectsOperand, AfterOperand, IsAtPosition, HasReadTo, IsStepOutcome, priority_of_operand}
use Rattle.term_reader.proofs.steps.step_at.Goals as goal

due : (x : Position) → priority_of_operand x ≡ None → (k : List OpenFrame) × (x ≡ ExpectsOperand k)
due (ExpectsOperand k) e = (k, refl)
due (AfterOperand k l p) e = let z : ⊥ = cc in absurd z

there : (x : Position) (q : ℕ) → priority_of_operand x ≡ Some q → (k : List OpenFrame) × (l : Tree) × (x ≡ AfterOperand k l q)
there (ExpectsOperand k) q e = let z : ⊥ = cc in absurd z
there (AfterOperand k l p) q e = (k, l, (let same : p ≡ q = cc in ap (AfterOperand k l) same))

pub returns-in-Operand-clause-outcome : goal.returns-in-Operand-clause-outcome
returns-in-Operand-clause-outcome c = λ x st e.
    let d = due x (sym e ∙ ap expected_after c.in-Operand.is) in
    subst (λ y. IfOk c.operand.result (λ t. IsStepOutcome (setting_of c.args.source) c.args.source.text.now y c.args.state.now.at c.operand.new.state t)) (sym d.1)
    (c.operand.ensures.outcome d.0 (subst (λ y. IsAtPosition c.args.state.now y) d.1 st))

pub returns-in-Operator-clause-outcome : goal.returns-in-Operator-clause-outcome
returns-in-Operator-clause-outcome c = λ x st e.
    let d = there x c.in-Operator.priority (sym e ∙ ap expected_after c.in-Operator.is) in
    subst (λ y. IfOk c.after_operand.result (λ t. IsStepOutcome (setting_of c.args.source) c.args.source.text.now y c.args.state.now.at c.after_operand.new.state t)) (sym d.2)
    (c.after_operand.ensures.outcome d.0 d.1 (subst (λ y. IsAtPosition c.args.state.now y) d.2 st))

pub returns-in-Operand-clause-fault : goal.returns-in-Operand-clause-fault
returns-in-Operand-clause-fault c = λ first x st e read_to.
    let d = due x (sym e ∙ ap expected_after c.in-Operand.is) in
    c.operand.ensures.fault first (last_may_take c.args.expected) d.0 (subst (λ y. IsAtPosition c.args.state.now y) d.1 st) (subst (λ y. HasReadTo (setting_of c.args.source) c.args.source.text.now first y c.args.state.now.at (last_may_take c.args.expected)) d.1 read_to)

pub returns-in-Operator-clause-fault : goal.returns-in-Operator-clause-fault
returns-in-Operator-clause-fault c = λ first x st e read_to.
    let d = there x c.in-Operator.priority (sym e ∙ ap expected_after c.in-Operator.is) in
    c.after_operand.ensures.fault first d.0 d.1 (subst (λ y. IsAtPosition c.args.state.now y) d.2 st) (subst (λ b. HasReadTo (setting_of c.args.source) c.args.source.text.now first (AfterOperand d.0 d.1 c.in-Operator.priority) c.args.state.now.at b) (ap last_may_take c.in-Operator.is)
    (subst (λ y. HasReadTo (setting_of c.args.source) c.args.source.text.now first y c.args.state.now.at (last_may_take c.args.expected)) d.2 read_to))
