use Rattle.std.proofs.Common.{◌≡◌, ◌∙◌, ap, sym}
use Rattle.au_term.specs.PrefixOrder.{term_of, term_of-cells_of}
use Rattle.au_model.specs.Terms.TermTypes.{is_variable}
use Rattle.effect_gate.specs.Indicators.{name_part, arity_part}
use Rattle.au_model.proofs.ApplyLemmas.{or_left, or_right}
use Rattle.effect_gate.proofs.HeadLemmas.{bound_parts, open_parts}
use Rattle.effect_gate.proofs.indicators.parts.Goals.{then-is_variable-via-then-is_variable, then-is_variable-via-else-is_variable+then-is_variable-2}
use Rattle.effect_gate.proofs.indicators.parts.Goals as goal

pub returns-then-is_variable : goal.returns-then-is_variable
returns-then-is_variable c =
    let t = c.args.term.now in
    let name : c.in_ok-name.name ≡ name_part t = c.in_ok-name.ensures.term ∙ (ap term_of c.arg.ensures.cells ∙ term_of-cells_of (name_part t)) in
    let arity : c.in_ok-arity.arity ≡ arity_part t = c.in_ok-arity.ensures.term ∙ (ap term_of c.arg-2.ensures.cells ∙ term_of-cells_of (arity_part t)) in
    open_parts t (sym c.if-not-is_indicator.ensures)
    (elim c.then-is_variable.branch [
      | then-is_variable-via-then-is_variable w ↦ or_left (is_variable (name_part t)) (is_variable (arity_part t)) (sym (ap is_variable name) ∙ sym w.if-is_variable.ensures)
      | then-is_variable-via-else-is_variable+then-is_variable-2 w ↦ or_right (is_variable (name_part t)) (is_variable (arity_part t)) (sym (ap is_variable arity) ∙ sym w.if-is_variable-2.ensures)
    ])

pub returns : goal.returns
returns c =
    let t = c.args.term.now in
    let name : c.in_ok-name.name ≡ name_part t = c.in_ok-name.ensures.term ∙ (ap term_of c.arg.ensures.cells ∙ term_of-cells_of (name_part t)) in
    let arity : c.in_ok-arity.arity ≡ arity_part t = c.in_ok-arity.ensures.term ∙ (ap term_of c.arg-2.ensures.cells ∙ term_of-cells_of (arity_part t)) in
    (bound_parts t (sym c.if-not-is_indicator.ensures) (sym (ap is_variable name) ∙ sym c.if-is_variable.ensures) (sym (ap is_variable arity) ∙ sym c.if-is_variable-2.ensures), (name, arity))
