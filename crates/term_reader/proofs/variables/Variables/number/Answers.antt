use Rattle.std.proofs.Common.{◌≡◌, ◌∙◌, ◌<◌, Some, None, option_map, sym, ap, subst, arith}
use Rattle.std.proofs.lemmas.Result.{IfOk-weaker}
use Rattle.au_model.specs.Syntax.VariableNumbers.{is_anonymous, number_of}
use Rattle.term_reader.specs.OutputView.{IsVariablesOf}
use Rattle.term_reader.proofs.VariableNumberLemmas.{numbered-anonymous, numbered-old, numbered-new}
use Rattle.term_reader.proofs.variables.Variables.number.Goals as goal

pub returns-then-is_anonymous : goal.returns-then-is_anonymous
returns-then-is_anonymous c = λ vs h.
    let e = numbered-anonymous vs c.args.name (sym (ap is_anonymous c.text.ensures) ∙ (sym c.is_anonymous.ensures ∙ c.if-is_anonymous.true)) in
    IfOk-weaker c.draw.result _ _ (λ k d. record {
      number = d.0 ∙ sym (ap (λ p. p.0) e);
      rest = subst (λ w. IsVariablesOf c.draw.new.self w) (sym (ap (λ p. p.1) e)) d.2;
      low = d.1;
    }) (c.draw.ensures vs h)

pub returns-in-Some : goal.returns-in-Some
returns-in-Some c = λ vs h.
    let k = c.in-Some.number.now in
    let f : number_of vs.named c.args.name ≡ Some k = sym (h.found c.args.name) ∙ (sym c.get.ensures.value ∙ ap (option_map (λ x. x.now)) c.in-Some.is) in
    let e = numbered-old vs c.args.name k (sym (ap is_anonymous c.text.ensures) ∙ (sym c.is_anonymous.ensures ∙ c.if-is_anonymous.false)) f in
    let lt : k < vs.next = h.below c.args.name k f in
    record {
      number = sym (ap (λ p. p.0) e);
      rest = subst (λ w. IsVariablesOf c.args.self.now w) (sym (ap (λ p. p.1) e)) h;
      low = omega (arith, lt, h.low, h.next);
    }

pub returns : goal.returns
returns c = λ vs h.
    let f : number_of vs.named c.args.name ≡ None = sym (h.found c.args.name) ∙ (sym c.get.ensures.value ∙ ap (option_map (λ x. x.now)) c.in_default.is) in
    let e = numbered-new vs c.args.name (sym (ap is_anonymous c.text.ensures) ∙ (sym c.is_anonymous.ensures ∙ c.if-is_anonymous.false)) f in
    IfOk-weaker c.add.result _ _ (λ k d. record {
      number = d.0 ∙ sym (ap (λ p. p.0) e);
      rest = subst (λ w. IsVariablesOf c.add.new.self w) (sym (ap (λ p. p.1) e)) d.2;
      low = d.1;
    }) (c.add.ensures vs h f)
