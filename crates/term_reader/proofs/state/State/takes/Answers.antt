use Rattle.std.proofs.Common.{◌∙◌, sym, ap}
use Rattle.std.proofs.lemmas.List.{nil_from_length}
use Rattle.au_model.specs.Syntax.PostOperators.{post_operator_fits}
use Rattle.term_reader.specs.LexemeView.{post_operator_meant}
use Rattle.term_reader.proofs.AcceptingFrameLemmas.{last-fits, last-none, last-more, none-left}
use Rattle.term_reader.proofs.state.State.takes.Goals as goal

pub returns-then-fits : goal.returns-then-fits
returns-then-fits c = λ k n e.
    let i = c.frames.invariant k n e in
    let j = post_operator_meant n c.args.post_operator in
    let p = c.frames.priority in
    let fits = ap (λ b. post_operator_fits b p j) (sym c.bound.ensures) ∙ (sym (c.fits.ensures n) ∙ c.if-fits.true) in
    sym (i.2 ∙ last-fits c.frames.frames.now c.in-Some.below.now c.in-Some.frame.now i.0 p j c.in-Some.ensures.cases.0 i.1 fits)

pub returns-in_default-operator : goal.returns-in_default-operator
returns-in_default-operator c = λ k n e.
    let i = c.frames.invariant k n e in
    let j = post_operator_meant n c.args.post_operator in
    let p = c.frames.priority in
    let fits = ap (λ b. post_operator_fits b p j) (sym c.bound.ensures) ∙ (sym (c.fits.ensures n) ∙ c.if-fits.false) in
    sym (i.2 ∙ last-none c.frames.frames.now c.in-Some.below.now c.in-Some.frame.now i.0 p j c.in-Some.ensures.cases.0 i.1 fits (sym c.operator.ensures ∙ c.in_default-operator.is))

pub frames-preserved : goal.frames-preserved
frames-preserved c = λ k n e.
    let i = c.frames.invariant k n e in
    let j = post_operator_meant n c.args.post_operator in
    let p = c.frames.priority in
    let fits = ap (λ b. post_operator_fits b p j) (sym c.bound.ensures) ∙ (sym (c.fits.ensures n) ∙ c.if-fits.false) in
    let r = last-more c.frames.frames.now c.in-Some.below.now c.in-Some.frame.now i.0 p j c.in-Some.ensures.cases.0 i.1 c.in-Some-operator.next fits (sym c.operator.ensures ∙ c.in-Some-operator.is) in
    (r.0, r.1, i.2 ∙ r.2)

pub returns : goal.returns
returns c = λ k n e.
    let i = c.frames.invariant k n e in
    let j = post_operator_meant n c.args.post_operator in
    c.fits-2.ensures n ∙ (none-left c.frames.frames.now i.0 c.frames.priority j (nil_from_length c.frames.frames.now c.in_default.ensures.cases) i.1 ∙ sym i.2)
