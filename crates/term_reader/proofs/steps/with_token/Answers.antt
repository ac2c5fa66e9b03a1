use Rattle.std.proofs.Common.{◌≡◌, ◌∙◌, true, false, ◌∷◌, refl, sym, ap, subst}
use Rattle.std.proofs.lemmas.Result.{IfOk-weaker}
use Rattle.au_term.specs.declared.cell.Cell.TheVariants.{Functor}
use Rattle.au_model.specs.Syntax.PostOperators.{post_operator_fits}
use Rattle.au_model.specs.Syntax.Trees.{one}
use Rattle.op_table.specs.OperatorView.{operator_meant}
use Rattle.term_reader.specs.Expectations.{may_take_operand}
use Rattle.term_reader.specs.PrimaryView.{setting_of}
use Rattle.term_reader.specs.LexemeView.{post_operator_meant, post_operator_name, lexeme_meant}
use Rattle.term_reader.specs.Completion as stack
use Rattle.term_reader.specs.Completion.{bound_of}
use Rattle.term_reader.specs.FrameShapes.{InfixShape, emitted_stack}
use Rattle.term_reader.specs.TermOutput.{emit_tree, emit_cell}
use Rattle.term_reader.specs.OutputView.{IsOutputOf}
use Rattle.au_model.specs.Syntax.Tokens.{token, Close}
use Rattle.term_reader.specs.LexemeView.{IsStart}
use Rattle.term_reader.specs.Positions.{AfterOperand, HasReadTo, IsStepOutcome}
use Rattle.term_reader.proofs.FrameRefusalLemmas.{on-well}
use Rattle.term_reader.specs.OperatorReductions.{IsFullyReduced}
use Rattle.term_reader.specs.declared.state.Expected.TheVariants.{Operator}
use Rattle.term_reader.specs.declared.state.LastOperand.TheVariants.{Whole}
use Rattle.term_reader.specs.declared.steps.Step.TheVariants.{Continue}
use Rattle.term_reader.proofs.ReaderStepLemmas.{first-post_operator, outcome-same, pushed, infix-leads, postfix-leads, fits-bound}
use Rattle.term_reader.proofs.steps.with_token.Goals as goal
use Rattle.au_term.proofs.LogicLemmas.{false_true}

pub returns-then-not-fits-clause-outcome : goal.returns-then-not-fits-clause-outcome
returns-then-not-fits-clause-outcome c = λ k l st.
    let s = setting_of c.args.source in
    let x = lexeme_meant c.args.found.lexeme in
    let j = post_operator_meant (post_operator_name x) c.post_operator_of-post_operator.result in
    let z = c.in_ok-last.ensures.reduced s k l (post_operator_name x) st in
    let fj = first-post_operator s.ops _ _ c.args.found.apart x c.requires.next ∙ sym c.post_operator_of-post_operator.ensures in
    let free = subst (λ b. IsFullyReduced z.below c.in_ok-last.last j b) c.if-not-fits.true z.free in
    let inner = c.close.ensures.outcome z.below z.tree c.in_ok-last.last z.at_position free.1 (subst (λ i. post_operator_fits (bound_of z.below) c.in_ok-last.last i ≡ false) c.post_operator_of-post_operator.ensures free.0) in
    IfOk-weaker c.close.result _ _ (λ t w. outcome-same s c.args.source.text.now j k z.below l z.tree c.args.priority c.in_ok-last.last c.args.state.now.at c.close.new.state t z.same z.nests fj
    (subst (λ m. IsStepOutcome s c.args.source.text.now (AfterOperand z.below z.tree c.in_ok-last.last) m c.close.new.state t) c.in_ok-last.ensures.at w)) inner

pub returns-in_ok-name-in-Infix-clause-outcome : goal.returns-in_ok-name-in-Infix-clause-outcome
returns-in_ok-name-in-Infix-clause-outcome c = λ k l st.
    let s = setting_of c.args.source in
    let x = lexeme_meant c.args.found.lexeme in
    let n = post_operator_name x in
    let o = operator_meant c.in-Infix.operator in
    let j = post_operator_meant n c.post_operator_of-post_operator.result in
    let at = c.args.state.now.at in
    let q = c.in_ok-last.last in
    let z = c.in_ok-last.ensures.reduced s k l n st in
    let fj = first-post_operator s.ops _ _ c.args.found.apart x c.requires.next ∙ sym c.post_operator_of-post_operator.ensures in
    let free = subst (λ b. IsFullyReduced z.below q j b) c.if-not-fits.false z.free in
    let fits = subst (λ i. post_operator_fits (bound_of z.below) q i ≡ true) (ap (post_operator_meant n) c.in-Infix.is) free in
    let is = sym c.post_operator_of-post_operator.ensures ∙ ap (post_operator_meant n) c.in-Infix.is in
    IfOk-weaker c.push_frame.result _ _ (λ t d. outcome-same s c.args.source.text.now j k z.below l z.tree c.args.priority q at c.push_frame.new.state t z.same z.nests fj
    (pushed s c.args.source.text.now (AfterOperand z.below z.tree q) at _ c.push_frame.new.state _ (stack.InfixOf n o z.tree) z.below c.args.found.end t d z.at_position.shapes (ap (λ m. InfixShape m o) c.in_ok-name-in-Infix.ensures) z.at_position.output
    (fits-bound c.args.source at c.args.found.end z.below z.tree q c.args.found.apart x n o fits, z.at_position.bounds)
    (infix-leads c.args.source at c.args.found.end z.below z.tree q c.args.found.apart x n o c.requires.next is fits z.at_position.low))) c.push_frame.ensures

pub returns-in_ok-compound-in-Postfix-clause-outcome : goal.returns-in_ok-compound-in-Postfix-clause-outcome
returns-in_ok-compound-in-Postfix-clause-outcome c = λ k l st.
    let s = setting_of c.args.source in
    let x = lexeme_meant c.args.found.lexeme in
    let n = post_operator_name x in
    let o = operator_meant c.in-Postfix.operator in
    let j = post_operator_meant n c.post_operator_of-post_operator.result in
    let at = c.args.state.now.at in
    let q = c.in_ok-last.last in
    let z = c.in_ok-last.ensures.reduced s k l n st in
    let fj = first-post_operator s.ops _ _ c.args.found.apart x c.requires.next ∙ sym c.post_operator_of-post_operator.ensures in
    let free = subst (λ b. IsFullyReduced z.below q j b) c.if-not-fits.false z.free in
    let fits = subst (λ i. post_operator_fits (bound_of z.below) q i ≡ true) (ap (post_operator_meant n) c.in-Postfix.is) free in
    let is = sym c.post_operator_of-post_operator.ensures ∙ ap (post_operator_meant n) c.in-Postfix.is in
    let output = subst (λ m. IsOutputOf c.compound.new.self (emit_cell (emit_tree (emitted_stack z.below) z.tree) (Functor m 1))) c.in_ok-name-in-Postfix.ensures
    (c.in_ok-compound-in-Postfix.ensures (emit_tree (emitted_stack z.below) z.tree) z.at_position.output) in
    outcome-same s c.args.source.text.now j k z.below l z.tree c.args.priority q at _ (Continue (Operator o.priority Whole)) z.same z.nests fj (record {
      new = AfterOperand z.below (one n z.tree) o.priority;
      at_position = record { shapes = z.at_position.shapes; output = output; bounds = z.at_position.bounds; low = fits-bound c.args.source at c.args.found.end z.below z.tree q c.args.found.apart x n o fits };
      expected_is = refl;
      leads = postfix-leads c.args.source at c.args.found.end z.below z.tree q c.args.found.apart x n o c.requires.next is fits z.at_position.low;
    })

pub returns-in-Nothing-clause-outcome : goal.returns-in-Nothing-clause-outcome
returns-in-Nothing-clause-outcome c = λ k l st.
    let x = lexeme_meant c.args.found.lexeme in
    let n = post_operator_name x in
    let j = post_operator_meant n c.post_operator_of-post_operator.result in
    let q = c.in_ok-last.last in
    let z = c.in_ok-last.ensures.reduced (setting_of c.args.source) k l n st in
    let free = subst (λ b. IsFullyReduced z.below q j b) c.if-not-fits.false z.free in
    false_true (subst (λ i. post_operator_fits (bound_of z.below) q i ≡ true) (ap (post_operator_meant n) c.in-Nothing.is) free)

pub returns-then-not-fits-clause-fault : goal.returns-then-not-fits-clause-fault
returns-then-not-fits-clause-fault c = λ first k l st read_to starts.
    let s = setting_of c.args.source in
    let text = c.args.source.text.now in
    let x = lexeme_meant c.args.found.lexeme in
    let j = post_operator_meant (post_operator_name x) c.post_operator_of-post_operator.result in
    let z = c.in_ok-last.ensures.reduced s k l (post_operator_name x) st in
    let free = subst (λ b. IsFullyReduced z.below c.in_ok-last.last j b) c.if-not-fits.true z.free in
    let stops = subst (λ i. post_operator_fits (bound_of z.below) c.in_ok-last.last i ≡ false) c.post_operator_of-post_operator.ensures free.0 in
    let at = sym c.in_ok-last.ensures.at in
    let moved : HasReadTo s text first (AfterOperand k l c.args.priority) c.reduce_operators.new.self.at (may_take_operand c.args.last_operand) = subst (λ n. HasReadTo s text first (AfterOperand k l c.args.priority) n (may_take_operand c.args.last_operand)) at read_to in
    c.close.ensures.fault first z.below z.tree c.in_ok-last.last z.at_position free.1 stops (record {
      stack = k;
      tree = l;
      priority = c.args.priority;
      read_to = moved;
      bounds = st.bounds;
      low = st.low;
      passes = λ more goal g. z.same.to (token c.args.found.apart x ∷ more) goal (sym c.post_operator_of-post_operator.ensures) g;
      closes = λ more goal g. z.apart.back (token false Close ∷ more) goal refl g;
      nests = z.nests text first moved.read moved.nests;
    }) (subst (λ n. IsStart text n c.args.found.start) at starts)

pub returns-in_ok-name-in-Infix-clause-fault : goal.returns-in_ok-name-in-Infix-clause-fault
returns-in_ok-name-in-Infix-clause-fault c = λ first k l st read_to starts.
    IfOk-weaker c.push_frame.result _ _ (λ t d. on-well (setting_of c.args.source) c.args.source.text.now first _ t d.step) c.push_frame.ensures

pub returns-in-Nothing-clause-fault : goal.returns-in-Nothing-clause-fault
returns-in-Nothing-clause-fault c = λ first k l st read_to starts.
    let x = lexeme_meant c.args.found.lexeme in
    let n = post_operator_name x in
    let j = post_operator_meant n c.post_operator_of-post_operator.result in
    let q = c.in_ok-last.last in
    let z = c.in_ok-last.ensures.reduced (setting_of c.args.source) k l n st in
    let free = subst (λ b. IsFullyReduced z.below q j b) c.if-not-fits.false z.free in
    false_true (subst (λ i. post_operator_fits (bound_of z.below) q i ≡ true) (ap (post_operator_meant n) c.in-Nothing.is) free)
