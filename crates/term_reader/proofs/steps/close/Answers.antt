use Rattle.std.proofs.Common.{◌≡◌, ◌∙◌, [], ◌∷◌, ◌++◌, map, sym, ap, subst, arith}
use Rattle.term_reader.specs.Expectations.{may_take_operand}
use Rattle.term_reader.specs.FrameShapes.{frame_meant, shapes_up}
use Rattle.term_reader.specs.LexemeView.{lexeme_meant}
use Rattle.term_reader.proofs.PostorderLemmas.{no_items}
use Rattle.term_reader.proofs.OperatorReductionLemmas.{no_frames}
use Rattle.term_reader.proofs.ClosingTokenLemmas.{is-end_token, argument-frame, full-frame}
use Rattle.term_reader.proofs.FrameEndLemmas.{over-ends, over-refuses, over-never}
use Rattle.term_reader.proofs.FrameRefusalLemmas.{not-taken, many-fault}
use Rattle.term_reader.proofs.TooManyArgumentsLemmas.{IsFullStack}
use Rattle.term_reader.proofs.steps.close.Goals as goal

pub returns-clause-moves : goal.returns-clause-moves
returns-clause-moves c = c.close_frame.ensures.moves c.requires.place

pub returns-clause-outcome : goal.returns-clause-outcome
returns-clause-outcome c = λ k l p st shut stops. c.close_frame.ensures.outcome k l p (record {
  shapes = sym (ap (map frame_meant) c.in-Some.ensures.items) ∙ st.shapes;
  output = st.output;
  bounds = st.bounds;
  low = st.low;
  shut = shut;
  apart = c.args.found.apart;
  lexeme = lexeme_meant c.args.found.lexeme;
  found = c.requires.next;
  closer = c.closer_token-token.ensures;
  stops = stops;
})

pub returns-in-End-clause-outcome : goal.returns-in-End-clause-outcome
returns-in-End-clause-outcome c = λ k l p st shut stops.
    let before = no_items c.args.state.now.frames.items (omega (arith, c.in-None.ensures.cases)) in
    let none = no_frames k (sym (ap (map frame_meant) before) ∙ st.shapes) in
    over-ends c.args.source c.args.state.now.at c.args.found.end p l c.args.found.apart (lexeme_meant c.args.found.lexeme) _ k none c.requires.next st.low stops st.output
    (is-end_token (lexeme_meant c.args.found.lexeme) (sym c.closer_token-token.ensures ∙ c.in-End.is))

pub returns-in-None-clause-outcome : goal.returns-in-None-clause-outcome
returns-in-None-clause-outcome c = λ k l p st shut stops.
    let before = no_items c.args.state.now.frames.items (omega (arith, c.in-None.ensures.cases)) in
    let none = no_frames k (sym (ap (map frame_meant) before) ∙ st.shapes) in
    over-refuses c.args.source c.args.state.now.at c.args.found.end p l c.args.found.apart (lexeme_meant c.args.found.lexeme) k none c.requires.next st.low stops
    (λ e. c.in_default.not-End (c.closer_token-token.ensures ∙ e))

pub returns-clause-fault : goal.returns-clause-fault
returns-clause-fault c = λ first k l p st shut stops passed starts.
    let source = c.args.source in
    let at = c.args.state.now.at in
    let x = lexeme_meant c.args.found.lexeme in
    let shapes = sym (ap (map frame_meant) c.in-Some.ensures.items) ∙ st.shapes in
    c.close_frame.ensures.fault first k l p (record {
      shapes = shapes;
      output = st.output;
      bounds = st.bounds;
      low = st.low;
      shut = shut;
      apart = c.args.found.apart;
      lexeme = x;
      found = c.requires.next;
      closer = c.closer_token-token.ensures;
      stops = stops;
    })
    (λ never. (
      λ spare. c.in_ok-refused.ensures first passed.stack passed.tree passed.priority at
          (not-taken source first at c.args.found.end (may_take_operand c.args.last_operand) c.args.found.apart x k l p passed c.requires.next never c.args.found.start st.bounds shut st.low starts (λ e full. spare (full-frame c.pop.new.self.items c.in-Some.frame k shapes full) e)),
      λ name n place is many e.
          let f = argument-frame c.pop.new.self.items k name n place (subst (λ g. map frame_meant (c.pop.new.self.items ++ g ∷ []) ≡ shapes_up k) is shapes) in
          many-fault source first at c.args.found.end (may_take_operand c.args.last_operand) c.args.found.apart x k l p passed c.requires.next never name place f.0 f.2.below e f.2.is st.bounds st.low,
    ))

pub returns-in-None-clause-fault : goal.returns-in-None-clause-fault
returns-in-None-clause-fault c = λ first k l p st shut stops passed starts.
    let source = c.args.source in
    let at = c.args.state.now.at in
    let x = lexeme_meant c.args.found.lexeme in
    let before = no_items c.args.state.now.frames.items (omega (arith, c.in-None.ensures.cases)) in
    let none = no_frames k (sym (ap (map frame_meant) before) ∙ st.shapes) in
    c.in_ok-refused.ensures first passed.stack passed.tree passed.priority at
    (not-taken source first at c.args.found.end (may_take_operand c.args.last_operand) c.args.found.apart x k l p passed c.requires.next
    (over-never source at c.args.found.end p l c.args.found.apart x k none c.requires.next st.low stops (λ e. c.in_default.not-End (c.closer_token-token.ensures ∙ e)))
    c.args.found.start st.bounds shut st.low starts (λ e full. subst IsFullStack none full))
