use Rattle.std.proofs.Common.{[], false, refl, sym, subst, arith}
use Rattle.term_reader.specs.PrimaryView.{setting_of}
use Rattle.token_scan.specs.ScannedParts.{IsPlaceFrom}
use Rattle.term_reader.specs.Expectations.{last_may_take}
use Rattle.term_reader.specs.Positions.{ExpectsOperand, HasReadTo, IsStepOutcome, MovesForward}
use Rattle.term_reader.specs.Refusals.{RefusesFirstFault}
use Rattle.term_reader.proofs.HasReadLemmas.{read_to-start, read_to-then}
use Rattle.term_reader.proofs.WholeReadingLemmas.{spelled, no_term}
use Rattle.term_reader.proofs.read.read_tokens.Goals as goal

pub returns-in-Accept : goal.returns-in-Accept
returns-in-Accept c =
    let s = setting_of c.args.source in
    let text = c.args.source.text.now in
    let here = c.tokens.state.at in
    let i = c.tokens.invariant in
    let o = subst (λ t. IsStepOutcome s text i.position here c.step_at.new.state t) c.in-Accept.is (c.in_ok-next.ensures.outcome i.position i.at_position i.expected_is) in
    let m = subst (λ t. MovesForward text here c.step_at.new.state t) c.in-Accept.is c.in_ok-next.ensures.moves in
    record {
      tree = o.tree;
      output = o.output;
      spelling = record { spelled = spelled s text c.args.at here c.in-Accept.end i.position o.tree (last_may_take c.tokens.expected) i.read_to o.reads o.rest; place = (omega (arith, i.place.0, m.0), m.1) };
    }

pub returns-in-Refused : goal.returns-in-Refused
returns-in-Refused c =
    let s = setting_of c.args.source in
    let text = c.args.source.text.now in
    let here = c.tokens.state.at in
    let i = c.tokens.invariant in
    let o = subst (λ t. IsStepOutcome s text i.position here c.step_at.new.state t) c.in-Refused.is (c.in_ok-next.ensures.outcome i.position i.at_position i.expected_is) in
    let f = subst (λ t. RefusesFirstFault s text c.args.at t) c.in-Refused.is (c.in_ok-next.ensures.fault c.args.at i.position i.at_position i.expected_is i.read_to) in
    (no_term s text c.args.at here i.position (last_may_take c.tokens.expected) i.read_to o, f)

pub tokens-init : goal.tokens-init
tokens-init c =
    let s = setting_of c.args.source in
    let text = c.args.source.text.now in
    let e = sym c.new-state.ensures.at in
    record {
      place = subst (IsPlaceFrom text c.args.at) e (omega arith, c.requires);
      position = ExpectsOperand [];
      at_position = c.new-state.ensures.at_position;
      expected_is = refl;
      read_to = subst (λ n. HasReadTo s text c.args.at (ExpectsOperand []) n false) e (read_to-start s text c.args.at);
    }

pub tokens-preserved : goal.tokens-preserved
tokens-preserved c =
    let s = setting_of c.args.source in
    let text = c.args.source.text.now in
    let here = c.tokens.state.at in
    let i = c.tokens.invariant in
    let w = subst (λ t. IsStepOutcome s text i.position here c.step_at.new.state t) c.in-Continue.is (c.in_ok-next.ensures.outcome i.position i.at_position i.expected_is) in
    let m = subst (λ t. MovesForward text here c.step_at.new.state t) c.in-Continue.is c.in_ok-next.ensures.moves in
    record {
      place = (omega (arith, i.place.0, m.0), m.1);
      position = w.new;
      at_position = w.at_position;
      expected_is = w.expected_is;
      read_to = read_to-then s text c.args.at here c.step_at.new.state.at (last_may_take c.tokens.expected) (last_may_take c.in-Continue.next) i.position w.new i.read_to i.at_position.bounds w.leads;
    }
