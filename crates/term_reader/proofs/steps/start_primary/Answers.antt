use Rattle.std.proofs.Common.{◌≤◌, false, [], refl, subst, arith}
use Rattle.std.proofs.lemmas.Result.{IfOk-weaker}
use Rattle.au_model.specs.Syntax.Trees.{AtomTree}
use Rattle.op_table.specs.OperatorView.{operator_meant}
use Rattle.term_reader.specs.declared.state.LastOperand.TheVariants.{Whole}
use Rattle.term_reader.specs.PrimaryView.{leaf_tree, setting_of, tokens_at}
use Rattle.term_reader.specs.Completion as stack
use Rattle.term_reader.specs.Completion.{bound_of}
use Rattle.term_reader.specs.ReaderSteps.{StartsPrimary}
use Rattle.term_reader.proofs.ReaderStepLemmas.{moved, pushed, emit-down, plain-leads, alone-leads, round-leads, curly-leads, list-leads, call-leads, prefix-leads}
use Rattle.term_reader.proofs.CompletionStepLemmas.{fails, prefix_within}
use Rattle.term_reader.proofs.FrameRefusalLemmas.{on-well}
use Rattle.term_reader.proofs.NoOperandLemmas.{stuck-fails}
use Rattle.term_reader.proofs.steps.start_primary.Goals as goal

pub returns-in-Leaf-clause-moves : goal.returns-in-Leaf-clause-moves
returns-in-Leaf-clause-moves c =
    let h = subst (StartsPrimary c.args.source c.args.state.now.at) c.in-Leaf.is c.requires in
    IfOk-weaker c.emit.result _ _ (λ t d. moved c.args.source.text.now c.args.state.now.at c.in-Leaf.end c.emit.new.state _ t d.step d.at h.ends.place) c.emit.ensures

pub returns-in-Leaf-clause-outcome : goal.returns-in-Leaf-clause-outcome
returns-in-Leaf-clause-outcome c = λ k st b.
    let h = subst (StartsPrimary c.args.source c.args.state.now.at) c.in-Leaf.is c.requires in
    IfOk-weaker c.emit.result _ _ (λ t d. emit-down (setting_of c.args.source) c.args.source.text.now k c.args.state.now.at _ c.emit.new.state (leaf_tree c.args.source.quotes c.in-Leaf.leaf) c.in-Leaf.end Whole t d st
    (plain-leads c.args.source c.args.state.now.at c.in-Leaf.end k c.in-Leaf.leaf h)) c.emit.ensures

pub returns-in-Round-clause-moves : goal.returns-in-Round-clause-moves
returns-in-Round-clause-moves c =
    let h = subst (StartsPrimary c.args.source c.args.state.now.at) c.in-Round.is c.requires in
    IfOk-weaker c.push_frame.result _ _ (λ t d. moved c.args.source.text.now c.args.state.now.at c.in-Round.end c.push_frame.new.state _ t d.step d.at h.ends.place) c.push_frame.ensures

pub returns-in-Round-clause-outcome : goal.returns-in-Round-clause-outcome
returns-in-Round-clause-outcome c = λ k st b.
    let h = subst (StartsPrimary c.args.source c.args.state.now.at) c.in-Round.is c.requires in
    IfOk-weaker c.push_frame.result _ _ (λ t d. pushed (setting_of c.args.source) c.args.source.text.now _ c.args.state.now.at _ c.push_frame.new.state _ stack.Round k c.in-Round.end t d st.shapes refl st.output st.bounds
    (round-leads c.args.source c.args.state.now.at c.in-Round.end k h.begins h.ends)) c.push_frame.ensures

pub returns-in-Curly-clause-moves : goal.returns-in-Curly-clause-moves
returns-in-Curly-clause-moves c =
    let h = subst (StartsPrimary c.args.source c.args.state.now.at) c.in-Curly.is c.requires in
    IfOk-weaker c.push_frame-in-Curly.result _ _ (λ t d. moved c.args.source.text.now c.args.state.now.at c.in-Curly.end c.push_frame-in-Curly.new.state _ t d.step d.at h.ends.place) c.push_frame-in-Curly.ensures

pub returns-in-Curly-clause-outcome : goal.returns-in-Curly-clause-outcome
returns-in-Curly-clause-outcome c = λ k st b.
    let h = subst (StartsPrimary c.args.source c.args.state.now.at) c.in-Curly.is c.requires in
    IfOk-weaker c.push_frame-in-Curly.result _ _ (λ t d. pushed (setting_of c.args.source) c.args.source.text.now _ c.args.state.now.at _ c.push_frame-in-Curly.new.state _ stack.Braces k c.in-Curly.end t d st.shapes refl st.output st.bounds
    (curly-leads c.args.source c.args.state.now.at c.in-Curly.end k h.begins h.ends)) c.push_frame-in-Curly.ensures

pub returns-in-List-clause-moves : goal.returns-in-List-clause-moves
returns-in-List-clause-moves c =
    let h = subst (StartsPrimary c.args.source c.args.state.now.at) c.in-List.is c.requires in
    IfOk-weaker c.push_frame-in-List.result _ _ (λ t d. moved c.args.source.text.now c.args.state.now.at c.in-List.end c.push_frame-in-List.new.state _ t d.step d.at h.ends.place) c.push_frame-in-List.ensures

pub returns-in-List-clause-outcome : goal.returns-in-List-clause-outcome
returns-in-List-clause-outcome c = λ k st b.
    let h = subst (StartsPrimary c.args.source c.args.state.now.at) c.in-List.is c.requires in
    IfOk-weaker c.push_frame-in-List.result _ _ (λ t d. pushed (setting_of c.args.source) c.args.source.text.now _ c.args.state.now.at _ c.push_frame-in-List.new.state _ (stack.ItemOf []) k c.in-List.end t d st.shapes refl st.output st.bounds
    (list-leads c.args.source c.args.state.now.at c.in-List.end k h.begins h.ends)) c.push_frame-in-List.ensures

pub returns-in-Call-clause-moves : goal.returns-in-Call-clause-moves
returns-in-Call-clause-moves c =
    let h = subst (StartsPrimary c.args.source c.args.state.now.at) c.in-Call.is c.requires in
    IfOk-weaker c.push_frame-in-Call.result _ _ (λ t d. moved c.args.source.text.now c.args.state.now.at c.in-Call.end c.push_frame-in-Call.new.state _ t d.step d.at h.ends.place) c.push_frame-in-Call.ensures

pub returns-in-Call-clause-outcome : goal.returns-in-Call-clause-outcome
returns-in-Call-clause-outcome c = λ k st b.
    let h = subst (StartsPrimary c.args.source c.args.state.now.at) c.in-Call.is c.requires in
    IfOk-weaker c.push_frame-in-Call.result _ _ (λ t d. pushed (setting_of c.args.source) c.args.source.text.now _ c.args.state.now.at _ c.push_frame-in-Call.new.state _ (stack.ArgumentOf c.in-Call.name c.args.start []) k c.in-Call.end t d st.shapes refl st.output (omega arith, st.bounds)
    (call-leads c.args.source c.args.state.now.at c.in-Call.end k c.in-Call.name c.args.start b h.begins h.ends)) c.push_frame-in-Call.ensures

pub returns-in-Alone-clause-moves : goal.returns-in-Alone-clause-moves
returns-in-Alone-clause-moves c =
    let h = subst (StartsPrimary c.args.source c.args.state.now.at) c.in-Alone.is c.requires in
    IfOk-weaker c.emit-in-Alone.result _ _ (λ t d. moved c.args.source.text.now c.args.state.now.at c.in-Alone.end c.emit-in-Alone.new.state _ t d.step d.at h.ends.place) c.emit-in-Alone.ensures

pub returns-in-Alone-clause-outcome : goal.returns-in-Alone-clause-outcome
returns-in-Alone-clause-outcome c = λ k st b.
    let h = subst (StartsPrimary c.args.source c.args.state.now.at) c.in-Alone.is c.requires in
    IfOk-weaker c.emit-in-Alone.result _ _ (λ t d. emit-down (setting_of c.args.source) c.args.source.text.now k c.args.state.now.at _ c.emit-in-Alone.new.state (AtomTree c.in-Alone.name) c.in-Alone.end _ t d st
    (alone-leads c.args.source c.args.state.now.at c.in-Alone.end k c.in-Alone.name c.in-Alone.operator _ h (c.lone_prefix-last.ensures k st.shapes))) c.emit-in-Alone.ensures

pub returns-then-operator-bound-clause-outcome : goal.returns-then-operator-bound-clause-outcome
returns-then-operator-bound-clause-outcome c = λ k st b goal w.
    let h = subst (StartsPrimary c.args.source c.args.state.now.at) c.in-Prefix.is c.requires in
    let le = prefix_within (setting_of c.args.source) (tokens_at c.args.source c.args.state.now.at) (tokens_at c.args.source c.in-Prefix.end) c.in-Prefix.name (operator_meant c.in-Prefix.operator) h.begins w in
    absurd (omega (arith, le, c.bound.ensures k st.shapes, c.if-operator-bound.true))

pub returns-else-operator-bound-clause-outcome : goal.returns-else-operator-bound-clause-outcome
returns-else-operator-bound-clause-outcome c = λ k st b.
    let h = subst (StartsPrimary c.args.source c.args.state.now.at) c.in-Prefix.is c.requires in
    let o = operator_meant c.in-Prefix.operator in
    let low : o.priority ≤ bound_of k = omega (arith, c.bound.ensures k st.shapes, c.if-operator-bound.false) in
    IfOk-weaker c.push_frame-in-Prefix.result _ _ (λ t d. pushed (setting_of c.args.source) c.args.source.text.now _ c.args.state.now.at _ c.push_frame-in-Prefix.new.state _ (stack.PrefixOf c.in-Prefix.name o) k c.in-Prefix.end t d st.shapes refl st.output (low, st.bounds)
    (prefix-leads c.args.source c.args.state.now.at c.in-Prefix.end k c.in-Prefix.name o h.begins h.ends)) c.push_frame-in-Prefix.ensures

pub returns-in-Fails-clause-outcome : goal.returns-in-Fails-clause-outcome
returns-in-Fails-clause-outcome c = λ k st b goal w.
    let h = subst (StartsPrimary c.args.source c.args.state.now.at) c.in-Fails.is c.requires in
    fails (setting_of c.args.source) (tokens_at c.args.source c.args.state.now.at) h.begins w

pub returns-in-Leaf-clause-fault : goal.returns-in-Leaf-clause-fault
returns-in-Leaf-clause-fault c = λ first may_take_operand k st read_to refused.
    IfOk-weaker c.emit.result _ _ (λ t d. on-well (setting_of c.args.source) c.args.source.text.now first _ t d.step) c.emit.ensures

pub returns-in-Alone-clause-fault : goal.returns-in-Alone-clause-fault
returns-in-Alone-clause-fault c = λ first may_take_operand k st read_to refused.
    IfOk-weaker c.emit-in-Alone.result _ _ (λ t d. on-well (setting_of c.args.source) c.args.source.text.now first _ t d.step) c.emit-in-Alone.ensures

pub returns-in-Round-clause-fault : goal.returns-in-Round-clause-fault
returns-in-Round-clause-fault c = λ first may_take_operand k st read_to refused.
    IfOk-weaker c.push_frame.result _ _ (λ t d. on-well (setting_of c.args.source) c.args.source.text.now first _ t d.step) c.push_frame.ensures

pub returns-in-Curly-clause-fault : goal.returns-in-Curly-clause-fault
returns-in-Curly-clause-fault c = λ first may_take_operand k st read_to refused.
    IfOk-weaker c.push_frame-in-Curly.result _ _ (λ t d. on-well (setting_of c.args.source) c.args.source.text.now first _ t d.step) c.push_frame-in-Curly.ensures

pub returns-in-List-clause-fault : goal.returns-in-List-clause-fault
returns-in-List-clause-fault c = λ first may_take_operand k st read_to refused.
    IfOk-weaker c.push_frame-in-List.result _ _ (λ t d. on-well (setting_of c.args.source) c.args.source.text.now first _ t d.step) c.push_frame-in-List.ensures

pub returns-in-Call-clause-fault : goal.returns-in-Call-clause-fault
returns-in-Call-clause-fault c = λ first may_take_operand k st read_to refused.
    IfOk-weaker c.push_frame-in-Call.result _ _ (λ t d. on-well (setting_of c.args.source) c.args.source.text.now first _ t d.step) c.push_frame-in-Call.ensures

pub returns-else-operator-bound-clause-fault : goal.returns-else-operator-bound-clause-fault
returns-else-operator-bound-clause-fault c = λ first may_take_operand k st read_to refused.
    IfOk-weaker c.push_frame-in-Prefix.result _ _ (λ t d. on-well (setting_of c.args.source) c.args.source.text.now first _ t d.step) c.push_frame-in-Prefix.ensures

pub returns-then-operator-bound-clause-fault : goal.returns-then-operator-bound-clause-fault
returns-then-operator-bound-clause-fault c = λ first may_take_operand k st read_to refused.
    let h = subst (StartsPrimary c.args.source c.args.state.now.at) c.in-Prefix.is c.requires in
    c.in_ok-after_prefix-in-Prefix.ensures first c.args.state.now.at k st.shapes (record {
      may_take_operand = may_take_operand;
      name = c.in-Prefix.name;
      operator = c.in-Prefix.operator;
      read_to = read_to;
      bounds = st.bounds;
      starts = h;
      high = omega (arith, c.bound.ensures k st.shapes, c.if-operator-bound.true);
    })

pub returns-in-Fails-clause-fault : goal.returns-in-Fails-clause-fault
returns-in-Fails-clause-fault c = λ first may_take_operand k st read_to refused.
    let h = subst (StartsPrimary c.args.source c.args.state.now.at) c.in-Fails.is c.requires in
    refused (stuck-fails (setting_of c.args.source) c.args.source.text.now first c.args.state.now.at k may_take_operand h.apart h.lexeme h.left read_to st.bounds h.found h.begins)
