use Rattle.std.proofs.Common.{refl}
use Rattle.std.proofs.lemmas.Result.{IfOk-weaker}
use Rattle.term_reader.specs.FrameShapes.{emitted_stack}
use Rattle.au_model.specs.Syntax.Trees.{AtomTree}
use Rattle.au_model.specs.Terms.Forms.{nil_name}
use Rattle.term_reader.specs.TermOutput.{emit_tree}
use Rattle.term_reader.proofs.FrameEndLemmas.{list-closes, item-goes_on, tail-goes_on, item-refuses}
use Rattle.term_reader.proofs.ReaderStepLemmas.{moved}
use Rattle.term_reader.specs.declared.state.Frame.TheVariants as frame
use Rattle.term_reader.proofs.ClosingTokenLemmas.{refuses}
use Rattle.term_reader.proofs.steps.close_item.Goals as goal

pub returns-in-Comma-clause-moves : goal.returns-in-Comma-clause-moves
returns-in-Comma-clause-moves c = λ place.
    IfOk-weaker c.push_frame.result _ _ (λ t d. moved c.args.source.text.now c.args.state.now.at c.args.end c.push_frame.new.state _ t d.step d.at place) c.push_frame.ensures

pub returns-in-Comma-clause-outcome : goal.returns-in-Comma-clause-outcome
returns-in-Comma-clause-outcome c = λ k l p h.
    IfOk-weaker c.push_frame.result _ _ (λ t d. item-goes_on c.args.source c.args.state.now c.push_frame.new.state k l p c.args.token c.args.end c.args.before 0 t h c.in-Comma.is d) c.push_frame.ensures

pub returns-in-Bar-clause-moves : goal.returns-in-Bar-clause-moves
returns-in-Bar-clause-moves c = λ place.
    IfOk-weaker c.push_frame-in-Bar.result _ _ (λ t d. moved c.args.source.text.now c.args.state.now.at c.args.end c.push_frame-in-Bar.new.state _ t d.step d.at place) c.push_frame-in-Bar.ensures

pub returns-in-Bar-clause-outcome : goal.returns-in-Bar-clause-outcome
returns-in-Bar-clause-outcome c = λ k l p h.
    IfOk-weaker c.push_frame-in-Bar.result _ _ (λ t d. tail-goes_on c.args.source c.args.state.now c.push_frame-in-Bar.new.state k l p c.args.token c.args.end c.args.before 0 t h c.in-Bar.is d) c.push_frame-in-Bar.ensures

pub returns-in_ok-list-in-CloseList-clause-outcome : goal.returns-in_ok-list-in-CloseList-clause-outcome
returns-in_ok-list-in-CloseList-clause-outcome c = λ k l p h.
    let s = emit_tree (emitted_stack k) l in
    list-closes c.args.source c.args.state.now _ k l p c.args.token c.args.end c.args.before h c.in-CloseList.is refl refl
    (c.in_ok-list-in-CloseList.ensures (emit_tree s (AtomTree nil_name)) (c.in_ok-nil-in-CloseList.ensures s h.output))

pub returns-in_default-clause-outcome : goal.returns-in_default-clause-outcome
returns-in_default-clause-outcome c = λ k l p h goal g.
    refuses c.args.source c.args.state.now (frame.Item c.args.before) k l p c.args.token c.args.end h (item-refuses c.args.source c.args.state.now c.args.state.now k l p c.args.token c.args.end c.args.before h c.in_default.not-Comma c.in_default.not-Bar c.in_default.not-CloseList) goal g

pub returns-in_default-clause-fault : goal.returns-in_default-clause-fault
returns-in_default-clause-fault c = λ first k l p h refused. (refused (item-refuses c.args.source c.args.state.now c.args.state.now k l p c.args.token c.args.end c.args.before h c.in_default.not-Comma c.in_default.not-Bar c.in_default.not-CloseList)).0 (λ full e. full)
