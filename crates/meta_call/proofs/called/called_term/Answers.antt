use Rattle.std.proofs.Common.{◌∙◌, ◌++◌, [], reverse, sym, ap, arith, append-nil}
use Rattle.std.proofs.lemmas.List.{nil_from_length}
use Rattle.au_term.specs.PrefixOrder.{term_of, term_of-cells_of}
use Rattle.au_model.proofs.CopyLemmas.{copy_done}
use Rattle.au_model.proofs.EquationsInTurnLemmas.{resolve-nothing}
use Rattle.run_model.specs.Goals.Control.{with_arguments}
use Rattle.cell_store.specs.StoreView.{value_term, text_in}
use Rattle.cell_store.specs.WrittenTerms.{cells_left}
use Rattle.cell_store.proofs.WalkLemmas.{first_there, top_there}
use Rattle.cell_store.proofs.WritingLemmas.{written, still_due}
use Rattle.meta_call.specs.CalledTerms.{further_terms}
use Rattle.meta_call.proofs.called.called_term.Goals as goal

pub argument-value-requires : goal.argument-value-requires
argument-value-requires c =
    let st = c.args.store.now in
    first_there (text_in st) st.now.next c.in-Some.arguments (top_there (text_in st) st.now.next c.loop-arguments.pending.items c.pop.new.self.items c.in-Some.arguments c.in-Some.ensures.items c.loop-arguments.invariant.there).0

pub push_rest-requires-clause-some : goal.push_rest-requires-clause-some
push_rest-requires-clause-some c =
    let st = c.args.store.now in
    (top_there (text_in st) st.now.next c.loop-arguments.pending.items c.pop.new.self.items c.in-Some.arguments c.in-Some.ensures.items c.loop-arguments.invariant.there).0.0

pub take_first-requires-clause-due : goal.take_first-requires-clause-due
take_first-requires-clause-due c =
    let st = c.args.store.now in
    let whole = with_arguments (value_term st c.args.callee) (further_terms st c.args.further) in
    let value = c.argument-value.result in
    still_due [] (text_in st) st.now.next c.loop-arguments.pending.items c.pop.new.self.items c.push_rest.new.pending.items c.in-Some.arguments _ (value_term st value) whole c.loop-arguments.builder c.in-Some.ensures.items c.loop-arguments.invariant.there c.in_ok-push_rest.ensures c.argument-value.ensures.term (resolve-nothing _) c.loop-arguments.invariant.same

pub loop-arguments-smaller : goal.loop-arguments-smaller
loop-arguments-smaller c =
    let st = c.args.store.now in
    let whole = with_arguments (value_term st c.args.callee) (further_terms st c.args.further) in
    let value = c.argument-value.result in
    (written [] (text_in st) st.now.next c.loop-arguments.pending.items c.pop.new.self.items c.push_rest.new.pending.items c.take_first.new.pending.items c.in-Some.arguments _ (value_term st value) whole c.loop-arguments.builder c.take_first.new.builder c.in-Some.ensures.items c.loop-arguments.invariant.there c.in_ok-push_rest.ensures c.argument-value.ensures.term (resolve-nothing _) c.in_ok-take_first.ensures c.loop-arguments.invariant.same).1

pub loop-arguments-preserved : goal.loop-arguments-preserved
loop-arguments-preserved c =
    let st = c.args.store.now in
    let whole = with_arguments (value_term st c.args.callee) (further_terms st c.args.further) in
    let value = c.argument-value.result in
    let h = written [] (text_in st) st.now.next c.loop-arguments.pending.items c.pop.new.self.items c.push_rest.new.pending.items c.take_first.new.pending.items c.in-Some.arguments _ (value_term st value) whole c.loop-arguments.builder c.take_first.new.builder c.in-Some.ensures.items c.loop-arguments.invariant.there c.in_ok-push_rest.ensures c.argument-value.ensures.term (resolve-nothing _) c.in_ok-take_first.ensures c.loop-arguments.invariant.same in
    record { same = h.0; there = h.2 }

pub finish-requires : goal.finish-requires
finish-requires c =
    let st = c.args.store.now in
    let none = nil_from_length c.loop-arguments.pending.items (omega (arith, c.in_default.ensures.cases, c.loop-arguments.pending.ok.0)) in
    copy_done (with_arguments (value_term st c.args.callee) (further_terms st c.args.further)) c.loop-arguments.builder (sym (append-nil c.loop-arguments.builder) ∙ (ap (λ ps. c.loop-arguments.builder ++ cells_left [] (text_in st) (reverse ps)) (sym none) ∙ c.loop-arguments.invariant.same))

pub returns : goal.returns
returns c =
    let st = c.args.store.now in
    let whole = with_arguments (value_term st c.args.callee) (further_terms st c.args.further) in
    let none = nil_from_length c.loop-arguments.pending.items (omega (arith, c.in_default.ensures.cases, c.loop-arguments.pending.ok.0)) in
    let cells = c.finish.ensures.cells ∙ (sym (append-nil c.loop-arguments.builder) ∙ (ap (λ ps. c.loop-arguments.builder ++ cells_left [] (text_in st) (reverse ps)) (sym none) ∙ c.loop-arguments.invariant.same)) in
    sym (term_of-cells_of c.finish.result) ∙ (ap term_of cells ∙ term_of-cells_of whole)
