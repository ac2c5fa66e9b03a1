use Rattle.std.proofs.Common.{◌∙◌, ◌++◌, refl, reverse, sym, ap, arith, append-nil}
use Rattle.std.proofs.lemmas.List.{nil_from_length}
use Rattle.au_term.specs.PrefixOrder.{term_of, term_of-cells_of}
use Rattle.au_model.proofs.CopyLemmas.{copy_done}
use Rattle.cell_store.specs.StoreView.{text_in}
use Rattle.cell_store.specs.WrittenTerms.{cells_left, followed, followed_term}
use Rattle.cell_store.proofs.WalkLemmas.{first_there, top_there}
use Rattle.cell_store.proofs.WritingLemmas.{written, still_due}
use Rattle.cell_store.proofs.resolved.resolved.Goals as goal

pub argument-value-requires : goal.argument-value-requires
argument-value-requires c =
    let st = c.args.store.now in
    first_there (text_in st) st.now.next c.in-Some.arguments (top_there (text_in st) st.now.next c.loop-arguments.pending.items c.pop.new.self.items c.in-Some.arguments c.in-Some.ensures.items c.loop-arguments.invariant.there).0

pub write_first-requires-in-Some-clause-due : goal.write_first-requires-in-Some-clause-due
write_first-requires-in-Some-clause-due c =
    let st = c.args.store.now in
    let value = c.argument-value.result in
    still_due (followed c.args.follow st) (text_in st) st.now.next c.loop-arguments.pending.items c.pop.new.self.items c.push_rest.new.pending.items c.in-Some.arguments _ (followed_term c.args.follow st value) (followed_term c.args.follow st c.args.value) c.loop-arguments.builder c.in-Some.ensures.items c.loop-arguments.invariant.there c.in_ok-push_rest.ensures c.argument-value.ensures.term refl c.loop-arguments.invariant.same

pub loop-arguments-preserved : goal.loop-arguments-preserved
loop-arguments-preserved c =
    let st = c.args.store.now in
    let value = c.argument-value.result in
    let h = written (followed c.args.follow st) (text_in st) st.now.next c.loop-arguments.pending.items c.pop.new.self.items c.push_rest.new.pending.items c.write_first-in-Some.new.pending.items c.in-Some.arguments _ (followed_term c.args.follow st value) (followed_term c.args.follow st c.args.value) c.loop-arguments.builder c.write_first-in-Some.new.builder c.in-Some.ensures.items c.loop-arguments.invariant.there c.in_ok-push_rest.ensures c.argument-value.ensures.term refl c.in_ok-write_first-2.ensures c.loop-arguments.invariant.same in
    record { same = h.0; there = h.2 }

pub finish-requires : goal.finish-requires
finish-requires c =
    let st = c.args.store.now in
    let none = nil_from_length c.loop-arguments.pending.items (omega (arith, c.in_default.ensures.cases, c.loop-arguments.pending.ok.0)) in
    copy_done (followed_term c.args.follow st c.args.value) c.loop-arguments.builder (sym (append-nil c.loop-arguments.builder) ∙ (ap (λ ps. c.loop-arguments.builder ++ cells_left (followed c.args.follow st) (text_in st) (reverse ps)) (sym none) ∙ c.loop-arguments.invariant.same))

pub returns : goal.returns
returns c =
    let st = c.args.store.now in
    let none = nil_from_length c.loop-arguments.pending.items (omega (arith, c.in_default.ensures.cases, c.loop-arguments.pending.ok.0)) in
    let cells = c.finish.ensures.cells ∙ (sym (append-nil c.loop-arguments.builder) ∙ (ap (λ ps. c.loop-arguments.builder ++ cells_left (followed c.args.follow st) (text_in st) (reverse ps)) (sym none) ∙ c.loop-arguments.invariant.same)) in
    sym (term_of-cells_of c.finish.result) ∙ (ap term_of cells ∙ term_of-cells_of (followed_term c.args.follow st c.args.value))
