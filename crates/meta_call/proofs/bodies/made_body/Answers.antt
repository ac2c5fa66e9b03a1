use Rattle.std.proofs.Common.{List, [], ◌∷◌, ◌++◌, ap, ◌∙◌, arith, subst}
use Rattle.std.proofs.lemmas.List.{nil_from_length}
use Rattle.binding_array.specs.declared.cell.BindingCell.{BindingCell}
use Rattle.cell_store.specs.StoreView.{meaning}
use Rattle.meta_call.specs.OwnBodies.{KeepsPartOr}
use Rattle.meta_call.proofs.BodyLemmas.{kept_begun, value_there, no_whole, all_kept}
use Rattle.meta_call.proofs.bodies.made_body.Goals as goal

pub loop-value-init : goal.loop-value-init
loop-value-init c =
    kept_begun c.args.store.now c.args.value c.new-builder.result c.push.new.self.items c.new-builder.ensures
    (c.in_ok-push.ensures.items ∙ ap (λ (vs : List BindingCell). vs ++ c.args.value ∷ []) c.new-pending.ensures.items) c.requires

pub keep_part-requires-clause-there : goal.keep_part-requires-clause-there
keep_part-requires-clause-there c =
    value_there c.args.store.now (meaning c.args.store.now c.args.value) c.loop-value.builder c.loop-value.pending.items c.pop.new.self.items c.in-Some.value c.in-Some.ensures.items c.loop-value.invariant

pub returns-then-not-branch : goal.returns-then-not-branch
returns-then-not-branch c =
    let st = c.args.store.now in
    no_whole st (meaning st c.args.value) c.loop-value.builder c.loop-value.pending.items c.pop.new.self.items c.in-Some.value c.in-Some.ensures.items c.loop-value.invariant
    (subst (KeepsPartOr st c.in-Some.value c.loop-value.builder c.keep_part.new.builder c.pop.new.self.items c.keep_part.new.pending.items) c.if-not-branch.true c.in_ok-keep_part.ensures)

pub returns : goal.returns
returns c =
    let none = nil_from_length c.loop-value.pending.items (omega (arith, c.in_default.ensures.cases, c.loop-value.pending.ok.0)) in
    all_kept c.args.store.now (meaning c.args.store.now c.args.value) c.finish.result c.loop-value.builder c.loop-value.pending.items c.loop-value.invariant none c.finish.ensures.cells
