use Rattle.std.proofs.Common.{◌∙◌, sym, ap, subst}
use Rattle.std.proofs.lemmas.Result.{IfOk-weaker}
use Rattle.au_model.specs.Terms.Each.{Each}
use Rattle.cell_store.specs.StoreView.{IsValueIn}
use Rattle.branch_bindings.specs.Extensions.{ExtendsBy}
use Rattle.branch_bindings.specs.ExtensionLaws.{written_bindings}
use Rattle.region_capture.proofs.writing.bindings_since_floor.Goals as goal

pub written_values-requires : goal.written_values-requires
written_values-requires c =
    let st = c.args.store.now in subst (Each (λ b. IsValueIn st b.1)) (sym c.deref.ensures.value) c.in_ok-made.ensures.there

pub returns : goal.returns
returns c =
    let st = c.args.store.now in
    IfOk-weaker c.written_values.result _ _ (λ bs are.
    subst (ExtendsBy st.floor.bound st.now.bound st.now.next) (sym (are ∙ ap (written_bindings st) c.deref.ensures.value))
    (c.made_bindings_extend.ensures st.floor st c.in_ok-made.made.items c.next-next.ensures.sound c.in_ok-made.ensures c.in_ok-made.ensures.falling))
    c.written_values.ensures
