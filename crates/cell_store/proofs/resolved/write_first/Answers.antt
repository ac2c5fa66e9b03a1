use Rattle.std.proofs.Common.{◌∙◌, ◌++◌, ◌∷◌, [], reverse, sym, ap, subst}
use Rattle.std.proofs.lemmas.Result.{on_ok_weaker}
use Rattle.au_term.specs.declared.cell.Cell.TheVariants.{Functor as FunctorCell}
use Rattle.cell_store.specs.StoreView.{IsValueIn, text_in}
use Rattle.cell_store.specs.WrittenTerms.{followed, followed_term}
use Rattle.cell_store.proofs.WritingLemmas.{opened_writes}
use Rattle.cell_store.proofs.resolved.write_first.Goals as goal

pub returns-in_ok-push-in-Compound : goal.returns-in_ok-push-in-Compound
returns-in_ok-push-in-Compound c =
    let st = c.args.store.now in
    let at = c.in-Compound.at in
    let base = c.in-Compound.base in
    let here = ap (followed_term c.args.follow st) (sym c.in-Compound.is) ∙ c.reached_by.ensures.same in
    let wrote = c.in_ok-push-in-Compound.ensures.ok in
    let functor = c.functor-name.ensures.functor base (subst (IsValueIn st) c.in-Compound.is c.reached_by.ensures.there) in
    on_ok_weaker c.push_arguments.result (λ h. opened_writes (followed c.args.follow st) (text_in st) st.now.next at base c.functor-name.result.0 c.functor-name.result.1 (followed_term c.args.follow st c.args.value) c.args.builder.now c.push-in-Compound.new.self (reverse c.args.pending.now.items) (reverse c.push_arguments.new.pending.items) here functor h (wrote ∙ ap (λ name. c.args.builder.now ++ FunctorCell name c.functor-name.result.1 ∷ []) (c.in_ok-share-in-Compound.ensures ∙ c.name-in-Compound.ensures))) c.push_arguments.ensures
