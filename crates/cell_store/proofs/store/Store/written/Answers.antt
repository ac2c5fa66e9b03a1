use Rattle.std.proofs.Common.{◌∙◌}
use Rattle.std.proofs.lemmas.Result.{IfOk-weaker}
use Rattle.au_model.proofs.EquationsInTurnLemmas.{resolve-nothing}
use Rattle.cell_store.specs.StoreView.{value_term}
use Rattle.cell_store.proofs.store.Store.written.Goals as goal

pub returns : goal.returns
returns c = IfOk-weaker c.resolved.result _ _ (λ t h. h ∙ resolve-nothing (value_term c.args.self.now c.args.value)) c.resolved.ensures
