use Rattle.std.proofs.Common.{◌≡◌, arith, subst}
use Rattle.std.proofs.lemmas.Bool.{OnFalse_from}
use Rattle.std.proofs.lemmas.Bool.Decides.{nat_tests}
use Rattle.tree_model.specs.Legality.{is_ready}
use Rattle.tree_nodes.specs.Held.{HasNone}
use Rattle.tree_nodes.proofs.HeldLemmas.{none_held}
use Rattle.tree_nodes.proofs.table.Table.may_have_ready.Goals as goal

pub returns : goal.returns
returns c = OnFalse_from _ _ (λ e. subst (HasNone is_ready) c.self.view_is
    (none_held is_ready c.self.inside.slots.items c.self.inside.held.ready (let z : c.self.inside.held.ready ≡ 0 = grind (arith, nat_tests, e) in z) c.self.invariant.ready))
