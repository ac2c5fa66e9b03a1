use Rattle.std.proofs.Common.{◌≡◌, arith, subst}
use Rattle.std.proofs.lemmas.Bool.{OnFalse_from}
use Rattle.std.proofs.lemmas.Bool.Decides.{nat_tests}
use Rattle.tree_nodes.specs.Held.{is_waiting, HasNone}
use Rattle.tree_nodes.proofs.HeldLemmas.{none_held}
use Rattle.tree_nodes.proofs.table.Table.may_have_waiting.Goals as goal

pub returns : goal.returns
returns c = OnFalse_from _ _ (λ e. subst (HasNone is_waiting) c.self.view_is
    (none_held is_waiting c.self.inside.slots.items c.self.inside.held.waiting (let z : c.self.inside.held.waiting ≡ 0 = grind (arith, nat_tests, e) in z) c.self.invariant.waiting))
