use Rattle.std.proofs.Common.{◌≡◌, ◌+◌, ◌-◌, suc, take, drop, length, map, arith}
use Rattle.std.proofs.lemmas.Grind.{common_steps}
use Rattle.std.proofs.lemmas.List.{take-map, drop-map}
use Rattle.tree_nodes.specs.Siblings.{alternative_view}
use Rattle.tree_nodes.proofs.SomeLemmas.{on_err, beside_some}
use Rattle.tree_nodes.proofs.siblings.Siblings.gather_beside.Goals as goal

pub returns-clause-sum : goal.returns-clause-sum
returns-clause-sum c = grind (arith, common_steps, take-map, drop-map)

pub returns-clause-some : goal.returns-clause-some
returns-clause-some c = grind (arith, common_steps, take-map, drop-map)

pub returns-in_err-gather_right-clause-some : goal.returns-in_err-gather_right-clause-some
returns-in_err-gather_right-clause-some c =
    let items = c.deref.result.now in
    let same : map alternative_view (take (length items - (c.args.index + 1)) (drop (c.args.index + 1) items)) ≡ drop (suc c.args.index) c.args.self.now
    = grind (arith, common_steps, take-map, drop-map) in
    on_err c.from_residual.result _ (beside_some c.args.self.now c.args.index c.args.gathered.now _ c.in_err-gather_right.ensures.some same)
