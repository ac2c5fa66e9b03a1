use Rattle.std.proofs.Common.{◌≡◌, ℕ, Bool, Option, Some, None, sym}
use Rattle.tree_model.specs.Levels.{Spot}
use Rattle.tree_nodes.specs.TreeTables.{NodesView}
use Rattle.branch_order.specs.Leftmosts.{IsTop}
use Rattle.branch_order.specs.Sought.{IsWalkStart}
use Rattle.branch_order.proofs.LeftmostLemmas.{goes_down_from}
use Rattle.branch_order.proofs.FrontLemmas.{front_top}
use Rattle.branch_order.proofs.SoughtLemmas.{from_first, from_front}
use Rattle.branch_order.proofs.order.top.Goals as goal

first_top : (nodes : NodesView) (o : Option ℕ) → o ≡ nodes.first → IsTop nodes o
first_top nodes None e = sym e
first_top nodes (Some n) e = goes_down_from nodes n (sym e)

first_start : (nodes : NodesView) (o : Option ℕ) → o ≡ nodes.first → (test : Spot → Bool) → IsWalkStart nodes test o
first_start nodes None e test = sym e
first_start nodes (Some n) e test = from_first nodes test n (sym e)

pub returns-in-Some-clause-down : goal.returns-in-Some-clause-down
returns-in-Some-clause-down c = front_top c.args.nodes.now c.in-Some.front c.in-Some.ensures

pub returns-in-Some-clause-ahead : goal.returns-in-Some-clause-ahead
returns-in-Some-clause-ahead c = λ test. from_front c.args.nodes.now test c.in-Some.front c.in-Some.ensures

pub returns-in-None-clause-down : goal.returns-in-None-clause-down
returns-in-None-clause-down c = first_top c.args.nodes.now c.first.result c.first.ensures

pub returns-in-None-clause-ahead : goal.returns-in-None-clause-ahead
returns-in-None-clause-ahead c = first_start c.args.nodes.now c.first.result c.first.ensures
