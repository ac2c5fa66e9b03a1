use Rattle.std.proofs.Common.{◌≡◌}
use Rattle.std.specs.List.{list_all}
use Rattle.branch_reading.specs.SettledWays.{is_item_settled}
use Rattle.branch_tests.proofs.loadable.are_items_settled.Given as goal

abbrev pub invariant-loop-item : goal.invariant-loop-item
invariant-loop-item l = list_all (is_item_settled l.next) l.goals ≡ list_all (is_item_settled l.next) l.item-iterator
