use Rattle.std.proofs.Common.{arith}
use Rattle.std.proofs.Common.{map}
use Rattle.tree_nodes.specs.Siblings.{alternative_view}
use Rattle.tree_nodes.proofs.GapLemmas.{popped_gaps}
use Rattle.tree_nodes.proofs.SiblingLemmas.{popped_cells, popped_open, popped_passed, none_passed}
use Rattle.tree_nodes.proofs.siblings.Siblings.pop.Goals as goal

pub overflow_sub-self : goal.overflow_sub-self
overflow_sub-self c =
    let m = popped_open c.self.inside.items.items c.pop.new.self.items c.in_ok-last.last c.self.inside.many_open c.self.inside.passed c.in_ok-last.ensures.items c.self.invariant.counted in
    let one = c.open_one.ensures in
    omega (arith, m, one)

pub invariant_of-self-then-self-len : goal.invariant_of-self-then-self-len
invariant_of-self-then-self-len c =
    let m = popped_open c.self.inside.items.items c.pop.new.self.items c.in_ok-last.last c.self.inside.many_open c.self.inside.passed c.in_ok-last.ensures.items c.self.invariant.counted in
    let one = c.open_one.ensures in
    record {
      counted = record { open_are = omega (arith, m, one); passed = none_passed _ };
      beside = popped_gaps c.self.inside.gaps.items (map alternative_view c.self.inside.items.items) (map alternative_view c.pop.new.self.items) (alternative_view c.in_ok-last.last)
          (popped_cells c.self.inside.items.items c.pop.new.self.items c.in_ok-last.last c.in_ok-last.ensures.items) c.self.invariant.beside;
    }

pub invariant_of-self-else-self-len : goal.invariant_of-self-else-self-len
invariant_of-self-else-self-len c =
    let m = popped_open c.self.inside.items.items c.pop.new.self.items c.in_ok-last.last c.self.inside.many_open c.self.inside.passed c.in_ok-last.ensures.items c.self.invariant.counted in
    let one = c.open_one.ensures in
    record {
      beside = popped_gaps c.self.inside.gaps.items (map alternative_view c.self.inside.items.items) (map alternative_view c.pop.new.self.items) (alternative_view c.in_ok-last.last)
          (popped_cells c.self.inside.items.items c.pop.new.self.items c.in_ok-last.last c.in_ok-last.ensures.items) c.self.invariant.beside;
      counted = record {
        open_are = omega (arith, m, one);
        passed = popped_passed c.self.inside.items.items c.pop.new.self.items c.in_ok-last.last c.self.inside.many_open c.self.inside.passed c.in_ok-last.ensures.items
            c.self.invariant.counted (omega arith);
      };
    }
