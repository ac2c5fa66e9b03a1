use Rattle.std.proofs.Common.{◌≡◌, ◌+◌, take, map, ap, ◌∙◌, arith}
use Rattle.std.proofs.lemmas.List.{length-take-le, length-map, take_all}
use Rattle.tree_nodes.specs.Siblings.{alternative_view, open_count}
use Rattle.tree_nodes.proofs.SiblingLemmas.{open_count-le, open_count-more}
use Rattle.tree_nodes.proofs.siblings.open_count.Goals as goal

pub overflow_add-open : goal.overflow_add-open
overflow_add-open c =
    let i = c.loop-alternative.alternative-index in
    let items = c.args.items.now in
    let k : c.loop-alternative.open ≡ open_count (map alternative_view (take i items)) = c.loop-alternative.invariant in
    let more = open_count-more items i c.alternative-item.result c.loop-alternative-test.true c.alternative-item.is in
    let bound = open_count-le (map alternative_view (take (i + 1) items)) in
    let len = length-map (take (i + 1) items) alternative_view in
    let len2 = length-take-le (i + 1) items (omega arith) in
    let one = c.open_one-open.ensures in
    omega (arith, k, more, bound, len, len2, one)

pub loop-alternative-preserved : goal.loop-alternative-preserved
loop-alternative-preserved c =
    let i = c.loop-alternative.alternative-index in
    let items = c.args.items.now in
    let k : c.loop-alternative.open ≡ open_count (map alternative_view (take i items)) = c.loop-alternative.invariant in
    let more = open_count-more items i c.alternative-item.result c.loop-alternative-test.true c.alternative-item.is in
    let one = c.open_one-open.ensures in
    let sum : c.loop-alternative.open + c.open_one-open.result ≡ open_count (map alternative_view (take (i + 1) items)) = omega (arith, k, more, one) in
    sum

pub returns-clause-count : goal.returns-clause-count
returns-clause-count c =
    let k : c.loop-alternative.open ≡ open_count (map alternative_view (take c.loop-alternative.alternative-index c.args.items.now)) = c.loop-alternative.invariant in
    k ∙ ap (λ (x : _). open_count (map alternative_view x)) (take_all c.loop-alternative.alternative-index c.args.items.now c.loop-alternative-test.false)

pub returns-clause-bound : goal.returns-clause-bound
returns-clause-bound c =
    let items = c.args.items.now in
    let k : c.loop-alternative.open ≡ open_count (map alternative_view (take c.loop-alternative.alternative-index items)) = c.loop-alternative.invariant in
    let all = ap (λ (x : _). open_count (map alternative_view x)) (take_all c.loop-alternative.alternative-index items c.loop-alternative-test.false) in
    let bound = open_count-le (map alternative_view items) in
    let len = length-map items alternative_view in
    omega (arith, k, all, bound, len)
