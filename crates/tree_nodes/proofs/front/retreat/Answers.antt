use Rattle.std.proofs.Common.{◌<◌, ◌-◌, ◌++◌, List, [], ◌∷◌, length, sym, ap, ◌∙◌, subst, arith}
use Rattle.std.proofs.lemmas.List.{append-nil, append_assoc, length-append, length-take-le}
use Rattle.tree_nodes.specs.declared.front.Front.{Front}
use Rattle.tree_nodes.specs.Fronts.{IsLastTest, IsLastThere}
use Rattle.tree_nodes.proofs.front.retreat.Goals as goal

pub loop-front-init : goal.loop-front-init
loop-front-init c = ([], sym (append-nil c.args.front.now.items))

pub loop-front-smaller : goal.loop-front-smaller
loop-front-smaller c =
    let items = c.loop-front.front.items in
    let test = subst (IsLastTest c.args.table.now c.args.limit c.deref.result.now) c.loop-front-test.true c.is_last_there.ensures in
    let parts = length-append test.1.0 (test.0 ∷ []) in
    let whole = ap length test.1.1 in
    let same = ap length c.deref.ensures.value in
    let len = c.deref.ensures.len in
    let rest = ap length c.pop-past.ensures.rest in
    let some : 0 < length items = omega (arith, parts, whole, same) in
    let shorter = length-take-le (c.loop-front.front.len - 1) items (omega (arith, same, len)) in
    let z : length c.pop-past.new.self.items < length items = omega (arith, rest, shorter, some, same, len) in
    z

pub loop-front-preserved : goal.loop-front-preserved
loop-front-preserved c =
    let past = c.loop-front.invariant.0 in
    (_, c.loop-front.invariant.1 ∙ (ap (λ (x : List Front). x ++ past) c.pop-past.ensures.items ∙ append_assoc c.pop-past.new.self.items _ past))

pub returns : goal.returns
returns c =
    let rows = c.args.table.now in
    let test : IsLastThere rows c.args.limit c.deref.result.now = subst (IsLastTest rows c.args.limit c.deref.result.now) c.loop-front-test.false c.is_last_there.ensures in
    (c.loop-front.invariant, subst (IsLastThere rows c.args.limit) c.deref.ensures.value test)
