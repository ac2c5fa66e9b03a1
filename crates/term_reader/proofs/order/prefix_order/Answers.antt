use Rattle.std.proofs.Common.{◌≡◌, ◌∙◌, ◌<◌, [], ◌∷◌, ◌++◌, sym, ap, subst, arith}
use Rattle.au_term.specs.PrefixOrder.{cells_of, arity}
use Rattle.term_reader.specs.PostorderLevels.{IsCompleting, IsReordering}
use Rattle.term_reader.specs.Postorder.{pending_compound}
use Rattle.term_reader.proofs.PostorderLemmas.{turns-start, turns-more, turns-single, turns-over, no_items}
use Rattle.term_reader.proofs.order.prefix_order.Goals as goal

pub loop-cell-init : goal.loop-cell-init
loop-cell-init c = λ t e.
    let o = c.new-push_frame.ensures.items in
    let u = c.new-out.ensures.items in
    rw (e, o, u) (turns-start t)

pub loop-cell-preserved-in-Continue-1 : goal.loop-cell-preserved-in-Continue-1
loop-cell-preserved-in-Continue-1 c = λ t e.
    let cell = c.in-Some.cell in
    let stack = c.loop-cell.push_frame.items in
    let out = c.loop-cell.out.items in
    let rest = c.pop.new.self.items in
    let h = subst (λ cs. IsReordering cs stack out (cells_of t)) c.in-Some.ensures.items (c.loop-cell.invariant t e) in
    let lt : 0 < arity cell = omega (arith, c.arity-left.ensures) in
    subst (λ ps. IsReordering rest ps out (cells_of t)) (sym (c.in_ok-push.ensures.items ∙ ap (λ n. stack ++ pending_compound cell n ∷ []) c.arity-left.ensures)) (turns-more rest cell stack out (cells_of t) h lt)

pub loop-cell-preserved : goal.loop-cell-preserved
loop-cell-preserved c = λ t e.
    let cell = c.in-Some.cell in
    let stack = c.loop-cell.push_frame.items in
    let out = c.loop-cell.out.items in
    let rest = c.pop.new.self.items in
    let h = subst (λ cs. IsReordering cs stack out (cells_of t)) c.in-Some.ensures.items (c.loop-cell.invariant t e) in
    let none : arity cell ≡ 0 = omega (arith, c.arity-left.ensures) in
    c.in_ok-reduce_operators.ensures rest (cells_of t) (subst (λ o. IsCompleting rest stack o (cells_of t)) (sym c.in_ok-push-2.ensures.items) (turns-single rest cell stack out (cells_of t) h none))

pub returns : goal.returns
returns c = λ t e.
    let out = c.loop-cell.out.items in
    let stack = c.loop-cell.push_frame.items in
    let before : c.loop-cell.cells.items ≡ [] = no_items c.loop-cell.cells.items (omega (arith, c.in_default.ensures.cases)) in
    c.reverse.ensures.items ∙ turns-over stack out (cells_of t) (subst (λ cs. IsReordering cs stack out (cells_of t)) before (c.loop-cell.invariant t e))
