use Rattle.std.proofs.Common.{◌≡◌, [], sym, subst, refl, arith}
use Rattle.term_reader.specs.PostorderLevels.{IsCompleting, IsReordering}
use Rattle.term_reader.proofs.PostorderLemmas.{completes-waits, completes-more, completes-over, no_items}
use Rattle.term_reader.proofs.order.reduce_operators.Goals as goal

pub returns-then-left-gt1 : goal.returns-then-left-gt1
returns-then-left-gt1 c = λ cells whole h.
    let p = c.in-Some.pending in
    let out = c.loop-pending.out.items in
    let s = subst (λ ps. IsCompleting cells ps out whole) c.in-Some.ensures.items (c.loop-pending.invariant cells whole h) in
    subst (λ ps. IsReordering cells ps out whole) (sym c.in_ok-push.ensures.items) (completes-waits cells c.pop.new.self.items p.cell p.left out whole s (omega arith))

pub loop-pending-preserved : goal.loop-pending-preserved
loop-pending-preserved c = λ cells whole h.
    let p = c.in-Some.pending in
    let out = c.loop-pending.out.items in
    let s = subst (λ ps. IsCompleting cells ps out whole) c.in-Some.ensures.items (c.loop-pending.invariant cells whole h) in
    subst (λ o. IsCompleting cells c.pop.new.self.items o whole) (sym c.in_ok-push-2.ensures.items) (completes-more cells c.pop.new.self.items p.cell p.left out whole s (omega arith))

pub returns : goal.returns
returns c = λ cells whole h.
    let out = c.loop-pending.out.items in
    let before : c.loop-pending.waiting.items ≡ [] = no_items c.loop-pending.waiting.items (omega (arith, c.in_default.ensures.cases)) in
    let with_token : c.pop.new.self.items ≡ [] = no_items c.pop.new.self.items (omega (arith, c.in_default.ensures.cases)) in
    let s = subst (λ ps. IsCompleting cells ps out whole) before (c.loop-pending.invariant cells whole h) in
    subst (λ ps. IsReordering cells ps out whole) (sym with_token) (completes-over cells [] out whole s refl)
