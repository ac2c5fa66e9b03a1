use Rattle.std.proofs.Common.{reverse, sym, subst, arith}
use Rattle.cell_store.specs.Arguments.{KeepsRest}
use Rattle.cell_store.proofs.WalkLemmas.{rest_some, rest_none, popped}
use Rattle.cell_store.proofs.occurs.next_arguments.Goals as goal

pub returns : goal.returns
returns c = rest_some c.args.arguments c.rest_of.result (reverse c.args.pending.now.items) (omega (arith, c.requires.some, c.if-arguments-eq1.false)) c.rest_of.ensures

pub returns-then-arguments-eq1 : goal.returns-then-arguments-eq1
returns-then-arguments-eq1 c =
    let old = c.args.pending.now.items in
    let waiting = popped old c.pop.new.self.items c.pop.result _ _ c.pop.ensures.items (omega (arith, c.args.pending.now.ok.0)) c.pop.ensures.cases in
    subst (KeepsRest c.args.arguments (reverse old)) (sym waiting) (rest_none c.args.arguments (reverse old) c.if-arguments-eq1.true)
