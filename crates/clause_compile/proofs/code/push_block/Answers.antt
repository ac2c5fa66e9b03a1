use Rattle.std.proofs.Common.{reverse}
use Rattle.clause_compile.specs.declared.place.Place.TheVariants.{Functor}
use Rattle.clause_compile.proofs.CodeLemmas.{block_grows}
use Rattle.clause_compile.proofs.code.push_block.Goals as goal

pub loop-argument-preserved : goal.loop-argument-preserved
loop-argument-preserved c =
    let h = block_grows c.args.places.now.items c.loop-argument.places.items c.push-in-Some.new.self.items (reverse c.args.stack.now.items) c.loop-argument.stack.items c.pop.new.self.items (Functor c.args.number c.args.count) c.in-Some.place c.loop-argument._argument
    c.loop-argument.invariant.block c.loop-argument.invariant.left c.in-Some.ensures.items c.in_ok-push-in-Some.ensures.items in
    record { block = h.0; left = h.1 }
