use Rattle.std.proofs.Common.{◌≡◌, ◌<◌, ◌++◌, ◌∷◌, [], ◌∙◌, length, arith}
use Rattle.cell_store.proofs.UndoingLemmas.{popped}
use Rattle.cell_store.proofs.mark.free_after.Goals as goal

pub loop-trail-preserved : goal.loop-trail-preserved
loop-trail-preserved c =
    let old = c.loop-trail.trail.items in
    let rest = c.pop.new.self.items in
    let v = c.in-Some.variable in
    let is : old ≡ rest ++ v ∷ [] = c.in-Some.ensures.items in
    let more : c.args.kept < length old = omega (arith, c.len.ensures, c.loop-trail-test.true) in
    let h = popped c.args.kept old rest v c.loop-trail.cells c.free.new.self is more c.free.ensures c.loop-trail.invariant.there in
    record { there = h.0; trail = h.1.0 ∙ c.loop-trail.invariant.trail; cells = h.1.1 ∙ c.loop-trail.invariant.cells }
