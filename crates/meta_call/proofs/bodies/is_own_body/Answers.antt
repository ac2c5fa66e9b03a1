use Rattle.std.proofs.Common.{subst}
use Rattle.cell_store.specs.StoreView.{meaning}
use Rattle.meta_call.proofs.BodyLemmas.{own_sides, IsOwnWith}
use Rattle.meta_call.proofs.bodies.is_own_body.Goals as goal

pub loop-next-preserved-in-Junction : goal.loop-next-preserved-in-Junction
loop-next-preserved-in-Junction c =
    let st = c.args.store.now in
    own_sides st (meaning st c.args.value) c.in-Some.value c.loop-next.pending.items c.push.new.self.items c.in-Junction.name c.in-Junction.left c.in-Junction.right
    (subst (λ next. IsOwnWith st (meaning st c.args.value) next c.loop-next.pending.items) c.in-Some.is c.loop-next.invariant) c.in-Junction.ensures c.in_ok-push-in-Junction.ensures.items
