use Rattle.std.proofs.Common.{subst, arith}
use Rattle.cell_store.specs.StoreView.{IsValueIn}
use Rattle.meta_call.proofs.CallLemmas.{compound_room, refused_above}
use Rattle.meta_call.proofs.call.refusal.Goals as goal

pub returns-then-own-further-gt-MAX_ARITY : goal.returns-then-own-further-gt-MAX_ARITY
returns-then-own-further-gt-MAX_ARITY c =
    let st = c.args.store.now in
    let has = c.functor-name.ensures.functor c.in-Compound.field-1 (subst (IsValueIn st) c.in-Compound.is c.requires.there) in
    let room = compound_room st c.args.callee c.in-Compound.at c.in-Compound.field-1 c.functor-name.result.0 c.functor-name.result.1 c.in-Compound.is has in
    refused_above st c.args.callee c.args.further room.0 (omega (arith, room.1, c.if-own-further-gt-MAX_ARITY.true))

pub returns-else-own-further-gt-MAX_ARITY : goal.returns-else-own-further-gt-MAX_ARITY
returns-else-own-further-gt-MAX_ARITY c =
    let st = c.args.store.now in
    let has = c.functor-name.ensures.functor c.in-Compound.field-1 (subst (IsValueIn st) c.in-Compound.is c.requires.there) in
    let room = compound_room st c.args.callee c.in-Compound.at c.in-Compound.field-1 c.functor-name.result.0 c.functor-name.result.1 c.in-Compound.is has in
    record { callable = room.0; most = omega (arith, room.1, c.if-own-further-gt-MAX_ARITY.false) }
