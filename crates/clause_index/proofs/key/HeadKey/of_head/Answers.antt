use Rattle.std.proofs.Common.{length-drop, sym, subst, arith, ◌+◌}
use Rattle.clause_compile.proofs.GroundPlaceLemmas.{compound_at}
use Rattle.clause_index.specs.HeadKeys.{IsHeadKeyOf}
use Rattle.clause_index.proofs.PlaceLemmas.{first_there, compound_numbers}
use Rattle.clause_index.proofs.key.HeadKey.of_head.Goals as goal

pub place-requires : goal.place-requires
place-requires c =
    let h = c.functor_at-name.ensures.functor in
    omega (arith, h.some, h.enough, h.within, length-drop (c.in-Sub.at + 1) c.args.code.now.places)

pub of_place-first-requires : goal.of_place-first-requires
of_place-first-requires c =
    first_there c.args.code.now c.in-Sub.at c.functor_at-name.result.0 c.functor_at-name.result.1 c.place.result _ c.functor_at-name.ensures.functor c.place.ensures

pub returns-in-Sub : goal.returns-in-Sub
returns-in-Sub c =
    subst (λ t. IsHeadKeyOf c.args.code.now.names t (record { name = c.functor_at-name.result.0; arity = c.functor_at-name.result.1; first = c.of_place-first.result })) (sym (compound_at c.args.code.now c.args.head c.in-Sub.at c.in-Sub.is c.requires.there).1)
    (compound_numbers c.args.code.now c.in-Sub.at c.functor_at-name.result.0 c.functor_at-name.result.1 c.place.result _ c.of_place-first.result c.functor_at-name.ensures.functor c.place.ensures c.of_place-first.ensures.there c.of_place-first.ensures.key)
