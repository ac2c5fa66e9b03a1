use Rattle.std.proofs.Common.{◌∷◌, ap, ◌∙◌}
use Rattle.clause_compile.specs.declared.place.Place.{Place}
use Rattle.clause_index.specs.Functors.{places_after}
use Rattle.clause_index.proofs.PlaceLemmas.{functor_is}
use Rattle.clause_index.proofs.heads.functor_at.Goals as goal

pub returns-clause-functor : goal.returns-clause-functor
returns-clause-functor c =
    functor_is c.args.code.now c.args.at c.in-Functor.name c.in-Functor.arity c.len-places.ensures.sound c.requires
    (c.place.ensures ∙ ap (λ (p : Place). p ∷ places_after c.args.code.now c.args.at) c.in-Functor.is)
