use Rattle.std.proofs.Common.{sym, subst}
use Rattle.clause_compile.proofs.GroundPlaceLemmas.{compound_at}
use Rattle.region_split.specs.Texts.{IsArgumentPlace}
use Rattle.region_split.proofs.text.argument_place.Goals as goal

pub argument_place_in-requires : goal.argument_place_in-requires
argument_place_in-requires c = (compound_at c.args.code.now c.args.term c.in-Sub.at c.in-Sub.is c.requires).0

pub returns-in-Sub : goal.returns-in-Sub
returns-in-Sub c = subst (λ t. IsArgumentPlace c.args.code.now t c.args.i c.argument_place_in.result) (sym (compound_at c.args.code.now c.args.term c.in-Sub.at c.in-Sub.is c.requires).1) c.argument_place_in.ensures
