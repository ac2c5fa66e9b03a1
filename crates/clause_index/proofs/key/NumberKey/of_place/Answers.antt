use Rattle.std.proofs.Common.{◌∙◌, sym, ap}
use Rattle.clause_compile.proofs.GroundPlaceLemmas.{compound_at}
use Rattle.proc_index.specs.Keys.{key_of}
use Rattle.clause_index.proofs.PlaceLemmas.{compound_key}
use Rattle.clause_index.proofs.key.NumberKey.of_place.Goals as goal

pub returns-in-Sub-clause-key : goal.returns-in-Sub-clause-key
returns-in-Sub-clause-key c =
    compound_key c.args.code.now c.in-Sub.at c.functor_at-name.result.0 c.functor_at-name.result.1 c.functor_at-name.ensures.functor ∙ ap key_of (sym (compound_at c.args.code.now c.args.place c.in-Sub.at c.in-Sub.is c.requires).1)
