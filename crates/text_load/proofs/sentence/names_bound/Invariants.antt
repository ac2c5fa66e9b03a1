use Rattle.std.proofs.Common.{◌≡◌, map, max, drop}
use Rattle.run_model.specs.Programs.Jobs.{names_bound}
use Rattle.au_model.specs.Terms.Named.{variable_meant}
use Rattle.text_load.proofs.sentence.names_bound.Given as goal

abbrev pub invariant-loop-name : goal.invariant-loop-name
invariant-loop-name l = max l.bound (names_bound (map variable_meant (drop l.name-index l.names))) ≡ names_bound (map variable_meant l.names)
