use Rattle.std.proofs.Common.{◌∙◌, ap, map, refl, sym}
use Rattle.std.specs.Option.{option_map}
use Rattle.clause_compile.specs.CompiledClauses.{shown}
use Rattle.dyn_clauses.specs.DatabaseView.{shown_clauses}
use Rattle.effect_gate.proofs.FoundClauseLemmas.{call_found}
use Rattle.effect_gate.proofs.world.World.call.Goals as goal

pub returns-in-Some : goal.returns-in-Some
returns-in-Some c = λ next. (refl, call_found c.args.self.now.database.kept c.args.goal.now next (map shown c.in-Some.found.items) (ap (option_map shown_clauses) (sym c.in-Some.is) ∙ c.in_ok-found.ensures))
