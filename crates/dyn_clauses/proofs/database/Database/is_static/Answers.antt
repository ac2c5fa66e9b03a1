use Rattle.std.proofs.Common.{◌∙◌, ap}
use Rattle.dyn_clauses.specs.DatabaseView.{KnownDatabase, is_static}
use Rattle.dyn_clauses.proofs.EntriesLemmas.{static_is}
use Rattle.dyn_clauses.proofs.database.Database.is_static.Goals as goal

pub returns : goal.returns
returns c = c.contains.ensures ∙ (static_is c.args.procedure.now c.self.inside.statics.keys ∙ ap (λ (d : KnownDatabase). is_static d.statics c.args.procedure.now) c.self.view_is)
