use Rattle.std.proofs.Common.{◌∙◌, arith}
use Rattle.clause_compile.proofs.CompiledClauseLemmas.{body_is, part_place, part_shifted}
use Rattle.clause_compile.proofs.clause.Clause.shifted_body.Goals as goal

pub new-requires : goal.new-requires
new-requires c = part_place _ c.args.self.now.body c.args.base _ (c.in_ok-clone.ensures.cases ∙ body_is _ _ c.self.view_is) c.requires (omega arith)

pub returns : goal.returns
returns c = part_shifted _ _ c.args.self.now.body c.args.base c.new.ensures (c.in_ok-clone.ensures.cases ∙ body_is _ _ c.self.view_is)
