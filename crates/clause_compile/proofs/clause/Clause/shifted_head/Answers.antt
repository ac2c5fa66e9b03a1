use Rattle.std.proofs.Common.{◌∙◌, arith}
use Rattle.clause_compile.proofs.CompiledClauseLemmas.{head_is, part_place, part_shifted}
use Rattle.clause_compile.proofs.clause.Clause.shifted_head.Goals as goal

pub new-requires : goal.new-requires
new-requires c = part_place _ c.args.self.now.head c.args.base _ (c.in_ok-clone.ensures.cases ∙ head_is _ _ c.self.view_is) c.requires (omega arith)

pub returns : goal.returns
returns c = part_shifted _ _ c.args.self.now.head c.args.base c.new.ensures (c.in_ok-clone.ensures.cases ∙ head_is _ _ c.self.view_is)
