use Rattle.std.proofs.Common.{arith}
use Rattle.std.proofs.lemmas.Grind.{common_steps}
use Rattle.tree_nodes.proofs.ReverseLemmas.{take-reverse_more}
use Rattle.tree_nodes.proofs.gather.share_backwards.Goals as goal

pub loop-i-preserved : goal.loop-i-preserved
loop-i-preserved c = grind (arith, common_steps, take-reverse_more)
