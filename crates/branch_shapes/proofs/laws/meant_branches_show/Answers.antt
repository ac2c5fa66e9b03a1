use Rattle.branch_shapes.proofs.MeantBodyLemmas.{meant_bodies_show}
use Rattle.branch_shapes.proofs.MeantBranchLemmas.{meant_branches_show, meant_entries_are_whole}
use Rattle.branch_shapes.proofs.laws.meant_branches_show.Goals as goal

pub returns : goal.returns
returns c = record { show = meant_branches_show; whole = meant_entries_are_whole; bodies = meant_bodies_show }
