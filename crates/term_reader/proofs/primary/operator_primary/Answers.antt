use Rattle.term_reader.proofs.FollowingTokenLemmas.{reached-here}
use Rattle.term_reader.proofs.primary.operator_primary.Goals as goal

pub returns-in_default-clause-place : goal.returns-in_default-clause-place
returns-in_default-clause-place c = reached-here c.args.source.text.now c.args.end c.requires.place

pub returns-then-branch-clause-place : goal.returns-then-branch-clause-place
returns-then-branch-clause-place c = reached-here c.args.source.text.now c.args.end c.requires.place

pub returns-else-branch-clause-place : goal.returns-else-branch-clause-place
returns-else-branch-clause-place c = reached-here c.args.source.text.now c.args.end c.requires.place
