use Rattle.term_reader.proofs.FollowingTokenLemmas.{reached-here}
use Rattle.term_reader.proofs.primary.primary_of.Goals as goal

pub returns-in-Variable-clause-place : goal.returns-in-Variable-clause-place
returns-in-Variable-clause-place c = reached-here c.args.source.text.now c.args.end c.requires

pub returns-else-number-ge-WIDEST-clause-place : goal.returns-else-number-ge-WIDEST-clause-place
returns-else-number-ge-WIDEST-clause-place c = reached-here c.args.source.text.now c.args.end c.requires

pub returns-in-Text-clause-place : goal.returns-in-Text-clause-place
returns-in-Text-clause-place c = reached-here c.args.source.text.now c.args.end c.requires

pub returns-in-Open-clause-place : goal.returns-in-Open-clause-place
returns-in-Open-clause-place c = reached-here c.args.source.text.now c.args.end c.requires
