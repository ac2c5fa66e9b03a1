use Rattle.public_tree.proofs.FollowingLemmas.{known_follow, several_follow, events_follow, nothing_follows, opening_follows}
use Rattle.public_tree.proofs.laws.histories_stay_legal.Goals as goal

pub returns-clause-opening : goal.returns-clause-opening
returns-clause-opening c = opening_follows

pub returns-clause-event : goal.returns-clause-event
returns-clause-event c = events_follow

pub returns-clause-known : goal.returns-clause-known
returns-clause-known c = known_follow

pub returns-clause-nothing : goal.returns-clause-nothing
returns-clause-nothing c = nothing_follows

pub returns-clause-several : goal.returns-clause-several
returns-clause-several c = several_follow
