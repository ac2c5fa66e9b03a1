use Rattle.region_builtins.proofs.UndoneLemmas.{still_there, apart_seen, undone}
use Rattle.region_builtins.proofs.goal.are_apart.Goals as goal

pub unify-requires-clause-left : goal.unify-requires-clause-left
unify-requires-clause-left c = still_there _ _ _ _ c.in_ok-push_choice.ensures.ok c.args.left c.requires.left

pub unify-requires-clause-right : goal.unify-requires-clause-right
unify-requires-clause-right c = still_there _ _ _ _ c.in_ok-push_choice.ensures.ok c.args.right c.requires.right

pub returns-clause-apart : goal.returns-clause-apart
returns-clause-apart c = apart_seen _ _ _ _ c.in_ok-push_choice.ensures.ok c.args.left c.args.right c.unify.new.self.store c.in_ok-unified.unified c.in_ok-unified.ensures.unified

pub returns-clause-same : goal.returns-clause-same
returns-clause-same c = undone _ _ _ _ c.in_ok-push_choice.ensures.ok c.unify.new.self c.take_newest.new.self c.take_newest.result c.in_ok-unified.ensures.stays c.in_ok-unified.ensures.kept c.take_newest.ensures
