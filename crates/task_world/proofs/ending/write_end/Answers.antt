use Rattle.task_world.proofs.ending.write_end.Goals as goal

pub returns-clause-written : goal.returns-clause-written
returns-clause-written c = (c.in_ok-apply.ensures.applied 0).0
