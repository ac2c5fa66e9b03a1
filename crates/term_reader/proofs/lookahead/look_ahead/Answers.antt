use Rattle.term_reader.proofs.lookahead.look_ahead.Goals as goal

pub returns-clause-follow : goal.returns-clause-follow
returns-clause-follow c = c.following-follow.ensures c.args.at c.token_ahead-ahead.ensures
