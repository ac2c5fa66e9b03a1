use Rattle.region_capture.proofs.SeenLemmas.{sees_twice}
use Rattle.region_capture.proofs.levels.reach_kind.Goals as goal

pub returns-in_ok-reach_term-in-Catch-2-clause-more : goal.returns-in_ok-reach_term-in-Catch-2-clause-more
returns-in_ok-reach_term-in-Catch-2-clause-more c =
    sees_twice c.args.store.now c.args.first c.args.needed.now c.reach_term.new.needed c.reach_term-in-Catch.new.needed c.in_ok-reach_term-in-Catch.ensures.more c.in_ok-reach_term-in-Catch-2.ensures.more
