use Rattle.region_capture.proofs.LevelLemmas.{level_kept}
use Rattle.region_capture.proofs.ReachLemmas.{reaches_still}
use Rattle.region_capture.proofs.SeenLemmas.{sees_twice}
use Rattle.region_capture.proofs.levels.bindings_for_items.Goals as goal

pub returns-clause-keeps : goal.returns-clause-keeps
returns-clause-keeps c =
    let st = c.args.store.now in
    let first = c.next_at-first.result in
    let opened = c.in_ok-needed.needed in
    let mid = c.reach_items.new.needed in
    let n = c.reach_values.new.needed in
    level_kept st c.args.mark first c.args.seen opened n c.in_ok-needed.ensures (sees_twice st first opened mid n c.in_ok-reach_items.ensures.more c.in_ok-reach_values.ensures.more) c.next_at-first.ensures c.in_ok-reach_values.ensures.reached

pub returns-clause-reached : goal.returns-clause-reached
returns-clause-reached c = reaches_still c.args.store.now.now.next c.reach_items.new.needed.seen c.reach_values.new.needed.seen c.args.items.now c.args.number c.in_ok-reach_values.ensures.more.below.kept c.in_ok-reach_items.ensures.reached
