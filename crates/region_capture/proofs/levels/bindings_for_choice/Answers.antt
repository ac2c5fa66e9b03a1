use Rattle.region_capture.proofs.LevelLemmas.{level_kept}
use Rattle.region_capture.proofs.ReachLemmas.{alternatives_still, kind_still}
use Rattle.region_capture.proofs.SeenLemmas.{below_twice, sees_twice}
use Rattle.region_capture.proofs.levels.bindings_for_choice.Goals as goal

pub returns-clause-keeps : goal.returns-clause-keeps
returns-clause-keeps c =
    let st = c.args.store.now in
    let first = c.next_at-first.result in
    let opened = c.in_ok-needed.needed in
    let kind = c.reach_kind.new.needed in
    let mid = c.reach_alternatives.new.needed in
    let n = c.reach_values.new.needed in
    level_kept st c.args.mark first c.args.seen opened n c.in_ok-needed.ensures
    (sees_twice st first opened mid n (sees_twice st first opened kind mid c.in_ok-reach_kind.ensures.more c.in_ok-reach_alternatives.ensures.more) c.in_ok-reach_values.ensures.more) c.next_at-first.ensures c.in_ok-reach_values.ensures.reached

pub returns-clause-kind : goal.returns-clause-kind
returns-clause-kind c =
    let next = c.args.store.now.now.next in
    kind_still next c.reach_kind.new.needed.seen c.reach_values.new.needed.seen c.args.kind.now
    (below_twice next c.reach_kind.new.needed.seen c.reach_alternatives.new.needed.seen c.reach_values.new.needed.seen c.in_ok-reach_alternatives.ensures.more.below c.in_ok-reach_values.ensures.more.below).kept c.in_ok-reach_kind.ensures.reached

pub returns-clause-alternatives : goal.returns-clause-alternatives
returns-clause-alternatives c =
    alternatives_still c.args.store.now.now.next c.reach_alternatives.new.needed.seen c.reach_values.new.needed.seen c.args.items.now c.args.alternatives.now c.in_ok-reach_values.ensures.more.below.kept c.in_ok-reach_alternatives.ensures.reached
