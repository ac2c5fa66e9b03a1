use Rattle.task_publishing.proofs.BodyLemmas.{floor_there, is_off}
use Rattle.task_publishing.proofs.task_bodies.take_off.Goals as goal

pub capture-requires-clause-floor : goal.capture-requires-clause-floor
capture-requires-clause-floor c =
    let i = c.into_region-region.ensures in
    let e = c.ends_are_oldest.ensures in
    floor_there c.args.task c.into_region-region.result.0 c.into_region-region.result.1 c.into_region-region.result.2
    c.own_entries_are_taken.ensures.floor c.requires.own i.region i.floor i.next e.ends e.floor e.marks

pub returns : goal.returns
returns c =
    let i = c.into_region-region.ensures in
    let e = c.ends_are_oldest.ensures in
    is_off c.args.task c.into_region-region.result.0 c.into_region-region.result.1 c.into_region-region.result.2
    c.own_entries_are_taken.ensures.floor c.requires.own i.region i.floor i.next e.ends e.floor e.marks c.capture.new.region c.in_ok-captured.captured
    c.in_ok-captured.ensures c.ends_are_oldest-2.ensures.floor
