use Rattle.task_publishing.proofs.TakenLemmas.{own_entries_taken, own_over_floor}
use Rattle.task_publishing.proofs.laws.own_entries_are_taken.Goals as goal

pub returns : goal.returns
returns c =
    let tops = c.tops_are_own.ensures.top in
    let ends = c.ends_are_the_floor.ensures in
    record {
      taken = own_entries_taken c.deferred_items_are_left.ensures.now tops ends c.floor_items_stay.ensures.stay;
      floor = own_over_floor tops ends;
    }
